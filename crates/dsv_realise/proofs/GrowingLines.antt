-- Lines of words by small coefficients that are summed in words are nodes of a netlist.
use Rattle.std.proofs.Common.{◌≡◌, ℕ, ◌+◌, ◌<◌, Bool, true, false, List, [], ◌∷◌, ◌++◌, length, refl, subst, arith, add-zero}
use Rattle.std.specs.List.{All}
use Rattle.std.proofs.Math.IntN.{ℤ}
use Rattle.std.proofs.lemmas.List.Elements.{All-head, All-tail}
use Rattle.dsv_word.specs.declared.format.Format.{Format}
use Rattle.dsv_netlist.specs.declared.node.Node.{Node}
use Rattle.dsv_netlist.specs.Conditions.{names_word}
use Rattle.dsv_meaning.specs.declared.summands.Summand.{Summand}
use Rattle.dsv_meaning.specs.declared.summands.Summand.TheVariants.{Times, Alone}
use Rattle.dsv_meaning.specs.Lines.{summands}
use Rattle.dsv_meaning.specs.Equations.{first_alone}
use Rattle.dsv_realise.specs.Making.{Made, with_product, with_sum, with_first, with_next, with_summands, with_narrow_line}
use Rattle.dsv_realise.proofs.Growing.{AreSound, HasCounts, IsSmall, Grown, product_grows, sum_grows}

-- a summand of a word among these nodes, by a small coefficient
abbrev pub IsFit : List Node → Summand ℕ → Type 0
IsFit ns (Times away c i) = IsSmall c × (names_word ns i ≡ true)
IsFit ns (Alone i) = names_word ns i ≡ true

abbrev pub AreFit : List Node → List (Summand ℕ) → Type 0
AreFit ns [] = Unit {0}
AreFit ns (t ∷ ts) = IsFit ns t × AreFit ns ts

-- how many products the summands have
abbrev pub products_in : List (Summand ℕ) → ℕ
products_in [] = 0
products_in (Times away c i ∷ ts) = 1 + products_in ts
products_in (Alone i ∷ ts) = products_in ts

-- ---- lines
first_grows : (f : Format) (r : ℕ) (ns : List Node) (p s : ℕ) (t : Summand ℕ) → AreSound f r ns → HasCounts r ns p s → IsFit ns t → Grown f r ns (with_first ns t) (p + products_in (t ∷ [])) s
first_grows f r ns p s (Times away c i) h u k = product_grows f r ns p s c i h u k.0 k.1
first_grows f r ns p s (Alone i) h u k = let e : p ≡ p + 0 = omega arith in record { sound = h; counts = subst (λ (j : ℕ). HasCounts r ns j s) e u; keeps = λ j g. g; place = k }

next_grows : (f : Format) (r : ℕ) (old : List Node) (m : Made) (p s : ℕ) (t : Summand ℕ) → Grown f r old m p s → IsFit old t → Grown f r old (with_next m t) (p + products_in (t ∷ [])) (s + 1)
next_grows f r old m p s (Times away c i) g k =
    let u = with_product m.nodes c i in
    let a = product_grows f r m.nodes p s c i g.sound g.counts k.0 (g.keeps i k.1) in
    let b = sum_grows f r u.nodes (p + 1) s away m.place u.place a.sound a.counts (a.keeps m.place g.place) a.place in
    record { sound = b.sound; counts = b.counts; keeps = λ j e. b.keeps j (a.keeps j (g.keeps j e)); place = b.place }
next_grows f r old m p s (Alone i) g k =
    let b = sum_grows f r m.nodes p s false m.place i g.sound g.counts g.place (g.keeps i k) in
    let e : p ≡ p + 0 = omega arith in
    record { sound = b.sound; counts = subst (λ (j : ℕ). HasCounts r (with_sum false m.nodes m.place i).nodes j (s + 1)) e b.counts; keeps = λ j e. b.keeps j (g.keeps j e); place = b.place }

-- counts that are the same numbers
pub recounted : (f : Format) (r : ℕ) (old : List Node) (m : Made) (p s p2 s2 : ℕ) → p ≡ p2 → s ≡ s2 → Grown f r old m p s → Grown f r old m p2 s2
recounted f r old m p s p2 s2 e d g = subst (λ (j : ℕ). Grown f r old m j s2) e (subst (λ (j : ℕ). Grown f r old m p j) d g)

pub products_in-cons : (t : Summand ℕ) (ts : List (Summand ℕ)) → products_in (t ∷ ts) ≡ products_in (t ∷ []) + products_in ts
products_in-cons (Times away c i) ts = refl
products_in-cons (Alone i) ts = omega arith

summands_grow : (f : Format) (r : ℕ) (old : List Node) (m : Made) (p s : ℕ) (ts : List (Summand ℕ)) → Grown f r old m p s → AreFit old ts → Grown f r old (with_summands m ts) (p + products_in ts) (s + length ts)
summands_grow f r old m p s [] g k = recounted f r old m p s (p + 0) (s + 0) (omega arith) (omega arith) g
summands_grow f r old m p s (t ∷ ts) g k =
    let one = products_in (t ∷ []) in
    recounted f r old (with_summands (with_next m t) ts) (p + one + products_in ts) (s + 1 + length ts) (p + products_in (t ∷ ts)) (s + length (t ∷ ts)) (omega (arith, products_in-cons t ts)) (omega arith)
    (summands_grow f r old (with_next m t) (p + one) (s + 1) ts (next_grows f r old m p s t g k.0) k.1)

pub narrow_grows : (f : Format) (r : ℕ) (ns : List Node) (p s p2 s2 : ℕ) (ts : List (Summand ℕ)) → AreSound f r ns → HasCounts r ns p s → AreFit ns ts → p + products_in ts ≡ p2 → s + length ts ≡ s2 + 1 → 0 < length ts
    → Grown f r ns (with_narrow_line ns ts) p2 s2
narrow_grows f r ns p s p2 s2 [] h u k e d l = absurd (omega arith)
narrow_grows f r ns p s p2 s2 (t ∷ ts) h u k e d l =
    let one = products_in (t ∷ []) in
    recounted f r ns (with_summands (with_first ns t) ts) (p + one + products_in ts) (s + length ts) p2 s2 (omega (arith, products_in-cons t ts)) (omega arith)
    (summands_grow f r ns (with_first ns t) (p + one) s ts (first_grows f r ns p s t h u k.0) k.1)

-- ---- summands
pub summands_fit : (ns : List Node) (away : Bool) (cs : List ℤ) (g : ℕ → ℕ) (k : ℕ) → All IsSmall cs → ((i : ℕ) → i < length cs → names_word ns (g (k + i)) ≡ true) → AreFit ns (summands away cs g k)
summands_fit ns away [] g k small h = tt
summands_fit ns away (c ∷ cs) g k small h =
    let z : k + 0 ≡ k = add-zero k in (
      (All-head IsSmall c cs small, subst (λ (j : ℕ). names_word ns (g j) ≡ true) z (h 0 (omega arith))),
      summands_fit ns away cs g (k + 1) (All-tail IsSmall c cs small) (λ i l. let e : k + (i + 1) ≡ k + 1 + i = omega arith in subst (λ (j : ℕ). names_word ns (g j) ≡ true) e (h (i + 1) (omega arith))),
    )

pub fit_both : (ns : List Node) (ts us : List (Summand ℕ)) → AreFit ns ts → AreFit ns us → AreFit ns (ts ++ us)
fit_both ns [] us a b = b
fit_both ns (t ∷ ts) us a b = (a.0, fit_both ns ts us a.1 b)

pub products_in-summands : (away : Bool) (cs : List ℤ) (g : ℕ → ℕ) (k : ℕ) → products_in (summands away cs g k) ≡ length cs
products_in-summands away [] g k = refl
products_in-summands away (c ∷ cs) g k = omega (arith, products_in-summands away cs g (k + 1))

pub products_in-append : (ts us : List (Summand ℕ)) → products_in (ts ++ us) ≡ products_in ts + products_in us
products_in-append [] us = omega arith
products_in-append (Times away c i ∷ ts) us = omega (arith, products_in-append ts us)
products_in-append (Alone i ∷ ts) us = products_in-append ts us

pub products_in-alone : (ks : List ℕ) → products_in (first_alone ks) ≡ 0
products_in-alone [] = refl
products_in-alone (k ∷ ks) = refl

-- ---- numbers of words
abbrev pub AllNamed : List Node → List ℕ → Type 0
AllNamed ns [] = Unit {0}
AllNamed ns (k ∷ ks) = (names_word ns k ≡ true) × AllNamed ns ks

pub named_later : (ns ms : List Node) (ks : List ℕ) → ((k : ℕ) → names_word ns k ≡ true → names_word ms k ≡ true) → AllNamed ns ks → AllNamed ms ks
named_later ns ms [] e h = tt
named_later ns ms (k ∷ ks) e h = (e k h.0, named_later ns ms ks e h.1)

pub named_push : (ns : List Node) (ks : List ℕ) (k : ℕ) → AllNamed ns ks → names_word ns k ≡ true → AllNamed ns (ks ++ k ∷ [])
named_push ns [] k h e = (e, tt)
named_push ns (j ∷ js) k h e = (h.0, named_push ns js k h.1 e)

pub named_both : (ns : List Node) (ks js : List ℕ) → AllNamed ns ks → AllNamed ns js → AllNamed ns (ks ++ js)
named_both ns [] js h g = g
named_both ns (k ∷ ks) js h g = (h.0, named_both ns ks js h.1 g)

pub alone_fit : (ns : List Node) (ks : List ℕ) → AllNamed ns ks → AreFit ns (first_alone ks)
alone_fit ns [] h = tt
alone_fit ns (k ∷ ks) h = (h.0, tt)
