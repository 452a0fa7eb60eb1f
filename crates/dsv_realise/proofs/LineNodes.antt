-- The nodes of any line give the line's value and its exact values.
use Rattle.std.proofs.Common.{◌≡◌, ℕ, suc, ◌+◌, ◌<◌, ◌≤◌, Bool, false, List, [], ◌∷◌, ◌++◌, length, map, refl, sym, ap, subst, ◌∙◌, arith, add-zero}
use Rattle.std.proofs.Math.IntN.{ℤ, ◌+ℤ◌}
use Rattle.dsv_word.specs.declared.format.Format.{Format}
use Rattle.dsv_netlist.specs.declared.node.Node.{Node}
use Rattle.dsv_netlist.specs.Nodes.{at}
use Rattle.dsv_meaning.specs.declared.summands.Summand.{Summand}
use Rattle.dsv_meaning.specs.declared.summands.Summand.TheVariants.{Times, Alone}
use Rattle.dsv_meaning.specs.Lines.{summands, Sum, fitted_value, product, joined_value, first_summand, next_summand, next_summands, narrow_line}
use Rattle.dsv_realise.specs.Making.{Made, with_product, with_sum, with_first, with_next, with_summands, with_narrow_line}
use Rattle.dsv_realise.proofs.Samples.{IsAt, Gives, Keeps, keeps_self, keeps_both, product_gives, sum_gives}

-- the summand with the words in place of the nodes
abbrev pub in_words : List ℤ → Summand ℕ → Summand ℤ
in_words vs (Times away c i) = Times away c (at vs i)
in_words vs (Alone i) = Alone (at vs i)

abbrev pub IsOver : ℕ → Summand ℕ → Type 0
IsOver n (Times away c i) = i < n
IsOver n (Alone i) = i < n

abbrev pub AreOver : ℕ → List (Summand ℕ) → Type 0
AreOver n [] = Unit {0}
AreOver n (t ∷ ts) = IsOver n t × AreOver n ts

pub after : (f : Format) (rs : List ℤ) (x : ℤ) (us vs : List ℤ) (m : Made) (s : Sum) → Keeps us vs → Gives f rs x vs m s → Gives f rs x us m s
after f rs x us vs m s k g = record { now = g.now; stands = g.stands; keeps = keeps_both us vs g.now k g.keeps; within = g.within; value = g.value }

first_gives : (f : Format) (rs : List ℤ) (x : ℤ) (ns : List Node) (vs es : List ℤ) (t : Summand ℕ) → IsAt f rs x ns vs es → IsOver (length vs) t → Gives f rs x vs (with_first ns t) (first_summand f es (in_words vs t))
first_gives f rs x ns vs es (Times away c i) h o = product_gives f rs x ns vs es c i (at vs i) h refl
first_gives f rs x ns vs es (Alone i) h o = record { now = vs; stands = h; keeps = keeps_self vs; within = o; value = refl }

next_gives : (f : Format) (rs : List ℤ) (x : ℤ) (vs : List ℤ) (m : Made) (s : Sum) (t : Summand ℕ) → Gives f rs x vs m s → IsOver (length vs) t → Gives f rs x vs (with_next m t) (next_summand f s (in_words vs t))
next_gives f rs x vs m s (Times away c i) g o =
    let p = with_product m.nodes c i in
    let q : Gives f rs x g.now p (product f s.exact c (at vs i)) = product_gives f rs x m.nodes g.now s.exact c i (at vs i) g.stands (g.keeps.old i o) in
    let e : at q.now m.place ≡ s.value = q.keeps.old m.place g.within ∙ g.value in
    let r = sum_gives f rs x p.nodes q.now away m.place p.place s.value (product f s.exact c (at vs i)) q.stands e q.value in
    after f rs x vs q.now (with_sum away p.nodes m.place p.place) (joined_value f away s.value (product f s.exact c (at vs i))) (keeps_both vs g.now q.now g.keeps q.keeps) r
next_gives f rs x vs m s (Alone i) g o =
    let r = sum_gives f rs x m.nodes g.now false m.place i s.value (record { value = at vs i; exact = s.exact }) g.stands g.value (g.keeps.old i o) in
    after f rs x vs g.now (with_sum false m.nodes m.place i) (fitted_value f s.exact (s.value +ℤ at vs i)) g.keeps r

summands_give : (f : Format) (rs : List ℤ) (x : ℤ) (vs : List ℤ) (m : Made) (s : Sum) (ts : List (Summand ℕ)) → Gives f rs x vs m s → AreOver (length vs) ts → Gives f rs x vs (with_summands m ts) (next_summands f s (map (in_words vs) ts))
summands_give f rs x vs m s [] g o = g
summands_give f rs x vs m s (t ∷ ts) g o = summands_give f rs x vs (with_next m t) (next_summand f s (in_words vs t)) ts (next_gives f rs x vs m s t g o.0) o.1

-- the nodes of a line that is summed in words give the line over the words
pub narrow_gives : (f : Format) (rs : List ℤ) (x : ℤ) (ns : List Node) (vs es : List ℤ) (ts : List (Summand ℕ)) → 0 < length ts → IsAt f rs x ns vs es → AreOver (length vs) ts → Gives f rs x vs (with_narrow_line ns ts) (narrow_line f es (map (in_words vs) ts))
narrow_gives f rs x ns vs es [] l h o = absurd (omega arith)
narrow_gives f rs x ns vs es (t ∷ ts) l h o = summands_give f rs x vs (with_first ns t) (first_summand f es (in_words vs t)) ts (first_gives f rs x ns vs es t h o.0) o.1

pub in_words-summands : (vs : List ℤ) (away : Bool) (cs : List ℤ) (g : ℕ → ℕ) (k : ℕ) → map (in_words vs) (summands away cs g k) ≡ summands away cs (λ i. at vs (g i)) k
in_words-summands vs away [] g k = refl
in_words-summands vs away (c ∷ cs) g k = ap (λ ts. Times away c (at vs (g k)) ∷ ts) (in_words-summands vs away cs g (k + 1))

pub same_summands : {A : Type 0} → (away : Bool) (cs : List ℤ) (g h : ℕ → A) (j k : ℕ) → ((i : ℕ) → i < length cs → g (j + i) ≡ h (k + i)) → summands away cs g j ≡ summands away cs h k
same_summands away [] g h j k e = refl
same_summands away (c ∷ cs) g h j k e =
    let e0 : g j ≡ h k = ap g (sym (add-zero j)) ∙ e 0 (omega arith) ∙ ap h (add-zero k) in
    let es : summands away cs g (j + 1) ≡ summands away cs h (k + 1) = same_summands away cs g h (j + 1) (k + 1) (λ i l. let p : j + 1 + i ≡ j + (i + 1) = omega arith in let q : k + (i + 1) ≡ k + 1 + i = omega arith in ap g p ∙ e (i + 1) (omega arith) ∙ ap h q) in
    ap (λ w. Times away c w ∷ summands away cs g (j + 1)) e0 ∙ ap (λ ts. Times away c (h k) ∷ ts) es

pub over_summands : (n : ℕ) (away : Bool) (cs : List ℤ) (k : ℕ) → k + length cs ≤ n → AreOver n (summands away cs (λ i. i) k)
over_summands n away [] k h = tt
over_summands n away (c ∷ cs) k h = (omega arith, over_summands n away cs (k + 1) (omega arith))

pub over_both : (n : ℕ) (ts us : List (Summand ℕ)) → AreOver n ts → AreOver n us → AreOver n (ts ++ us)
over_both n [] us a b = b
over_both n (t ∷ ts) us a b = (a.0, over_both n ts us a.1 b)

pub length-summands : {A : Type 0} → (away : Bool) (cs : List ℤ) (g : ℕ → A) (k : ℕ) → length (summands away cs g k) ≡ length cs
length-summands away [] g k = refl
length-summands away (c ∷ cs) g k = ap suc (length-summands away cs g (k + 1))

pub over_any_summands : (n : ℕ) (away : Bool) (cs : List ℤ) (g : ℕ → ℕ) (k : ℕ) → ((i : ℕ) → i < length cs → g (k + i) < n) → AreOver n (summands away cs g k)
over_any_summands n away [] g k h = tt
over_any_summands n away (c ∷ cs) g k h =
    let p : k + 0 ≡ k = add-zero k in
    (subst (λ (j : ℕ). g j < n) p (h 0 (omega arith)), over_any_summands n away cs g (k + 1) (λ i l. let r : k + (i + 1) ≡ k + 1 + i = omega arith in subst (λ (j : ℕ). g j < n) r (h (i + 1) (omega arith))))
