-- What the terms of a cycle add, and what they say.
use Rattle.std.proofs.Common.{◌≡◌, ℕ, suc, ◌+◌, ◌<◌, ◌≤◌, Bool, true, false, not, ◌&&◌, ◌||◌, List, [], ◌∷◌, refl, arith, ap, sym, ◌∙◌, length, drop}
use Rattle.std.specs.Prelude.{max}
use Rattle.std.specs.Ordering.{int_eq}
use Rattle.std.proofs.Math.IntN.{ℤ, pos}
use Rattle.std.proofs.Math.Nat.{le-max_left, le-max_right}
use Rattle.std.proofs.lemmas.Bool.Decides.{Decides-int_eq}
use Rattle.std.proofs.lemmas.List.{drop_more}
use Rattle.dsv_netlist.specs.Nodes.{at}
use Rattle.dsv_term.specs.declared.node.TermId.{TermId}
use Rattle.dsv_term.specs.declared.node.TermNode.TheVariants.{Eq, And, Or, Not}
use Rattle.dsv_term.specs.declared.word.Word.{Word}
use Rattle.dsv_term.specs.Building.{Built, built_of, with_node}
use Rattle.dsv_term.specs.Growth.{AreSound, Adds}
use Rattle.dsv_term.specs.Terms.{KeepsTerms, width_of, word_of, HasBits}
use Rattle.dsv_term.specs.TermsView.{TermsView}
use Rattle.dsv_term.specs.Word.{bit_of, same_of, and_of, or_of, complement_of}
use Rattle.dsv_term.proofs.Made.{KeepsTerms-both}
use Rattle.dsv_term.proofs.Building.{Adds-both, Adds-built, KeepsTerms-self, later, stands-width, same_gives, and_gives, or_gives, complement_gives}
use Rattle.dsv_term.proofs.Complement.{IsSpelled, spelled, same-spelled, apart-spelled, or-bits, and-bits, complement-bit}
use Rattle.dsv_unroll.specs.CycleGoals.{same_term, returned_from, sounding_term}
use Rattle.dsv_unroll.specs.Ready.{IsValue, AreAllValues}
use Rattle.dsv_unroll.specs.Rules.{widened_term, term_at}
use Rattle.dsv_unroll.proofs.RuleTerms.{both_widened, max_narrow, value_later}
use Rattle.dsv_unroll.proofs.Follows.{Means, means_later}

-- ---- whether two numbers are one
pub equal_true : (a b : ℤ) → a ≡ b → int_eq a b ≡ true
equal_true a b e = (Decides-int_eq a b).1 e

pub equal_from : (a b : ℤ) → int_eq a b ≡ true → a ≡ b
equal_from a b e = (Decides-int_eq a b).0 e

pub record Compares (t : TermsView) (left right : TermId) (b : Built) : Type 0 where
  pub adds : Adds t b.terms b.id 1
  pub word : (values : List ℕ) (y z : ℤ) → Means t values left y → Means t values right z → word_of b.terms values b.id ≡ bit_of (int_eq y z)

same_by : (w : ℕ) (y z : ℤ) (q : Bool) → int_eq y z ≡ q → 1 ≤ w → IsSpelled w y → IsSpelled w z → same_of (spelled w y) (spelled w z) ≡ bit_of q
same_by w y z true e p h k = same-spelled w y z (equal_from y z e)
same_by w y z false e p h k = apart-spelled w y z p h k (λ s. let g = equal_true y z s in absurd (let c : true ≡ false = sym g ∙ e in cc))

pub compared : (t : TermsView) (left right : TermId) → AreSound t → IsValue t left → IsValue t right → Compares t left right (same_term t left right)
compared t left right s v u =
    let bits = max (width_of t left) (width_of t right) in
    let a = widened_term t left bits in
    let b = widened_term a.terms right bits in
    let m = both_widened t left right bits s v u (le-max_left (width_of t left) (width_of t right)) (le-max_right (width_of t left) (width_of t right)) (let n = max_narrow (width_of t left) (width_of t right) 127 v.narrow u.narrow in omega arith) in
    let g = same_gives b.terms a.id b.id m.right_adds.sound m.left_adds.stands m.right_adds.stands (m.left_adds.width ∙ sym m.right_adds.width) in
    let c = with_node b.terms (Eq a.id b.id) in
    let some : 1 ≤ bits = (let w = stands-width t left s v.stands in let l = le-max_left (width_of t left) (width_of t right) in omega (arith, w.some)) in
    record {
      adds = Adds-both t b.terms c.terms b.id c.id bits 1 m.right_adds g.adds;
      word = λ values y z p q.
          let l = m.left_spells values y p.spells in
          let r = m.right_spells values z q.spells in
          g.word values ∙ (ap (λ (i : Word). same_of i (word_of b.terms values b.id)) l.word ∙ (ap (same_of (spelled bits y)) r.word ∙ same_by bits y z (int_eq y z) refl some l.fits r.fits));
    }

-- ---- whether an output isn't 0
pub record Sounds (t : TermsView) (output zero_bit sounding : TermId) (b : Built) : Type 0 where
  pub adds : Adds t b.terms b.id 1
  pub word : (values : List ℕ) (y : ℤ) (q : Bool) → Means t values output y → Means t values zero_bit (pos 0) → word_of t values sounding ≡ bit_of q → word_of b.terms values b.id ≡ bit_of (q || not (int_eq y (pos 0)))

pub sounded : (t : TermsView) (output zero_bit sounding : TermId) → AreSound t → IsValue t output → IsValue t zero_bit → HasBits t sounding 1 → Sounds t output zero_bit sounding (sounding_term t output zero_bit sounding)
sounded t output zero_bit sounding s v u h =
    let a = same_term t output zero_bit in
    let c = compared t output zero_bit s v u in
    let b = with_node a.terms (Not a.id) in
    let gb = complement_gives a.terms a.id c.adds.sound c.adds.stands in
    let k = KeepsTerms-both t a.terms b.terms c.adds.kept gb.adds.kept in
    let l = later t b.terms sounding k h.stands in
    let d = with_node b.terms (Or sounding b.id) in
    let gd = or_gives b.terms sounding b.id gb.adds.sound l.stands gb.adds.stands (l.width ∙ (h.width ∙ sym (gb.adds.width ∙ c.adds.width))) in
    record {
      adds = record { sound = gd.adds.sound; inputs = gd.adds.inputs ∙ (gb.adds.inputs ∙ c.adds.inputs); kept = KeepsTerms-both t b.terms d.terms k gd.adds.kept; stands = gd.adds.stands; width = gd.adds.width ∙ (l.width ∙ h.width) };
      word = λ values y q p n w.
          let e = int_eq y (pos 0) in
          let o : word_of b.terms values b.id ≡ bit_of (not e) = gb.word values ∙ (ap complement_of (c.word values y (pos 0) p n) ∙ complement-bit e) in
          gd.word values ∙ (ap (λ (i : Word). or_of i (word_of b.terms values b.id)) (l.word values ∙ w) ∙ (ap (or_of (bit_of q)) o ∙ or-bits q (not e)));
    }

-- ---- whether the registers hold the start
abbrev pub matches : Bool → List ℤ → List ℤ → Bool
matches b [] ss = b
matches b (r ∷ rs) [] = b
matches b (r ∷ rs) (s ∷ ss) = matches (b && int_eq r s) rs ss

pub all_later : (t u : TermsView) (ids : List TermId) → KeepsTerms t u → AreAllValues t ids → AreAllValues u ids
all_later t u ids k h = record { stand = λ i p. value_later t u (term_at ids i) k (h.stand i p) }

-- terms that spell these numbers
pub record AllMean (t : TermsView) (values : List ℕ) (ids : List TermId) (zs : List ℤ) : Type 0 where
  pub count : length ids ≡ length zs
  pub each : (i : ℕ) → i < length ids → Means t values (term_at ids i) (at zs i)

pub mean_later : (t u : TermsView) (values : List ℕ) (ids : List TermId) (zs : List ℤ) → KeepsTerms t u → AreAllValues t ids → AllMean t values ids zs → AllMean u values ids zs
mean_later t u values ids zs k h m = record { count = m.count; each = λ i p. means_later t u values (term_at ids i) (at zs i) k (h.stand i p).stands (m.each i p) }

pub tail_values : (t : TermsView) (id : TermId) (ids : List TermId) → AreAllValues t (id ∷ ids) → AreAllValues t ids
tail_values t id ids h = record { stand = λ i p. h.stand (suc i) (omega arith) }

pub tail_mean : (t : TermsView) (values : List ℕ) (id : TermId) (ids : List TermId) (z : ℤ) (zs : List ℤ) → AllMean t values (id ∷ ids) (z ∷ zs) → AllMean t values ids zs
tail_mean t values id ids z zs h = record { count = let c = h.count in omega arith; each = λ i p. h.each (suc i) (omega arith) }

pub record Returned (t : TermsView) (b : Built) (u : Built) : Type 0 where
  pub sound : AreSound u.terms
  pub inputs : u.terms.inputs ≡ t.inputs
  pub kept : KeepsTerms t u.terms
  pub bit : HasBits u.terms u.id 1

pub returned_adds : (t : TermsView) (id : TermId) (registers starts : List TermId) → AreSound t → HasBits t id 1 → AreAllValues t registers → AreAllValues t starts → Returned t (built_of t id) (returned_from (built_of t id) registers starts)
returned_adds t id [] starts s h r q = record { sound = s; inputs = refl; kept = KeepsTerms-self t; bit = h }
returned_adds t id (i ∷ is) [] s h r q = record { sound = s; inputs = refl; kept = KeepsTerms-self t; bit = h }
returned_adds t id (i ∷ is) (j ∷ js) s h r q =
    let a = same_term t i j in
    let c = compared t i j s (r.stand 0 (omega arith)) (q.stand 0 (omega arith)) in
    let l = later t a.terms id c.adds.kept h.stands in
    let b = with_node a.terms (And id a.id) in
    let g = and_gives a.terms id a.id c.adds.sound l.stands c.adds.stands (l.width ∙ (h.width ∙ sym c.adds.width)) in
    let k = KeepsTerms-both t a.terms b.terms c.adds.kept g.adds.kept in
    let rest = returned_adds b.terms b.id is js g.adds.sound (record { stands = g.adds.stands; width = g.adds.width ∙ (l.width ∙ h.width) }) (all_later t b.terms is k (tail_values t i is r)) (all_later t b.terms js k (tail_values t j js q)) in
    record { sound = rest.sound; inputs = rest.inputs ∙ (g.adds.inputs ∙ c.adds.inputs); kept = KeepsTerms-both t b.terms _ k rest.kept; bit = rest.bit }

pub returned_means : (t : TermsView) (values : List ℕ) (id : TermId) (registers starts : List TermId) (rs ss : List ℤ) (b : Bool) → AreSound t → HasBits t id 1 → AreAllValues t registers → AreAllValues t starts → AllMean t values registers rs → AllMean t values starts ss
    → word_of t values id ≡ bit_of b → word_of (returned_from (built_of t id) registers starts).terms values (returned_from (built_of t id) registers starts).id ≡ bit_of (matches b rs ss)
returned_means t values id [] starts [] ss b s h r q m n w = w
returned_means t values id [] starts (x ∷ rs) ss b s h r q m n w = absurd (let c = m.count in omega arith)
returned_means t values id (i ∷ is) starts [] ss b s h r q m n w = absurd (let c = m.count in omega arith)
returned_means t values id (i ∷ is) [] (x ∷ rs) [] b s h r q m n w = w
returned_means t values id (i ∷ is) [] (x ∷ rs) (y ∷ ss) b s h r q m n w = absurd (let c = n.count in omega arith)
returned_means t values id (i ∷ is) (j ∷ js) (x ∷ rs) [] b s h r q m n w = absurd (let c = n.count in omega arith)
returned_means t values id (i ∷ is) (j ∷ js) (x ∷ rs) (y ∷ ss) b s h r q m n w =
    let a = same_term t i j in
    let c = compared t i j s (r.stand 0 (omega arith)) (q.stand 0 (omega arith)) in
    let l = later t a.terms id c.adds.kept h.stands in
    let d = with_node a.terms (And id a.id) in
    let g = and_gives a.terms id a.id c.adds.sound l.stands c.adds.stands (l.width ∙ (h.width ∙ sym c.adds.width)) in
    let k = KeepsTerms-both t a.terms d.terms c.adds.kept g.adds.kept in
    let word : word_of d.terms values d.id ≡ bit_of (b && int_eq x y) =
    g.word values ∙ (ap (λ (v : Word). and_of v (word_of a.terms values a.id)) (l.word values ∙ w) ∙ (ap (and_of (bit_of b)) (c.word values x y (m.each 0 (omega arith)) (n.each 0 (omega arith))) ∙ and-bits b (int_eq x y))) in
    returned_means d.terms values d.id is js rs ss (b && int_eq x y) g.adds.sound (record { stands = g.adds.stands; width = g.adds.width ∙ (l.width ∙ h.width) })
    (all_later t d.terms is k (tail_values t i is r)) (all_later t d.terms js k (tail_values t j js q))
    (mean_later t d.terms values is rs k (tail_values t i is r) (tail_mean t values i is x rs m)) (mean_later t d.terms values js ss k (tail_values t j js q) (tail_mean t values j js y ss n)) word

-- ---- as the code has it
pub record IsReturning (t0 t : TermsView) (all : TermId) (registers starts : List TermId) (k : ℕ) (end : Built) : Type 0 where
  pub sound : AreSound t
  pub bit : HasBits t all 1
  pub registers_stand : AreAllValues t registers
  pub starts_stand : AreAllValues t starts
  pub kept : KeepsTerms t0 t
  pub same : returned_from (built_of t all) (drop k registers) (drop k starts) ≡ end

pub return_step : (t0 t u v : TermsView) (all same now : TermId) (registers starts : List TermId) (k : ℕ) (end : Built) → k < length registers → k < length starts → IsReturning t0 t all registers starts k end
    → built_of u same ≡ same_term t (term_at registers k) (term_at starts k) → Adds t u same 1 → built_of v now ≡ with_node u (And all same) → IsReturning t0 v now registers starts (k + 1) end
return_step t0 t u v all same now registers starts k end p q r e a b =
    let l = later t u all a.kept (r.bit).stands in
    let g = and_gives u all same a.sound l.stands a.stands (l.width ∙ (r.bit.width ∙ sym a.width)) in
    let n = with_node u (And all same) in
    let d = Adds-built u v now n (width_of u all) b g.adds in
    let kt = KeepsTerms-both t u v a.kept d.kept in
    let dr = drop_more registers k (record { 0 = 0 }) p in
    let ds = drop_more starts k (record { 0 = 0 }) q in
    let step : returned_from (built_of t all) (term_at registers k ∷ drop (k + 1) registers) (term_at starts k ∷ drop (k + 1) starts) ≡ end =
    ap (λ (xs : List TermId). returned_from (built_of t all) xs (term_at starts k ∷ drop (k + 1) starts)) (sym dr) ∙ (ap (returned_from (built_of t all) (drop k registers)) (sym ds) ∙ r.same) in
    record {
      sound = d.sound;
      bit = record { stands = d.stands; width = d.width ∙ (l.width ∙ r.bit.width) };
      registers_stand = all_later t v registers kt r.registers_stand;
      starts_stand = all_later t v starts kt r.starts_stand;
      kept = KeepsTerms-both t0 t v r.kept kt;
      same = ap (λ (w : Built). returned_from w (drop (k + 1) registers) (drop (k + 1) starts)) b
          ∙ (ap (λ (w : Built). returned_from (with_node w.terms (And all w.id)) (drop (k + 1) registers) (drop (k + 1) starts)) e ∙ step);
    }
