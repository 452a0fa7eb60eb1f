-- The term of a set: what it adds, and that it says whether registers are in the set.
use Rattle.std.proofs.Common.{◌≡◌, ℕ, ◌+◌, ◌==◌, ◌≤◌, Bool, true, ◌&&◌, List, [], ◌∷◌, ◌++◌, refl, arith, ap, sym, subst, ◌∙◌, length, drop, map}
use Rattle.std.specs.Prelude.{max, int_le, nat_le}
use Rattle.std.specs.List.{All, list_all}
use Rattle.std.specs.Int.RustNames.{unsigned_abs}
use Rattle.std.proofs.Math.IntN.{ℤ, pos, ◌+ℤ◌}
use Rattle.std.proofs.Math.Nat.{le-max_left, le-max_right}
use Rattle.std.proofs.lemmas.Int.{ints}
use Rattle.std.proofs.lemmas.Bool.{and_parts, eqb-true, leb-true}
use Rattle.std.proofs.lemmas.List.{append-nil, append_assoc}
use Rattle.dsv_word.specs.declared.format.Format.{Format}
use Rattle.dsv_word.specs.Words.{width, IsWord}
use Rattle.dsv_template.specs.declared.candidate.Candidate.{Candidate}
use Rattle.dsv_template.specs.declared.candidate.Inequality.{Inequality}
use Rattle.dsv_template.specs.Limits.{most_bound, most_bit_lengths, most_depth}
use Rattle.dsv_template.specs.Candidates.{combination, is_small, all_bit_lengths, is_fit_for, is_shaped}
use Rattle.dsv_term.specs.declared.node.TermId.{TermId}
use Rattle.dsv_term.specs.declared.node.TermNode.TheVariants.{Constant, Sle}
use Rattle.dsv_term.specs.declared.word.Word.{Word}
use Rattle.dsv_term.specs.Building.{Built, built_of, with_node}
use Rattle.dsv_term.specs.Growth.{AreSound, Adds}
use Rattle.dsv_term.specs.Terms.{KeepsTerms, width_of, word_of}
use Rattle.dsv_term.specs.TermsView.{TermsView}
use Rattle.dsv_term.specs.Word.{residue, bit_of, signed_at_most_of}
use Rattle.dsv_term.proofs.Words.{residue_fits}
use Rattle.dsv_term.proofs.Made.{KeepsTerms-both}
use Rattle.dsv_term.proofs.Building.{Adds-both, Adds-built, KeepsTerms-self, later, stands-width, constant_gives, signed_at_most_gives}
use Rattle.dsv_term.proofs.Complement.{spelled, signed_at_most-spelled}
use Rattle.dsv_unroll.specs.Goals.{conjunction_from}
use Rattle.dsv_unroll.specs.Ready.{IsValue, AreBits, IsSetReady}
use Rattle.dsv_unroll.specs.Rules.{width_for, widened_term}
use Rattle.dsv_unroll.specs.SetGoals.{SumTerms, combination_from, at_most_term, inequality_term, Tests, inequalities_from, set_term}
use Rattle.dsv_unroll.proofs.RuleTerms.{width_for-least, fits_size, widened, room_wider, max_narrow}
use Rattle.dsv_unroll.proofs.Follows.{Means, means_later}
use Rattle.dsv_unroll.proofs.SampleSteps.{bits_later}
use Rattle.dsv_unroll.proofs.InputTests.{bits_kept, bit_added, adds_after, bits_push, joined, joined-split, BitsMean, no_bits_mean, bits_mean_later, bits_mean_push, conjunction_adds, conjunction_joins}
use Rattle.dsv_unroll.proofs.CycleTerms.{all_later, AllMean, mean_later}
use Rattle.dsv_unroll.proofs.SetSums.{SumAdds, sum_ready, combination_adds, combination_means}

-- ---- what is known of a candidate's numbers
pub record IsFit (registers : ℕ) (i : Inequality) : Type 0 where
  pub many : length i.coefficients.items ≡ registers
  pub small : list_all is_small i.coefficients.items ≡ true
  pub bound : unsigned_abs i.bound ≤ most_bound

pub fit_from : (registers : ℕ) (i : Inequality) → is_fit_for registers i ≡ true → IsFit registers i
fit_from registers i h =
    let cs = i.coefficients.items in
    let a = and_parts (length cs == registers && list_all is_small cs) (nat_le (unsigned_abs i.bound) most_bound) h in
    let b = and_parts (length cs == registers) (list_all is_small cs) a.0 in
    record { many = eqb-true (length cs) registers b.0; small = b.1; bound = leb-true (unsigned_abs i.bound) most_bound a.1 }

pub record IsShaped (registers : ℕ) (candidate : Candidate) : Type 0 where
  pub fit : list_all (is_fit_for registers) candidate.inequalities.items ≡ true
  pub deep : 1 ≤ candidate.depth
  pub shallow : candidate.depth ≤ most_depth

pub shaped_from : (registers : ℕ) (candidate : Candidate) → is_shaped registers candidate ≡ true → IsShaped registers candidate
shaped_from registers candidate h =
    let is = candidate.inequalities.items in
    let fit = list_all (is_fit_for registers) is in
    let few = nat_le (all_bit_lengths is) most_bit_lengths in
    let deep = nat_le 1 candidate.depth in
    let a = and_parts (fit && few && deep) (nat_le candidate.depth most_depth) h in
    let b = and_parts (fit && few) deep a.0 in
    let c = and_parts fit few b.0 in
    record { fit = c.0; deep = leb-true 1 candidate.depth b.1; shallow = leb-true candidate.depth most_depth a.1 }

-- ---- whether a number is at most a bound
pub record AtMost (t : TermsView) (id : TermId) (bound : ℤ) (b : Built) : Type 0 where
  pub adds : Adds t b.terms b.id 1
  pub word : (values : List ℕ) (z : ℤ) → Means t values id z → word_of b.terms values b.id ≡ bit_of (int_le z bound)

-- the width of a comparison
pub record IsBoundWidth (t : TermsView) (id : TermId) (bound : ℤ) (bits : ℕ) : Type 0 where
  pub some : 1 ≤ bits
  pub narrow : bits ≤ 127
  pub wider : width_of t id ≤ bits
  pub enough : width_for (unsigned_abs bound) ≤ bits

pub bound_width : (t : TermsView) (id : TermId) (bound : ℤ) → AreSound t → IsValue t id → unsigned_abs bound ≤ most_bound → IsBoundWidth t id bound (max (width_of t id) (width_for (unsigned_abs bound)))
bound_width t id bound s v m =
    let size = unsigned_abs bound in
    let a = width_of t id in
    let least = width_for-least size 61 (omega arith) (omega arith) in
    let wide = le-max_left a (width_for size) in
    let width = stands-width t id s v.stands in
    record {
      some = omega (arith, width.some, wide);
      narrow = max_narrow a (width_for size) 127 v.narrow (omega arith);
      wider = wide;
      enough = le-max_right a (width_for size);
    }

at_most_holds : (t : TermsView) (id : TermId) (bound : ℤ) → AreSound t → IsValue t id → unsigned_abs bound ≤ most_bound → AtMost t id bound (at_most_term t id bound)
at_most_holds t id bound s v m =
    let size = unsigned_abs bound in
    let bits = max (width_of t id) (width_for size) in
    let n = bound_width t id bound s v m in
    let some = n.some in
    let narrow = n.narrow in
    let a = widened_term t id bits in
    let wa = widened t id bits s v.stands n.wider (omega arith) in
    let c = with_node a.terms (Constant bits (residue bits bound)) in
    let gc = constant_gives a.terms bits (residue bits bound) wa.adds.sound (record { some = some; narrow = omega arith }) (residue_fits bits bound) in
    let l = later a.terms c.terms a.id gc.adds.kept wa.adds.stands in
    let d = with_node c.terms (Sle a.id c.id) in
    let gd = signed_at_most_gives c.terms a.id c.id gc.adds.sound l.stands gc.adds.stands (l.width ∙ (wa.adds.width ∙ sym gc.adds.width)) in
    let fits = fits_size size bits bound (room_wider size bits (omega arith) n.enough) (omega arith) in
    record {
      adds = Adds-both t a.terms d.terms a.id d.id bits 1 wa.adds (Adds-both a.terms c.terms d.terms c.id d.id bits 1 gc.adds gd.adds);
      word = λ values z p.
          let q = wa.spells values z p.spells in
          gd.word values ∙ (ap (λ (i : Word). signed_at_most_of i (word_of c.terms values c.id)) (l.word values ∙ q.word) ∙ (ap (signed_at_most_of (spelled bits z)) (gc.word values) ∙ signed_at_most-spelled bits z bound some q.fits fits));
    }

-- ---- what a test of registers says
-- terms that spell the registers' words, and a zero
pub record SetMeans (f : Format) (t : TermsView) (values : List ℕ) (zero_bit : TermId) (registers : List TermId) (rs : List ℤ) : Type 0 where
  pub zero_bit_means : Means t values zero_bit (pos 0)
  pub registers_mean : AllMean t values registers rs
  pub words : All (IsWord f) rs

pub set_ready_later : (t u : TermsView) (zero_bit : TermId) (registers : List TermId) → AreSound u → KeepsTerms t u → IsSetReady t zero_bit registers → IsSetReady u zero_bit registers
set_ready_later t u zero_bit registers s k r = record { sound = s; zero_has_bit = bits_kept t u zero_bit 1 k r.zero_has_bit; registers_stand = all_later t u registers k r.registers_stand; few = r.few }

set_means_later : (f : Format) (t u : TermsView) (values : List ℕ) (zero_bit : TermId) (registers : List TermId) (rs : List ℤ) → KeepsTerms t u → IsSetReady t zero_bit registers → SetMeans f t values zero_bit registers rs → SetMeans f u values zero_bit registers rs
set_means_later f t u values zero_bit registers rs k r m =
    record { zero_bit_means = means_later t u values zero_bit (pos 0) k r.zero_has_bit.stands m.zero_bit_means; registers_mean = mean_later t u values registers rs k r.registers_stand m.registers_mean; words = m.words }

-- a bit that says something of the registers
pub record SaysOf (f : Format) (t : TermsView) (zero_bit : TermId) (registers : List TermId) (said : List ℤ → Bool) (b : Built) : Type 0 where
  pub adds : Adds t b.terms b.id 1
  pub word : (values : List ℕ) (rs : List ℤ) → SetMeans f t values zero_bit registers rs → word_of b.terms values b.id ≡ bit_of (said rs)

abbrev pub fulfils : List ℤ → Inequality → Bool
fulfils rs i = int_le (combination i.coefficients.items rs) i.bound

abbrev pub is_inside : Candidate → List ℤ → Bool
is_inside candidate rs = list_all (fulfils rs) candidate.inequalities.items

-- ---- inequalities
none_plus : (z : ℤ) → pos 0 +ℤ z ≡ z
none_plus z = omega (arith, ints)

pub inequality_says : (f : Format) (t : TermsView) (zero_bit : TermId) (registers : List TermId) (i : Inequality) → IsSetReady t zero_bit registers → is_fit_for (length registers) i ≡ true
    → SaysOf f t zero_bit registers (λ (rs : List ℤ). fulfils rs i) (inequality_term (width f) zero_bit registers t i)
inequality_says f t zero_bit registers i r h =
    let cs = i.coefficients.items in
    let fit = fit_from (length registers) i h in
    let first : SumTerms = record { terms = t; id = zero_bit; bound = 0 } in
    let sum = combination_from (width f) first cs registers in
    let ready = sum_ready t zero_bit cs registers r fit.many fit.small in
    let a = combination_adds f cs registers first ready in
    let q = at_most_holds sum.terms sum.id i.bound a.sound a.value fit.bound in
    let b = at_most_term sum.terms sum.id i.bound in
    record {
      adds = adds_after t sum.terms b.terms b.id 1 a.inputs a.kept q.adds;
      word = λ values rs m.
          let z = combination cs rs in
          let s = combination_means f values cs registers rs first (pos 0) ready m.words m.registers_mean (record { means = m.zero_bit_means; size = omega arith }) in
          q.word values (pos 0 +ℤ z) s.means ∙ ap (λ (y : ℤ). bit_of (int_le y i.bound)) (none_plus z);
    }

-- what the tests so far add
pub record TestsAdd (t : TermsView) (s : Tests) : Type 0 where
  pub sound : AreSound s.terms
  pub inputs : s.terms.inputs ≡ t.inputs
  pub kept : KeepsTerms t s.terms
  pub bits : AreBits s.terms s.ids

-- the tests so far, and the inequalities to come
pub record AreTestsReady (s : Tests) (zero_bit : TermId) (registers : List TermId) (is : List Inequality) : Type 0 where
  pub ready : IsSetReady s.terms zero_bit registers
  pub bits : AreBits s.terms s.ids
  pub fit : list_all (is_fit_for (length registers)) is ≡ true

-- one test more
abbrev pub with_test : ℕ → TermId → List TermId → Tests → Inequality → Tests
with_test n zero_bit registers s i = let b = inequality_term n zero_bit registers s.terms i in record { terms = b.terms; ids = s.ids ++ b.id ∷ [] }

pub test_says : (f : Format) (s : Tests) (zero_bit : TermId) (registers : List TermId) (i : Inequality) (is : List Inequality) → AreTestsReady s zero_bit registers (i ∷ is)
    → SaysOf f s.terms zero_bit registers (λ (rs : List ℤ). fulfils rs i) (inequality_term (width f) zero_bit registers s.terms i)
test_says f s zero_bit registers i is r = inequality_says f s.terms zero_bit registers i r.ready (and_parts (is_fit_for (length registers) i) (list_all (is_fit_for (length registers)) is) r.fit).0

tests_rest : (f : Format) (s : Tests) (zero_bit : TermId) (registers : List TermId) (i : Inequality) (is : List Inequality) → AreTestsReady s zero_bit registers (i ∷ is) → AreTestsReady (with_test (width f) zero_bit registers s i) zero_bit registers is
tests_rest f s zero_bit registers i is r =
    let b = inequality_term (width f) zero_bit registers s.terms i in
    let a = (test_says f s zero_bit registers i is r).adds in
    record {
      ready = set_ready_later s.terms b.terms zero_bit registers a.sound a.kept r.ready;
      bits = bits_push b.terms s.ids b.id (bits_later s.terms b.terms s.ids a.kept r.bits) (bit_added s.terms b.terms b.id a);
      fit = (and_parts (is_fit_for (length registers) i) (list_all (is_fit_for (length registers)) is) r.fit).1;
    }

tests_add : (f : Format) (s : Tests) (zero_bit : TermId) (registers : List TermId) (is : List Inequality) → AreTestsReady s zero_bit registers is → TestsAdd s.terms (inequalities_from (width f) zero_bit registers s is)
tests_add f s zero_bit registers [] r = record { sound = r.ready.sound; inputs = refl; kept = KeepsTerms-self s.terms; bits = r.bits }
tests_add f s zero_bit registers (i ∷ is) r =
    let next = with_test (width f) zero_bit registers s i in
    let a = (test_says f s zero_bit registers i is r).adds in
    let rest = tests_add f next zero_bit registers is (tests_rest f s zero_bit registers i is r) in
    let end = inequalities_from (width f) zero_bit registers next is in
    record { sound = rest.sound; inputs = rest.inputs ∙ a.inputs; kept = KeepsTerms-both s.terms next.terms end.terms a.kept rest.kept; bits = rest.bits }

tests_mean : (f : Format) (s : Tests) (zero_bit : TermId) (registers : List TermId) (is : List Inequality) (values : List ℕ) (rs : List ℤ) (truths : List Bool) → AreTestsReady s zero_bit registers is → SetMeans f s.terms values zero_bit registers rs → BitsMean s.terms values s.ids truths
    → let end = inequalities_from (width f) zero_bit registers s is in BitsMean end.terms values end.ids (truths ++ map (fulfils rs) is)
tests_mean f s zero_bit registers [] values rs truths r m bm = subst (BitsMean s.terms values s.ids) (sym (append-nil truths)) bm
tests_mean f s zero_bit registers (i ∷ is) values rs truths r m bm =
    let b = inequality_term (width f) zero_bit registers s.terms i in
    let next = with_test (width f) zero_bit registers s i in
    let q = test_says f s zero_bit registers i is r in
    let end = inequalities_from (width f) zero_bit registers next is in
    let now = bits_mean_push b.terms values s.ids truths b.id (fulfils rs i) (bits_mean_later s.terms b.terms values s.ids truths q.adds.kept r.bits bm) (q.word values rs m) in
    let rest = tests_mean f next zero_bit registers is values rs (truths ++ fulfils rs i ∷ []) (tests_rest f s zero_bit registers i is r) (set_means_later f s.terms b.terms values zero_bit registers rs q.adds.kept r.ready m) now in
    subst (BitsMean end.terms values end.ids) (append_assoc truths (fulfils rs i ∷ []) (map (fulfils rs) is)) rest

-- ---- the set
joined-all : {A : Type 0} (p : A → Bool) (xs : List A) → joined true (map p xs) ≡ list_all p xs
joined-all p [] = refl
joined-all p (x ∷ xs) = joined-split (p x) (map p xs) ∙ ap (λ (b : Bool). p x && b) (joined-all p xs)

first_tests : (t : TermsView) (zero_bit : TermId) (registers : List TermId) (candidate : Candidate) → IsSetReady t zero_bit registers → is_shaped (length registers) candidate ≡ true → AreTestsReady (record { terms = t; ids = [] }) zero_bit registers candidate.inequalities.items
first_tests t zero_bit registers candidate r h = record { ready = r; bits = record { stand = λ i p. absurd (omega arith) }; fit = (shaped_from (length registers) candidate h).fit }

pub set_says : (f : Format) (t : TermsView) (zero_bit : TermId) (registers : List TermId) (candidate : Candidate) → IsSetReady t zero_bit registers → is_shaped (length registers) candidate ≡ true
    → SaysOf f t zero_bit registers (is_inside candidate) (set_term (width f) zero_bit t candidate registers)
unfolding set_term
set_says f t zero_bit registers candidate r h =
    let is = candidate.inequalities.items in
    let first : Tests = record { terms = t; ids = [] } in
    let s = inequalities_from (width f) zero_bit registers first is in
    let ready = first_tests t zero_bit registers candidate r h in
    let a = tests_add f first zero_bit registers is ready in
    let whole = with_node s.terms (Constant 1 1) in
    let g = constant_gives s.terms 1 1 a.sound (record { some = omega arith; narrow = omega arith }) (omega arith) in
    let bits = bits_later s.terms whole.terms s.ids g.adds.kept a.bits in
    let bit = bit_added s.terms whole.terms whole.id g.adds in
    let b = conjunction_from whole s.ids in
    let c = conjunction_adds whole.terms whole.id s.ids g.adds.sound bit bits in
    record {
      adds = adds_after t s.terms b.terms b.id 1 a.inputs a.kept (Adds-both s.terms whole.terms b.terms whole.id b.id 1 1 g.adds c);
      word = λ values rs m.
          let truths = map (fulfils rs) is in
          let bm = tests_mean f first zero_bit registers is values rs [] ready m (no_bits_mean t values) in
          let j = conjunction_joins values whole.terms whole.id s.ids truths true g.adds.sound bit (g.word values) bits (bits_mean_later s.terms whole.terms values s.ids truths g.adds.kept a.bits bm) in
          j.word ∙ ap bit_of (joined-all (fulfils rs) is);
    }

-- ---- as the code has it
-- the terms of a sum that the code made
pub summed : (f : Format) (t : TermsView) (zero_bit : TermId) (registers : List TermId) (i : Inequality) (s : SumTerms) → IsSetReady t zero_bit registers → is_fit_for (length registers) i ≡ true
    → s ≡ combination_from (width f) (record { terms = t; id = zero_bit; bound = 0 }) i.coefficients.items registers → SumAdds t s
summed f t zero_bit registers i s r h e =
    let fit = fit_from (length registers) i h in
    subst (SumAdds t) (sym e) (combination_adds f i.coefficients.items registers (record { terms = t; id = zero_bit; bound = 0 }) (sum_ready t zero_bit i.coefficients.items registers r fit.many fit.small))

-- the inequalities from one on are to come
pub record IsTesting (f : Format) (t : TermsView) (zero_bit : TermId) (registers : List TermId) (is : List Inequality) (k : ℕ) (s end : Tests) : Type 0 where
  pub ready : IsSetReady s.terms zero_bit registers
  pub bits : AreBits s.terms s.ids
  pub kept : KeepsTerms t s.terms
  pub same : inequalities_from (width f) zero_bit registers s (drop k is) ≡ end

pub test_step : (f : Format) (t : TermsView) (zero_bit : TermId) (registers : List TermId) (is : List Inequality) (k : ℕ) (s end : Tests) (i : Inequality) (u : TermsView) (test : TermId) (ids : List TermId) → is_fit_for (length registers) i ≡ true → drop k is ≡ i ∷ drop (k + 1) is → IsTesting f t zero_bit registers is k s end
    → built_of u test ≡ inequality_term (width f) zero_bit registers s.terms i → ids ≡ s.ids ++ test ∷ [] → IsTesting f t zero_bit registers is (k + 1) (record { terms = u; ids = ids }) end
test_step f t zero_bit registers is k s end i u test ids h d g b p =
    let q = inequality_says f s.terms zero_bit registers i g.ready h in
    let a = Adds-built s.terms u test (inequality_term (width f) zero_bit registers s.terms i) 1 b q.adds in
    let step : inequalities_from (width f) zero_bit registers s (i ∷ drop (k + 1) is) ≡ end = ap (inequalities_from (width f) zero_bit registers s) (sym d) ∙ g.same in
    let from : Built → List TermId → Tests = λ w js. inequalities_from (width f) zero_bit registers (record { terms = w.terms; ids = js }) (drop (k + 1) is) in
    record {
      ready = set_ready_later s.terms u zero_bit registers a.sound a.kept g.ready;
      bits = subst (AreBits u) (sym p) (bits_push u s.ids test (bits_later s.terms u s.ids a.kept g.bits) (bit_added s.terms u test a));
      kept = KeepsTerms-both t s.terms u g.kept a.kept;
      same = ap (from (built_of u test)) p ∙ (ap (λ (w : Built). from w (s.ids ++ w.id ∷ [])) b ∙ step);
    }

pub set_adds : (f : Format) (t u : TermsView) (zero_bit inside : TermId) (registers : List TermId) (candidate : Candidate) → IsSetReady t zero_bit registers → is_shaped (length registers) candidate ≡ true → built_of u inside ≡ set_term (width f) zero_bit t candidate registers → Adds t u inside 1
set_adds f t u zero_bit inside registers candidate r h b = Adds-built t u inside (set_term (width f) zero_bit t candidate registers) 1 b (set_says f t zero_bit registers candidate r h).adds
