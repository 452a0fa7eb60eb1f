-- A log and a set that were written are lawful where they are accepted.
use Rattle.std.proofs.Common.{◌≡◌, ℕ, ◌≤◌, true, ◌==◌, ◌&&◌, nat_le, List, length, get_or, ℤ, arith}
use Rattle.std.specs.List.{All, list_all}
use Rattle.std.specs.Int.RustNames.{unsigned_abs}
use Rattle.std.proofs.lemmas.Bool.Decides.{nat_tests}
use Rattle.std.proofs.lemmas.List.Elements.{All-weaker}
use Rattle.std.proofs.lemmas.List.Sums.{AllPass-from_list_all}
use Rattle.dsv_forms.proofs.Places.{both_tests}
use Rattle.dsv_hints.specs.declared.step.Step.{Step}
use Rattle.dsv_hints.specs.declared.step.Step.TheVariants.{Add, Delete}
use Rattle.dsv_hints.proofs.AcceptedIds.{IsPositive, HasPositiveIds}
use Rattle.dsv_template.specs.Candidates.{is_small, all_bit_lengths, is_fit_for, is_shaped}
use Rattle.dsv_template.specs.declared.candidate.Candidate.{Candidate}
use Rattle.dsv_template.specs.declared.candidate.Inequality.{Inequality}
use Rattle.dsv_template.specs.Limits.{most_bound, most_coefficient, most_bit_lengths, most_depth}
use Rattle.dsv_certfile.specs.Lawful.{IsId, IsStep, IsLog, IsEntry, IsInequality, IsSet}
use Rattle.dsv_certfile.specs.Typed.{IsShortId, IsTypedStep, IsTypedLog, IsTypedInequality, IsTypedSet}

-- ---- logs
ids_are : (ids : List ℕ) → All IsShortId ids → All IsPositive ids → All IsId ids
ids_are ids t h = λ k z l. (h k z l, t k z l)

step_is : (step : Step) → IsTypedStep step → HasPositiveIds step → IsStep step
step_is (Add id lits hints) t h = ((h.0, t.0), t.1, ids_are hints t.2 h.1)
step_is (Delete id ids) t h = absurd h

pub log_is_lawful : (log : List Step) → IsTypedLog log → All HasPositiveIds log → IsLog log
log_is_lawful log t h = λ k z l. step_is (get_or log k z) (t k z l) (h k z l)

-- ---- a set
at_most : (n m : ℕ) → nat_le n m ≡ true → n ≤ m
at_most n m h = grind (arith, nat_tests)

small_entry : (z : ℤ) → is_small z ≡ true → IsEntry z
small_entry z h = let l = at_most (unsigned_abs z) most_coefficient h in omega arith

bound_entry : (z : ℤ) → nat_le (unsigned_abs z) most_bound ≡ true → IsEntry z
bound_entry z h = let l = at_most (unsigned_abs z) most_bound h in omega arith

inequality_is : (registers : ℕ) (i : Inequality) → IsTypedInequality i → is_fit_for registers i ≡ true → IsInequality i
inequality_is registers i t h =
    let small = list_all is_small i.coefficients.items in
    let a = both_tests ((length i.coefficients.items == registers) && small) (nat_le (unsigned_abs i.bound) most_bound) h in
    let b = both_tests (length i.coefficients.items == registers) small a.0 in
    record {
      few = t;
      coefficients = All-weaker (λ z. is_small z ≡ true) IsEntry small_entry i.coefficients.items (AllPass-from_list_all is_small i.coefficients.items b.1);
      bound = bound_entry i.bound a.1;
    }

pub set_is_lawful : (registers : ℕ) (candidate : Candidate) → IsTypedSet candidate → is_shaped registers candidate ≡ true → IsSet candidate
set_is_lawful registers candidate t h =
    let items = candidate.inequalities.items in
    let fit = list_all (is_fit_for registers) items in
    let room = nat_le (all_bit_lengths items) most_bit_lengths in
    let a = both_tests (fit && room && nat_le 1 candidate.depth) (nat_le candidate.depth most_depth) h in
    let b = both_tests (fit && room) (nat_le 1 candidate.depth) a.0 in
    let each = AllPass-from_list_all (is_fit_for registers) items (both_tests fit room b.0).0 in
    let shallow = at_most candidate.depth most_depth a.1 in
    record {
      depth = omega arith;
      few = t.few;
      inequalities = λ k z l. inequality_is registers (get_or items k z) (t.inequalities k z l) (each k z l);
    }
