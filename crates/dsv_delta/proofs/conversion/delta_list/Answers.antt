use Rattle.std.proofs.Common.{refl, ℤ, [], ◌≡◌, ◌∙◌, ap, arith, sym, subst, length, unsigned_abs, Result, List, MatchResult, Ok, Err, IfOk, ℕ}
use Rattle.std.proofs.lemmas.Int.{ints}
use Rattle.dsv_algebra.specs.Vectors.{vector_of}
use Rattle.dsv_fraction.specs.Ratio.{Ratio}
use Rattle.dsv_delta.specs.declared.refusal.DeltaWide.{DeltaWide}
use Rattle.dsv_delta.specs.Binomials.{weight}
use Rattle.dsv_delta.specs.Deltas.{coefficients_from}
use Rattle.dsv_delta.proofs.Heavy.{length-numerators}
use Rattle.dsv_delta.proofs.Multiples.{some_small}
use Rattle.dsv_delta.proofs.Wholes.{list_given, refill_all}
use Rattle.dsv_delta.proofs.conversion.delta_list.Goals as goal

pub coefficients-requires-clause-common : goal.coefficients-requires-clause-common
coefficients-requires-clause-common c =
    let small = some_small _ c.in-Some.common (sym c.in-Some.ensures.value) in
    omega (arith, ints, small, c.common_denominator.ensures.positive)

pub returns-clause-places : goal.returns-clause-places
returns-clause-places c =
    let written = c.as_slice.ensures.value
    ∙ refill_all (length c.in-Some-numerators.sums.items) c.in-Some-numerators.sums.items c.expand.new.coefficients refl (c.expand.ensures.places ∙ ap length c.as_mut_slice.ensures.value) in
    let long = ap length written ∙ c.expand.ensures.places ∙ ap length (c.as_mut_slice.ensures.value ∙ c.in-Some-numerators.ensures.0)
    ∙ length-numerators (unsigned_abs c.in-Some.common) c.args.fractions.now in
    let P : ℕ → Type 0 = λ n. IfOk c.coefficients.result (λ found. length found.items ≡ n) in
    subst P long c.coefficients.ensures.places

pub returns-clause-value : goal.returns-clause-value
returns-clause-value c =
    let written = c.as_slice.ensures.value
    ∙ refill_all (length c.in-Some-numerators.sums.items) c.in-Some-numerators.sums.items c.expand.new.coefficients refl (c.expand.ensures.places ∙ ap length c.as_mut_slice.ensures.value) in
    let is = c.as_mut_slice.ensures.value ∙ c.in-Some-numerators.ensures.0 in
    let meant =
    ap (λ (xs : List ℤ). coefficients_from c.args.list c.args.delta.now (unsigned_abs c.in-Some.common) (vector_of xs) (length xs) []) written
    ∙ list_given c.args.list c.args.delta.now c.args.fractions.now c.in-Some.common c.as_mut_slice.result.now c.expand.new.coefficients c.in-Some.ensures.value
    is (omega (arith, ap weight is, c.in-Some-numerators.ensures.1)) c.expand.ensures.places (λ j h. c.expand.ensures.sums j h) in
    let P : Result (List Ratio) DeltaWide → Type 0 = λ m. MatchResult c.coefficients.result (λ found. m ≡ Ok found.items) (λ refusal. m ≡ Err refusal) in
    subst P meant c.coefficients.ensures.value
