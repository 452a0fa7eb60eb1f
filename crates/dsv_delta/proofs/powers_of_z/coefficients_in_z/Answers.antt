use Rattle.std.proofs.Common.{◌≡◌, ◌-◌, ◌*◌, ◌^◌, ℕ, ℤ, pos, ◌*ℤ◌, List, length, Some, None, refl, subst, sym, ap, ◌∙◌, arith, rules}
use Rattle.std.proofs.lemmas.Int.{to_z-of_z}
use mir.Syntax.{w128}
use mir.Val.{SFits}
use Rattle.dsv_algebra.specs.Vectors.{Vector, vector_of}
use Rattle.dsv_delta.specs.ZCoefficients.{Dyadic, scaled, first_wide}
use Rattle.dsv_delta.specs.Differences.{bounded, differences}
use Rattle.dsv_delta.proofs.Alternating.{IsPart, next_part, next_room, room_narrow}
use Rattle.dsv_delta.proofs.Scaling.{bounded_some, wide_at, narrow_at, next_narrow, first_at, wide_list, whole_list}
use Rattle.dsv_delta.proofs.powers_of_z.coefficients_in_z.Goals as goal

pub loop-word-init : goal.loop-word-init
loop-word-init c =
    rw c.new-list.ensures (record {
      part = record { places = refl; values = λ i h. absurd (omega arith) };
      narrow = refl;
      small = λ i. omega arith;
    })

pub times_z_less_one-list-requires-clause-small : goal.times_z_less_one-list-requires-clause-small
times_z_less_one-list-requires-clause-small c = λ i.
    rw c.as_slice.ensures.value (room_narrow c.loop-word.word-index (vector_of c.loop-word.list.items i) (omega arith) (c.loop-word.invariant.small i))

pub loop-word-preserved : goal.loop-word-preserved
loop-word-preserved c =
    let cs = c.args.coeffs.now in
    let order = length cs - 1 in
    let scale : Dyadic = record { numerator = c.args.scale.numerator; denominator = c.args.scale.denominator } in
    let E : Vector = scaled scale order (vector_of cs) in
    let j = c.loop-word.word-index in
    let xs = c.loop-word.list.items in
    let e = c.in-Some.e in
    let index = c.len-index.ensures.value ∙ c.loop-word.invariant.part.places in
    let made : Some e ≡ bounded (E j) =
    sym c.in-Some.is ∙ c.scaled_coefficient.ensures ∙ ap (λ k. bounded (vector_of cs j *ℤ pos (scale.numerator ^ k * scale.denominator ^ (order - k)))) index in
    let is = bounded_some (E j) e made in
    let fits : SFits w128 c.get.result = search rules in
    let all : c.times_z_less_one-list.result.items ≡ differences (pos 0) xs e =
    c.times_z_less_one-list.ensures ∙ ap (differences (pos 0) c.as_slice.result.now) (to_z-of_z w128 c.get.result fits)
    ∙ ap (λ (ys : List ℤ). differences (pos 0) ys c.get.result) c.as_slice.ensures.value ∙ ap (differences (pos 0) xs) c.get.ensures in
    rw all (record {
      part = next_part E j xs e c.loop-word.invariant.part is.0;
      narrow = next_narrow E j c.loop-word.invariant.narrow (narrow_at (E j) e made);
      small = next_room j xs e is.1 c.loop-word.invariant.small;
    })

pub returns-in_default-clause-exact : goal.returns-in_default-clause-exact
returns-in_default-clause-exact c =
    let cs = c.args.coeffs.now in
    let order = length cs - 1 in
    let scale : Dyadic = record { numerator = c.args.scale.numerator; denominator = c.args.scale.denominator } in
    let E : Vector = scaled scale order (vector_of cs) in
    let j = c.loop-word.word-index in
    let index = c.len-index.ensures.value ∙ c.loop-word.invariant.part.places in
    let made : None ≡ bounded (E j) =
    sym c.in_default.is ∙ c.scaled_coefficient.ensures ∙ ap (λ k. bounded (vector_of cs j *ℤ pos (scale.numerator ^ k * scale.denominator ^ (order - k)))) index in
    wide_list scale cs c.len-index.result (first_at E j (length cs) (omega arith) c.loop-word.invariant.narrow (wide_at (E j) made) ∙ ap Some (sym index))

pub returns-clause-exact : goal.returns-clause-exact
returns-clause-exact c =
    let cs = c.args.coeffs.now in
    let scale : Dyadic = record { numerator = c.args.scale.numerator; denominator = c.args.scale.denominator } in
    let E : Vector = scaled scale (length cs - 1) (vector_of cs) in
    let all : c.loop-word.word-index ≡ length cs = omega arith in
    let xs = c.loop-word.list.items in
    let P : ℕ → Type 0 = λ k. IsPart E k xs in
    whole_list scale cs xs (ap (first_wide E) (sym all) ∙ c.loop-word.invariant.narrow) (subst P all c.loop-word.invariant.part)
