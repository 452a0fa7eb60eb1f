use Rattle.std.proofs.Common.{◌≡◌, ◌+◌, ◌-◌, ◌*◌, ◌^◌, ℤ, pos, ◌*ℤ◌, List, length, subst, sym, ap, ◌∙◌, refl, arith}
use Rattle.dsv_algebra.specs.Vectors.{Vector, vector_of}
use Rattle.dsv_delta.specs.ZCoefficients.{Dyadic, scaled}
use Rattle.dsv_delta.specs.Differences.{differences}
use Rattle.dsv_delta.proofs.Alternating.{IsPart, next_part}
use Rattle.dsv_loop.proofs.Expansions.{whole_part}
use Rattle.dsv_loop.proofs.expansion.expansion.Goals as goal

pub loop-word-init : goal.loop-word-init
loop-word-init c = rw c.new-list.ensures (record { places = refl; values = λ i h. absurd (omega arith) })

pub loop-word-preserved : goal.loop-word-preserved
loop-word-preserved c =
    let cs = c.args.words.now in
    let order = length cs - 1 in
    let scale : Dyadic = record { numerator = c.args.scale.numerator; denominator = c.args.scale.denominator } in
    let E : Vector = scaled scale order (vector_of cs) in
    let j = c.loop-word.word-index in
    let xs = c.loop-word.list in
    let index = c.len.ensures ∙ c.loop-word.invariant.places in
    let e = c.in_ok-e.e in
    let is : e ≡ E j = c.in_ok-e.ensures ∙ ap (λ k. vector_of cs j *ℤ pos (scale.numerator ^ k * scale.denominator ^ (order - k))) index in
    let P : List ℤ → Type 0 = IsPart E (j + 1) in
    subst P (sym (c.in_ok-list.ensures ∙ ap (λ (ys : List ℤ). differences (pos 0) ys e) c.as_slice.ensures)) (next_part E j xs e c.loop-word.invariant is)

pub returns : goal.returns
returns c =
    let cs = c.args.words.now in
    let scale : Dyadic = record { numerator = c.args.scale.numerator; denominator = c.args.scale.denominator } in
    whole_part scale cs c.loop-word.list c.loop-word.word-index (omega arith) c.loop-word.invariant
