use Rattle.std.proofs.Common.{refl, rules}
use Rattle.std.proofs.lemmas.Int.{to_z-of_z}
use mir.Syntax.{w64}
use mir.Val.{SFits}
use Rattle.dsv_state_space.proofs.StateWords.{is_state_view, short_rows}
use Rattle.dsv_state_space.proofs.system.StateSystem.in_words.Goals as goal

pub rows_words-requires-clause-short : goal.rows_words-requires-clause-short
rows_words-requires-clause-short c = short_rows (λ row. row.items) c.a.result.now c.args.file.now c.a.ensures.same c.a.ensures.lawful

pub invariant_of-result : goal.invariant_of-result
invariant_of-result c =
    let direct : SFits w64 c.in_ok-d.d = search rules in
    let low : SFits w64 c.in_ok-inputs.inputs.lo = search rules in
    let high : SFits w64 c.in_ok-inputs.inputs.hi = search rules in
    rw (to_z-of_z w64 c.in_ok-d.d direct, to_z-of_z w64 c.in_ok-inputs.inputs.lo low, to_z-of_z w64 c.in_ok-inputs.inputs.hi high)
    (is_state_view c.args.file.now c.args.format (record { a = c.in_ok-a.a.items; b = c.in_ok-b.b; c = c.in_ok-c.c; d = c.in_ok-d.d; xlo = c.in_ok-inputs.inputs.lo; xhi = c.in_ok-inputs.inputs.hi; format = c.args.format })
    c.a.ensures.lawful
    (record {
      same_format = refl;
      a = rw c.a.ensures.same at c.in_ok-a.ensures.meaning;
      b = rw c.b.ensures.same at c.in_ok-b.ensures.meaning;
      c = rw c.c.ensures.same at c.in_ok-c.ensures.meaning;
      d = rw c.d.ensures at c.in_ok-d.ensures.meaning;
      range = rw (c.min.ensures, c.max.ensures) at c.in_ok-inputs.ensures.meaning;
    }))
