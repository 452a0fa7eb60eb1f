use Rattle.std.proofs.Common.{List, get_or, set, refl, ap, subst, arith, rules}
use Rattle.std.proofs.Math.IntN.{ℤ, pos}
use Rattle.std.specs.List.{All}
use Rattle.std.proofs.lemmas.Int.{to_z-of_z}
use mir.Syntax.{w64, w128}
use mir.Val.{SFits}
use Rattle.dsv_word.specs.declared.format.Format.{Format}
use Rattle.dsv_word.specs.Words.{IsWord}
use Rattle.dsv_system.specs.RowViews.{row_of}
use Rattle.dsv_system.specs.OutsideValues.{IsFirstOutside}
use Rattle.dsv_meaning.proofs.ReplayLemmas.{Steps, unbroken_more, breaks_here, next_outputs}
use Rattle.dsv_meaning.proofs.replays.replay_overflow.Goals as goal

pub returns-in-Some-clause-first : goal.returns-in-Some-clause-first
returns-in-Some-clause-first c =
    let q = c.args.quantised.now in
    let exact = c.in-Some.found.exact in
    let value = c.in-Some.found.value in
    let row = row_of c.next_row-row.result in
    let wide : SFits w128 exact = search rules in
    let found : IsFirstOutside q.format row.exact value exact =
    subst (λ (f : Format). IsFirstOutside f row.exact value exact) c.format-format.ensures.same
    (subst (λ (es : List ℤ). IsFirstOutside c.format-format.result es value exact) c.as_slice.ensures.value c.in-Some.ensures.first) in
    let step : Steps q c.loop-i.registers.items c.next_row-row.new.registers.items (get_or c.args.inputs.now c.loop-i.i (pos 0)) row = record {
      numerator = c.zero_registers-registers.ensures.numerator;
      many = c.loop-i.invariant.unbroken.many;
      row_is = c.next_row-row.ensures.row;
      new_is = c.next_row-row.ensures.registers;
    } in
    rw (to_z-of_z w128 exact wide) (breaks_here (omega arith) refl step c.loop-i.invariant.unbroken found)

pub loop-i-preserved : goal.loop-i-preserved
loop-i-preserved c =
    let q = c.args.quantised.now in
    let row = row_of c.next_row-row.result in
    let inside : All (IsWord q.format) row.exact = search rules in
    let fits : SFits w64 c.next_row-row.result.y = search rules in
    let step : Steps q c.loop-i.registers.items c.next_row-row.new.registers.items (get_or c.args.inputs.now c.loop-i.i (pos 0)) row = record {
      numerator = c.zero_registers-registers.ensures.numerator;
      many = c.loop-i.invariant.unbroken.many;
      row_is = c.next_row-row.ensures.row;
      new_is = c.next_row-row.ensures.registers;
    } in
    record {
      unbroken = unbroken_more (omega arith) refl c.next_row-row.ensures.many step c.loop-i.invariant.unbroken inside;
      written = next_outputs (omega arith) refl step c.loop-i.invariant.unbroken (ap (λ (y : ℤ). set c.loop-i.outputs c.loop-i.i y) (to_z-of_z w64 c.next_row-row.result.y fits)) c.loop-i.invariant.written;
    }

pub returns-in-Some-clause-outputs : goal.returns-in-Some-clause-outputs
returns-in-Some-clause-outputs c =
    let q = c.args.quantised.now in
    let row = row_of c.next_row-row.result in
    let step : Steps q c.loop-i.registers.items c.next_row-row.new.registers.items (get_or c.args.inputs.now c.loop-i.i (pos 0)) row = record {
      numerator = c.zero_registers-registers.ensures.numerator;
      many = c.loop-i.invariant.unbroken.many;
      row_is = c.next_row-row.ensures.row;
      new_is = c.next_row-row.ensures.registers;
    } in
    let fits : SFits w64 c.next_row-row.result.y = search rules in
    (next_outputs (omega arith) refl step c.loop-i.invariant.unbroken (ap (λ (y : ℤ). set c.loop-i.outputs c.loop-i.i y) (to_z-of_z w64 c.next_row-row.result.y fits)) c.loop-i.invariant.written).outputs
