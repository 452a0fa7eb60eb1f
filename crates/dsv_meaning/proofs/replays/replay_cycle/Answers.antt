use Rattle.std.proofs.Common.{set, sym, ap, ◌∙◌, arith, rules}
use Rattle.std.proofs.Math.IntN.{ℤ, pos}
use Rattle.std.proofs.lemmas.Int.{to_z-of_z}
use mir.Syntax.{w64}
use mir.Val.{SFits}
use Rattle.std.proofs.lemmas.Bool.Decides.{Decides-int_eq, not_from_Decides}
use Rattle.std.proofs.lemmas.Slice.Eq.{slice_eq-Decides}
use Rattle.dsv_system.specs.RowViews.{row_of}
use Rattle.dsv_system.proofs.QuietRuns.{next_away, next_quiet_outputs, still_away, back_now}
use Rattle.dsv_meaning.proofs.ReplayLemmas.{Steps, moves, held}
use Rattle.dsv_meaning.proofs.replays.replay_cycle.Goals as goal

pub returns-then-eq : goal.returns-then-eq
returns-then-eq c =
    let q = c.args.quantised.now in
    let step : Steps q c.loop-done.registers.items c.next_row-row.new.registers.items (pos 0) (row_of c.next_row-row.result) = record {
      numerator = c.loaded_registers-registers.ensures.numerator;
      many = c.loop-done.invariant.away.many;
      row_is = c.next_row-row.ensures.row;
      new_is = c.next_row-row.ensures.registers;
    } in
    let same = slice_eq-Decides Decides-int_eq c.as_slice.result.now c.args.start.now c.eq.result c.eq.ensures in
    let next = next_away c.next_row-row.ensures.many (moves step) c.is_heard-sounding.ensures c.loop-done.invariant.away in
    let back = back_now (held q c.next_row-row.new.registers.items next.many) (omega arith) (sym c.as_slice.ensures.value ∙ same.0 c.if-eq.true) next in
    let fits : SFits w64 c.next_row-row.result.y = search rules in
    let written = next_quiet_outputs (omega arith) (moves step) c.loop-done.invariant.away.goes (ap (λ (y : ℤ). set c.loop-done.outputs c.loop-done.done y) (to_z-of_z w64 c.next_row-row.result.y fits)) c.loop-done.invariant.written in
    record { least = back.least; few = omega arith; sounding = back.loud; lasting = back.lasting; gone = tt; outputs = written.outputs; room = written.room }

pub loop-done-preserved : goal.loop-done-preserved
loop-done-preserved c =
    let q = c.args.quantised.now in
    let step : Steps q c.loop-done.registers.items c.next_row-row.new.registers.items (pos 0) (row_of c.next_row-row.result) = record {
      numerator = c.loaded_registers-registers.ensures.numerator;
      many = c.loop-done.invariant.away.many;
      row_is = c.next_row-row.ensures.row;
      new_is = c.next_row-row.ensures.registers;
    } in
    let same = slice_eq-Decides Decides-int_eq c.as_slice.result.now c.args.start.now c.eq.result c.eq.ensures in
    let next = next_away c.next_row-row.ensures.many (moves step) c.is_heard-sounding.ensures c.loop-done.invariant.away in
    let fits : SFits w64 c.next_row-row.result.y = search rules in
    record {
      away = still_away (held q c.next_row-row.new.registers.items next.many) (λ e. not_from_Decides c.eq.result same c.if-eq.false (c.as_slice.ensures.value ∙ e)) next;
      written = next_quiet_outputs (omega arith) (moves step) c.loop-done.invariant.away.goes (ap (λ (y : ℤ). set c.loop-done.outputs c.loop-done.done y) (to_z-of_z w64 c.next_row-row.result.y fits)) c.loop-done.invariant.written;
    }
