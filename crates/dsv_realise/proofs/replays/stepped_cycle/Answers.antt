use Rattle.std.proofs.Common.{set, refl, sym, ap, ◌∙◌, arith, rules, List}
use Rattle.std.proofs.Math.IntN.{ℤ, pos}
use Rattle.std.proofs.lemmas.Int.{to_z-of_z}
use mir.Syntax.{w64}
use mir.Val.{SFits}
use Rattle.std.proofs.lemmas.Bool.Decides.{Decides-int_eq, not_from_Decides}
use Rattle.std.proofs.lemmas.Slice.Eq.{slice_eq-Decides}
use Rattle.dsv_system.specs.RowViews.{row_of}
use Rattle.dsv_system.proofs.QuietRuns.{Moves, next_away, next_quiet_outputs, still_away, back_now}
use Rattle.dsv_netlist.specs.Systems.{system_of}
use Rattle.dsv_realise.proofs.ReplayLemmas.{net_moves}
use Rattle.dsv_realise.proofs.replays.stepped_cycle.Goals as goal

pub returns-then-eq : goal.returns-then-eq
returns-then-eq c =
    let net = c.args.net.now in
    let row = row_of c.next_row-row.result in
    let new = c.next_row-row.new.registers in
    let step : Moves (List ℤ) (system_of net) c.loop-done.registers new (pos 0) row = net_moves net c.loop-done.registers new (pos 0) row c.next_row-row.ensures.row c.next_row-row.ensures.registers in
    let same = slice_eq-Decides Decides-int_eq new c.args.start.now c.eq.result c.eq.ensures in
    let next = next_away (c.next_row-row.ensures.many ∙ sym c.loop-done.invariant.away.many) step c.is_heard-sounding.ensures c.loop-done.invariant.away in
    let back = back_now refl (omega arith) (same.0 c.if-eq.true) next in
    let fits : SFits w64 c.next_row-row.result.y = search rules in
    let written = next_quiet_outputs (omega arith) step c.loop-done.invariant.away.goes (ap (λ (y : ℤ). set c.loop-done.outputs c.loop-done.done y) (to_z-of_z w64 c.next_row-row.result.y fits)) c.loop-done.invariant.written in
    record { least = back.least; few = omega arith; sounding = back.loud; lasting = back.lasting; gone = tt; outputs = written.outputs; room = written.room }

pub loop-done-preserved : goal.loop-done-preserved
loop-done-preserved c =
    let net = c.args.net.now in
    let row = row_of c.next_row-row.result in
    let new = c.next_row-row.new.registers in
    let step : Moves (List ℤ) (system_of net) c.loop-done.registers new (pos 0) row = net_moves net c.loop-done.registers new (pos 0) row c.next_row-row.ensures.row c.next_row-row.ensures.registers in
    let same = slice_eq-Decides Decides-int_eq new c.args.start.now c.eq.result c.eq.ensures in
    let next = next_away (c.next_row-row.ensures.many ∙ sym c.loop-done.invariant.away.many) step c.is_heard-sounding.ensures c.loop-done.invariant.away in
    let fits : SFits w64 c.next_row-row.result.y = search rules in
    record {
      words = c.next_row-row.ensures.words;
      away = still_away refl (not_from_Decides c.eq.result same c.if-eq.false) next;
      written = next_quiet_outputs (omega arith) step c.loop-done.invariant.away.goes (ap (λ (y : ℤ). set c.loop-done.outputs c.loop-done.done y) (to_z-of_z w64 c.next_row-row.result.y fits)) c.loop-done.invariant.written;
    }
