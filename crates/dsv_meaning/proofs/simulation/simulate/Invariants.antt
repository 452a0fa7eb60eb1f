use Rattle.std.proofs.Common.{◌≡◌, ◌++◌, length, drop, map}
use Rattle.dsv_system.specs.Runs.{rows_from}
use Rattle.dsv_system.specs.RowViews.{row_of}
use Rattle.dsv_meaning.specs.Equations.{order, sample, start_as, registers_of}
use Rattle.dsv_system.specs.Systems.{rows}
use Rattle.dsv_meaning.specs.Systems.{equations_of}
use Rattle.dsv_meaning.proofs.simulation.simulate.Given as goal

abbrev pub invariant-loop-x : goal.invariant-loop-x
invariant-loop-x l = record {
  same : map row_of l.rows.items ++ rows_from (sample l.quantised) (start_as l.quantised.realisation (order l.quantised) l.registers.items) (drop l.x-index l.inputs)
      ≡ rows (equations_of l.quantised) l.fn.start l.inputs;
  many : length l.registers.items ≡ registers_of l.quantised.realisation (order l.quantised);
}
