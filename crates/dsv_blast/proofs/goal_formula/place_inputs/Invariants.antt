use Rattle.std.proofs.Common.{◌≡◌, ◌++◌, ◌+◌, ◌<◌, ◌^◌, drop}
use Rattle.dsv_blast.specs.Blast.{places_from, total}
use Rattle.dsv_blast.proofs.goal_formula.place_inputs.Given as goal

abbrev pub invariant-loop-width : goal.invariant-loop-width
invariant-loop-width l = record {
  few : l.vars < 2 ^ 31;
  sum : l.vars + total (drop l.width-index l.widths) ≡ total l.widths;
  rest : l.places ++ places_from l.vars (drop l.width-index l.widths) ≡ places_from 0 l.widths;
}
