use Rattle.std.proofs.Common.{◌≡◌}
use Rattle.dsv_generator.specs.Controllers.{state_before}
use Rattle.dsv_generator.specs.Tallies.{IsTally}
use Rattle.dsv_generator.proofs.generator.generate.Given as goal

abbrev pub invariant-loop-index : goal.invariant-loop-index
invariant-loop-index l = record {
  state : l.state ≡ state_before l.seed l.index;
  tally : IsTally l.seed l.index l.tally l.spent;
}
