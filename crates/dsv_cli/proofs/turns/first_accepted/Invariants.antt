use Rattle.std.proofs.Common.{◌-◌, ◌*◌, ◌<◌, length}
use Rattle.dsv_cli.specs.Turns.{Turns, Gives}
use Rattle.dsv_cli.proofs.turns.first_accepted.Given as goal

abbrev pub invariant-asking : goal.invariant-asking
invariant-asking g l = record {
  room : l.refused < 32;
  turns : Turns (Gives (goal.F-post g l.ask)) l.fn.proposers.items l.refused l.kept l.proposers.items;
}

abbrev pub decreases-asking : goal.decreases-asking
decreases-asking g l = 33 * length l.proposers.items - l.refused
