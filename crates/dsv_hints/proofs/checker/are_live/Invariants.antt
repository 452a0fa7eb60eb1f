use Rattle.std.proofs.Common.{◌≡◌, drop}
use Rattle.dsv_hints.specs.Derivation.{all_live}
use Rattle.dsv_hints.proofs.checker.are_live.Given as goal

abbrev pub invariant-loop-id : goal.invariant-loop-id
invariant-loop-id l = all_live l.store.live (drop l.id-index l.ids) ≡ all_live l.store.live l.ids
