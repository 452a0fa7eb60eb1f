use Rattle.std.proofs.Common.{◌≡◌, drop}
use Rattle.dsv_hints.specs.Derivation.{without_all}
use Rattle.dsv_hints.proofs.checker.remove_all.Given as goal

abbrev pub invariant-loop-id : goal.invariant-loop-id
invariant-loop-id l =
    let rest = without_all l.store.live (drop l.id-index l.ids) in
    record l.store { live = rest } ≡ record l.fn.store { live = without_all l.fn.store.live l.ids }
