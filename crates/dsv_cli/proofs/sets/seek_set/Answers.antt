use Rattle.std.proofs.Common.{subst}
use Rattle.dsv_quantiser.specs.QuantisedView.{QuantisedView}
use Rattle.dsv_base.specs.Lists.{AreBlocks}
use Rattle.dsv_cli.specs.SetAsking.{IfNoSet}
use Rattle.dsv_invariant.specs.Sets.{candidates, told_for}
use Rattle.dsv_cli.proofs.sets.seek_set.Goals as goal

pub returns-clause-blocks : goal.returns-clause-blocks
returns-clause-blocks g c =
    let asked = c.in_ok-asked_sets in
    subst (λ (q : QuantisedView). IfNoSet asked.field-0 (λ kept. AreBlocks 32
    (told_for (λ b shape. (goal.InvariantProposer-dyn g (b.vtable, b.value)).to_come b.value shape) q c.args.sets.now.items) (candidates kept)))
    c.in_ok-asking.ensures asked.ensures.blocks
