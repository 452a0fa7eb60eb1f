use Rattle.std.proofs.Common.{refl}
use Rattle.dsv_invariant.specs.Sets.{told_for}
use Rattle.dsv_cli.proofs.OfferedSets.{were_offered}
use Rattle.dsv_cli.proofs.sets.sets_answer.Goals as goal

pub returns-in-Ok-NoInvariant-clause-proposers : goal.returns-in-Ok-NoInvariant-clause-proposers
returns-in-Ok-NoInvariant-clause-proposers g c =
    let e = c.in-Ok-NoInvariant.ensures in
    let is = c.in-Ok-NoInvariant.field-0-is in
    let causes = rw is at e.causes in
    record {
      suffix = e.suffix;
      unasked = λ n. absurd n;
      offered = tt;
      none_left = rw is at e.none_left;
      asked = (
        c.args.quantised.now,
        refl,
        were_offered c.args.quantised.now c.args.budget.now.conflicts
            (told_for (λ b shape. (goal.InvariantProposer-dyn g (b.vtable, b.value)).to_come b.value shape) c.args.quantised.now c.args.sets.now.items)
            c.in-Ok-NoInvariant.kept (rw is at e.blocks) causes.causes,
      );
    }
