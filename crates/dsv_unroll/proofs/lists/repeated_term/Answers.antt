use Rattle.std.proofs.Common.{List, [], ◌∷◌, ◌++◌, ◌∙◌, ap}
use Rattle.std.proofs.lemmas.List.{replicate_more}
use Rattle.dsv_term.specs.declared.node.TermId.{TermId}
use Rattle.dsv_unroll.proofs.lists.repeated_term.Goals as goal

pub loop-i-preserved : goal.loop-i-preserved
loop-i-preserved c =
    c.in_ok-push.ensures.items ∙ (ap (λ (ids : List TermId). ids ++ c.args.id ∷ []) c.loop-i.invariant ∙ replicate_more c.loop-i.i c.args.id)
