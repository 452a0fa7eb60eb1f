use Rattle.dsv_trail.proofs.PlaceLemmas.{place-kept}
use Rattle.dsv_trail.proofs.marks.MarkList.place_of.Goals as goal

pub returns : goal.returns
returns c = rw (← c.self.view_is) (place-kept c.self.inside c.args.literal c.index.result.now c.self.invariant (rw (← c.self.view_is) at c.requires.is_false) (rw c.var.ensures.value at c.index.ensures))
