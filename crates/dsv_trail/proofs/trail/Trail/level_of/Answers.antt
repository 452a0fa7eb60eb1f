use Rattle.dsv_trail.proofs.MarkLemmas.{found}
use Rattle.dsv_trail.proofs.trail.Trail.level_of.Goals as goal

pub returns-clause-most : goal.returns-clause-most
returns-clause-most c =
    let f = found c.self.inside.marks.marks c.args.var c.mark.result c.mark.ensures in
    rw (← c.self.view_is) (c.self.invariant.levels.levels f.place c.mark.result f.at).few
