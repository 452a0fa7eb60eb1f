use Rattle.std.proofs.Common.{arith, ap, sym, ◌∙◌, Some}
use Rattle.std.proofs.lemmas.Option.{slice_get_within, get_or_from_slice_get}
use Rattle.dsv_trail.proofs.MarkLemmas.{standing}
use Rattle.dsv_trail.proofs.marks.MarkList.mark.Goals as goal

pub index-requires-2 : goal.index-requires-2
index-requires-2 c =
    let s = standing c.self.inside c.args.var c.index.result.now c.self.invariant (rw (← c.self.view_is) at c.requires.over) (rw (← c.self.view_is) at c.requires.set) c.index.ensures in
    omega (arith, slice_get_within c.self.inside.marks.items c.index.result.now s.mark s.at, c.self.inside.marks.ok.0)

pub returns : goal.returns
returns c =
    let s = standing c.self.inside c.args.var c.index.result.now c.self.invariant (rw (← c.self.view_is) at c.requires.over) (rw (← c.self.view_is) at c.requires.set) c.index.ensures in
    rw (← c.self.view_is) (s.is ∙ ap Some (sym (c.index-2.ensures ∙ get_or_from_slice_get c.self.inside.marks.items c.index.result.now s.mark c.index-2.result.now s.at)))
