use Rattle.std.proofs.Common.{arith, inl, inr, sym, ◌∙◌}
use Rattle.dsv_gain.proofs.NarrowingLoops.{narrower_past}
use Rattle.dsv_gain.proofs.box_ranges.are_narrower.Goals as goal

pub returns : goal.returns
returns c =
    sym (narrower_past c.args.a.now c.args.b.now c.loop-i.i (elim c.shorter_length-count.ensures.one [
      | inl e ↦ inl (omega arith)
      | inr e ↦ inr (omega arith)
    ])) ∙ c.loop-i.invariant
