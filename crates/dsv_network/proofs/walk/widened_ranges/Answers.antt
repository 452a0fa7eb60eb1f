use Rattle.std.proofs.Common.{◌∙◌, ap, arith, Vec, Global}
use Rattle.std.specs.Prelude.{List}
use Rattle.dsv_linear.specs.declared.range.Range.{Range}
use Rattle.dsv_network.proofs.Widening.{widened_inside, widened_past}
use Rattle.dsv_network.specs.Samples.{widened}
use Rattle.dsv_network.proofs.walk.widened_ranges.Goals.{then-j-len, else-j-len}
use Rattle.dsv_network.proofs.walk.widened_ranges.Goals as goal

pub returns : goal.returns
returns c = elim c.if-j-len.branch [
  | then-j-len w ↦ c.from.ensures ∙ ap (λ (v : Vec Range Global). v.items) w.list-is
      ∙ widened_inside c.into_vec-list.result.items c.args.j c.args.range.now w.hull.result w.index.result.now (grind arith) w.index.ensures w.hull.ensures
      ∙ ap (λ (rs : List Range). widened rs c.args.j c.args.range.now) c.into_vec-list.ensures
  | else-j-len w ↦ c.from.ensures ∙ ap (λ (v : Vec Range Global). v.items) w.list-is ∙ c.into_vec-list.ensures ∙ widened_past c.args.ranges c.args.j c.args.range.now (grind arith)
]
