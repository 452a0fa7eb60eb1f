use Rattle.std.proofs.Common.{◌≤◌, ◌*◌, arith}
use Rattle.dsv_template.proofs.BoxLemmas.{boxes_from-none}
use Rattle.dsv_template.specs.Boxes.{sizes_of}
use Rattle.dsv_template.proofs.box_proposer.BoxProposer.is_done.Goals as goal

pub returns-else-self-clause-done : goal.returns-else-self-clause-done
returns-else-self-clause-done c h =
    let v = c.sizes_of.ensures.value in
    let over : 4 * sizes_of c.args.shape.now ≤ c.args.self.now.place = grind (arith, h, v) in
    boxes_from-none c.args.shape.now c.args.self.now.finished c.args.self.now.place over
