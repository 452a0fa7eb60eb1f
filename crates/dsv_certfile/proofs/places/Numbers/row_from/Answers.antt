use Rattle.std.proofs.Common.{arith}
use Rattle.dsv_certfile.proofs.Filling.{row_from_place}
use Rattle.dsv_certfile.proofs.places.Numbers.row_from.Goals as goal

pub returns : goal.returns
returns c = row_from_place c.loop-j.row c.args.self.now c.args.place c.loop-j.invariant.long (λ k h. c.loop-j.invariant.same k (omega arith))
