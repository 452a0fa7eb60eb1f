use Rattle.dsv_certfile.proofs.RangeLemmas.{ok_are_of}
use Rattle.dsv_certfile.proofs.places.read_numbers.Goals as goal

pub returns-clause-ranges : goal.returns-clause-ranges
returns-clause-ranges c = ok_are_of c.args.places.now c.args.pieces c.numbers_at.result c.numbers_at.ensures
