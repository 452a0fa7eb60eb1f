use Rattle.dsv_loop.proofs.Multiples.{plant_whole}
use Rattle.dsv_loop.proofs.law.plant_is_made_whole.Goals as goal

pub returns : goal.returns
returns c = plant_whole
