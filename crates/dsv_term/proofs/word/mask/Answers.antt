use Rattle.dsv_term.proofs.Wrapping.{narrow, mask_is}
use Rattle.dsv_term.proofs.word.mask.Goals as goal

pub returns : goal.returns
returns c = mask_is 128 c.args.width (narrow c.requires)
