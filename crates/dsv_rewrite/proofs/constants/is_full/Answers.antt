use Rattle.std.proofs.Common.{ap}
use Rattle.std.specs.Prelude.{◌==◌}
use Rattle.dsv_term.proofs.Wrapping.{narrow, mask_is}
use Rattle.dsv_rewrite.proofs.constants.is_full.Goals as goal

pub returns : goal.returns
returns c = ap (λ k. c.args.word.number == k) (mask_is 128 c.args.word.width (narrow c.requires.lawful))
