use Rattle.std.proofs.Common.{◌∙◌, sym}
use Rattle.dsv_delta.proofs.Multiples.{multiple_none}
use Rattle.dsv_delta.proofs.denominators.multiple.Goals as goal

pub returns-in_err-common-clause-value : goal.returns-in_err-common-clause-value
returns-in_err-common-clause-value c = λ n h e.
    c.from_residual.ensures ∙ sym (multiple_none n c.args.fraction.now.den h c.to_parts-den.ensures.lowest.positive (sym e ∙ c.in_err-common.was))
