use Rattle.dsv_gain.proofs.Errors.{offers_fit}
use Rattle.dsv_gain.proofs.law.offers_fit.Goals as goal

pub returns : goal.returns
returns c = offers_fit
