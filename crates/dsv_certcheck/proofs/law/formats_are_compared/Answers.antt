use Rattle.dsv_certcheck.proofs.Formats.{formats_are_compared}
use Rattle.dsv_certcheck.proofs.law.formats_are_compared.Goals as goal

pub returns : goal.returns
returns c = formats_are_compared
