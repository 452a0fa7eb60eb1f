use Rattle.dsv_certcheck.proofs.Formats.{no_loop_is_refused}
use Rattle.dsv_certcheck.proofs.law.no_loop_is_refused_alone.Goals as goal

pub returns : goal.returns
returns c = no_loop_is_refused
