use Rattle.dsv_certcheck.proofs.Misfits.{loops_misfit_alone, others_misfit_loops}
use Rattle.dsv_certcheck.proofs.law.checks_are_apart.Goals as goal

pub returns-clause-alone : goal.returns-clause-alone
returns-clause-alone c = loops_misfit_alone

pub returns-clause-beside : goal.returns-clause-beside
returns-clause-beside c = others_misfit_loops
