use Rattle.dsv_token.proofs.CutLaws.{cut_law, stop_law, each_law}
use Rattle.dsv_token.proofs.cut.one_cut.Goals as goal

pub returns-clause-cut : goal.returns-clause-cut
returns-clause-cut c = cut_law

pub returns-clause-stops : goal.returns-clause-stops
returns-clause-stops c = stop_law

pub returns-clause-each : goal.returns-clause-each
returns-clause-each c = each_law
