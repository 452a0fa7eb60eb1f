use Rattle.dsv_trail.proofs.Justifications.{justified-more}
use Rattle.dsv_trail.proofs.law.more_clauses_keep_reasons.Goals as goal

pub returns : goal.returns
returns c t clauses more h = justified-more t clauses more h
