use Rattle.dsv_syntax.proofs.UnexpectedLemmas.{each_refusal, refused_where_it_stops, stops_where_refused}
use Rattle.dsv_syntax.proofs.law.first_unexpected_is_refused.Goals as goal

pub returns-clause-kind : goal.returns-clause-kind
returns-clause-kind c = each_refusal

pub returns-clause-refused : goal.returns-clause-refused
returns-clause-refused c = refused_where_it_stops

pub returns-clause-found : goal.returns-clause-found
returns-clause-found c = stops_where_refused
