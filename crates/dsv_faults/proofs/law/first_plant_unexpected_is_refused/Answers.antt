use Rattle.dsv_faults.proofs.PlantUnexpected.{refused_where_it_stops, stops_where_refused}
use Rattle.dsv_faults.proofs.law.first_plant_unexpected_is_refused.Goals as goal

pub returns-clause-refused : goal.returns-clause-refused
returns-clause-refused c = refused_where_it_stops

pub returns-clause-found : goal.returns-clause-found
returns-clause-found c = stops_where_refused
