use Rattle.dsv_forms.proofs.Alike.{offers_are_read_in_places}
use Rattle.dsv_forms.proofs.SmallOffers.{accepted_are_narrow}
use Rattle.dsv_forms.proofs.law.offers_are_read_in_their_places.Goals as goal

pub returns-clause-places : goal.returns-clause-places
returns-clause-places c = offers_are_read_in_places

pub returns-clause-narrow : goal.returns-clause-narrow
returns-clause-narrow c = accepted_are_narrow
