use Rattle.dsv_c_reading.proofs.MemberNames.{controller_members_are, cascade_members_are, state_members_are}
use Rattle.dsv_c_reading.proofs.Whole.{prefix_good}
use Rattle.dsv_c_reading.proofs.law.names_are_good.Goals as goal

pub returns-clause-prefixes : goal.returns-clause-prefixes
returns-clause-prefixes c = prefix_good

pub returns-clause-controllers : goal.returns-clause-controllers
returns-clause-controllers c = controller_members_are

pub returns-clause-cascades : goal.returns-clause-cascades
returns-clause-cascades c = cascade_members_are

pub returns-clause-states : goal.returns-clause-states
returns-clause-states c = state_members_are
