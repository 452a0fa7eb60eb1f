use Rattle.dsv_c_reading.proofs.Whole.{subjects_back}
use Rattle.dsv_c_reading.proofs.law.subjects_are_read_back.Goals as goal

pub returns : goal.returns
returns c = subjects_back
