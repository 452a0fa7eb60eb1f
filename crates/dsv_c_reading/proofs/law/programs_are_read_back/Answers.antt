use Rattle.dsv_c_reading.proofs.Whole.{read_back}
use Rattle.dsv_c_reading.proofs.law.programs_are_read_back.Goals as goal

pub returns : goal.returns
returns c = read_back
