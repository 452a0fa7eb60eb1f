use Rattle.dsv_state_file.proofs.ReadFiles.{state_read}
use Rattle.dsv_state_file.proofs.Suffixes.{suffix_law}
use Rattle.dsv_state_file.proofs.WrittenFiles.{state_taken}
use Rattle.dsv_state_file.proofs.law.state_texts_are_read.Goals as goal

pub returns-clause-read : goal.returns-clause-read
returns-clause-read c = state_taken

pub returns-clause-lawful : goal.returns-clause-lawful
returns-clause-lawful c = state_read

pub returns-clause-bare : goal.returns-clause-bare
returns-clause-bare c = suffix_law
