use Rattle.dsv_certfile.proofs.LawfulCertificates.{read_is_lawful, text_of_certificate}
use Rattle.dsv_certfile.proofs.WrittenCertificates.{written_is_read}
use Rattle.dsv_certfile.proofs.law.certificates_are_read.Goals as goal

pub returns-clause-back : goal.returns-clause-back
returns-clause-back c = written_is_read

pub returns-clause-lawful : goal.returns-clause-lawful
returns-clause-lawful c = read_is_lawful

pub returns-clause-text : goal.returns-clause-text
returns-clause-text c = text_of_certificate
