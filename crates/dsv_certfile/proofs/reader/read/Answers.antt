use Rattle.std.proofs.Common.{◌≡◌, Ok, rules}
use Rattle.dsv_certfile.specs.Reading.{certificate_in}
use Rattle.dsv_certfile.proofs.LawfulCertificates.{read_is_lawful}
use Rattle.dsv_certfile.proofs.reader.read.Goals as goal

pub returns-clause-lawful : goal.returns-clause-lawful
returns-clause-lawful c =
    let read : certificate_in c.args.bytes.now ≡ Ok c.in_ok-certificate.certificate = search rules in
    read_is_lawful c.args.bytes.now c.in_ok-certificate.certificate read
