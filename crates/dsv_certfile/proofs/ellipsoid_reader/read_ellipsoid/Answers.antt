use Rattle.std.proofs.Common.{◌≡◌, Ok, rules}
use Rattle.dsv_certfile.specs.Ellipsoids.{ellipsoid_in}
use Rattle.dsv_certfile.proofs.LawfulEllipsoids.{ellipsoid_is_lawful}
use Rattle.dsv_certfile.proofs.ellipsoid_reader.read_ellipsoid.Goals as goal

pub returns-clause-lawful : goal.returns-clause-lawful
returns-clause-lawful c =
    let read : ellipsoid_in c.args.bytes.now ≡ Ok c.in_ok-ellipsoid.ellipsoid = search rules in
    ellipsoid_is_lawful c.args.bytes.now c.in_ok-ellipsoid.ellipsoid read
