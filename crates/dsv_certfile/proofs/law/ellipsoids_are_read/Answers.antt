use Rattle.dsv_certfile.proofs.LawfulEllipsoids.{ellipsoid_is_lawful, text_of_ellipsoid}
use Rattle.dsv_certfile.proofs.WrittenEllipsoids.{written_ellipsoid}
use Rattle.dsv_certfile.proofs.law.ellipsoids_are_read.Goals as goal

pub returns-clause-back : goal.returns-clause-back
returns-clause-back c = written_ellipsoid

pub returns-clause-lawful : goal.returns-clause-lawful
returns-clause-lawful c = ellipsoid_is_lawful

pub returns-clause-text : goal.returns-clause-text
returns-clause-text c = text_of_ellipsoid
