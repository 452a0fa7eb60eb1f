use Rattle.std.proofs.Common.{subst}
use Rattle.dsv_reader.specs.Texts.{IsPlantText}
use Rattle.dsv_files.proofs.FileBytes.{plant_faulty}
use Rattle.dsv_files.proofs.plant_file.read_plant_file.Goals as goal

pub returns-clause-unread : goal.returns-clause-unread
returns-clause-unread g c =
    rw c.of_file.ensures (plant_faulty (g.F.Files.seen c.args.files.now) (g.F.Files.seen c.read_bytes.new.files) c.args.name.now c.in_ok-bytes.bytes c.in-Err.refusal c.in_ok-bytes.ensures.whole c.in_ok-bytes.ensures.fits
    (rw c.as_slice.ensures at c.in-Err.ensures.value))

pub returns-in-Ok-clause-plant : goal.returns-in-Ok-clause-plant
returns-in-Ok-clause-plant g c =
    let plant = c.in-Ok.plant in
    (c.in_ok-bytes.bytes, c.in_ok-bytes.ensures.whole, (c.in_ok-bytes.ensures.fits, subst (λ bytes. IsPlantText bytes plant) c.as_slice.ensures c.in-Ok.ensures.text))
