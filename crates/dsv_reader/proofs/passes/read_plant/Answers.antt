use Rattle.dsv_reader.proofs.PlantTexts.{gives_plant_text}
use Rattle.dsv_reader.proofs.passes.read_plant.Goals as goal

pub returns-clause-text : goal.returns-clause-text
returns-clause-text c = gives_plant_text c.args.bytes.now c.read_plant_passes.result c.read_plant_passes.ensures
