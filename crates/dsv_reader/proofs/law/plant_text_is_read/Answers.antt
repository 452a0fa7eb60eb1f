use Rattle.dsv_reader.proofs.PlantTexts.{plant_text_taken, plant_text_read}
use Rattle.dsv_reader.proofs.law.plant_text_is_read.Goals as goal

pub returns : goal.returns
returns c = λ bytes p. (plant_text_taken bytes p, plant_text_read bytes p)
