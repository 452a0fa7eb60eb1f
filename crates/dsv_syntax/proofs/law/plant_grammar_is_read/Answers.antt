use Rattle.dsv_syntax.proofs.PlantFiles.{plant_read, plant_taken}
use Rattle.dsv_syntax.proofs.law.plant_grammar_is_read.Goals as goal

pub returns-clause-read : goal.returns-clause-read
returns-clause-read c = plant_read

pub returns-clause-taken : goal.returns-clause-taken
returns-clause-taken c = plant_taken
