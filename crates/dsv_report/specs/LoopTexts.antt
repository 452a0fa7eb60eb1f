-- The texts of why there is no loop of a controller or a cascade with a plant.
use Rattle.std.specs.Prelude.{ℕ, List, codes}
use Rattle.dsv_loop.specs.declared.refusal.LoopRefusal.{LoopRefusal}
use Rattle.dsv_loop.specs.declared.refusal.LoopRefusal.TheVariants as refusal

-- what follows is said of the plant's file
abbrev pub plant_line : List ℕ
plant_line = codes "plant\n"

-- the code and the name of a refusal
abbrev pub loop_refusal_text : LoopRefusal → List ℕ
loop_refusal_text refusal.Realisation = codes "LOOP REFUSED 65 REALISATION\n"
loop_refusal_text refusal.SampleTimes = codes "LOOP REFUSED 61 SAMPLE_TIME\n"
loop_refusal_text refusal.Algebraic = codes "LOOP REFUSED 62 ALGEBRAIC\n"
