-- Names: The fields of the block `hardware` that are read: the clock and what the parts of a sample
-- cost.
use Rattle.std.specs.Prelude.{ℕ, List, [], ◌∷◌, codes}
use Rattle.dsv_names.specs.declared.setting.Setting.{Setting}
use Rattle.dsv_names.specs.declared.setting.Setting.TheVariants as setting

abbrev pub setting_name : Setting → List ℕ
setting_name setting.Clock = codes "clock"
setting_name setting.CostSample = codes "cost_sample"
setting_name setting.CostMul = codes "cost_mul"
setting_name setting.CostAdd = codes "cost_add"
setting_name setting.CostRound = codes "cost_round"
setting_name setting.CostFit = codes "cost_fit"
setting_name setting.CostMoves = codes "cost_moves"

abbrev pub settings : List Setting
settings = setting.Clock ∷ setting.CostSample ∷ setting.CostMul ∷ setting.CostAdd
    ∷ setting.CostRound ∷ setting.CostFit ∷ setting.CostMoves ∷ []
