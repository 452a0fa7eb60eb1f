-- Names: How a number between two neighbours becomes one of them.
use Rattle.std.specs.Prelude.{ℕ, List, [], ◌∷◌, codes}
use Rattle.dsv_names.specs.declared.rounding.Rounding.{Rounding}
use Rattle.dsv_names.specs.declared.rounding.Rounding.TheVariants as rounding

abbrev pub rounding_name : Rounding → List ℕ
rounding_name rounding.Floor = codes "FLOOR"
rounding_name rounding.Ceil = codes "CEIL"
rounding_name rounding.Nearest = codes "NEAREST"

abbrev pub roundings : List Rounding
roundings = rounding.Floor ∷ rounding.Ceil ∷ rounding.Nearest ∷ []
