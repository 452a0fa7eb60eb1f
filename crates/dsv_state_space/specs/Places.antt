-- Where the numbers of a state-space controller stand.
use Rattle.std.specs.Prelude.{ℕ, List, [], ◌∷◌, codes}
use Rattle.dsv_state_space.specs.declared.place.Place.{Place}
use Rattle.dsv_state_space.specs.declared.place.Place.TheVariants as place

abbrev pub place_name : Place → List ℕ
place_name place.A = codes "a"
place_name place.B = codes "b"
place_name place.C = codes "c"
place_name place.D = codes "d"
place_name place.Min = codes "min"
place_name place.Max = codes "max"

abbrev pub place_values : List Place
place_values = place.A ∷ place.B ∷ place.C ∷ place.D ∷ place.Min ∷ place.Max ∷ []
