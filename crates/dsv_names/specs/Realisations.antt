-- The realisations and their names.
use Rattle.std.specs.Prelude.{Bool, true, false, ℕ, List, [], ◌∷◌, codes}
use Rattle.dsv_names.specs.declared.realisation.Realisation.{Realisation}
use Rattle.dsv_names.specs.declared.realisation.Realisation.TheVariants as realisation

abbrev pub realisation_name : Realisation → List ℕ
realisation_name realisation.Dfi = codes "DFI"
realisation_name realisation.Dfii = codes "DFII"
realisation_name realisation.Tdfii = codes "TDFII"
realisation_name realisation.Ddfi = codes "DDFI"
realisation_name realisation.Ddfii = codes "DDFII"
realisation_name realisation.Tddfii = codes "TDDFII"

abbrev pub realisations : List Realisation
realisations = realisation.Dfi ∷ realisation.Dfii ∷ realisation.Tdfii ∷ realisation.Ddfi
    ∷ realisation.Ddfii ∷ realisation.Tddfii ∷ []

-- the realisation is a delta form
abbrev pub is_delta : Realisation → Bool
is_delta realisation.Ddfi = true
is_delta realisation.Ddfii = true
is_delta realisation.Tddfii = true
is_delta realisation.Dfi = false
is_delta realisation.Dfii = false
is_delta realisation.Tdfii = false
