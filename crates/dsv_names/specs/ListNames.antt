-- Names: Where a number of a controller stands: in one of its two lists of coefficients, or alone.
use Rattle.std.specs.Prelude.{ℕ, List, [], ◌∷◌, codes}
use Rattle.dsv_names.specs.declared.list_name.ListName.{ListName}
use Rattle.dsv_names.specs.declared.list_name.ListName.TheVariants as list

abbrev pub list_name : ListName → List ℕ
list_name list.B = codes "b"
list_name list.A = codes "a"
list_name list.Delta = codes "delta"
list_name list.Min = codes "min"
list_name list.Max = codes "max"

abbrev pub list_names : List ListName
list_names = list.B ∷ list.A ∷ list.Delta ∷ list.Min ∷ list.Max ∷ []
