-- Scaffolding, which private contracts alone cite: a line, place by place.
use Rattle.std.specs.Prelude.{ℕ, List, [], ◌∷◌, ◌++◌, Bool, Option, Some, None, Result, Ok, Err}
use Rattle.std.specs.Prelude.{if◌then◌else◌, ℤ}
use Rattle.dsv_certfile.specs.Places.{is_bad_number, is_word_kept}
use Rattle.dsv_certfile.specs.declared.fault.TextFault.{TextFault}
use Rattle.dsv_certfile.specs.declared.fault.TextFault.TheVariants as fault
use Rattle.dsv_certfile.specs.declared.places.Place.{Place}

-- whether the wanted word stands at its place; NUMBER where a number should and doesn't
abbrev pub place_in : Place → List ℕ → Result Bool TextFault
place_in p piece = if is_bad_number p piece then Err fault.Number else Ok (is_word_kept p piece)

-- one number more, where there is one
abbrev pub with_number : List ℤ → Option ℤ → List ℤ
with_number numbers None = numbers
with_number numbers (Some n) = numbers ++ n ∷ []
