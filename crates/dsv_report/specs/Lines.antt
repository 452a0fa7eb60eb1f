-- Parts of lines.
use Rattle.std.specs.Prelude.{ℕ, ◌+◌, pos, List, [], ◌∷◌, ◌++◌, codes}
use Rattle.std.specs.Fmt.{signed_decimal}
use Rattle.dsv_names.specs.Properties.{property_name}
use Rattle.dsv_names.specs.declared.property.Property.{Property}
use Rattle.dsv_names.specs.Realisations.{realisation_name}
use Rattle.dsv_names.specs.declared.realisation.Realisation.{Realisation}
use Rattle.dsv_report.specs.Fragments.{concatenation}

-- a property, before the realisation in the same line
abbrev pub property_text : Property → List ℕ
property_text property = concatenation (codes "property " ∷ property_name property ∷ codes " " ∷ [])

abbrev pub realisation_text : Realisation → List ℕ
realisation_text realisation =
    concatenation (codes "realization " ∷ realisation_name realisation ∷ [])

-- a word and a number after it
abbrev pub numbered : List ℕ → ℕ → List ℕ
numbered word number = concatenation (word ∷ signed_decimal (pos number) ∷ [])

-- the same, up to the end of the line
abbrev pub number_line : List ℕ → ℕ → List ℕ
number_line word number =
    concatenation (word ∷ signed_decimal (pos number) ∷ codes "\n" ∷ [])

-- the lines of a list, each by its number; the first has this one
abbrev pub numbered_lines : {A : Type 0} → (ℕ → A → List ℕ) → ℕ → List A → List ℕ
numbered_lines text number [] = []
numbered_lines text number (x ∷ xs) = text number x ++ numbered_lines text (number + 1) xs
