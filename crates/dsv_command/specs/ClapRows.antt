-- Scaffolding: what clap found, as parts.
use Rattle.std.specs.Prelude.{◌≡◌, ℕ, List, [], ◌∷◌, ◌++◌, Bool, true, false, Option, Some, None}
use Rattle.std.specs.Prelude.{if◌then◌else◌, is_some, find, option_and_then}
use Rattle.std.specs.Map.{lookup}
use Rattle.std.specs.Str.{bytes_eq}
use Rattle.clap.specs.Words.{Row, first_of}
use Rattle.clap.specs.declared.parser.matches.ValueSource.{ValueSource}
use Rattle.clap.specs.declared.parser.matches.ValueSource.TheVariants.{CommandLine}
use Rattle.dsv_command.specs.ClapCommand.{file_id}
use Rattle.dsv_command.specs.Parts.{PartView, file, flag, choice, for_option, has_key, file_of}
use Rattle.dsv_command.specs.Parts.{value_of, has_empty}

abbrev pub first_text : List (List ℕ) → List ℕ
first_text [] = []
first_text (text ∷ texts) = text

-- a row by what the table says of its id
abbrev pub part_of_row : Option Bool → Row → PartView
part_of_row None row = file (first_text row.values)
part_of_row (Some true) row = choice row.id (first_text row.values)
part_of_row (Some false) row = flag row.id

-- the source of what is given, and doesn't stand there by default
abbrev pub is_given_source : Option ValueSource → Bool
is_given_source (Some CommandLine) = true
is_given_source _ = false

-- the parts that were given: the rows but for defaults
abbrev pub parts_in : List (List ℕ × Bool) → List Row → List PartView
parts_in options [] = []
parts_in options (row ∷ rows) = (if is_given_source row.source
    then part_of_row (lookup (bytes_eq row.id) options) row ∷ [] else []) ++ parts_in options rows

-- an id was given
abbrev pub is_in_rows : List ℕ → List Row → Bool
is_in_rows id rows = is_given_source (option_and_then (λ row. row.source)
    (find (λ row. bytes_eq row.id id) rows))

-- rows answer as these parts do, and no text is empty
pub record AreRowsOf (options : List (List ℕ × Bool)) (rows : List Row) (parts : List PartView)
    : Type 0 where
  pub file : first_of file_id rows ≡ file_of parts
  pub value : (name : List ℕ) → lookup (bytes_eq name) options ≡ Some true
      → first_of name rows ≡ value_of name parts
  pub no_value : (name : List ℕ) → (lookup (bytes_eq name) options ≡ Some true → ⊥)
      → value_of name parts ≡ None
  pub given : (name : List ℕ) → is_some (lookup (bytes_eq name) options) ≡ true
      → is_in_rows name rows ≡ has_key (for_option name) parts
  pub not_given : (name : List ℕ) → lookup (bytes_eq name) options ≡ None
      → has_key (for_option name) parts ≡ false
  pub filled : has_empty parts ≡ false

-- the same of the parts that the rows tell
abbrev pub TellParts : List (List ℕ × Bool) → List Row → Type 0
TellParts options rows = AreRowsOf options rows (parts_in options rows)
