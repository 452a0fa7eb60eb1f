-- The parts of a command: FILE, and options with and without a value.
use Rattle.std.specs.Prelude.{ℕ, ◌==◌, List, [], ◌∷◌, Bool, true, false}
use Rattle.std.specs.Prelude.{length, Option, Some, None, if◌then◌else◌}
use Rattle.std.specs.List.{list_any}
use Rattle.std.specs.Str.{bytes_eq}

-- what contracts see of a part
pub data PartView : Type 0 where
  -- the argument that belongs to no option
  file : List ℕ → PartView
  -- an option without a value, by its name
  flag : List ℕ → PartView
  -- an option by its name, and its value
  choice : List ℕ → List ℕ → PartView

-- what a part is given for: FILE, or the option of a name
pub data Key : Type 0 where
  for_file : Key
  for_option : List ℕ → Key

abbrev pub key_of : PartView → Key
key_of (file text) = for_file
key_of (flag name) = for_option name
key_of (choice name value) = for_option name

abbrev pub is_same_key : Key → Key → Bool
is_same_key for_file for_file = true
is_same_key for_file (for_option b) = false
is_same_key (for_option a) for_file = false
is_same_key (for_option a) (for_option b) = bytes_eq a b

-- a part is given for this key
abbrev pub has_key : Key → List PartView → Bool
has_key key parts = list_any (λ p. is_same_key (key_of p) key) parts

-- the text of FILE, or else another
abbrev pub file_or : PartView → Option (List ℕ) → Option (List ℕ)
file_or (file text) other = Some text
file_or _ other = other

-- what is given as FILE
abbrev pub file_of : List PartView → Option (List ℕ)
file_of [] = None
file_of (p ∷ ps) = file_or p (file_of ps)

-- the value of the option of this name, or else another
abbrev pub value_or : List ℕ → PartView → Option (List ℕ) → Option (List ℕ)
value_or name (choice n value) other = if bytes_eq n name then Some value else other
value_or name _ other = other

-- the value that is given for an option
abbrev pub value_of : List ℕ → List PartView → Option (List ℕ)
value_of name [] = None
value_of name (p ∷ ps) = value_or name p (value_of name ps)

-- FILE, or the value of an option, is empty
abbrev pub is_empty_part : PartView → Bool
is_empty_part (file text) = length text == 0
is_empty_part (flag name) = false
is_empty_part (choice name value) = length value == 0

abbrev pub has_empty : List PartView → Bool
has_empty parts = list_any is_empty_part parts

-- an option of this name is given
abbrev pub is_given : List PartView → List ℕ → Bool
is_given parts name = has_key (for_option name) parts
