-- What names in C may begin with.
use Rattle.std.specs.Prelude.{ℕ, ◌==◌, nat_le, List, [], ◌∷◌, length, drop, ◌-◌, codes}
use Rattle.std.specs.Prelude.{Bool, true, false, not, ◌&&◌, ◌||◌, Option, Some, None, if◌then◌else◌}
use Rattle.std.specs.List.{list_any}
use Rattle.std.specs.Str.{bytes_eq}
use Rattle.dsv_text.specs.Bytes.{is_letter, is_digit}

-- if none is given
abbrev pub default_code_name : List ℕ
default_code_name = codes "controller"

abbrev pub most_code_letters : ℕ
most_code_letters = 31

-- the keywords of C99 (6.4.1) that don't begin with `_`
abbrev pub keywords : List (List ℕ)
keywords =
    codes "auto" ∷ codes "break" ∷ codes "case" ∷ codes "char" ∷ codes "const" ∷
    codes "continue" ∷ codes "default" ∷ codes "do" ∷ codes "double" ∷ codes "else" ∷
    codes "enum" ∷ codes "extern" ∷ codes "float" ∷ codes "for" ∷ codes "goto" ∷ codes "if" ∷
    codes "inline" ∷ codes "int" ∷ codes "long" ∷ codes "register" ∷ codes "restrict" ∷
    codes "return" ∷ codes "short" ∷ codes "signed" ∷ codes "sizeof" ∷ codes "static" ∷
    codes "struct" ∷ codes "switch" ∷ codes "typedef" ∷ codes "union" ∷ codes "unsigned" ∷
    codes "void" ∷ codes "volatile" ∷ codes "while" ∷ []

-- names that units have
abbrev pub unit_names : List (List ℕ)
unit_names =
    codes "x" ∷ codes "s" ∷ codes "v" ∷ codes "t" ∷ codes "k" ∷ codes "none" ∷
    codes "rounded16" ∷ codes "word16" ∷ codes "rounded32" ∷ codes "word32" ∷
    codes "rounded64" ∷ codes "word64" ∷ codes "main" ∷ codes "inputs" ∷ codes "outputs" ∷
    codes "printf" ∷ []

-- how the names of <stdint.h> end (7.18)
abbrev pub ends_so : List ℕ → List ℕ → Bool
ends_so text end = bytes_eq (drop (length text - length end) text) end

abbrev pub ends_as_stdint : List ℕ → Bool
ends_as_stdint text = (ends_so text (codes "_t") || ends_so text (codes "_C"))
    || (ends_so text (codes "_MIN") || ends_so text (codes "_MAX"))

-- a letter begins it, and no `_`
abbrev pub starts_name : List ℕ → Bool
starts_name [] = false
starts_name (b ∷ bs) = is_letter b && not (b == 95)

-- letters, digits and `_` alone
abbrev pub are_name_bytes : List ℕ → Bool
are_name_bytes [] = true
are_name_bytes (b ∷ bs) = (is_letter b || is_digit b) && are_name_bytes bs

abbrev pub is_reserved : List ℕ → Bool
is_reserved text = list_any (bytes_eq text) keywords || (list_any (bytes_eq text) unit_names
    || ends_as_stdint text)

-- an identifier of C99 (6.4.2) of 1 to 31 letters, digits and `_` that begins with a letter and
-- isn't reserved
abbrev pub is_code_name : List ℕ → Bool
is_code_name text = (nat_le (length text) most_code_letters && starts_name text)
    && (are_name_bytes text && not (is_reserved text))

abbrev pub code_name_of : List ℕ → Option (List ℕ)
code_name_of text = if is_code_name text then Some text else None
