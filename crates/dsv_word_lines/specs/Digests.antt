-- The line that tells a file by its digest.
use Rattle.std.specs.Prelude.{ℕ, List, [], ◌∷◌, ◌++◌, codes}
use Rattle.std.specs.List.{concat}
use Rattle.hex.specs.Hex.{encode_lower}
use Rattle.dsv_word_lines.specs.ControlCharacters.{shown}

-- the bytes of a digest in hex, before the name in the same line
abbrev pub digits_text : List ℕ → List ℕ
digits_text digest = concat (codes "sha256 " ∷ encode_lower digest ∷ codes " " ∷ [])

-- a name, up to the end of the line
abbrev pub name_text : List ℕ → List ℕ
name_text name = shown name ++ codes "\n"

-- the digest of a file, and the file's name
abbrev pub digest_line : List ℕ → List ℕ → List ℕ
digest_line digest name = digits_text digest ++ name_text name
