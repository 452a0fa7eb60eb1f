-- Texts that may have control characters.
use Rattle.std.specs.Prelude.{ℕ, ◌==◌, ◌||◌, nat_lt, List, [], ◌∷◌, if◌then◌else◌}
use Rattle.std.specs.List.{flat_map}

-- a byte that stands for a control character shows as `?`, so that the text stays one line
abbrev pub shown_byte : ℕ → ℕ
shown_byte byte = if nat_lt byte 32 || byte == 127 then 63 else byte

abbrev pub shown_bytes : ℕ → List ℕ
shown_bytes byte = shown_byte byte ∷ []

abbrev pub shown : List ℕ → List ℕ
shown text = flat_map shown_bytes text
