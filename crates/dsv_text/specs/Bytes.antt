-- Classes of bytes.
use Rattle.std.specs.Prelude.{ℕ, Bool, false, ◌&&◌, ◌||◌, ◌==◌, nat_le, List, [], ◌∷◌}

-- an ASCII digit
abbrev pub is_digit : ℕ → Bool
is_digit b = nat_le 48 b && nat_le b 57

-- space, tab, carriage return, line feed
abbrev pub is_blank : ℕ → Bool
is_blank b = b == 32 || b == 9 || b == 13 || b == 10

-- an ASCII letter or `_`
abbrev pub is_letter : ℕ → Bool
is_letter b = b == 95 || nat_le 97 b && nat_le b 122 || nat_le 65 b && nat_le b 90

-- the text begins with this byte
abbrev pub has_byte : ℕ → List ℕ → Bool
has_byte byte [] = false
has_byte byte (b ∷ bs) = b == byte
