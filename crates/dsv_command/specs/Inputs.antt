-- The inputs of a simulation, as a text.
use Rattle.std.specs.Prelude.{ℕ, ◌==◌, nat_le, List, [], ◌∷◌, length, drop, Bool, Option}
use Rattle.std.specs.Prelude.{Some, None, if◌then◌else◌, option_and_then, option_map, ℤ}
use Rattle.dsv_text.specs.Bytes.{has_byte}
use Rattle.dsv_text.specs.Digits.{short_number}
use Rattle.dsv_fraction.specs.Arithmetic.{with_sign}

-- the most inputs of a simulation
abbrev pub most_inputs : ℕ
most_inputs = 64

-- the most digits of an input
abbrev pub most_digits : ℕ
most_digits = 15

abbrev pub comma : ℕ
comma = 44

abbrev pub minus : ℕ
minus = 45

abbrev pub is_comma : ℕ → Bool
is_comma byte = byte == comma

-- one byte more in front of the first piece
abbrev pub onto_first : ℕ → List (List ℕ) → List (List ℕ)
onto_first byte [] = (byte ∷ []) ∷ []
onto_first byte (p ∷ ps) = (byte ∷ p) ∷ ps

-- what stands between the commas of a text: one piece more than it has commas
abbrev pub pieces : List ℕ → List (List ℕ)
pieces [] = [] ∷ []
pieces (b ∷ bs) = if is_comma b then [] ∷ pieces bs else onto_first b (pieces bs)

-- after `-`, where it stands first
abbrev pub after_minus : List ℕ → List ℕ
after_minus text = drop (if has_byte minus text then 1 else 0) text

-- the number of an optional `-` before 1 to 15 digits
abbrev pub input_of : List ℕ → Option ℤ
input_of text = option_map (with_sign (has_byte minus text))
    (short_number most_digits (after_minus text))

-- the number of each piece, where all are numbers
abbrev pub all_inputs : List (List ℕ) → Option (List ℤ)
all_inputs [] = Some []
all_inputs (p ∷ ps) = option_and_then
    (λ first. option_map (λ others. first ∷ others) (all_inputs ps)) (input_of p)

-- 1 to 64 numbers joined by commas
abbrev pub inputs_of : List ℕ → Option (List ℤ)
inputs_of text = if nat_le (length (pieces text)) most_inputs then all_inputs (pieces text)
    else None
