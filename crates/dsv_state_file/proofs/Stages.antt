-- Stages of reading, one after another.
use Rattle.std.proofs.Common.{◌≡◌, ◌∙◌, ap, ℕ, ◌+◌, suc, List, [], ◌∷◌, ◌++◌, Result, Ok, Err, codes, length}
use Rattle.std.specs.Prelude.{if◌then◌else◌}
use Rattle.dsv_text.specs.Stages.{◌>>=◌}
use Rattle.dsv_fraction.specs.Ratio.{Ratio}
use Rattle.dsv_lines.specs.Numerals.{numeral_of, positive_of}
use Rattle.dsv_lines.specs.Pieces.{piece_at, LinesLeft}
use Rattle.dsv_lines.specs.Readings.{Reading, reading_of}
use Rattle.dsv_lines.specs.Texts.{Line}
use Rattle.dsv_state_file.specs.Limits.{greatest_int_bits, greatest_frac_bits}
use Rattle.dsv_state_file.specs.Reading.{words_after, or_number, is_width, format_in, decimals_from, vector_in, line_in, rows_from}
use Rattle.dsv_state_file.specs.Decimals.{bare_decimal}
use Rattle.dsv_state_file.specs.declared.words.Format.{Format}
use Rattle.dsv_state_file.specs.declared.refusal.StateRefusal.{StateRefusal}
use Rattle.dsv_state_file.specs.declared.refusal.StateRefusal.TheVariants as refusal

abbrev pub format_with : ℕ → ℕ → ℕ → Result Format StateRefusal
format_with n i f = if is_width (i + f) then Ok (record { int_bits = i; frac_bits = f }) else Err (refusal.Width n)

abbrev pub after_int_bits : ℕ → Line → ℕ → Result Format StateRefusal
after_int_bits n words i = or_number n 1 (numeral_of greatest_frac_bits (piece_at words 1)) >>= format_with n i

abbrev pub after_format : ℕ → Line → Result Format StateRefusal
after_format n words = or_number n 0 (positive_of greatest_int_bits (piece_at words 0)) >>= after_int_bits n words

-- F is no number that may stand there
pub bad_frac_bits : (n : ℕ) (pieces words : Line) (i : ℕ) (why : StateRefusal)
    → words_after (codes "format") 2 n pieces ≡ Ok words
    → or_number n 0 (positive_of greatest_int_bits (piece_at words 0)) ≡ Ok i
    → or_number n 1 (numeral_of greatest_frac_bits (piece_at words 1)) ≡ Err why → format_in n pieces ≡ Err why
bad_frac_bits n pieces words i why a b c =
    ap (λ (r : Result Line StateRefusal). r >>= after_format n) a
    ∙ ap (λ (r : Result ℕ StateRefusal). r >>= after_int_bits n words) b
    ∙ ap (λ (r : Result ℕ StateRefusal). r >>= format_with n i) c

-- ---- decimals of a line
pub decimal_more : (n : ℕ) (xs : List Ratio) (word : List ℕ) (words : Line) (x : Ratio) → or_number n (length xs) (bare_decimal word) ≡ Ok x
    → decimals_from n xs (word ∷ words) ≡ decimals_from n (xs ++ x ∷ []) words
decimal_more n xs word words x e = ap (λ (r : Result Ratio StateRefusal). r >>= λ y. decimals_from n (xs ++ y ∷ []) words) e

-- ---- rows
pub row_more : (states n m : ℕ) (rows : List (List Ratio)) (old new : LinesLeft) (row : List Ratio) → n ≡ suc m
    → line_in (vector_in (codes "a") states) old ≡ Ok (reading_of row new) → rows_from states n rows old ≡ rows_from states m (rows ++ row ∷ []) new
row_more states n m rows old new row e h =
    ap (λ k. rows_from states k rows old) e
    ∙ ap (λ (r : Result (Reading (List Ratio)) StateRefusal). r >>= λ x. rows_from states m (rows ++ x.value ∷ []) x.left) h

pub row_bad : (states n m : ℕ) (rows : List (List Ratio)) (old : LinesLeft) (why : StateRefusal) → n ≡ suc m
    → line_in (vector_in (codes "a") states) old ≡ Err why → rows_from states n rows old ≡ Err why
row_bad states n m rows old why e h =
    ap (λ k. rows_from states k rows old) e
    ∙ ap (λ (r : Result (Reading (List Ratio)) StateRefusal). r >>= λ x. rows_from states m (rows ++ x.value ∷ []) x.left) h
