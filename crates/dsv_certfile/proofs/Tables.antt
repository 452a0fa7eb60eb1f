-- The coefficients of a polynomial are read back from their lines, and their lines are those that they were read of.
use Rattle.std.proofs.Common.{◌≡◌, ◌∙◌, ap, ℕ, Bool, true, false, List, [], ◌∷◌, ◌++◌, length, map, Option, Some, None, Ok, Err, IfOk, ℤ, refl, arith}
use Rattle.std.specs.List.{All}
use Rattle.std.specs.Str.{bytes_eq}
use Rattle.std.specs.Prelude.{if◌then◌else◌}
use Rattle.std.proofs.lemmas.List.Elements.{All-cons, All-nil, All-map}
use Rattle.std.proofs.lemmas.Slice.Eq.{bytes_eq-Decides}
use Rattle.dsv_text.specs.Stages.{◌>>=◌}
use Rattle.dsv_integer.specs.Numerals.{integer_text}
use Rattle.dsv_integer.specs.Readings.{integer_read}
use Rattle.dsv_integer.proofs.Readings.{read_back, text_read, integer_plain}
use Rattle.dsv_lines.specs.Pieces.{pieces_of}
use Rattle.dsv_lines.specs.Readings.{reading_of}
use Rattle.dsv_lines.specs.Texts.{Line, IsPlain}
use Rattle.dsv_lines.proofs.WrittenLines.{IsLine, line_bytes, pieces_of-line_bytes}
use Rattle.dsv_certfile.specs.Bodies.{lines_from, word_in, wanted, coefficient_of, coefficient_in, table_in}
use Rattle.dsv_certfile.specs.Headings.{or_number, whole_line}
use Rattle.dsv_certfile.specs.Keywords.{keyword_text}
use Rattle.dsv_certfile.specs.Texts.{word_line, coefficient_line}
use Rattle.dsv_certfile.specs.declared.fault.TextFault.{TextFault}
use Rattle.dsv_certfile.specs.declared.fault.TextFault.TheVariants as fault
use Rattle.dsv_certfile.specs.declared.keyword.Keyword.{Keyword}
use Rattle.dsv_certfile.specs.declared.keyword.Keyword.TheVariants as keyword
use Rattle.dsv_certfile.proofs.LawfulParts.{then_has, whole_line_has, Yields, yields_both, yields_made, AreRead, IsTextOf, yields_lines, joined}
use Rattle.dsv_certfile.proofs.ReadPlaces.{yields_word}
use Rattle.dsv_certfile.proofs.WrittenBodies.{takes_word}
use Rattle.dsv_certfile.proofs.WrittenParts.{Reader, Takes, takes_both, takes_made, takes_lines}
use Rattle.dsv_certfile.proofs.WrittenPlaces.{keyword_plain}

-- ---- written
coefficient_plain : (c : ℤ) → IsLine (coefficient_line c)
coefficient_plain c =
    All-cons IsPlain (keyword_text keyword.Coefficient) (integer_text c ∷ []) (keyword_plain keyword.Coefficient) (All-cons IsPlain (integer_text c) [] (integer_plain c) (All-nil IsPlain))

pub coefficients_plain : (cs : List ℤ) → All IsLine (map coefficient_line cs)
coefficients_plain cs = All-map IsLine coefficient_line cs (λ k c l. coefficient_plain _)

spelled : (c : ℤ) → coefficient_of (coefficient_line c) ≡ Ok c
spelled c = rw (read_back c) refl

coefficient_back : (c : ℤ) → coefficient_in (line_bytes (coefficient_line c)) ≡ Ok c
coefficient_back c = ap coefficient_of (pieces_of-line_bytes (coefficient_line c) (coefficient_plain c)) ∙ spelled c

abbrev after_coefficients : List ℤ → Reader (List ℤ)
after_coefficients cs ls = word_in keyword.End ls >>= λ end. Ok (reading_of cs end.left)

pub takes_table : (cs : List ℤ) → Takes (table_in (length cs)) cs (map coefficient_line cs ++ word_line keyword.End ∷ [])
takes_table cs =
    takes_both (lines_from coefficient_in (length cs) []) after_coefficients cs cs (map coefficient_line cs) (word_line keyword.End ∷ [])
    (takes_lines coefficient_in coefficient_line cs [] (λ k c l. coefficient_back _))
    (takes_made (word_in keyword.End) (λ _. cs) [] (word_line keyword.End ∷ []) (takes_word keyword.End))

-- ---- read
wanted_step : (w piece : List ℕ) (b : Bool) → bytes_eq piece w ≡ b → IfOk {T = Unit {0}} {E = TextFault} (if b then Ok tt else Err fault.Line) (λ _. piece ≡ w)
wanted_step w piece true e = (bytes_eq-Decides piece w).0 e
wanted_step w piece false e = tt

wanted_has : (w : Keyword) (piece : List ℕ) → IfOk (wanted w piece) (λ _. piece ≡ keyword_text w)
wanted_has w piece = wanted_step (keyword_text w) piece (bytes_eq piece (keyword_text w)) refl

number_step : (piece : List ℕ) (o : Option ℤ) → integer_read piece ≡ o → IfOk (or_number o) (λ c. integer_text c ≡ piece)
number_step piece None e = tt
number_step piece (Some c) e = text_read piece c e

abbrev IsAny : ℤ → Type 0
IsAny c = Unit {0}

coefficient_is : (pieces : Line) → IfOk (coefficient_of pieces) (IsTextOf coefficient_line IsAny pieces)
coefficient_is [] = tt
coefficient_is (word ∷ []) = tt
coefficient_is (word ∷ piece ∷ pieces) =
    let P : ℤ → Type 0 = IsTextOf coefficient_line IsAny (word ∷ piece ∷ pieces) in
    then_has (or_number (integer_read piece)) (λ (c : ℤ). wanted keyword.Coefficient word >>= λ _. whole_line c pieces) (λ c. integer_text c ≡ piece) P
    (number_step piece (integer_read piece) refl)
    (λ c e. then_has (wanted keyword.Coefficient word) (λ _. whole_line c pieces) (λ _. word ≡ keyword_text keyword.Coefficient) P (wanted_has keyword.Coefficient word)
    (λ _ w. whole_line_has c pieces P (λ n. (tt, rw (w, n, e) refl))))

coefficient_has : (bytes : List ℕ) → IfOk (coefficient_in bytes) (IsTextOf coefficient_line IsAny (pieces_of bytes))
coefficient_has bytes = coefficient_is (pieces_of bytes)

-- so many coefficients, which these lines say
pub record AreCoefficientsOf (count : ℕ) (cs : List ℤ) (ls : List Line) : Type 0 where
  pub many : length cs ≡ count
  pub lines : ls ≡ map coefficient_line cs ++ word_line keyword.End ∷ []

pub yields_table : (count : ℕ) → Yields (table_in count) (AreCoefficientsOf count)
yields_table count =
    yields_both (lines_from coefficient_in count []) after_coefficients (AreRead coefficient_line IsAny count []) (AreCoefficientsOf count)
    (yields_lines coefficient_in coefficient_line IsAny coefficient_has count [] (All-nil IsAny))
    (λ cs ls q. yields_made (word_in keyword.End) (λ _. cs) (λ _ es. es ≡ word_line keyword.End ∷ []) (λ cs es. AreCoefficientsOf count cs (ls ++ es)) (yields_word keyword.End)
    (λ _ es e. record { many = omega (arith, q.many); lines = joined q.texts e }))
