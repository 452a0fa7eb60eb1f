-- Numbers are read at the places where they are written.
use Rattle.std.proofs.Common.{◌≡◌, ◌∙◌, ap, ℕ, true, false, List, [], ◌∷◌, length, map, replicate, Option, Some, Ok, ℤ, refl}
use Rattle.std.specs.Prelude.{◌||◌, is_none}
use Rattle.std.specs.List.{All}
use Rattle.std.specs.Str.{bytes_eq}
use Rattle.std.specs.Fmt.{signed_decimal}
use Rattle.std.proofs.lemmas.List.Elements.{All-head, All-tail, All-cons, All-map}
use Rattle.std.proofs.lemmas.Slice.Eq.{bytes_eq-Decides}
use Rattle.dsv_certfile.specs.Bodies.{numbers_of}
use Rattle.dsv_certfile.specs.Keywords.{keyword_text}
use Rattle.dsv_certfile.specs.Numerals.{number_in}
use Rattle.dsv_certfile.specs.Places.{has_bad_number, has_words, onto_numbers, numbers_at, line_numbers}
use Rattle.dsv_lines.specs.Texts.{Line, IsPlain}
use Rattle.dsv_certfile.specs.Texts.{numbers_line}
use Rattle.dsv_certfile.specs.declared.keyword.Keyword.{Keyword}
use Rattle.dsv_certfile.specs.declared.keyword.Keyword.TheVariants as keyword
use Rattle.dsv_certfile.specs.declared.numbers.NumberRange.{NumberRange}
use Rattle.dsv_certfile.specs.declared.places.Place.{Place}
use Rattle.dsv_certfile.specs.declared.places.Place.TheVariants as place
use Rattle.dsv_lines.proofs.WrittenLines.{IsLine, line_bytes, pieces_of-line_bytes}

-- each piece is the wanted word, or spells the next of the numbers
abbrev pub AreWritten : List Place → Line → List ℤ → Type 0
AreWritten [] [] [] = Unit {0}
AreWritten [] [] (z ∷ zs) = ⊥
AreWritten [] (q ∷ qs) zs = ⊥
AreWritten (p ∷ ps) [] zs = ⊥
AreWritten (place.Word w ∷ ps) (q ∷ qs) zs = (q ≡ keyword_text w) × AreWritten ps qs zs
AreWritten (place.Number r ∷ ps) (q ∷ qs) [] = ⊥
AreWritten (place.Number r ∷ ps) (q ∷ qs) (z ∷ zs) = (number_in r q ≡ Some z) × AreWritten ps qs zs

-- the line is the wanted one and has these numbers
record Stands (ps : List Place) (qs : Line) (zs : List ℤ) : Type 0 where
  good : has_bad_number ps qs ≡ false
  words : has_words ps qs ≡ true
  numbers : numbers_at ps qs ≡ zs

one_word : (w : Keyword) (q : List ℕ) (ps : List Place) (qs : Line) (zs : List ℤ) → q ≡ keyword_text w → Stands ps qs zs → Stands (place.Word w ∷ ps) (q ∷ qs) zs
one_word w q ps qs zs e s =
    let same : bytes_eq q (keyword_text w) ≡ true = (bytes_eq-Decides q (keyword_text w)).1 e in
    record { good = s.good; words = rw same s.words; numbers = s.numbers }

one_number : (r : NumberRange) (q : List ℕ) (z : ℤ) (ps : List Place) (qs : Line) (zs : List ℤ) → number_in r q ≡ Some z → Stands ps qs zs
    → Stands (place.Number r ∷ ps) (q ∷ qs) (z ∷ zs)
one_number r q z ps qs zs e s = record {
  good = ap (λ (o : Option ℤ). is_none o || has_bad_number ps qs) e ∙ s.good;
  words = s.words;
  numbers = ap (λ o. onto_numbers o (numbers_at ps qs)) e ∙ ap (λ ns. z ∷ ns) s.numbers;
}

stands : (ps : List Place) (qs : Line) (zs : List ℤ) → AreWritten ps qs zs → Stands ps qs zs
stands [] [] [] h = record { good = refl; words = refl; numbers = refl }
stands [] [] (z ∷ zs) h = absurd h
stands [] (q ∷ qs) zs h = absurd h
stands (p ∷ ps) [] zs h = absurd h
stands (place.Word w ∷ ps) (q ∷ qs) zs h = one_word w q ps qs zs h.0 (stands ps qs zs h.1)
stands (place.Number r ∷ ps) (q ∷ qs) [] h = absurd h
stands (place.Number r ∷ ps) (q ∷ qs) (z ∷ zs) h = one_number r q z ps qs zs h.0 (stands ps qs zs h.1)

read_by : (ps : List Place) (qs : Line) (zs : List ℤ) → Stands ps qs zs → line_numbers ps qs ≡ Ok zs
read_by ps qs zs s = rw (s.good, s.words, s.numbers) refl

pub line_numbers-written : (ps : List Place) (qs : Line) (zs : List ℤ) → AreWritten ps qs zs → line_numbers ps qs ≡ Ok zs
line_numbers-written ps qs zs h = read_by ps qs zs (stands ps qs zs h)

-- ---- numbers of one range
pub row_written : (r : NumberRange) (zs : List ℤ) → All (λ z. number_in r (signed_decimal z) ≡ Some z) zs
    → AreWritten (replicate (length zs) (place.Number r)) (map signed_decimal zs) zs
row_written r [] h = tt
row_written r (z ∷ zs) h =
    (All-head (λ z. number_in r (signed_decimal z) ≡ Some z) z zs h, row_written r zs (All-tail (λ z. number_in r (signed_decimal z) ≡ Some z) z zs h))

-- ---- words
pub keyword_plain : (w : Keyword) → IsPlain (keyword_text w)
keyword_plain keyword.Job = refl
keyword_plain keyword.Format = refl
keyword_plain keyword.Kind = refl
keyword_plain keyword.Inequality = refl
keyword_plain keyword.Base = refl
keyword_plain keyword.Step = refl
keyword_plain keyword.Safe = refl
keyword_plain keyword.Box = refl
keyword_plain keyword.Coefficient = refl
keyword_plain keyword.Form = refl
keyword_plain keyword.Positive = refl
keyword_plain keyword.Square = refl
keyword_plain keyword.Rest = refl
keyword_plain keyword.Fall = refl
keyword_plain keyword.States = refl
keyword_plain keyword.Level = refl
keyword_plain keyword.Lambda = refl
keyword_plain keyword.Mu = refl
keyword_plain keyword.First = refl
keyword_plain keyword.End = refl

pub numbers_line-plain : (w : Keyword) (zs : List ℤ) → All (λ z. IsPlain (signed_decimal z)) zs → IsLine (numbers_line w zs)
numbers_line-plain w zs h = All-cons IsPlain (keyword_text w) (map signed_decimal zs) (keyword_plain w) (All-map IsPlain signed_decimal zs h)

-- the numbers of a written line
pub numbers_of-line_bytes : (ps : List Place) (l : Line) (zs : List ℤ) → IsLine l → AreWritten ps l zs → numbers_of ps (line_bytes l) ≡ Ok zs
numbers_of-line_bytes ps l zs plain h = ap (line_numbers ps) (pieces_of-line_bytes l plain) ∙ line_numbers-written ps l zs h
