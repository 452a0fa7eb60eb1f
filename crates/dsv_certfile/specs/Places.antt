-- Wanted lines. What is wanted fixes which places of a line hold numbers.
use Rattle.std.specs.Prelude.{ℕ, ◌-◌, Bool, true, false, ◌&&◌, ◌||◌, is_none, List, []}
use Rattle.std.specs.Prelude.{◌∷◌, replicate, min, max, Option, Some, None, Result, Ok, Err}
use Rattle.std.specs.Prelude.{if◌then◌else◌, ℤ}
use Rattle.std.specs.Str.{bytes_eq}
use Rattle.dsv_certfile.specs.Keywords.{keyword_text}
use Rattle.dsv_certfile.specs.Limits.{most_inequality_numbers, most_squares}
use Rattle.dsv_certfile.specs.Numerals.{number_in}
use Rattle.dsv_certfile.specs.declared.fault.TextFault.{TextFault}
use Rattle.dsv_certfile.specs.declared.fault.TextFault.TheVariants as fault
use Rattle.dsv_certfile.specs.declared.keyword.Keyword.{Keyword}
use Rattle.dsv_certfile.specs.declared.keyword.Keyword.TheVariants as keyword
use Rattle.dsv_certfile.specs.declared.numbers.NumberRange.TheVariants as range
use Rattle.dsv_certfile.specs.declared.places.Place.{Place}
use Rattle.dsv_certfile.specs.declared.places.Place.TheVariants as place

-- ---- what a line's pieces are, where these places are wanted
-- a number is wanted and the piece is none of its range
abbrev pub is_bad_number : Place → List ℕ → Bool
is_bad_number (place.Word w) piece = false
is_bad_number (place.Number r) piece = is_none (number_in r piece)

-- some piece at a number's place is none of its range; pieces after the last place are no matter
abbrev pub has_bad_number : List Place → List (List ℕ) → Bool
has_bad_number [] pieces = false
has_bad_number (p ∷ ps) [] = false
has_bad_number (p ∷ ps) (piece ∷ pieces) = is_bad_number p piece || has_bad_number ps pieces

-- no word is wanted, or the piece is that word
abbrev pub is_word_kept : Place → List ℕ → Bool
is_word_kept (place.Word w) piece = bytes_eq piece (keyword_text w)
is_word_kept (place.Number r) piece = true

-- each wanted word stands at its place, and there are as many pieces as places
abbrev pub has_words : List Place → List (List ℕ) → Bool
has_words [] [] = true
has_words [] (piece ∷ pieces) = false
has_words (p ∷ ps) [] = false
has_words (p ∷ ps) (piece ∷ pieces) = is_word_kept p piece && has_words ps pieces

-- why the line isn't the wanted one
abbrev pub line_fault : List Place → List (List ℕ) → Option TextFault
line_fault places pieces =
    if has_bad_number places pieces then Some fault.Number
    else (if has_words places pieces then None else Some fault.Line)

-- a number in front, where there is one
abbrev pub onto_numbers : Option ℤ → List ℤ → List ℤ
onto_numbers None numbers = numbers
onto_numbers (Some n) numbers = n ∷ numbers

-- the number at a place
abbrev pub number_at : Place → List ℕ → Option ℤ
number_at (place.Word w) piece = None
number_at (place.Number r) piece = number_in r piece

-- the numbers at the places
abbrev pub numbers_at : List Place → List (List ℕ) → List ℤ
numbers_at [] pieces = []
numbers_at (p ∷ ps) [] = []
numbers_at (p ∷ ps) (piece ∷ pieces) = onto_numbers (number_at p piece) (numbers_at ps pieces)

abbrev pub numbers_unless : Option TextFault → List ℤ → Result (List ℤ) TextFault
numbers_unless (Some why) numbers = Err why
numbers_unless None numbers = Ok numbers

-- the numbers of a line, where it is the wanted one
abbrev pub line_numbers : List Place → List (List ℕ) → Result (List ℤ) TextFault
line_numbers places pieces = numbers_unless (line_fault places pieces) (numbers_at places pieces)

-- ---- the lines that are wanted
-- a word alone
abbrev pub word_places : Keyword → List Place
word_places w = place.Word w ∷ []

-- a word and so many numbers
abbrev pub row_places : Keyword → ℕ → List Place
row_places w n = place.Word w ∷ replicate n (place.Number range.Whole)

-- the head of the squares of a form: its factor, and how many squares there are
abbrev pub squares_places : Keyword → List Place
squares_places w =
    place.Word w ∷ place.Number range.Whole ∷ place.Number (range.UpTo most_squares) ∷ []

-- an inequality of so many pieces, the word among them: it has 1 to 17 numbers
abbrev pub inequality_places : ℕ → List Place
inequality_places pieces = place.Word keyword.Inequality
    ∷ replicate (max 1 (min (pieces - 1) most_inequality_numbers)) (place.Number range.Entry)
