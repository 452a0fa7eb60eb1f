-- The walk over the places and the pieces of a line.
use Rattle.std.proofs.Common.{◌≡◌, ◌∙◌, sym, ap, ℕ, ◌≤◌, Bool, true, false, List, [], ◌∷◌, ◌++◌, Option, Some, None, Result, Ok, Err, ℤ, refl, append_assoc, ◌+◌, length, length-append, arith}
use Rattle.std.specs.Prelude.{◌&&◌, ◌||◌, is_none, if◌then◌else◌}
use Rattle.std.specs.Str.{bytes_eq}
use Rattle.dsv_certfile.specs.Keywords.{keyword_text}
use Rattle.dsv_certfile.specs.Numerals.{number_in}
use Rattle.dsv_certfile.specs.Places.{has_bad_number, has_words, onto_numbers, number_at, numbers_at}
use Rattle.dsv_certfile.specs.PlacesRead.{place_in, with_number}
use Rattle.dsv_certfile.specs.declared.fault.TextFault.{TextFault}
use Rattle.dsv_certfile.specs.declared.fault.TextFault.TheVariants as fault
use Rattle.dsv_certfile.specs.declared.keyword.Keyword.{Keyword}
use Rattle.dsv_certfile.specs.declared.places.Place.{Place}
use Rattle.dsv_certfile.specs.declared.places.Place.TheVariants as place

-- what is read where a number is bad or not, and the words stand or not
abbrev pub read_as : Bool → Bool → List ℤ → Result (List ℤ) TextFault
read_as true words numbers = Err fault.Number
read_as false true numbers = Ok numbers
read_as false false numbers = Err fault.Line

-- what is read, after these numbers, where the words so far stood or not
abbrev pub walked : Bool → List ℤ → List Place → List (List ℕ) → Result (List ℤ) TextFault
walked words numbers ps pieces =
    read_as (has_bad_number ps pieces) (words && has_words ps pieces) (numbers ++ numbers_at ps pieces)

and_regroup : (a b c : Bool) → a && (b && c) ≡ (a && b) && c
and_regroup true b c = refl
and_regroup false b c = refl

walk_word : (words : Bool) (numbers : List ℤ) (w : Keyword) (ps : List Place) (piece : List ℕ) (pieces : List (List ℕ))
    → walked words numbers (place.Word w ∷ ps) (piece ∷ pieces) ≡ walked (words && bytes_eq piece (keyword_text w)) numbers ps pieces
walk_word words numbers w ps piece pieces =
    ap (λ b. read_as (has_bad_number ps pieces) b (numbers ++ numbers_at ps pieces)) (and_regroup words (bytes_eq piece (keyword_text w)) (has_words ps pieces))

and_true : (b : Bool) → b ≡ b && true
and_true true = refl
and_true false = refl

number_more : (words kept : Bool) (numbers : List ℤ) (ps : List Place) (pieces : List (List ℕ)) (o : Option ℤ)
    → (if is_none o then Err fault.Number else Ok true) ≡ Ok kept
    → read_as (is_none o || has_bad_number ps pieces) (words && has_words ps pieces) (numbers ++ onto_numbers o (numbers_at ps pieces))
    ≡ walked (words && kept) (with_number numbers o) ps pieces
number_more words kept numbers ps pieces None e = absurd (cc)
number_more words kept numbers ps pieces (Some n) e =
    let k : true ≡ kept = cc in
    let w : words ≡ words && kept = and_true words ∙ ap (λ b. words && b) k in
    ap (λ ns. read_as (has_bad_number ps pieces) (words && has_words ps pieces) ns) (sym (append_assoc numbers (n ∷ []) (numbers_at ps pieces)))
    ∙ ap (λ b. walked b (numbers ++ n ∷ []) ps pieces) w

-- one place more
pub walk_more : (words kept : Bool) (numbers : List ℤ) (p : Place) (ps : List Place) (piece : List ℕ) (pieces : List (List ℕ))
    → place_in p piece ≡ Ok kept
    → walked words numbers (p ∷ ps) (piece ∷ pieces) ≡ walked (words && kept) (with_number numbers (number_at p piece)) ps pieces
walk_more words kept numbers (place.Word w) ps piece pieces e =
    let k : bytes_eq piece (keyword_text w) ≡ kept = cc in
    walk_word words numbers w ps piece pieces ∙ ap (λ b. walked (words && b) numbers ps pieces) k
walk_more words kept numbers (place.Number r) ps piece pieces e = number_more words kept numbers ps pieces (number_in r piece) e

number_bad : (words : Bool) (numbers : List ℤ) (ps : List Place) (pieces : List (List ℕ)) (o : Option ℤ) (why : TextFault)
    → (if is_none o then Err fault.Number else Ok true) ≡ Err why
    → read_as (is_none o || has_bad_number ps pieces) (words && has_words ps pieces) (numbers ++ onto_numbers o (numbers_at ps pieces)) ≡ Err why
number_bad words numbers ps pieces None why e = cc
number_bad words numbers ps pieces (Some n) why e = absurd (cc)

pub walk_bad : (words : Bool) (numbers : List ℤ) (p : Place) (ps : List Place) (piece : List ℕ) (pieces : List (List ℕ)) (why : TextFault)
    → place_in p piece ≡ Err why
    → walked words numbers (p ∷ ps) (piece ∷ pieces) ≡ Err why
walk_bad words numbers (place.Word w) ps piece pieces why e = absurd (cc)
walk_bad words numbers (place.Number r) ps piece pieces why e = number_bad words numbers ps pieces (number_in r piece) why e

and_false : (b : Bool) → b && false ≡ false
and_false true = refl
and_false false = refl

pub walk_short : (words : Bool) (numbers : List ℤ) (p : Place) (ps : List Place) → walked words numbers (p ∷ ps) [] ≡ Err fault.Line
walk_short words numbers p ps = ap (λ b. read_as false b (numbers ++ [])) (and_false words)

-- ---- turns of a loop over the places
pub more_numbers : (numbers : List ℤ) (o : Option ℤ) → length (with_number numbers o) ≤ length numbers + 1
more_numbers numbers None = omega arith
more_numbers numbers (Some n) = omega (arith, length-append numbers (n ∷ []))

pub turn : (words kept new_words : Bool) (old new : List ℤ) (left rest : List Place) (p : Place) (piece : List ℕ) (pieces others : List (List ℕ)) (meant : Result (List ℤ) TextFault)
    → left ≡ p ∷ rest → pieces ≡ piece ∷ others → place_in p piece ≡ Ok kept → new ≡ with_number old (number_at p piece) → new_words ≡ words && kept
    → walked words old left pieces ≡ meant → walked new_words new rest others ≡ meant
turn words kept new_words old new left rest p piece pieces others meant l o k n w inv =
    rw (n, w) (sym (walk_more words kept old p rest piece others k) ∙ (rw (l, o) at inv))

pub turn_bad : (words : Bool) (old : List ℤ) (left rest : List Place) (p : Place) (piece : List ℕ) (pieces others : List (List ℕ)) (why : TextFault) (meant : Result (List ℤ) TextFault)
    → left ≡ p ∷ rest → pieces ≡ piece ∷ others → place_in p piece ≡ Err why → walked words old left pieces ≡ meant → Err why ≡ meant
turn_bad words old left rest p piece pieces others why meant l o k inv =
    sym (walk_bad words old p rest piece others why k) ∙ (rw (l, o) at inv)

pub turn_short : (words : Bool) (old : List ℤ) (left rest : List Place) (p : Place) (pieces : List (List ℕ)) (meant : Result (List ℤ) TextFault)
    → left ≡ p ∷ rest → pieces ≡ [] → walked words old left pieces ≡ meant → Err fault.Line ≡ meant
turn_short words old left rest p pieces meant l o inv = sym (walk_short words old p rest) ∙ (rw (l, o) at inv)
