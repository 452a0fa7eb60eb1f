-- The pieces of a wanted line are its words and its numbers in decimal.
use Rattle.std.proofs.Common.{◌≡◌, ◌∙◌, sym, ap, subst, ℕ, zero, suc, ◌^◌, Bool, true, false, List, [], ◌∷◌, map, replicate, length, Option, Some, None, decimal, IfOk, ℤ, pos, negsuc, refl, arith}
use Rattle.std.specs.Prelude.{◌||◌, ◌&&◌, is_none, nat_lt, ◌≤ℤ◌}
use Rattle.std.specs.Fmt.{signed_decimal}
use Rattle.std.specs.Int.RustNames.{unsigned_abs}
use Rattle.std.specs.Str.{bytes_eq}
use Rattle.std.proofs.lemmas.Bool.{and_parts, and_from, ltb-true}
use Rattle.std.proofs.lemmas.Int.{ints}
use Rattle.std.proofs.lemmas.Result.{IfOk-weaker}
use Rattle.std.proofs.lemmas.Slice.Eq.{bytes_eq-Decides}
use Rattle.dsv_lines.specs.Numerals.{numeral_of, positive_of}
use Rattle.dsv_lines.specs.Pieces.{pieces_of}
use Rattle.dsv_lines.specs.Texts.{Line}
use Rattle.dsv_lines.proofs.ReadNumerals.{decimal-numeral_of, decimal-positive_of, signed_decimal-pos, signed_decimal-integer_of}
use Rattle.dsv_certfile.specs.Bodies.{numbers_of, numbers_in, word_in}
use Rattle.dsv_certfile.specs.Keywords.{keyword_text}
use Rattle.dsv_certfile.specs.Limits.{greatest_entry, greatest_bound, greatest_whole}
use Rattle.dsv_certfile.specs.Numerals.{number_in}
use Rattle.dsv_certfile.specs.Places.{has_bad_number, has_words, onto_numbers, numbers_at, line_numbers, word_places}
use Rattle.dsv_certfile.specs.Ranges.{AreOf}
use Rattle.dsv_certfile.specs.Texts.{word_line}
use Rattle.dsv_certfile.specs.declared.keyword.Keyword.{Keyword}
use Rattle.dsv_certfile.specs.declared.numbers.NumberRange.{NumberRange}
use Rattle.dsv_certfile.specs.declared.numbers.NumberRange.TheVariants as range
use Rattle.dsv_certfile.specs.declared.places.Place.{Place}
use Rattle.dsv_certfile.specs.declared.places.Place.TheVariants as place
use Rattle.dsv_certfile.proofs.LawfulParts.{Yields, yields_line}
use Rattle.dsv_certfile.proofs.RangeLemmas.{at_places, numbers_have}

-- ---- numbers
-- the numbers of the range have at most 64 digits
abbrev pub is_short : NumberRange → Bool
is_short (range.UpTo greatest) = nat_lt greatest (10 ^ 64)
is_short (range.Positive greatest) = nat_lt greatest (10 ^ 64)
is_short range.Entry = true
is_short range.Bound = true
is_short range.Whole = true

-- a number that was read is its text
number_spelled : (r : NumberRange) (text : List ℕ) (z : ℤ) → is_short r ≡ true → number_in r text ≡ Some z → text ≡ signed_decimal z
number_spelled (range.UpTo greatest) text z h e =
    let wide = ltb-true greatest (10 ^ 64) h in
    sym (signed_decimal-pos (numeral_of greatest text) text z (λ n p. decimal-numeral_of greatest text n wide p) e)
number_spelled (range.Positive greatest) text z h e =
    let wide = ltb-true greatest (10 ^ 64) h in
    sym (signed_decimal-pos (positive_of greatest text) text z (λ n p. decimal-positive_of greatest text n wide p) e)
number_spelled range.Entry text z h e = sym (signed_decimal-integer_of greatest_entry text z (omega arith) e)
number_spelled range.Bound text z h e = sym (signed_decimal-integer_of greatest_bound text z (omega arith) e)
number_spelled range.Whole text z h e = sym (signed_decimal-integer_of greatest_whole text z (omega arith) e)

-- a count in decimal
pub signed_decimal-count : (z : ℤ) → pos 0 ≤ℤ z → signed_decimal z ≡ decimal (unsigned_abs z)
signed_decimal-count (pos n) h = refl
signed_decimal-count (negsuc n) h = absurd (omega (arith, ints, h))

-- ---- lines
abbrev pub are_short : List Place → Bool
are_short [] = true
are_short (place.Word w ∷ ps) = are_short ps
are_short (place.Number r ∷ ps) = is_short r && are_short ps

-- the line of the wanted words and of these numbers
abbrev pub spelled_line : List Place → List ℤ → Line
spelled_line [] zs = []
spelled_line (place.Word w ∷ ps) zs = keyword_text w ∷ spelled_line ps zs
spelled_line (place.Number r ∷ ps) [] = []
spelled_line (place.Number r ∷ ps) (z ∷ zs) = signed_decimal z ∷ spelled_line ps zs

number_step : (r : NumberRange) (ps : List Place) (piece : List ℕ) (pieces : Line) (o : Option ℤ) (zs : List ℤ) (b : Bool) → is_short r ≡ true
    → number_in r piece ≡ o → is_none o || b ≡ false → (b ≡ false → pieces ≡ spelled_line ps zs)
    → piece ∷ pieces ≡ spelled_line (place.Number r ∷ ps) (onto_numbers o zs)
number_step r ps piece pieces None zs b h e f rest = absurd (cc)
number_step r ps piece pieces (Some z) zs b h e f rest = ap (λ p. p ∷ pieces) (number_spelled r piece z h e) ∙ ap (λ ls. signed_decimal z ∷ ls) (rest f)

spelled_at : (ps : List Place) (pieces : Line) → are_short ps ≡ true → has_bad_number ps pieces ≡ false → has_words ps pieces ≡ true
    → pieces ≡ spelled_line ps (numbers_at ps pieces)
spelled_at [] [] h e f = refl
spelled_at [] (x ∷ xs) h e f = absurd (cc)
spelled_at (p ∷ ps) [] h e f = absurd (cc)
spelled_at (place.Word w ∷ ps) (x ∷ xs) h e f =
    let k = and_parts (bytes_eq x (keyword_text w)) (has_words ps xs) f in
    ap (λ y. y ∷ xs) ((bytes_eq-Decides x (keyword_text w)).0 k.0) ∙ ap (λ ls. keyword_text w ∷ ls) (spelled_at ps xs h e k.1)
spelled_at (place.Number r ∷ ps) (x ∷ xs) h e f =
    let k = and_parts (is_short r) (are_short ps) h in
    number_step r ps x xs (number_in r x) (numbers_at ps xs) (has_bad_number ps xs) k.0 refl e (λ g. spelled_at ps xs k.1 g f)

-- the numbers of a line are of their ranges, and the line is theirs
pub record AreSpelled (ps : List Place) (pieces : Line) (zs : List ℤ) : Type 0 where
  pub ranges : AreOf ps zs
  pub line : pieces ≡ spelled_line ps zs

pub line_numbers_spelled : (ps : List Place) (pieces : Line) → are_short ps ≡ true → IfOk (line_numbers ps pieces) (AreSpelled ps pieces)
line_numbers_spelled ps pieces h =
    numbers_have ps pieces (AreSpelled ps pieces) (λ e f. record { ranges = at_places ps pieces e f; line = spelled_at ps pieces h e f })

-- a line of such numbers, of which something follows
pub yields_numbers : (places : List Place) (P : List ℤ → List Line → Type 0) → are_short places ≡ true
    → ((zs : List ℤ) → AreOf places zs → P zs (spelled_line places zs ∷ [])) → Yields (numbers_in places) P
yields_numbers places P short h =
    yields_line (numbers_of places) P
    (λ bytes. IfOk-weaker (numbers_of places bytes) (AreSpelled places (pieces_of bytes)) (λ zs. P zs (pieces_of bytes ∷ []))
    (λ zs s. subst (λ l. P zs (l ∷ [])) (sym s.line) (h zs s.ranges)) (line_numbers_spelled places (pieces_of bytes) short))

-- the line of a word
pub yields_word : (w : Keyword) → Yields (word_in w) (λ _ ls. ls ≡ word_line w ∷ [])
yields_word w = yields_numbers (word_places w) (λ _ ls. ls ≡ word_line w ∷ []) refl (λ _ _. refl)

-- ---- numbers of one range
pub row_short : (r : NumberRange) (n : ℕ) → is_short r ≡ true → are_short (replicate n (place.Number r)) ≡ true
row_short r zero h = refl
row_short r (suc n) h = and_from (is_short r) (are_short (replicate n (place.Number r))) h (row_short r n h)

pub row_spelled : (r : NumberRange) (n : ℕ) (zs : List ℤ) → length zs ≡ n → spelled_line (replicate n (place.Number r)) zs ≡ map signed_decimal zs
row_spelled r zero [] e = refl
row_spelled r zero (z ∷ zs) e = absurd (omega (arith, e))
row_spelled r (suc n) [] e = absurd (omega (arith, e))
row_spelled r (suc n) (z ∷ zs) e = ap (λ ls. signed_decimal z ∷ ls) (row_spelled r n zs (omega (arith, e)))
