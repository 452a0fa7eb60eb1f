-- The lines of a falling form are read back.
use Rattle.std.proofs.Common.{◌≡◌, ◌∙◌, sym, ap, ℕ, zero, suc, ◌+◌, ◌≤◌, List, [], ◌∷◌, ◌++◌, length, map, take, drop, replicate, get_or, decimal, Some, Ok, ℤ, pos, refl, arith, append_assoc}
use Rattle.std.specs.List.{All}
use Rattle.std.specs.Fmt.{signed_decimal}
use Rattle.std.proofs.lemmas.List.Elements.{All-head, All-tail, All-cons, All-nil, All-append, All-map, All-same, All-weaker}
use Rattle.dsv_text.specs.Stages.{◌>>=◌}
use Rattle.dsv_forms.specs.Poly.{greatest_order}
use Rattle.dsv_forms.specs.Padded.{corner, matrix_with, form_with, squares_with}
use Rattle.dsv_forms.specs.declared.offers.Form.{Form}
use Rattle.dsv_forms.specs.declared.offers.Squares.{Squares}
use Rattle.dsv_forms.specs.declared.offers.Falls.{Falls}
use Rattle.dsv_lines.specs.Texts.{IsPlain}
use Rattle.dsv_lines.specs.Readings.{reading_of}
use Rattle.dsv_certfile.specs.Bodies.{numbers_of, numbers_in, rows_in, word_in, form_in, squares_of, squares_in, falls_in}
use Rattle.dsv_certfile.specs.Headings.{count_at}
use Rattle.dsv_certfile.specs.Keywords.{keyword_text}
use Rattle.dsv_certfile.specs.Lawful.{IsWhole, AreWhole, IsForm, AreSquares, IsOffer}
use Rattle.dsv_certfile.specs.Limits.{most_squares}
use Rattle.dsv_certfile.specs.Numerals.{number_in}
use Rattle.dsv_certfile.specs.Places.{row_places, squares_places}
use Rattle.dsv_certfile.specs.Texts.{word_line, numbers_line, rows_lines, square_lines, squares_head, squares_body, squares_lines, falls_lines}
use Rattle.dsv_certfile.specs.declared.keyword.Keyword.{Keyword}
use Rattle.dsv_certfile.specs.declared.keyword.Keyword.TheVariants as keyword
use Rattle.dsv_certfile.specs.declared.numbers.NumberRange.TheVariants as range
use Rattle.dsv_certfile.specs.declared.places.Place.TheVariants as place
use Rattle.dsv_certfile.proofs.Corners.{HasPlaces, filled_length, filled_rows}
use Rattle.dsv_certfile.proofs.WrittenBodies.{takes_word}
use Rattle.dsv_lines.proofs.WrittenLines.{IsLine, line_bytes}
use Rattle.dsv_lines.proofs.WrittenNumerals.{decimal_plain}
use Rattle.dsv_certfile.proofs.WrittenNumbers.{whole_read, whole_plain, count_read}
use Rattle.dsv_certfile.proofs.WrittenParts.{Reader, Takes, and_read, takes_as, takes_value, takes_both, takes_made, takes_line, takes_lines}
use Rattle.dsv_certfile.proofs.WrittenPlaces.{row_written, keyword_plain, numbers_line-plain, numbers_of-line_bytes}

-- ---- rows
wholes_plain : (w : Keyword) (zs : List ℤ) → All IsWhole zs → IsLine (numbers_line w zs)
wholes_plain w zs h = numbers_line-plain w zs (All-weaker IsWhole (λ z. IsPlain (signed_decimal z)) whole_plain zs h)

row_back : (w : Keyword) (d : ℕ) (zs : List ℤ) → HasPlaces d zs → All IsWhole zs → numbers_of (row_places w d) (line_bytes (numbers_line w zs)) ≡ Ok zs
row_back w d zs e h =
    let read = All-weaker IsWhole (λ z. number_in range.Whole (signed_decimal z) ≡ Some z) whole_read zs h in
    ap (λ n. numbers_of (place.Word w ∷ replicate n (place.Number range.Whole)) (line_bytes (numbers_line w zs))) (sym e)
    ∙ numbers_of-line_bytes (row_places w (length zs)) (numbers_line w zs) zs (wholes_plain w zs h) (refl, row_written range.Whole zs read)

takes_rows : (w : Keyword) (n d : ℕ) (rows : List (List ℤ)) → length rows ≡ n → All (HasPlaces d) rows → AreWhole rows
    → Takes (rows_in (row_places w d) n) rows (map (numbers_line w) rows)
takes_rows w n d rows e long whole =
    rw (← e) (takes_lines (numbers_of (row_places w d)) (numbers_line w) rows [] (λ k z l. row_back w d (get_or rows k z) (long k z l) (whole k z l)))

rows_plain : (w : Keyword) (rows : List (List ℤ)) → AreWhole rows → All IsLine (map (numbers_line w) rows)
rows_plain w rows h = All-map IsLine (numbers_line w) rows (All-weaker (All IsWhole) (λ zs. IsLine (numbers_line w zs)) (wholes_plain w) rows h)

map-take : (w : Keyword) (d : ℕ) (rows : List (List ℤ)) → map (λ row. numbers_line w (take d row)) rows ≡ map (numbers_line w) (map (take d) rows)
map-take w d [] = refl
map-take w d (r ∷ rows) = ap (λ ls. numbers_line w (take d r) ∷ ls) (map-take w d rows)

pub rows_as : (w : Keyword) (d : ℕ) (rows : List (List ℤ)) → rows_lines w d rows ≡ map (numbers_line w) (corner d d rows)
rows_as w d rows = map-take w d (take d rows)

-- ---- squares
-- a weight in front of each row
abbrev pub weighted_rows : List ℤ → List (List ℤ) → List (List ℤ)
weighted_rows [] rows = []
weighted_rows (w ∷ ws) [] = []
weighted_rows (w ∷ ws) (r ∷ rs) = (w ∷ r) ∷ weighted_rows ws rs

pub squares_as : (n d : ℕ) (ws : List ℤ) (rows : List (List ℤ))
    → square_lines d (take n ws) rows ≡ map (numbers_line keyword.Square) (weighted_rows (take n ws) (corner n d rows))
squares_as zero d ws rows = refl
squares_as (suc n) d [] rows = refl
squares_as (suc n) d (w ∷ ws) [] = refl
squares_as (suc n) d (w ∷ ws) (r ∷ rows) = ap (λ ls. numbers_line keyword.Square (w ∷ take d r) ∷ ls) (squares_as n d ws rows)

firsts-weighted_rows : (ws : List ℤ) (rows : List (List ℤ)) → length ws ≡ length rows → map (λ square. get_or square 0 (pos 0)) (weighted_rows ws rows) ≡ ws
firsts-weighted_rows [] rows e = refl
firsts-weighted_rows (w ∷ ws) [] e = absurd (omega (arith, e))
firsts-weighted_rows (w ∷ ws) (r ∷ rows) e = ap (λ zs. w ∷ zs) (firsts-weighted_rows ws rows (omega (arith, e)))

others-weighted_rows : (ws : List ℤ) (rows : List (List ℤ)) → length ws ≡ length rows → map (drop 1) (weighted_rows ws rows) ≡ rows
others-weighted_rows [] [] e = refl
others-weighted_rows [] (r ∷ rows) e = absurd (omega (arith, e))
others-weighted_rows (w ∷ ws) [] e = absurd (omega (arith, e))
others-weighted_rows (w ∷ ws) (r ∷ rows) e = ap (λ rs. r ∷ rs) (others-weighted_rows ws rows (omega (arith, e)))

length-weighted_rows : (ws : List ℤ) (rows : List (List ℤ)) → length ws ≡ length rows → length (weighted_rows ws rows) ≡ length ws
length-weighted_rows [] rows e = refl
length-weighted_rows (w ∷ ws) [] e = absurd (omega (arith, e))
length-weighted_rows (w ∷ ws) (r ∷ rows) e = ap suc (length-weighted_rows ws rows (omega (arith, e)))

places-weighted_rows : (d : ℕ) (ws : List ℤ) (rows : List (List ℤ)) → All (HasPlaces d) rows → All (HasPlaces (d + 1)) (weighted_rows ws rows)
places-weighted_rows d [] rows h = All-nil (HasPlaces (d + 1))
places-weighted_rows d (w ∷ ws) [] h = All-nil (HasPlaces (d + 1))
places-weighted_rows d (w ∷ ws) (r ∷ rows) h =
    All-cons (HasPlaces (d + 1)) (w ∷ r) (weighted_rows ws rows) (omega (arith, All-head (HasPlaces d) r rows h)) (places-weighted_rows d ws rows (All-tail (HasPlaces d) r rows h))

whole-weighted_rows : (ws : List ℤ) (rows : List (List ℤ)) → All IsWhole ws → AreWhole rows → AreWhole (weighted_rows ws rows)
whole-weighted_rows [] rows h k = All-nil (All IsWhole)
whole-weighted_rows (w ∷ ws) [] h k = All-nil (All IsWhole)
whole-weighted_rows (w ∷ ws) (r ∷ rows) h k =
    All-cons (All IsWhole) (w ∷ r) (weighted_rows ws rows) (All-cons IsWhole w r (All-head IsWhole w ws h) (All-head (All IsWhole) r rows k))
    (whole-weighted_rows ws rows (All-tail IsWhole w ws h) (All-tail (All IsWhole) r rows k))

head_plain : (w : Keyword) (s : Squares) → IsWhole s.m → s.count ≤ most_squares → IsLine (squares_head w s)
head_plain w s h few =
    All-cons IsPlain (keyword_text w) (signed_decimal s.m ∷ decimal s.count ∷ []) (keyword_plain w)
    (All-cons IsPlain (signed_decimal s.m) (decimal s.count ∷ []) (whole_plain s.m h)
    (All-cons IsPlain (decimal s.count) [] (decimal_plain s.count (omega (arith, few))) (All-nil IsPlain)))

head_back : (w : Keyword) (s : Squares) → IsWhole s.m → s.count ≤ most_squares
    → numbers_of (squares_places w) (line_bytes (squares_head w s)) ≡ Ok (s.m ∷ pos s.count ∷ [])
head_back w s h few =
    numbers_of-line_bytes (squares_places w) (squares_head w s) (s.m ∷ pos s.count ∷ [])
    (head_plain w s h few) (refl, (whole_read s.m h, (count_read most_squares s.count (omega arith) few, tt)))

abbrev pub made_of : ℤ → List (List ℤ) → List (List ℤ) → Squares
made_of m squares rest = squares_with m (map (λ square. get_or square 0 (pos 0)) squares) (map (drop 1) squares) rest

abbrev pub rest_after : ℕ → ℤ → List (List ℤ) → Reader Squares
rest_after d m squares ls = rows_in (row_places keyword.Rest d) d ls >>= λ rest. Ok (reading_of (made_of m squares rest.value) rest.left)

abbrev pub squares_after : ℕ → List ℤ → Reader Squares
squares_after d head = squares_of d (get_or head 0 (pos 0)) (count_at head 1)

pub takes_squares_of : (d : ℕ) (s : Squares) → d ≤ greatest_order → AreSquares d s → Takes (squares_of d s.m s.count) s (squares_body d s)
takes_squares_of d s h a =
    let ws = take s.count s.weights in
    let rows = corner s.count d s.rows in
    let rest = corner d d s.rest in
    let squares = weighted_rows ws rows in
    let rows_filled : s.rows ≡ matrix_with rows = ap (λ (q : Squares). q.rows) a.filled in
    let rest_filled : s.rest ≡ matrix_with rest = ap (λ (q : Squares). q.rest) a.filled in
    let count : s.count ≡ length ws = ap (λ (q : Squares). q.count) a.filled in
    let long : length rows ≡ s.count = filled_length s.count d s.rows rows rows_filled a.few in
    let same : length ws ≡ length rows = sym count ∙ sym long in
    let made : made_of s.m squares rest ≡ s = rw (firsts-weighted_rows ws rows same, others-weighted_rows ws rows same) (sym a.filled) in
    let square_lines_as = squares_as s.count d s.weights s.rows in
    let rest_lines_as = rows_as keyword.Rest d s.rest in
    let all : map (numbers_line keyword.Square) squares ++ map (numbers_line keyword.Rest) rest ≡ squares_body d s = rw (square_lines_as, rest_lines_as) refl in
    takes_as (squares_of d s.m s.count) s (map (numbers_line keyword.Square) squares ++ map (numbers_line keyword.Rest) rest) (squares_body d s) all
    (takes_both (rows_in (row_places keyword.Square (d + 1)) s.count) (rest_after d s.m) squares s
    (map (numbers_line keyword.Square) squares) (map (numbers_line keyword.Rest) rest)
    (takes_rows keyword.Square s.count (d + 1) squares (length-weighted_rows ws rows same ∙ sym count)
    (places-weighted_rows d ws rows (filled_rows s.count d s.rows rows rows_filled h)) (whole-weighted_rows ws rows a.weights a.rows))
    (takes_value (rest_after d s.m squares) (made_of s.m squares rest) s (map (numbers_line keyword.Rest) rest) made
    (takes_made (rows_in (row_places keyword.Rest d) d) (made_of s.m squares) rest (map (numbers_line keyword.Rest) rest)
    (takes_rows keyword.Rest d d rest (filled_length d d s.rest rest rest_filled h) (filled_rows d d s.rest rest rest_filled h) a.rest))))

pub takes_squares : (w : Keyword) (d : ℕ) (s : Squares) → d ≤ greatest_order → AreSquares d s → Takes (squares_in w d) s (squares_lines w d s)
takes_squares w d s h a =
    let head = s.m ∷ pos s.count ∷ [] in
    takes_both (numbers_in (squares_places w)) (squares_after d) head s (squares_head w s ∷ []) (squares_body d s)
    (takes_line (numbers_of (squares_places w)) (squares_head w s) head (head_back w s a.factor a.few)) (takes_squares_of d s h a)

pub body_plain : (d : ℕ) (s : Squares) → AreSquares d s → All IsLine (squares_body d s)
body_plain d s a =
    let squares = weighted_rows (take s.count s.weights) (corner s.count d s.rows) in
    let rest = corner d d s.rest in
    let square_lines_plain = rows_plain keyword.Square squares (whole-weighted_rows (take s.count s.weights) (corner s.count d s.rows) a.weights a.rows) in
    All-append IsLine (square_lines d (take s.count s.weights) s.rows) (rows_lines keyword.Rest d s.rest)
    (All-same IsLine (square_lines d (take s.count s.weights) s.rows) (map (numbers_line keyword.Square) squares) (squares_as s.count d s.weights s.rows) square_lines_plain)
    (All-same IsLine (rows_lines keyword.Rest d s.rest) (map (numbers_line keyword.Rest) rest) (rows_as keyword.Rest d s.rest) (rows_plain keyword.Rest rest a.rest))

pub squares_plain : (w : Keyword) (d : ℕ) (s : Squares) → AreSquares d s → All IsLine (squares_lines w d s)
squares_plain w d s a = All-cons IsLine (squares_head w s) (squares_body d s) (head_plain w s a.factor a.few) (body_plain d s a)

-- ---- a form
pub takes_form : (f : Form) → IsForm f → Takes (form_in f.d) f (rows_lines keyword.Form f.d f.rows)
takes_form f h =
    let rows = corner f.d f.d f.rows in
    let filled : f.rows ≡ matrix_with rows = ap (λ (f : Form). f.rows) h.filled in
    takes_as (form_in f.d) f (map (numbers_line keyword.Form) rows) (rows_lines keyword.Form f.d f.rows) (sym (rows_as keyword.Form f.d f.rows))
    (takes_value (form_in f.d) (form_with rows) f (map (numbers_line keyword.Form) rows) (sym h.filled)
    (takes_made (rows_in (row_places keyword.Form f.d) f.d) form_with rows (map (numbers_line keyword.Form) rows)
    (takes_rows keyword.Form f.d f.d rows (filled_length f.d f.d f.rows rows filled h.few) (filled_rows f.d f.d f.rows rows filled h.few) h.rows)))

pub form_plain : (f : Form) → IsForm f → All IsLine (rows_lines keyword.Form f.d f.rows)
form_plain f h =
    let rows = corner f.d f.d f.rows in
    All-same IsLine (rows_lines keyword.Form f.d f.rows) (map (numbers_line keyword.Form) rows) (rows_as keyword.Form f.d f.rows) (rows_plain keyword.Form rows h.rows)

-- ---- a falling form
abbrev pub fall_after : Form → Squares → Squares → Reader Falls
fall_after form positive fall ls =
    word_in keyword.End ls >>= λ end. Ok (reading_of (record { form = form; positive = positive; fall = fall }) end.left)

abbrev pub positive_after : ℕ → Form → Squares → Reader Falls
positive_after d form positive = and_read (squares_in keyword.Fall d) (fall_after form positive)

abbrev pub form_after : ℕ → Form → Reader Falls
form_after d form = and_read (squares_in keyword.Positive d) (positive_after d form)

pub four_parts : {A : Type 0} (xs ys zs us : List A) → xs ++ (ys ++ (zs ++ us)) ≡ ((xs ++ ys) ++ zs) ++ us
four_parts xs ys zs us = simp append_assoc

pub takes_falls : (offer : Falls) → IsOffer offer → Takes (falls_in offer.form.d) offer (falls_lines offer ++ word_line keyword.End ∷ [])
takes_falls offer h =
    let d = offer.form.d in
    let form_lines = rows_lines keyword.Form d offer.form.rows in
    let positive_lines = squares_lines keyword.Positive d offer.positive in
    let fall_lines = squares_lines keyword.Fall d offer.fall in
    let end = word_line keyword.End ∷ [] in
    takes_as (falls_in d) offer (form_lines ++ (positive_lines ++ (fall_lines ++ end))) (falls_lines offer ++ end) (four_parts form_lines positive_lines fall_lines end)
    (takes_both (form_in d) (form_after d) offer.form offer form_lines (positive_lines ++ (fall_lines ++ end)) (takes_form offer.form h.form)
    (takes_both (squares_in keyword.Positive d) (positive_after d offer.form) offer.positive offer positive_lines (fall_lines ++ end)
    (takes_squares keyword.Positive d offer.positive h.form.few h.positive)
    (takes_both (squares_in keyword.Fall d) (fall_after offer.form offer.positive) offer.fall offer fall_lines end
    (takes_squares keyword.Fall d offer.fall h.form.few h.fall)
    (takes_made (word_in keyword.End) (λ _. record { form = offer.form; positive = offer.positive; fall = offer.fall }) [] end (takes_word keyword.End)))))

pub falls_plain : (offer : Falls) → IsOffer offer → All IsLine (falls_lines offer)
falls_plain offer h =
    let d = offer.form.d in
    let form_lines = rows_lines keyword.Form d offer.form.rows in
    All-append IsLine (form_lines ++ squares_lines keyword.Positive d offer.positive) (squares_lines keyword.Fall d offer.fall)
    (All-append IsLine form_lines (squares_lines keyword.Positive d offer.positive) (form_plain offer.form h.form) (squares_plain keyword.Positive d offer.positive h.positive))
    (squares_plain keyword.Fall d offer.fall h.fall)
