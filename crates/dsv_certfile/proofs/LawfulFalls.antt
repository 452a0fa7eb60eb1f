-- A falling form that was read has numbers of their ranges, and 0 elsewhere, and its lines are those that it was read of.
use Rattle.std.proofs.Common.{◌≡◌, ◌∙◌, sym, ap, subst, ℕ, ◌+◌, ◌≤◌, List, [], ◌∷◌, ◌++◌, length, map, take, drop, get_or, decimal, IfOk, ℤ, pos, refl, arith}
use Rattle.std.specs.List.{All}
use Rattle.std.specs.Fmt.{signed_decimal}
use Rattle.std.proofs.lemmas.List.{length-map, length-drop}
use Rattle.std.proofs.lemmas.List.Elements.{All-nil, All-head, All-tail, All-map, All-same, All-weaker, All-drop, All-get_or}
use Rattle.std.proofs.lemmas.Result.{IfOk-weaker}
use Rattle.dsv_forms.specs.Padded.{row_of, corner, matrix_with, form_with, squares_with}
use Rattle.dsv_forms.specs.declared.offers.Form.{Form}
use Rattle.dsv_forms.specs.declared.offers.Squares.{Squares}
use Rattle.dsv_forms.specs.declared.offers.Falls.{Falls}
use Rattle.dsv_certfile.specs.Bodies.{numbers_of, numbers_in, rows_in, word_in, form_in, squares_of, squares_in, falls_in}
use Rattle.dsv_certfile.specs.Headings.{count_at}
use Rattle.dsv_certfile.specs.Keywords.{keyword_text}
use Rattle.dsv_certfile.specs.Lawful.{IsWhole, AreWhole, IsForm, AreSquares, IsOffer}
use Rattle.dsv_certfile.specs.Limits.{most_places, most_squares}
use Rattle.dsv_lines.specs.Pieces.{pieces_of}
use Rattle.dsv_lines.specs.Texts.{Line}
use Rattle.dsv_certfile.specs.Places.{row_places, squares_places}
use Rattle.dsv_certfile.specs.Ranges.{AreOf}
use Rattle.dsv_certfile.specs.Texts.{word_line, numbers_line, rows_lines, square_lines, squares_body, squares_lines, falls_lines}
use Rattle.dsv_certfile.specs.declared.keyword.Keyword.{Keyword}
use Rattle.dsv_certfile.specs.declared.keyword.Keyword.TheVariants as keyword
use Rattle.dsv_certfile.specs.declared.numbers.NumberRange.TheVariants as range
use Rattle.dsv_certfile.proofs.Corners.{HasPlaces, take-row_of, corner-matrix_with}
use Rattle.dsv_certfile.proofs.LawfulParts.{Yields, yields_both, yields_made, yields_weaker, AreRead, IsTextOf, yields_lines, joined}
use Rattle.dsv_certfile.proofs.RangeLemmas.{row_has}
use Rattle.dsv_certfile.proofs.ReadPlaces.{AreSpelled, spelled_line, signed_decimal-count, line_numbers_spelled, yields_numbers, yields_word, row_short, row_spelled}
use Rattle.dsv_certfile.proofs.WrittenFalls.{weighted_rows, rows_as, squares_as, made_of, rest_after, squares_after, fall_after, positive_after, form_after, four_parts}

-- ---- rows
abbrev IsRow : ℕ → List ℤ → Type 0
IsRow d zs = HasPlaces d zs × All IsWhole zs

-- n rows of d numbers, a line for each
record AreRows (w : Keyword) (n d : ℕ) (rows : List (List ℤ)) (ls : List Line) : Type 0 where
  long : length rows ≡ n
  places : All (HasPlaces d) rows
  whole : AreWhole rows
  lines : ls ≡ map (numbers_line w) rows

row_read : (w : Keyword) (d : ℕ) (pieces : Line) (zs : List ℤ) → AreSpelled (row_places w d) pieces zs → IsTextOf (numbers_line w) (IsRow d) pieces zs
row_read w d pieces zs s =
    let row = row_has range.Whole d zs s.ranges in
    (row, s.line ∙ ap (λ ls. keyword_text w ∷ ls) (row_spelled range.Whole d zs row.0))

row_numbers_have : (w : Keyword) (d : ℕ) (bytes : List ℕ) → IfOk (numbers_of (row_places w d) bytes) (IsTextOf (numbers_line w) (IsRow d) (pieces_of bytes))
row_numbers_have w d bytes =
    let pieces = pieces_of bytes in
    IfOk-weaker (numbers_of (row_places w d) bytes) (AreSpelled (row_places w d) pieces) (IsTextOf (numbers_line w) (IsRow d) pieces) (row_read w d pieces)
    (line_numbers_spelled (row_places w d) pieces (row_short range.Whole d refl))

yields_rows : (w : Keyword) (n d : ℕ) → Yields (rows_in (row_places w d) n) (AreRows w n d)
yields_rows w n d =
    yields_weaker (rows_in (row_places w d) n) (AreRead (numbers_line w) (IsRow d) n []) (AreRows w n d)
    (yields_lines (numbers_of (row_places w d)) (numbers_line w) (IsRow d) (row_numbers_have w d) n [] (All-nil (IsRow d)))
    (λ rows ls q. record {
      long = omega (arith, q.many);
      places = All-weaker (IsRow d) (HasPlaces d) (λ r k. k.0) rows q.have;
      whole = All-weaker (IsRow d) (All IsWhole) (λ r k. k.1) rows q.have;
      lines = q.texts;
    })

-- ---- a form
-- a form of d places, and its lines
pub record IsFormOf (d : ℕ) (f : Form) (ls : List Line) : Type 0 where
  pub places : f.d ≡ d
  pub form : IsForm f
  pub lines : ls ≡ rows_lines keyword.Form f.d f.rows

form_has : (d : ℕ) (rows : List (List ℤ)) (ls : List Line) → d ≤ most_places → AreRows keyword.Form d d rows ls → IsFormOf d (form_with rows) ls
form_has d rows ls h a =
    let n = length rows in
    let few : n ≤ most_places = omega (arith, a.long, h) in
    let places = All-weaker (HasPlaces d) (HasPlaces n) (λ r e. e ∙ sym a.long) rows a.places in
    let same : corner n n (matrix_with rows) ≡ rows = corner-matrix_with n n rows refl few few places in
    record {
      places = a.long;
      form = record { few = few; filled = ap form_with (sym same); rows = All-same (All IsWhole) (corner n n (matrix_with rows)) rows same a.whole };
      lines = a.lines ∙ ap (map (numbers_line keyword.Form)) (sym same) ∙ sym (rows_as keyword.Form n (matrix_with rows));
    }

pub yields_form : (d : ℕ) → d ≤ most_places → Yields (form_in d) (IsFormOf d)
yields_form d h =
    yields_made (rows_in (row_places keyword.Form d) d) form_with (AreRows keyword.Form d d) (IsFormOf d) (yields_rows keyword.Form d d)
    (λ rows ls a. form_has d rows ls h a)

-- ---- squares
-- the line that squares begin with
record IsHead (w : Keyword) (zs : List ℤ) (ls : List Line) : Type 0 where
  factor : IsWhole (get_or zs 0 (pos 0))
  few : count_at zs 1 ≤ most_squares
  lines : ls ≡ (keyword_text w ∷ signed_decimal (get_or zs 0 (pos 0)) ∷ decimal (count_at zs 1) ∷ []) ∷ []

head_by : (w : Keyword) (zs : List ℤ) → AreOf (squares_places w) zs → IsHead w zs (spelled_line (squares_places w) zs ∷ [])
head_by w [] h = absurd h
head_by w (z ∷ []) h = absurd (h.1)
head_by w (z ∷ y ∷ []) h = record { factor = h.0; few = h.1.0.1; lines = ap (λ p. (keyword_text w ∷ signed_decimal z ∷ p ∷ []) ∷ []) (signed_decimal-count y h.1.0.0) }
head_by w (z ∷ y ∷ x ∷ zs) h = absurd (h.1.1)

pub same_squares : (m : ℤ) (a b : List ℤ) (p q r s : List (List ℤ)) → a ≡ b → p ≡ q → r ≡ s → squares_with m b q s ≡ squares_with m a p r
same_squares m a b p q r s e f g = rw (e, f, g) refl

-- a row of one place at least is its first number and the others
weighted-rows : (d : ℕ) (squares : List (List ℤ)) → All (HasPlaces (d + 1)) squares → weighted_rows (map (λ square. get_or square 0 (pos 0)) squares) (map (drop 1) squares) ≡ squares
weighted-rows d [] h = refl
weighted-rows d ([] ∷ squares) h = let long = All-head (HasPlaces (d + 1)) [] squares h in absurd (omega (arith, long))
weighted-rows d ((z ∷ zs) ∷ squares) h = ap (λ rs. (z ∷ zs) ∷ rs) (weighted-rows d squares (All-tail (HasPlaces (d + 1)) (z ∷ zs) squares h))

-- so many squares of rows of d places with this factor, and their lines
pub record AreSquaresOf (d : ℕ) (m : ℤ) (count : ℕ) (s : Squares) (ls : List Line) : Type 0 where
  pub squares : AreSquares d s
  pub factor_is : s.m ≡ m
  pub many : s.count ≡ count
  pub lines : ls ≡ squares_body d s

body_text : (n d : ℕ) (ws : List ℤ) (matrix rows rest_matrix rest : List (List ℤ)) → take n ws ≡ map (λ r. get_or r 0 (pos 0)) rows → corner n d matrix ≡ map (drop 1) rows
    → All (HasPlaces (d + 1)) rows → corner d d rest_matrix ≡ rest
    → map (numbers_line keyword.Square) rows ++ map (numbers_line keyword.Rest) rest ≡ square_lines d (take n ws) matrix ++ rows_lines keyword.Rest d rest_matrix
body_text n d ws matrix rows rest_matrix rest e f h g =
    joined
    (ap (map (numbers_line keyword.Square)) (sym (weighted-rows d rows h)) ∙ ap (λ vs. map (numbers_line keyword.Square) (weighted_rows vs (map (drop 1) rows))) (sym e)
    ∙ ap (λ rs. map (numbers_line keyword.Square) (weighted_rows (take n ws) rs)) (sym f) ∙ sym (squares_as n d ws matrix))
    (ap (map (numbers_line keyword.Rest)) (sym g) ∙ sym (rows_as keyword.Rest d rest_matrix))

squares_have : (d count : ℕ) (m : ℤ) (squares rest : List (List ℤ)) → d ≤ most_places → count ≤ most_squares → IsWhole m
    → (ls ms : List Line) → AreRows keyword.Square count (d + 1) squares ls → AreRows keyword.Rest d d rest ms → AreSquaresOf d m count (made_of m squares rest) (ls ++ ms)
squares_have d count m squares rest h few whole ls ms a b =
    let first : List ℤ → ℤ = λ square. get_or square 0 (pos 0) in
    let ws = map first squares in
    let rows = map (drop 1) squares in
    let n = length ws in
    let long : n ≡ length squares = length-map squares first in
    let small : n ≤ most_squares = omega (arith, long, a.long, few) in
    let whole_weights : All IsWhole ws =
    All-map IsWhole first squares (λ k z l. All-get_or IsWhole (get_or squares k z) 0 (pos 0) (omega (arith, a.places k z l)) (a.whole k z l)) in
    let whole_rows : AreWhole rows = All-map (All IsWhole) (drop 1) squares (λ k z l. All-drop IsWhole 1 (get_or squares k z) (a.whole k z l)) in
    let places : All (HasPlaces d) rows =
    All-map (HasPlaces d) (drop 1) squares (λ k z l. omega (arith, length-drop 1 (get_or squares k z), a.places k z l)) in
    let same_weights : take n (row_of ws) ≡ ws = take-row_of n ws refl small in
    let same_rows : corner n d (matrix_with rows) ≡ rows = corner-matrix_with n d rows (length-map squares (drop 1) ∙ sym long) small h places in
    let same_rest : corner d d (matrix_with rest) ≡ rest = corner-matrix_with d d rest b.long h h b.places in
    let are : AreSquares d (made_of m squares rest) = record {
      few = small;
      filled = same_squares m (take n (row_of ws)) ws (corner n d (matrix_with rows)) rows (corner d d (matrix_with rest)) rest same_weights same_rows same_rest;
      factor = whole;
      weights = All-same IsWhole (take n (row_of ws)) ws same_weights whole_weights;
      rows = All-same (All IsWhole) (corner n d (matrix_with rows)) rows same_rows whole_rows;
      rest = All-same (All IsWhole) (corner d d (matrix_with rest)) rest same_rest b.whole;
    } in
    record {
      squares = are;
      factor_is = refl;
      many = long ∙ a.long;
      lines = joined a.lines b.lines ∙ body_text n d (row_of ws) (matrix_with rows) squares (matrix_with rest) rest same_weights same_rows a.places same_rest;
    }

pub yields_squares_of : (d : ℕ) (m : ℤ) (count : ℕ) → d ≤ most_places → count ≤ most_squares → IsWhole m → Yields (squares_of d m count) (AreSquaresOf d m count)
yields_squares_of d m count h few whole =
    yields_both (rows_in (row_places keyword.Square (d + 1)) count) (rest_after d m) (AreRows keyword.Square count (d + 1)) (AreSquaresOf d m count)
    (yields_rows keyword.Square count (d + 1))
    (λ squares ls a. yields_made (rows_in (row_places keyword.Rest d) d) (made_of m squares) (AreRows keyword.Rest d d) (λ s ms. AreSquaresOf d m count s (ls ++ ms))
    (yields_rows keyword.Rest d d) (λ rest ms b. squares_have d count m squares rest h few whole ls ms a b))

-- squares of rows of d places, and their lines after this word
abbrev pub AreSquaresAfter : Keyword → ℕ → Squares → List Line → Type 0
AreSquaresAfter w d s ls = AreSquares d s × (ls ≡ squares_lines w d s)

head_text : (w : Keyword) (m : ℤ) (count d : ℕ) (s : Squares) (hs ls : List Line) → hs ≡ (keyword_text w ∷ signed_decimal m ∷ decimal count ∷ []) ∷ []
    → AreSquaresOf d m count s ls → hs ++ ls ≡ squares_lines w d s
head_text w m count d s hs ls e a = joined e a.lines ∙ ap (λ z. (keyword_text w ∷ signed_decimal z ∷ decimal count ∷ []) ∷ squares_body d s) (sym a.factor_is)
    ∙ ap (λ n. (keyword_text w ∷ signed_decimal s.m ∷ decimal n ∷ []) ∷ squares_body d s) (sym a.many)

pub yields_squares : (w : Keyword) (d : ℕ) → d ≤ most_places → Yields (squares_in w d) (AreSquaresAfter w d)
yields_squares w d h =
    yields_both (numbers_in (squares_places w)) (squares_after d) (IsHead w) (AreSquaresAfter w d) (yields_numbers (squares_places w) (IsHead w) refl (head_by w))
    (λ head hs k. yields_weaker (squares_of d (get_or head 0 (pos 0)) (count_at head 1)) (AreSquaresOf d (get_or head 0 (pos 0)) (count_at head 1)) (λ s ls. AreSquaresAfter w d s (hs ++ ls))
    (yields_squares_of d (get_or head 0 (pos 0)) (count_at head 1) h k.few k.factor)
    (λ s ls a. (a.squares, head_text w (get_or head 0 (pos 0)) (count_at head 1) d s hs ls k.lines a)))

-- ---- a falling form
-- an offer of d places, its lines and the last line
pub record IsFallOf (d : ℕ) (offer : Falls) (ls : List Line) : Type 0 where
  pub places : offer.form.d ≡ d
  pub offer_is : IsOffer offer
  pub lines : ls ≡ falls_lines offer ++ word_line keyword.End ∷ []

falls_have : (d : ℕ) (offer : Falls) (us bs cs es : List Line) → IsFormOf d offer.form us → AreSquaresAfter keyword.Positive d offer.positive bs → AreSquaresAfter keyword.Fall d offer.fall cs
    → es ≡ word_line keyword.End ∷ [] → IsFallOf d offer (us ++ (bs ++ (cs ++ es)))
falls_have d offer us bs cs es a p f e =
    let n = offer.form.d in
    let positive : AreSquaresAfter keyword.Positive n offer.positive bs = subst (λ k. AreSquaresAfter keyword.Positive k offer.positive bs) (sym a.places) p in
    let fall : AreSquaresAfter keyword.Fall n offer.fall cs = subst (λ k. AreSquaresAfter keyword.Fall k offer.fall cs) (sym a.places) f in
    record {
      places = a.places;
      offer_is = record { form = a.form; positive = positive.0; fall = fall.0 };
      lines = joined a.lines (joined positive.1 (joined fall.1 e))
          ∙ four_parts (rows_lines keyword.Form n offer.form.rows) (squares_lines keyword.Positive n offer.positive) (squares_lines keyword.Fall n offer.fall) (word_line keyword.End ∷ []);
    }

pub yields_falls : (d : ℕ) → d ≤ most_places → Yields (falls_in d) (IsFallOf d)
yields_falls d h =
    yields_both (form_in d) (form_after d) (IsFormOf d) (IsFallOf d) (yields_form d h)
    (λ form us a. yields_both (squares_in keyword.Positive d) (positive_after d form) (AreSquaresAfter keyword.Positive d) (λ o ls. IsFallOf d o (us ++ ls)) (yields_squares keyword.Positive d h)
    (λ positive bs p. yields_both (squares_in keyword.Fall d) (fall_after form positive) (AreSquaresAfter keyword.Fall d) (λ o ls. IsFallOf d o (us ++ (bs ++ ls))) (yields_squares keyword.Fall d h)
    (λ fall cs f. yields_made (word_in keyword.End) (λ _. record { form = form; positive = positive; fall = fall }) (λ _ es. es ≡ word_line keyword.End ∷ [])
    (λ o ls. IsFallOf d o (us ++ (bs ++ (cs ++ ls)))) (yields_word keyword.End)
    (λ _ es e. falls_have d (record { form = form; positive = positive; fall = fall }) us bs cs es a p f e))))
