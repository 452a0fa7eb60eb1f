-- An offer with the numbers of its places alone has the offer's text, and where those are narrow it is lawful.
use Rattle.std.proofs.Common.{◌≡◌, ◌∙◌, sym, ap, ℕ, ◌<◌, ◌≤◌, true, List, [], ◌∷◌, ◌++◌, length, map, take, get_or, ℤ, pos, arith}
use Rattle.std.specs.List.{All, flat_map}
use Rattle.std.proofs.lemmas.Bool.Decides.{nat_tests}
use Rattle.std.proofs.lemmas.Int.{ints}
use Rattle.std.proofs.lemmas.List.{length-map, length-take, get_or-take}
use Rattle.std.proofs.lemmas.List.Elements.{All-same, All-from_get_or}
use Rattle.dsv_algebra.specs.Narrow.{is_narrow}
use Rattle.dsv_algebra.specs.Vectors.{vector_of, matrix_of}
use Rattle.dsv_forms.specs.OfferLaws.{AreNarrow, IsNarrow}
use Rattle.dsv_forms.specs.Padded.{row_of, matrix_with, corner, form_with, form_alone, squares_alone, offer_alone}
use Rattle.dsv_forms.specs.Poly.{greatest_order}
use Rattle.dsv_forms.specs.declared.offers.Form.{Form}
use Rattle.dsv_forms.specs.declared.offers.Squares.{Squares}
use Rattle.dsv_forms.specs.declared.offers.Falls.{Falls}
use Rattle.dsv_forms.proofs.Alike.{corner_row}
use lib.Signed.{◌<ℤ◌}
use Rattle.dsv_certfile.specs.Lawful.{IsWhole, AreWhole, IsForm, AreSquares, IsOffer, certificate_alone}
use Rattle.dsv_certfile.specs.Limits.{most_places}
use Rattle.dsv_lines.specs.Texts.{Line, line_text}
use Rattle.dsv_certfile.specs.Texts.{head_lines, kind_line, word_line, certificate_text, numbers_line, rows_lines, square_lines, squares_head, squares_lines, falls_lines}
use Rattle.dsv_certfile.specs.Typed.{IsTypedMatrix, IsTypedFactor, AreTypedSquares, IsTypedOffer}
use Rattle.dsv_certfile.specs.declared.certificate.Certificate.TheVariants as certificate
use Rattle.dsv_certfile.specs.declared.job.CertifiedJob.{CertifiedJob}
use Rattle.dsv_certfile.specs.declared.kind.Kind.TheVariants as kind
use Rattle.dsv_certfile.specs.declared.keyword.Keyword.{Keyword}
use Rattle.dsv_certfile.specs.declared.keyword.Keyword.TheVariants as keyword
use Rattle.dsv_certfile.proofs.Corners.{corner_length, corner_rows, take-row_of, corner-matrix_with}
use Rattle.dsv_certfile.proofs.LawfulFalls.{same_squares}
use Rattle.dsv_certfile.proofs.WrittenFalls.{weighted_rows, rows_as, squares_as}

-- ---- what is written is the same
corner_alone : (n d : ℕ) (matrix : List (List ℤ)) → IsTypedMatrix n matrix → n ≤ greatest_order → d ≤ greatest_order → corner n d (matrix_with (corner n d matrix)) ≡ corner n d matrix
corner_alone n d matrix t h k = corner-matrix_with n d (corner n d matrix) (corner_length n d matrix t.count h) h k (corner_rows n d matrix t.rows k)

weights_long : (d : ℕ) (s : Squares) → AreTypedSquares d s → s.count ≤ greatest_order → length (take s.count s.weights) ≡ s.count
weights_long d s t h = omega (arith, length-take s.count s.weights, t.squares.weights, h)

weights_alone : (d : ℕ) (s : Squares) → AreTypedSquares d s → s.count ≤ greatest_order → take s.count (row_of (take s.count s.weights)) ≡ take s.count s.weights
weights_alone d s t h = take-row_of s.count (take s.count s.weights) (weights_long d s t h) h

rows_lines_alone : (w : Keyword) (d : ℕ) (matrix : List (List ℤ)) → IsTypedMatrix d matrix → d ≤ greatest_order → rows_lines w d (matrix_with (corner d d matrix)) ≡ rows_lines w d matrix
rows_lines_alone w d matrix t h =
    rows_as w d (matrix_with (corner d d matrix)) ∙ ap (map (numbers_line w)) (corner_alone d d matrix t h h) ∙ sym (rows_as w d matrix)

square_lines_alone : (d : ℕ) (s : Squares) → AreTypedSquares d s → d ≤ greatest_order → s.count ≤ greatest_order
    → square_lines d (take s.count (row_of (take s.count s.weights))) (matrix_with (corner s.count d s.rows)) ≡ square_lines d (take s.count s.weights) s.rows
square_lines_alone d s t h k =
    let ws = take s.count s.weights in
    let rows = corner s.count d s.rows in
    squares_as s.count d (row_of ws) (matrix_with rows)
    ∙ ap (λ zs. map (numbers_line keyword.Square) (weighted_rows zs (corner s.count d (matrix_with rows)))) (weights_alone d s t k)
    ∙ ap (λ rs. map (numbers_line keyword.Square) (weighted_rows ws rs)) (corner_alone s.count d s.rows t.squares.rows k h)
    ∙ sym (squares_as s.count d s.weights s.rows)

squares_lines_alone : (w : Keyword) (d : ℕ) (s : Squares) → AreTypedSquares d s → d ≤ greatest_order → s.count ≤ greatest_order → squares_lines w d (squares_alone d s) ≡ squares_lines w d s
squares_lines_alone w d s t h k =
    ap (λ (ls : List Line). squares_head w s ∷ ls ++ rows_lines keyword.Rest d (matrix_with (corner d d s.rest))) (square_lines_alone d s t h k)
    ∙ ap (λ (ls : List Line). squares_head w s ∷ square_lines d (take s.count s.weights) s.rows ++ ls) (rows_lines_alone keyword.Rest d s.rest t.rest h)

falls_lines_alone : (offer : Falls) → IsTypedOffer offer → offer.form.d ≤ greatest_order → offer.positive.count ≤ greatest_order → offer.fall.count ≤ greatest_order
    → falls_lines (offer_alone offer) ≡ falls_lines offer
falls_lines_alone offer t h k l =
    let d = offer.form.d in
    let fall = squares_lines keyword.Fall d (squares_alone d offer.fall) in
    ap (λ (ls : List Line). ls ++ squares_lines keyword.Positive d (squares_alone d offer.positive) ++ fall) (rows_lines_alone keyword.Form d offer.form.rows t.form h)
    ∙ ap (λ (ls : List Line). rows_lines keyword.Form d offer.form.rows ++ ls ++ fall) (squares_lines_alone keyword.Positive d offer.positive t.positive h k)
    ∙ ap (λ (ls : List Line). rows_lines keyword.Form d offer.form.rows ++ squares_lines keyword.Positive d offer.positive ++ ls) (squares_lines_alone keyword.Fall d offer.fall t.fall h l)

-- the text of an accepted offer's certificate is that with its places alone
pub falls_text_alone : (job : CertifiedJob) (offer : Falls) → IsTypedOffer offer → offer.form.d ≤ most_places → IsNarrow offer
    → certificate_text (certificate_alone (certificate.Falls job offer)) ≡ certificate_text (certificate.Falls job offer)
falls_text_alone job offer t h n =
    ap (λ (ls : List Line). flat_map line_text (head_lines job ++ kind_line kind.Falls (offer.form.d ∷ []) ∷ (ls ++ word_line keyword.End ∷ [])))
    (falls_lines_alone offer t h (omega (arith, n.positive.count, h)) (omega (arith, n.fall.count, h)))

-- ---- what is written is in range
narrow_whole : (z : ℤ) → is_narrow z ≡ true → IsWhole z
narrow_whole z h = grind (arith, nat_tests)

narrow_row : (d : ℕ) (r : List ℤ) → ((j : ℕ) → j < d → is_narrow (vector_of r j) ≡ true) → All IsWhole (take d r)
narrow_row d r h =
    All-from_get_or IsWhole (take d r) (pos 0)
    (λ j l. let k : j < d = omega (arith, length-take d r, l) in narrow_whole (get_or (take d r) j (pos 0)) (ap is_narrow (get_or-take d r j (pos 0) k) ∙ h j k))

narrow_corner : (n d : ℕ) (matrix : List (List ℤ)) → ((i j : ℕ) → i < n → j < d → is_narrow (matrix_of matrix i j) ≡ true) → AreWhole (corner n d matrix)
narrow_corner n d matrix h =
    All-from_get_or (All IsWhole) (corner n d matrix) []
    (λ i l. let k : i < n = omega (arith, length-map (take n matrix) (take d), length-take n matrix, l) in
    All-same IsWhole (get_or (corner n d matrix) i []) (take d (get_or matrix i [])) (corner_row n d i matrix ∙ ap (take d) (get_or-take n matrix i [] k))
    (narrow_row d (get_or matrix i []) (λ j. h i j k)))

form_is_lawful : (f : Form) → IsTypedMatrix f.d f.rows → f.d ≤ most_places → ((i j : ℕ) → i < f.d → j < f.d → is_narrow (matrix_of f.rows i j) ≡ true) → IsForm (form_alone f)
form_is_lawful f t h n =
    let rows = corner f.d f.d f.rows in
    let same = corner_alone f.d f.d f.rows t h h in
    let placed : ℕ → Form = λ d. record { d = d; rows = matrix_with rows } in
    record {
      few = h;
      filled = ap placed (sym (corner_length f.d f.d f.rows t.count h)) ∙ ap form_with (sym same);
      rows = All-same (All IsWhole) (corner f.d f.d (matrix_with rows)) rows same (narrow_corner f.d f.d f.rows n);
    }

factor_whole : (m : ℤ) → pos 0 <ℤ m → IsTypedFactor m → IsWhole m
factor_whole m h t = omega (arith, ints)

squares_are_lawful : (d : ℕ) (s : Squares) → AreTypedSquares d s → d ≤ most_places → AreNarrow d s → AreSquares d (squares_alone d s)
squares_are_lawful d s t h n =
    let ws = take s.count s.weights in
    let rows = corner s.count d s.rows in
    let rest = corner d d s.rest in
    let few : s.count ≤ greatest_order = omega (arith, n.count, h) in
    let same_weights = weights_alone d s t few in
    let same_rows = corner_alone s.count d s.rows t.squares.rows few h in
    let same_rest = corner_alone d d s.rest t.rest h h in
    let counted : ℕ → Squares = λ k. record { m = s.m; count = k; weights = row_of ws; rows = matrix_with rows; rest = matrix_with rest } in
    record {
      few = few;
      filled = ap counted (sym (weights_long d s t few))
          ∙ same_squares s.m (take s.count (row_of ws)) ws (corner s.count d (matrix_with rows)) rows (corner d d (matrix_with rest)) rest same_weights same_rows same_rest;
      factor = factor_whole s.m n.factor t.factor;
      weights = All-same IsWhole (take s.count (row_of ws)) ws same_weights (narrow_row s.count s.weights (λ k l. n.weights k (omega (arith, n.count, l))));
      rows = All-same (All IsWhole) (corner s.count d (matrix_with rows)) rows same_rows (narrow_corner s.count d s.rows (λ i j k l. n.rows i j (omega (arith, n.count, k)) l));
      rest = All-same (All IsWhole) (corner d d (matrix_with rest)) rest same_rest (narrow_corner d d s.rest n.rest);
    }

pub offer_is_lawful : (offer : Falls) → IsTypedOffer offer → offer.form.d ≤ most_places → IsNarrow offer → IsOffer (offer_alone offer)
offer_is_lawful offer t h n = record {
  form = form_is_lawful offer.form t.form h n.form;
  positive = squares_are_lawful offer.form.d offer.positive t.positive h n.positive;
  fall = squares_are_lawful offer.form.d offer.fall t.fall h n.fall;
}
