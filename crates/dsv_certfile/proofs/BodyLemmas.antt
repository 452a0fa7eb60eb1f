-- Lines one after another.
use Rattle.std.proofs.Common.{◌≡◌, ◌∙◌, ap, ℕ, zero, suc, ◌+◌, ◌≤◌, ◌<◌, List, [], ◌∷◌, ◌++◌, length, map, take, drop, replicate, get_or, Result, Ok, Err, refl, sym, arith, add-one, IfOk}
use Rattle.std.proofs.Math.IntN.{ℤ, pos}
use Rattle.std.specs.Int.RustNames.{unsigned_abs}
use Rattle.std.proofs.lemmas.List.{take-replicate, length-map}
use Rattle.dsv_text.specs.Stages.{◌>>=◌}
use Rattle.dsv_lines.specs.Readings.{Reading, reading_of}
use Rattle.dsv_forms.specs.Padded.{row_of, matrix_with, form_with, squares_with}
use Rattle.dsv_forms.specs.declared.offers.Squares.{Squares}
use Rattle.dsv_certfile.specs.Bodies.{line_in, lines_from, rows_in, squares_of}
use Rattle.dsv_certfile.specs.Places.{row_places}
use Rattle.dsv_certfile.specs.declared.keyword.Keyword.TheVariants as keyword
use Rattle.dsv_certfile.specs.Answers.{RefusesText, text_refusal}
use Rattle.dsv_certfile.specs.Candidates.{AreEntries}
use Rattle.dsv_certfile.specs.Limits.{greatest_entry}
use Rattle.dsv_lines.specs.Pieces.{LinesLeft}
use Rattle.dsv_certfile.specs.Ranges.{AreOf}
use Rattle.dsv_certfile.specs.declared.fault.TextFault.{TextFault}
use Rattle.dsv_certfile.specs.declared.fault.CertRefusal.{CertRefusal}
use Rattle.dsv_certfile.specs.declared.fault.CertRefusal.TheVariants as refusal
use Rattle.dsv_certfile.specs.declared.fault.TextRefusal.{TextRefusal}
use Rattle.dsv_certfile.specs.declared.keyword.Keyword.{Keyword}
use Rattle.dsv_certfile.specs.declared.numbers.NumberRange.{NumberRange}
use Rattle.dsv_certfile.specs.declared.numbers.NumberRange.TheVariants as range
use Rattle.dsv_certfile.specs.declared.places.Place.TheVariants as place
use Rattle.dsv_certfile.proofs.RangeLemmas.{row_has}

-- ---- so many lines
pub one_line : {X : Type 0} (read : List ℕ → Result X TextFault) (n m : ℕ) (xs : List X) (old new : LinesLeft) (x : X)
    → n ≡ suc m → line_in read old ≡ Ok (reading_of x new) → lines_from read n xs old ≡ lines_from read m (xs ++ x ∷ []) new
one_line {X = X} read n m xs old new x e h =
    ap (λ k. lines_from read k xs old) e
    ∙ ap (λ (r : Result (Reading X) TextRefusal). r >>= λ y. lines_from read m (xs ++ y.value ∷ []) y.left) h

pub bad_line : {X : Type 0} (read : List ℕ → Result X TextFault) (n m : ℕ) (xs : List X) (old : LinesLeft) (why : TextRefusal)
    → n ≡ suc m → line_in read old ≡ Err why → lines_from read n xs old ≡ Err why
bad_line {X = X} read n m xs old why e h =
    ap (λ k. lines_from read k xs old) e
    ∙ ap (λ (r : Result (Reading X) TextRefusal). r >>= λ y. lines_from read m (xs ++ y.value ∷ []) y.left) h

-- a line that isn't read, be it for want of memory
pub bad_lines : {X : Type 0} (read : List ℕ → Result X TextFault) (n m : ℕ) (xs : List X) (old : LinesLeft) (why : CertRefusal)
    → n ≡ suc m → RefusesText why (line_in read old) → RefusesText why (lines_from read n xs old)
bad_lines read n m xs old refusal.NoMemory e h = tt
bad_lines read n m xs old (refusal.Text k w) e h = bad_line read n m xs old (text_refusal k w) e h

pub refuses_as : {X : Type 0} (why : CertRefusal) (a b : Result X TextRefusal) → a ≡ b → RefusesText why a → RefusesText why b
refuses_as refusal.NoMemory a b e h = tt
refuses_as (refusal.Text k w) a b e h = sym e ∙ h

-- ---- places of one range
pub places_taken : (w : Keyword) (r : NumberRange) (n m : ℕ) → n ≤ m
    → take (n + 1) (place.Word w ∷ replicate m (place.Number r)) ≡ place.Word w ∷ replicate n (place.Number r)
places_taken w r n m h = rw add-one (ap (λ ps. place.Word w ∷ ps) (take-replicate n m (place.Number r) h))

are_entries : (n : ℕ) (zs : List ℤ) → AreOf (replicate n (place.Number range.Entry)) zs
    → (k : ℕ) → unsigned_abs (get_or zs k (pos 0)) ≤ greatest_entry
are_entries zero [] h k = omega arith
are_entries zero (z ∷ zs) h k = absurd h
are_entries (suc n) [] h k = absurd h
are_entries (suc n) (z ∷ zs) h zero = h.0
are_entries (suc n) (z ∷ zs) h (suc k) = are_entries n zs h.1 k

abbrev AreEntriesOf : Keyword → ℕ → List ℤ → Type 0
AreEntriesOf w n zs = AreOf (place.Word w ∷ replicate n (place.Number range.Entry)) zs

pub some_entries : (w : Keyword) (n : ℕ) (r : Result (List ℤ) TextFault) → 1 ≤ n → IfOk r (λ zs. AreEntriesOf w n zs) → IfOk r (λ zs. 0 < length zs)
some_entries w n (Ok zs) h k = omega (arith, h, (row_has range.Entry n zs k).0)
some_entries w n (Err why) h k = tt

pub few_entries : (w : Keyword) (n : ℕ) (r : Result (List ℤ) TextFault) → n ≤ 17 → IfOk r (λ zs. AreEntriesOf w n zs) → IfOk r (λ zs. length zs ≤ 17)
few_entries w n (Ok zs) h k = omega (arith, h, (row_has range.Entry n zs k).0)
few_entries w n (Err why) h k = tt

pub small_entries : (w : Keyword) (n : ℕ) (r : Result (List ℤ) TextFault) → IfOk r (λ zs. AreEntriesOf w n zs) → IfOk r (λ zs. AreEntries zs)
small_entries w n (Ok zs) k = are_entries n zs k
small_entries w n (Err why) k = tt

-- ---- squares
abbrev after_rest : ℤ → List (List ℤ) → Reading (List (List ℤ)) → Result (Reading Squares) TextRefusal
after_rest m squares rest =
    Ok (reading_of (squares_with m (map (λ square. get_or square 0 (pos 0)) squares) (map (drop 1) squares) rest.value) rest.left)

abbrev after_squares : ℕ → ℤ → Reading (List (List ℤ)) → Result (Reading Squares) TextRefusal
after_squares d m squares = rows_in (row_places keyword.Rest d) d squares.left >>= after_rest m squares.value

pub squares_read : (d count : ℕ) (m : ℤ) (a b c : LinesLeft) (squares rest : List (List ℤ))
    → rows_in (row_places keyword.Square (d + 1)) count a ≡ Ok (reading_of squares b)
    → rows_in (row_places keyword.Rest d) d b ≡ Ok (reading_of rest c)
    → squares_of d m count a ≡ Ok (reading_of (squares_with m (map (λ square. get_or square 0 (pos 0)) squares) (map (drop 1) squares) rest) c)
squares_read d count m a b c squares rest s r =
    ap (λ (x : Result (Reading (List (List ℤ))) TextRefusal). x >>= after_squares d m) s
    ∙ ap (λ (x : Result (Reading (List (List ℤ))) TextRefusal). x >>= after_rest m squares) r

pub from_start : {A : Type 0} (rows : List (List A)) → map (drop 0) rows ≡ rows
from_start [] = refl
from_start (r ∷ rows) = ap (λ rs. r ∷ rs) (from_start rows)

-- the squares by their parts
pub squares_made : (m n : ℤ) (count : ℕ) (weights : List ℤ) (rows rest : List (List ℤ)) (squares others : List (List ℤ))
    → m ≡ n → length squares ≡ count
    → weights ≡ row_of (map (λ square. get_or square 0 (pos 0)) squares) → rows ≡ matrix_with (map (drop 1) squares) → rest ≡ matrix_with (map (drop 0) others)
    → squares_with n (map (λ square. get_or square 0 (pos 0)) squares) (map (drop 1) squares) others
    ≡ record { m = m; count = count; weights = weights; rows = rows; rest = rest }
squares_made m n count weights rows rest squares others e k w r o =
    let long : length (map (λ (square : List ℤ). get_or square 0 (pos 0)) squares) ≡ count = length-map squares (λ square. get_or square 0 (pos 0)) ∙ k in
    let others_whole : rest ≡ matrix_with others = o ∙ ap matrix_with (from_start others) in
    rw (e, w, r, others_whole, ← long) refl

-- ---- a form
pub form_made : (d : ℕ) (rows : List (List ℤ)) (matrix : List (List ℤ)) → length rows ≡ d → matrix ≡ matrix_with (map (drop 0) rows)
    → form_with rows ≡ record { d = d; rows = matrix }
form_made d rows matrix k m =
    let whole : matrix ≡ matrix_with rows = m ∙ ap matrix_with (from_start rows) in
    rw (whole, ← k) refl
