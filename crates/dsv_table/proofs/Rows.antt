-- The verdict on a row that is a list, and on the row after it.
use Rattle.std.proofs.Common.{◌≡◌, ℕ, zero, suc, ◌+◌, ◌-◌, ◌<◌, ◌≤◌, true, int_lt, if◌then◌else◌, List, [], ◌∷◌, length, get_or, subst, refl, sym, ap, ◌∙◌, arith}
use Rattle.std.proofs.Math.IntN.{ℤ, pos, ◌*ℤ◌, *ℤ_comm}
use Rattle.std.proofs.lemmas.Int.{ints}
use lib.Signed.{◌<ℤ◌}
use Rattle.dsv_algebra.specs.Vectors.{vector_of}
use Rattle.dsv_algebra.proofs.Normaliser.{ring, env, var, num, times}
use Rattle.dsv_table.specs.Table.{row_after, verdict_from, verdict_of}
use Rattle.dsv_table.specs.Rows.{AreDifferences, AreShorter}
use Rattle.dsv_table.specs.declared.verdict.TableVerdict.{TableVerdict}
use Rattle.dsv_table.specs.declared.verdict.TableVerdict.TheVariants as verdict
use Rattle.dsv_table.proofs.Sides.{positive}
use Rattle.dsv_table.proofs.Verdicts.{verdict_same, sign_times, factors_do_not_count}

-- the verdict of a table that has passed all rows before this one, which has this number
abbrev pub verdict_at : ℕ → List ℤ → TableVerdict
verdict_at number [] = verdict.Inside
verdict_at number (x ∷ xs) =
    if int_lt (pos 0) x then verdict_from (length xs) number (vector_of (x ∷ xs)) else verdict.NotInside number

-- The row after a row, without a positive factor.
pub record IsNext (row next : List ℤ) : Type 0 where
  pub places : length next + 1 ≡ length row
  pub factor : ℤ
  pub positive : pos 0 <ℤ factor
  pub same : (i : ℕ) → i + 1 < length row → factor *ℤ vector_of next i ≡ row_after (length row - 1) (vector_of row) i

pub shorter_is_next : (row differences next : List ℤ) → AreDifferences row differences → AreShorter differences next → IsNext row next
shorter_is_next row differences next d s = record {
  places = omega (arith, d.places, s.quotients.places);
  factor = s.factor;
  positive = s.positive;
  same = λ i b. *ℤ_comm s.factor (vector_of next i)
      ∙ s.quotients.same i (let p = d.places in omega arith)
      ∙ d.same i b;
}

-- numbers as they are
pub shorter_by_one : (numbers : List ℤ) → AreShorter numbers numbers
shorter_by_one numbers = record {
  factor = pos 1;
  positive = omega (arith, ints);
  quotients = record {
    places = refl;
    same = λ i b. ring (env (vector_of numbers i ∷ [])) (times (var 0) (num (pos 1))) (var 0) refl;
  };
}

next_verdict : (e number : ℕ) (row next : List ℤ) → length row ≡ suc e → IsNext row next
    → verdict_from e number (vector_of row) ≡ verdict_at (number + 1) next
next_verdict zero number row [] h n = refl
next_verdict zero number row (y ∷ ys) h n = absurd (let p = n.places in omega arith)
next_verdict (suc e) number row [] h n = absurd (let p = n.places in omega arith)
next_verdict (suc e) number row (y ∷ ys) h n =
    let p = n.places in
    let t : length row - 1 ≡ suc e = omega arith in
    let s : length ys ≡ e = omega arith in
    let m = n.factor in
    let R = row_after (suc e) (vector_of row) in
    let next = vector_of (y ∷ ys) in
    let same : (i : ℕ) → i ≤ e → R i ≡ m *ℤ next i = λ i b. sym (n.same i (omega arith) ∙ ap (λ d. row_after d (vector_of row) i) t) in
    let first : int_lt (pos 0) (R 0) ≡ int_lt (pos 0) y = ap (λ z. int_lt (pos 0) z) (same 0 (omega arith)) ∙ sign_times m y n.positive in
    rw (
      first,
      s,
      verdict_same e (number + 1) R (λ i. m *ℤ next i) same,
      factors_do_not_count e (number + 1) m next n.positive,
    ) refl

-- what the first number of a row says
pub read_positive : (number : ℕ) (row next : List ℤ) (v : TableVerdict) → IsNext row next → int_lt (pos 0) (vector_of row 0) ≡ true
    → verdict_at number row ≡ v → verdict_at (number + 1) next ≡ v
read_positive number [] next v n p h = absurd (let q = n.places in omega arith)
read_positive number (x ∷ xs) next v n p h =
    sym (next_verdict (length xs) number (x ∷ xs) next (omega arith) n) ∙ sym (rw p refl) ∙ h

-- a first number that was passed
pub passed : (row : List ℤ) (x : ℤ) → 0 < length row → x ≡ get_or row 0 x → int_lt (pos 0) (vector_of row 0) ≡ true → pos 0 <ℤ x
passed [] x b e h = absurd (omega arith)
passed (y ∷ ys) x b e h = subst (λ z. pos 0 <ℤ z) (sym e) (positive y h)

-- the beginning of a table
pub read_differences : (cs differences : List ℤ) → 0 < length cs → AreDifferences cs differences → verdict_at 1 differences ≡ verdict_of cs
read_differences cs differences b d =
    sym (next_verdict (length cs - 1) 0 cs differences (omega arith) (record {
      places = d.places;
      factor = pos 1;
      positive = omega (arith, ints);
      same = λ i h. ring (env (vector_of differences i ∷ [])) (times (num (pos 1)) (var 0)) (var 0) refl ∙ d.same i h;
    }))
