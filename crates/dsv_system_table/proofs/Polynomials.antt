-- Polynomials as lists, and reversals of rows.
use Rattle.std.proofs.Common.{◌≡◌, ℕ, suc, ◌-◌, ◌<◌, List, length, sym, ap, subst, ◌∙◌, arith}
use Rattle.std.proofs.Math.IntN.{ℤ, pos, ◌*ℤ◌}
use lib.Signed.{◌<ℤ◌}
use Rattle.dsv_algebra.specs.Vectors.{Vector, Matrix, sum_to, vector_of}
use Rattle.dsv_algebra.specs.Falling.{power}
use Rattle.dsv_algebra.proofs.Signs.{mul_positive}
use Rattle.dsv_algebra.proofs.Sums.{sum_same}
use Rattle.dsv_algebra.proofs.KeptAway.{power_positive}
use Rattle.dsv_table.specs.Findings.{IsFinding}
use Rattle.dsv_table.specs.Systems.{divided}
use Rattle.dsv_table.specs.Table.{verdict_from, verdict_of}
use Rattle.dsv_table.specs.declared.finding.TableFinding.{TableFinding}
use Rattle.dsv_table.proofs.Identity.{sum_turned}
use Rattle.dsv_table.proofs.Verdicts.{verdict_same}
use Rattle.dsv_system_table.specs.Polynomials.{IsDividedFinding}
use Rattle.dsv_system_table.specs.Rows.{AreEntries, IsNoneIn, row_sum, reversal, power_products}

-- The reversal of the products of a reversal with powers is the divided row.
pub divided_entries : (row first middle last : List ℤ) (q : ℤ) → AreEntries (length row) (reversal row) first
    → AreEntries (length first) (power_products q first) middle → AreEntries (length middle) (reversal middle) last
    → AreEntries (length row) (divided (length row - 1) q (vector_of row)) last
divided_entries row first middle last q a b c =
    let n = length row in
    let an = a.places in
    let bn = b.places in
    let cn = c.places in
    record {
      places = omega (arith, an, bn, cn);
      same = λ i h.
          (let k = n - 1 - i in
          let t : length middle - 1 - i ≡ k = omega (arith, an, bn, h) in
          let back : n - 1 - k ≡ i = omega (arith, h) in
          c.same i (omega (arith, an, bn, h))
          ∙ ap (vector_of middle) t
          ∙ b.same k (omega (arith, an, h))
          ∙ ap (λ z. z *ℤ power q k) (a.same k (omega (arith, h)) ∙ ap (vector_of row) back));
    }

-- The table of the list is that of the divided polynomial.
pub divided_table : (row list : List ℤ) (q : ℤ) → 0 < length row → AreEntries (length row) (divided (length row - 1) q (vector_of row)) list
    → verdict_of list ≡ verdict_from (length row - 1) 0 (divided (length row - 1) q (vector_of row))
divided_table row list q some a =
    ap (λ n. verdict_from (n - 1) 0 (vector_of list)) a.places
    ∙ verdict_same (length row - 1) 0 (vector_of list) (divided (length row - 1) q (vector_of row)) (λ i b. a.same i (omega arith))

-- The divided polynomial has a positive lead.
pub lead_positive : (d : ℕ) (q : ℤ) (a : Vector) → pos 0 <ℤ q → pos 0 <ℤ a 0 → pos 0 <ℤ divided d q a 0
lead_positive d q a h l = mul_positive (a 0) (power q (d - 0)) l (power_positive q (d - 0) h)

pub divided_lead : (row list : List ℤ) (q : ℤ) → 0 < length row → pos 0 <ℤ vector_of row 0 → pos 0 <ℤ q
    → AreEntries (length row) (divided (length row - 1) q (vector_of row)) list → pos 0 <ℤ vector_of list 0
divided_lead row list q some l h a = subst (λ z. pos 0 <ℤ z) (sym (a.same 0 some)) (lead_positive (length row - 1) q (vector_of row) h l)

-- What is found of the list is what is found of the divided polynomial.
pub divided_finding_is : (row list : List ℤ) (q : ℤ) (found : TableFinding) → AreEntries (length row) (divided (length row - 1) q (vector_of row)) list
    → IsFinding list found → IsDividedFinding q row found
divided_finding_is row list q found a f =
    let same = sym f.poly in
    record {
      poly = subst (λ cs. AreEntries (length row) (divided (length row - 1) q (vector_of row)) cs) same a;
      finding = subst (λ cs. IsFinding cs found) same f;
    }

-- A sum with the numbers from the last one on.
pub reversal_sum : (row first sums : List ℤ) (K : Matrix) (width l : ℕ) → 0 < length row → AreEntries (length row) (reversal row) first
    → AreEntries width (row_sum (length row) (vector_of first) K) sums → IsNoneIn sums → l < width
    → sum_to (length row) (λ k. vector_of row k *ℤ K (length row - 1 - k) l) ≡ pos 0
reversal_sum row first sums K width l some a b none h =
    let n = length row in
    let e : suc (n - 1) ≡ n = omega arith in
    let term : ℕ → ℤ = λ k. vector_of row k *ℤ K (n - 1 - k) l in
    let turned_term : ℕ → ℤ = λ k. term (n - 1 - k) in
    let bn = b.places in
    ap (λ m. sum_to m term) (sym e)
    ∙ sym (sum_turned (n - 1) term)
    ∙ ap (λ m. sum_to m turned_term) e
    ∙ sum_same n turned_term (λ m. vector_of first m *ℤ K m l)
    (λ m c. ap (λ z. z *ℤ K (n - 1 - (n - 1 - m)) l) (sym (a.same m c)) ∙ ap (λ i. vector_of first m *ℤ K i l) (let t : n - 1 - (n - 1 - m) ≡ m = omega (arith, c) in t))
    ∙ sym (b.same l h)
    ∙ none l (omega (arith, bn, h))
