-- What the checks of a polynomial, and of starts, show of a system.
use Rattle.std.proofs.Common.{◌≡◌, ◌≢◌, ℕ, zero, suc, ◌+◌, ◌-◌, ◌<◌, ◌≤◌, true, false, List, length, sym, ap, subst, ◌∙◌, arith}
use Rattle.std.proofs.Math.IntN.{ℤ, pos, ◌*ℤ◌}
use lib.Signed.{◌<ℤ◌}
use Rattle.dsv_algebra.specs.Vectors.{Vector, Matrix, sum_to, vector_of, matrix_of}
use Rattle.dsv_algebra.proofs.Sums.{sum_same}
use Rattle.dsv_table.specs.RootSize.{is_inside}
use Rattle.dsv_table.specs.Systems.{divided}
use Rattle.dsv_table.specs.Table.{verdict_from}
use Rattle.dsv_table.specs.declared.finding.TableFinding.{TableFinding}
use Rattle.dsv_table.specs.declared.verdict.TableVerdict.{TableVerdict}
use Rattle.dsv_table.specs.declared.verdict.TableVerdict.TheVariants as verdict
use Rattle.dsv_table.proofs.Systems.{systems_fall}
use Rattle.dsv_table.proofs.Verdicts.{decides}
use Rattle.dsv_table.proofs.RootSizes.{shown_inside, shown_outside}
use Rattle.dsv_table.proofs.Circle.{apart}
use Rattle.dsv_system_table.specs.Outputs.{unit, row_power, IsObeyed, IsRightInverse}
use Rattle.dsv_system_table.specs.Polynomials.{IsAnnihilator, IsDividedFinding}
use Rattle.dsv_system_table.specs.Rows.{AreRowPowers}
use Rattle.dsv_system_table.specs.SystemFindings.{SystemFalls, SystemIsKeptAway, IsSystemShown, IsSystemFinding}
use Rattle.dsv_system_table.proofs.Outputs.{annihilated, outputs_keep_away}
use Rattle.dsv_system_table.proofs.Polynomials.{divided_table, lead_positive}

-- ---- what was computed of powers is so of the powers
pub obeyed : (d n : ℕ) (M : Matrix) (w : Vector) (cs : List ℤ) (powers : List (List ℤ)) → AreRowPowers d M w n powers → 0 < length cs → length cs ≤ n
    → ((l : ℕ) → l < d → sum_to (length cs) (λ k. vector_of cs k *ℤ matrix_of powers (length cs - 1 - k) l) ≡ pos 0)
    → IsObeyed d (length cs - 1) M w (vector_of cs)
obeyed d n M w cs powers p some few h l b =
    let term : Vector = λ k. vector_of cs k *ℤ row_power d M w (length cs - 1 - k) l in
    let e : suc (length cs - 1) ≡ length cs = omega arith in
    ap (λ m. sum_to m term) e
    ∙ sum_same (length cs) term (λ k. vector_of cs k *ℤ matrix_of powers (length cs - 1 - k) l)
    (λ k c. ap (λ z. vector_of cs k *ℤ z) (sym (p.same (length cs - 1 - k) l (omega arith) b)))
    ∙ h l b

pub inverse_of_powers : (d m n : ℕ) (M B : Matrix) (w : Vector) (t : ℤ) (powers : List (List ℤ)) → AreRowPowers d M w n powers → m ≤ n
    → IsRightInverse d m (matrix_of powers) B t → IsRightInverse d m (row_power d M w) B t
inverse_of_powers d m n M B w t powers p few h j k a b =
    sum_same d (λ l. row_power d M w j l *ℤ B l k) (λ l. matrix_of powers j l *ℤ B l k)
    (λ l c. ap (λ z. z *ℤ B l k) (sym (p.same j l (omega arith) c)))
    ∙ h j k a b

-- ---- both sides of a table

system_inside : (v : TableVerdict) (d : ℕ) (q : ℤ) (M : Matrix) → is_inside v ≡ true → SystemFalls d q M → IsSystemShown v d q M
system_inside verdict.Inside d q M h s = s
system_inside (verdict.NotInside row) d q M h s = absurd (grind (arith))

system_outside : (v : TableVerdict) (d : ℕ) (q : ℤ) (M : Matrix) → is_inside v ≡ false → SystemIsKeptAway d q M → IsSystemShown v d q M
system_outside verdict.Inside d q M h s = absurd (grind (arith))
system_outside (verdict.NotInside row) d q M h s = s

-- ---- what the checks show
falls_at : (d : ℕ) (q : ℤ) (M : Matrix) (a : Vector) → 0 < d → pos 0 <ℤ q → pos 0 <ℤ a 0 → is_inside (verdict_from d 0 (divided d q a)) ≡ true
    → ((i : ℕ) → i < d → IsObeyed d d M (unit i) a) → SystemFalls d q M
falls_at zero q M a some p l t h = absurd (omega arith)
falls_at (suc e) q M a some p l t h =
    let d = suc e in
    let c = divided d q a in
    systems_fall e q M a (apart q p) (apart (a 0) l) (annihilated d M a h)
    (shown_inside (verdict_from d 0 c) d c t (decides d c (lead_positive d q a p l)))

pub kept_away_shown : (d m : ℕ) (q : ℤ) (M : Matrix) (w a : Vector) (B : Matrix) (t : ℤ) → 0 < m → pos 0 <ℤ q → pos 0 <ℤ a 0 → t ≢ pos 0
    → is_inside (verdict_from m 0 (divided m q a)) ≡ false → IsObeyed d m M w a → IsRightInverse d m (row_power d M w) B t
    → SystemIsKeptAway d q M
kept_away_shown d zero q M w a B t some p l n v h inverse = absurd (omega arith)
kept_away_shown d (suc e) q M w a B t some p l n v h inverse =
    let c = divided (suc e) q a in
    outputs_keep_away d e q M w a B t (apart q p) (apart (a 0) l) h n inverse
    (shown_outside (verdict_from (suc e) 0 c) (suc e) c v (decides (suc e) c (lead_positive (suc e) q a p l)))

-- ---- what is found
pub annihilator : (d : ℕ) (M : Matrix) (cs : List ℤ) → length cs ≡ d + 1 → pos 0 <ℤ vector_of cs 0
    → ((i : ℕ) → i < d → IsObeyed d (length cs - 1) M (unit i) (vector_of cs)) → IsAnnihilator d M cs
annihilator d M cs n l h =
    let e : length cs - 1 ≡ d = omega (arith, n) in
    record { order = n; lead = l; obeyed = λ i b. subst (λ m. IsObeyed d m M (unit i) (vector_of cs)) e (h i b) }

system_finding_is : (d : ℕ) (q : ℤ) (M : Matrix) (cs : List ℤ) (found : TableFinding) → IsAnnihilator d M cs → IsDividedFinding q cs found
    → IsSystemShown found.verdict d q M → IsSystemFinding d q M found
system_finding_is d q M cs found a f s =
    let n = a.order in
    let e : length cs - 1 ≡ d = omega (arith, n) in
    record {
      order = f.poly.places ∙ n;
      finding = f.finding;
      obeyed = record {
        a = vector_of cs;
        obeyed = a.obeyed;
        coefficients = λ k b. f.poly.same k (omega (arith, n, b)) ∙ ap (λ m. divided m q (vector_of cs) k) e;
      };
      shown = s;
    }

-- A finding inside the unit circle is one of the system,
pub finding_inside : (d : ℕ) (q : ℤ) (M : Matrix) (cs : List ℤ) (found : TableFinding) → 0 < d → pos 0 <ℤ q → IsAnnihilator d M cs → IsDividedFinding q cs found
    → is_inside found.verdict ≡ true → IsSystemFinding d q M found
finding_inside d q M cs found some p a f t =
    let n = a.order in
    let v = vector_of cs in
    let e : length cs - 1 ≡ d = omega (arith, n) in
    let told : found.verdict ≡ verdict_from d 0 (divided d q v) =
    f.finding.verdict ∙ divided_table cs found.poly q (omega (arith, n)) f.poly ∙ ap (λ m. verdict_from m 0 (divided m q v)) e in
    system_finding_is d q M cs found a f
    (system_inside found.verdict d q M t (falls_at d q M v some p a.lead (subst (λ x. is_inside x ≡ true) told t) a.obeyed))

-- and so is one outside if the system is kept away from 0.
pub finding_outside : (d : ℕ) (q : ℤ) (M : Matrix) (cs : List ℤ) (found : TableFinding) → IsAnnihilator d M cs → IsDividedFinding q cs found
    → is_inside found.verdict ≡ false → SystemIsKeptAway d q M → IsSystemFinding d q M found
finding_outside d q M cs found a f t away = system_finding_is d q M cs found a f (system_outside found.verdict d q M t away)
