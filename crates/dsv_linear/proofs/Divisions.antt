-- Coefficients that are divided: what is left of them is never negative.
use Rattle.std.proofs.Common.{◌≡◌, ℕ, zero, suc, ◌<◌, ◌≤◌, List, [], ◌∷◌, ◌++◌, length, ◌^◌, refl, sym, ap, ◌∙◌, arith}
use Rattle.std.specs.Prelude.{Some}
use Rattle.std.proofs.Math.Nat.{zero-div, zero-mod}
use Rattle.std.specs.Int.{int_rem_euclid}
use Rattle.std.specs.Int.RustNames.{unsigned_abs}
use Rattle.std.proofs.Math.IntN.{ℤ, pos, ◌*ℤ◌}
use Rattle.dsv_algebra.specs.Floor.{floor_of}
use Rattle.dsv_algebra.specs.Narrow.{narrow_limit}
use Rattle.dsv_word.proofs.Floors.{rest_within}
use Rattle.dsv_word.specs.Width.{widest_word}
use Rattle.dsv_netlist.specs.Nodes.{at}
use Rattle.dsv_linear.specs.declared.range.Range.{Range}
use Rattle.dsv_linear.specs.Forms.{range, range_at, entries, total, least, greatest, least_term, greatest_term, least_factor, greatest_factor, quotients, rests}
use Rattle.dsv_linear.specs.Divisions.{division}
use Rattle.dsv_linear.proofs.Numbers.{none_times, least_up, greatest_up}
use Rattle.dsv_linear.proofs.Meanings.{AreEntries, entries_are}
use Rattle.dsv_linear.specs.SmallNumbers.{most_terms}
use Rattle.dsv_linear.specs.SmallSums.{IsSum}
use Rattle.dsv_linear.proofs.SmallSums.{narrow_same, sum_total}
use Rattle.dsv_linear.proofs.Rests.{total_same}

-- what is left of a coefficient, times the ends of its symbol's range
abbrev pub low_term : List Range → ℕ → List ℤ → ℕ → ℤ
low_term ranges d list j = int_rem_euclid (at list j) (pos d) *ℤ (range_at ranges j).low

abbrev pub high_term : List Range → ℕ → List ℤ → ℕ → ℤ
high_term ranges d list j = int_rem_euclid (at list j) (pos d) *ℤ (range_at ranges j).high

-- ---- lists and sums
-- of 0 nothing is left
pub floor_none : (d : ℕ) → floor_of (pos 0) d ≡ pos 0
floor_none d = ap pos (zero-div d)

pub rest_none : (d : ℕ) (z : ℤ) → int_rem_euclid (pos 0) (pos d) *ℤ z ≡ pos 0
rest_none d z = ap (λ r. pos r *ℤ z) (zero-mod d) ∙ none_times z

entries_exist : (n : ℕ) (f : ℕ → ℤ) → ((j : ℕ) → j < n → unsigned_abs (f j) < narrow_limit) → (list : List ℤ) × (entries n f ≡ Some list)
entries_exist zero f h = ([], refl)
entries_exist (suc n) f h =
    let before = entries_exist n f (λ j p. h j (omega arith)) in
    (before.0 ++ f n ∷ [], rw (before.1, narrow_same (f n) (h n (omega arith))) refl)

-- ---- what is left
rest_low : (v x : ℤ) (d : ℕ) (r : Range) → 0 < d → x ≡ int_rem_euclid v (pos d) → x *ℤ least_factor x r ≡ int_rem_euclid v (pos d) *ℤ r.low
rest_low v x d r p e =
    let w = rest_within v d p in
    let same : x ≡ pos w.0 = e ∙ w.1 in
    rw (same, w.1) (ap (λ t. pos w.0 *ℤ t) (least_up w.0 r))

rest_high : (v x : ℤ) (d : ℕ) (r : Range) → 0 < d → x ≡ int_rem_euclid v (pos d) → x *ℤ greatest_factor x r ≡ int_rem_euclid v (pos d) *ℤ r.high
rest_high v x d r p e =
    let w = rest_within v d p in
    let same : x ≡ pos w.0 = e ∙ w.1 in
    rw (same, w.1) (ap (λ t. pos w.0 *ℤ t) (greatest_up w.0 r))

rest_size : (v : ℤ) (d : ℕ) → 0 < d → d ≤ 2 ^ widest_word → unsigned_abs (int_rem_euclid v (pos d)) < narrow_limit
rest_size v d p q = let w = rest_within v d p in rw w.1 (omega (arith, w.2))

made : (ranges : List Range) (d : ℕ) (list qs rs : List ℤ) (low high : ℤ) → quotients (length ranges) d list ≡ Some qs → rests (length ranges) d list ≡ Some rs
    → least ranges rs ≡ Some low → greatest ranges rs ≡ Some high → division ranges d list ≡ Some (record { quotients = qs; rests = range low high })
made ranges d list qs rs low high q r l g = rw (q, r, l, g) refl

-- the division, by its sums
pub division_made : (ranges : List Range) (d : ℕ) (list qs : List ℤ) (j : ℕ) (low high : ℤ) → 0 < d → d ≤ 2 ^ widest_word → j ≡ length ranges → j ≤ most_terms
    → entries j (λ i. floor_of (at list i) d) ≡ Some qs → IsSum (low_term ranges d list) j low → IsSum (high_term ranges d list) j high
    → division ranges d list ≡ Some (record { quotients = qs; rests = range low high })
division_made ranges d list qs j low high p q e few h l g =
    let n = length ranges in
    let f : ℕ → ℤ = λ i. int_rem_euclid (at list i) (pos d) in
    let left = entries_exist n f (λ i k. rest_size (at list i) d p q) in
    let are : AreEntries n f left.0 = entries_are n f left.0 left.1 in
    made ranges d list qs left.0 low high (ap (λ m. quotients m d list) (sym e) ∙ h) left.1
    (total_same n (least_term ranges left.0) (low_term ranges d list) (λ i k. rest_low (at list i) (at left.0 i) d (range_at ranges i) p (are.each i k)) ∙ ap (λ m. total m (low_term ranges d list)) (sym e) ∙ sum_total (low_term ranges d list) j low few l)
    (total_same n (greatest_term ranges left.0) (high_term ranges d list) (λ i k. rest_high (at list i) (at left.0 i) d (range_at ranges i) p (are.each i k)) ∙ ap (λ m. total m (high_term ranges d list)) (sym e) ∙ sum_total (high_term ranges d list) j high few g)
