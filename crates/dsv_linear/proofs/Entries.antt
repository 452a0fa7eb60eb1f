-- Lists and sums of narrow numbers, number by number.
use Rattle.std.proofs.Common.{◌≡◌, ℕ, zero, suc, ◌+◌, ◌<◌, inl, inr, List, [], ◌∷◌, ◌++◌, refl, sym, ap, ◌∙◌, arith, add-one}
use Rattle.std.specs.Prelude.{Some, None}
use Rattle.std.proofs.Math.IntN.{ℤ, pos, ◌+ℤ◌}
use Rattle.std.proofs.lemmas.Bool.{cases_lt}
use Rattle.dsv_algebra.specs.Narrow.{narrow_of}
use Rattle.dsv_system.specs.Systems.{zeros}
use Rattle.dsv_linear.specs.Forms.{◌>>=◌, entries, total}

-- a list that is given up stays so
pub entries_stop : (f : ℕ → ℤ) (j n : ℕ) (list : List ℤ) → j < n → entries j f ≡ Some list → None ≡ narrow_of (f j) → None ≡ entries n f
entries_stop f j zero list p h e = absurd (omega arith)
entries_stop f j (suc n) list p h e = elim (cases_lt j n) [
  | inl less ↦ ap (λ o. o >>= λ list. narrow_of (f n) >>= λ entry. Some (list ++ entry ∷ [])) (entries_stop f j n list less h e)
  | inr more ↦ (let same : n ≡ j = omega arith in rw (same, h, ← e) refl)
]

pub total_more : (f : ℕ → ℤ) (j : ℕ) (sum term now : ℤ) → total j f ≡ Some sum → Some term ≡ narrow_of (f j) → Some now ≡ narrow_of (sum +ℤ term)
    → total (j + 1) f ≡ Some now
total_more f j sum term now h e p = ap (λ n. total n f) (add-one j) ∙ rw (h, ← e) (sym p)

-- a sum that is given up at a number stays so
pub total_stop : (f : ℕ → ℤ) (j n : ℕ) (sum : ℤ) → j < n → total j f ≡ Some sum → None ≡ narrow_of (f j) → None ≡ total n f
total_stop f j zero sum p h e = absurd (omega arith)
total_stop f j (suc n) sum p h e = elim (cases_lt j n) [
  | inl less ↦ ap (λ o. o >>= λ sum. narrow_of (f n) >>= λ term. narrow_of (sum +ℤ term)) (total_stop f j n sum less h e)
  | inr more ↦ (let same : n ≡ j = omega arith in rw (same, h, ← e) refl)
]

-- and at a sum on the way
pub total_passed : (f : ℕ → ℤ) (j n : ℕ) (sum term : ℤ) → j < n → total j f ≡ Some sum → Some term ≡ narrow_of (f j) → None ≡ narrow_of (sum +ℤ term) → None ≡ total n f
total_passed f j zero sum term p h e k = absurd (omega arith)
total_passed f j (suc n) sum term p h e k = elim (cases_lt j n) [
  | inl less ↦ ap (λ o. o >>= λ sum. narrow_of (f n) >>= λ term. narrow_of (sum +ℤ term)) (total_passed f j n sum term less h e k)
  | inr more ↦ (let same : n ≡ j = omega arith in rw (same, h, ← e) k)
]

zeros_next : (n : ℕ) → zeros (suc n) ≡ zeros n ++ pos 0 ∷ []
zeros_next zero = refl
zeros_next (suc n) = ap (λ (xs : List ℤ). pos 0 ∷ xs) (zeros_next n)

pub zeros_more : (n : ℕ) → zeros (n + 1) ≡ zeros n ++ pos 0 ∷ []
zeros_more n = ap zeros (add-one n) ∙ zeros_next n
