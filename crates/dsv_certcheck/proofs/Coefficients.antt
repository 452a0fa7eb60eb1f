-- The coefficients of a certificate beside a polynomial's, place by place.
use Rattle.std.proofs.Common.{◌≡◌, ◌∙◌, ap, sym, ℕ, zero, suc, ◌+◌, ◌<◌, true, false, List, [], ◌∷◌, length, drop, get_or, if◌then◌else◌, arith}
use Rattle.std.proofs.Math.IntN.{ℤ, pos}
use Rattle.std.specs.Ordering.{int_eq}
use Rattle.dsv_certfile.specs.declared.fault.CheckFault.TheVariants as fault
use Rattle.dsv_certcheck.specs.Checks.{Checked, refused, coefficients_check}

-- the check of one place, and then of those after it
abbrev after_place : ℕ → ℕ → List ℤ → List ℤ → ℤ → ℤ → Checked
after_place line next cs xs c x = if int_eq c x then coefficients_check next cs xs else refused line fault.Table

place_step : (line : ℕ) (cs xs : List ℤ) (i : ℕ) → i < length cs → i < length xs
    → coefficients_check (line + i) (drop i cs) (drop i xs) ≡ after_place (line + i) (line + suc i) (drop (suc i) cs) (drop (suc i) xs) (get_or cs i (pos 0)) (get_or xs i (pos 0))
place_step line [] xs i h k = absurd (omega (arith, h))
place_step line (c ∷ cs) [] i h k = absurd (omega (arith, k))
place_step line (c ∷ cs) (x ∷ xs) zero h k =
    let e : suc (line + 0) ≡ line + 1 = omega arith in
    ap (λ n. after_place (line + 0) n cs xs c x) e
place_step line (c ∷ cs) (x ∷ xs) (suc i) h k =
    let e : line + suc i ≡ suc line + i = omega arith in
    let f : suc line + suc i ≡ line + suc (suc i) = omega arith in
    ap (λ n. coefficients_check n (drop i cs) (drop i xs)) e
    ∙ place_step (suc line) cs xs i (omega (arith, h)) (omega (arith, k))
    ∙ ap (λ n. after_place (suc line + i) n (drop (suc i) cs) (drop (suc i) xs) (get_or cs i (pos 0)) (get_or xs i (pos 0))) f
    ∙ ap (λ n. after_place n (line + suc (suc i)) (drop (suc i) cs) (drop (suc i) xs) (get_or cs i (pos 0)) (get_or xs i (pos 0))) (sym e)

pub same_place : (line : ℕ) (cs xs : List ℤ) (i : ℕ) → i < length cs → i < length xs → int_eq (get_or cs i (pos 0)) (get_or xs i (pos 0)) ≡ true
    → coefficients_check (line + i) (drop i cs) (drop i xs) ≡ coefficients_check (line + (i + 1)) (drop (i + 1) cs) (drop (i + 1) xs)
same_place line cs xs i h k e =
    let s : i + 1 ≡ suc i = omega arith in
    place_step line cs xs i h k
    ∙ ap (λ b. if b then coefficients_check (line + suc i) (drop (suc i) cs) (drop (suc i) xs) else refused (line + i) fault.Table) e
    ∙ ap (λ n. coefficients_check (line + n) (drop n cs) (drop n xs)) (sym s)

pub other_place : (line : ℕ) (cs xs : List ℤ) (i : ℕ) → i < length cs → i < length xs → int_eq (get_or cs i (pos 0)) (get_or xs i (pos 0)) ≡ false
    → coefficients_check (line + i) (drop i cs) (drop i xs) ≡ refused (line + i) fault.Table
other_place line cs xs i h k e =
    place_step line cs xs i h k
    ∙ ap (λ b. if b then coefficients_check (line + suc i) (drop (suc i) cs) (drop (suc i) xs) else refused (line + i) fault.Table) e
