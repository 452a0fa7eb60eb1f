-- Steps of loops that build words.
use Rattle.std.proofs.Common.{◌≡◌, ℕ, suc, ◌+◌, ◌-◌, ◌/◌, ◌%◌, ◌<◌, cond, List, ◌∷◌, refl, arith, ap, sym, ◌∙◌, take, drop}
use Rattle.std.specs.Prelude.{◌==◌, slice_range}
use Rattle.dsv_cnf.specs.Literal.{Literal, negation}
use Rattle.dsv_blast.specs.CircuitView.{CircuitView}
use Rattle.dsv_blast.specs.Gates.{positive}
use Rattle.dsv_blast.specs.Blast.{run_from}
use Rattle.dsv_blast.specs.Words.{constant_bits, added_if, shifted_copy, multiple_from}

pub constant-step : (one : Literal) (w i n : ℕ) → i < w → constant_bits one (w - i) n ≡ cond (n % 2 == 1) one (negation one) ∷ constant_bits one (w - (i + 1)) (n / 2)
constant-step one w i n h =
    let e : w - i ≡ suc (w - (i + 1)) = omega arith in
    rw e refl

pub multiple-step : (w i n : ℕ) (ls : List Literal) (c : CircuitView) (sum : List Literal) → i < w
    → multiple_from w (w - i) n ls c sum ≡ multiple_from w (w - (i + 1)) (n / 2) ls (added_if (n % 2 == 1) (shifted_copy w (w - i) ls) c sum).circuit (added_if (n % 2 == 1) (shifted_copy w (w - i) ls) c sum).bits
multiple-step w i n ls c sum h =
    let e : w - i ≡ suc (w - (i + 1)) = omega arith in
    rw e refl

copy-is : (place w : ℕ) (ls : List Literal) → slice_range ls place (place + w) ≡ shifted_copy w place ls
copy-is place w ls = let e : place + w - place ≡ w = omega arith in ap (λ n. take n (drop place ls)) e

pub multiple-next : (w i n : ℕ) (ls : List Literal) (c d : CircuitView) (sum more : List Literal) → i < w
    → d ≡ (added_if (n % 2 == 1) (slice_range ls (w - i) (w - i + w)) c sum).circuit → more ≡ (added_if (n % 2 == 1) (slice_range ls (w - i) (w - i + w)) c sum).bits
    → multiple_from w (w - (i + 1)) (n / 2) ls d more ≡ multiple_from w (w - i) n ls c sum
multiple-next w i n ls c d sum more h e f = rw (e, f, copy-is (w - i) w ls) (sym (multiple-step w i n ls c sum h))

pub run-step : (first w i : ℕ) → i < w → run_from (first + i) (w - i) ≡ positive (first + i) ∷ run_from (first + (i + 1)) (w - (i + 1))
run-step first w i h =
    let e : w - i ≡ suc (w - (i + 1)) = omega arith in
    let f : first + i + 1 ≡ first + (i + 1) = omega arith in
    ap (run_from (first + i)) e ∙ ap (λ n. positive (first + i) ∷ run_from n (w - (i + 1))) f
