-- Ranges of symbols that are widened.
use Rattle.std.proofs.Common.{◌≡◌, ℕ, zero, suc, ◌<◌, ◌≤◌, Bool, true, false, if◌then◌else◌, List, [], ◌∷◌, length, get_or, refl, ap, ◌∙◌, arith}
use Rattle.std.specs.Prelude.{int_lt}
use Rattle.std.proofs.Math.IntN.{ℤ, pos}
use Rattle.std.proofs.Math.ListN.{set}
use Rattle.std.proofs.lemmas.Int.{ints}
use lib.Signed.{◌<ℤ◌, ◌≤ℤ◌}
use Rattle.dsv_linear.specs.declared.range.Range.{Range}
use Rattle.dsv_linear.specs.Forms.{range_at}
use Rattle.dsv_linear.specs.Meaning.{LiesIn}
use Rattle.dsv_linear.proofs.Numbers.{times_up}
use Rattle.dsv_network.specs.Samples.{hull, widened}

pub widened_inside : (rs : List Range) (j : ℕ) (r s t : Range) → j < length rs → t ≡ get_or rs j t → s ≡ hull t r → set rs j s ≡ widened rs j r
widened_inside [] j r s t p e h = absurd (omega arith)
widened_inside (q ∷ rs) zero r s t p e h = ap (λ (x : Range). x ∷ rs) (h ∙ ap (λ (x : Range). hull x r) e)
widened_inside (q ∷ rs) (suc j) r s t p e h = ap (λ ts. q ∷ ts) (widened_inside rs j r s t (omega arith) e h)

pub widened_past : (rs : List Range) (j : ℕ) (r : Range) → length rs ≤ j → rs ≡ widened rs j r
widened_past [] j r p = refl
widened_past (s ∷ rs) zero r p = absurd (omega arith)
widened_past (s ∷ rs) (suc j) r p = ap (λ ts. s ∷ ts) (widened_past rs j r (omega arith))

-- ---- wider ranges
-- each is at least as wide as it was
abbrev pub IsWider : List Range → List Range → Type 0
IsWider rs ss = (j : ℕ) → ((range_at ss j).low ≤ℤ (range_at rs j).low) × ((range_at rs j).high ≤ℤ (range_at ss j).high)

pub wider_same : (rs : List Range) → IsWider rs rs
wider_same rs j = (omega (arith, ints), omega (arith, ints))

pub wider_further : (rs ss ts : List Range) → IsWider rs ss → IsWider ss ts → IsWider rs ts
wider_further rs ss ts a b j = let x = a j in let y = b j in (let p = x.0 in let q = y.0 in omega (arith, ints, p, q), let p = x.1 in let q = y.1 in omega (arith, ints, p, q))

low_cases : (b : Bool) (x y : ℤ) → int_lt y x ≡ b → ((if b then y else x) ≤ℤ x) × ((if b then y else x) ≤ℤ y)
low_cases true x y e = (omega (arith, ints), omega (arith, ints))
low_cases false x y e = (omega (arith, ints), omega (arith, ints))

high_cases : (b : Bool) (x y : ℤ) → int_lt x y ≡ b → (x ≤ℤ (if b then y else x)) × (y ≤ℤ (if b then y else x))
high_cases true x y e = (omega (arith, ints), omega (arith, ints))
high_cases false x y e = (omega (arith, ints), omega (arith, ints))

pub widened_wider : (rs : List Range) (i : ℕ) (r : Range) → IsWider rs (widened rs i r)
widened_wider [] i r j = (omega (arith, ints), omega (arith, ints))
widened_wider (s ∷ rs) zero r zero = ((low_cases (int_lt r.low s.low) s.low r.low refl).0, (high_cases (int_lt s.high r.high) s.high r.high refl).0)
widened_wider (s ∷ rs) zero r (suc j) = (omega (arith, ints), omega (arith, ints))
widened_wider (s ∷ rs) (suc i) r zero = (omega (arith, ints), omega (arith, ints))
widened_wider (s ∷ rs) (suc i) r (suc j) = widened_wider rs i r j

pub widened_long : (rs : List Range) (i : ℕ) (r : Range) → length (widened rs i r) ≡ length rs
widened_long [] i r = refl
widened_long (s ∷ rs) zero r = refl
widened_long (s ∷ rs) (suc i) r = ap suc (widened_long rs i r)

pub widened_holds : (rs : List Range) (i : ℕ) (r : Range) → i < length rs → ((range_at (widened rs i r) i).low ≤ℤ r.low) × (r.high ≤ℤ (range_at (widened rs i r) i).high)
widened_holds [] i r p = absurd (omega arith)
widened_holds (s ∷ rs) zero r p = ((low_cases (int_lt r.low s.low) s.low r.low refl).1, (high_cases (int_lt s.high r.high) s.high r.high refl).1)
widened_holds (s ∷ rs) (suc i) r p = widened_holds rs i r (omega arith)

-- a symbol in a range is in a wider one
pub lies_wider : (k u : ℤ) (r s : Range) → pos 0 <ℤ k → (s.low ≤ℤ r.low) → (r.high ≤ℤ s.high) → LiesIn k r u → LiesIn k s u
lies_wider k u r s p a b l = record {
  least = let x = times_up k s.low r.low (omega (arith, ints)) a in let y = l.least in omega (arith, ints, x, y);
  most = let x = times_up k r.high s.high (omega (arith, ints)) b in let y = l.most in omega (arith, ints, x, y);
}
