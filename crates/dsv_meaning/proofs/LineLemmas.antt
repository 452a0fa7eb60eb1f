-- Lines, one summand more.
use Rattle.std.proofs.Common.{◌≡◌, ℕ, ◌+◌, ◌<◌, ◌≤◌, List, length, drop, get_or, ap, arith}
use Rattle.std.specs.Int.RustNames.{unsigned_abs}
use Rattle.std.proofs.Math.IntN.{ℤ, pos, negsuc, neg_ℤ, ◌+ℤ◌}
use Rattle.std.proofs.lemmas.Int.{ints}
use lib.Signed.{◌≤ℤ◌}
use Rattle.std.proofs.lemmas.List.{drop_more}
use Rattle.dsv_word.specs.declared.format.Format.{Format}
use Rattle.dsv_meaning.specs.declared.summands.Summand.{Summand}
use Rattle.dsv_meaning.specs.Lines.{exact_summand, total}

pub total_more : (f : Format) (ts : List (Summand ℤ)) (i : ℕ) (d : Summand ℤ) (u v e : ℤ) → i < length ts → e ≡ exact_summand f (get_or ts i d) → v ≡ u +ℤ e
    → v +ℤ total f (drop (i + 1) ts) ≡ u +ℤ total f (drop i ts)
total_more f ts i d u v e h p q =
    let s : total f (drop i ts) ≡ exact_summand f (get_or ts i d) +ℤ total f (drop (i + 1) ts) = ap (total f) (drop_more ts i d h) in
    omega (arith, ints, p, q, s)

-- ---- sizes
pub within : (v : ℤ) (b : ℕ) → unsigned_abs v ≤ b → (neg_ℤ (pos b) ≤ℤ v) × (v ≤ℤ pos b)
within (pos n) b h = (omega (arith, ints), omega (arith, ints))
within (negsuc n) b h = (omega (arith, ints), omega (arith, ints))
