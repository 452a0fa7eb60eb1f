-- The coefficient of an error in its quotient.
use Rattle.std.proofs.Common.{◌≡◌, ℕ, ◌^◌, ◌<◌, ◌≤◌, true, sym, subst, arith}
use Rattle.std.specs.Prelude.{Option, None, if◌then◌else◌}
use Rattle.std.proofs.Math.Nat.{div-le_self}
use Rattle.std.proofs.lemmas.Int.{ints}
use Rattle.dsv_word.specs.Width.{widest_word}
use Rattle.dsv_linear.specs.Forms.{scale}
use Rattle.dsv_linear.proofs.Scales.{scale_is}
use Rattle.dsv_linear.proofs.Words.{step_positive}
use Rattle.dsv_network.specs.declared.signal.NearQuotient.{NearQuotient}
use Rattle.dsv_network.specs.Samples.{is_lawful, step_of}

pub step_up : (near : NearQuotient) → near.bits ≤ widest_word → 0 < step_of near
step_up near l = let p = step_positive near.bits (omega (arith, l)) in omega (arith, ints, p)

pub step_small : (near : NearQuotient) → step_of near ≤ 9007199254740992
step_small near = subst (λ (n : ℕ). step_of near ≤ n) (sym scale_is) (div-le_self scale (2 ^ near.bits))

-- what a quotient answers where nothing is known of one coefficient
pub lawful_none : {X : Type 0} (near : NearQuotient) (o : Option X) → is_lawful near ≡ true → None ≡ o → None ≡ (if is_lawful near then o else None)
lawful_none near o e h = rw e h
