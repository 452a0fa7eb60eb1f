-- What a sample's nodes show, and ranges of it.
use Rattle.std.proofs.Common.{◌≡◌, Bool, true, false, if◌then◌else◌, List, [], ◌∷◌, ◌++◌, refl, subst, arith}
use Rattle.std.specs.Prelude.{Option, Some, None, ◌&&◌}
use Rattle.std.specs.List.{All}
use Rattle.std.proofs.Math.IntN.{ℤ, pos}
use Rattle.std.proofs.lemmas.Int.{ints}
use Rattle.std.proofs.lemmas.List.Elements.{All-nil, All-cons}
use lib.Signed.{◌≤ℤ◌}
use Rattle.dsv_word.specs.declared.format.Format.{Format}
use Rattle.dsv_word.specs.Words.{IsWord, width, lo, hi}
use Rattle.dsv_linear.specs.declared.range.Range.{Range}
use Rattle.dsv_linear.specs.Known.{is_word}
use Rattle.dsv_linear.proofs.Numbers.{times_up}
use Rattle.dsv_linear.proofs.Words.{is_word-true}
use Rattle.dsv_network.specs.declared.ends.Ends.{Ends}
use Rattle.dsv_network.specs.declared.ends.Ends.TheVariants as shown
use Rattle.dsv_network.specs.Samples.{value_ends, with_ends}
use Rattle.dsv_network.specs.Runs.{Fits, LiesOver, LieOver}

-- ---- values in ranges
pub lie_append : (over : ℤ) (f : Format) (rs ss : List Range) (vs ws : List ℤ) → LieOver over f rs vs → LieOver over f ss ws → LieOver over f (rs ++ ss) (vs ++ ws)
lie_append over f [] ss [] ws a b = b
lie_append over f [] ss (v ∷ vs) ws a b = absurd a
lie_append over f (r ∷ rs) ss [] ws a b = absurd a
lie_append over f (r ∷ rs) ss (v ∷ vs) ws a b = (a.0, lie_append over f rs ss vs ws a.1 b)

-- what lies between words lies between the least and the greatest
lies_fits : (over : ℤ) (f : Format) (r : Range) (v : ℤ) → pos 0 ≤ℤ over → LiesOver over f r v → Fits f over v
lies_fits over f r v u l = record {
  least = let w = times_up over (lo (width f)) r.low u l.low_word.low in let b = l.between.least in omega (arith, ints, w, b);
  most = let w = times_up over r.high (hi (width f)) u l.high_word.high in let b = l.between.most in omega (arith, ints, w, b);
}

pub lie_fits : (over : ℤ) (f : Format) (rs : List Range) (vs : List ℤ) → pos 0 ≤ℤ over → LieOver over f rs vs → All (Fits f over) vs
lie_fits over f [] [] u l = All-nil (Fits f over)
lie_fits over f [] (v ∷ vs) u l = absurd l
lie_fits over f (r ∷ rs) [] u l = absurd l
lie_fits over f (r ∷ rs) (v ∷ vs) u l = All-cons (Fits f over) v vs (lies_fits over f r v u l.0) (lie_fits over f rs vs u l.1)

-- ---- ends
-- an exact value whose range has words as its ends
pub record IsValue (f : Format) (o : Option Range) (all : List Range) : Type 0 where
  pub ends : Range
  pub known : o ≡ Some ends
  pub alone : all ≡ ends ∷ []
  pub low : IsWord f ends.low
  pub high : IsWord f ends.high

value_cases : (p q : Bool) (f : Format) (r : Range) (all : List Range) → is_word f r.low ≡ p → is_word f r.high ≡ q → (if p && q then shown.Words (r ∷ []) else shown.Leaves 0) ≡ shown.Words all → IsValue f (Some r) all
value_cases true true f r all a b e = record { ends = r; known = refl; alone = cc; low = is_word-true f r.low a; high = is_word-true f r.high b }
value_cases true false f r all a b e = absurd cc
value_cases false q f r all a b e = absurd cc

pub value_is : (f : Format) (o : Option Range) (all : List Range) → value_ends f o ≡ shown.Words all → IsValue f o all
value_is f None all e = absurd cc
value_is f (Some r) all e = value_cases (is_word f r.low) (is_word f r.high) f r all refl refl e

-- both parts have words as their ends
pub record AreParts (first rest : Ends) (all : List Range) : Type 0 where
  pub ranges : List Range
  pub more : List Range
  pub here : first ≡ shown.Words ranges
  pub there : rest ≡ shown.Words more
  pub together : ranges ++ more ≡ all

pub parts_are : (first rest : Ends) (all : List Range) → with_ends first rest ≡ shown.Words all → AreParts first rest all
parts_are (shown.Leaves value) rest all e = absurd cc
parts_are (shown.Words rs) (shown.Leaves value) all e = absurd cc
parts_are (shown.Words rs) (shown.Words ss) all e = record { ranges = rs; more = ss; here = refl; there = refl; together = cc }

pub none_lie : (over : ℤ) (f : Format) (all : List Range) → shown.Words [] ≡ shown.Words all → LieOver over f all []
none_lie over f all e = let same : [] ≡ all = cc in subst (λ (rs : List Range). LieOver over f rs []) same tt
