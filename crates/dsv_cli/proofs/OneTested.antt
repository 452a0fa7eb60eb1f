-- What is tested of a controller is one: a polynomial, no zeros, or a number that is too wide.
use Rattle.std.proofs.Common.{◌≡◌, List}
use Rattle.std.specs.Prelude.{Result, Ok, Err}
use Rattle.std.proofs.Math.IntN.{ℤ}
use Rattle.dsv_delta.specs.declared.refusal.PolyWide.{PolyWide}
use Rattle.dsv_tested.specs.declared.side.Tested.{Tested}
use Rattle.dsv_tested.specs.declared.side.Tested.TheVariants as tested

pub one_poly : (r : Result Tested PolyWide) (p q : List ℤ) → r ≡ Ok (tested.Poly p) → r ≡ Ok (tested.Poly q) → p ≡ q
one_poly r p q h k = cc

pub poly_or_none : (r : Result Tested PolyWide) (p : List ℤ) → r ≡ Ok (tested.Poly p) → r ≡ Ok tested.NoZeros → ⊥
poly_or_none r p h k = cc

pub poly_or_wide : (r : Result Tested PolyWide) (p : List ℤ) (w : PolyWide) → r ≡ Ok (tested.Poly p) → r ≡ Err w → ⊥
poly_or_wide r p w h k = cc

pub none_or_wide : (r : Result Tested PolyWide) (w : PolyWide) → r ≡ Ok tested.NoZeros → r ≡ Err w → ⊥
none_or_wide r w h k = cc

pub one_refusal : (r : Result Tested PolyWide) (v w : PolyWide) → r ≡ Err v → r ≡ Err w → v ≡ w
one_refusal r v w h k = cc
