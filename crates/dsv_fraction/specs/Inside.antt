-- For the model of a `Frac`: its fields of a given value.
use Rattle.std.specs.Prelude.{◌≡◌, ℤ, pos, negsuc, ◌<ℤ◌, refl}
use Rattle.std.proofs.Common.{ap}
use Rattle.std.specs.Int.RustNames.{unsigned_abs}
use Rattle.dsv_fraction.specs.declared.fraction.Frac.TheInside.{Inside}
use Rattle.dsv_fraction.specs.Ratio.{Ratio}

abbrev pub inside_of : Ratio → Inside
inside_of r = record { num = r.num; den = pos r.den }

pub positive_is : (d : ℤ) → pos 0 <ℤ d → pos (unsigned_abs d) ≡ d
positive_is (pos n) h = refl
positive_is (negsuc n) h = absurd h.lt

pub same_inside : (a : Inside) → pos 0 <ℤ a.den
    → inside_of (record { num = a.num; den = unsigned_abs a.den }) ≡ a
same_inside a h = ap (λ (d : ℤ). let r : Inside = record { num = a.num; den = d } in
    r) (positive_is a.den h)
