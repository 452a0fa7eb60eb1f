-- The polynomial of a list.
use Rattle.std.proofs.Common.{◌≡◌, ◌<◌, List, [], ◌∷◌, length, refl, sym, ap, ◌∙◌, arith, Some, None, Ok, Err}
use Rattle.std.proofs.Math.IntN.{ℤ}
use Rattle.dsv_delta.specs.declared.refusal.PolyWide.{PolyWide}
use Rattle.dsv_tested.specs.declared.side.Tested.TheVariants as tested
use Rattle.dsv_tested.specs.Tested.{without_common_twos, with_positive_lead, first_over, polynomial_of, tested_list}
use Rattle.dsv_tested.proofs.Signs.{common_twos-positive, first_over-positive, positive_poly}

-- a list's polynomial is what its reduced list gives
list_by : (cs xs : List ℤ) → 0 < length cs → xs ≡ without_common_twos cs → tested_list cs ≡ polynomial_of (with_positive_lead xs)
list_by [] xs h e = absurd (omega arith)
list_by (c ∷ cs) xs h e = ap polynomial_of (common_twos-positive (c ∷ cs) ∙ ap with_positive_lead (sym e))

pub wide_tested : (cs xs : List ℤ) (refusal : PolyWide) → 0 < length cs → xs ≡ without_common_twos cs → first_over 0 xs ≡ Some refusal.index → tested_list cs ≡ Err refusal
wide_tested cs xs refusal h e over =
    let first = first_over-positive xs ∙ over in
    list_by cs xs h e ∙ rw (first, polynomial_of) refl

pub narrow_tested : (cs xs : List ℤ) → 0 < length cs → xs ≡ without_common_twos cs → first_over 0 xs ≡ None → tested_list cs ≡ Ok (tested.Poly (with_positive_lead xs))
narrow_tested cs xs h e over =
    let first = first_over-positive xs ∙ over in
    list_by cs xs h e ∙ rw (first, polynomial_of) refl

pub ruleset list_polynomials = (wide_tested, narrow_tested, positive_poly)
