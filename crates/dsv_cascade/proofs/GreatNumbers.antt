-- Polynomials of an order up to 2 that have no closed form.
use Rattle.std.proofs.Common.{◌≡◌, ◌<◌, ◌≤◌, List, [], ◌∷◌, length, arith, Some, None, Bool, true, false, if◌then◌else◌}
use Rattle.std.proofs.Math.IntN.{ℤ, pos}
use Rattle.std.proofs.lemmas.Bool.Decides.{nat_tests}
use Rattle.std.specs.Int.RustNames.{unsigned_abs}
use Rattle.std.specs.List.{All}
use Rattle.dsv_forms.specs.declared.offers.FormOffer.{FormOffer}
use Rattle.dsv_closed_forms.specs.ClosedForm.{closed_form_of, second_limit, second_order, are_within}

-- ---- numbers up to 2^23
abbrev IsWithin : ℤ → Type 0
IsWithin c = unsigned_abs c ≤ second_limit

three_within : (c0 c1 c2 : ℤ) → All IsWithin (c0 ∷ c1 ∷ c2 ∷ []) → are_within second_limit (c0 ∷ c1 ∷ c2 ∷ []) ≡ true
three_within c0 c1 c2 all =
    let first : IsWithin c0 = all 0 (pos 0) (omega arith) in
    let second : IsWithin c1 = all 1 (pos 0) (omega arith) in
    let third : IsWithin c2 = all 2 (pos 0) (omega arith) in
    grind (arith, nat_tests)

-- ---- no closed form
no_form : (b : Bool) (offer : FormOffer) → b ≡ true → (if b then Some offer else None) ≡ None → ⊥
no_form true offer e none = cc
no_form false offer e none = cc

-- where it has none, a number is over 2^23 in size
pub not_all_within : (cs : List ℤ) → 0 < length cs → length cs ≤ 3 → closed_form_of cs ≡ None → All (λ d. unsigned_abs d ≤ second_limit) cs → ⊥
not_all_within [] some few none all = omega arith
not_all_within (c0 ∷ []) some few none all = cc
not_all_within (c0 ∷ c1 ∷ []) some few none all = cc
not_all_within (c0 ∷ c1 ∷ c2 ∷ []) some few none all =
    no_form (are_within second_limit (c0 ∷ c1 ∷ c2 ∷ [])) (second_order c0 c1 c2) (three_within c0 c1 c2 all) none
not_all_within (c0 ∷ c1 ∷ c2 ∷ c3 ∷ cs) some few none all = omega arith
