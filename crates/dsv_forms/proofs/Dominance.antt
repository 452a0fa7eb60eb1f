-- The dominance of a row, as the code has it.
use Rattle.std.proofs.Common.{◌≡◌, ℕ, Bool, true, false, ◌||◌, int_lt, [], ◌∷◌, map, Some, None, refl, ap, ◌∙◌}
use Rattle.std.proofs.Math.IntN.{ℤ, pos, +ℤ_idl}
use Rattle.dsv_algebra.specs.Vectors.{Matrix, sum_to}
use Rattle.dsv_algebra.specs.Squares.{beside}
use Rattle.dsv_forms.specs.declared.offers.Squares.{Squares}
use Rattle.dsv_forms.specs.Refusals.{places, any_wide, partial_sums, rest_of, sizes_beside, not_dominant}
use Rattle.dsv_forms.specs.Sums.{sum_from, size_summands}
use Rattle.dsv_forms.proofs.SumLemmas.{unless, any_wide-append, sum_from-is, numbers, values, numbers-single, values-single, total-places}

pub unless_some : (w : Bool) (t x : ℤ) → Some x ≡ unless w t → (w ≡ false) × (x ≡ t)
unless_some true t x h = cc
unless_some false t x h = (refl, cc)

pub unless_none : (w : Bool) (t : ℤ) → None ≡ unless w t → w ≡ true
unless_none true t h = refl
unless_none false t h = cc

-- one of the entries and sums in a row is wide
abbrev wide_row : ℕ → Matrix → ℕ → Bool
wide_row d R i = any_wide (map (λ j. R i j) (places d)) || any_wide (partial_sums (pos 0) (map (λ j. beside R i j) (places d)))

sizes-are : (d : ℕ) (R : Matrix) (i : ℕ) → sum_from (pos 0) (size_summands d R i) ≡ unless (wide_row d R i) (sum_to d (λ j. beside R i j))
sizes-are d R i =
    let ts = size_summands d R i in
    let ns : numbers ts ≡ map (λ j. R i j) (places d) = numbers-single (λ j. R i j) (λ j. beside R i j) (places d) in
    let vs : values ts ≡ map (λ j. beside R i j) (places d) = values-single (λ j. (R i j ∷ [], beside R i j)) (places d) in
    sum_from-is (pos 0) ts ∙ rw (ns, vs, total-places (pos 0) (λ j. beside R i j) d, +ℤ_idl (sum_to d (λ j. beside R i j))) refl

not_dominant-is : (d : ℕ) (s : Squares) (i : ℕ) → not_dominant d s i ≡ (wide_row d (rest_of s) i || int_lt (rest_of s i i) (sum_to d (λ j. beside (rest_of s) i j)))
not_dominant-is d s i =
    ap (λ b. b || int_lt (rest_of s i i) (sum_to d (λ j. beside (rest_of s) i j))) (any_wide-append (map (λ j. rest_of s i j) (places d)) (partial_sums (pos 0) (sizes_beside d s i)))

pub dominant_by : (d : ℕ) (s : Squares) (i : ℕ) (x : ℤ) → Some x ≡ sum_from (pos 0) (size_summands d (rest_of s) i) → not_dominant d s i ≡ int_lt (rest_of s i i) x
dominant_by d s i x h =
    let both = unless_some (wide_row d (rest_of s) i) (sum_to d (λ j. beside (rest_of s) i j)) x (h ∙ sizes-are d (rest_of s) i) in
    not_dominant-is d s i ∙ rw (both.0, both.1) refl

pub wide_not_dominant : (d : ℕ) (s : Squares) (i : ℕ) → None ≡ sum_from (pos 0) (size_summands d (rest_of s) i) → not_dominant d s i ≡ true
wide_not_dominant d s i h =
    let wide = unless_none (wide_row d (rest_of s) i) (sum_to d (λ j. beside (rest_of s) i j)) (h ∙ sizes-are d (rest_of s) i) in
    not_dominant-is d s i ∙ rw wide refl
