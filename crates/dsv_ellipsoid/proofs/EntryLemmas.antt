-- The entries of both forms as the code sums them.
use Rattle.std.proofs.Common.{◌≡◌, ℕ, suc, ◌+◌, Bool, true, false, ◌&&◌, ◌==◌, nat_lt, if◌then◌else◌, List, [], ◌∷◌, map, Option, Some, None, refl, sym, ap, ◌∙◌, arith, add-one}
use Rattle.std.specs.Prelude.{is_none}
use Rattle.std.specs.List.{list_any}
use Rattle.std.specs.Option.{option_and_then}
use Rattle.std.proofs.Math.IntN.{ℤ, pos, neg_ℤ, ◌+ℤ◌, ◌-ℤ◌}
use Rattle.std.proofs.lemmas.Int.{ints}
use Rattle.std.proofs.lemmas.List.Concat.{flat_map_single}
use Rattle.dsv_algebra.specs.Companion.{only, image_terms}
use Rattle.dsv_algebra.specs.Narrow.{narrow_of}
use Rattle.dsv_algebra.specs.Vectors.{Vector, Matrix}
use Rattle.dsv_forms.specs.Refusals.{places}
use Rattle.dsv_forms.specs.Sums.{Summand, sum_with, sum_from, image_sum}
use Rattle.dsv_forms.proofs.FallLemmas.{image_sum-terms}
use Rattle.dsv_forms.proofs.Places.{any_same}
use Rattle.dsv_certfile.specs.declared.ellipsoid.Ellipsoid.{Ellipsoid}
use Rattle.dsv_ellipsoid.specs.Good.{form_of}
use Rattle.dsv_ellipsoid.specs.Entries.{scaled, numbered, bare, inside_summands, side_summands, corner_summands, step_summands, first_summands, has_wide_entry}
use Rattle.dsv_ellipsoid.specs.Sums.{inside_sum, side_sum, corner_sum, step_sum, first_sum}

-- ---- the sums of the code, as sums of summands
then_same : (o : Option ℤ) (f g : ℤ → Option ℤ) → ((s : ℤ) → f s ≡ g s) → option_and_then f o ≡ option_and_then g o
then_same None f g h = refl
then_same (Some s) f g h = h s

then_itself : (o : Option ℤ) → option_and_then (λ s. Some s) o ≡ o
then_itself None = refl
then_itself (Some s) = refl

image_sum-is : (d : ℕ) (c : Vector) (P : Matrix) (i j : ℕ) (s : ℤ) → image_sum d c P i j s ≡ sum_from s (map numbered (image_terms d c P i j))
image_sum-is d c P i j s = image_sum-terms d c P i j s ∙ ap (sum_from s) (flat_map_single numbered (image_terms d c P i j))

inside_sum-is : (d : ℕ) (c : Vector) (o : Ellipsoid) (i j : ℕ) → inside_sum d c o i j ≡ sum_from (pos 0) (inside_summands d c o i j)
inside_sum-is d c o i j = then_same (sum_with (pos 0) (scaled o.lambda (form_of o i j))) (image_sum d c (form_of o) i j) _ (image_sum-is d c (form_of o) i j)

side_where : (b : Bool) (s f x : ℤ) → (if b then sum_with s (scaled f x) else Some s) ≡ sum_from s (map (λ (t : ℤ × ℤ). scaled t.0 t.1) (only b (f, x)))
side_where true s f x = sym (then_itself (sum_with s (scaled f x)))
side_where false s f x = refl

side_stages : ℕ → Vector → Ellipsoid → ℕ → Option ℤ
side_stages d c o k = option_and_then (λ s. if nat_lt k d then sum_with s (scaled (neg_ℤ (c 0)) (form_of o 0 k)) else Some s) (sum_with (pos 0) (scaled (c k) (form_of o 0 0)))

side_sum-is : (d : ℕ) (c : Vector) (o : Ellipsoid) (i : ℕ) → side_sum d c o i ≡ sum_from (pos 0) (side_summands d c o i)
unfolding side_stages
side_sum-is d c o i =
    ap (side_stages d c o) (add-one i)
    ∙ then_same (sum_with (pos 0) (scaled (c (suc i)) (form_of o 0 0))) _ _ (λ s. side_where (nat_lt (suc i) d) s (neg_ℤ (c 0)) (form_of o 0 (suc i)))

plus_nothing : (z : ℤ) → pos 0 +ℤ z ≡ z
plus_nothing z = omega (arith, ints)

corner_sum-is : (o : Ellipsoid) → corner_sum o ≡ sum_from (pos 0) (corner_summands o)
corner_sum-is o =
    ap (λ z. option_and_then (λ s. narrow_of (s -ℤ form_of o 0 0)) (narrow_of z)) (sym (plus_nothing o.mu))
    ∙ then_same (narrow_of (pos 0 +ℤ o.mu)) _ _ (λ s. sym (then_itself (narrow_of (s -ℤ form_of o 0 0))))

pub step_sum-is : (d : ℕ) (c : Vector) (o : Ellipsoid) (i j : ℕ) → step_sum d c o i j ≡ sum_from (pos 0) (step_summands d c o i j)
step_sum-is d c o i j = at_ends (nat_lt i d) (nat_lt j d)
  where
    at_ends : (a b : Bool) → (if a then if b then inside_sum d c o i j else side_sum d c o i else if b then side_sum d c o j else corner_sum o)
        ≡ sum_from (pos 0) (if a then if b then inside_summands d c o i j else side_summands d c o i else if b then side_summands d c o j else corner_summands o)
    at_ends true true = inside_sum-is d c o i j
    at_ends true false = side_sum-is d c o i
    at_ends false true = side_sum-is d c o j
    at_ends false false = corner_sum-is o

first_where : (b : Bool) (s k : ℤ) → (if b then narrow_of (s -ℤ k) else Some s) ≡ sum_from s (if b then bare (neg_ℤ k) ∷ [] else [])
first_where true s k = sym (then_itself (narrow_of (s -ℤ k)))
first_where false s k = refl

pub first_sum-is : (o : Ellipsoid) (i j : ℕ) → first_sum o i j ≡ sum_from (pos 0) (first_summands o i j)
first_sum-is o i j = then_same (sum_with (pos 0) (scaled o.nu (form_of o i j))) _ _ (λ s. first_where ((i == 0) && (j == 0)) s o.kappa)

-- ---- whether a number on the way is too wide
pub wide_same : (n : ℕ) (sum : ℕ → ℕ → Option ℤ) (summands : ℕ → ℕ → List Summand) → ((i j : ℕ) → sum i j ≡ sum_from (pos 0) (summands i j))
    → list_any (λ i. list_any (λ j. is_none (sum i j)) (places n)) (places n) ≡ has_wide_entry n summands
wide_same n sum summands h =
    any_same (λ i. list_any (λ j. is_none (sum i j)) (places n)) (λ i. list_any (λ j. is_none (sum_from (pos 0) (summands i j))) (places n)) n
    (λ i p. any_same (λ j. is_none (sum i j)) (λ j. is_none (sum_from (pos 0) (summands i j))) n (λ j q. ap is_none (h i j)))

pub step_is_wide : (d : ℕ) (c : Vector) (o : Ellipsoid) → list_any (λ i. list_any (λ j. is_none (step_sum d c o i j)) (places (d + 1))) (places (d + 1)) ≡ has_wide_entry (suc d) (step_summands d c o)
step_is_wide d c o = wide_same (d + 1) (step_sum d c o) (step_summands d c o) (step_sum-is d c o) ∙ ap (λ n. has_wide_entry n (step_summands d c o)) (add-one d)

pub first_is_wide : (d : ℕ) (o : Ellipsoid) → list_any (λ i. list_any (λ j. is_none (first_sum o i j)) (places d)) (places d) ≡ has_wide_entry d (first_summands o)
first_is_wide d o = wide_same d (first_sum o) (first_summands o) (first_sum-is o)
