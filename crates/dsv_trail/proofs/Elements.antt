-- Elements of lists by their places.
use Rattle.std.proofs.Common.{◌≡◌, ℕ, ◌<◌, List, [], ◌∷◌, ◌++◌, ◌⊎◌, refl, arith, ap, inl, inr, length, take, zero, suc, slice_get, Some}

pub some-inside : {X : Type 0} (x y : X) → Some x ≡ Some y → x ≡ y
some-inside x y e = cc

-- an element of a list with one more at the end
pub push-cases : {X : Type 0} (xs : List X) (y : X) (i : ℕ) (x : X) → slice_get (xs ++ y ∷ []) i ≡ Some x → ((i < length xs) × (slice_get xs i ≡ Some x)) ⊎ ((i ≡ length xs) × (y ≡ x))
push-cases [] y zero x h = inr (refl, some-inside y x h)
push-cases [] y (suc i) x h = cc
push-cases (z ∷ zs) y zero x h = inl (omega arith, h)
push-cases (z ∷ zs) y (suc i) x h = elim (push-cases zs y i x h) [ inl a ↦ inl (omega (arith, a.0), a.1) | inr b ↦ inr (ap suc b.0, b.1) ]

pub push-left : {X : Type 0} (xs : List X) (y : X) (i : ℕ) (x : X) → slice_get xs i ≡ Some x → slice_get (xs ++ y ∷ []) i ≡ Some x
push-left [] y i x h = cc
push-left (z ∷ zs) y zero x h = h
push-left (z ∷ zs) y (suc i) x h = push-left zs y i x h

pub push-new : {X : Type 0} (xs : List X) (y : X) → slice_get (xs ++ y ∷ []) (length xs) ≡ Some y
push-new [] y = refl
push-new (z ∷ zs) y = push-new zs y

-- an element of a list's beginning
pub take-cases : {X : Type 0} (k : ℕ) (xs : List X) (i : ℕ) (x : X) → slice_get (take k xs) i ≡ Some x → (i < k) × (slice_get xs i ≡ Some x)
take-cases zero xs i x h = cc
take-cases (suc k) [] i x h = cc
take-cases (suc k) (z ∷ zs) zero x h = (omega arith, h)
take-cases (suc k) (z ∷ zs) (suc i) x h = let r = take-cases k zs i x h in (omega (arith, r.0), r.1)

pub take-left : {X : Type 0} (k : ℕ) (xs : List X) (i : ℕ) (x : X) → i < k → slice_get xs i ≡ Some x → slice_get (take k xs) i ≡ Some x
take-left zero xs i x lt h = absurd (omega (arith, lt))
take-left (suc k) [] i x lt h = cc
take-left (suc k) (z ∷ zs) zero x lt h = h
take-left (suc k) (z ∷ zs) (suc i) x lt h = take-left k zs i x (omega (arith, lt)) h
