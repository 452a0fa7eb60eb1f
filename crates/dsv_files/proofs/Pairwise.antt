-- Lists that stand so to one another, place by place, and what is true of all of a list.
use Rattle.std.specs.Prelude.{slice_get, Some}
use Rattle.std.specs.List.{All}
use Rattle.std.proofs.lemmas.List.{get_or-take, length-take}
use Rattle.std.proofs.lemmas.Option.{get_or_from_slice_get, slice_get_within}
use Rattle.std.proofs.Common.{◌≡◌, ◌<◌, ◌+◌, ℕ, zero, suc, List, [], ◌∷◌, ◌++◌, length, take, get_or, subst, ap, refl, ◌∙◌, arith}
use Rattle.dsv_base.specs.Lists.{Pairwise}

next : {A B : Type 0} (R : A → B → Type 0) (xs : List A) (ys : List B) (i : ℕ) (x : A) (y : B) → i < length xs → x ≡ get_or xs i x → Pairwise R (take i xs) ys → R x y → Pairwise R (take (suc i) xs) (ys ++ y ∷ [])
next R [] ys i x y l e h r = absurd (omega arith)
next R (a ∷ xs) [] zero x y l e h r = (subst (λ (z : _). R z y) e r, tt)
next R (a ∷ xs) (b ∷ ys) zero x y l e h r = absurd h
next R (a ∷ xs) [] (suc i) x y l e h r = absurd h
next R (a ∷ xs) (b ∷ ys) (suc i) x y l e h r = (h.0, next R xs ys i x y (omega arith) e h.1 r)

-- a pair more
pub pairs_more : {A B : Type 0} (R : A → B → Type 0) (xs : List A) (ys : List B) (i : ℕ) (x : A) (y : B) → i < length xs → x ≡ get_or xs i x → Pairwise R (take i xs) ys → R x y → Pairwise R (take (i + 1) xs) (ys ++ y ∷ [])
pairs_more R xs ys i x y l e h r =
    let n : suc i ≡ i + 1 = omega arith in
    subst (λ (k : ℕ). Pairwise R (take k xs) (ys ++ y ∷ [])) n (next R xs ys i x y l e h r)

-- as long as one another
pub pairs_long : {A B : Type 0} (R : A → B → Type 0) (xs : List A) (ys : List B) → Pairwise R xs ys → length ys ≡ length xs
pairs_long R [] [] h = refl
pairs_long R [] (y ∷ ys) h = absurd h
pairs_long R (x ∷ xs) [] h = absurd h
pairs_long R (x ∷ xs) (y ∷ ys) h = ap suc (pairs_long R xs ys h.1)

pub pairs_weaker : {A B : Type 0} (R S : A → B → Type 0) (xs : List A) (ys : List B) → ((x : A) (y : B) → R x y → S x y) → Pairwise R xs ys → Pairwise S xs ys
pairs_weaker R S [] [] f h = tt
pairs_weaker R S [] (y ∷ ys) f h = absurd h
pairs_weaker R S (x ∷ xs) [] f h = absurd h
pairs_weaker R S (x ∷ xs) (y ∷ ys) f h = (f x y h.0, pairs_weaker R S xs ys f h.1)

pub some_once : {A : Type 0} → (a x : A) → Some a ≡ Some x → a ≡ x
some_once a x e = cc

-- what stands so to the one at a place
pub pair_at : {A B : Type 0} (R : A → B → Type 0) (xs : List A) (ys : List B) (i : ℕ) (x : A) → slice_get xs i ≡ Some x → Pairwise R xs ys → (y : B) × R x y
pair_at R [] ys i x e h = absurd (cc)
pair_at R (a ∷ xs) [] i x e h = absurd h
pair_at R (a ∷ xs) (y ∷ ys) zero x e h = (y, subst (λ z. R z y) (some_once a x e) h.0)
pair_at R (a ∷ xs) (y ∷ ys) (suc i) x e h = pair_at R xs ys i x e h.1

-- and to one before a place
pub pair_before : {A B : Type 0} (R : A → B → Type 0) (xs : List A) (ys : List B) (i j : ℕ) (x : A) → slice_get xs i ≡ Some x → i < j → Pairwise R (take j xs) ys → (y : B) × R x y
pair_before R xs ys i zero x e l h = absurd (omega arith)
pair_before R [] ys i (suc j) x e l h = absurd (cc)
pair_before R (a ∷ xs) [] i (suc j) x e l h = absurd h
pair_before R (a ∷ xs) (y ∷ ys) zero (suc j) x e l h = (y, subst (λ z. R z y) (some_once a x e) h.0)
pair_before R (a ∷ xs) (y ∷ ys) (suc i) (suc j) x e l h = pair_before R xs ys i j x e (omega (arith, l)) h.1

-- ---- what is true of all of a list
pub at_place : {A : Type 0} → (P : A → Type 0) (xs : List A) (i : ℕ) (v : A) → slice_get xs i ≡ Some v → All P xs → P v
at_place P xs i v e h = subst P (get_or_from_slice_get xs i v v e) (h i v (slice_get_within xs i v e))

pub before_place : {A : Type 0} → (P : A → Type 0) (xs : List A) (i j : ℕ) (v : A) → slice_get xs i ≡ Some v → i < j → All P (take j xs) → P v
before_place P xs i j v e l h =
    let within = slice_get_within xs i v e in
    let long = length-take j xs in
    subst P (get_or-take j xs i v l ∙ get_or_from_slice_get xs i v v e) (h i v (omega arith))
