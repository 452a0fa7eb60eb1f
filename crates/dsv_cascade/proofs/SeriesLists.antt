-- A list that a loop makes after another, entry by entry.
use Rattle.std.proofs.Common.{◌≡◌, ℕ, zero, suc, ◌+◌, ◌<◌, ◌≤◌, List, [], ◌∷◌, ◌++◌, length, get_or, take, drop, map, refl, sym, ap, ◌∙◌, arith, append_assoc}
use Rattle.std.specs.Prelude.{slice_get, Some}
use Rattle.std.proofs.lemmas.List.{take_more, drop-append-le, length-take-le, map_push}

get_some : {X : Type 0} (xs : List X) (i : ℕ) (d x : X) → slice_get xs i ≡ Some x → get_or xs i d ≡ x
get_some [] i d x e = absurd cc
get_some (y ∷ ys) zero d x e = cc
get_some (y ∷ ys) (suc i) d x e = get_some ys i d x e

-- one item more of a list
taken_more : {X : Type 0} (xs got now : List X) (i : ℕ) (x : X) → i < length xs → got ≡ take i xs → slice_get xs i ≡ Some x → now ≡ got ++ x ∷ [] → now ≡ take (i + 1) xs
taken_more xs got now i x l g e p = p ∙ ap (λ ys. ys ++ x ∷ []) g ∙ ap (λ y. take i xs ++ y ∷ []) (sym (get_some xs i x x e)) ∙ sym (take_more xs i x l)

-- the entries that f makes of those of xs from k on
pub mapped_after : {X Y : Type 0} (f : X → Y) (before : List Y) (xs : List X) (got now : List Y) (k i : ℕ) (x : X) (y : Y) → k ≤ i → i < length xs
    → got ≡ before ++ map f (drop k (take i xs)) → slice_get xs i ≡ Some x → y ≡ f x → now ≡ got ++ y ∷ [] → now ≡ before ++ map f (drop k (take (i + 1) xs))
mapped_after f before xs got now k i x y le l g e h p =
    let front = drop k (take i xs) in
    let here = taken_more xs (take i xs) (take i xs ++ x ∷ []) i x l refl e refl in
    let longer : drop k (take (i + 1) xs) ≡ front ++ x ∷ [] = ap (drop k) (sym here) ∙ drop-append-le k (take i xs) (x ∷ []) (omega (arith, length-take-le i xs (omega arith))) in
    p ∙ rw (g, h) (append_assoc before (map f front) (f x ∷ [])) ∙ ap (λ (w : List _). before ++ w) (sym (ap (map f) longer ∙ map_push f front x))
