-- The names of a cascade's sections, piece after piece.
use Rattle.std.proofs.Common.{◌≡◌, ◌⊎◌, inl, inr, ℕ, suc, ◌+◌, ◌<◌, ◌≤◌, Bool, true, false, not, ◌&&◌, ◌||◌, List, [], ◌∷◌, ◌++◌, length, Option, Some, None, refl, arith, length-append}
use Rattle.std.proofs.lemmas.Bool.{lt-leb, le-leb}
use Rattle.std.proofs.lemmas.List.{append_assoc}
use Rattle.std.specs.Prelude.{nat_le, if◌then◌else◌}
use Rattle.std.specs.List.{list_any}
use Rattle.dsv_command.specs.SectionNames.{most_later, is_nameless}

-- what is read, and what is left of the text
abbrev pub with_names : List (List ℕ) → List (List ℕ) → Option (List (List ℕ))
with_names front ps = if nat_le (length front + length ps) most_later && not (list_any is_nameless ps)
    then Some (front ++ ps) else None

no_name : (front ps : List (List ℕ)) (a b : Bool) → b ≡ true → (if a && not b then Some (front ++ ps) else None) ≡ None
no_name front ps true true e = refl
no_name front ps false true e = refl
no_name front ps a false e = absurd cc

no_room : (front ps : List (List ℕ)) (a b : Bool) → a ≡ false → (if a && not b then Some (front ++ ps) else None) ≡ None
no_room front ps false b e = refl
no_room front ps true b e = absurd cc

either_true : (a b : Bool) → a ≡ true → (a || b) ≡ true
either_true true b e = refl
either_true false b e = absurd cc

-- a name that can't be taken
pub not_taken : (front : List (List ℕ)) (n : ℕ) (p : List ℕ) (ps : List (List ℕ)) → length front ≡ n → (is_nameless p ≡ true) ⊎ (most_later ≤ n) → with_names front (p ∷ ps) ≡ None
not_taken front n p ps l (inl e) = no_name front (p ∷ ps) (nat_le (length front + suc (length ps)) most_later) (is_nameless p || list_any is_nameless ps) (either_true (is_nameless p) (list_any is_nameless ps) e)
not_taken front n p ps l (inr h) = no_room front (p ∷ ps) (nat_le (length front + suc (length ps)) most_later) (is_nameless p || list_any is_nameless ps) (lt-leb (length front + suc (length ps)) most_later (omega arith))

-- a name more
pub name_taken : (front : List (List ℕ)) (p : List ℕ) (ps : List (List ℕ)) → is_nameless p ≡ false → with_names front (p ∷ ps) ≡ with_names (front ++ p ∷ []) ps
name_taken front p ps e =
    let long : length front + suc (length ps) ≡ length (front ++ p ∷ []) + length ps = omega (arith, length-append front (p ∷ [])) in
    rw (e, long, append_assoc front (p ∷ []) ps) refl

-- the last name
pub last_taken : (front : List (List ℕ)) (n : ℕ) (p : List ℕ) → length front ≡ n → is_nameless p ≡ false → n < most_later → with_names front (p ∷ []) ≡ Some (front ++ p ∷ [])
last_taken front n p l e h = rw (e, le-leb (length front + 1) most_later (omega arith)) refl
