-- Lists beside others: their ends, their first entries, blocks of them, and entries at the same
-- places.
use Rattle.std.specs.Prelude.{◌≡◌, ℕ, ◌+◌, ◌-◌, ◌≤◌, List, [], ◌∷◌, ◌++◌, length, take, drop, map}
use Rattle.std.specs.Prelude.{Option, Some, None, slice_get}

-- The last entries of a list, each at its place; all but the first of them are as they were.
pub record IsSuffix {A P : Type 0} (place : A → P) (before after : List A) : Type 0 where
  pub shorter : length after ≤ length before
  pub same : map place after ≡ drop (length before - length after) (map place before)
  pub others : drop 1 after ≡ drop (length before - length after + 1) before

-- The list has a first entry, and this is true of it.
abbrev pub IfFirst : {A : Type 0} → List A → (A → Type 0) → Type 0
IfFirst [] P = ⊥
IfFirst (x ∷ xs) P = P x

-- It is true of none of them.
abbrev pub HoldsOfNone : {A : Type 0} → (A → Type 0) → List A → Type 0
HoldsOfNone P [] = Unit {0}
HoldsOfNone P (x ∷ xs) = (P x → ⊥) × HoldsOfNone P xs

-- each of one list stands so to that at its place in the other, and they are as long
abbrev pub Pairwise : {A B : Type 0} → (A → B → Type 0) → List A → List B → Type 0
Pairwise R [] [] = Unit {0}
Pairwise R (x ∷ xs) (y ∷ ys) = R x y × Pairwise R xs ys
Pairwise R _ _ = ⊥

-- The offers of a proposer of whom at most so many are judged: where it tells what it will offer,
-- the first of these, and else any.
abbrev pub IsBlock : {A : Type 0} → ℕ → Option (List A) → List A → Type 0
IsBlock room None block = length block ≤ room
IsBlock room (Some cs) block = block ≡ take room cs

-- The list is a block of each of the proposers, in their order: of the first at most so many offers
-- are judged, and of each other at most 32.
abbrev pub AreBlocks : {A : Type 0} → ℕ → List (Option (List A)) → List A → Type 0
AreBlocks room [] offers = offers ≡ []
AreBlocks room (told ∷ rest) offers = (block : _) × (others : _) × IsBlock room told block
    × (offers ≡ block ++ others) × AreBlocks 32 rest others

-- one offer, where the proposer told what would come, and tells what is left
abbrev pub IsTurn : {A : Type 0} → Option (List A) → Option (List A) → Option A → Type 0
IsTurn None after offer = Unit {0}
IsTurn (Some cs) after offer = (offer ≡ slice_get cs 0) × (after ≡ Some (drop 1 cs))
