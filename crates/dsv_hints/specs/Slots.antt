-- How the clauses of a derivation are kept: slots in the order of the ids, and one list of
-- literals.
use Rattle.std.specs.Prelude.{◌≡◌, ◌≢◌, ℕ, ◌<◌, ◌≤◌, List, [], ◌∷◌, Option}
use Rattle.std.specs.Prelude.{Bool, Some, None, length, cond, nat_le, slice_index_or, slice_range}
use Rattle.std.specs.List.{All, AllPairs}
use Rattle.dsv_cnf.specs.Literal.{Literal}
use Rattle.dsv_hints.specs.Derivation.{Entry}
use Rattle.dsv_hints.specs.declared.store.Slot.{Slot}

abbrev pub entry_of : List Literal → Slot → Entry
entry_of literals s = record { id = s.id; clause = slice_range literals s.start s.end }

-- A slot that ends before it starts is of a deleted clause.
abbrev pub is_kept : Slot → Bool
is_kept s = nat_le s.start s.end

-- the live clauses
abbrev pub live_of : List Literal → List Slot → List Entry
live_of literals [] = []
live_of literals (s ∷ ss) =
    cond (is_kept s) (entry_of literals s ∷ live_of literals ss) (live_of literals ss)

-- the ids rise
abbrev pub IsRising : List Slot → Type 0
IsRising slots = AllPairs (λ s t. s.id < t.id) slots

-- The slot at this place has the id.
pub record HasId (slots : List Slot) (id at : ℕ) : Type 0 where
  pub in_range : at < length slots
  pub same : (d : Slot) → (slice_index_or slots at d).id ≡ id

-- no slot has the id
abbrev pub AllOther : List Slot → ℕ → Type 0
AllOther slots id = All (λ s. s.id ≢ id) slots

-- The slot ends among so many literals.
pub record IsWithin (count : ℕ) (s : Slot) : Type 0 where
  pub inside : s.end ≤ count

-- the id isn't greater than the last
abbrev pub IsUpTo : Option ℕ → ℕ → Type 0
IsUpTo None id = ⊥
IsUpTo (Some last) id = id ≤ last

-- These are slots of clauses among these literals, and no id is greater than the last.
pub record AreSlots (last : Option ℕ) (literals : List Literal) (slots : List Slot) : Type 0 where
  pub within : All (IsWithin (length literals)) slots
  pub rising : IsRising slots
  pub upto : All (λ s. IsUpTo last s.id) slots
