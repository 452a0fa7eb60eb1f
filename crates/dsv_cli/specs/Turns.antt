-- For private contracts: what comes of asking proposers of any kind in their order.
use Rattle.std.specs.Prelude.{◌≡◌, ℕ, suc, ◌<◌, List, [], ◌∷◌, ◌++◌, Option, Some, None}
use Rattle.std.specs.Prelude.{Result, Ok, Err}
use Rattle.std.specs.Borrow.{MutBor}
use Rattle.dsv_base.specs.declared.memory.NoMemory.{NoMemory}
use Rattle.dsv_cli.specs.declared.turns.Turn.{Turn}
use Rattle.dsv_cli.specs.declared.turns.Turn.TheVariants as turn

-- ---- asking once
abbrev pub IfAccepted : {A K : Type 0} → Turn A K → (A → Type 0) → Type 0
IfAccepted turn.Nothing P = Unit {0}
IfAccepted (turn.Accepted found) P = P found
IfAccepted (turn.Refused kept) P = Unit {0}

abbrev pub IfRefused : {A K : Type 0} → Turn A K → (K → Type 0) → Type 0
IfRefused turn.Nothing P = Unit {0}
IfRefused (turn.Accepted found) P = Unit {0}
IfRefused (turn.Refused kept) P = P kept

abbrev pub IsNotAccepted : {A K : Type 0} → Turn A K → Type 0
IsNotAccepted came = IfAccepted came (λ found. ⊥)

-- the offer that came, by that of what is accepted and that of what is refused
abbrev pub offer_of : {A K O : Type 0} → (A → O) → (K → O) → Turn A K → Option O
offer_of accepted refused turn.Nothing = None
offer_of accepted refused (turn.Accepted found) = Some (accepted found)
offer_of accepted refused (turn.Refused kept) = Some (refused kept)

-- the call of a closure at a proposer may give this and leave the proposer so
abbrev pub Gives : {P R : Type 0} → (MutBor P → R → MutBor P → Type 0) → P → R → P → Type 0
Gives post before result after = (old : _) × (new : _) × (old.now ≡ before) × (new.now ≡ after)
    × post old result new

-- ---- asking all
-- After some turns, from these proposers on: so many offers of the first that is left were refused,
-- all that were refused are kept, and these proposers are left.
pub data Turns {P A K : Type 0} (gives : P → Result (Turn A K) NoMemory → P → Type 0)
    (before : List P) : ℕ → List K → List P → Type 0 where
  start : Turns gives before 0 [] before
  nothing : {n : ℕ} {kept : List K} {b c : P} {others : List P}
      → Turns gives before n kept (b ∷ others) → gives b (Ok turn.Nothing) c
      → Turns gives before 0 kept others
  refused : {n : ℕ} {kept : List K} {b c : P} {others : List P} {k : K}
      → Turns gives before n kept (b ∷ others) → gives b (Ok (turn.Refused k)) c → n < 32
      → Turns gives before (suc n) (kept ++ k ∷ []) (c ∷ others)
  full : {kept : List K} {b : P} {others : List P}
      → Turns gives before 32 kept (b ∷ others) → Turns gives before 0 kept others

-- after some turns the first that is left is asked with this result, and that ends the asking
abbrev pub Ends : {P A K : Type 0} → (P → Result (Turn A K) NoMemory → P → Type 0) → List P
    → List P → Result (Turn A K) NoMemory → Type 0
Ends gives before after result = (n : _) × (kept : _) × (b : _) × (c : _) × (others : _)
    × Turns gives before n kept (b ∷ others) × gives b result c × (after ≡ c ∷ others)

-- What comes of asking these proposers: what is accepted, or the offers that were refused where no
-- proposer is left; and those that are left.
abbrev pub ComesTo : {P A K : Type 0} → (P → Result (Turn A K) NoMemory → P → Type 0) → List P
    → List P → List K → Result (Option A) NoMemory → Type 0
ComesTo gives before after kept (Ok (Some found)) =
    Ends gives before after (Ok (turn.Accepted found))
ComesTo gives before after kept (Ok None) = Turns gives before 0 kept [] × (after ≡ [])
ComesTo gives before after kept (Err e) = (result : _) × Ends gives before after result
