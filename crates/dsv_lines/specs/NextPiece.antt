-- The next piece of a line.
use Rattle.std.specs.Prelude.{◌≡◌, ℕ, List, [], ◌∷◌, Option, Some, None}
use Rattle.std.specs.Borrow.{Bor}

-- The old pieces begin with this one and go on with the new ones, or there is none.
abbrev pub IsNextPiece : List (List ℕ) → Option (Bor (List ℕ)) → List (List ℕ) → Type 0
IsNextPiece old (Some piece) new = old ≡ piece.now ∷ new
IsNextPiece old None new = (old ≡ []) × (new ≡ [])
