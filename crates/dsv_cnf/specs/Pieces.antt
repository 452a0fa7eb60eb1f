-- Lists that lie one after another in one list.
use Rattle.std.specs.Prelude.{◌≡◌, ℕ, ◌≤◌, List, [], ◌∷◌, slice_range}

-- the piece from `start` to the first end, and each next piece up to its end
abbrev pub pieces_from : {X : Type 0} → List X → ℕ → List ℕ → List (List X)
pieces_from xs start [] = []
pieces_from xs start (end ∷ ends) = slice_range xs start end ∷ pieces_from xs end ends

-- the pieces between neighbouring bounds
abbrev pub pieces : {X : Type 0} → List X → List ℕ → List (List X)
pieces xs [] = []
pieces xs (start ∷ ends) = pieces_from xs start ends

-- the ends rise from `start` on, and the last is the whole length
abbrev pub AreEnds : ℕ → List ℕ → ℕ → Type 0
AreEnds start [] whole = start ≡ whole
AreEnds start (end ∷ ends) whole = (start ≤ end) × AreEnds end ends whole

-- there is a first bound, and the others rise from it to the whole length
abbrev pub AreBounds : List ℕ → ℕ → Type 0
AreBounds [] whole = ⊥
AreBounds (start ∷ ends) whole = AreEnds start ends whole
