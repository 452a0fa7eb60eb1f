-- Literals that the trail makes false, and where it does.
use Rattle.std.specs.Prelude.{ℕ, ◌+◌, Bool, false, ◌||◌, cond, List, [], ◌∷◌}
use Rattle.dsv_cnf.specs.Literal.{Literal, literal_eq, negation}
use Rattle.dsv_trail.specs.declared.marks.Mark.{Mark}

-- the literal's negation is among them
abbrev pub falsifies : List Mark → Literal → Bool
falsifies [] l = false
falsifies (m ∷ ms) l = literal_eq (negation m.literal) l || falsifies ms l

-- the place of the first mark that makes the literal false, and the number of marks if none does
abbrev pub place_of : List Mark → Literal → ℕ
place_of [] l = 0
place_of (m ∷ ms) l = cond (literal_eq (negation m.literal) l) 0 (place_of ms l + 1)
