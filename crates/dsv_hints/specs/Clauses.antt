-- Clauses and sets of literals.
use Rattle.std.specs.Prelude.{ℕ, Bool, true, false, ◌||◌, ◌&&◌, List, [], ◌∷◌, cond, nat_lt}
use Rattle.dsv_cnf.specs.Literal.{Literal, literal_eq, negation}
use Rattle.dsv_cnf.specs.LiteralSet.{none, with}

-- the set and the literals of a clause
abbrev pub with_all : List Literal → (Literal → Bool) → Literal → Bool
with_all [] set = set
with_all (l ∷ ls) set = with_all ls (with l set)

-- the literals of a clause that are not in the set
abbrev pub outside : (Literal → Bool) → List Literal → List Literal
outside set [] = []
outside set (l ∷ ls) = cond (set l) (outside set ls) (l ∷ outside set ls)

-- no literal but this one
abbrev pub only : Literal → List Literal → Bool
only l [] = true
only l (m ∷ ms) = literal_eq l m && only l ms

-- the set has the negation of one of these literals
abbrev pub has_negation : (Literal → Bool) → List Literal → Bool
has_negation set [] = false
has_negation set (l ∷ ls) = set (negation l) || has_negation set ls

-- the clause has a literal and its negation
abbrev pub is_tautology : List Literal → Bool
is_tautology c = has_negation (with_all c none) c

-- every variable of the clause is below the number
abbrev pub is_over : ℕ → List Literal → Bool
is_over vars [] = true
is_over vars (l ∷ ls) = nat_lt l.var vars && is_over vars ls
