-- Literals.
use Rattle.std.specs.Prelude.{ℕ, ◌+◌, ◌*◌, Bool, true, false, not, ◌==◌, ◌&&◌, cond}

-- a variable, or its negation
pub record Literal : Type 0 where
  pub var : ℕ
  pub positive : Bool

abbrev pub bool_eq : Bool → Bool → Bool
bool_eq true b = b
bool_eq false b = not b

abbrev pub literal_eq : Literal → Literal → Bool
literal_eq a b = (a.var == b.var) && bool_eq a.positive b.positive

abbrev pub negation : Literal → Literal
negation l = record { var = l.var; positive = not l.positive }

-- the value of a literal where the variables have the values v
abbrev pub literal_value : (ℕ → Bool) → Literal → Bool
literal_value v l = cond l.positive (v l.var) (not (v l.var))

-- as a number: twice the variable, and one more for a negation
abbrev pub code_of : Literal → ℕ
code_of l = 2 * l.var + cond l.positive 0 1
