-- Marks: literals that are true, with their levels and reasons.
use Rattle.std.specs.Prelude.{◌≡◌, ℕ, ◌<◌, ◌≤◌, ◌==◌, Bool, cond, List, [], ◌∷◌}
use Rattle.std.specs.Prelude.{length, slice_get, Option, Some, None, IsSome}
use Rattle.dsv_cnf.specs.Literal.{Literal, bool_eq}
use Rattle.dsv_trail.specs.declared.marks.Mark.{Mark}

-- the mark of a variable
abbrev pub mark_of : List Mark → ℕ → Option Mark
mark_of [] var = None
mark_of (m ∷ ms) var = cond (m.literal.var == var) (Some m) (mark_of ms var)

-- the variable has no literal
abbrev pub IsOpen : List Mark → ℕ → Type 0
IsOpen marks var = mark_of marks var ≡ None

-- the variable has a literal
abbrev pub IsSet : List Mark → ℕ → Type 0
IsSet marks var = IsSome (mark_of marks var)

-- whether a mark's literal is the variable itself
abbrev pub sign_of : Option Mark → Option Bool
sign_of None = None
sign_of (Some m) = Some m.literal.positive

-- the value of a literal of this sign, where the variable's literal that is true has the other
abbrev pub value_by : Option Bool → Bool → Option Bool
value_by None positive = None
value_by (Some sign) positive = Some (bool_eq sign positive)

-- true where the literal is among them, false where its negation is
abbrev pub value_of : List Mark → Literal → Option Bool
value_of marks l = value_by (sign_of (mark_of marks l.var)) l.positive

-- a mark's level, and 0 where there is no mark
abbrev pub level_in : Option Mark → ℕ
level_in None = 0
level_in (Some m) = m.level

-- the level at which a variable got its literal
abbrev pub level_of : List Mark → ℕ → ℕ
level_of marks var = level_in (mark_of marks var)

abbrev pub reason_in : Option Mark → Option ℕ
reason_in None = None
reason_in (Some m) = m.reason

-- the clause that implied a variable's literal, and none for a decision
abbrev pub reason_of : List Mark → ℕ → Option ℕ
reason_of marks var = reason_in (mark_of marks var)

abbrev pub literal_in : Option Mark → Option Literal
literal_in None = None
literal_in (Some m) = Some m.literal

-- the literal at a place
abbrev pub literal_at : List Mark → ℕ → Option Literal
literal_at marks i = literal_in (slice_get marks i)

-- marks of different variables below a number
pub record AreMarks (vars : ℕ) (marks : List Mark) : Type 0 where
  pub few : length marks ≤ vars
  pub over : (i : ℕ) (m : Mark) → slice_get marks i ≡ Some m → m.literal.var < vars
  pub distinct : (i j : ℕ) (m n : Mark) → slice_get marks i ≡ Some m → slice_get marks j ≡ Some n
      → m.literal.var ≡ n.literal.var → i ≡ j
