-- Sets of literals.
use Rattle.std.specs.Prelude.{ℕ, Bool, false, ◌||◌, List, ◌*◌, replicate, slice_index_or}
use Rattle.dsv_cnf.specs.Literal.{Literal, code_of, literal_eq}

-- A set of literals is a test. The set that has none:
abbrev pub none : Literal → Bool
none = λ m. false

-- the set and one literal
abbrev pub with : Literal → (Literal → Bool) → Literal → Bool
with l set = λ m. literal_eq l m || set m

-- What contracts see of a set in memory: over how many variables it is, and a mark for each
-- literal's number.
pub record SetView : Type 0 where
  pub vars : ℕ
  pub marks : List Bool

abbrev pub set_of : SetView → Literal → Bool
set_of s = λ l. slice_index_or s.marks (code_of l) false

abbrev pub empty_set : ℕ → SetView
empty_set vars = record { vars = vars; marks = replicate (2 * vars) false }
