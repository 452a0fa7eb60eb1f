-- Clauses, assignments and formulas.
use Rattle.std.specs.Prelude.{◌≡◌, ℕ, ◌<◌, Bool, true, false}
use Rattle.std.specs.Prelude.{◌||◌, List, [], ◌∷◌, length, slice_index_or}
use Rattle.std.specs.List.{All}
use Rattle.dsv_cnf.specs.FormulaView.{FormulaView}
use Rattle.dsv_cnf.specs.Literal.{Literal, literal_eq, literal_value}

-- the literal stands in the clause
abbrev pub contains : List Literal → Literal → Bool
contains [] l = false
contains (m ∷ ms) l = literal_eq m l || contains ms l

-- some literal of the clause is true
abbrev pub clause_value : (ℕ → Bool) → List Literal → Bool
clause_value v [] = false
clause_value v (l ∷ ls) = literal_value v l || clause_value v ls

-- every clause is true
abbrev pub Satisfies : (ℕ → Bool) → List (List Literal) → Type 0
Satisfies v [] = Unit {0}
Satisfies v (c ∷ cs) = (clause_value v c ≡ true) × Satisfies v cs

-- some assignment makes every clause true
abbrev pub IsSatisfiable : List (List Literal) → Type 0
IsSatisfiable cs = (v : ℕ → Bool) × Satisfies v cs

-- no assignment makes every clause true
abbrev pub IsUnsatisfiable : List (List Literal) → Type 0
IsUnsatisfiable cs = (v : ℕ → Bool) → Satisfies v cs → ⊥

-- every variable of the clause is below the number
abbrev pub IsOver : ℕ → List Literal → Type 0
IsOver vars c = All (λ l. l.var < vars) c

abbrev pub AreOver : ℕ → List (List Literal) → Type 0
AreOver vars [] = Unit {0}
AreOver vars (c ∷ cs) = IsOver vars c × AreOver vars cs

-- the values of a list, and false past its end
abbrev pub assignment_of : List Bool → ℕ → Bool
assignment_of values var = slice_index_or values var false

-- these values, one a variable, satisfy each clause of the formula
pub record IsModel (f : FormulaView) (values : List Bool) : Type 0 where
  pub count : length values ≡ f.vars
  pub satisfies : Satisfies (assignment_of values) f.clauses
