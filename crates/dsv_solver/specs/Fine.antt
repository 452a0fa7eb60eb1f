-- Private contracts alone cite this file: clauses that are true or have two literals that are not
-- false.
use Rattle.std.specs.Prelude.{◌≡◌, ◌≢◌, Bool, true, false, List, [], ◌∷◌, ◌⊎◌}
use Rattle.dsv_cnf.specs.Literal.{Literal, negation}
use Rattle.dsv_cnf.specs.Formula.{contains}

pub record HasTrue (g : Literal → Bool) (c : List Literal) : Type 0 where
  pub literal : Literal
  pub stands : contains c literal ≡ true
  pub is_true : g (negation literal) ≡ true

pub record HasTwo (g : Literal → Bool) (c : List Literal) : Type 0 where
  pub one : Literal
  pub other : Literal
  pub one_stands : contains c one ≡ true
  pub other_stands : contains c other ≡ true
  pub apart : one ≢ other
  pub one_not : g one ≡ false
  pub other_not : g other ≡ false

-- where the literals of g are false: a literal of the clause is true, or two are not false
abbrev pub IsFine : (Literal → Bool) → List Literal → Type 0
IsFine g c = HasTrue g c ⊎ HasTwo g c

abbrev pub AreFine : (Literal → Bool) → List (List Literal) → Type 0
AreFine g [] = Unit {0}
AreFine g (c ∷ cs) = IsFine g c × AreFine g cs
