-- What a derivation shows.
use Rattle.std.specs.Prelude.{◌≡◌, ℕ, Bool, true, List, map}
use Rattle.dsv_cnf.specs.Literal.{Literal}
use Rattle.dsv_cnf.specs.Formula.{Satisfies, IsUnsatisfiable}
use Rattle.dsv_hints.specs.Derivation.{Entry, Carried}

abbrev pub clauses_of : List Entry → List (List Literal)
clauses_of live = map (λ e. e.clause) live

-- Each live clause is a consequence of these clauses. Once the empty clause was added, no
-- assignment satisfies them.
pub record Follows (clauses : List (List Literal)) (s : Carried) : Type 0 where
  pub live : (v : ℕ → Bool) → Satisfies v clauses → Satisfies v (clauses_of s.live)
  pub ended : s.ended ≡ true → IsUnsatisfiable clauses
