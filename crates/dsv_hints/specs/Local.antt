-- Clauses that are derived at one level of decisions: what the lower levels imply stands in such a
-- clause as it is, and isn't traced back to their decisions.
use Rattle.std.specs.Prelude.{◌≡◌, ℕ, Bool, true, false, ◌||◌}
use Rattle.std.specs.Prelude.{◌&&◌, List, [], ◌∷◌, Option}
use Rattle.std.specs.Prelude.{Some, None}
use Rattle.dsv_cnf.specs.Literal.{Literal, negation}
use Rattle.dsv_cnf.specs.Formula.{contains}
use Rattle.dsv_cnf.specs.LiteralSet.{none, with}
use Rattle.dsv_hints.specs.Clauses.{with_all, outside}
use Rattle.dsv_hints.specs.Derivation.{Entry, live_clause, move_of}
use Rattle.dsv_hints.specs.declared.hints.Move.{Move}
use Rattle.dsv_hints.specs.declared.hints.Move.TheVariants.{Ends, Makes, Stuck}

-- ---- first: each literal of the clause stands in a hinted clause

abbrev pub clause_contains : Option (List Literal) → Literal → Bool
clause_contains None l = false
clause_contains (Some c) l = contains c l

-- the literal stands in a hinted clause
abbrev pub hinted_contains : List Entry → List ℕ → Literal → Bool
hinted_contains live [] l = false
hinted_contains live (h ∷ hs) l =
    clause_contains (live_clause live h) l || hinted_contains live hs l

abbrev pub AreHinted : List Entry → List ℕ → List Literal → Type 0
AreHinted live hints [] = Unit {0}
AreHinted live hints (l ∷ ls) = (hinted_contains live hints l ≡ true) × AreHinted live hints ls

-- ---- second: what a hint makes true has its negation in a later hinted clause

abbrev pub literal_of_move : Move → Option Literal
literal_of_move Ends = None
literal_of_move (Makes l) = Some l
literal_of_move Stuck = None

-- what a hinted clause makes true, where the literals of the set are false
abbrev pub made_literal : (Literal → Bool) → Option (List Literal) → Option Literal
made_literal set None = None
made_literal set (Some c) = literal_of_move (move_of set (outside set c))

abbrev pub IfMade : Option Literal → (Literal → Type 0) → Type 0
IfMade (Some l) next = next l
IfMade None next = Unit {0}

abbrev pub AreUsedLater : List Entry → List ℕ → (Literal → Bool) → Type 0
AreUsedLater live [] set = Unit {0}
AreUsedLater live (h ∷ hs) set =
    IfMade (made_literal set (live_clause live h)) (λ l.
    (hinted_contains live hs (negation l) ≡ true) × AreUsedLater live hs (with (negation l) set))

-- ---- third: two passes over the hints add the same literals to the set

abbrev pub pass_after : Option Literal → (Literal → List Literal) → List Literal → List Literal
pass_after (Some l) next skip = next l
pass_after None next skip = skip

-- What a pass adds to the set, from its beginning on. A hint whose clause makes no literal true is
-- passed over.
abbrev pub pass_literals : List Entry → List ℕ → (Literal → Bool) → List Literal
pass_literals live [] set = []
pass_literals live (h ∷ hs) set =
    pass_after (made_literal set (live_clause live h))
    (λ l. negation l ∷ pass_literals live hs (with (negation l) set)) (pass_literals live hs set)

abbrev pub after_first : List Literal → List Literal
after_first [] = []
after_first (l ∷ ls) = ls

-- One pass begins with the clause's literals but the first of them, the other with none.
pub record IsLocal (live : List Entry) (clause : List Literal) (hints : List ℕ) : Type 0 where
  pub hinted : AreHinted live hints clause
  pub used : AreUsedLater live hints (with_all clause none)
  pub passes : pass_literals live hints (with_all (after_first clause) none)
      ≡ pass_literals live hints none

-- ---- supersets

-- the clause has each of these literals
abbrev pub has_all : List Literal → List Literal → Bool
has_all c [] = true
has_all c (l ∷ ls) = contains c l && has_all c ls

-- as a set of literals the clause is no superset of a live clause
abbrev pub IsNoSuperset : List Entry → List Literal → Type 0
IsNoSuperset [] c = Unit {0}
IsNoSuperset (e ∷ es) c = (has_all c e.clause ≡ false) × IsNoSuperset es c
