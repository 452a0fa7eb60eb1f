-- What contracts see of the clauses of a derivation.
use Rattle.std.specs.Prelude.{ℕ, List, Option}
use Rattle.dsv_hints.specs.Derivation.{Entry}

pub record StoreView : Type 0 where
  pub vars : ℕ
  pub last : Option ℕ
  pub live : List Entry
  pub spare_clauses : ℕ
  pub spare_literals : ℕ
