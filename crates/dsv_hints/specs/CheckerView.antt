-- What contracts see of a checker.
use Rattle.std.specs.Prelude.{ℕ}
use Rattle.dsv_hints.specs.Derivation.{Carried}

-- what it carries, and for how many steps and literals that they add it has memory
pub record CheckerView : Type 0 where
  pub carried : Carried
  pub spare_steps : ℕ
  pub spare_literals : ℕ
