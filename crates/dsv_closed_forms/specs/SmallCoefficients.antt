-- The sizes at which order 2 has a closed form; private contracts alone cite it.
use Rattle.std.specs.Prelude.{ℤ, ◌≤◌}
use Rattle.std.specs.Int.RustNames.{unsigned_abs}
use Rattle.dsv_closed_forms.specs.ClosedForm.{second_limit}

-- no coefficient is greater in size than the limit
pub record AreSmall (c0 c1 c2 : ℤ) : Type 0 where
  pub first : unsigned_abs c0 ≤ second_limit
  pub second : unsigned_abs c1 ≤ second_limit
  pub third : unsigned_abs c2 ≤ second_limit
