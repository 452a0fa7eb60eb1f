-- Private contracts alone cite this file: the values of a full trail, and restarts.
use Rattle.std.specs.Prelude.{◌≡◌, ℕ, ◌<◌, Bool, false, List, []}
use Rattle.std.specs.Prelude.{length, slice_get, slice_index_or}
use Rattle.std.specs.Prelude.{Some, ◌⊎◌}
use Rattle.dsv_cnf.specs.Literal.{Literal}
use Rattle.dsv_trail.specs.TrailView.{TrailView}
use Rattle.dsv_trail.specs.Places.{falsifies}
use Rattle.dsv_solver.specs.Back.{back}

abbrev pub minus : ℕ → Literal
minus x = record { var = x; positive = false }

-- each variable is true where its negation is false
pub record AreValuesOf (t : TrailView) (values : List Bool) : Type 0 where
  pub count : length values ≡ t.vars
  pub each : (x : ℕ) → x < t.vars → slice_index_or values x false ≡ falsifies t.marks (minus x)

pub record AreValuesTo (t : TrailView) (n : ℕ) (values : List Bool) : Type 0 where
  pub count : length values ≡ t.vars
  pub each : (x : ℕ) → x < n → slice_index_or values x false ≡ falsifies t.marks (minus x)

pub record IsBack (s t : TrailView) (now : ℕ) : Type 0 where
  pub place : ℕ
  pub at : slice_get s.limits 0 ≡ Some place
  pub is : t ≡ back s 0 place
  pub through : now ≡ length t.marks

-- where there is a level, the trail goes back before the first
pub record IsRestarted (s t : TrailView) (head now : ℕ) : Type 0 where
  pub which : ((t ≡ s) × (now ≡ head) × (s.limits ≡ [])) ⊎ IsBack s t now
