-- What is heard in rows: outputs that aren't 0.
use Rattle.std.specs.Prelude.{◌≡◌, ◌≢◌, Bool, true, false, List, pos}
use Rattle.std.specs.List.{All, Contains}
use Rattle.dsv_system.specs.Runs.{SampleRow}

-- whether an output of these rows isn't 0
pub record Hears (rows : List SampleRow) (sounding : Bool) : Type 0 where
  pub loud : sounding ≡ true → (row : SampleRow) × Contains rows row × (row.y ≢ pos 0)
  pub quiet : sounding ≡ false → All (λ row. row.y ≡ pos 0) rows
