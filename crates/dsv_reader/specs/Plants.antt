-- Plants as contracts see them.
use Rattle.std.specs.Prelude.{◌≡◌, ◌≢◌, ◌≤◌, List, length, pos, slice_index_or}
use Rattle.dsv_fraction.specs.Ratio.{Ratio, zero}
use Rattle.dsv_reader.specs.Controllers.{IsTime}
use Rattle.dsv_reader.specs.Limits.{most_coefficients}

-- what a plant's file says: its coefficients as they stand, with both lists padded to one length
pub record PlantView : Type 0 where
  pub b : List Ratio
  pub a : List Ratio
  pub sample_time : Ratio

-- what is true of each plant
pub record IsPlant (p : PlantView) : Type 0 where
  pub one_length : length p.b ≡ length p.a
  pub some : 1 ≤ length p.a
  pub few : length p.a ≤ most_coefficients
  pub leading : (slice_index_or p.a 0 zero).num ≢ pos 0
  pub time : IsTime p.sample_time
