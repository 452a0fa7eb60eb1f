-- Controllers as contracts see them.
use Rattle.std.specs.Prelude.{◌≡◌, ℕ, ◌<◌, ◌≤◌, Bool, List, length}
use Rattle.std.specs.Prelude.{Option, pos, ◌<ℤ◌, slice_index_or}
use Rattle.std.specs.Int.RustNames.{unsigned_abs}
use Rattle.dsv_fraction.specs.Ratio.{Ratio, zero, one}
use Rattle.dsv_word.specs.Width.{IsLawful}
use Rattle.dsv_reader.specs.Limits.{most_coefficients, time_limit, greatest_clock, greatest_cost}
use Rattle.dsv_reader.specs.declared.costs.Costs.{Costs}

-- what a controller's file says, with the coefficients divided by the leading one and padded
pub record ControllerView : Type 0 where
  pub b : List Ratio
  pub a : List Ratio
  pub sample_time : Ratio
  pub int_bits : ℕ
  pub frac_bits : ℕ
  pub max : Ratio
  pub min : Ratio
  pub delta : Option Ratio
  pub clock : ℕ
  pub costs : Costs
  pub wide : Bool

-- positive, with both parts below 2^62
pub record IsTime (t : Ratio) : Type 0 where
  pub positive : pos 0 <ℤ t.num
  pub small_num : unsigned_abs t.num < time_limit
  pub small_den : t.den < time_limit

-- 1 to 10^12 cycles a second
pub record IsClock (c : ℕ) : Type 0 where
  pub least : 1 ≤ c
  pub greatest : c ≤ greatest_clock

pub record AreCosts (c : Costs) : Type 0 where
  pub sample : c.sample ≤ greatest_cost
  pub mul : c.mul ≤ greatest_cost
  pub add : c.add ≤ greatest_cost
  pub round : c.round ≤ greatest_cost
  pub fit : c.fit ≤ greatest_cost
  pub moves : c.moves ≤ greatest_cost

-- what is true of each controller
pub record IsController (c : ControllerView) : Type 0 where
  pub one_length : length c.b ≡ length c.a
  pub some : 1 ≤ length c.a
  pub few : length c.a ≤ most_coefficients
  pub leading : slice_index_or c.a 0 zero ≡ one
  pub time : IsTime c.sample_time
  pub width : IsLawful c.int_bits c.frac_bits
  pub clock : IsClock c.clock
  pub costs : AreCosts c.costs
