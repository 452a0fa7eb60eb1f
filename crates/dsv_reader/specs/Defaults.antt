-- What holds where a file doesn't say it.
use Rattle.std.specs.Prelude.{ℕ, false, List, None}
use Rattle.dsv_fraction.specs.Ratio.{Ratio, one}
use Rattle.dsv_word.specs.declared.format.Format.{Format}
use Rattle.dsv_reader.specs.declared.costs.Costs.{Costs}
use Rattle.dsv_reader.specs.Controllers.{ControllerView}

-- 16 MHz
abbrev pub default_clock : ℕ
default_clock = 16000000

abbrev pub default_costs : Costs
default_costs = record { sample = 10; mul = 4; add = 1; round = 1; fit = 1; moves = 2 }

-- The controller with these coefficients, the widths of this format and this range, of which a file
-- says no more; its sample time is 1.
abbrev pub default_controller : List Ratio → List Ratio → Format → Ratio → Ratio → ControllerView
default_controller b a format min max = record {
  b = b;
  a = a;
  sample_time = one;
  int_bits = format.int_bits;
  frac_bits = format.frac_bits;
  max = max;
  min = min;
  delta = None;
  clock = default_clock;
  costs = default_costs;
  wide = false;
}
