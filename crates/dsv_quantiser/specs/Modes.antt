-- What a controller becomes in words of its own widths.
use Rattle.std.specs.Prelude.{◌≡◌, Result}
use Rattle.dsv_names.specs.declared.design.Design.{Design}
use Rattle.dsv_word.specs.declared.format.Format.{Format}
use Rattle.dsv_reader.specs.Controllers.{ControllerView}
use Rattle.dsv_quantiser.specs.QuantisedView.{QuantisedView}
use Rattle.dsv_quantiser.specs.Quantising.{quantised_of}
use Rattle.dsv_quantiser.specs.declared.refusal.QuantRefusal.{QuantRefusal}

-- In words of its own widths, rounded and fitted as the design says, the controller becomes these
-- as its realisation computes it, or is refused so.
pub record BecomesWords (c : ControllerView) (design : Design)
    (outcome : Result QuantisedView QuantRefusal) : Type 0 where
  pub format : Format
  pub int_bits : format.int_bits ≡ c.int_bits
  pub frac_bits : format.frac_bits ≡ c.frac_bits
  pub rounding : format.rounding ≡ design.rounding
  pub overflow : format.overflow ≡ design.overflow
  pub becomes : quantised_of c format design.realisation ≡ outcome
