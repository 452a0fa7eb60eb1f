-- What proposers are told of a quantised controller.
use Rattle.std.specs.Prelude.{ℕ}
use Rattle.dsv_names.specs.declared.realisation.Realisation.{Realisation}
use Rattle.dsv_names.specs.declared.realisation.Realisation.TheVariants as realisation
use Rattle.dsv_meaning.specs.Equations.{order, registers_of}
use Rattle.dsv_quantiser.specs.QuantisedView.{QuantisedView}
use Rattle.dsv_template.specs.declared.shape.Shape.{Shape}
use Rattle.dsv_word.specs.Words.{width, lo, hi}

-- how many of the first registers hold earlier inputs: only those of direct form I do
abbrev pub past_inputs_of : Realisation → ℕ → ℕ
past_inputs_of realisation.Dfi order = order
past_inputs_of other order = 0

-- the registers of the controller, the ends of its words and the range of its inputs
abbrev pub shape_of : QuantisedView → Shape
shape_of q = record {
  registers = registers_of q.realisation (order q);
  past_inputs = past_inputs_of q.realisation (order q);
  lo = lo (width q.format);
  hi = hi (width q.format);
  xlo = q.xlo;
  xhi = q.xhi;
}
