-- The written equations of a controller as a system that runs in words.
use Rattle.std.specs.Prelude.{List, map, ℤ}
use Rattle.dsv_quantiser.specs.QuantisedView.{QuantisedView}
use Rattle.dsv_system.specs.Runs.{SampleRow}
use Rattle.dsv_system.specs.Systems.{System, rows}
use Rattle.dsv_meaning.specs.Equations.{Past, order, sample, registers_as, start_as}
use Rattle.dsv_meaning.specs.Equations.{registers_of, forward_registers_of}

-- the written equations of a quantised controller
abbrev pub equations_of : QuantisedView → System Past
equations_of q = record {
  start = start_as q.realisation (order q);
  sample = sample q;
  registers = registers_as q.realisation (order q);
  many = registers_of q.realisation (order q);
  forward = forward_registers_of q.realisation (order q);
  format = q.format;
}

-- the outputs of a run from these words in the registers over these inputs
abbrev pub outputs_over : QuantisedView → List ℤ → List ℤ → List ℤ
outputs_over q start inputs = map (λ (r : SampleRow). r.y) (rows (equations_of q) start inputs)
