-- Serves private contracts: what the code has of a goal, with the terms beside it.
use Rattle.dsv_term.specs.declared.node.TermId.{TermId}
use Rattle.dsv_term.specs.TermsView.{TermsView}
use Rattle.dsv_unroll.specs.declared.cycle.CycleTerms.{CycleTerms as Cycle}
use Rattle.dsv_unroll.specs.declared.facts.KnownTests.{KnownTests}
use Rattle.dsv_unroll.specs.declared.fitting.EndTerms.{EndTerms as Ends}
use Rattle.dsv_unroll.specs.declared.fitting.NodeTerm.{NodeTerm}
use Rattle.dsv_unroll.specs.declared.inputs.InputTerms.{InputTerms as Inputs}
use Rattle.dsv_unroll.specs.declared.nodes.SampleTerms.{SampleTerms as Sample}
use Rattle.dsv_unroll.specs.declared.run.RunTerms.{RunTerms as Run}
use Rattle.dsv_unroll.specs.declared.set_goals.GoalStart.{GoalStart}
use Rattle.dsv_unroll.specs.declared.sets.SumTerm.{SumTerm}
use Rattle.dsv_unroll.specs.declared.states.StateTerms.{StateTerms as States}
use Rattle.dsv_unroll.specs.CycleGoals.{CycleTerms}
use Rattle.dsv_unroll.specs.FactTests.{FactTerms}
use Rattle.dsv_unroll.specs.Goals.{InputTerms, RunTerms, SampleTerms}
use Rattle.dsv_unroll.specs.Rules.{EndTerms, Unrolled}
use Rattle.dsv_unroll.specs.SetGoals.{SetStart, StateTerms, SumTerms}

abbrev pub node_with : TermsView → NodeTerm → Unrolled
node_with t node = record { terms = t; id = node.id; overflowed = node.overflowed }

abbrev pub ends_with : TermsView → Ends → EndTerms
ends_with t ends = record {
  terms = t;
  least = ends.least;
  greatest = ends.greatest;
  below = ends.below;
  above = ends.above;
}

abbrev pub sample_with : TermsView → Sample → SampleTerms
sample_with t sample = record {
  terms = t;
  ids = sample.ids.items;
  overflowed = sample.overflowed;
}

abbrev pub run_with : TermsView → Run → RunTerms
run_with t run = record {
  terms = t;
  registers = run.registers.items;
  overflowed = run.overflowed;
}

abbrev pub inputs_with : TermsView → Inputs → InputTerms
inputs_with t inputs = record {
  terms = t;
  ids = inputs.ids.items;
  tests = inputs.tests.items;
}

abbrev pub known_with : TermsView → KnownTests → FactTerms
known_with t known = record {
  terms = t;
  overflowed = known.overflowed;
  tests = known.tests.items;
}

abbrev pub cycle_with : TermsView → Cycle → CycleTerms
cycle_with t cycle = record {
  terms = t;
  registers = cycle.registers.items;
  sounding = cycle.sounding;
  found = cycle.found;
}

abbrev pub sum_with : TermsView → SumTerm → SumTerms
sum_with t sum = record { terms = t; id = sum.id; bound = sum.bound }

abbrev pub states_with : TermsView → States → StateTerms
states_with t states = record {
  terms = t;
  registers = states.registers.items;
  inside = states.inside.items;
}

-- after a zero in one bit
abbrev pub start_with : TermsView → TermId → GoalStart → SetStart
start_with t zero_bit start = record {
  terms = t;
  zero_bit = zero_bit;
  registers = start.registers.items;
  inputs = start.inputs.items;
  tests = start.tests.items;
}
