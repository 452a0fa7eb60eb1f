use Rattle.std.proofs.Common.{◌≡◌, rules}
use Rattle.dsv_unroll.specs.SetGoals.{SetStart, set_start}
use Rattle.dsv_unroll.proofs.SetStarts.{set_started}
use Rattle.dsv_unroll.proofs.unroller.Unroller.set_start.Goals as goal

pub returns-clause-ready : goal.returns-clause-ready
returns-clause-ready c =
    let a = c.args in
    let s : SetStart = record { terms = c.input_terms.new.terms; zero_bit = a.self.now.zero_bit; registers = c.in_ok-registers.registers.items; inputs = c.in_ok-inputs.inputs.ids.items; tests = c.in_ok-inputs.inputs.tests.items } in
    let e : s ≡ set_start a.self.now.net.now a.range.now.low a.range.now.high a.samples a.part = search rules in
    (set_started a.self.now.net.now a.range.now.low a.range.now.high a.samples a.part s c.requires.low c.requires.high e).ready

pub returns-clause-count : goal.returns-clause-count
returns-clause-count c =
    let a = c.args in
    let s : SetStart = record { terms = c.input_terms.new.terms; zero_bit = a.self.now.zero_bit; registers = c.in_ok-registers.registers.items; inputs = c.in_ok-inputs.inputs.ids.items; tests = c.in_ok-inputs.inputs.tests.items } in
    let e : s ≡ set_start a.self.now.net.now a.range.now.low a.range.now.high a.samples a.part = search rules in
    (set_started a.self.now.net.now a.range.now.low a.range.now.high a.samples a.part s c.requires.low c.requires.high e).count
