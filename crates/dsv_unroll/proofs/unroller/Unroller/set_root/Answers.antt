use Rattle.std.proofs.Common.{ℕ, List, ◌∙◌, ap, sym, subst}
use Rattle.dsv_term.specs.declared.node.TermId.{TermId}
use Rattle.dsv_unroll.specs.Beside.{start_with}
use Rattle.dsv_unroll.specs.Ready.{AreBits}
use Rattle.dsv_unroll.specs.SetGoals.{set_start}
use Rattle.dsv_unroll.proofs.SetGoal.{root_ready}
use Rattle.dsv_unroll.proofs.unroller.Unroller.set_root.Goals as goal

pub conjunction-requires-clause-first : goal.conjunction-requires-clause-first
conjunction-requires-clause-first c =
    let a = c.args in
    let e = c.in_ok-start.ensures.built ∙ ap (λ (samples : ℕ). set_start a.self.now.net.now a.range.now.low a.range.now.high samples a.part) c.samples_of-samples.ensures in
    (root_ready a.self.now.net.now a.range.now.low a.range.now.high a.candidate.now a.part (start_with c.set_start.new.terms a.self.now.zero_bit c.in_ok-start.start) c.break_of.new.terms c.in_ok-broken.broken c.requires.netlist c.requires.low c.requires.high c.requires.shaped e c.in_ok-broken.ensures).bit

pub conjunction-requires-clause-tests : goal.conjunction-requires-clause-tests
conjunction-requires-clause-tests c =
    let a = c.args in
    let e = c.in_ok-start.ensures.built ∙ ap (λ (samples : ℕ). set_start a.self.now.net.now a.range.now.low a.range.now.high samples a.part) c.samples_of-samples.ensures in
    let r = root_ready a.self.now.net.now a.range.now.low a.range.now.high a.candidate.now a.part (start_with c.set_start.new.terms a.self.now.zero_bit c.in_ok-start.start) c.break_of.new.terms c.in_ok-broken.broken c.requires.netlist c.requires.low c.requires.high c.requires.shaped e c.in_ok-broken.ensures in
    subst (λ (ids : List TermId). AreBits c.break_of.new.terms ids) (sym c.deref.ensures.value) r.tests_bits
