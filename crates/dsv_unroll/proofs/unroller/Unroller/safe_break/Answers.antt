use Rattle.std.proofs.Common.{List, ◌∙◌, sym, subst}
use Rattle.dsv_term.specs.declared.node.TermId.{TermId}
use Rattle.dsv_unroll.specs.Ready.{AreRunReady}
use Rattle.dsv_unroll.proofs.SetBreaks.{run_ready}
use Rattle.dsv_unroll.proofs.unroller.Unroller.safe_break.Goals as goal

pub run_terms-requires-clause-ready : goal.run_terms-requires-clause-ready
run_terms-requires-clause-ready c =
    let net = c.args.self.now.net.now in
    let start = c.args.start.now in
    let u = c.set_term.new.terms in
    let a = c.in_ok-inside.ensures.adds in
    let r = run_ready net c.args.terms.now u c.args.self.now.zero_bit start.registers.items start.inputs.items c.requires.ready.states c.requires.ready.inputs_stand a.sound a.kept in
    let registers = c.in_ok-registers.ensures.items ∙ c.deref-2.ensures.value in
    subst (λ (ids : List TermId). AreRunReady net ids c.deref-3.result.now u c.args.self.now.zero_bit) (sym registers) (subst (λ (ids : List TermId). AreRunReady net start.registers.items ids u c.args.self.now.zero_bit) (sym c.deref-3.ensures.value) r)
