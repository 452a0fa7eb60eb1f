use Rattle.std.proofs.Common.{◌∙◌, ap, sym, subst, length, List}
use Rattle.dsv_term.specs.declared.node.TermId.{TermId}
use Rattle.dsv_unroll.specs.CycleGoals.{StartTerms}
use Rattle.dsv_unroll.specs.Ready.{AreAllValues, AreCycleReady}
use Rattle.dsv_unroll.proofs.CycleGoal.{cycle_started}
use Rattle.dsv_unroll.proofs.cycle.cycle_root.Goals as goal

pub found_term-requires-clause-ready : goal.found_term-requires-clause-ready
found_term-requires-clause-ready c =
    let net = c.args.net.now in
    let zero_bit = c.in_ok-zero_bit.zero_bit in
    let s : StartTerms = record { terms = c.start_terms.new.terms; ids = c.in_ok-starts.starts.items } in
    let a = cycle_started net c.args.terms.now c.constant.new.self zero_bit s c.requires.netlist c.requires.empty c.in_ok-zero_bit.ensures.made.built c.in_ok-starts.ensures in
    let same = c.in_ok-from_slice.ensures.items ∙ c.deref.ensures.value in
    subst (λ (ids : List TermId). AreCycleReady net c.start_terms.new.terms zero_bit ids zero_bit zero_bit) (sym same) a.ready

pub found_term-requires-clause-starts : goal.found_term-requires-clause-starts
found_term-requires-clause-starts c =
    let net = c.args.net.now in
    let zero_bit = c.in_ok-zero_bit.zero_bit in
    let s : StartTerms = record { terms = c.start_terms.new.terms; ids = c.in_ok-starts.starts.items } in
    let a = cycle_started net c.args.terms.now c.constant.new.self zero_bit s c.requires.netlist c.requires.empty c.in_ok-zero_bit.ensures.made.built c.in_ok-starts.ensures in
    subst (λ (ids : List TermId). AreAllValues c.start_terms.new.terms ids) (sym c.deref-2.ensures.value) a.stand

pub found_term-requires-clause-count : goal.found_term-requires-clause-count
found_term-requires-clause-count c =
    let net = c.args.net.now in
    let zero_bit = c.in_ok-zero_bit.zero_bit in
    let s : StartTerms = record { terms = c.start_terms.new.terms; ids = c.in_ok-starts.starts.items } in
    let a = cycle_started net c.args.terms.now c.constant.new.self zero_bit s c.requires.netlist c.requires.empty c.in_ok-zero_bit.ensures.made.built c.in_ok-starts.ensures in
    ap length c.deref-2.ensures.value ∙ a.count
