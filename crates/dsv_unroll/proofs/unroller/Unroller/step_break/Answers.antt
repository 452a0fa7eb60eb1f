use Rattle.std.proofs.Common.{◌∙◌, sym, subst, arith}
use Rattle.std.proofs.lemmas.List.{get_or_read}
use Rattle.dsv_term.specs.declared.node.TermId.{TermId}
use Rattle.dsv_term.specs.Terms.{HasBits}
use Rattle.dsv_unroll.proofs.unroller.Unroller.step_break.Goals as goal

pub not-requires : goal.not-requires
not-requires c =
    let inside = c.in_ok-states.states.inside.items in
    let depth = c.args.candidate.now.depth in
    let e = c.in_ok-states.ensures in
    let same = get_or_read inside depth c.index.result.now (omega (arith, e.count, c.requires.count)) c.index.ensures (record { 0 = 0 }) in
    (subst (λ (id : TermId). HasBits c.states_of.new.terms id 1) (sym same) (e.ready.inside_bits.stand depth (omega (arith, e.count, c.requires.count)))).stands

pub conjunction-requires-clause-first : goal.conjunction-requires-clause-first
conjunction-requires-clause-first c =
    let inside = c.in_ok-states.states.inside.items in
    let depth = c.args.candidate.now.depth in
    let e = c.in_ok-states.ensures in
    let m = c.in_ok-left.ensures.made in
    let same = get_or_read inside depth c.index.result.now (omega (arith, e.count, c.requires.count)) c.index.ensures (record { 0 = 0 }) in
    let bit = subst (λ (id : TermId). HasBits c.states_of.new.terms id 1) (sym same) (e.ready.inside_bits.stand depth (omega (arith, e.count, c.requires.count))) in
    record { stands = m.stands; width = m.width ∙ bit.width }
