use Rattle.std.proofs.Common.{List, sym, subst}
use Rattle.dsv_term.specs.declared.node.TermId.{TermId}
use Rattle.dsv_unroll.specs.Ready.{AreBits}
use Rattle.dsv_unroll.proofs.SampleSteps.{bits_later}
use Rattle.dsv_unroll.proofs.unroller.Unroller.base_break.Goals as goal

pub conjunction-requires-clause-first : goal.conjunction-requires-clause-first
conjunction-requires-clause-first c = let m = c.in_ok-whole.ensures.made in record { stands = m.stands; width = m.width }

pub conjunction-requires-clause-tests : goal.conjunction-requires-clause-tests
conjunction-requires-clause-tests c =
    let t = c.states_of.new.terms in
    let u = c.constant.new.self in
    let inside = c.in_ok-states.states.inside.items in
    subst (λ (ids : List TermId). AreBits u ids) (sym c.deref.ensures.value) (bits_later t u inside c.in_ok-whole.ensures.made.kept c.in_ok-states.ensures.ready.inside_bits)

pub not-requires : goal.not-requires
not-requires c = c.in_ok-all.ensures.bit.stands
