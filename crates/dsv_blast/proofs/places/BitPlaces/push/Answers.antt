use Rattle.std.proofs.Common.{arith, ap, length, List, ◌≡◌, ◌++◌, ◌∷◌, [], ◌∙◌}
use Rattle.dsv_cnf.proofs.PieceLemmas.{pushed}
use Rattle.dsv_cnf.specs.Literal.{Literal}
use Rattle.dsv_blast.proofs.places.BitPlaces.push.Goals as goal

pub invariant_of-self-2 : goal.invariant_of-self-2
invariant_of-self-2 c =
    let literals = c.in_ok-extend_from_slice.ensures.items in
    let bounds = rw c.in_ok-reserve.ensures.items at c.push_reserved.ensures.items in
    let end : c.len.result ≡ length c.extend_from_slice.new.self.items = omega arith in
    record { bounds = (pushed c.self.inside.literals.items c.args.bits.now _ c.self.inside.bounds.items _ c.len.result literals bounds end c.self.invariant.bounds).rise }

pub returns : goal.returns
returns c =
    let literals = c.in_ok-extend_from_slice.ensures.items in
    let bounds = rw c.in_ok-reserve.ensures.items at c.push_reserved.ensures.items in
    let end : c.len.result ≡ length c.extend_from_slice.new.self.items = omega arith in
    let more = pushed c.self.inside.literals.items c.args.bits.now _ c.self.inside.bounds.items _ c.len.result literals bounds end c.self.invariant.bounds in
    more.view ∙ ap (λ (ps : List (List Literal)). ps ++ c.args.bits.now ∷ []) c.self.view_is
