use Rattle.std.proofs.Common.{arith, ap, length, List, [], sym, ◌∙◌, ◌+◌, ◌<◌}
use Rattle.std.specs.Prelude.{slice_range}
use Rattle.dsv_cnf.specs.Literal.{Literal}
use Rattle.dsv_cnf.specs.Pieces.{pieces}
use Rattle.dsv_cnf.proofs.PieceLemmas.{length-pieces, bounds-piece, got}
use Rattle.dsv_blast.specs.Blast.{bits_at}
use Rattle.dsv_blast.proofs.places.BitPlaces.at.Goals as goal

pub index-requires : goal.index-requires
index-requires c = omega (arith, length-pieces c.self.inside.literals.items c.self.inside.bounds.items, ap (λ (ps : List (List Literal)). length ps) c.self.view_is)

pub index-requires-2 : goal.index-requires-2
index-requires-2 c = omega (arith, length-pieces c.self.inside.literals.items c.self.inside.bounds.items, ap (λ (ps : List (List Literal)). length ps) c.self.view_is)

pub piece-requires : goal.piece-requires
piece-requires c =
    let few : c.args.i + 1 < length c.self.inside.bounds.items = omega (arith, length-pieces c.self.inside.literals.items c.self.inside.bounds.items, ap (λ (ps : List (List Literal)). length ps) c.self.view_is) in
    let p = bounds-piece c.self.inside.literals.items c.self.inside.bounds.items c.args.i c.index.result.now c.index-2.result.now c.self.invariant.bounds few c.index.ensures c.index-2.ensures in
    record { order = p.order; inside = rw c.as_slice.ensures.value p.inside }

pub returns : goal.returns
returns c =
    let few : c.args.i + 1 < length c.self.inside.bounds.items = omega (arith, length-pieces c.self.inside.literals.items c.self.inside.bounds.items, ap (λ (ps : List (List Literal)). length ps) c.self.view_is) in
    let p = bounds-piece c.self.inside.literals.items c.self.inside.bounds.items c.args.i c.index.result.now c.index-2.result.now c.self.invariant.bounds few c.index.ensures c.index-2.ensures in
    let g = got (pieces c.self.inside.literals.items c.self.inside.bounds.items) c.args.i (slice_range c.self.inside.literals.items c.index.result.now c.index-2.result.now) [] p.at in
    c.piece.ensures ∙ (ap (λ (ls : List Literal). slice_range ls c.index.result.now c.index-2.result.now) c.as_slice.ensures.value ∙ (sym g.1 ∙ ap (λ (ps : List (List Literal)). bits_at ps c.args.i) c.self.view_is))
