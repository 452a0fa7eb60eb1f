use Rattle.std.proofs.Common.{arith, ap, length, List}
use Rattle.dsv_cnf.specs.Literal.{Literal}
use Rattle.dsv_cnf.proofs.PieceLemmas.{length-pieces}
use Rattle.dsv_blast.proofs.places.BitPlaces.len.Goals as goal

pub returns : goal.returns
returns c = omega (arith, length-pieces c.self.inside.literals.items c.self.inside.bounds.items, ap (λ (ps : List (List Literal)). length ps) c.self.view_is)
