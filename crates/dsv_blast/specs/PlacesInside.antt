-- How places of bits are kept.
use Rattle.std.specs.Prelude.{List, length}
use Rattle.dsv_cnf.specs.Literal.{Literal}
use Rattle.dsv_cnf.specs.Pieces.{pieces, AreBounds}
use Rattle.dsv_blast.specs.declared.places.BitPlaces.TheInside.{Inside}

abbrev pub view_of : Inside → List (List Literal)
view_of p = pieces p.literals.items p.bounds.items

pub record IsBitPlaces (p : Inside) : Type 0 where
  pub bounds : AreBounds p.bounds.items (length p.literals.items)
