-- A trail of the tests alone, worked out by hand.
use Rattle.std.specs.Prelude.{[], ◌∷◌, Some, None, true}
use Rattle.dsv_trail.specs.TrailView.{TrailView}

-- two decisions, and a literal that clause 0 implies
abbrev pub worked : TrailView
worked = record {
  vars = 3;
  marks = record { literal = record { var = 2; positive = true }; level = 1; reason = None }
      ∷ record { literal = record { var = 0; positive = true }; level = 2; reason = None }
      ∷ record { literal = record { var = 1; positive = true }; level = 2; reason = Some 0 }
      ∷ [];
  limits = 0 ∷ 1 ∷ [];
}
