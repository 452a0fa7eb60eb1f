-- Serves private contracts: the numbers that the level and the bound are tested by.
use Rattle.std.specs.Prelude.{not, int_lt, List, [], ◌∷◌, ◌++◌, pos, ◌*ℤ◌}
use Rattle.dsv_quantiser.specs.QuantisedView.{QuantisedView}
use Rattle.dsv_certfile.specs.declared.ellipsoid.Ellipsoid.{Ellipsoid}
use Rattle.dsv_ellipsoid.specs.declared.refusal.EllipsoidRefusal.TheVariants as refusal
use Rattle.dsv_ellipsoid.specs.declared.sizes.Sizes.{Sizes}
use Rattle.dsv_ellipsoid.specs.Disturbance.{greatest_disturbance}
use Rattle.dsv_ellipsoid.specs.Refusals.{Test, noise, level_after, level_before, square_past}
use Rattle.dsv_ellipsoid.specs.Refusals.{wide_test, disturbance_limit}

-- the tests in the parts in which the code has them
abbrev pub noise_tests : QuantisedView → Ellipsoid → List Test
noise_tests q o =
    (not (int_lt (greatest_disturbance q) (pos disturbance_limit)), refusal.Wide 0)
    ∷ wide_test (greatest_disturbance q *ℤ greatest_disturbance q) 1
    ∷ wide_test (noise q o) 1 ∷ []

abbrev pub after_tests : QuantisedView → Ellipsoid → List Test
after_tests q o = noise_tests q o
    ++ wide_test (o.lambda *ℤ o.level) 2 ∷ wide_test (level_after q o) 3 ∷ []

abbrev pub limit_tests : Ellipsoid → List Test
limit_tests o = wide_test (square_past o) 6 ∷ wide_test (o.kappa *ℤ square_past o) 6 ∷ []

abbrev pub sizes_of : QuantisedView → Ellipsoid → Sizes
sizes_of q o = record {
  before = level_before q o;
  after = level_after q o;
  reach = o.nu *ℤ o.level;
  limit = o.kappa *ℤ square_past o;
}
