-- Names: A property of controllers.
use Rattle.std.specs.Prelude.{ℕ, List, [], ◌∷◌, codes}
use Rattle.dsv_names.specs.declared.property.RunProperty.TheVariants as run
use Rattle.dsv_names.specs.declared.property.RootProperty.TheVariants as root
use Rattle.dsv_names.specs.declared.property.Property.{Property}
use Rattle.dsv_names.specs.declared.property.Property.TheVariants as property

abbrev pub property_name : Property → List ℕ
property_name (property.OfRuns run.Overflow) = codes "OVERFLOW"
property_name (property.OfRuns run.LimitCycle) = codes "LIMIT_CYCLE"
property_name (property.OfRoots root.Stability) = codes "STABILITY"
property_name (property.OfRoots root.MinimumPhase) = codes "MINIMUM_PHASE"
property_name property.Timing = codes "TIMING"

abbrev pub properties : List Property
properties =
    property.OfRuns run.Overflow ∷
    property.OfRuns run.LimitCycle ∷
    property.OfRoots root.Stability ∷
    property.OfRoots root.MinimumPhase ∷
    property.Timing ∷ []
