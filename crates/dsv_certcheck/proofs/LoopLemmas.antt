-- A table with positive first numbers alone shows that a loop is stable.
use Rattle.std.proofs.Common.{◌≡◌, List, [], ◌∷◌, sym, subst, Ok}
use lib.Signed.{◌<ℤ◌}
use Rattle.std.proofs.Math.IntN.{ℤ, pos}
use Rattle.dsv_algebra.specs.Vectors.{vector_of}
use Rattle.dsv_names.specs.declared.property.Property.{Property}
use Rattle.dsv_names.specs.declared.property.Property.TheVariants as property
use Rattle.dsv_names.specs.declared.property.RootProperty.TheVariants as root
use Rattle.dsv_fraction.specs.Ratio.{Ratio}
use Rattle.dsv_reader.specs.Plants.{PlantView}
use Rattle.dsv_quantiser.specs.QuantisedView.{QuantisedView}
use Rattle.dsv_table.specs.Table.{verdict_of}
use Rattle.dsv_table.specs.declared.verdict.TableVerdict.TheVariants as verdict
use Rattle.dsv_loop.specs.Loops.{loop_of}
use Rattle.dsv_certfile.specs.declared.job.Size.{Size}
use Rattle.dsv_certfile.specs.declared.job.Size.TheVariants as size
use Rattle.dsv_certcheck.specs.Shown.{HasFallingLoop, LoopHas}
use Rattle.dsv_certcheck.proofs.TableLemmas.{inside_falls}

pub falling_loop : (q : QuantisedView) (time : Ratio) (plant : PlantView) (of_job : Property) (s : Size) (poly : List ℤ)
    → of_job ≡ property.OfRoots root.Stability → s ≡ size.OfLoop → loop_of (q ∷ []) time plant ≡ Ok poly → pos 0 <ℤ vector_of poly 0 → verdict_of poly ≡ verdict.Inside → LoopHas q time plant of_job s
falling_loop q time plant of_job s poly e f t lead inside =
    let has : HasFallingLoop q time plant = record { poly = poly; loop = t; falls = inside_falls poly lead inside } in
    subst (λ x. LoopHas q time plant x s) (sym e) (subst (λ y. LoopHas q time plant (property.OfRoots root.Stability) y) (sym f) has)
