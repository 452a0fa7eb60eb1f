-- What the check of a certificate finds for a controller's words in a loop with a plant.
use Rattle.std.specs.Prelude.{List, [], ◌∷◌, Result, Ok, Err, ℤ}
use Rattle.dsv_names.specs.declared.property.Property.{Property}
use Rattle.dsv_names.specs.declared.property.Property.TheVariants as property
use Rattle.dsv_names.specs.declared.property.RootProperty.TheVariants as root
use Rattle.dsv_fraction.specs.Ratio.{Ratio}
use Rattle.dsv_reader.specs.Plants.{PlantView}
use Rattle.dsv_quantiser.specs.QuantisedView.{QuantisedView}
use Rattle.dsv_loop.specs.Loops.{loop_of}
use Rattle.dsv_loop.specs.declared.refusal.LoopRefusal.{LoopRefusal}
use Rattle.dsv_certfile.specs.Texts.{job_of}
use Rattle.dsv_certfile.specs.declared.certificate.Certificate.{Certificate}
use Rattle.dsv_certfile.specs.declared.certificate.Certificate.TheVariants as certificate
use Rattle.dsv_certfile.specs.declared.job.CertWords.{CertWords}
use Rattle.dsv_certfile.specs.declared.job.Size.{Size}
use Rattle.dsv_certfile.specs.declared.job.Size.TheVariants as size
use Rattle.dsv_certcheck.specs.Checks.{Checked, misfit, table_check}
use Rattle.dsv_certcheck.specs.declared.check_refusal.CheckRefusal.TheVariants as refusal

-- ---- a table
-- what the check of a table finds for the loop's polynomial, if there is one
abbrev pub polynomial_check : CertWords → Result (List ℤ) LoopRefusal → List ℤ → Checked
polynomial_check w (Ok c) coefficients = table_check w c coefficients
polynomial_check w (Err why) coefficients = Err (refusal.Loop why)

-- of words that run with this sample time; no other property is one of a loop
abbrev pub loop_check : CertWords → QuantisedView → Ratio → PlantView → Property → Size → List ℤ
    → Checked
loop_check w q time plant (property.OfRoots root.Stability) size.OfLoop coefficients =
    polynomial_check w (loop_of (q ∷ []) time plant) coefficients
loop_check w q time plant p s coefficients = misfit w

-- ---- certificates
-- for a quantised controller; no other kind shows a property of a loop
abbrev pub words_loop_check : QuantisedView → Ratio → PlantView → Certificate → Checked
words_loop_check q time plant (certificate.Table job coefficients) =
    loop_check job.words q time plant job.property job.size coefficients
words_loop_check q time plant other = misfit (job_of other).words
