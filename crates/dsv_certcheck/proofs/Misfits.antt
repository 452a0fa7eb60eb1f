-- Each check refuses the certificates that are for the other.
use Rattle.std.proofs.Common.{◌≡◌, ◌∙◌, ℕ, List, Option, ℤ, ap, refl}
use Rattle.dsv_names.specs.declared.property.Property.{Property}
use Rattle.dsv_names.specs.declared.property.Property.TheVariants as property
use Rattle.dsv_names.specs.declared.property.RunProperty.TheVariants as run
use Rattle.dsv_names.specs.declared.property.RootProperty.TheVariants as root
use Rattle.dsv_fraction.specs.Ratio.{Ratio}
use Rattle.dsv_reader.specs.Plants.{PlantView}
use Rattle.dsv_quantiser.specs.QuantisedView.{QuantisedView}
use Rattle.dsv_hints.specs.declared.step.Step.{Step}
use Rattle.dsv_forms.specs.declared.offers.Falls.{Falls}
use Rattle.dsv_roundoff.specs.declared.offers.RoundoffOffer.{RoundoffOffer}
use Rattle.dsv_template.specs.declared.candidate.Candidate.{Candidate}
use Rattle.dsv_template.specs.declared.verdict.ThreeLogs.{ThreeLogs}
use Rattle.dsv_certfile.specs.declared.certificate.Certificate.TheVariants as certificate
use Rattle.dsv_certfile.specs.declared.job.CertWords.{CertWords}
use Rattle.dsv_certfile.specs.declared.job.Size.{Size}
use Rattle.dsv_certfile.specs.declared.job.Size.TheVariants as size
use Rattle.dsv_certcheck.specs.Checks.{misfit, hints_check, invariant_check, gain_check, falls_check, roots_table_check}
use Rattle.dsv_certcheck.specs.LoopChecks.{loop_check}
use Rattle.dsv_certcheck.specs.Laws.{LoopsMisfitAlone, OthersMisfitLoops}

-- ---- where no plant stands beside the controller
hints_of_loop : (w : CertWords) (q : QuantisedView) (p : Property) (log : List Step) → hints_check w q p size.OfLoop log ≡ misfit w
hints_of_loop w q (property.OfRuns p) log = refl
hints_of_loop w q p log = refl

invariant_of_loop : (w : CertWords) (q : QuantisedView) (p : Property) (candidate : Candidate) (logs : ThreeLogs) → invariant_check w q p size.OfLoop candidate logs ≡ misfit w
invariant_of_loop w q (property.OfRuns run.Overflow) candidate logs = refl
invariant_of_loop w q p candidate logs = refl

gain_of_loop : (w : CertWords) (q : QuantisedView) (p : Property) (depth : ℕ) (offer : Option RoundoffOffer) → gain_check w q p size.OfLoop depth offer ≡ misfit w
gain_of_loop w q (property.OfRuns run.Overflow) depth offer = refl
gain_of_loop w q p depth offer = refl

falls_of_loop : (w : CertWords) (q : QuantisedView) (p : Property) (offer : Falls) → falls_check w q p size.OfLoop offer ≡ misfit w
falls_of_loop w q (property.OfRoots p) offer = refl
falls_of_loop w q p offer = refl

roots_table_of_loop : (w : CertWords) (q : QuantisedView) (p : Property) (coefficients : List ℤ) → roots_table_check w q p size.OfLoop coefficients ≡ misfit w
roots_table_of_loop w q (property.OfRoots p) coefficients = refl
roots_table_of_loop w q p coefficients = refl

pub loops_misfit_alone : LoopsMisfitAlone
loops_misfit_alone q (certificate.Hints job log) e = ap (λ s. hints_check job.words q job.property s log) e ∙ hints_of_loop job.words q job.property log
loops_misfit_alone q (certificate.Invariant job candidate logs) e =
    ap (λ s. invariant_check job.words q job.property s candidate logs) e ∙ invariant_of_loop job.words q job.property candidate logs
loops_misfit_alone q (certificate.Gain job depth offer) e =
    ap (λ s. gain_check job.words q job.property s depth offer) e ∙ gain_of_loop job.words q job.property depth offer
loops_misfit_alone q (certificate.Falls job offer) e = ap (λ s. falls_check job.words q job.property s offer) e ∙ falls_of_loop job.words q job.property offer
loops_misfit_alone q (certificate.Table job coefficients) e =
    ap (λ s. roots_table_check job.words q job.property s coefficients) e ∙ roots_table_of_loop job.words q job.property coefficients

-- ---- where one does
table_of_none : (w : CertWords) (q : QuantisedView) (time : Ratio) (plant : PlantView) (p : Property) (s : Size) (coefficients : List ℤ) → (s ≡ size.OfLoop → ⊥)
    → loop_check w q time plant p s coefficients ≡ misfit w
table_of_none w q time plant (property.OfRoots root.Stability) size.OfLoop coefficients h = absurd (h refl)
table_of_none w q time plant p s coefficients h = refl

pub others_misfit_loops : OthersMisfitLoops
others_misfit_loops q time plant (certificate.Table job coefficients) h = table_of_none job.words q time plant job.property job.size coefficients h
others_misfit_loops q time plant other h = refl
