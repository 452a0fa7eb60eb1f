-- A certificate that was written and is accepted is lawful, with the numbers of its form's places alone, and has the same text.
use Rattle.std.proofs.Common.{◌≡◌, ◌≤◌, ℕ, true, List, length, Option, IfSome, ℤ}
use Rattle.dsv_cnf.specs.FormulaView.{FormulaView}
use Rattle.dsv_hints.specs.Lessons.{IsRefutation}
use Rattle.dsv_hints.specs.declared.step.Step.{Step}
use Rattle.dsv_hints.proofs.AcceptedIds.{accepted_ids}
use Rattle.dsv_forms.specs.OfferLaws.{IsNarrow}
use Rattle.dsv_forms.specs.declared.offers.Falls.{Falls}
use Rattle.dsv_roundoff.specs.declared.offers.RoundoffOffer.{RoundoffOffer}
use Rattle.dsv_template.specs.Candidates.{is_shaped}
use Rattle.dsv_template.specs.declared.candidate.Candidate.{Candidate}
use Rattle.dsv_template.specs.declared.verdict.ThreeLogs.{ThreeLogs}
use Rattle.dsv_certfile.specs.Kinds.{is_kind_of}
use Rattle.dsv_certfile.specs.Lawful.{IsLog, AreLogs, IsRoundoffOffer, IsLawful, certificate_alone}
use Rattle.dsv_certfile.specs.Limits.{most_gain_depth, most_coefficients}
use Rattle.dsv_certfile.specs.Texts.{certificate_text}
use Rattle.dsv_certfile.specs.Typed.{IsTypedLog, IsTyped}
use Rattle.dsv_certfile.specs.declared.certificate.Certificate.TheVariants as certificate
use Rattle.dsv_certfile.specs.declared.job.CertifiedJob.{CertifiedJob}
use Rattle.dsv_certfile.specs.declared.kind.Kind.TheVariants as kind
use Rattle.dsv_certfile.proofs.AloneOffers.{falls_text_alone, offer_is_lawful}
use Rattle.dsv_certfile.proofs.TypedParts.{log_is_lawful, set_is_lawful}

-- ---- logs
refutation_is_lawful : (f : FormulaView) (conflicts : ℕ) (log : List Step) → IsTypedLog log → IsRefutation f conflicts log → IsLog log
refutation_is_lawful f conflicts log t r = log_is_lawful log t (accepted_ids f log r.accepted r.additions)

pub hints_are_lawful : (f : FormulaView) (conflicts : ℕ) (job : CertifiedJob) (log : List Step) → is_kind_of job kind.Hints ≡ true → IsTyped (certificate.Hints job log) → IsRefutation f conflicts log
    → IsLawful (certificate.Hints job log)
hints_are_lawful f conflicts job log b t r = (record { size = t.size; words = t.words; belongs = b }, refutation_is_lawful f conflicts log t.body r)

-- ---- an invariant
-- each log refutes a formula
pub record AreRefutations (base step safe : FormulaView) (conflicts : ℕ) (logs : ThreeLogs) : Type 0 where
  pub of_base : IsRefutation base conflicts logs.base
  pub of_step : IsRefutation step conflicts logs.step
  pub of_safe : IsRefutation safe conflicts logs.safe

pub invariant_is_lawful : (registers conflicts : ℕ) (base step safe : FormulaView) (job : CertifiedJob) (candidate : Candidate) (logs : ThreeLogs) → is_kind_of job kind.Invariant ≡ true
    → IsTyped (certificate.Invariant job candidate logs) → is_shaped registers candidate ≡ true → AreRefutations base step safe conflicts logs → IsLawful (certificate.Invariant job candidate logs)
invariant_is_lawful registers conflicts base step safe job candidate logs b t shaped r =
    let are : AreLogs logs = record {
      base = refutation_is_lawful base conflicts logs.base t.body.1.base r.of_base;
      step = refutation_is_lawful step conflicts logs.step t.body.1.step r.of_step;
      safe = refutation_is_lawful safe conflicts logs.safe t.body.1.safe r.of_safe;
    } in
    (record { size = t.size; words = t.words; belongs = b }, set_is_lawful registers candidate t.body.0 shaped, are)

-- ---- a gain
pub gain_is_lawful : (job : CertifiedJob) (depth : ℕ) (offer : Option RoundoffOffer) → is_kind_of job kind.Gain ≡ true → IsTyped (certificate.Gain job depth offer) → depth ≤ most_gain_depth
    → IfSome offer IsRoundoffOffer → IsLawful (certificate.Gain job depth offer)
gain_is_lawful job depth offer b t h o = (record { size = t.size; words = t.words; belongs = b }, h, o)

-- ---- a form that falls
pub falls_are_lawful : (job : CertifiedJob) (offer : Falls) → is_kind_of job kind.Falls ≡ true → IsTyped (certificate.Falls job offer) → IsNarrow offer → IsLawful (certificate_alone (certificate.Falls job offer))
falls_are_lawful job offer b t n = (record { size = t.size; words = t.words; belongs = b }, offer_is_lawful offer t.body t.places n)

pub falls_text : (job : CertifiedJob) (offer : Falls) → IsTyped (certificate.Falls job offer) → IsNarrow offer → certificate_text (certificate_alone (certificate.Falls job offer)) ≡ certificate_text (certificate.Falls job offer)
falls_text job offer t n = falls_text_alone job offer t.body t.places n

-- ---- a table
pub table_is_lawful : (job : CertifiedJob) (cs : List ℤ) → is_kind_of job kind.Table ≡ true → IsTyped (certificate.Table job cs) → 1 ≤ length cs → length cs ≤ most_coefficients
    → IsLawful (certificate.Table job cs)
table_is_lawful job cs b t some few = (record { size = t.size; words = t.words; belongs = b }, some, few)
