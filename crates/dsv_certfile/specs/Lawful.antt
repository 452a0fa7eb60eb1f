-- The certificates that texts spell: all numbers are in the ranges of the text, job and kind belong
-- together, and the places that the text doesn't write hold 0.
use Rattle.std.specs.Prelude.{◌≡◌, ℕ, ◌+◌, ◌≤◌, true, List, length, take, ℤ, IfSome}
use Rattle.std.specs.Int.RustNames.{unsigned_abs}
use Rattle.std.specs.List.{All}
use Rattle.dsv_cnf.specs.Literal.{Literal}
use Rattle.dsv_hints.specs.declared.step.Step.{Step}
use Rattle.dsv_hints.specs.declared.step.Step.TheVariants.{Add, Delete}
use Rattle.dsv_forms.specs.Padded.{corner, form_with, squares_with, offer_alone}
use Rattle.dsv_forms.specs.declared.offers.Form.{Form}
use Rattle.dsv_forms.specs.declared.offers.Squares.{Squares}
use Rattle.dsv_forms.specs.declared.offers.Falls.{Falls}
use Rattle.dsv_roundoff.specs.declared.offers.RoundoffOffer.{RoundoffOffer}
use Rattle.dsv_roundoff.specs.declared.offers.WordRange.{WordRange}
use Rattle.dsv_template.specs.declared.candidate.Candidate.{Candidate}
use Rattle.dsv_template.specs.declared.candidate.Inequality.{Inequality}
use Rattle.dsv_template.specs.declared.verdict.ThreeLogs.{ThreeLogs}
use Rattle.dsv_certfile.specs.Kinds.{is_kind_of}
use Rattle.dsv_certfile.specs.Limits.{greatest_whole, greatest_entry, greatest_id, greatest_literal}
use Rattle.dsv_certfile.specs.Limits.{greatest_int_bits, greatest_frac_bits}
use Rattle.dsv_certfile.specs.Limits.{greatest_depth, most_samples, most_places, most_squares}
use Rattle.dsv_certfile.specs.Limits.{most_inequality_numbers, most_gain_depth, most_box_ranges}
use Rattle.dsv_certfile.specs.Limits.{most_coefficients}
use Rattle.dsv_template.specs.Limits.{most_inequalities}
use Rattle.dsv_certfile.specs.declared.certificate.Certificate.{Certificate}
use Rattle.dsv_certfile.specs.declared.certificate.Certificate.TheVariants as certificate
use Rattle.dsv_certfile.specs.declared.job.CertWords.{CertWords}
use Rattle.dsv_certfile.specs.declared.job.CertWords.TheVariants as words
use Rattle.dsv_certfile.specs.declared.job.CertifiedJob.{CertifiedJob}
use Rattle.dsv_certfile.specs.declared.job.Size.{Size}
use Rattle.dsv_certfile.specs.declared.job.Size.TheVariants as size
use Rattle.dsv_certfile.specs.declared.kind.Kind.{Kind}
use Rattle.dsv_certfile.specs.declared.kind.Kind.TheVariants as kind

-- ---- jobs
abbrev pub IsSize : Size → Type 0
IsSize size.NoSize = Unit {0}
IsSize (size.Samples k) = (1 ≤ k) × (k ≤ most_samples)
IsSize size.Unbounded = Unit {0}
IsSize size.OfLoop = Unit {0}

abbrev pub IsWords : CertWords → Type 0
IsWords words.Unsaid = Unit {0}
IsWords (words.Said int_bits frac_bits) = (1 ≤ int_bits) × (int_bits ≤ greatest_int_bits)
    × (frac_bits ≤ greatest_frac_bits)

-- the job is one of this kind
pub record IsJobOf (k : Kind) (job : CertifiedJob) : Type 0 where
  pub size : IsSize job.size
  pub words : IsWords job.words
  pub belongs : is_kind_of job k ≡ true

-- ---- logs
abbrev pub IsId : ℕ → Type 0
IsId id = (1 ≤ id) × (id ≤ greatest_id)

abbrev pub IsLiteral : Literal → Type 0
IsLiteral l = l.var + 1 ≤ greatest_literal

abbrev pub IsStep : Step → Type 0
IsStep (Add id lits hints) = IsId id × All IsLiteral lits × All IsId hints
IsStep (Delete id ids) = IsId id × All IsId ids

abbrev pub IsLog : List Step → Type 0
IsLog = All IsStep

-- ---- an invariant
abbrev pub IsEntry : ℤ → Type 0
IsEntry z = unsigned_abs z ≤ greatest_entry

pub record IsInequality (i : Inequality) : Type 0 where
  pub few : length i.coefficients.items + 1 ≤ most_inequality_numbers
  pub coefficients : All IsEntry i.coefficients.items
  pub bound : IsEntry i.bound

pub record IsSet (candidate : Candidate) : Type 0 where
  pub depth : candidate.depth ≤ greatest_depth
  pub few : length candidate.inequalities.items ≤ most_inequalities
  pub inequalities : All IsInequality candidate.inequalities.items

pub record AreLogs (logs : ThreeLogs) : Type 0 where
  pub base : IsLog logs.base
  pub step : IsLog logs.step
  pub safe : IsLog logs.safe

-- ---- how far outputs are from those of exact runs
-- the least and the greatest difference of a register, in words
pub record IsWordRange (w : WordRange) : Type 0 where
  pub low : IsEntry w.low
  pub high : IsEntry w.high

pub record IsRoundoffOffer (offer : RoundoffOffer) : Type 0 where
  pub depth : offer.depth ≤ most_gain_depth
  pub few : length offer.ranges ≤ most_box_ranges
  pub ranges : All IsWordRange offer.ranges

-- ---- falls
abbrev pub IsWhole : ℤ → Type 0
IsWhole z = unsigned_abs z ≤ greatest_whole

abbrev pub AreWhole : List (List ℤ) → Type 0
AreWhole = All (All IsWhole)

pub record IsForm (f : Form) : Type 0 where
  pub few : f.d ≤ most_places
  pub filled : f ≡ form_with (corner f.d f.d f.rows)
  pub rows : AreWhole (corner f.d f.d f.rows)

-- squares of rows of d places, and the rest
pub record AreSquares (d : ℕ) (s : Squares) : Type 0 where
  pub few : s.count ≤ most_squares
  pub filled : s ≡ squares_with s.m (take s.count s.weights) (corner s.count d s.rows)
      (corner d d s.rest)
  pub factor : IsWhole s.m
  pub weights : All IsWhole (take s.count s.weights)
  pub rows : AreWhole (corner s.count d s.rows)
  pub rest : AreWhole (corner d d s.rest)

pub record IsOffer (offer : Falls) : Type 0 where
  pub form : IsForm offer.form
  pub positive : AreSquares offer.form.d offer.positive
  pub fall : AreSquares offer.form.d offer.fall

-- ---- certificates
abbrev pub IsLawful : Certificate → Type 0
IsLawful (certificate.Hints job log) = IsJobOf kind.Hints job × IsLog log
IsLawful (certificate.Invariant job candidate logs) =
    IsJobOf kind.Invariant job × IsSet candidate × AreLogs logs
IsLawful (certificate.Gain job depth offer) =
    IsJobOf kind.Gain job × (depth ≤ most_gain_depth) × IfSome offer IsRoundoffOffer
IsLawful (certificate.Falls job offer) = IsJobOf kind.Falls job × IsOffer offer
IsLawful (certificate.Table job coefficients) =
    IsJobOf kind.Table job × (1 ≤ length coefficients) × (length coefficients ≤ most_coefficients)

-- the certificate with the numbers of its form's places alone, as its text has it
abbrev pub certificate_alone : Certificate → Certificate
certificate_alone (certificate.Hints job log) = certificate.Hints job log
certificate_alone (certificate.Invariant job candidate logs) =
    certificate.Invariant job candidate logs
certificate_alone (certificate.Gain job depth offer) = certificate.Gain job depth offer
certificate_alone (certificate.Falls job offer) = certificate.Falls job (offer_alone offer)
certificate_alone (certificate.Table job coefficients) = certificate.Table job coefficients
