-- What is known of a certificate whose text was written, whatever it shows.
use Rattle.std.specs.Prelude.{◌≡◌, ℕ, ◌+◌, ◌≤◌, List, length, take, ℤ, pos, ◌≤ℤ◌}
use Rattle.std.specs.List.{All}
use Rattle.dsv_hints.specs.declared.step.Step.{Step}
use Rattle.dsv_hints.specs.declared.step.Step.TheVariants.{Add, Delete}
use Rattle.dsv_forms.specs.declared.offers.Falls.{Falls}
use Rattle.dsv_forms.specs.declared.offers.Squares.{Squares}
use Rattle.dsv_template.specs.declared.candidate.Candidate.{Candidate}
use Rattle.dsv_template.specs.declared.candidate.Inequality.{Inequality}
use Rattle.dsv_template.specs.declared.verdict.ThreeLogs.{ThreeLogs}
use Rattle.dsv_certfile.specs.Lawful.{IsSize, IsWords, IsLiteral}
use Rattle.dsv_certfile.specs.Limits.{greatest_whole, greatest_id, most_places, most_squares}
use Rattle.dsv_certfile.specs.Limits.{most_inequality_numbers}
use Rattle.dsv_template.specs.Limits.{most_inequalities}
use Rattle.dsv_certfile.specs.Texts.{job_of}
use Rattle.dsv_certfile.specs.declared.certificate.Certificate.{Certificate}
use Rattle.dsv_certfile.specs.declared.certificate.Certificate.TheVariants as certificate
use Rattle.dsv_certfile.specs.declared.ellipsoid.Ellipsoid.{Ellipsoid}

-- ---- logs
abbrev pub IsShortId : ℕ → Type 0
IsShortId id = id ≤ greatest_id

-- no id or literal of a clause that is added is too great
abbrev pub IsTypedStep : Step → Type 0
IsTypedStep (Add id lits hints) = IsShortId id × All IsLiteral lits × All IsShortId hints
IsTypedStep (Delete id ids) = Unit {0}

abbrev pub IsTypedLog : List Step → Type 0
IsTypedLog = All IsTypedStep

-- ---- an invariant
-- so few coefficients, and the bound
abbrev pub IsTypedInequality : Inequality → Type 0
IsTypedInequality i = length i.coefficients.items + 1 ≤ most_inequality_numbers

pub record IsTypedSet (candidate : Candidate) : Type 0 where
  pub few : length candidate.inequalities.items ≤ most_inequalities
  pub inequalities : All IsTypedInequality candidate.inequalities.items

pub record AreTypedLogs (logs : ThreeLogs) : Type 0 where
  pub base : IsTypedLog logs.base
  pub step : IsTypedLog logs.step
  pub safe : IsTypedLog logs.safe

-- ---- falls
-- eight numbers
abbrev pub IsTypedRow : List ℤ → Type 0
IsTypedRow row = length row ≡ most_places

-- eight rows, the first n of them of eight numbers
pub record IsTypedMatrix (n : ℕ) (matrix : List (List ℤ)) : Type 0 where
  pub count : length matrix ≡ most_places
  pub rows : All IsTypedRow (take n matrix)

-- the factor isn't too great
abbrev pub IsTypedFactor : ℤ → Type 0
IsTypedFactor m = m ≤ℤ pos greatest_whole

-- eight weights, and a row for each square
pub record AreTypedRows (s : Squares) : Type 0 where
  pub weights : length s.weights ≡ most_squares
  pub rows : IsTypedMatrix s.count s.rows

-- the squares of a form of d places
pub record AreTypedSquares (d : ℕ) (s : Squares) : Type 0 where
  pub factor : IsTypedFactor s.m
  pub squares : AreTypedRows s
  pub rest : IsTypedMatrix d s.rest

pub record IsTypedOffer (offer : Falls) : Type 0 where
  pub form : IsTypedMatrix offer.form.d offer.form.rows
  pub positive : AreTypedSquares offer.form.d offer.positive
  pub fall : AreTypedSquares offer.form.d offer.fall

-- ---- ellipsoids
-- the numbers of the line of the level aren't too great
pub record AreTypedLevels (offer : Ellipsoid) : Type 0 where
  pub level : IsTypedFactor offer.level
  pub lambda : IsTypedFactor offer.lambda
  pub mu : IsTypedFactor offer.mu

-- nor are those of the first form
pub record IsTypedFirst (offer : Ellipsoid) : Type 0 where
  pub kappa : IsTypedFactor offer.kappa
  pub nu : IsTypedFactor offer.nu
  pub factor : IsTypedFactor offer.first.m

pub record IsTypedEllipsoid (offer : Ellipsoid) : Type 0 where
  pub form : IsTypedMatrix offer.form.d offer.form.rows
  pub levels : AreTypedLevels offer
  pub step : AreTypedSquares (offer.form.d + 1) offer.step
  pub numbers : IsTypedFirst offer
  pub squares : AreTypedRows offer.first
  pub rest : IsTypedMatrix offer.form.d offer.first.rest

-- ---- certificates
-- what their types say of the numbers and lists after the kind line, which were written
abbrev pub IsTypedBody : Certificate → Type 0
IsTypedBody (certificate.Hints job log) = IsTypedLog log
IsTypedBody (certificate.Invariant job candidate logs) = IsTypedSet candidate × AreTypedLogs logs
IsTypedBody (certificate.Gain job depth offer) = Unit {0}
IsTypedBody (certificate.Falls job offer) = IsTypedOffer offer
IsTypedBody (certificate.Table job coefficients) = Unit {0}

abbrev pub HasFewPlaces : Certificate → Type 0
HasFewPlaces (certificate.Hints job log) = Unit {0}
HasFewPlaces (certificate.Invariant job candidate logs) = Unit {0}
HasFewPlaces (certificate.Gain job depth offer) = Unit {0}
HasFewPlaces (certificate.Falls job offer) = offer.form.d ≤ most_places
HasFewPlaces (certificate.Table job coefficients) = Unit {0}

-- what is known of each certificate that is written: the limits of its job's samples, of the words'
-- format and of its form's places, and what its types say
pub record IsTyped (c : Certificate) : Type 0 where
  pub size : IsSize (job_of c).size
  pub words : IsWords (job_of c).words
  pub places : HasFewPlaces c
  pub body : IsTypedBody c
