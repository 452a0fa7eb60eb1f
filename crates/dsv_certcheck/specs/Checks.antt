-- What the check of a certificate finds for a controller's words: nothing, or the first line whose
-- claim isn't so, or why there is nothing to check it against.
use Rattle.std.specs.Prelude.{◌≡◌, ℕ, suc, ◌+◌, ◌==◌, ◌&&◌, nat_le, nat_lt, Bool, List, ◌∷◌}
use Rattle.std.specs.Prelude.{length, Option, Some, None, Result, Ok, Err, if◌then◌else◌, ℤ}
use Rattle.std.specs.Ordering.{int_eq}
use Rattle.dsv_text.specs.Stages.{◌>>=◌}
use Rattle.dsv_names.specs.declared.property.Property.{Property}
use Rattle.dsv_names.specs.declared.property.Property.TheVariants as property
use Rattle.dsv_names.specs.declared.property.RunProperty.{RunProperty}
use Rattle.dsv_names.specs.declared.property.RunProperty.TheVariants as run
use Rattle.dsv_reader.specs.Controllers.{ControllerView}
use Rattle.dsv_quantiser.specs.QuantisedView.{QuantisedView}
use Rattle.dsv_meaning.specs.Equations.{order, registers_of}
use Rattle.dsv_cnf.specs.FormulaView.{FormulaView}
use Rattle.dsv_hints.specs.Derivation.{verdict_of}
use Rattle.dsv_hints.specs.declared.step.Step.{Step}
use Rattle.dsv_hints.specs.declared.step.Verdict.{Verdict}
use Rattle.dsv_hints.specs.declared.step.Verdict.TheVariants as verdict
use Rattle.dsv_unroll.specs.Goals.{most_size}
use Rattle.dsv_bounded.specs.RunQuestions.{question_formula, job_size_of}
use Rattle.dsv_delta.specs.declared.refusal.PolyWide.{PolyWide}
use Rattle.dsv_forms.specs.Refusals.{falls_refusal}
use Rattle.dsv_forms.specs.declared.offers.Falls.{Falls}
use Rattle.dsv_forms.specs.declared.refusal.FormRefusal.{FormRefusal}
use Rattle.dsv_tested.specs.Tested.{side_of, tested_of}
use Rattle.dsv_tested.specs.declared.side.Tested.{Tested}
use Rattle.dsv_tested.specs.declared.side.Tested.TheVariants as tested
use Rattle.dsv_table.specs.Table as tables
use Rattle.dsv_table.specs.declared.verdict.TableVerdict.{TableVerdict}
use Rattle.dsv_table.specs.declared.verdict.TableVerdict.TheVariants as table
use Rattle.dsv_template.specs.Candidates.{is_shaped}
use Rattle.dsv_template.specs.declared.candidate.Candidate.{Candidate}
use Rattle.dsv_template.specs.declared.verdict.SetPart.TheVariants as part
use Rattle.dsv_template.specs.declared.verdict.ThreeLogs.{ThreeLogs}
use Rattle.dsv_invariant.specs.Formulas.{set_formula_of}
use Rattle.dsv_invariant.specs.Limits.{unbounded_samples}
use Rattle.dsv_linear.specs.declared.range.Range.{Range}
use Rattle.dsv_realise.specs.Netlists.{net_of}
use Rattle.dsv_roundoff.specs.declared.offers.RoundoffOffer.{RoundoffOffer}
use Rattle.dsv_gain.specs.Errors.{error_of}
use Rattle.dsv_network.specs.declared.outlook.Outlook.{Outlook}
use Rattle.dsv_network.specs.declared.outlook.Outlook.TheVariants as outlook
use Rattle.dsv_certcheck.specs.FormLines.{form_line}
use Rattle.dsv_certcheck.specs.LineNumbers.{version_line_number, format_line_number}
use Rattle.dsv_certcheck.specs.LineNumbers.{kind_line, body_line, log_line}
use Rattle.dsv_certfile.specs.Limits.{most_samples, most_gain_depth, most_coefficients}
use Rattle.dsv_certfile.specs.Limits.{narrow_word_bits}
use Rattle.dsv_certfile.specs.declared.certificate.Certificate.{Certificate}
use Rattle.dsv_certfile.specs.declared.certificate.Certificate.TheVariants as certificate
use Rattle.dsv_certfile.specs.declared.fault.CheckFault.{CheckFault}
use Rattle.dsv_certfile.specs.declared.fault.CheckFault.TheVariants as fault
use Rattle.dsv_certcheck.specs.declared.check_refusal.CheckRefusal.{CheckRefusal}
use Rattle.dsv_certcheck.specs.declared.check_refusal.CheckRefusal.TheVariants as refusal
use Rattle.dsv_certfile.specs.declared.job.CertWords.{CertWords}
use Rattle.dsv_certfile.specs.declared.job.CertWords.TheVariants as words
use Rattle.dsv_certfile.specs.declared.job.Size.{Size}
use Rattle.dsv_gain.specs.Subjects.{outlook_of}
use Rattle.dsv_realise.specs.Controllers.{of_controller}
use Rattle.dsv_certfile.specs.declared.job.Size.TheVariants as size

-- nothing, or a refusal
abbrev pub Checked : Type 0
Checked = Result (Unit {0}) CheckRefusal

-- what a call that gives something more comes to
abbrev pub as_checked : {A : Type 0} → Result A CheckRefusal → Checked
as_checked (Ok x) = Ok tt
as_checked (Err why) = Err why

-- the line's claim isn't so
abbrev pub refused : ℕ → CheckFault → Checked
refused line why = Err (refusal.Line line why)

-- ---- the format of the words
-- A certificate that says no format is one of words of at most 32 bits, and one that says a format
-- is one of words of this format.
abbrev pub format_check : ControllerView → CertWords → Checked
format_check c words.Unsaid = if nat_le (c.int_bits + c.frac_bits) narrow_word_bits
    then Ok tt else refused version_line_number fault.Format
format_check c (words.Said int_bits frac_bits) =
    if c.int_bits == int_bits && c.frac_bits == frac_bits
    then Ok tt else refused format_line_number fault.Format

-- ---- jobs
-- the kind belongs to no such job
abbrev pub misfit : CertWords → Checked
misfit w = refused (kind_line w) fault.Shape

-- a question about runs over so many samples is larger than what is asked of formulas
abbrev pub size_check : QuantisedView → ℕ → Checked
size_check q samples = if nat_lt most_size (job_size_of (of_controller q) samples)
    then Err (refusal.JobSize (job_size_of (of_controller q) samples)) else Ok tt

-- ---- logs
-- what the verdict on a log says of its lines, the first of which has this number
abbrev pub verdict_at : ℕ → Verdict → Checked
verdict_at line verdict.Accepted = Ok tt
verdict_at line (verdict.Refused step why) = refused (line + step) fault.Step

-- the log derives the empty clause from the formula; or its first step that doesn't follow, or the
-- line after it where it ends too early
abbrev pub log_check : FormulaView → ℕ → List Step → Checked
log_check formula line log = verdict_at line (verdict_of formula log)

-- ---- hints
-- the log refutes that a property of runs happens within so many samples
abbrev pub run_check : CertWords → QuantisedView → RunProperty → ℕ → List Step → Checked
run_check w q p samples log = size_check q samples >>= λ _.
    log_check (question_formula p (of_controller q) samples) (body_line w) log

abbrev pub is_some_samples : ℕ → Bool
is_some_samples samples = nat_le 1 samples && nat_le samples most_samples

abbrev pub hints_check : CertWords → QuantisedView → Property → Size → List Step → Checked
hints_check w q (property.OfRuns p) (size.Samples k) log =
    if is_some_samples k then run_check w q p k log else misfit w
hints_check w q p s log = misfit w

-- ---- an invariant
-- each log refutes that its sentence of the candidate is broken
abbrev pub sentences_check : CertWords → QuantisedView → Candidate → ThreeLogs → Checked
sentences_check w q candidate logs =
    log_check (set_formula_of q candidate part.Base)
    (log_line w part.Base candidate logs) logs.base >>= λ _.
    log_check (set_formula_of q candidate part.Step)
    (log_line w part.Step candidate logs) logs.step >>= λ _.
    log_check (set_formula_of q candidate part.Safe)
    (log_line w part.Safe candidate logs) logs.safe

-- the candidate's numbers are as they have to be for the controller's registers
abbrev pub shape_check : CertWords → QuantisedView → Candidate → Checked
shape_check w q candidate = if is_shaped (registers_of q.realisation (order q)) candidate
    then Ok tt else misfit w

abbrev pub set_check : CertWords → QuantisedView → Candidate → ThreeLogs → Checked
set_check w q candidate logs =
    size_check q unbounded_samples >>= λ _.
    shape_check w q candidate >>= λ _.
    sentences_check w q candidate logs

abbrev pub invariant_check : CertWords → QuantisedView → Property → Size → Candidate → ThreeLogs
    → Checked
invariant_check w q (property.OfRuns run.Overflow) size.Unbounded candidate logs =
    set_check w q candidate logs
invariant_check w q p s candidate logs = misfit w

-- ---- a gain
-- the offer shows a range of the output's difference
abbrev pub shown_check : CertWords → Option Range → Checked
shown_check w (Some r) = Ok tt
shown_check w None = refused (kind_line w) fault.Error

-- where there is an offer, it shows how far the output is from that of exact runs
abbrev pub error_check : CertWords → QuantisedView → Option RoundoffOffer → Checked
error_check w q None = Ok tt
error_check w q (Some offer) = shown_check w (error_of (net_of q) offer)

-- the gain was found, and then the rest
abbrev pub outlook_check : CertWords → Checked → Outlook → Checked
outlook_check w rest (outlook.Safe gain) = rest
outlook_check w rest other = refused (kind_line w) fault.Gain

-- the ranges of all exact values are ones of words at the depth or before it, whatever words were
-- in the registers; and then the offer
abbrev pub depth_check : CertWords → QuantisedView → ℕ → Option RoundoffOffer → Checked
depth_check w q depth offer =
    outlook_check w (error_check w q offer) (outlook_of (of_controller q) (suc depth))

abbrev pub gain_check : CertWords → QuantisedView → Property → Size → ℕ → Option RoundoffOffer
    → Checked
gain_check w q (property.OfRuns run.Overflow) size.Unbounded depth offer =
    if nat_le depth most_gain_depth then depth_check w q depth offer else misfit w
gain_check w q p s depth offer = misfit w

-- ---- falls
-- the line at which a form is refused, where it is
abbrev pub refusal_check : CertWords → Falls → Option FormRefusal → Checked
refusal_check w offer None = Ok tt
refusal_check w offer (Some why) = refused (form_line w offer why) fault.Form

-- the form has the polynomial's order, and falls along its trajectories
abbrev pub offer_check : CertWords → List ℤ → Falls → Checked
offer_check w c offer = if offer.form.d + 1 == length c
    then refusal_check w offer (falls_refusal c offer) else misfit w

-- the same for what is tested of a controller
abbrev pub tested_check : CertWords → Result Tested PolyWide → Falls → Checked
tested_check w (Ok (tested.Poly c)) offer = offer_check w c offer
tested_check w (Ok tested.NoZeros) offer = Err refusal.NoZeros
tested_check w (Err wide) offer = Err (refusal.Wide wide.index)

abbrev pub falls_check : CertWords → QuantisedView → Property → Size → Falls → Checked
falls_check w q (property.OfRoots p) size.NoSize offer =
    tested_check w (tested_of q (side_of p)) offer
falls_check w q p s offer = misfit w

-- ---- a table
-- the first line whose number isn't the polynomial's in its place, of the lines from this one on
abbrev pub coefficients_check : ℕ → List ℤ → List ℤ → Checked
coefficients_check line (c ∷ cs) (x ∷ xs) =
    if int_eq c x then coefficients_check (suc line) cs xs else refused line fault.Table
coefficients_check line cs xs = Ok tt

-- the verdict of a polynomial's table: all its first numbers are positive
abbrev pub verdict_check : CertWords → TableVerdict → Checked
verdict_check w table.Inside = Ok tt
verdict_check w (table.NotInside row) = refused (kind_line w) fault.Table

-- there are as many coefficients, these are the polynomial's, and its table has positive first
-- numbers alone
abbrev pub table_check : CertWords → List ℤ → List ℤ → Checked
table_check w c coefficients =
    if length coefficients == length c && nat_le (length coefficients) most_coefficients
    then (coefficients_check (body_line w) coefficients c >>= λ _.
    verdict_check w (tables.verdict_of c))
    else misfit w

-- the same for what is tested of a controller
abbrev pub tested_table_check : CertWords → Result Tested PolyWide → List ℤ → Checked
tested_table_check w (Ok (tested.Poly c)) coefficients = table_check w c coefficients
tested_table_check w (Ok tested.NoZeros) coefficients = Err refusal.NoZeros
tested_table_check w (Err wide) coefficients = Err (refusal.Wide wide.index)

abbrev pub roots_table_check : CertWords → QuantisedView → Property → Size → List ℤ → Checked
roots_table_check w q (property.OfRoots p) size.NoSize coefficients =
    tested_table_check w (tested_of q (side_of p)) coefficients
roots_table_check w q p s coefficients = misfit w

-- ---- certificates
-- for a quantised controller
abbrev pub words_check : QuantisedView → Certificate → Checked
words_check q (certificate.Hints job log) = hints_check job.words q job.property job.size log
words_check q (certificate.Invariant job candidate logs) =
    invariant_check job.words q job.property job.size candidate logs
words_check q (certificate.Gain job depth offer) =
    gain_check job.words q job.property job.size depth offer
words_check q (certificate.Falls job offer) = falls_check job.words q job.property job.size offer
words_check q (certificate.Table job coefficients) =
    roots_table_check job.words q job.property job.size coefficients

-- the result is what is found, or there was no memory
abbrev pub Finds : Checked → Checked → Type 0
Finds (Err refusal.NoMemory) meant = Unit {0}
Finds found meant = meant ≡ found
