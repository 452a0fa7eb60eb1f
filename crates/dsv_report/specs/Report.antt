-- The text of an answer to a job, and its status.
use Rattle.std.specs.Prelude.{ℕ, pos, List, [], ◌∷◌, ◌++◌}
use Rattle.std.specs.Prelude.{length, take, filter, codes, Option, Ok, Err, ℤ}
use Rattle.std.specs.Prelude.{Bool, true, false}
use Rattle.std.specs.List.{flat_map}
use Rattle.std.specs.Fmt.{signed_decimal}
use Rattle.dsv_base.specs.Text.{spaced_text}
use Rattle.dsv_cascade.specs.declared.stability.CascadeForms.{CascadeForms}
use Rattle.dsv_cascade.specs.declared.stability.CascadeForms.TheVariants as forms
use Rattle.dsv_cascade.specs.declared.stability.SectionFault.TheVariants as fault
use Rattle.dsv_jury.specs.declared.verdict.Jury.{Jury}
use Rattle.dsv_jury.specs.declared.verdict.Jury.TheVariants as jury
use Rattle.dsv_system.specs.Runs.{SampleRow}
use Rattle.dsv_cnf.specs.Dimacs.{dimacs_text}
use Rattle.dsv_meaning.specs.declared.replays.Cycle.{Cycle}
use Rattle.dsv_meaning.specs.declared.replays.Trace.{Trace}
use Rattle.dsv_timing.specs.declared.work.TimingReport.{TimingReport}
use Rattle.dsv_fraction.specs.Ratio.{Ratio}
use Rattle.dsv_template.specs.declared.candidate.Candidate.{Candidate}
use Rattle.dsv_template.specs.declared.candidate.Inequality.{Inequality}
use Rattle.dsv_template.specs.declared.kept.KeptSet.{KeptSet}
use Rattle.dsv_template.specs.declared.verdict.Why.{Why}
use Rattle.dsv_template.specs.declared.verdict.Why.TheVariants as why
use Rattle.dsv_report.specs.Certificates.{checked_job_text, certificate_text}
use Rattle.dsv_report.specs.CascadeTexts.{section_line, forms_text}
use Rattle.dsv_report.specs.CascadeTexts.{section_tables_text, cascade_refusal_text}
use Rattle.dsv_certfile.specs.Ellipsoids.{ellipsoid_text}
use Rattle.dsv_report.specs.EllipsoidTexts.{in_ellipsoid_text}
use Rattle.dsv_report.specs.EllipsoidTexts.{no_offer_text, offer_fault_text}
use Rattle.dsv_report.specs.EllipsoidTexts.{ellipsoid_refusal_text}
use Rattle.dsv_report.specs.Forms.{numbers_line, fall_text, form_text, start_text}
use Rattle.dsv_report.specs.Fragments.{concatenation}
use Rattle.dsv_report.specs.Gains.{gain_text, error_text, shown_text, out_of_range_text}
use Rattle.dsv_report.specs.Gains.{too_deep_text}
use Rattle.dsv_report.specs.Headings.{HeadingView, heading, verdict_status}
use Rattle.dsv_report.specs.Lines.{numbered, number_line}
use Rattle.dsv_report.specs.Lines.{numbered_lines}
use Rattle.dsv_report.specs.LoopTexts.{plant_line}
use Rattle.dsv_report.specs.LoopTexts.{loop_refusal_text}
use Rattle.dsv_poly_table.specs.declared.sections.SectionTables.{SectionTables}
use Rattle.dsv_poly_table.specs.declared.sections.SectionTables.TheVariants as section_tables
use Rattle.dsv_table.specs.declared.verdict.TableVerdict.{TableVerdict}
use Rattle.dsv_table.specs.declared.verdict.TableVerdict.TheVariants as table
use Rattle.dsv_report.specs.Refusals.{inputs_text, file_text, quant_text, input_text}
use Rattle.dsv_report.specs.Refusals.{wide_code_text}
use Rattle.dsv_report.specs.StateTexts.{no_state_form_text, state_text}
use Rattle.dsv_report.specs.StateTexts.{state_quant_text}
use Rattle.dsv_report.specs.Stops.{Outcome}
use Rattle.dsv_report.specs.Tables.{table_text}
use Rattle.dsv_report.specs.Tallies.{tally_text}
use Rattle.dsv_report.specs.declared.answers.Answer.{Answer}
use Rattle.dsv_report.specs.declared.answers.Answer.TheVariants as answer
use Rattle.dsv_report.specs.declared.stop.Stop.{Stop}
use Rattle.dsv_report.specs.declared.stop.Stop.TheVariants as stop
use Rattle.dsv_report.specs.declared.stop.WhichFile.{WhichFile}
use Rattle.dsv_report.specs.declared.stop.WhichFile.TheVariants as file
use Rattle.dsv_report.specs.declared.verdict.Verdict.{Verdict}
use Rattle.dsv_report.specs.declared.verdict.Verdict.TheVariants.{Successful, Failed, Inconclusive}
use Rattle.dsv_report.specs.declared.verdict.Verdict.TheVariants.{Simulation, Plain}

-- ---- polynomials that no form decides
abbrev pub no_zeros_text : List ℕ
no_zeros_text = codes "no zeros to test\n"

abbrev pub jury_text : Jury → List ℕ
jury_text jury.Inside = codes "jury inside\n"
jury_text (jury.NotInside row) = number_line (codes "jury not-inside ") row
jury_text (jury.Wide row) = number_line (codes "jury wide ") row

abbrev pub offers_text : ℕ → List ℕ
offers_text offers = number_line (codes "cause NO_FORM offers ") offers

-- the polynomial, how many offers for it were refused, and what Jury's recursion says
abbrev pub no_form_text : List ℤ → ℕ → Jury → List ℕ
no_form_text poly offers verdict =
    numbers_line (codes "polynomial") poly ++ (offers_text offers ++ jury_text verdict)

abbrev pub wide_text : ℕ → List ℕ
wide_text index = number_line (codes "cause WIDE index ") index

-- ---- verdicts on runs
-- the sample and the number of the first exact value that is no word, and that value
abbrev pub break_text : ℕ → ℕ → ℤ → List ℕ
break_text sample value exact = numbered (codes "overflow sample ") sample
    ++ (numbered (codes " value ") value ++ numbers_line (codes " exact") (exact ∷ []))

abbrev pub trace_text : Trace → List ℕ
trace_text trace =
    numbers_line (codes "inputs") trace.inputs
    ++ (numbers_line (codes "outputs") trace.outputs
    ++ break_text trace.sample trace.value trace.exact)

abbrev pub cycle_text : Cycle → List ℕ
cycle_text cycle =
    numbers_line (codes "start") cycle.start
    ++ (number_line (codes "period ") cycle.period ++ numbers_line (codes "outputs") cycle.outputs)

-- how many clauses were learned, one each conflict
abbrev pub spent_text : ℕ → List ℕ
spent_text conflicts = number_line (codes "cause SPENT conflicts ") conflicts

abbrev pub size_text : ℕ → List ℕ
size_text size = number_line (codes "JOB SIZE ") size

-- ---- verdicts on runs of any length
abbrev pub bound_text : ℤ → List ℕ
bound_text bound = concatenation (codes " <= " ∷ signed_decimal bound ∷ codes "\n" ∷ [])

-- the coefficients of the registers, and the bound
abbrev pub inequality_text : Inequality → List ℕ
inequality_text i = codes "inequality"
    ++ (flat_map (spaced_text signed_decimal) i.coefficients.items ++ bound_text i.bound)

abbrev pub inequalities_text : List Inequality → List ℕ
inequalities_text inequalities = flat_map inequality_text inequalities

-- how many states in a row are looked at, and the set's inequalities
abbrev pub candidate_text : Candidate → List ℕ
candidate_text candidate = number_line (codes "depth ") candidate.depth
    ++ inequalities_text candidate.inequalities.items

-- a search for what is wrong with a set gave up
abbrev pub gave_up : Why → Bool
gave_up (why.Good logs) = false
gave_up (why.Base inputs) = false
gave_up (why.Leaves start inputs) = false
gave_up (why.Unsafe start input value exact) = false
gave_up (why.Spent part log) = true
gave_up why.BadShape = false

abbrev pub is_spent : KeptSet → Bool
is_spent kept = gave_up kept.why

-- how many sets were offered, and for how many of them a search gave up
abbrev pub no_invariant_text : ℕ → ℕ → List ℕ
no_invariant_text offers spent =
    numbered (codes "cause NO_INVARIANT offers ") offers ++ number_line (codes " spent ") spent

-- ---- timing
-- how many products, sums and loaded registers a sample takes
abbrev pub counts_text : ℕ → ℕ → ℕ → List ℕ
counts_text products sums moves = numbered (codes "products ") products
    ++ (numbered (codes " sums ") sums ++ number_line (codes " moves ") moves)

-- the time between two samples as a fraction, up to the end of the line
abbrev pub time_text : Ratio → List ℕ
time_text time = concatenation (codes " sample-time " ∷ signed_decimal time.num ∷ codes "/"
    ∷ signed_decimal (pos time.den) ∷ codes "\n" ∷ [])

-- what a sample takes, and the time that it has
abbrev pub timing_text : TimingReport → List ℕ
timing_text report =
    counts_text report.counts.products report.counts.sums report.counts.moves
    ++ (number_line (codes "cycles ") report.cycles
    ++ (numbered (codes "clock ") report.clock ++ time_text report.sample_time))

-- ---- simulations
-- the number, the input and the output of a sample
abbrev pub sample_head : ℕ → ℤ → ℤ → List ℕ
sample_head number x y =
    concatenation (codes "sample " ∷ signed_decimal (pos number) ∷ codes " input "
    ∷ signed_decimal x ∷ codes " output " ∷ signed_decimal y ∷ [])

-- and after them its exact values, up to the end of the line
abbrev pub sample_text : ℕ → SampleRow → List ℕ
sample_text number row = sample_head number row.x row.y ++ numbers_line (codes " exact") row.exact

-- the output of a sample alone
abbrev pub output_text : SampleRow → List ℕ
output_text row = concatenation (signed_decimal row.y ∷ codes "\n" ∷ [])

-- the lines of samples with these numbers on
abbrev pub samples_text : ℕ → List SampleRow → List ℕ
samples_text = numbered_lines sample_text

-- ---- answers
-- the verdict of what the table of a polynomial says
abbrev pub table_verdict : TableVerdict → Verdict
table_verdict table.Inside = Successful
table_verdict (table.NotInside row) = Failed

-- of what closed forms say of a cascade's sections
abbrev pub forms_verdict : CascadeForms → Verdict
forms_verdict (forms.Falls offers) = Successful
forms_verdict (forms.NotAll section (fault.KeptAway poly offer fall value)) = Failed
forms_verdict (forms.NotAll section (fault.Wide index)) = Inconclusive
forms_verdict (forms.NotAll section (fault.NoClosedForm index)) = Inconclusive

-- and of what tables say of them
abbrev pub section_tables_verdict : SectionTables → Verdict
section_tables_verdict (section_tables.Inside findings) = Successful
section_tables_verdict (section_tables.NotInside section found) = Failed
section_tables_verdict (section_tables.Wide section index) = Inconclusive

-- the verdict of an answer
abbrev pub verdict_of : Answer → Verdict
verdict_of (answer.Falls poly offer fall) = Successful
verdict_of (answer.KeptAway poly offer fall value) = Failed
verdict_of (answer.OfTable found) = table_verdict found.verdict
verdict_of (answer.OfSections found) = forms_verdict found
verdict_of (answer.OfSectionTables found) = section_tables_verdict found
verdict_of (answer.StateFalls states offer fall) = Successful
verdict_of answer.NoStateForm = Inconclusive
verdict_of answer.NoZeros = Failed
verdict_of (answer.NoForm poly kept verdict) = Inconclusive
verdict_of (answer.Wide index) = Inconclusive
verdict_of (answer.OnTime report) = Successful
verdict_of (answer.Late report) = Failed
verdict_of (answer.Never log) = Successful
verdict_of (answer.Always candidate logs) = Successful
verdict_of (answer.NoInvariant kept) = Inconclusive
verdict_of (answer.InRanges gain error) = Successful
verdict_of (answer.InEllipsoid offer) = Successful
verdict_of (answer.FoundEllipsoid offer) = Plain
verdict_of answer.NoEllipsoid = Inconclusive
verdict_of (answer.OutOfRange sample value) = Inconclusive
verdict_of (answer.TooDeep depth) = Inconclusive
verdict_of (answer.Overflow trace) = Failed
verdict_of (answer.Cycles cycle) = Failed
verdict_of (answer.Spent log) = Inconclusive
verdict_of (answer.FormulaText formula) = Plain
verdict_of (answer.Simulated rows) = Simulation
verdict_of (answer.Outputs rows) = Plain
verdict_of (answer.Code text) = Plain
verdict_of answer.Words = Plain
verdict_of (answer.Generated found) = Plain
verdict_of (answer.Checked certified error) = Plain

-- what stands after the heading, and after the lines that tell words
abbrev pub body_text : Answer → List ℕ
body_text (answer.Falls poly offer fall) = form_text poly offer.form fall
body_text (answer.KeptAway poly offer fall value) =
    form_text poly offer.form fall ++ start_text (take offer.form.d offer.start) value
body_text (answer.OfTable found) = table_text found
body_text (answer.OfSections found) = forms_text found
body_text (answer.OfSectionTables found) = section_tables_text found
body_text (answer.StateFalls states offer fall) = fall_text offer.form fall
body_text answer.NoStateForm = no_state_form_text
body_text answer.NoZeros = no_zeros_text
body_text (answer.NoForm poly kept verdict) = no_form_text poly (length kept) verdict
body_text (answer.Wide index) = wide_text index
body_text (answer.OnTime report) = timing_text report
body_text (answer.Late report) = timing_text report
body_text (answer.Never log) = []
body_text (answer.Always candidate logs) = candidate_text candidate
body_text (answer.NoInvariant kept) =
    no_invariant_text (length kept) (length (filter is_spent kept))
body_text (answer.InRanges gain error) = gain_text gain ++ error_text error
body_text (answer.InEllipsoid offer) = in_ellipsoid_text offer
body_text (answer.FoundEllipsoid offer) = ellipsoid_text offer
body_text answer.NoEllipsoid = no_offer_text
body_text (answer.OutOfRange sample value) = out_of_range_text sample value
body_text (answer.TooDeep depth) = too_deep_text depth
body_text (answer.Overflow trace) = trace_text trace
body_text (answer.Cycles cycle) = cycle_text cycle
body_text (answer.Spent log) = spent_text (length log)
body_text (answer.FormulaText formula) = dimacs_text formula
body_text (answer.Simulated rows) = samples_text 0 rows
body_text (answer.Outputs rows) = flat_map output_text rows
body_text (answer.Code text) = text
body_text answer.Words = []
body_text (answer.Generated found) = tally_text found
body_text (answer.Checked certified error) = shown_text error

-- what a certificate shows that passed its check
abbrev pub certified_text : Answer → List ℕ
certified_text (answer.Checked certified error) = checked_job_text certified
certified_text found = []

-- what stands first: the heading, or what a certificate shows, which has none
abbrev pub opening : Option HeadingView → Answer → List ℕ
opening job found = heading (verdict_of found) job ++ certified_text found

-- the text of an answer to a job, or to a check or a generation, which are no jobs; these lines
-- tell words
abbrev pub answer_text : Option HeadingView → List ℕ → Answer → List ℕ
answer_text job lines found = opening job found ++ (lines ++ body_text found)

abbrev pub too_long_text : List ℕ
too_long_text = codes "FILE REFUSED 12 TOO_LONG at 65536\n"

-- which file is meant, before what is said of it: nothing of the controller's
abbrev pub place_text : WhichFile → List ℕ
place_text (file.Section section) = section_line section
place_text file.Plant = plant_line
place_text which = []

-- the file that couldn't be read
abbrev pub read_fault_text : WhichFile → List ℕ
read_fault_text file.Controller = codes "READ FAULT CONTROLLER\n"
read_fault_text file.Certificate = codes "READ FAULT CERTIFICATE\n"
read_fault_text (file.Section section) =
    number_line (codes "READ FAULT SECTION ") section
read_fault_text file.Plant = codes "READ FAULT PLANT\n"
read_fault_text file.Inputs = codes "READ FAULT INPUTS\n"

-- the text where there is no answer
abbrev pub stop_text : Stop → List ℕ
stop_text (stop.JobSize size) = size_text size
stop_text (stop.WideCode value) = wide_code_text value
stop_text (stop.CertificateRefused line fault) = certificate_text line fault
stop_text stop.Usage = codes "USAGE\n"
stop_text (stop.FileRefused which r) = place_text which ++ file_text r
stop_text (stop.FileTooLong which) = place_text which ++ too_long_text
stop_text (stop.QuantRefused which r) = place_text which ++ quant_text r
stop_text (stop.CascadeRefused r) = cascade_refusal_text r
stop_text (stop.LoopRefused r) = loop_refusal_text r
stop_text (stop.StateRefused r) = state_text r
stop_text (stop.StateQuantRefused r) = state_quant_text r
stop_text (stop.InputRange index value) = input_text index value
stop_text (stop.EllipsoidText r) = offer_fault_text r.line r.fault
stop_text (stop.EllipsoidRefused r) = ellipsoid_refusal_text r
stop_text (stop.ReadFault which) = read_fault_text which
stop_text (stop.InputsRefused fault) = inputs_text fault
stop_text stop.NoMemory = codes "NO MEMORY\n"

-- ---- statuses
abbrev pub answer_status : Answer → ℕ
answer_status found = verdict_status (verdict_of found)

abbrev pub stop_status : Stop → ℕ
stop_status (stop.JobSize size) = 6
stop_status (stop.WideCode value) = 6
stop_status (stop.CertificateRefused line fault) = 7
stop_status stop.Usage = 1
stop_status (stop.FileRefused which r) = 2
stop_status (stop.FileTooLong which) = 2
stop_status (stop.QuantRefused which r) = 2
stop_status (stop.CascadeRefused r) = 2
stop_status (stop.LoopRefused r) = 2
stop_status (stop.StateRefused r) = 2
stop_status (stop.StateQuantRefused r) = 2
stop_status (stop.InputRange index value) = 2
stop_status (stop.InputsRefused fault) = 2
stop_status (stop.EllipsoidText r) = 7
stop_status (stop.EllipsoidRefused r) = 7
stop_status (stop.ReadFault file) = 3
stop_status stop.NoMemory = 5

abbrev pub status_of : Outcome → ℕ
status_of (Ok found) = answer_status found
status_of (Err why) = stop_status why
