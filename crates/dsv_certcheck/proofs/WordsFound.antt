-- What is found of words: never that their format is another or that there are none, and that there is no loop only beside a plant.
use Rattle.std.proofs.Common.{ℕ, Bool, true, false, List, [], ◌∷◌, Option, Some, None, Result, Ok, Err}
use Rattle.std.specs.Prelude.{if◌then◌else◌, suc, nat_le, nat_lt, ◌+◌, ◌==◌, ◌&&◌, length}
use Rattle.std.specs.Ordering.{int_eq}
use Rattle.std.proofs.Math.IntN.{ℤ}
use Rattle.dsv_text.specs.Stages.{◌>>=◌}
use Rattle.dsv_names.specs.declared.property.Property.{Property}
use Rattle.dsv_names.specs.declared.property.Property.TheVariants as property
use Rattle.dsv_names.specs.declared.property.RootProperty.TheVariants as root
use Rattle.dsv_names.specs.declared.property.RunProperty.TheVariants as run
use Rattle.dsv_fraction.specs.Ratio.{Ratio}
use Rattle.dsv_reader.specs.Plants.{PlantView}
use Rattle.dsv_quantiser.specs.QuantisedView.{QuantisedView}
use Rattle.dsv_meaning.specs.Equations.{order, registers_of}
use Rattle.dsv_cnf.specs.FormulaView.{FormulaView}
use Rattle.dsv_hints.specs.Derivation.{verdict_of}
use Rattle.dsv_hints.specs.declared.step.Step.{Step}
use Rattle.dsv_hints.specs.declared.step.Verdict.{Verdict}
use Rattle.dsv_hints.specs.declared.step.Verdict.TheVariants as verdict
use Rattle.dsv_unroll.specs.Goals.{most_size}
use Rattle.dsv_delta.specs.declared.refusal.PolyWide.{PolyWide}
use Rattle.dsv_forms.specs.Refusals.{falls_refusal}
use Rattle.dsv_forms.specs.declared.offers.Falls.{Falls}
use Rattle.dsv_forms.specs.declared.refusal.FormRefusal.{FormRefusal}
use Rattle.dsv_tested.specs.Tested.{side_of, tested_of}
use Rattle.dsv_tested.specs.declared.side.Tested.{Tested}
use Rattle.dsv_tested.specs.declared.side.Tested.TheVariants as tested
use Rattle.dsv_table.specs.Table as tables
use Rattle.dsv_table.specs.declared.verdict.TableVerdict.{TableVerdict}
use Rattle.dsv_table.specs.declared.verdict.TableVerdict.TheVariants as table
use Rattle.dsv_template.specs.Candidates.{is_shaped}
use Rattle.dsv_template.specs.declared.candidate.Candidate.{Candidate}
use Rattle.dsv_template.specs.declared.verdict.ThreeLogs.{ThreeLogs}
use Rattle.dsv_linear.specs.declared.range.Range.{Range}
use Rattle.dsv_realise.specs.Netlists.{net_of}
use Rattle.dsv_roundoff.specs.declared.offers.RoundoffOffer.{RoundoffOffer}
use Rattle.dsv_gain.specs.Errors.{error_of}
use Rattle.dsv_network.specs.declared.outlook.Outlook.{Outlook}
use Rattle.dsv_network.specs.declared.outlook.Outlook.TheVariants as outlook
use Rattle.dsv_certfile.specs.Limits.{most_gain_depth, most_coefficients}
use Rattle.dsv_certfile.specs.declared.certificate.Certificate.{Certificate}
use Rattle.dsv_certfile.specs.declared.certificate.Certificate.TheVariants as certificate
use Rattle.dsv_certfile.specs.declared.fault.CheckFault.TheVariants as fault
use Rattle.dsv_certfile.specs.declared.job.CertWords.{CertWords}
use Rattle.dsv_certfile.specs.declared.job.Size.{Size}
use Rattle.dsv_certfile.specs.declared.job.Size.TheVariants as size
use Rattle.dsv_certcheck.specs.Checks.{Checked, refused, misfit, size_check, verdict_at, log_check, run_check, is_some_samples, hints_check, sentences_check, shape_check, set_check, invariant_check, shown_check, error_check, outlook_check, depth_check, gain_check, refusal_check, offer_check, tested_check, falls_check, coefficients_check, verdict_check, table_check, tested_table_check, roots_table_check, words_check}
use Rattle.dsv_certcheck.specs.Found.{found_of}
use Rattle.dsv_certcheck.specs.LineNumbers.{body_line}
use Rattle.dsv_certcheck.specs.LoopChecks.{polynomial_check, loop_check, words_loop_check}
use Rattle.dsv_loop.specs.Loops.{loop_of}
use Rattle.dsv_loop.specs.declared.refusal.LoopRefusal.{LoopRefusal}
use Rattle.dsv_bounded.specs.RunQuestions.{job_size_of}
use Rattle.dsv_gain.specs.Subjects.{outlook_of}
use Rattle.dsv_realise.specs.Controllers.{of_controller}
use Rattle.dsv_certcheck.specs.declared.check_refusal.CheckRefusal.TheVariants as refusal

-- a plant stands beside the controller
abbrev pub IsBeside : Option PlantView → Type 0
IsBeside None = ⊥
IsBeside (Some plant) = Unit {0}

-- what words may be refused for
abbrev pub IsOfWords : Option PlantView → Checked → Type 0
IsOfWords plant (Err (refusal.Line line fault.Format)) = ⊥
IsOfWords plant (Err (refusal.Quant why)) = ⊥
IsOfWords plant (Err (refusal.Loop why)) = IsBeside plant
IsOfWords plant found = Unit {0}

-- ---- stages
has_then : (plant : Option PlantView) (r : Checked) (f : Unit {0} → Checked) → IsOfWords plant r → ((x : Unit {0}) → IsOfWords plant (f x)) → IsOfWords plant (r >>= f)
has_then plant (Ok x) f h g = g x
has_then plant (Err e) f h g = h

has_either : (plant : Option PlantView) (b : Bool) (x y : Checked) → IsOfWords plant x → IsOfWords plant y → IsOfWords plant (if b then x else y)
has_either plant true x y h k = h
has_either plant false x y h k = k

has_size : (plant : Option PlantView) (q : QuantisedView) (samples : ℕ) → IsOfWords plant (size_check q samples)
has_size plant q samples = has_either plant (nat_lt most_size (job_size_of (of_controller q) samples)) (Err (refusal.JobSize (job_size_of (of_controller q) samples))) (Ok tt) tt tt

has_verdict : (plant : Option PlantView) (line : ℕ) (v : Verdict) → IsOfWords plant (verdict_at line v)
has_verdict plant line verdict.Accepted = tt
has_verdict plant line (verdict.Refused step why) = tt

has_log : (plant : Option PlantView) (f : FormulaView) (line : ℕ) (log : List Step) → IsOfWords plant (log_check f line log)
has_log plant f line log = has_verdict plant line (verdict_of f log)

-- ---- kinds
has_hints : (plant : Option PlantView) (w : CertWords) (q : QuantisedView) (p : Property) (s : Size) (log : List Step) → IsOfWords plant (hints_check w q p s log)
has_hints plant w q (property.OfRuns p) (size.Samples k) log =
    has_either plant (is_some_samples k) (run_check w q p k log) (misfit w) (has_then plant (size_check q k) _ (has_size plant q k) (λ x. has_log plant _ _ log)) tt
has_hints plant w q p s log = tt

has_sentences : (plant : Option PlantView) (w : CertWords) (q : QuantisedView) (c : Candidate) (logs : ThreeLogs) → IsOfWords plant (sentences_check w q c logs)
has_sentences plant w q c logs = has_then plant _ _ (has_log plant _ _ logs.base) (λ x. has_then plant _ _ (has_log plant _ _ logs.step) (λ y. has_log plant _ _ logs.safe))

has_set : (plant : Option PlantView) (w : CertWords) (q : QuantisedView) (c : Candidate) (logs : ThreeLogs) → IsOfWords plant (set_check w q c logs)
has_set plant w q c logs =
    has_then plant _ _ (has_size plant q _) (λ x. has_then plant (shape_check w q c) _
    (has_either plant (is_shaped (registers_of q.realisation (order q)) c) (Ok tt) (misfit w) tt tt) (λ y. has_sentences plant w q c logs))

has_invariant : (plant : Option PlantView) (w : CertWords) (q : QuantisedView) (p : Property) (s : Size) (c : Candidate) (logs : ThreeLogs) → IsOfWords plant (invariant_check w q p s c logs)
has_invariant plant w q (property.OfRuns run.Overflow) size.Unbounded c logs = has_set plant w q c logs
has_invariant plant w q p s c logs = tt

has_refusal : (plant : Option PlantView) (w : CertWords) (offer : Falls) (r : Option FormRefusal) → IsOfWords plant (refusal_check w offer r)
has_refusal plant w offer None = tt
has_refusal plant w offer (Some why) = tt

has_offer : (plant : Option PlantView) (w : CertWords) (c : List ℤ) (offer : Falls) → IsOfWords plant (offer_check w c offer)
has_offer plant w c offer =
    has_either plant (offer.form.d + 1 == length c) (refusal_check w offer (falls_refusal c offer)) (misfit w) (has_refusal plant w offer (falls_refusal c offer)) tt

has_tested : (plant : Option PlantView) (w : CertWords) (r : Result Tested PolyWide) (offer : Falls) → IsOfWords plant (tested_check w r offer)
has_tested plant w (Ok (tested.Poly c)) offer = has_offer plant w c offer
has_tested plant w (Ok tested.NoZeros) offer = tt
has_tested plant w (Err wide) offer = tt

has_falls : (plant : Option PlantView) (w : CertWords) (q : QuantisedView) (p : Property) (s : Size) (offer : Falls) → IsOfWords plant (falls_check w q p s offer)
has_falls plant w q (property.OfRoots p) size.NoSize offer = has_tested plant w (tested_of q (side_of p)) offer
has_falls plant w q p s offer = tt

has_shown : (plant : Option PlantView) (w : CertWords) (o : Option Range) → IsOfWords plant (shown_check w o)
has_shown plant w (Some r) = tt
has_shown plant w None = tt

has_error : (plant : Option PlantView) (w : CertWords) (q : QuantisedView) (offer : Option RoundoffOffer) → IsOfWords plant (error_check w q offer)
has_error plant w q None = tt
has_error plant w q (Some offer) = has_shown plant w (error_of (net_of q) offer)

has_outlook : (plant : Option PlantView) (w : CertWords) (rest : Checked) (found : Outlook) → IsOfWords plant rest → IsOfWords plant (outlook_check w rest found)
has_outlook plant w rest (outlook.Safe gain) h = h
has_outlook plant w rest (outlook.Leaves sample value) h = tt
has_outlook plant w rest outlook.Deep h = tt

has_gain : (plant : Option PlantView) (w : CertWords) (q : QuantisedView) (p : Property) (s : Size) (depth : ℕ) (offer : Option RoundoffOffer) → IsOfWords plant (gain_check w q p s depth offer)
has_gain plant w q (property.OfRuns run.Overflow) size.Unbounded depth offer =
    has_either plant (nat_le depth most_gain_depth) (depth_check w q depth offer) (misfit w)
    (has_outlook plant w (error_check w q offer) (outlook_of (of_controller q) (suc depth)) (has_error plant w q offer)) tt
has_gain plant w q p s depth offer = tt

has_coefficients : (plant : Option PlantView) (line : ℕ) (cs xs : List ℤ) → IsOfWords plant (coefficients_check line cs xs)
has_coefficients plant line [] xs = tt
has_coefficients plant line (c ∷ cs) [] = tt
has_coefficients plant line (c ∷ cs) (x ∷ xs) = has_either plant (int_eq c x) (coefficients_check (suc line) cs xs) (refused line fault.Table) (has_coefficients plant (suc line) cs xs) tt

has_table_verdict : (plant : Option PlantView) (w : CertWords) (v : TableVerdict) → IsOfWords plant (verdict_check w v)
has_table_verdict plant w table.Inside = tt
has_table_verdict plant w (table.NotInside row) = tt

has_table : (plant : Option PlantView) (w : CertWords) (c coefficients : List ℤ) → IsOfWords plant (table_check w c coefficients)
has_table plant w c coefficients =
    let line = body_line w in
    has_either plant (length coefficients == length c && nat_le (length coefficients) most_coefficients)
    (coefficients_check line coefficients c >>= λ x. verdict_check w (tables.verdict_of c)) (misfit w)
    (has_then plant (coefficients_check line coefficients c) (λ x. verdict_check w (tables.verdict_of c)) (has_coefficients plant line coefficients c) (λ x. has_table_verdict plant w (tables.verdict_of c))) tt

has_tested_table : (plant : Option PlantView) (w : CertWords) (r : Result Tested PolyWide) (coefficients : List ℤ) → IsOfWords plant (tested_table_check w r coefficients)
has_tested_table plant w (Ok (tested.Poly c)) coefficients = has_table plant w c coefficients
has_tested_table plant w (Ok tested.NoZeros) coefficients = tt
has_tested_table plant w (Err wide) coefficients = tt

has_roots_table : (plant : Option PlantView) (w : CertWords) (q : QuantisedView) (p : Property) (s : Size) (coefficients : List ℤ) → IsOfWords plant (roots_table_check w q p s coefficients)
has_roots_table plant w q (property.OfRoots p) size.NoSize coefficients = has_tested_table plant w (tested_of q (side_of p)) coefficients
has_roots_table plant w q p s coefficients = tt

-- ---- certificates
has_words : (plant : Option PlantView) (q : QuantisedView) (c : Certificate) → IsOfWords plant (words_check q c)
has_words plant q (certificate.Hints job log) = has_hints plant job.words q job.property job.size log
has_words plant q (certificate.Invariant job candidate logs) = has_invariant plant job.words q job.property job.size candidate logs
has_words plant q (certificate.Gain job depth offer) = has_gain plant job.words q job.property job.size depth offer
has_words plant q (certificate.Falls job offer) = has_falls plant job.words q job.property job.size offer
has_words plant q (certificate.Table job coefficients) = has_roots_table plant job.words q job.property job.size coefficients

-- ---- beside a plant
has_polynomial : (p : PlantView) (w : CertWords) (r : Result (List ℤ) LoopRefusal) (coefficients : List ℤ) → IsOfWords (Some p) (polynomial_check w r coefficients)
has_polynomial p w (Ok c) coefficients = has_table (Some p) w c coefficients
has_polynomial p w (Err why) coefficients = tt

has_loop : (w : CertWords) (q : QuantisedView) (time : Ratio) (plant : PlantView) (p : Property) (s : Size) (offer : List ℤ) → IsOfWords (Some plant) (loop_check w q time plant p s offer)
has_loop w q time plant (property.OfRoots root.Stability) size.OfLoop offer = has_polynomial plant w (loop_of (q ∷ []) time plant) offer
has_loop w q time plant p s offer = tt

has_loop_words : (q : QuantisedView) (time : Ratio) (plant : PlantView) (c : Certificate) → IsOfWords (Some plant) (words_loop_check q time plant c)
has_loop_words q time plant (certificate.Table job coefficients) = has_loop job.words q time plant job.property job.size coefficients
has_loop_words q time plant other = tt

-- ---- alone or beside one
pub found_has : (q : QuantisedView) (time : Ratio) (plant : Option PlantView) (c : Certificate) → IsOfWords plant (found_of q time plant c)
found_has q time None c = has_words None q c
found_has q time (Some plant) c = has_loop_words q time plant c
