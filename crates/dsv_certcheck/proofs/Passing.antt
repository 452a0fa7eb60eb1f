-- A claim that is so passes its check, and an offer that passes shows a range.
use Rattle.std.proofs.Common.{◌≡◌, ◌∙◌, ap, ℕ, suc, ◌+◌, ◌-◌, ◌<◌, ◌≤◌, nat_le, ◌==◌, ◌&&◌, Bool, true, false, List, [], ◌∷◌, length, Option, None, Result, Ok, Err, if◌then◌else◌, refl, arith}
use Rattle.std.proofs.Math.IntN.{ℤ}
use Rattle.std.proofs.lemmas.Bool.{and_from, le-leb, le-ltb, eq-eqb}
use Rattle.dsv_algebra.specs.Vectors.{vector_of}
use Rattle.dsv_text.specs.Stages.{◌>>=◌}
use Rattle.dsv_names.specs.declared.property.Property.TheVariants as property
use Rattle.dsv_names.specs.declared.property.RunProperty.{RunProperty}
use Rattle.dsv_names.specs.declared.property.RunProperty.TheVariants as run
use Rattle.dsv_names.specs.declared.property.RootProperty.{RootProperty}
use Rattle.dsv_names.specs.declared.property.RootProperty.TheVariants as root
use Rattle.dsv_fraction.specs.Ratio.{Ratio}
use Rattle.dsv_reader.specs.Controllers.{ControllerView}
use Rattle.dsv_reader.specs.Plants.{PlantView}
use Rattle.dsv_quantiser.specs.QuantisedView.{QuantisedView}
use Rattle.dsv_cnf.specs.FormulaView.{FormulaView}
use Rattle.dsv_hints.specs.Derivation.{verdict_of}
use Rattle.dsv_hints.specs.declared.step.Step.{Step}
use Rattle.dsv_hints.specs.declared.step.Verdict.TheVariants as verdict
use Rattle.dsv_unroll.specs.Goals.{most_size}
use Rattle.dsv_bounded.specs.RunQuestions.{question_formula, IsWithin, job_size_of}
use Rattle.dsv_forms.specs.Refusals.{falls_refusal}
use Rattle.dsv_forms.specs.declared.offers.Falls.{Falls}
use Rattle.dsv_forms.proofs.OfferLemmas.{falls_passes}
use Rattle.dsv_forms.proofs.PassingOffers.{same_test}
use Rattle.dsv_tested.specs.Tested.{side_of, tested_of}
use Rattle.dsv_tested.specs.declared.side.Tested.{Tested}
use Rattle.dsv_tested.specs.declared.side.Tested.TheVariants as tested
use Rattle.dsv_delta.specs.declared.refusal.PolyWide.{PolyWide}
use Rattle.dsv_table.specs.Table as tables
use Rattle.dsv_table.specs.declared.verdict.TableVerdict.TheVariants as table
use Rattle.dsv_loop.specs.Loops.{loop_of}
use Rattle.dsv_loop.specs.declared.refusal.LoopRefusal.{LoopRefusal}
use Rattle.dsv_template.specs.declared.candidate.Candidate.{Candidate}
use Rattle.dsv_template.specs.declared.verdict.SetPart.TheVariants as part
use Rattle.dsv_template.specs.declared.verdict.ThreeLogs.{ThreeLogs}
use Rattle.dsv_invariant.specs.Causes.{IsShaped, IsGood}
use Rattle.dsv_invariant.specs.Formulas.{set_formula_of}
use Rattle.dsv_invariant.specs.Limits.{unbounded_samples}
use Rattle.dsv_roundoff.specs.declared.offers.RoundoffOffer.{RoundoffOffer}
use Rattle.dsv_network.specs.declared.outlook.Gain.{Gain}
use Rattle.dsv_network.specs.declared.outlook.Outlook.TheVariants as outlook
use Rattle.dsv_certfile.specs.Lawful.{IsSize}
use Rattle.dsv_certfile.specs.Limits.{most_samples, most_gain_depth, narrow_word_bits, most_coefficients}
use Rattle.dsv_certfile.specs.Words.{words_for}
use Rattle.dsv_certfile.specs.declared.fault.CheckFault.TheVariants as fault
use Rattle.dsv_certfile.specs.declared.certificate.Certificate.TheVariants as certificate
use Rattle.dsv_certfile.specs.declared.job.CertifiedJob.{CertifiedJob}
use Rattle.dsv_certfile.specs.declared.job.CertWords.{CertWords}
use Rattle.dsv_certfile.specs.declared.job.CertWords.TheVariants as words
use Rattle.dsv_certfile.specs.declared.job.Size.TheVariants as size
use Rattle.dsv_certcheck.specs.Checks.{Checked, refused, format_check, misfit, size_check, verdict_at, log_check, run_check, is_some_samples, hints_check, sentences_check, shape_check, invariant_check, error_check, outlook_check, depth_check, gain_check, refusal_check, offer_check, tested_check, falls_check, coefficients_check, verdict_check, table_check, tested_table_check, roots_table_check}
use Rattle.dsv_certcheck.specs.LoopChecks.{polynomial_check, loop_check}
use Rattle.dsv_certcheck.specs.LineNumbers.{version_line_number, job_line_number, format_line_number, body_line, log_line}
use Rattle.dsv_certcheck.specs.StateChecks.{state_offer_check, is_stability, state_check}
use Rattle.dsv_certcheck.specs.declared.check_refusal.CheckRefusal.TheVariants as refusal
use Rattle.dsv_tested.proofs.TestedCoefficients.{some_coefficients}
use Rattle.dsv_state_space.specs.StateForms.{state_falls_refusal}
use Rattle.dsv_state_space.specs.StateView.{StateView, states}
use Rattle.dsv_state_space.proofs.StateOffers.{accepted_counted}
use Rattle.dsv_gain.specs.Subjects.{outlook_of}
use Rattle.dsv_realise.specs.Controllers.{of_controller}

-- what certificates of a controller say of its words is so
format_by : (c : ControllerView) (b : Bool) → nat_le (c.int_bits + c.frac_bits) narrow_word_bits ≡ b
    → format_check c (if b then words.Unsaid else words.Said c.int_bits c.frac_bits) ≡ Ok tt
format_by c true e = ap (λ b. if b then Ok tt else refused version_line_number fault.Format) e
format_by c false e =
    ap (λ b. if b then Ok tt else refused format_line_number fault.Format)
    (and_from (c.int_bits == c.int_bits) (c.frac_bits == c.frac_bits) (eq-eqb c.int_bits c.int_bits refl) (eq-eqb c.frac_bits c.frac_bits refl))

pub format_passes : (c : ControllerView) → format_check c (words_for c.int_bits c.frac_bits) ≡ Ok tt
format_passes c = format_by c (nat_le (c.int_bits + c.frac_bits) narrow_word_bits) refl

-- a question that is no larger than what is asked of formulas
size_passes : (q : QuantisedView) (samples : ℕ) → IsWithin (of_controller q) samples → size_check q samples ≡ Ok tt
size_passes q samples w =
    ap (λ b. if b then Err (refusal.JobSize (job_size_of (of_controller q) samples)) else Ok tt) (le-ltb most_size (job_size_of (of_controller q) samples) w)

-- ---- logs
log_passes : (formula : FormulaView) (line : ℕ) (log : List Step) → verdict_of formula log ≡ verdict.Accepted → log_check formula line log ≡ Ok tt
log_passes formula line log e = ap (verdict_at line) e

some_samples : (k : ℕ) → IsSize (size.Samples k) → is_some_samples k ≡ true
some_samples k s = and_from (nat_le 1 k) (nat_le k most_samples) (le-leb 1 k s.0) (le-leb k most_samples s.1)

pub hints_pass : (w : CertWords) (q : QuantisedView) (p : RunProperty) (k : ℕ) (log : List Step) → IsSize (size.Samples k) → IsWithin (of_controller q) k → verdict_of (question_formula p (of_controller q) k) log ≡ verdict.Accepted
    → hints_check w q (property.OfRuns p) (size.Samples k) log ≡ Ok tt
hints_pass w q p k log s within e =
    ap (λ b. if b then run_check w q p k log else misfit w) (some_samples k s)
    ∙ ap (λ (r : Checked). r >>= λ x. log_check (question_formula p (of_controller q) k) (body_line w) log) (size_passes q k within)
    ∙ log_passes (question_formula p (of_controller q) k) (body_line w) log e

-- ---- an invariant
pub invariant_passes : (w : CertWords) (q : QuantisedView) (conflicts : ℕ) (candidate : Candidate) (logs : ThreeLogs) → IsWithin (of_controller q) unbounded_samples → IsShaped q candidate → IsGood q conflicts candidate logs
    → invariant_check w q (property.OfRuns run.Overflow) size.Unbounded candidate logs ≡ Ok tt
invariant_passes w q conflicts candidate logs within shaped good =
    let safe = log_check (set_formula_of q candidate part.Safe) (log_line w part.Safe candidate logs) logs.safe in
    let step = log_check (set_formula_of q candidate part.Step) (log_line w part.Step candidate logs) logs.step in
    ap (λ (r : Checked). r >>= λ x. shape_check w q candidate >>= λ y. sentences_check w q candidate logs) (size_passes q unbounded_samples within)
    ∙ ap (λ (r : Checked). r >>= λ x. sentences_check w q candidate logs) (ap (λ b. if b then Ok tt else misfit w) shaped)
    ∙ ap (λ (r : Checked). r >>= λ x. step >>= λ y. safe) (log_passes (set_formula_of q candidate part.Base) (log_line w part.Base candidate logs) logs.base good.base.accepted)
    ∙ ap (λ (r : Checked). r >>= λ x. safe) (log_passes (set_formula_of q candidate part.Step) (log_line w part.Step candidate logs) logs.step good.step.accepted)
    ∙ log_passes (set_formula_of q candidate part.Safe) (log_line w part.Safe candidate logs) logs.safe good.safe.accepted

-- ---- a gain
-- with an offer beside it that passes, or with none
pub gain_passes : (w : CertWords) (q : QuantisedView) (depth : ℕ) (offer : Option RoundoffOffer) (gain : Gain) → depth ≤ most_gain_depth → outlook_of (of_controller q) (suc depth) ≡ outlook.Safe gain
    → error_check w q offer ≡ Ok tt → gain_check w q (property.OfRuns run.Overflow) size.Unbounded depth offer ≡ Ok tt
gain_passes w q depth offer gain within e h =
    ap (λ b. if b then depth_check w q depth offer else misfit w) (le-leb depth most_gain_depth within) ∙ ap (outlook_check w (error_check w q offer)) e ∙ h

-- ---- a form that falls
offer_passes : (w : CertWords) (c : List ℤ) (offer : Falls) → 0 < length c → falls_refusal c offer ≡ None → offer_check w c offer ≡ Ok tt
offer_passes w c offer some e =
    ap (λ b. if b then refusal_check w offer (falls_refusal c offer) else misfit w) (eq-eqb (offer.form.d + 1) (length c) (let o = (falls_passes (length c - 1) (vector_of c) offer e).places in omega (arith, some, o)))
    ∙ ap (refusal_check w offer) e

pub falls_pass : (w : CertWords) (q : QuantisedView) (p : RootProperty) (c : List ℤ) (offer : Falls) → tested_of q (side_of p) ≡ Ok (tested.Poly c) → falls_refusal c offer ≡ None
    → falls_check w q (property.OfRoots p) size.NoSize offer ≡ Ok tt
falls_pass w q p c offer t e = ap (λ (r : Result Tested PolyWide). tested_check w r offer) t ∙ offer_passes w c offer (some_coefficients q (side_of p) c t) e

-- ---- a table
own_coefficients : (line : ℕ) (c : List ℤ) → coefficients_check line c c ≡ Ok tt
own_coefficients line [] = refl
own_coefficients line (x ∷ xs) = ap (λ b. if b then coefficients_check (suc line) xs xs else refused line fault.Table) (same_test x x refl) ∙ own_coefficients (suc line) xs

table_passes : (w : CertWords) (c : List ℤ) → length c ≤ most_coefficients → tables.verdict_of c ≡ table.Inside → table_check w c c ≡ Ok tt
table_passes w c few inside =
    let line = body_line w in
    ap (λ b. if b && nat_le (length c) most_coefficients then (coefficients_check line c c >>= λ x. verdict_check w (tables.verdict_of c)) else misfit w) (eq-eqb (length c) (length c) refl)
    ∙ ap (λ b. if b then (coefficients_check line c c >>= λ x. verdict_check w (tables.verdict_of c)) else misfit w) (le-leb (length c) most_coefficients few)
    ∙ ap (λ (r : Checked). r >>= λ x. verdict_check w (tables.verdict_of c)) (own_coefficients line c)
    ∙ ap (verdict_check w) inside

-- the table of the tested polynomial has positive first numbers alone
pub roots_table_passes : (w : CertWords) (q : QuantisedView) (p : RootProperty) (c : List ℤ) → length c ≤ most_coefficients → tested_of q (side_of p) ≡ Ok (tested.Poly c) → tables.verdict_of c ≡ table.Inside
    → roots_table_check w q (property.OfRoots p) size.NoSize c ≡ Ok tt
roots_table_passes w q p c few t inside = ap (λ (r : Result Tested PolyWide). tested_table_check w r c) t ∙ table_passes w c few inside

-- so has that of the loop's polynomial
pub loop_passes : (w : CertWords) (q : QuantisedView) (time : Ratio) (plant : PlantView) (c : List ℤ) → length c ≤ most_coefficients → loop_of (q ∷ []) time plant ≡ Ok c → tables.verdict_of c ≡ table.Inside
    → loop_check w q time plant (property.OfRoots root.Stability) size.OfLoop c ≡ Ok tt
loop_passes w q time plant c few t inside = ap (λ (r : Result (List ℤ) LoopRefusal). polynomial_check w r c) t ∙ table_passes w c few inside

-- the form falls along the states of a controller's words
pub state_form_passes : (job : CertifiedJob) (s : StateView) (offer : Falls) → is_stability job.property ≡ true → state_falls_refusal s offer ≡ None → state_check s (certificate.Falls job offer) ≡ Ok tt
state_form_passes job s offer stable e =
    ap (λ b. if b then state_offer_check job.words s offer else refused job_line_number fault.Shape) stable
    ∙ ap (λ b. if b then refusal_check job.words offer (state_falls_refusal s offer) else misfit job.words) (eq-eqb offer.form.d (states s) (accepted_counted s offer e))
    ∙ ap (refusal_check job.words offer) e
