-- The certificate of an answer passes its check for what it is of.
use Rattle.std.proofs.Common.{◌≡◌, ◌∙◌, sym, subst, refl, ℕ, ◌≤◌, Bool, true, List, length, if◌then◌else◌, arith}
use Rattle.std.specs.Prelude.{Option, Some, None, Result, Ok}
use Rattle.std.proofs.Math.IntN.{ℤ}
use Rattle.dsv_names.specs.declared.property.Property.TheVariants.{OfRuns, OfRoots}
use Rattle.dsv_names.specs.declared.property.RunProperty.{RunProperty}
use Rattle.dsv_names.specs.declared.property.RunProperty.TheVariants.{Overflow}
use Rattle.dsv_names.specs.declared.property.RootProperty.{RootProperty}
use Rattle.dsv_quantiser.specs.QuantisedView.{QuantisedView}
use Rattle.dsv_forms.specs.declared.offers.Form.{Form}
use Rattle.dsv_forms.specs.declared.offers.Falls.{Falls}
use Rattle.dsv_hints.specs.declared.step.Step.{Step}
use Rattle.dsv_template.specs.declared.candidate.Candidate.{Candidate}
use Rattle.dsv_template.specs.declared.verdict.ThreeLogs.{ThreeLogs}
use Rattle.dsv_tested.specs.declared.side.Tested.TheVariants as tested
use Rattle.dsv_bounded.specs.RunQuestions.{question_formula}
use Rattle.dsv_forms.specs.Padded.{offer_alone}
use Rattle.dsv_forms.proofs.Alike.{accepted_alone}
use Rattle.dsv_forms.proofs.SmallOffers.{accepted_are_narrow}
use Rattle.dsv_meaning.specs.Equations.{order, registers_of}
use Rattle.dsv_invariant.specs.Formulas.{set_formula_of}
use Rattle.dsv_template.specs.declared.verdict.SetPart.TheVariants as part
use Rattle.dsv_certfile.specs.Lawful.{IsLawful, certificate_alone}
use Rattle.dsv_certfile.specs.Texts.{job_of, certificate_text}
use Rattle.dsv_certfile.specs.Typed.{IsTyped}
use Rattle.dsv_certfile.specs.declared.certificate.Certificate.{Certificate}
use Rattle.dsv_certfile.specs.declared.certificate.Certificate.TheVariants as certificate
use Rattle.dsv_certfile.specs.declared.job.CertWords.{CertWords}
use Rattle.dsv_certfile.specs.declared.job.Size.TheVariants as size
use Rattle.dsv_certfile.proofs.LawfulWritten.{hints_are_lawful, invariant_is_lawful, gain_is_lawful, falls_are_lawful, falls_text, table_is_lawful}
use Rattle.dsv_certfile.specs.Limits.{most_gain_depth, most_coefficients}
use Rattle.dsv_certfile.specs.declared.job.CertifiedJob.{CertifiedJob}
use Rattle.dsv_table.specs.RootSize.{is_inside}
use Rattle.dsv_table.specs.declared.finding.TableFinding.{TableFinding}
use Rattle.dsv_table.specs.declared.verdict.TableVerdict.{TableVerdict}
use Rattle.dsv_table.specs.declared.verdict.TableVerdict.TheVariants as table
use Rattle.dsv_certcheck.specs.Checks.{format_check}
use Rattle.dsv_certcheck.proofs.Passing.{format_passes, hints_pass, invariant_passes, gain_passes, falls_pass, roots_table_passes}
use Rattle.dsv_names.specs.declared.design.Design.{Design}
use Rattle.dsv_report.specs.declared.answers.Answer.{Answer}
use Rattle.dsv_report.specs.declared.answers.Answer.TheVariants as answer
use Rattle.dsv_report.specs.declared.answers.OutputError.{OutputError}
use Rattle.dsv_roundoff.specs.declared.offers.RoundoffOffer.{RoundoffOffer}
use Rattle.dsv_network.specs.declared.outlook.Gain.{Gain}
use Rattle.dsv_gain.proofs.GainLaws.{gains_again, gain_within}
use Rattle.dsv_realise.specs.Netlists.{net_of}
use Rattle.dsv_cli.specs.Gain.{most_gain_samples, IsErrorOf}
use Rattle.dsv_gain.specs.Subjects.{IsGainOf}
use Rattle.dsv_bounded.specs.RunAnswers.{NeverHappens}
use Rattle.dsv_invariant.specs.Sets.{KeepsTo}
use Rattle.dsv_cli.proofs.OutputErrors.{offer_passes, offer_lawful}
use Rattle.dsv_realise.specs.Controllers.{of_controller}
use Rattle.std.specs.Prelude.{option_and_then, Err, [], ◌∷◌}
use Rattle.dsv_names.specs.declared.property.Property.{Property}
use Rattle.dsv_names.specs.declared.property.RootProperty.TheVariants.{Stability}
use Rattle.dsv_reader.specs.Controllers.{ControllerView}
use Rattle.dsv_reader.specs.Plants.{PlantView}
use Rattle.dsv_quantiser.specs.Modes.{BecomesWords}
use Rattle.dsv_loop.specs.Loops.{loop_of}
use Rattle.dsv_loop.specs.declared.refusal.LoopRefusal.{LoopRefusal}
use Rattle.dsv_state_file.specs.StateFiles.{StateFileView}
use Rattle.dsv_state_space.specs.StateView.{StateView}
use Rattle.dsv_state_space.proofs.StateOffers.{accepted_states_narrow, accepted_states_alone}
use Rattle.dsv_certfile.specs.Words.{words_for}
use Rattle.dsv_certfile.specs.declared.job.Size.{Size}
use Rattle.dsv_certcheck.specs.Found.{found_of, BecomesFor, IsFoundAfter, IsChecked}
use Rattle.dsv_certcheck.specs.StateChecks.{state_check}
use Rattle.dsv_certcheck.proofs.Passing.{loop_passes, state_form_passes}
use Rattle.dsv_table.specs.Table as tables
use Rattle.dsv_command.specs.Table.{controller, states, plant_loop, Task, decides, searches, seeks_set, measures_gain, seeks_form, may_certify}
use Rattle.dsv_command.specs.declared.kind.Kind.TheVariants as of_kind
use Rattle.dsv_report.specs.Headings.{property_of}
use Rattle.dsv_report.specs.Output.{certificate_for, certified_design, certified_size, offer_in}
use Rattle.dsv_tested.specs.Tested.{side_of, tested_of}
use Rattle.dsv_cli.specs.Causes.{IsOfProperty}
use Rattle.dsv_lyapunov.specs.Shown.{ShowsFall}
use Rattle.dsv_poly_table.specs.Shown.{ShowsTable}
use Rattle.dsv_cli.specs.JobRows.{IsTaskDone}
use Rattle.dsv_cli.specs.Words.{of_words, of_state_words}
use Rattle.dsv_files.specs.JobTexts.{of_one, of_state_file, with_plant, Evidence}
use Rattle.dsv_cli.specs.Loops.{IsOfLoop}

-- With its places alone the certificate passes its check and is read back from its text.
pub record IsAcceptable (Passes : Certificate → Type 0) (c : Certificate) : Type 0 where
  pub passes : Passes (certificate_alone c)
  pub lawful : IsLawful (certificate_alone c)
  pub text : certificate_text (certificate_alone c) ≡ certificate_text c
  pub job : job_of (certificate_alone c) ≡ job_of c

abbrev pub PassesFor : ControllerView → Option PlantView → Certificate → Type 0
PassesFor d plant c = IsChecked d plant c (Ok tt)

abbrev pub PassesForStates : StateView → Certificate → Type 0
PassesForStates s c = state_check s c ≡ Ok tt

abbrev made : Design → CertWords → Property → Size → CertifiedJob
made design words p s = record { property = p; design = design; words = words; size = s }

-- what is said of the words is what the certificates of the controller have to say
said_format : (d : ControllerView) (words : CertWords) → words ≡ words_for d.int_bits d.frac_bits → format_check d words ≡ Ok tt
said_format d words e = subst (λ w. format_check d w ≡ Ok tt) (sym e) (format_passes d)

passes_for : (d : ControllerView) (plant : Option PlantView) (c : Certificate) (q : QuantisedView) → (job_of c).words ≡ words_for d.int_bits d.frac_bits → BecomesFor d (job_of c) (Ok q)
    → found_of q d.sample_time plant c ≡ Ok tt → PassesFor d plant c
passes_for d plant c q said b h = subst (λ r. IsFoundAfter r d plant c (Ok tt)) (sym (said_format d (job_of c).words said)) (record { quantised = q; becomes = b; checked = h })

-- a certificate is wanted of a table whose first numbers are positive alone
wanted_table : (job : CertifiedJob) (v : TableVerdict) (poly : List ℤ) (c : Certificate) → (if is_inside v then Some (certificate.Table job poly) else None) ≡ Some c → (v ≡ table.Inside) × (certificate.Table job poly ≡ c)
wanted_table job table.Inside poly c e = (refl, cc)
wanted_table job (table.NotInside row) poly c e = absurd (cc)

the_same : (c d : Certificate) → Some c ≡ Some d → c ≡ d
the_same c d e = cc

not_none : (c : Certificate) → None ≡ Some c → ⊥
not_none c e = cc

-- ---- of a controller
module _ (d : ControllerView) (q : QuantisedView) (design : Design) (words : CertWords) (becomes : BecomesWords d design (Ok q)) (said : words ≡ words_for d.int_bits d.frac_bits) where
  abbrev hints_for : RunProperty → ℕ → List Step → Certificate
  hints_for p samples log = certificate.Hints (made design words (OfRuns p) (size.Samples samples)) log

  hints_fit : (p : RunProperty) (samples conflicts : ℕ) (log : List Step) → NeverHappens p samples conflicts (of_controller q) log → IsTyped (hints_for p samples log) → IsAcceptable (PassesFor d None) (hints_for p samples log)
  hints_fit p samples conflicts log n t = record {
    passes = passes_for d None (hints_for p samples log) q said becomes (hints_pass words q p samples log t.size n.within n.refuted.accepted);
    lawful = hints_are_lawful (question_formula p (of_controller q) samples) conflicts (made design words (OfRuns p) (size.Samples samples)) log refl t n.refuted;
    text = refl;
    job = refl;
  }

  abbrev invariant_for : Candidate → ThreeLogs → Certificate
  invariant_for candidate logs = certificate.Invariant (made design words (OfRuns Overflow) size.Unbounded) candidate logs

  invariant_fits : (conflicts : ℕ) (candidate : Candidate) (logs : ThreeLogs) → KeepsTo q conflicts candidate logs → IsTyped (invariant_for candidate logs) → IsAcceptable (PassesFor d None) (invariant_for candidate logs)
  invariant_fits conflicts candidate logs k t = record {
    passes = passes_for d None (invariant_for candidate logs) q said becomes (invariant_passes words q conflicts candidate logs k.within k.good.0 k.good.1);
    lawful = invariant_is_lawful (registers_of q.realisation (order q)) conflicts (set_formula_of q candidate part.Base) (set_formula_of q candidate part.Step) (set_formula_of q candidate part.Safe)
        (made design words (OfRuns Overflow) size.Unbounded) candidate logs refl t k.good.0 (record { of_base = k.good.1.base; of_step = k.good.1.step; of_safe = k.good.1.safe });
    text = refl;
    job = refl;
  }

  abbrev gain_for : ℕ → Option RoundoffOffer → Certificate
  gain_for depth offer = certificate.Gain (made design words (OfRuns Overflow) size.Unbounded) depth offer

  gain_fits : (gain : Gain) (found : OutputError) → IsGainOf most_gain_samples (of_controller q) gain → IsErrorOf q found → IsTyped (gain_for gain.depth (offer_in found)) → IsAcceptable (PassesFor d None) (gain_for gain.depth (offer_in found))
  gain_fits gain found k e t =
      let within = gain_within (net_of q) q.xlo q.xhi most_gain_samples gain k.found in
      let again = gains_again (net_of q) q.xlo q.xhi most_gain_samples gain k.found in
      let deep : gain.depth ≤ most_gain_depth = omega (arith, within.0, within.1) in
      record {
        passes = passes_for d None (gain_for gain.depth (offer_in found)) q said becomes (gain_passes words q gain.depth (offer_in found) again.0 deep again.1 (offer_passes words q found e));
        lawful = gain_is_lawful (made design words (OfRuns Overflow) size.Unbounded) gain.depth (offer_in found) refl t deep (offer_lawful q found e);
        text = refl;
        job = refl;
      }

  abbrev falls_for : RootProperty → Falls → Certificate
  falls_for p offer = certificate.Falls (made design words (OfRoots p) size.NoSize) offer

  falls_fit : (p : RootProperty) (poly : List ℤ) (offer : Falls) (fall : Form) → tested_of q (side_of p) ≡ Ok (tested.Poly poly) → ShowsFall poly offer fall → IsTyped (falls_for p offer) → IsAcceptable (PassesFor d None) (falls_for p offer)
  falls_fit p poly offer fall test s known =
      let certified = made design words (OfRoots p) size.NoSize in
      let narrow = accepted_are_narrow poly offer s.accepted in
      record {
        passes = passes_for d None (falls_for p (offer_alone offer)) q said becomes (falls_pass words q p poly (offer_alone offer) test (accepted_alone poly offer known.places s.accepted));
        lawful = falls_are_lawful certified offer refl known narrow;
        text = falls_text certified offer known narrow;
        job = refl;
      }

  abbrev table_for : RootProperty → List ℤ → Certificate
  table_for p poly = certificate.Table (made design words (OfRoots p) size.NoSize) poly

  table_fits : (p : RootProperty) (found : TableFinding) → tested_of q (side_of p) ≡ Ok (tested.Poly found.poly) → ShowsTable found → found.verdict ≡ table.Inside → IsTyped (table_for p found.poly)
      → IsAcceptable (PassesFor d None) (table_for p found.poly)
  table_fits p found test s inside known =
      let few : length found.poly ≤ most_coefficients = omega (arith, s.few) in
      record {
        passes = passes_for d None (table_for p found.poly) q said becomes (roots_table_passes words q p found.poly few test (sym s.finding.verdict ∙ inside));
        lawful = table_is_lawful (made design words (OfRoots p) size.NoSize) found.poly refl known s.finding.some few;
        text = refl;
        job = refl;
      }

  -- the certificate of an answer to a question of roots
  roots_fit : (p : RootProperty) (sc : Bool) (found : Answer) (c : Certificate) → IsOfProperty p sc q (Ok found) → certificate_for (made design words (OfRoots p) size.NoSize) found ≡ Some c → IsTyped c → IsAcceptable (PassesFor d None) c
  roots_fit p sc (answer.Falls poly offer fall) c h e known =
      let is = the_same (falls_for p offer) c e in
      let test = subst (λ x. tested_of q (side_of p) ≡ Ok (tested.Poly x)) (sym h.decision.0) h.tested in
      subst (IsAcceptable (PassesFor d None)) is (falls_fit p poly offer fall test h.decision.1 (subst IsTyped (sym is) known))
  roots_fit p sc (answer.OfTable found) c h e known =
      let w = wanted_table (made design words (OfRoots p) size.NoSize) found.verdict found.poly c e in
      let test = subst (λ x. tested_of q (side_of p) ≡ Ok (tested.Poly x)) (sym h.decision.0) h.tested in
      subst (IsAcceptable (PassesFor d None)) w.1 (table_fits p found test h.decision.2 w.0 (subst IsTyped (sym w.1) known))
  roots_fit p sc (answer.KeptAway poly offer fall value) c h e known = absurd (not_none c e)
  roots_fit p sc (answer.NoForm poly kept verdict) c h e known = absurd (not_none c e)
  roots_fit p sc answer.NoZeros c h e known = absurd (not_none c e)
  roots_fit p sc (answer.Wide index) c h e known = absurd (not_none c e)
  roots_fit p sc found c h e known = absurd h.decision

  pub controller_fits : (file : List ℕ) (task : Task) (evidence : Evidence) (found : Answer) (c : Certificate) → may_certify of_kind.Controller task ≡ true → IsTaskDone task evidence (of_one d) (of_words q) (Ok found)
      → option_and_then (λ p. certificate_for (made design words p (certified_size (controller file) task)) found) (property_of task) ≡ Some c → IsTyped c → IsAcceptable (PassesFor d None) c
  controller_fits file (searches p samples conflicts) evidence (answer.Never log) c m h e known =
      let is = the_same (hints_for p samples log) c e in
      subst (IsAcceptable (PassesFor d None)) is (hints_fit p samples conflicts log h (subst IsTyped (sym is) known))
  controller_fits file (searches p samples conflicts) evidence (answer.Overflow trace) c m h e known = absurd (not_none c e)
  controller_fits file (searches p samples conflicts) evidence (answer.Cycles cycle) c m h e known = absurd (not_none c e)
  controller_fits file (searches p samples conflicts) evidence (answer.Spent log) c m h e known = absurd (not_none c e)
  controller_fits file (searches p samples conflicts) evidence found c m h e known = absurd h
  controller_fits file (seeks_set conflicts) evidence (answer.Always candidate logs) c m h e known =
      let is = the_same (invariant_for candidate logs) c e in
      subst (IsAcceptable (PassesFor d None)) is (invariant_fits conflicts candidate logs h (subst IsTyped (sym is) known))
  controller_fits file (seeks_set conflicts) evidence (answer.NoInvariant kept) c m h e known = absurd (not_none c e)
  controller_fits file (seeks_set conflicts) evidence found c m h e known = absurd h
  controller_fits file measures_gain evidence (answer.InRanges gain error) c m h e known =
      let is = the_same (gain_for gain.depth (offer_in error)) c e in
      subst (IsAcceptable (PassesFor d None)) is (gain_fits gain error h.0 h.1 (subst IsTyped (sym is) known))
  controller_fits file measures_gain evidence (answer.Overflow trace) c m h e known = absurd (not_none c e)
  controller_fits file measures_gain evidence (answer.OutOfRange sample value) c m h e known = absurd (not_none c e)
  controller_fits file measures_gain evidence (answer.TooDeep depth) c m h e known = absurd (not_none c e)
  controller_fits file measures_gain evidence found c m h e known = absurd h
  controller_fits file (decides p sc) evidence found c m h e known = roots_fit p sc found c h e known
  controller_fits file task evidence found c m h e known = absurd (cc)

-- ---- of a loop
-- the polynomial of a loop that its table decides
record IsOfPolynomial (came : Result (List ℤ) LoopRefusal) (poly : List ℤ) (v : TableVerdict) : Type 0 where
  pub came_is : came ≡ Ok poly
  pub few : length poly ≤ most_coefficients
  pub some : 1 ≤ length poly
  pub verdict_is : tables.verdict_of poly ≡ v

decided : (came : Result (List ℤ) LoopRefusal) (found : TableFinding) → IsOfLoop came (Ok (answer.OfTable found)) → length found.poly ≤ most_coefficients → IsOfPolynomial came found.poly found.verdict
decided (Ok cs) found h few =
    let same : cs ≡ found.poly = sym h.poly in
    let short : length cs ≤ most_coefficients = rw h.poly at few in
    subst (λ ps. IsOfPolynomial (Ok cs) ps found.verdict) same (record { came_is = refl; few = short; some = h.some; verdict_is = sym h.verdict })
decided (Err why) found h few = absurd h

loop_table_fits : (d : ControllerView) (p : PlantView) (q : QuantisedView) (design : Design) (words : CertWords) (poly : List ℤ) → BecomesWords d design (Ok q) → words ≡ words_for d.int_bits d.frac_bits
    → IsOfPolynomial (loop_of (q ∷ []) d.sample_time p) poly table.Inside → IsTyped (certificate.Table (made design words (OfRoots Stability) size.OfLoop) poly)
    → IsAcceptable (PassesFor d (Some p)) (certificate.Table (made design words (OfRoots Stability) size.OfLoop) poly)
loop_table_fits d p q design words poly becomes said is known =
    let certified = made design words (OfRoots Stability) size.OfLoop in
    record {
      passes = passes_for d (Some p) (certificate.Table certified poly) q said becomes (loop_passes words q d.sample_time p poly is.few is.came_is is.verdict_is);
      lawful = table_is_lawful certified poly refl known is.some is.few;
      text = refl;
      job = refl;
    }

abbrev IsTabled : Answer → Type 0
IsTabled (answer.OfTable found) = Unit {0}
IsTabled other = ⊥

loop_tabled : (came : Result (List ℤ) LoopRefusal) (found : Answer) → IsOfLoop came (Ok found) → IsTabled found
loop_tabled (Ok poly) (answer.OfTable found) h = tt
loop_tabled (Ok poly) found h = absurd h
loop_tabled (Err why) found h = absurd h

pub loop_fits : (d : ControllerView) (p : PlantView) (q : QuantisedView) (design : Design) (words : CertWords) (file plant : List ℕ) (task : Task) (evidence : Evidence) (found : Answer) (c : Certificate) → BecomesWords d design (Ok q)
    → words ≡ words_for d.int_bits d.frac_bits → may_certify of_kind.Loop task ≡ true → IsTaskDone task evidence (with_plant d p) (of_words q) (Ok found)
    → option_and_then (λ r. certificate_for (made design words r (certified_size (plant_loop file plant) task)) found) (property_of task) ≡ Some c → IsTyped c → IsAcceptable (PassesFor d (Some p)) c
loop_fits d p q design words file plant (decides Stability sc) evidence (answer.OfTable found) c becomes said m h e known =
    let certified = made design words (OfRoots Stability) size.OfLoop in
    let w = wanted_table certified found.verdict found.poly c e in
    subst (IsAcceptable (PassesFor d (Some p))) w.1
    (loop_table_fits d p q design words found.poly becomes said (subst (IsOfPolynomial (loop_of (q ∷ []) d.sample_time p) found.poly) w.0 (decided (loop_of (q ∷ []) d.sample_time p) found h.0 h.1)) (subst IsTyped (sym w.1) known))
loop_fits d p q design words file plant (decides Stability sc) evidence found c becomes said m h e known = absurd (loop_tabled (loop_of (q ∷ []) d.sample_time p) found h.0)
loop_fits d p q design words file plant (decides property sc) evidence found c becomes said m h e known = absurd h
loop_fits d p q design words file plant task evidence found c becomes said m h e known = absurd (cc)

-- ---- of a state-space controller
pub states_fit : (s : StateView) (t : StateFileView) (design : Design) (words : CertWords) (file : List ℕ) (task : Task) (evidence : Evidence) (found : Answer) (c : Certificate) → may_certify of_kind.States task ≡ true
    → IsTaskDone task evidence (of_state_file t) (of_state_words s) (Ok found)
    → option_and_then (λ p. certificate_for (made (certified_design (states file) design) words p (certified_size (states file) task)) found) (property_of task) ≡ Some c → IsTyped c → IsAcceptable (PassesForStates s) c
states_fit s t design words file seeks_form evidence (answer.StateFalls many offer fall) c m h e known =
    let job = made (certified_design (states file) design) words (OfRoots Stability) size.NoSize in
    let is = the_same (certificate.Falls job offer) c e in
    let narrow = accepted_states_narrow s offer h.accepted in
    let typed = subst IsTyped (sym is) known in
    subst (IsAcceptable (PassesForStates s)) is (record {
      passes = state_form_passes job s (offer_alone offer) refl (accepted_states_alone s offer typed.places h.accepted);
      lawful = falls_are_lawful job offer refl typed narrow;
      text = falls_text job offer typed narrow;
      job = refl;
    })
states_fit s t design words file seeks_form evidence answer.NoStateForm c m h e known = absurd (not_none c e)
states_fit s t design words file seeks_form evidence found c m h e known = absurd h
states_fit s t design words file task evidence found c m h e known = absurd (cc)
