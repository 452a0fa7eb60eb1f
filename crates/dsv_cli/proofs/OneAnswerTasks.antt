-- A task for a quantised controller has one answer.
use Rattle.std.proofs.Common.{◌≡◌, ◌∙◌, ◌⊎◌, inl, inr, sym, ap, subst, refl, ℕ, ◌<◌, ◌≤◌, Bool, true, false, List, [], ◌∷◌, arith}
use Rattle.std.specs.Prelude.{Result, Ok, Err, slice_get}
use Rattle.std.proofs.Math.IntN.{ℤ}
use Rattle.dsv_word.specs.declared.format.Format.{Format}
use Rattle.dsv_word.specs.Words.{IsWord}
use Rattle.dsv_quantiser.specs.QuantisedView.{QuantisedView}
use Rattle.dsv_forms.specs.declared.offers.Form.{Form}
use Rattle.dsv_forms.specs.declared.offers.Falls.{Falls}
use Rattle.dsv_forms.specs.declared.offers.KeptAway.{KeptAway}
use Rattle.dsv_forms.specs.declared.offers.FormOffer.TheVariants as offered
use Rattle.dsv_delta.specs.declared.refusal.PolyWide.{PolyWide}
use Rattle.dsv_tested.specs.Tested.{side_of, tested_of}
use Rattle.dsv_tested.specs.declared.side.Tested.{Tested}
use Rattle.dsv_tested.specs.declared.side.Tested.TheVariants as tested
use Rattle.dsv_names.specs.declared.property.RootProperty.{RootProperty}
use Rattle.dsv_names.specs.declared.property.RootProperty.TheVariants.{Stability}
use Rattle.dsv_realise.specs.SubjectView.{SubjectView}
use Rattle.dsv_cascade.specs.Cascades.{CascadeView, sections_of, cascade_of}
use Rattle.dsv_state_space.specs.Equations.{state_space_of}
use Rattle.dsv_state_space.specs.StateView.{StateView}
use Rattle.dsv_loop.specs.Loops.{loop_of}
use Rattle.dsv_loop.specs.declared.refusal.LoopRefusal.{LoopRefusal}
use Rattle.dsv_certfile.specs.declared.certificate.Certificate.{Certificate}
use Rattle.dsv_certfile.specs.declared.ellipsoid.Ellipsoid.{Ellipsoid}
use Rattle.dsv_command.specs.Table.{Task, decides, checks_time, writes, searches, seeks_set, measures_gain, simulates, checks_form, seeks_form, checks_ellipsoid, seeks_ellipsoid, runs_file, tells_words, emits_code, emits_test, emits_file_test}
use Rattle.dsv_report.specs.declared.answers.Answer.{Answer}
use Rattle.dsv_report.specs.declared.answers.OutputError.{OutputError}
use Rattle.dsv_report.specs.declared.answers.Answer.TheVariants as answer
use Rattle.dsv_report.specs.declared.stop.Stop.TheVariants as stop
use Rattle.dsv_report.specs.Stops.{Outcome}
use Rattle.dsv_lyapunov.specs.Shown.{ShowsFall, ShowsKeptAway}
use Rattle.dsv_cli.specs.Proposers.{HasClosedForm}
use Rattle.dsv_cli.specs.Simulating.{IsOfRun}
use Rattle.dsv_cli.specs.Emitting.{members_of, origin_of, IsOfCode, IsOfCodeTest}
use Rattle.dsv_ctext.specs.declared.names.MemberName.{MemberName}
use Rattle.dsv_ctext.specs.declared.remarks.Origin.{Origin}
use Rattle.dsv_word.specs.Words.{IsFirstOutside}
use Rattle.dsv_cli.specs.Searching.{IsOfFormula, IsOfSearch}
use Rattle.dsv_meaning.specs.Equations.{Past}
use Rattle.dsv_meaning.specs.Systems.{equations_of}
use Rattle.dsv_names.specs.declared.property.RunProperty.{RunProperty}
use Rattle.dsv_names.specs.declared.property.RunProperty.TheVariants as run
use Rattle.dsv_meaning.specs.declared.replays.Cycle.{Cycle}
use Rattle.dsv_meaning.specs.declared.replays.Trace.{Trace}
use Rattle.dsv_network.specs.declared.outlook.Gain.{Gain}
use Rattle.dsv_network.specs.declared.outlook.Outlook.{Outlook}
use Rattle.dsv_network.specs.declared.outlook.Outlook.TheVariants as outlook
use Rattle.dsv_cli.specs.Gain.{most_gain_samples, IsOfGain}
use Rattle.dsv_bounded.specs.RunQuestions.{Happens, IsCycle}
use Rattle.dsv_bounded.proofs.Verdicts.{trace_breaks, cycle_cycles}
use Rattle.dsv_cli.specs.Causes.{IsDecision, IsOfProperty, IsOfTiming, IsOfSets}
use Rattle.dsv_cli.specs.Ellipsoids.{IsOfOffer, IsOfSoughtEllipsoid}
use Rattle.dsv_cli.specs.JobRows.{subject_of, ErrorIs, IsOfSections, IsTaskDone, IsOfCheck}
use Rattle.dsv_cli.specs.Words.{JobWords, of_words, of_series, of_state_words}
use Rattle.dsv_files.specs.JobTexts.{JobTexts, of_one, of_sections, of_state_file, with_plant, sections_with_plant, Evidence, certificate, ellipsoid, input_list}
use Rattle.dsv_cli.specs.Loops.{IsOfLoop}
use Rattle.dsv_cli.specs.States.{IsOfForm, IsOfSoughtForm, IsOfStateTable}
use Rattle.dsv_timing.specs.Cycles.{IsTimingOf, IsOnTime}
use Rattle.dsv_reader.specs.Controllers.{ControllerView}
use Rattle.dsv_timing.specs.Cycles.{cycles_of}
use Rattle.dsv_timing.specs.declared.work.TimingReport.{TimingReport}
use Rattle.dsv_netlist.specs.declared.netlist.OpCounts.{OpCounts}
use Rattle.dsv_fraction.specs.Ratio.{Ratio}
use Rattle.dsv_cli.specs.OneAnswer.{SameAnswer, IsSettled}
use Rattle.dsv_gain.specs.Subjects.{outlook_of}
use Rattle.dsv_realise.specs.Runs.{IsTrace}
use Rattle.dsv_realise.specs.Controllers.{of_controller}
use Rattle.dsv_cli.proofs.OneForms.{one_fall, offer_falls, offer_kept_away, kinds_apart, one_closed, value_of}
use Rattle.dsv_cli.proofs.OneTested.{one_poly, poly_or_none, poly_or_wide, none_or_wide, one_refusal}
use Rattle.dsv_cli.proofs.OneSections.{one_judgement, one_tabling}
use Rattle.dsv_files.proofs.Pairwise.{before_place}

-- ---- decisions
falls_once : (p q : List ℤ) (o u : Falls) (f g : Form) → HasClosedForm p → p ≡ q → ShowsFall p o f → ShowsFall q u g → SameAnswer (Ok (answer.Falls p o f)) (Ok (answer.Falls q u g))
falls_once p q o u f g c e h k =
    let offers = offer_falls o u (one_closed p q (offered.Falls o) (offered.Falls u) e c h.closed_form k.closed_form) in
    (e, offers, one_fall p q o.form u.form f g e (ap (λ (x : Falls). x.form) offers) h.fall_form k.fall_form)

kept_away_once : (p q : List ℤ) (o u : KeptAway) (f g : Form) (v w : ℤ) → HasClosedForm p → p ≡ q → ShowsKeptAway p o f v → ShowsKeptAway q u g w
    → SameAnswer (Ok (answer.KeptAway p o f v)) (Ok (answer.KeptAway q u g w))
kept_away_once p q o u f g v w c e h k =
    let offers = offer_kept_away o u (one_closed p q (offered.KeptAway o) (offered.KeptAway u) e c h.closed_form k.closed_form) in (
      e,
      offers,
      one_fall p q o.form u.form f g e (ap (λ (x : KeptAway). x.form) offers) h.fall_form k.fall_form,
      h.value_at ∙ ap (λ poly. value_of poly o) e ∙ ap (value_of q) offers ∙ sym k.value_at,
    )

falls_or_not : (p q : List ℤ) (o : Falls) (u : KeptAway) (f g : Form) (w : ℤ) → HasClosedForm p → p ≡ q → ShowsFall p o f → ShowsKeptAway q u g w → ⊥
falls_or_not p q o u f g w c e h k = kinds_apart o u (one_closed p q (offered.Falls o) (offered.KeptAway u) e c h.closed_form k.closed_form)

-- what a property's tested polynomial leads to
abbrev Leads : Result Tested PolyWide → Outcome → Type 0
Leads outcome (Ok (answer.Falls p o f)) = (outcome ≡ Ok (tested.Poly p)) × ShowsFall p o f
Leads outcome (Ok (answer.KeptAway p o f v)) = (outcome ≡ Ok (tested.Poly p)) × ShowsKeptAway p o f v
Leads outcome (Ok answer.NoZeros) = outcome ≡ Ok tested.NoZeros
Leads outcome (Ok (answer.Wide index)) = outcome ≡ Err (record { index = index })
Leads outcome other = ⊥

one_wide : (r : Result Tested PolyWide) (i j : ℕ) → r ≡ Err (record { index = i }) → r ≡ Err (record { index = j }) → SameAnswer (Ok (answer.Wide i)) (Ok (answer.Wide j))
one_wide r i j h k = ap (λ (w : PolyWide). Ok (answer.Wide w.index)) (one_refusal r (record { index = i }) (record { index = j }) h k)

one_decision : (r : Result Tested PolyWide) (a b : Outcome) → IsSettled a → IsSettled b → Leads r a → Leads r b → SameAnswer a b
one_decision r (Ok (answer.Falls p o f)) (Ok (answer.Falls q u g)) x y h k = falls_once p q o u f g x (one_poly r p q h.0 k.0) h.1 k.1
one_decision r (Ok (answer.Falls p o f)) (Ok (answer.KeptAway q u g w)) x y h k = absurd (falls_or_not p q o u f g w x (one_poly r p q h.0 k.0) h.1 k.1)
one_decision r (Ok (answer.Falls p o f)) (Ok answer.NoZeros) x y h k = absurd (poly_or_none r p h.0 k)
one_decision r (Ok (answer.Falls p o f)) (Ok (answer.Wide j)) x y h k = absurd (poly_or_wide r p (record { index = j }) h.0 k)
one_decision r (Ok (answer.Falls p o f)) b x y h k = absurd k
one_decision r (Ok (answer.KeptAway p o f v)) (Ok (answer.KeptAway q u g w)) x y h k = kept_away_once p q o u f g v w x (one_poly r p q h.0 k.0) h.1 k.1
one_decision r (Ok (answer.KeptAway p o f v)) (Ok (answer.Falls q u g)) x y h k = absurd (falls_or_not q p u o g f v y (one_poly r q p k.0 h.0) k.1 h.1)
one_decision r (Ok (answer.KeptAway p o f v)) (Ok answer.NoZeros) x y h k = absurd (poly_or_none r p h.0 k)
one_decision r (Ok (answer.KeptAway p o f v)) (Ok (answer.Wide j)) x y h k = absurd (poly_or_wide r p (record { index = j }) h.0 k)
one_decision r (Ok (answer.KeptAway p o f v)) b x y h k = absurd k
one_decision r (Ok answer.NoZeros) (Ok answer.NoZeros) x y h k = refl
one_decision r (Ok answer.NoZeros) (Ok (answer.Falls q u g)) x y h k = absurd (poly_or_none r q k.0 h)
one_decision r (Ok answer.NoZeros) (Ok (answer.KeptAway q u g w)) x y h k = absurd (poly_or_none r q k.0 h)
one_decision r (Ok answer.NoZeros) (Ok (answer.Wide j)) x y h k = absurd (none_or_wide r (record { index = j }) h k)
one_decision r (Ok answer.NoZeros) b x y h k = absurd k
one_decision r (Ok (answer.Wide i)) (Ok (answer.Wide j)) x y h k = one_wide r i j h k
one_decision r (Ok (answer.Wide i)) (Ok (answer.Falls q u g)) x y h k = absurd (poly_or_wide r q (record { index = i }) k.0 h)
one_decision r (Ok (answer.Wide i)) (Ok (answer.KeptAway q u g w)) x y h k = absurd (poly_or_wide r q (record { index = i }) k.0 h)
one_decision r (Ok (answer.Wide i)) (Ok answer.NoZeros) x y h k = absurd (none_or_wide r (record { index = i }) k h)
one_decision r (Ok (answer.Wide i)) b x y h k = absurd k
one_decision r a b x y h k = absurd h

-- ---- runs
-- what holds of each number of a list, or of each before a place, holds of the one at a place, or before it
pub one_outside : (format : Format) (inputs : List ℤ) (i j : ℕ) (v w : ℤ) → IsFirstOutside format inputs i v → IsFirstOutside format inputs j w
    → (i ≡ j) ⊎ ((i < j) ⊎ (j < i)) → SameAnswer (Err (stop.InputRange i v)) (Err (stop.InputRange j w))
one_outside format inputs i j v w h k (inl e) =
    let at = h.there in
    let there = k.there in
    let same = ap (slice_get inputs) e in
    let values : v ≡ w = cc in cc
one_outside format inputs i j v w h k (inr (inl l)) = absurd (h.outside (before_place (IsWord format) inputs i j v h.there l k.before))
one_outside format inputs i j v w h k (inr (inr l)) = absurd (k.outside (before_place (IsWord format) inputs j i w k.there l h.before))

-- two answers that are settled are one
abbrev pub HasOne : (Outcome → Type 0) → Type 0
HasOne HasRow = (a b : Answer) → IsSettled (Ok a) → IsSettled (Ok b) → HasRow (Ok a) → HasRow (Ok b) → SameAnswer (Ok a) (Ok b)

one_run : (s : SubjectView) (inputs : List ℤ) (outputs : Bool) → HasOne (IsOfRun s inputs outputs)
one_run s inputs false (answer.Simulated r) (answer.Simulated t) x y h k = ap (λ it. Ok (answer.Simulated it)) (h.rows ∙ sym k.rows)
one_run s inputs false (answer.Simulated r) b x y h k = absurd k
one_run s inputs true (answer.Outputs r) (answer.Outputs t) x y h k = ap (λ it. Ok (answer.Outputs it)) (h.rows ∙ sym k.rows)
one_run s inputs true (answer.Outputs r) b x y h k = absurd k
one_run s inputs false a b x y h k = absurd h
one_run s inputs true a b x y h k = absurd h

one_words : (e : Evidence) (texts : JobTexts) (words : JobWords) → HasOne (IsTaskDone tells_words e texts words)
one_words e texts words answer.Words b x y h k = sym k
one_words e texts words a b x y h k = absurd (cc)

one_code : (s : SubjectView) (prefix : List ℕ) (members : List MemberName) (origin : Origin) → HasOne (IsOfCode s prefix members origin)
one_code s prefix members origin (answer.Code t) (answer.Code u) x y h k = ap (λ it. Ok (answer.Code it)) (h.text_is ∙ sym k.text_is)
one_code s prefix members origin (answer.Code t) b x y h k = absurd k
one_code s prefix members origin a b x y h k = absurd h

one_test : (s : SubjectView) (prefix : List ℕ) (members : List MemberName) (origin : Origin) (inputs : List ℤ) → HasOne (IsOfCodeTest s prefix members origin inputs)
one_test s prefix members origin inputs (answer.Code t) (answer.Code u) x y h k = ap (λ it. Ok (answer.Code it)) (h.1.text_is ∙ sym k.1.text_is)
one_test s prefix members origin inputs (answer.Code t) b x y h k = absurd k
one_test s prefix members origin inputs a b x y h k = absurd h

-- ---- questions about runs
pub within_or_large : (size given limit : ℕ) → size ≤ limit → given ≡ size → limit < given → ⊥
within_or_large size given limit h e k = omega (arith, h, e, k)

one_formula : (p : RunProperty) (n : ℕ) (s : SubjectView) → HasOne (IsOfFormula p n s)
one_formula p n s (answer.FormulaText f) (answer.FormulaText g) x y h k = ap (λ it. Ok (answer.FormulaText it)) (h.formula_of ∙ sym k.formula_of)
one_formula p n s (answer.FormulaText f) b x y h k = absurd k
one_formula p n s a b x y h k = absurd h

-- a trace or a cycle shows that it happens
breaks_in : (words : JobWords) (n : ℕ) (trace : Trace) → IsTrace (subject_of words) n trace → Happens run.Overflow (subject_of words) n
breaks_in (of_words q) n trace h = trace_breaks Past (equations_of q) q.xlo q.xhi n trace h
breaks_in (of_series s) n trace h = trace_breaks (List Past) (cascade_of s) s.first.xlo s.first.xhi n trace h
breaks_in (of_state_words s) n trace h = trace_breaks (List ℤ) (state_space_of s) s.xlo s.xhi n trace h

broken_by : (p : RunProperty) (n : ℕ) (words : JobWords) (trace : Trace) → p ≡ run.Overflow → IsTrace (subject_of words) n trace → (Happens p (subject_of words) n → ⊥) → ⊥
broken_by p n words trace e h never = never (subst (λ q. Happens q (subject_of words) n) (sym e) (breaks_in words n trace h))

cycled_by : (p : RunProperty) (n : ℕ) (s : SubjectView) (cycle : Cycle) → p ≡ run.LimitCycle → IsCycle s n cycle → (Happens p s n → ⊥) → ⊥
cycled_by p n s cycle e h never = never (subst (λ q. Happens q s n) (sym e) (cycle_cycles s.runs n cycle h))

two_properties : (p : RunProperty) → p ≡ run.Overflow → p ≡ run.LimitCycle → ⊥
two_properties p e f = cc

one_search : (p : RunProperty) (n conflicts : ℕ) (words : JobWords) → HasOne (IsOfSearch p n conflicts (subject_of words))
one_search p n c words (answer.Never l) (answer.Never m) x y h k = tt
one_search p n c words (answer.Never l) (answer.Overflow t) x y h k = absurd (broken_by p n words t k.0 k.2 h.never)
one_search p n c words (answer.Never l) (answer.Cycles z) x y h k = absurd (cycled_by p n (subject_of words) z k.0 k.2 h.never)
one_search p n c words (answer.Never l) (answer.Spent m) x y h k = absurd y
one_search p n c words (answer.Never l) b x y h k = absurd k
one_search p n c words (answer.Overflow t) (answer.Overflow u) x y h k = tt
one_search p n c words (answer.Overflow t) (answer.Never m) x y h k = absurd (broken_by p n words t h.0 h.2 k.never)
one_search p n c words (answer.Overflow t) (answer.Cycles z) x y h k = absurd (two_properties p h.0 k.0)
one_search p n c words (answer.Overflow t) (answer.Spent m) x y h k = absurd y
one_search p n c words (answer.Overflow t) b x y h k = absurd k
one_search p n c words (answer.Cycles z) (answer.Cycles w) x y h k = tt
one_search p n c words (answer.Cycles z) (answer.Never m) x y h k = absurd (cycled_by p n (subject_of words) z h.0 h.2 k.never)
one_search p n c words (answer.Cycles z) (answer.Overflow t) x y h k = absurd (two_properties p k.0 h.0)
one_search p n c words (answer.Cycles z) (answer.Spent m) x y h k = absurd y
one_search p n c words (answer.Cycles z) b x y h k = absurd k
one_search p n c words (answer.Spent l) b x y h k = absurd x
one_search p n c words a b x y h k = absurd h

-- ---- timing
abbrev made : OpCounts → ℕ → ℕ → Ratio → TimingReport
made counts cycles clock time = record { counts = counts; cycles = cycles; clock = clock; sample_time = time }

one_timing : (c : ControllerView) (operations : OpCounts) (r s : TimingReport) → IsTimingOf c operations r → IsTimingOf c operations s → r ≡ s
one_timing c operations r s h k =
    let counts : r.counts ≡ s.counts = h.counts ∙ sym k.counts in
    let cycles : r.cycles ≡ s.cycles = h.cycles ∙ ap (λ (n : OpCounts). cycles_of n c.costs) counts ∙ sym k.cycles in
    let clock : r.clock ≡ s.clock = h.clock ∙ sym k.clock in
    let time : r.sample_time ≡ s.sample_time = h.sample_time ∙ sym k.sample_time in
    ap (λ (n : OpCounts). made n r.cycles r.clock r.sample_time) counts
    ∙ ap (λ (n : ℕ). made s.counts n r.clock r.sample_time) cycles
    ∙ ap (λ (n : ℕ). made s.counts s.cycles n r.sample_time) clock
    ∙ ap (λ (t : Ratio). made s.counts s.cycles s.clock t) time

on_time_or_late : (c : ControllerView) (operations : OpCounts) (r s : TimingReport) → IsTimingOf c operations r → IsTimingOf c operations s → IsOnTime r → (IsOnTime s → ⊥) → ⊥
on_time_or_late c operations r s h k on late = late (subst IsOnTime (one_timing c operations r s h k) on)

one_time : (c : ControllerView) (quantised : QuantisedView) → HasOne (IsOfTiming c quantised)
one_time c quantised (answer.OnTime r) (answer.OnTime s) x y h k = ap (λ it. Ok (answer.OnTime it)) (one_timing c _ r s h.0 k.0)
one_time c quantised (answer.OnTime r) (answer.Late s) x y h k = absurd (on_time_or_late c _ r s h.0 k.0 h.1 k.1)
one_time c quantised (answer.OnTime r) b x y h k = absurd k
one_time c quantised (answer.Late r) (answer.Late s) x y h k = ap (λ it. Ok (answer.Late it)) (one_timing c _ r s h.0 k.0)
one_time c quantised (answer.Late r) (answer.OnTime s) x y h k = absurd (on_time_or_late c _ s r k.0 h.0 k.1 h.1)
one_time c quantised (answer.Late r) b x y h k = absurd k
one_time c quantised a b x y h k = absurd h

-- ---- the gain
one_gain_of : (found : Outlook) (g h : Gain) → found ≡ outlook.Safe g → found ≡ outlook.Safe h → g ≡ h
one_gain_of found g h e f = cc

safe_or_left : (found : Outlook) (g : Gain) (sample value : ℕ) → found ≡ outlook.Safe g → found ≡ outlook.Leaves sample value → ⊥
safe_or_left found g sample value e f = cc

safe_or_deep : (found : Outlook) (g : Gain) → found ≡ outlook.Safe g → found ≡ outlook.Deep → ⊥
safe_or_deep found g e f = cc

left_or_deep : (found : Outlook) (sample value : ℕ) → found ≡ outlook.Leaves sample value → found ≡ outlook.Deep → ⊥
left_or_deep found sample value e f = cc

one_gain : (HasError : OutputError → Type 0) (s : SubjectView) → HasOne (IsOfGain HasError s)
one_gain HasError s (answer.InRanges g b) (answer.InRanges h c) x y e f = one_gain_of (outlook_of s most_gain_samples) g h e.0.found f.0.found
one_gain HasError s (answer.InRanges g b) (answer.Overflow t) x y e f = absurd (safe_or_left (outlook_of s most_gain_samples) g f.sample f.value e.0.found f.left)
one_gain HasError s (answer.InRanges g b) (answer.OutOfRange sample value) x y e f = absurd y
one_gain HasError s (answer.InRanges g b) (answer.TooDeep d) x y e f = absurd (safe_or_deep (outlook_of s most_gain_samples) g e.0.found f.1)
one_gain HasError s (answer.InRanges g c) b x y e f = absurd f
one_gain HasError s (answer.Overflow t) (answer.Overflow u) x y e f = tt
one_gain HasError s (answer.Overflow t) (answer.InRanges h b) x y e f = absurd (safe_or_left (outlook_of s most_gain_samples) h e.sample e.value f.0.found e.left)
one_gain HasError s (answer.Overflow t) (answer.OutOfRange sample value) x y e f = absurd y
one_gain HasError s (answer.Overflow t) (answer.TooDeep d) x y e f = absurd (left_or_deep (outlook_of s most_gain_samples) e.sample e.value e.left f.1)
one_gain HasError s (answer.Overflow t) b x y e f = absurd f
one_gain HasError s (answer.TooDeep c) (answer.TooDeep d) x y e f = ap (λ it. Ok (answer.TooDeep it)) (e.0 ∙ sym f.0)
one_gain HasError s (answer.TooDeep c) (answer.InRanges h b) x y e f = absurd (safe_or_deep (outlook_of s most_gain_samples) h f.0.found e.1)
one_gain HasError s (answer.TooDeep c) (answer.Overflow u) x y e f = absurd (left_or_deep (outlook_of s most_gain_samples) f.sample f.value f.left e.1)
one_gain HasError s (answer.TooDeep c) (answer.OutOfRange sample value) x y e f = absurd y
one_gain HasError s (answer.TooDeep c) b x y e f = absurd f
one_gain HasError s (answer.OutOfRange sample value) b x y e f = absurd x
one_gain HasError s a b x y e f = absurd e

-- ---- properties of roots
poly_leads : (p : RootProperty) (sc : Bool) (q : QuantisedView) (poly : List ℤ) (a : Answer) → IsSettled (Ok a) → tested_of q (side_of p) ≡ Ok (tested.Poly poly) → IsDecision sc poly (Ok a) → Leads (tested_of q (side_of p)) (Ok a)
poly_leads p sc q poly (answer.Falls found o f) x e h = (e ∙ ap (λ it. Ok (tested.Poly it)) (sym h.0), h.1)
poly_leads p sc q poly (answer.KeptAway found o f v) x e h = (e ∙ ap (λ it. Ok (tested.Poly it)) (sym h.0), h.1)
poly_leads p sc q poly (answer.NoForm found kept verdict) x e h = absurd x
poly_leads p sc q poly (answer.OfTable found) x e h = absurd x
poly_leads p sc q poly a x e h = absurd h

leads : (p : RootProperty) (sc : Bool) (q : QuantisedView) (a : Answer) → IsSettled (Ok a) → IsOfProperty p sc q (Ok a) → Leads (tested_of q (side_of p)) (Ok a)
leads p sc q answer.NoZeros x h = h.1
leads p sc q (answer.Wide index) x h = h
leads p sc q a x h = poly_leads p sc q h.poly a x h.tested h.decision

one_property : (p : RootProperty) (sc : Bool) (q : QuantisedView) → HasOne (IsOfProperty p sc q)
one_property p sc q a b x y h k = one_decision (tested_of q (side_of p)) (Ok a) (Ok b) x y (leads p sc q a x h) (leads p sc q b y k)

-- ---- sections
one_sections : (sc : Bool) (s : CascadeView) → HasOne (IsOfSections sc s)
one_sections false s (answer.OfSections f) (answer.OfSections g) x y h k = one_judgement (sections_of s) f g h k
one_sections true s (answer.OfSectionTables f) (answer.OfSectionTables g) x y h k = ap (λ it. Ok (answer.OfSectionTables it)) (one_tabling (sections_of s) f g h k)
one_sections false s (answer.OfSections f) b x y h k = absurd k
one_sections true s (answer.OfSectionTables f) b x y h k = absurd k
one_sections sc s a b x y h k = absurd h

-- what is left out
states_open : (s : StateView) (a : Answer) → IsOfStateTable s (Ok a) → IsSettled (Ok a) → ⊥
states_open s (answer.OfTable found) h x = x
states_open s answer.NoStateForm h x = x
states_open s a h x = absurd h

loop_open : (came : Result (List ℤ) LoopRefusal) (a : Answer) → IsOfLoop came (Ok a) → IsSettled (Ok a) → ⊥
loop_open (Ok poly) (answer.OfTable found) h x = x
loop_open came a h x = absurd h

-- ---- ellipsoids, sets and forms
one_offer : (offer : Ellipsoid) (q : QuantisedView) → HasOne (IsOfOffer offer q)
one_offer offer q (answer.InEllipsoid f) (answer.InEllipsoid g) x y h k = ap (λ it. Ok (answer.InEllipsoid it)) (h.0 ∙ sym k.0)
one_offer offer q (answer.InEllipsoid f) b x y h k = absurd k
one_offer offer q a b x y h k = absurd h

sets_open : (conflicts : ℕ) (q : QuantisedView) (a : Answer) → IsOfSets conflicts q (Ok a) → IsSettled (Ok a) → ⊥
sets_open conflicts q (answer.Always candidate logs) h x = x
sets_open conflicts q (answer.NoInvariant kept) h x = x
sets_open conflicts q a h x = absurd h

sought_open : (q : QuantisedView) (a : Answer) → IsOfSoughtEllipsoid q (Ok a) → IsSettled (Ok a) → ⊥
sought_open q (answer.FoundEllipsoid offer) h x = x
sought_open q answer.NoEllipsoid h x = x
sought_open q a h x = absurd h

form_open : (s : StateView) (c : Certificate) (a : Answer) → IsOfForm s c (Ok a) → IsSettled (Ok a) → ⊥
form_open s c (answer.StateFalls many offer fall) h x = x
form_open s c a h x = absurd h

sought_form_open : (s : StateView) (a : Answer) → IsOfSoughtForm s (Ok a) → IsSettled (Ok a) → ⊥
sought_form_open s (answer.StateFalls many offer fall) h x = x
sought_form_open s answer.NoStateForm h x = x
sought_form_open s a h x = absurd h

-- ---- all tasks
pub one_task : (task : Task) (e : Evidence) (texts : JobTexts) (words : JobWords) → HasOne (IsTaskDone task e texts words)
one_task (searches p n conflicts) e texts words a b x y h k = one_search p n conflicts words a b x y h k
one_task measures_gain e texts words a b x y h k = one_gain (ErrorIs words) (subject_of words) a b x y h k
one_task (simulates xs outputs) e texts words a b x y h k = one_run (subject_of words) xs outputs a b x y h k
one_task (runs_file name outputs) (input_list xs) texts words a b x y h k = one_run (subject_of words) xs outputs a b x y h k
one_task tells_words e texts words a b x y h k = one_words e texts words a b x y h k
one_task (emits_code prefix) e texts words a b x y h k = one_code (subject_of words) prefix (members_of words) (origin_of words) a b x y h k
one_task (emits_test prefix xs) e texts words a b x y h k = one_test (subject_of words) prefix (members_of words) (origin_of words) xs a b x y h k
one_task (emits_file_test prefix name) (input_list xs) texts words a b x y h k = one_test (subject_of words) prefix (members_of words) (origin_of words) xs a b x y h k
one_task (decides p sc) e (of_one c) (of_words q) a b x y h k = one_property p sc q a b x y h k
one_task (decides Stability sc) e (of_sections c cs) (of_series s) a b x y h k = one_sections sc s a b x y h k
one_task (decides Stability true) e (of_state_file c) (of_state_words s) a b x y h k = absurd (states_open s a h x)
one_task (decides Stability sc) e (with_plant c p) (of_words q) a b x y h k = absurd (loop_open (loop_of (q ∷ []) c.sample_time p) a h.0 x)
one_task (decides Stability sc) e (sections_with_plant c cs p) (of_series s) a b x y h k = absurd (loop_open (loop_of (sections_of s) c.sample_time p) a h x)
one_task checks_time e (of_one c) (of_words q) a b x y h k = one_time c q a b x y h k
one_task (writes p n) e (of_one c) (of_words q) a b x y h k = one_formula p n (of_controller q) a b x y h k
one_task (seeks_set conflicts) e (of_one c) (of_words q) a b x y h k = absurd (sets_open conflicts q a h x)
one_task (checks_ellipsoid name) (ellipsoid offer) (of_one c) (of_words q) a b x y h k = one_offer offer q a b x y h k
one_task seeks_ellipsoid e (of_one c) (of_words q) a b x y h k = absurd (sought_open q a h x)
one_task (checks_form name) (certificate c) (of_state_file t) (of_state_words s) a b x y h k = absurd (form_open s c a h x)
one_task seeks_form e (of_state_file c) (of_state_words s) a b x y h k = absurd (sought_form_open s a h x)
one_task task e texts words a b x y h k = absurd h

-- ---- checks of certificates
pub one_check : (texts : JobTexts) (cert : Certificate) → HasOne (IsOfCheck texts cert)
one_check (of_one c) cert (answer.Checked f e) (answer.Checked g d) x y h k = h.0 ∙ sym k.0
one_check (with_plant c p) cert (answer.Checked f e) (answer.Checked g d) x y h k = h.0 ∙ sym k.0
one_check (of_one c) cert (answer.Checked f e) b x y h k = absurd k
one_check (with_plant c p) cert (answer.Checked f e) b x y h k = absurd k
one_check texts cert a b x y h k = absurd h
