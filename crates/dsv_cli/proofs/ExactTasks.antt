-- A refusal of a task, or of the check of a certificate, comes exactly where it is stated.
use Rattle.std.proofs.Common.{◌≡◌, ◌∙◌, ◌⊎◌, inl, inr, sym, ap, refl, ℕ, ◌<◌, take, List, [], ◌∷◌, Bool, true, false, Option, Some, None, Ok, Err}
use Rattle.std.specs.Prelude.{Result, ℤ}
use Rattle.std.proofs.lemmas.Bool.{cases_order}
use Rattle.dsv_word.specs.Words.{IsWord}
use Rattle.dsv_names.specs.declared.property.RunProperty.{RunProperty}
use Rattle.dsv_names.specs.declared.property.RootProperty.TheVariants.{Stability}
use Rattle.dsv_reader.specs.Controllers.{ControllerView}
use Rattle.dsv_reader.specs.Plants.{PlantView}
use Rattle.dsv_quantiser.specs.QuantisedView.{QuantisedView}
use Rattle.dsv_quantiser.specs.declared.refusal.QuantRefusal.{QuantRefusal}
use Rattle.dsv_quantiser.proofs.Modes.{become_one}
use Rattle.dsv_realise.specs.Controllers.{of_controller}
use Rattle.dsv_realise.specs.SubjectView.{SubjectView}
use Rattle.dsv_unroll.specs.Goals.{most_size}
use Rattle.dsv_bounded.specs.RunQuestions.{job_size_of, IsWithin}
use Rattle.dsv_bounded.specs.RunAnswers.{IsTooLarge}
use Rattle.dsv_invariant.specs.Limits.{unbounded_samples}
use Rattle.dsv_cascade.specs.Cascades.{CascadeView, sections_of}
use Rattle.dsv_state_space.specs.StateView.{StateView}
use Rattle.dsv_loop.specs.Loops.{loop_of}
use Rattle.dsv_loop.specs.declared.refusal.LoopRefusal.{LoopRefusal}
use Rattle.dsv_ellipsoid.specs.Refusals.{ellipsoid_refusal}
use Rattle.dsv_certfile.specs.Texts.{job_of}
use Rattle.dsv_certfile.specs.declared.certificate.Certificate.{Certificate}
use Rattle.dsv_certfile.specs.declared.ellipsoid.Ellipsoid.{Ellipsoid}
use Rattle.dsv_certfile.specs.declared.fault.CheckFault.{CheckFault}
use Rattle.dsv_certcheck.specs.Checks.{Checked, format_check}
use Rattle.dsv_certcheck.specs.Found.{found_of, BecomesFor, IsFoundFor, IsFoundAfter, IsChecked}
use Rattle.dsv_certcheck.specs.StateChecks.{state_check}
use Rattle.dsv_certcheck.specs.declared.check_refusal.CheckRefusal.{CheckRefusal}
use Rattle.dsv_certcheck.specs.declared.check_refusal.CheckRefusal.TheVariants as refusal
use Rattle.dsv_command.specs.Table.{Task, decides, checks_time, writes, searches, seeks_set, measures_gain, simulates, checks_form, seeks_form, checks_ellipsoid, seeks_ellipsoid, runs_file, tells_words, emits_code, emits_test, emits_file_test}
use Rattle.dsv_report.specs.declared.answers.Answer.TheVariants as answer
use Rattle.dsv_report.specs.declared.answers.OutputError.{OutputError}
use Rattle.dsv_report.specs.declared.stop.CertificateFault.TheVariants as fault
use Rattle.dsv_report.specs.declared.stop.Stop.{Stop}
use Rattle.dsv_report.specs.declared.stop.Stop.TheVariants as stop
use Rattle.dsv_report.specs.declared.stop.WhichFile.{WhichFile}
use Rattle.dsv_report.specs.Stops.{Outcome}
use Rattle.dsv_cli.specs.Causes.{IsDecision, IsOfSets, IsOfTiming}
use Rattle.dsv_cli.specs.Checking.{stop_of_check}
use Rattle.dsv_cli.specs.Ellipsoids.{IsOfOffer, IsOfSoughtEllipsoid}
use Rattle.dsv_files.specs.Files.{IsLost}
use Rattle.dsv_cli.specs.Gain.{IsOfGain}
use Rattle.dsv_cli.specs.JobRows.{subject_of, ErrorIs, IsOfSections, IsTaskDone, ChecksTo, IsOfCheck}
use Rattle.dsv_cli.specs.Words.{JobWords, of_words, of_series, of_state_words}
use Rattle.dsv_files.specs.JobTexts.{JobTexts, of_one, of_sections, of_state_file, with_plant, sections_with_plant, Evidence, certificate, ellipsoid, input_list}
use Rattle.dsv_cli.specs.Loops.{IsOfLoop}
use Rattle.dsv_cli.specs.Searching.{IsOfFormula, IsOfSearch}
use Rattle.dsv_cli.specs.Simulating.{IsOfRun}
use Rattle.dsv_cli.specs.Emitting.{members_of, origin_of, IsOfCode, IsOfCodeTest}
use Rattle.dsv_c.specs.Codable.{IsCodable, IsWideValue}
use Rattle.dsv_netlist.specs.Conditions.{is_fit}
use Rattle.dsv_netlist.specs.Nodes.{Net}
use Rattle.dsv_ctext.specs.declared.names.MemberName.{MemberName}
use Rattle.dsv_ctext.specs.declared.remarks.Origin.{Origin}
use Rattle.std.specs.Prelude.{count_by}
use Rattle.dsv_cli.specs.States.{IsOfForm, IsOfStateTable}
use Rattle.dsv_cli.proofs.OneAnswerTasks.{one_outside, within_or_large}
use Rattle.dsv_files.proofs.Pairwise.{at_place}
use Rattle.dsv_system.specs.Runs.{SampleRow}
use Rattle.dsv_realise.specs.Runs.{IsRunOver}
use Rattle.dsv_report.specs.declared.answers.Answer.{Answer}

abbrev pub stopped_by : Stop → Outcome
stopped_by why = Err why

-- an answer is this refusal, or lost
abbrev pub IsThis : Stop → Outcome → Type 0
IsThis why found = (found ≡ Err why) ⊎ IsLost found

-- what may be refused is so each time
abbrev pub IsExact : (Outcome → Type 0) → Type 0
IsExact HasRow = (why : Stop) (found : Outcome) → HasRow (Err why) → (IsLost (Err why) → ⊥) → HasRow found → IsThis why found

-- ---- questions about runs
one_size : (samples : ℕ) (s : SubjectView) (m n : ℕ) → IsTooLarge samples s m → IsTooLarge samples s n → IsThis (stop.JobSize m) (Err (stop.JobSize n))
one_size samples s m n h k = inl (ap (λ x. stopped_by (stop.JobSize x)) (k.size_of ∙ sym h.size_of))

too_large : (samples : ℕ) (s : SubjectView) (m : ℕ) → IsTooLarge samples s m → IsWithin s samples → ⊥
too_large samples s m h k = within_or_large (job_size_of s samples) m most_size k h.size_of h.large

formula_exact : (p : RunProperty) (n : ℕ) (s : SubjectView) → IsExact (IsOfFormula p n s)
formula_exact p n s (stop.JobSize m) (Ok (answer.FormulaText f)) h kept k = absurd (too_large n s m h k.within)
formula_exact p n s (stop.JobSize m) (Err (stop.JobSize t)) h kept k = one_size n s m t h k
formula_exact p n s (stop.JobSize m) (Err stop.NoMemory) h kept k = inr tt
formula_exact p n s (stop.JobSize m) found h kept k = absurd k
formula_exact p n s stop.NoMemory found h kept k = absurd (kept tt)
formula_exact p n s why found h kept k = absurd h

search_exact : (p : RunProperty) (n conflicts : ℕ) (s : SubjectView) → IsExact (IsOfSearch p n conflicts s)
search_exact p n conflicts s (stop.JobSize m) (Ok (answer.Never l)) h kept k = absurd (too_large n s m h k.within)
search_exact p n conflicts s (stop.JobSize m) (Ok (answer.Overflow t)) h kept k = absurd (too_large n s m h k.1)
search_exact p n conflicts s (stop.JobSize m) (Ok (answer.Cycles z)) h kept k = absurd (too_large n s m h k.1)
search_exact p n conflicts s (stop.JobSize m) (Ok (answer.Spent l)) h kept k = absurd (too_large n s m h k.within)
search_exact p n conflicts s (stop.JobSize m) (Err (stop.JobSize t)) h kept k = one_size n s m t h k
search_exact p n conflicts s (stop.JobSize m) (Err stop.NoMemory) h kept k = inr tt
search_exact p n conflicts s (stop.JobSize m) found h kept k = absurd k
search_exact p n conflicts s stop.NoMemory found h kept k = absurd (kept tt)
search_exact p n conflicts s why found h kept k = absurd h

sets_exact : (conflicts : ℕ) (q : QuantisedView) → IsExact (IsOfSets conflicts q)
sets_exact conflicts q (stop.JobSize m) (Ok (answer.Always candidate logs)) h kept k = absurd (too_large unbounded_samples (of_controller q) m h k.within)
sets_exact conflicts q (stop.JobSize m) (Ok (answer.NoInvariant sets)) h kept k = absurd (too_large unbounded_samples (of_controller q) m h k.within)
sets_exact conflicts q (stop.JobSize m) (Err (stop.JobSize t)) h kept k = one_size unbounded_samples (of_controller q) m t h k
sets_exact conflicts q (stop.JobSize m) (Err stop.NoMemory) h kept k = inr tt
sets_exact conflicts q (stop.JobSize m) found h kept k = absurd k
sets_exact conflicts q stop.NoMemory found h kept k = absurd (kept tt)
sets_exact conflicts q why found h kept k = absurd h

gain_exact : (HasError : OutputError → Type 0) (s : SubjectView) → IsExact (IsOfGain HasError s)
gain_exact HasError s stop.NoMemory found h kept k = absurd (kept tt)
gain_exact HasError s why found h kept k = absurd h

-- what is true of a run, of which the outputs alone are written or not
run_of : (s : SubjectView) (inputs : List ℤ) (outputs : Bool) (found : Answer) → IsOfRun s inputs outputs (Ok found) → (rows : List SampleRow) × IsRunOver s inputs rows
run_of s inputs false (answer.Simulated r) k = (r, k)
run_of s inputs true (answer.Outputs r) k = (r, k)
run_of s inputs false found k = absurd k
run_of s inputs true found k = absurd k

run_exact : (s : SubjectView) (inputs : List ℤ) (outputs : Bool) → IsExact (IsOfRun s inputs outputs)
run_exact s inputs outputs (stop.InputRange i v) (Ok found) h kept k = absurd (h.outside (at_place (IsWord s.runs.format) inputs i v h.there (run_of s inputs outputs found k).1.inputs_are_words))
run_exact s inputs outputs (stop.InputRange i v) (Err (stop.InputRange j w)) h kept k = inl (one_outside s.runs.format inputs j i w v k h (cases_order j i))
run_exact s inputs outputs (stop.InputRange i v) (Err stop.NoMemory) h kept k = inr tt
run_exact s inputs outputs (stop.InputRange i v) found h kept k = absurd k
run_exact s inputs outputs stop.NoMemory found h kept k = absurd (kept tt)
run_exact s inputs outputs why found h kept k = absurd h

-- ---- C
wide_or_not : (net : Net) (v : ℕ) → IsCodable net → IsWideValue net v → ⊥
wide_or_not net v c h = h.wide (c h.node h.there)

wide_by : (net : Net) (v w : ℕ) (h : IsWideValue net v) (k : IsWideValue net w) → (h.node ≡ k.node) ⊎ ((h.node < k.node) ⊎ (k.node < h.node)) → v ≡ w
wide_by net v w h k (inl e) = h.count ∙ ap (λ (n : ℕ). count_by is_fit (take n net.nodes)) e ∙ sym k.count
wide_by net v w h k (inr (inl l)) = absurd (h.wide (k.before h.node l))
wide_by net v w h k (inr (inr l)) = absurd (k.wide (h.before k.node l))

one_wide : (net : Net) (v w : ℕ) → IsWideValue net v → IsWideValue net w → v ≡ w
one_wide net v w h k = wide_by net v w h k (cases_order h.node k.node)

same_wide : (v w : ℕ) → w ≡ v → IsThis (stop.WideCode v) (Err (stop.WideCode w))
same_wide v w e = inl (ap (λ x. stopped_by (stop.WideCode x)) e)

code_exact : (s : SubjectView) (prefix : List ℕ) (members : List MemberName) (origin : Origin) → IsExact (IsOfCode s prefix members origin)
code_exact s prefix members origin (stop.WideCode v) (Ok (answer.Code t)) h kept k = absurd (wide_or_not s.net v k.codable h)
code_exact s prefix members origin (stop.WideCode v) (Err (stop.WideCode w)) h kept k = same_wide v w (one_wide s.net w v k h)
code_exact s prefix members origin (stop.WideCode v) (Err stop.NoMemory) h kept k = inr tt
code_exact s prefix members origin (stop.WideCode v) found h kept k = absurd k
code_exact s prefix members origin stop.NoMemory found h kept k = absurd (kept tt)
code_exact s prefix members origin why found h kept k = absurd h

test_exact : (s : SubjectView) (prefix : List ℕ) (members : List MemberName) (origin : Origin) (inputs : List ℤ) → IsExact (IsOfCodeTest s prefix members origin inputs)
test_exact s prefix members origin inputs (stop.InputRange i v) (Ok (answer.Code t)) h kept k = absurd (h.outside (at_place (IsWord s.runs.format) inputs i v h.there k.0))
test_exact s prefix members origin inputs (stop.InputRange i v) (Err (stop.WideCode w)) h kept k = absurd (h.outside (at_place (IsWord s.runs.format) inputs i v h.there k.0))
test_exact s prefix members origin inputs (stop.InputRange i v) (Err (stop.InputRange j w)) h kept k = inl (one_outside s.runs.format inputs j i w v k h (cases_order j i))
test_exact s prefix members origin inputs (stop.InputRange i v) (Err stop.NoMemory) h kept k = inr tt
test_exact s prefix members origin inputs (stop.InputRange i v) found h kept k = absurd k
test_exact s prefix members origin inputs (stop.WideCode v) (Ok (answer.Code t)) h kept k = absurd (wide_or_not s.net v k.1.codable h.1)
test_exact s prefix members origin inputs (stop.WideCode v) (Err (stop.WideCode w)) h kept k = same_wide v w (one_wide s.net w v k.1 h.1)
test_exact s prefix members origin inputs (stop.WideCode v) (Err (stop.InputRange j w)) h kept k = absurd (k.outside (at_place (IsWord s.runs.format) inputs j w k.there h.0))
test_exact s prefix members origin inputs (stop.WideCode v) (Err stop.NoMemory) h kept k = inr tt
test_exact s prefix members origin inputs (stop.WideCode v) found h kept k = absurd k
test_exact s prefix members origin inputs stop.NoMemory found h kept k = absurd (kept tt)
test_exact s prefix members origin inputs why found h kept k = absurd h

-- ---- ellipsoids
some_once : {A : Type 0} → (found : Option A) (a b : A) → found ≡ Some a → found ≡ Some b → a ≡ b
some_once found a b h k = cc

some_or_none : {A : Type 0} → (found : Option A) (a : A) → found ≡ Some a → found ≡ None → ⊥
some_or_none found a h k = cc

offer_exact : (offer : Ellipsoid) (q : QuantisedView) → IsExact (IsOfOffer offer q)
offer_exact offer q (stop.EllipsoidRefused r) (Ok (answer.InEllipsoid found)) h kept k = absurd (some_or_none (ellipsoid_refusal q offer) r h.1 k.2.accepted)
offer_exact offer q (stop.EllipsoidRefused r) (Err (stop.EllipsoidRefused t)) h kept k = inl (ap (λ x. stopped_by (stop.EllipsoidRefused x)) (some_once (ellipsoid_refusal q offer) t r k.1 h.1))
offer_exact offer q (stop.EllipsoidRefused r) (Err (stop.JobSize m)) h kept k = absurd (too_large unbounded_samples (of_controller q) m k h.0)
offer_exact offer q (stop.EllipsoidRefused r) found h kept k = absurd k
offer_exact offer q (stop.JobSize m) (Ok (answer.InEllipsoid found)) h kept k = absurd (too_large unbounded_samples (of_controller q) m h k.1)
offer_exact offer q (stop.JobSize m) (Err (stop.EllipsoidRefused t)) h kept k = absurd (too_large unbounded_samples (of_controller q) m h k.0)
offer_exact offer q (stop.JobSize m) (Err (stop.JobSize t)) h kept k = one_size unbounded_samples (of_controller q) m t h k
offer_exact offer q (stop.JobSize m) found h kept k = absurd k
offer_exact offer q why found h kept k = absurd h

sought_exact : (q : QuantisedView) → IsExact (IsOfSoughtEllipsoid q)
sought_exact q (stop.JobSize m) (Ok (answer.FoundEllipsoid found)) h kept k = absurd (too_large unbounded_samples (of_controller q) m h k.0)
sought_exact q (stop.JobSize m) (Ok answer.NoEllipsoid) h kept k = absurd (too_large unbounded_samples (of_controller q) m h k)
sought_exact q (stop.JobSize m) (Err (stop.JobSize t)) h kept k = one_size unbounded_samples (of_controller q) m t h k
sought_exact q (stop.JobSize m) found h kept k = absurd k
sought_exact q why found h kept k = absurd h

-- ---- roots and time
decision_lost : (sc : Bool) (poly : List ℤ) (why : Stop) → IsDecision sc poly (Err why) → IsLost (Err why)
decision_lost sc poly stop.NoMemory h = tt
decision_lost sc poly why h = absurd h

timing_exact : (c : ControllerView) (q : QuantisedView) → IsExact (IsOfTiming c q)
timing_exact c q stop.NoMemory found h kept k = absurd (kept tt)
timing_exact c q why found h kept k = absurd h

sections_lost : (sc : Bool) (s : CascadeView) (why : Stop) → IsOfSections sc s (Err why) → IsLost (Err why)
sections_lost false s stop.NoMemory h = tt
sections_lost false s why h = absurd h
sections_lost true s stop.NoMemory h = tt
sections_lost true s why h = absurd h

loop_exact : (came : Result (List ℤ) LoopRefusal) → IsExact (IsOfLoop came)
loop_exact (Ok poly) stop.NoMemory found h kept k = absurd (kept tt)
loop_exact (Ok poly) why found h kept k = absurd h
loop_exact (Err r) (stop.LoopRefused x) (Err (stop.LoopRefused y)) h kept k = inl (ap (λ z. stopped_by (stop.LoopRefused z)) (k ∙ sym h))
loop_exact (Err r) (stop.LoopRefused x) (Err stop.NoMemory) h kept k = inr tt
loop_exact (Err r) (stop.LoopRefused x) found h kept k = absurd k
loop_exact (Err r) stop.NoMemory found h kept k = absurd (kept tt)
loop_exact (Err r) why found h kept k = absurd h

table_lost : (s : StateView) (why : Stop) → IsOfStateTable s (Err why) → IsLost (Err why)
table_lost s stop.NoMemory h = tt
table_lost s why h = absurd h

-- ---- forms of states
checked_once : {A R : Type 0} → (came : Result A R) (r s : R) → came ≡ Err r → came ≡ Err s → r ≡ s
checked_once came r s h k = cc

pub checked_or_not : {A R : Type 0} → (came : Result A R) (v : A) (r : R) → came ≡ Ok v → came ≡ Err r → ⊥
checked_or_not came v r h k = cc

one_line : (m n : ℕ) (f g : CheckFault) → refusal.Line m f ≡ refusal.Line n g → stopped_by (stop.CertificateRefused m (fault.Check f)) ≡ stopped_by (stop.CertificateRefused n (fault.Check g))
one_line m n f g e = cc

form_exact : (s : StateView) (c : Certificate) → IsExact (IsOfForm s c)
form_exact s c (stop.CertificateRefused line (fault.Check why)) (Ok (answer.StateFalls many offer fall)) h kept k = absurd (checked_or_not (state_check s c) tt (refusal.Line line why) k.2 h)
form_exact s c (stop.CertificateRefused m (fault.Check f)) (Err (stop.CertificateRefused n (fault.Check g))) h kept k =
    inl (one_line n m g f (checked_once (state_check s c) (refusal.Line n g) (refusal.Line m f) k h))
form_exact s c (stop.CertificateRefused line (fault.Check why)) found h kept k = absurd k
form_exact s c why found h kept k = absurd h

-- ---- all tasks
pub task_exact : (task : Task) (e : Evidence) (texts : JobTexts) (words : JobWords) → IsExact (IsTaskDone task e texts words)
task_exact (searches p n conflicts) e texts words why found h kept k = search_exact p n conflicts (subject_of words) why found h kept k
task_exact measures_gain e texts words why found h kept k = gain_exact (ErrorIs words) (subject_of words) why found h kept k
task_exact (simulates xs outputs) e texts words why found h kept k = run_exact (subject_of words) xs outputs why found h kept k
task_exact (runs_file name outputs) (input_list xs) texts words why found h kept k = run_exact (subject_of words) xs outputs why found h kept k
task_exact tells_words e texts words why found h kept k = absurd (cc)
task_exact (emits_code prefix) e texts words why found h kept k = code_exact (subject_of words) prefix (members_of words) (origin_of words) why found h kept k
task_exact (emits_test prefix xs) e texts words why found h kept k = test_exact (subject_of words) prefix (members_of words) (origin_of words) xs why found h kept k
task_exact (emits_file_test prefix name) (input_list xs) texts words why found h kept k = test_exact (subject_of words) prefix (members_of words) (origin_of words) xs why found h kept k
task_exact (decides p sc) e (of_one c) (of_words q) why found h kept k = absurd (kept (decision_lost sc h.poly why h.decision))
task_exact (decides Stability sc) e (of_sections c cs) (of_series s) why found h kept k = absurd (kept (sections_lost sc s why h))
task_exact (decides Stability true) e (of_state_file c) (of_state_words s) why found h kept k = absurd (kept (table_lost s why h))
task_exact (decides Stability sc) e (with_plant c p) (of_words q) why found h kept k = loop_exact (loop_of (q ∷ []) c.sample_time p) why found h.0 kept k.0
task_exact (decides Stability sc) e (sections_with_plant c cs p) (of_series s) why found h kept k = loop_exact (loop_of (sections_of s) c.sample_time p) why found h kept k
task_exact checks_time e (of_one c) (of_words q) why found h kept k = timing_exact c q why found h kept k
task_exact (writes p n) e (of_one c) (of_words q) why found h kept k = formula_exact p n (of_controller q) why found h kept k
task_exact (seeks_set conflicts) e (of_one c) (of_words q) why found h kept k = sets_exact conflicts q why found h kept k
task_exact (checks_ellipsoid name) (ellipsoid offer) (of_one c) (of_words q) why found h kept k = offer_exact offer q why found h kept k
task_exact seeks_ellipsoid e (of_one c) (of_words q) why found h kept k = sought_exact q why found h kept k
task_exact (checks_form name) (certificate c) (of_state_file t) (of_state_words s) why found h kept k = form_exact s c why found h kept k
task_exact seeks_form e (of_state_file c) (of_state_words s) why found h kept k = absurd h
task_exact task e texts words why found h kept k = absurd h

-- no task ends by a fault of a read
no_loop_fault : (came : Result (List ℤ) LoopRefusal) (which : WhichFile) → IsOfLoop came (Err (stop.ReadFault which)) → ⊥
no_loop_fault (Ok poly) which h = h
no_loop_fault (Err why) which h = h

pub no_task_fault : (task : Task) (e : Evidence) (texts : JobTexts) (words : JobWords) (which : WhichFile) → IsTaskDone task e texts words (Err (stop.ReadFault which)) → ⊥
no_task_fault (searches p n conflicts) e texts words which h = h
no_task_fault measures_gain e texts words which h = h
no_task_fault (simulates xs outputs) e texts words which h = h
no_task_fault (runs_file name outputs) (input_list xs) texts words which h = h
no_task_fault tells_words e texts words which h = absurd (cc)
no_task_fault (emits_code prefix) e texts words which h = h
no_task_fault (emits_test prefix xs) e texts words which h = h
no_task_fault (emits_file_test prefix name) (input_list xs) texts words which h = h
no_task_fault (decides p sc) e (of_one c) (of_words q) which h = h.decision
no_task_fault (decides Stability false) e (of_sections c cs) (of_series s) which h = h
no_task_fault (decides Stability true) e (of_sections c cs) (of_series s) which h = h
no_task_fault (decides Stability true) e (of_state_file c) (of_state_words s) which h = h
no_task_fault (decides Stability sc) e (with_plant c p) (of_words q) which h = no_loop_fault (loop_of (q ∷ []) c.sample_time p) which h.0
no_task_fault (decides Stability sc) e (sections_with_plant c cs p) (of_series s) which h = no_loop_fault (loop_of (sections_of s) c.sample_time p) which h
no_task_fault (checks_ellipsoid name) (ellipsoid offer) (of_one c) (of_words q) which h = h
no_task_fault (checks_form name) (certificate c) (of_state_file t) (of_state_words s) which h = h
no_task_fault task e (of_one c) (of_words q) which h = absurd h
no_task_fault task e (of_state_file c) (of_state_words s) which h = absurd h
no_task_fault task e texts words which h = absurd h

-- ---- checks of certificates
abbrev pub NoMemoryFound : Checked → Type 0
NoMemoryFound (Err refusal.NoMemory) = Unit {0}
NoMemoryFound found = ⊥

-- two findings are one, or one is want of memory
abbrev pub AreOneFinding : Checked → Checked → Type 0
AreOneFinding x y = (x ≡ y) ⊎ (NoMemoryFound x ⊎ NoMemoryFound y)

read_words : (q p : QuantisedView) (came : Result QuantisedView QuantRefusal) → came ≡ Ok q → came ≡ Ok p → q ≡ p
read_words q p came h k = cc

-- what the words find, or that there are none
data Words (become : Result QuantisedView QuantRefusal → Type 0) (check : QuantisedView → Checked) (found : Checked) : Type 0 where
  lost : NoMemoryFound found → Words become check found
  refused : (r : QuantRefusal) → found ≡ Err (refusal.Quant r) → become (Err r) → Words become check found
  checked : (q : QuantisedView) → become (Ok q) → check q ≡ found → Words become check found

words_one : (become : Result QuantisedView QuantRefusal → Type 0) (check : QuantisedView → Checked) (x y : Checked) → ((o p : Result QuantisedView QuantRefusal) → become o → become p → o ≡ p) → Words become check x → Words become check y
    → AreOneFinding x y
words_one become check x y once (lost h) k = inr (inl h)
words_one become check x y once h (lost k) = inr (inr k)
words_one become check x y once (refused r e h) (refused s f k) =
    inl (e ∙ ap (λ z. Err (refusal.Quant z)) (checked_once (Err r) r s refl (once (Err r) (Err s) h k)) ∙ sym f)
words_one become check x y once (refused r e h) (checked q k c) = absurd (checked_or_not (Ok q) q r refl (once (Ok q) (Err r) k h))
words_one become check x y once (checked q h c) (refused r e k) = absurd (checked_or_not (Ok q) q r refl (once (Ok q) (Err r) h k))
words_one become check x y once (checked q h c) (checked p k d) =
    let same : q ≡ p = read_words q p (Ok q) refl (once (Ok q) (Ok p) h k) in
    inl (sym c ∙ ap check same ∙ d)

words_found : (c : ControllerView) (plant : Option PlantView) (cert : Certificate) (x : Checked) → IsFoundFor c plant cert x → Words (BecomesFor c (job_of cert)) (λ q. found_of q c.sample_time plant cert) x
words_found c plant cert (Err refusal.NoMemory) h = lost tt
words_found c plant cert (Err (refusal.Quant r)) h = refused r refl h
words_found c plant cert x h = checked h.quantised h.becomes h.checked

become_once : (c : ControllerView) (cert : Certificate) (o p : Result QuantisedView QuantRefusal) → BecomesFor c (job_of cert) o → BecomesFor c (job_of cert) p → o ≡ p
become_once c cert o p h k = become_one c c (job_of cert).design o p refl h k

found_once : (came : Checked) (c : ControllerView) (plant : Option PlantView) (cert : Certificate) (x y : Checked) → IsFoundAfter came c plant cert x → IsFoundAfter came c plant cert y → AreOneFinding x y
found_once (Ok z) c plant cert x y h k =
    words_one (BecomesFor c (job_of cert)) (λ q. found_of q c.sample_time plant cert) x y (become_once c cert) (words_found c plant cert x h) (words_found c plant cert y k)
found_once (Err why) c plant cert x y h k = inl (h ∙ sym k)

-- what a refusal of a check stops
lost_by : (r : CheckRefusal) (v : Stop) → NoMemoryFound (Err r) → v ≡ stop_of_check r → IsLost (Err v)
lost_by refusal.NoMemory v h e = rw e tt
lost_by r v h e = absurd h

refusal_once : (r s : CheckRefusal) (came : Checked) → came ≡ Err r → came ≡ Err s → r ≡ s
refusal_once r s came h k = cc

refused_or_not : (r : CheckRefusal) (came : Checked) → came ≡ Err r → came ≡ Ok tt → ⊥
refused_or_not r came h k = cc

abbrev AreOneStop : Stop → Stop → Type 0
AreOneStop v w = (v ≡ w) ⊎ (IsLost (Err v) ⊎ IsLost (Err w))

stops_by : (r s : CheckRefusal) (v w : Stop) → v ≡ stop_of_check r → w ≡ stop_of_check s → AreOneFinding (Err r) (Err s) → AreOneStop v w
stops_by r s v w e f (inl h) = inl (e ∙ ap stop_of_check (refusal_once r s (Err r) refl h) ∙ sym f)
stops_by r s v w e f (inr (inl h)) = inr (inl (lost_by r v h e))
stops_by r s v w e f (inr (inr h)) = inr (inr (lost_by s w h f))

pub ok_lost : (r : CheckRefusal) (v : Stop) → v ≡ stop_of_check r → AreOneFinding (Err r) (Ok tt) → IsLost (Err v)
ok_lost r v e (inl h) = absurd (refused_or_not r (Err r) refl h)
ok_lost r v e (inr (inl h)) = lost_by r v h e
ok_lost r v e (inr (inr h)) = absurd h

this_or_lost : (v w : Stop) → (IsLost (Err v) → ⊥) → AreOneStop v w → IsThis v (Err w)
this_or_lost v w kept (inl e) = inl (ap stopped_by (sym e))
this_or_lost v w kept (inr (inl h)) = absurd (kept h)
this_or_lost v w kept (inr (inr h)) = inr h

-- what is checked is one finding
pub checked_once_for : (c : ControllerView) (plant : Option PlantView) (cert : Certificate) (x y : Checked) → IsChecked c plant cert x → IsChecked c plant cert y → AreOneFinding x y
checked_once_for c plant cert x y h k = found_once (format_check c (job_of cert).words) c plant cert x y h k

checks_exact : (c : ControllerView) (plant : Option PlantView) (cert : Certificate) → IsExact (ChecksTo c plant cert)
checks_exact c plant cert why (Ok (answer.Checked certified error)) (r, h, e) kept k = absurd (kept (ok_lost r why e (checked_once_for c plant cert (Err r) (Ok tt) h k.1)))
checks_exact c plant cert why (Err w) (r, h, e) kept (s, k, f) = this_or_lost why w kept (stops_by r s why w e f (checked_once_for c plant cert (Err r) (Err s) h k))
checks_exact c plant cert why found h kept k = absurd k

pub check_exact : (texts : JobTexts) (cert : Certificate) → IsExact (IsOfCheck texts cert)
check_exact (of_one c) cert = checks_exact c None cert
check_exact (with_plant c p) cert = checks_exact c (Some p) cert
check_exact texts cert = λ why found h kept k. absurd h

-- nor does a check
no_stop_fault : (r : CheckRefusal) (which : WhichFile) → stop.ReadFault which ≡ stop_of_check r → ⊥
no_stop_fault (refusal.Line line why) which e = cc
no_stop_fault (refusal.Wide index) which e = cc
no_stop_fault refusal.NoZeros which e = cc
no_stop_fault (refusal.Loop why) which e = cc
no_stop_fault (refusal.Quant r) which e = cc
no_stop_fault (refusal.JobSize size) which e = cc
no_stop_fault refusal.NoMemory which e = cc

pub no_check_fault : (texts : JobTexts) (cert : Certificate) (which : WhichFile) → IsOfCheck texts cert (Err (stop.ReadFault which)) → ⊥
no_check_fault (of_one c) cert which h = no_stop_fault h.0 which h.2
no_check_fault (with_plant c p) cert which h = no_stop_fault h.0 which h.2
no_check_fault texts cert which h = absurd h
