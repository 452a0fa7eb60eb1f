-- A certificate that a run wrote is accepted for the same files.
use Rattle.std.proofs.Common.{◌≡◌, ◌∙◌, inl, inr, sym, ap, subst, refl, ℕ, ◌≤◌, List, length}
use Rattle.std.specs.Prelude.{Bool, true, false, Option, Some, None, Ok, Err, if◌then◌else◌, option_and_then}
use Rattle.dsv_base.specs.Seen.{FilesSeen, CameOf}
use Rattle.dsv_names.specs.declared.design.Design.{Design}
use Rattle.dsv_reader.specs.Controllers.{ControllerView}
use Rattle.dsv_reader.specs.Plants.{PlantView}
use Rattle.dsv_state_file.specs.StateFiles.{StateFileView}
use Rattle.dsv_state_space.specs.StateView.{StateView}
use Rattle.dsv_certfile.specs.Lawful.{certificate_alone}
use Rattle.dsv_certfile.specs.Reading.{certificate_in}
use Rattle.dsv_certfile.specs.Texts.{job_of, certificate_text}
use Rattle.dsv_certfile.specs.Typed.{IsTyped}
use Rattle.dsv_certfile.specs.declared.certificate.Certificate.{Certificate}
use Rattle.dsv_certfile.specs.declared.job.CertWords.{CertWords}
use Rattle.dsv_certfile.specs.declared.job.CertifiedJob.{CertifiedJob}
use Rattle.dsv_certfile.proofs.WrittenCertificates.{written_is_read}
use Rattle.dsv_certcheck.specs.StateChecks.{Offers, state_check}
use Rattle.dsv_certcheck.specs.declared.check_refusal.CheckRefusal.TheVariants as refusal
use Rattle.dsv_command.specs.Table.{JobFiles, controller, cascade, plant_loop, cascade_loop, Task, checks_form, kind_of, may_certify}
use Rattle.dsv_command.specs.Table.{states as table_states}
use Rattle.dsv_report.specs.Headings.{property_of}
use Rattle.dsv_report.specs.Output.{certificate_for, certified_design, certified_size}
use Rattle.dsv_report.specs.declared.answers.Answer.{Answer}
use Rattle.dsv_report.specs.declared.answers.Answer.TheVariants as answer
use Rattle.dsv_report.specs.declared.stop.CertificateFault.TheVariants as fault
use Rattle.dsv_report.specs.declared.stop.Stop.{Stop}
use Rattle.dsv_report.specs.declared.stop.Stop.TheVariants as stop
use Rattle.dsv_report.specs.Stops.{Outcome}
use Rattle.dsv_cli.specs.Accepted.{Accepts, HoldsTheSame, HoldTheSame, WrittenAreAccepted, check_of}
use Rattle.dsv_files.specs.Files.{IsLost, a_controller, a_plant, a_state_controller, a_certificate, longest_certificate, IsFileOf}
use Rattle.dsv_cli.specs.JobRows.{IsTaskDone, IsDoneBy, IsOfCheck, IsCheckOfRow, IsJobRow, IsAnswered}
use Rattle.dsv_cli.specs.Words.{JobWords, of_words, of_state_words, BecomeJobWords, AreWordless}
use Rattle.dsv_files.specs.JobTexts.{JobTexts, of_one, of_state_file, with_plant, HaveTexts, AreUnread, Evidence, certificate, ellipsoid, input_list, none, HasEvidence, IsSaidOf}
use Rattle.dsv_cli.specs.States.{IsOfForm}
use Rattle.dsv_cli.proofs.CertifiedWords.{IsAcceptable, PassesFor, PassesForStates, controller_fits, loop_fits, states_fit}
use Rattle.dsv_cli.proofs.Exact.{one_file, file_lost, one_written, words_lost, job_words_once}
use Rattle.dsv_cli.proofs.ExactTasks.{ok_lost, checked_once_for, checked_or_not}

-- ---- the certificate's file
came_of : (P : List ℕ → Type 0) (told : Option (List ℕ)) (bytes : List ℕ) → told ≡ Some bytes → P bytes → CameOf told P
came_of P told bytes e h = subst (λ t. CameOf t P) (sym e) (bytes, refl, h)

-- what was written is read back, with its places alone
spelled_alone : (Passes : Certificate → Type 0) (old : FilesSeen) (name : List ℕ) (c : Certificate) → IsAcceptable Passes c → old.held name ≡ Some (certificate_text c) → length (certificate_text c) ≤ longest_certificate
    → IsFileOf a_certificate old name (certificate_alone c)
spelled_alone Passes old name c a held short =
    let spelled : certificate_in (certificate_text c) ≡ Ok (certificate_alone c) = ap certificate_in (sym a.text) ∙ written_is_read (certificate_alone c) a.lawful in
    came_of (λ bytes. (length bytes ≤ longest_certificate) × (certificate_in bytes ≡ Ok (certificate_alone c))) (old.held name) (certificate_text c) held (short, spelled)

-- ---- what accepts a certificate
abbrev IsAcceptance : CertifiedJob → Outcome → Type 0
IsAcceptance job (Ok (answer.Checked found error)) = found ≡ job
IsAcceptance job found = IsLost found

abbrev IsFormAcceptance : Certificate → Outcome → Type 0
IsFormAcceptance c (Ok (answer.StateFalls many offer fall)) = Offers (certificate_alone c) offer
IsFormAcceptance c found = IsLost found

accepts_alone : (file : List ℕ) (c : Certificate) (found : Outcome) → IsAcceptance (job_of c) found → Accepts (controller file) c found
accepts_alone file c (Ok (answer.Checked certified error)) h = h
accepts_alone file c found h = h

accepts_in_loop : (file plant : List ℕ) (c : Certificate) (found : Outcome) → IsAcceptance (job_of c) found → Accepts (plant_loop file plant) c found
accepts_in_loop file plant c (Ok (answer.Checked certified error)) h = h
accepts_in_loop file plant c found h = h

accepts_form : (file : List ℕ) (c : Certificate) (found : Outcome) → IsFormAcceptance c found → Accepts (table_states file) c found
accepts_form file c (Ok (answer.StateFalls many offer fall)) h = h
accepts_form file c found h = h

-- ---- checks
lost_accepts : (job : CertifiedJob) (found : Outcome) → IsLost found → IsAcceptance job found
lost_accepts job (Ok found) h = absurd h
lost_accepts job (Err why) h = h

lost_form : (c : Certificate) (found : Outcome) → IsLost found → IsFormAcceptance c found
lost_form c (Ok found) h = absurd h
lost_form c (Err why) h = h

-- the certificate passes its check for these texts
abbrev Passes : JobTexts → Certificate → Type 0
Passes (of_one d) c = PassesFor d None c
Passes (with_plant d p) c = PassesFor d (Some p) c
Passes texts c = ⊥

passed_accepts : (t : JobTexts) (c : Certificate) (found : Outcome) → Passes t c → IsOfCheck t c found → IsAcceptance (job_of c) found
passed_accepts (of_one d) c (Ok (answer.Checked certified error)) p h = h.0
passed_accepts (of_one d) c (Err why) p (r, h, e) = lost_accepts (job_of c) (Err why) (ok_lost r why e (checked_once_for d None c (Err r) (Ok tt) h p))
passed_accepts (of_one d) c found p h = absurd h
passed_accepts (with_plant d plant) c (Ok (answer.Checked certified error)) p h = h.0
passed_accepts (with_plant d plant) c (Err why) p (r, h, e) = lost_accepts (job_of c) (Err why) (ok_lost r why e (checked_once_for d (Some plant) c (Err r) (Ok tt) h p))
passed_accepts (with_plant d plant) c found p h = absurd h
passed_accepts t c found p h = absurd p

-- what is known of the files of a check
record AreThere (old new : FilesSeen) (files : JobFiles) (t : JobTexts) : Type 0 where
  one : (u : JobTexts) → HaveTexts old files u → u ≡ t
  lost : (why : Stop) → AreUnread old new files why → IsLost (Err why)

checked_accepts : (old new : FilesSeen) (files : JobFiles) (name : List ℕ) (t : JobTexts) (c : Certificate) (found : Outcome) → AreThere old new files t → IsFileOf a_certificate old name c → HoldsTheSame old name old name → Passes t c
    → (u : JobTexts) (d : Certificate) → HaveTexts old files u → IsFileOf a_certificate old name d → IsOfCheck u d found → IsAcceptance (job_of c) found
checked_accepts old new files name t c found there spelled held p u d has k h =
    let wrote : d ≡ c = one_written old old name d c held k spelled in
    let by_texts : IsOfCheck t d found = subst (λ x. IsOfCheck x d found) (there.one u has) h in
    passed_accepts t c found p (subst (λ x. IsOfCheck t x found) wrote by_texts)

checks_accept : (old new : FilesSeen) (files : JobFiles) (name : List ℕ) (t : JobTexts) (c : Certificate) (found : Outcome) → AreThere old new files t → IsFileOf a_certificate old name c → HoldsTheSame old name old name → Passes t c
    → IsCheckOfRow old new files name found → IsAcceptance (job_of c) found
checks_accept old new files name t c (Ok x) there spelled held p h = checked_accepts old new files name t c (Ok x) there spelled held p h.texts h.written h.have_texts h.spelled h.check
checks_accept old new files name t c (Err stop.NoMemory) there spelled held p h = tt
checks_accept old new files name t c (Err why) there spelled held p (inl h) = lost_accepts (job_of c) (Err why) (there.lost why h)
checks_accept old new files name t c (Err why) there spelled held p (inr (inl h)) = lost_accepts (job_of c) (Err why) (file_lost a_certificate old old new name name c why held spelled h.2)
checks_accept old new files name t c (Err why) there spelled held p (inr (inr h)) = checked_accepts old new files name t c (Err why) there spelled held p h.texts h.written h.have_texts h.spelled h.check

-- ---- jobs that take a form
form_passes : (s : StateView) (c : Certificate) (found : Outcome) → PassesForStates s (certificate_alone c) → IsOfForm s (certificate_alone c) found → IsFormAcceptance c found
form_passes s c (Ok (answer.StateFalls many offer fall)) p h = h.1
form_passes s c (Err (stop.CertificateRefused line (fault.Check why))) p h = absurd (checked_or_not (state_check s (certificate_alone c)) tt (refusal.Line line why) p h)
form_passes s c found p h = absurd h

named_form : (old : FilesSeen) (name : List ℕ) (c : Certificate) (e : Evidence) → HoldsTheSame old name old name → IsFileOf a_certificate old name c → HasEvidence old (checks_form name) e → e ≡ certificate c
named_form old name c (certificate d) held spelled h = ap certificate (one_written old old name d c held h spelled)
named_form old name c none held spelled h = absurd h
named_form old name c (ellipsoid offer) held spelled h = absurd h
named_form old name c (input_list xs) held spelled h = absurd h

form_done : (old new : FilesSeen) (file name : List ℕ) (design : Design) (t : StateFileView) (s : StateView) (c : Certificate) (found : Outcome) → AreThere old new (table_states file) (of_state_file t)
    → IsFileOf a_certificate old name (certificate_alone c) → HoldsTheSame old name old name → BecomeJobWords design (of_state_file t) (of_state_words s) → PassesForStates s (certificate_alone c)
    → IsDoneBy old (table_states file) (checks_form name) design found → IsFormAcceptance c found
form_done old new file name design t s c found there spelled held b p h =
    let texts : h.texts ≡ of_state_file t = there.one h.texts h.have_texts in
    let evidence : h.evidence ≡ certificate (certificate_alone c) = named_form old name (certificate_alone c) h.evidence held spelled h.has_evidence in
    let become : BecomeJobWords design (of_state_file t) h.words = subst (λ x. BecomeJobWords design x h.words) texts h.become_words in
    let words : h.words ≡ of_state_words s = job_words_once design (of_state_file t) h.words (of_state_words s) become b in
    let by_texts : IsTaskDone (checks_form name) h.evidence (of_state_file t) h.words found = subst (λ x. IsTaskDone (checks_form name) h.evidence x h.words found) texts h.done in
    let by_evidence = subst (λ x. IsTaskDone (checks_form name) x (of_state_file t) h.words found) evidence by_texts in
    form_passes s c found p (subst (λ x. IsTaskDone (checks_form name) (certificate (certificate_alone c)) (of_state_file t) x found) words by_evidence)

form_accepts : (old new : FilesSeen) (file name : List ℕ) (design : Design) (t : StateFileView) (s : StateView) (c : Certificate) (found : Outcome) → AreThere old new (table_states file) (of_state_file t)
    → IsFileOf a_certificate old name (certificate_alone c) → HoldsTheSame old name old name → BecomeJobWords design (of_state_file t) (of_state_words s) → PassesForStates s (certificate_alone c)
    → IsJobRow old new (table_states file) (checks_form name) design found → IsFormAcceptance c found
form_accepts old new file name design t s c (Ok x) there spelled held b p h = form_done old new file name design t s c (Ok x) there spelled held b p h
form_accepts old new file name design t s c (Err stop.NoMemory) there spelled held b p h = tt
form_accepts old new file name design t s c (Err why) there spelled held b p (inl h) = lost_form c (Err why) (there.lost why h)
form_accepts old new file name design t s c (Err why) there spelled held b p (inr (inl h)) = lost_form c (Err why) (file_lost a_certificate old old new name name (certificate_alone c) why held spelled h.2)
form_accepts old new file name design t s c (Err why) there spelled held b p (inr (inr (inl h))) =
    lost_form c (Err why) (words_lost design (of_state_file t) (of_state_words s) why b (subst (λ x. AreWordless design x why) (there.one h.0 h.2) h.4))
form_accepts old new file name design t s c (Err why) there spelled held b p (inr (inr (inr h))) = form_done old new file name design t s c (Err why) there spelled held b p h

-- ---- what the files have, in another run
flip : (old then_old : FilesSeen) (name other : List ℕ) → HoldsTheSame old name then_old other → HoldsTheSame then_old other old name
flip old then_old name other same = (same.0, same.2, same.1)

controller_there : (old then_old then_new : FilesSeen) (name other : List ℕ) (d : ControllerView) → HoldsTheSame old name then_old other → HaveTexts old (controller name) (of_one d) → AreThere then_old then_new (controller other) (of_one d)
controller_there old then_old then_new name other d same has = record { one = one; lost = λ why k. file_lost a_controller old then_old then_new name other d why same has k }
  where
    one : (u : JobTexts) → HaveTexts then_old (controller other) u → u ≡ of_one d
    one (of_one x) k = ap of_one (one_file a_controller then_old old other name x d (flip old then_old name other same) k has)
    one u k = absurd k

states_there : (old then_old then_new : FilesSeen) (name other : List ℕ) (t : StateFileView) → HoldsTheSame old name then_old other → HaveTexts old (table_states name) (of_state_file t)
    → AreThere then_old then_new (table_states other) (of_state_file t)
states_there old then_old then_new name other t same has = record { one = one; lost = λ why k. file_lost a_state_controller old then_old then_new name other t why same has k }
  where
    one : (u : JobTexts) → HaveTexts then_old (table_states other) u → u ≡ of_state_file t
    one (of_state_file x) k = ap of_state_file (one_file a_state_controller then_old old other name x t (flip old then_old name other same) k has)
    one u k = absurd k

loop_there : (old then_old then_new : FilesSeen) (name plant other others : List ℕ) (d : ControllerView) (p : PlantView) → HoldsTheSame old name then_old other → HoldsTheSame old plant then_old others
    → HaveTexts old (plant_loop name plant) (with_plant d p) → AreThere then_old then_new (plant_loop other others) (with_plant d p)
loop_there old then_old then_new name plant other others d p same planted has = record { one = one; lost = lost }
  where
    one : (u : JobTexts) → HaveTexts then_old (plant_loop other others) u → u ≡ with_plant d p
    one (with_plant x q) k =
        ap (λ y. with_plant y q) (one_file a_controller then_old old other name x d (flip old then_old name other same) k.0 has.0) ∙ ap (with_plant d) (one_file a_plant then_old old others plant q p (flip old then_old plant others planted) k.1 has.1)
    one u k = absurd k

    lost : (why : Stop) → AreUnread then_old then_new (plant_loop other others) why → IsLost (Err why)
    lost why (inl k) = file_lost a_controller old then_old then_new name other d why same has.0 k
    lost why (inr k) = file_lost a_plant old then_old then_new plant others p why planted has.1 k.2

-- ---- the certificate that is wanted
wanted : (b : Bool) (o : Option Certificate) (c : Certificate) → (if b then o else None) ≡ Some c → (b ≡ true) × (o ≡ Some c)
wanted true o c e = (refl, e)
wanted false o c e = absurd (cc)

abbrev IsWanted : JobFiles → Task → Design → CertWords → Answer → Certificate → Type 0
IsWanted files task design words found c =
    option_and_then (λ p. certificate_for (record { property = p; design = certified_design files design; words = words; size = certified_size files task }) found) (property_of task) ≡ Some c

-- what is known of a certificate that was written, and of the answer to what checks it
record IsGiven (old then_old then_new : FilesSeen) (files others : JobFiles) (task : Task) (design : Design) (words : CertWords) (found : Answer) (c : Certificate) (name : List ℕ) (answered : Outcome) : Type 0 where
  certifiable : may_certify (kind_of files) task ≡ true
  written : IsWanted files task design words found c
  typed : IsTyped c
  short : length (certificate_text c) ≤ longest_certificate
  held : then_old.held name ≡ Some (certificate_text c)
  same : HoldTheSame old files then_old others
  row : IsAnswered then_old then_new (Some (check_of design others name)) answered

module _ (old then_old then_new : FilesSeen) (task : Task) (design : Design) (many : ℕ) (words : CertWords) (found : Answer) (c : Certificate) (name : List ℕ) (answered : Outcome) where
  there_twice : then_old.held name ≡ Some (certificate_text c) → HoldsTheSame then_old name then_old name
  there_twice held = (certificate_text c, held, held)

  controller_accepts : (file other : List ℕ) (t : JobTexts) (w : JobWords) (e : Evidence) → IsGiven old then_old then_new (controller file) (controller other) task design words found c name answered → HaveTexts old (controller file) t
      → BecomeJobWords design t w → IsTaskDone task e t w (Ok found) → IsSaidOf t many words → IsAcceptance (job_of c) answered
  controller_accepts file other (of_one d) (of_words q) e g has b done said =
      let a = controller_fits d q design words b said.1 file task e found c g.certifiable done g.written g.typed in
      subst (λ j. IsAcceptance j answered) a.job
      (checks_accept then_old then_new (controller other) name (of_one d) (certificate_alone c) answered (controller_there old then_old then_new file other d g.same has) (spelled_alone (PassesFor d None) then_old name c a g.held g.short)
      (there_twice g.held) a.passes g.row)
  controller_accepts file other (of_one d) w e g has b done said = absurd b
  controller_accepts file other t w e g has b done said = absurd has

  loop_accepts : (file plant other others : List ℕ) (t : JobTexts) (w : JobWords) (e : Evidence) → IsGiven old then_old then_new (plant_loop file plant) (plant_loop other others) task design words found c name answered
      → HaveTexts old (plant_loop file plant) t → BecomeJobWords design t w → IsTaskDone task e t w (Ok found) → IsSaidOf t many words → IsAcceptance (job_of c) answered
  loop_accepts file plant other others (with_plant d p) (of_words q) e g has b done said =
      let a = loop_fits d p q design words file plant task e found c b said.1 g.certifiable done g.written g.typed in
      subst (λ j. IsAcceptance j answered) a.job
      (checks_accept then_old then_new (plant_loop other others) name (with_plant d p) (certificate_alone c) answered (loop_there old then_old then_new file plant other others d p g.same.0 g.same.1 has)
      (spelled_alone (PassesFor d (Some p)) then_old name c a g.held g.short) (there_twice g.held) a.passes g.row)
  loop_accepts file plant other others (with_plant d p) w e g has b done said = absurd b
  loop_accepts file plant other others t w e g has b done said = absurd has

  states_accepts : (file other : List ℕ) (t : JobTexts) (w : JobWords) (e : Evidence) → IsGiven old then_old then_new (table_states file) (table_states other) task design words found c name answered → HaveTexts old (table_states file) t
      → BecomeJobWords design t w → IsTaskDone task e t w (Ok found) → IsFormAcceptance c answered
  states_accepts file other (of_state_file t) (of_state_words s) e g has b done =
      let a = states_fit s t design words file task e found c g.certifiable done g.written g.typed in
      form_accepts then_old then_new other name design t s c answered (states_there old then_old then_new file other t g.same has) (spelled_alone (PassesForStates s) then_old name c a g.held g.short) (there_twice g.held) b a.passes g.row
  states_accepts file other (of_state_file t) w e g has b done = absurd b
  states_accepts file other t w e g has b done = absurd has

  kind_accepts : (files others : JobFiles) (t : JobTexts) (w : JobWords) (e : Evidence) → IsGiven old then_old then_new files others task design words found c name answered → HaveTexts old files t → BecomeJobWords design t w
      → IsTaskDone task e t w (Ok found) → IsSaidOf t many words → Accepts others c answered
  kind_accepts (controller file) (controller other) t w e g has b done said = accepts_alone other c answered (controller_accepts file other t w e g has b done said)
  kind_accepts (plant_loop file plant) (plant_loop other others) t w e g has b done said = accepts_in_loop other others c answered (loop_accepts file plant other others t w e g has b done said)
  kind_accepts (table_states file) (table_states other) t w e g has b done said = accepts_form other c answered (states_accepts file other t w e g has b done)
  kind_accepts (cascade file later) others t w e g has b done said = absurd (let m = g.certifiable in cc)
  kind_accepts (cascade_loop file later plant) others t w e g has b done said = absurd (let m = g.certifiable in cc)
  kind_accepts files others t w e g has b done said = absurd g.same

pub written_accepted : WrittenAreAccepted
written_accepted old new job many words found c k m h said e typed short then_old then_new files name answered same held row =
    let w = wanted job.certified (option_and_then (λ p. certificate_for (record { property = p; design = certified_design job.files job.design; words = words; size = certified_size job.files job.task }) found) (property_of job.task)) c e in
    kind_accepts old then_old then_new job.task job.design many words found c name answered job.files files h.texts h.words h.evidence (record {
      certifiable = m w.0;
      written = w.1;
      typed = typed;
      short = short;
      held = held;
      same = same;
      row = row;
    }) h.have_texts h.become_words h.done said
