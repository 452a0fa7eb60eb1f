-- A polynomial that nothing decides has no low order, and no table was asked for.
use Rattle.std.proofs.Common.{◌≡◌, ◌⊎◌, inl, inr, List}
use Rattle.std.specs.Prelude.{Bool, true, false, Option, Some, None, Ok, ℤ}
use Rattle.dsv_base.specs.Seen.{FilesSeen}
use Rattle.dsv_certfile.specs.declared.certificate.Certificate.{Certificate}
use Rattle.dsv_jury.specs.declared.verdict.Jury.{Jury}
use Rattle.dsv_report.specs.declared.stop.Stop.TheVariants as stop
use Rattle.dsv_lyapunov.specs.declared.kept.KeptForm.{KeptForm}
use Rattle.dsv_names.specs.declared.property.RootProperty.{RootProperty}
use Rattle.dsv_names.specs.declared.property.RootProperty.TheVariants.{Stability}
use Rattle.dsv_loop.specs.Loops.{loop_of}
use Rattle.dsv_loop.specs.declared.refusal.LoopRefusal.{LoopRefusal}
use Rattle.std.specs.Prelude.{Result, Err, [], ◌∷◌}
use Rattle.dsv_cascade.specs.Cascades.{CascadeView, sections_of}
use Rattle.dsv_quantiser.specs.QuantisedView.{QuantisedView}
use Rattle.dsv_cli.specs.Causes.{IsOfProperty}
use Rattle.dsv_command.specs.Table.{Task, decides, checks_form, checks_ellipsoid, searches, measures_gain, simulates, Request, does, checks, generates, runs_file, tells_words, emits_code, emits_test, emits_file_test}
use Rattle.dsv_report.specs.declared.answers.Answer.TheVariants as answer
use Rattle.dsv_report.specs.Stops.{Outcome}
use Rattle.dsv_cli.specs.JobRows.{IsOfSections, IsTaskDone, IsOfCheck, IsAnswered}
use Rattle.dsv_cli.specs.Words.{JobWords, of_words, of_series, of_state_words}
use Rattle.dsv_files.specs.JobTexts.{JobTexts, of_one, of_sections, of_state_file, with_plant, sections_with_plant, Evidence, certificate, ellipsoid, input_list}
use Rattle.dsv_cli.specs.Loops.{IsOfLoop}
use Rattle.dsv_cli.specs.Proposers.{AsksSchurCohn, IfNoForm, Wants, is_low}
use Rattle.dsv_cli.proofs.Unasked.{no_low}

-- what is known where no form was found
abbrev IsUndecided : Task → List ℤ → Type 0
IsUndecided task poly = (is_low poly ≡ false) × (AsksSchurCohn task → ⊥)

both_ways : (p : RootProperty) → AsksSchurCohn (decides p false) → ⊥
both_ways p (q, e) = cc

no_loop_form : (came : Result (List ℤ) LoopRefusal) (poly : List ℤ) (kept : List KeptForm) (verdict : Jury) → IsOfLoop came (Ok (answer.NoForm poly kept verdict)) → ⊥
no_loop_form (Ok found) poly kept verdict h = h
no_loop_form (Err why) poly kept verdict h = h

property_undecided : (p : RootProperty) (flag : Bool) (q : QuantisedView) (poly : List ℤ) (kept : List KeptForm) (verdict : Jury) → IsOfProperty p flag q (Ok (answer.NoForm poly kept verdict)) → IsUndecided (decides p flag) poly
property_undecided p true q poly kept verdict h = absurd (let e = h.decision.1 in cc)
property_undecided p false q poly kept verdict h = (no_low poly h.decision.2.no_closed_form, both_ways p)

sections_undecided : (flag : Bool) (s : CascadeView) (poly : List ℤ) (kept : List KeptForm) (verdict : Jury) → IsOfSections flag s (Ok (answer.NoForm poly kept verdict)) → ⊥
sections_undecided true s poly kept verdict h = h
sections_undecided false s poly kept verdict h = h

task_undecided : (task : Task) (e : Evidence) (t : JobTexts) (w : JobWords) (poly : List ℤ) (kept : List KeptForm) (verdict : Jury) → IsTaskDone task e t w (Ok (answer.NoForm poly kept verdict)) → IsUndecided task poly
task_undecided (searches p n conflicts) e t w poly kept verdict h = absurd h
task_undecided measures_gain e t w poly kept verdict h = absurd h
task_undecided (simulates xs false) e t w poly kept verdict h = absurd h
task_undecided (simulates xs true) e t w poly kept verdict h = absurd h
task_undecided (runs_file name false) (input_list xs) t w poly kept verdict h = absurd h
task_undecided (runs_file name true) (input_list xs) t w poly kept verdict h = absurd h
task_undecided tells_words e t w poly kept verdict h = absurd (cc)
task_undecided (emits_code prefix) e t w poly kept verdict h = absurd h
task_undecided (emits_test prefix xs) e t w poly kept verdict h = absurd h
task_undecided (emits_file_test prefix name) (input_list xs) t w poly kept verdict h = absurd h
task_undecided (decides p flag) e (of_one c) (of_words q) poly kept verdict h = property_undecided p flag q poly kept verdict h
task_undecided (decides Stability flag) e (of_sections c cs) (of_series s) poly kept verdict h = absurd (sections_undecided flag s poly kept verdict h)
task_undecided (decides Stability true) e (of_state_file c) (of_state_words s) poly kept verdict h = absurd h
task_undecided (decides Stability flag) e (with_plant c p) (of_words q) poly kept verdict h = absurd (no_loop_form (loop_of (q ∷ []) c.sample_time p) poly kept verdict h.0)
task_undecided (decides Stability flag) e (sections_with_plant c cs p) (of_series s) poly kept verdict h = absurd (no_loop_form (loop_of (sections_of s) c.sample_time p) poly kept verdict h)
task_undecided (checks_ellipsoid name) (ellipsoid o) (of_one c) (of_words q) poly kept verdict h = absurd h
task_undecided (checks_form name) (certificate x) (of_state_file c) (of_state_words s) poly kept verdict h = absurd h
task_undecided task e (of_one c) (of_words q) poly kept verdict h = absurd h
task_undecided task e (of_state_file c) (of_state_words s) poly kept verdict h = absurd h
task_undecided task e t w poly kept verdict h = absurd h

check_undecided : (t : JobTexts) (c : Certificate) (poly : List ℤ) (kept : List KeptForm) (verdict : Jury) → IsOfCheck t c (Ok (answer.NoForm poly kept verdict)) → ⊥
check_undecided (of_one d) c poly kept verdict h = h
check_undecided (with_plant d p) c poly kept verdict h = h
check_undecided t c poly kept verdict h = absurd h

pub low_is_decided : (old new : FilesSeen) (request : Option Request) (found : Outcome) → IsAnswered old new request found → IfNoForm found (λ poly kept. is_low poly ≡ false)
low_is_decided old new (Some (does job)) (Ok (answer.NoForm poly kept verdict)) h = (task_undecided job.task h.evidence h.texts h.words poly kept verdict h.done).0
low_is_decided old new (Some (checks files name worded)) (Ok (answer.NoForm poly kept verdict)) h = absurd (check_undecided h.texts h.written poly kept verdict h.check)
low_is_decided old new (Some (generates seed count)) (Ok (answer.NoForm poly kept verdict)) h = absurd h.0
low_is_decided old new None (Ok (answer.NoForm poly kept verdict)) h = absurd (no_answer h)
  where
    no_answer : {A : Type 0} → ((Ok (answer.NoForm poly kept verdict) ≡ Err stop.NoMemory) ⊎ ((Ok (answer.NoForm poly kept verdict) ≡ Err stop.Usage) × A)) → ⊥
    no_answer (inl e) = cc
    no_answer (inr e) = let f = e.0 in cc
low_is_decided old new request found h = tt

pub table_decides : (old new : FilesSeen) (request : Option Request) (found : Outcome) → IsAnswered old new request found → Wants AsksSchurCohn request → IfNoForm found (λ poly kept. ⊥)
table_decides old new (Some (does job)) (Ok (answer.NoForm poly kept verdict)) h asks = (task_undecided job.task h.evidence h.texts h.words poly kept verdict h.done).1 asks.1
table_decides old new (Some (checks files name worded)) (Ok (answer.NoForm poly kept verdict)) h asks = absurd asks
table_decides old new (Some (generates seed count)) (Ok (answer.NoForm poly kept verdict)) h asks = absurd asks
table_decides old new None (Ok (answer.NoForm poly kept verdict)) h asks = absurd asks
table_decides old new request found h asks = tt
