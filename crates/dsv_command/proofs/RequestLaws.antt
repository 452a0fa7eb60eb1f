-- What parts ask for, by the rules and as it is found.
use Rattle.std.proofs.Common.{◌≡◌, ℕ, Bool, true, false, not, ◌&&◌, List, [], ◌∷◌, Option, Some, None, Ok, Err, refl, sym, ap, subst, ◌∙◌}
use Rattle.std.specs.Prelude.{Result, codes, if◌then◌else◌, unwrap_or, option_and_then}
use Rattle.dsv_names.specs.declared.property.RootProperty.TheVariants.{Stability}
use Rattle.dsv_command.specs.declared.kind.Kind.{Kind}
use Rattle.dsv_command.specs.declared.kind.Kind.TheVariants as of_kind
use Rattle.dsv_command.specs.ClapCommand.{filled}
use Rattle.dsv_command.specs.Finding.{unless_given, unless_file, first_other, task_in, task_part, kind_in, check_states, is_incomplete, check_cell, certificate_part, check_certificate, words_part, check_words, check_realisation, check_cell_whole, check_whole, files_in, check_own, check_rest, check_job, job_in, all_job_options, checked_files, check_in, generation_in, done, request_by, asked_by, asked_of}
use Rattle.dsv_command.specs.Limits.{default_controllers}
use Rattle.dsv_command.specs.Options.{command_options}
use Rattle.dsv_command.specs.Parts.{PartView, flag, is_given, file_of, value_of, has_empty}
use Rattle.dsv_command.specs.Reading.{parts_of}
use Rattle.dsv_command.specs.Reasons.{Reason, apart, fault_of, marks_of}
use Rattle.dsv_command.specs.Requests.{IsInTable, IsCertifiable}
use Rattle.dsv_command.specs.Rules.{IsSeed, AreValues, HasOnly, AreFiles, IsTask, IsJobOf, IsCheckOf, IsGenerationOf, IsRequestOf, IsRequestLine}
use Rattle.dsv_command.specs.Table.{JobFiles, controller, plant_loop, Task, decides, checks_form, seeks_form, Job, Request, does, checks, generates, kind_of, has_cell, may_certify, may_word, is_checked, task_options, all_task_options, file_options, all_file_options, all_design_options}
use Rattle.dsv_command.specs.Values.{Values, values_in}
use Rattle.dsv_command.proofs.FileLaws.{files_read, kind_checked, files_found, no_file, none_given}
use Rattle.dsv_command.proofs.OnlyLaws.{off, unless, only_append, only_before, only_after, no_value, first_by_only, only_by_first, AreTyped, parts_typed, unvalued}
use Rattle.dsv_command.proofs.PartLaws.{given_is_read, read_is_given}
use Rattle.dsv_command.proofs.TaskLaws.{no_text, none_as, task_read, IsWhole, task_found}
use Rattle.dsv_command.proofs.ValueLaws.{passed, values_read, values_found}

-- ---- what goes together
abbrev fine : Result (Unit {0}) Reason
fine = Ok tt

-- no task of a kind is incomplete
whole_cell : (kind : Kind) (t : Task) → has_cell kind t ≡ true → check_cell_whole kind t ≡ Ok tt
whole_cell of_kind.States (decides Stability false) h = absurd (cc)
whole_cell of_kind.Controller (checks_form name) h = absurd (cc)
whole_cell of_kind.Controller seeks_form h = absurd (cc)
whole_cell kind t h = refl

whole_task : (parts : List PartView) (v : Values) (kind : Kind) (t : Task) → IsTask parts v t → has_cell kind t ≡ true → check_whole parts kind t ≡ Ok tt
whole_task parts v kind t (IsTask.roots ps w p e) h = whole_cell kind t h
whole_task parts v kind t (IsTask.timing ps w e) h = whole_cell kind t h
whole_task parts v kind t (IsTask.formula ps w p e f) h = whole_cell kind t h
whole_task parts v kind t (IsTask.search ps w p e) h = whole_cell kind t h
whole_task parts v kind t (IsTask.unbounded ps w e u) h = whole_cell kind t h
whole_task parts v kind t (IsTask.gain ps w e g) h = whole_cell kind t h
whole_task parts v kind t (IsTask.simulation ps w xs e) h = whole_cell kind t h
whole_task parts v kind t (IsTask.file_run ps w name e) h = whole_cell kind t h
whole_task parts v kind t (IsTask.words_alone ps w e) h = whole_cell kind t h
whole_task parts v kind t (IsTask.code ps w e) h = whole_cell kind t h
whole_task parts v kind t (IsTask.code_test ps w xs e f) h = whole_cell kind t h
whole_task parts v kind t (IsTask.code_file_test ps w name e f) h = whole_cell kind t h
whole_task parts v kind t (IsTask.named_form ps w name e f) h = whole_cell kind t h
whole_task parts v kind t (IsTask.sought_form ps w e l) h = whole_cell kind t h
whole_task parts v kind t (IsTask.named_ellipsoid ps w name e u l) h = rw u refl
whole_task parts v kind t (IsTask.sought_ellipsoid ps w e f r) h = whole_cell kind t h

realised_task : (parts : List PartView) (v : Values) (t : Task) → IsTask parts v t → check_realisation t v.design.realisation ≡ Ok tt
realised_task parts v t (IsTask.roots ps w p e) = refl
realised_task parts v t (IsTask.timing ps w e) = refl
realised_task parts v t (IsTask.formula ps w p e f) = refl
realised_task parts v t (IsTask.search ps w p e) = refl
realised_task parts v t (IsTask.unbounded ps w e u) = refl
realised_task parts v t (IsTask.gain ps w e g) = refl
realised_task parts v t (IsTask.simulation ps w xs e) = refl
realised_task parts v t (IsTask.file_run ps w name e) = refl
realised_task parts v t (IsTask.words_alone ps w e) = refl
realised_task parts v t (IsTask.code ps w e) = refl
realised_task parts v t (IsTask.code_test ps w xs e f) = refl
realised_task parts v t (IsTask.code_file_test ps w name e f) = refl
realised_task parts v t (IsTask.named_form ps w name e f) = refl
realised_task parts v t (IsTask.sought_form ps w e l) = refl
realised_task parts v t (IsTask.named_ellipsoid ps w name e u l) = refl
realised_task parts v t (IsTask.sought_ellipsoid ps w e f r) = rw r refl

certified_by : (g m : Bool) (reason : Reason) → (g ≡ true → m ≡ true) → (if g && not m then Err reason else fine) ≡ fine
certified_by true true reason h = refl
certified_by true false reason h = absurd (let k = h refl in cc)
certified_by false m reason h = refl

-- ---- from the rules to the request
job_checked : (parts : List PartView) (v : Values) (job : Job) → IsJobOf parts v job → kind_in parts ≡ kind_of job.files → check_job parts job.task v.design.realisation ≡ Ok tt
unfolding check_own check_rest
job_checked parts v job h kind =
    let only = first_by_only parts (task_options job.task) all_task_options h.task_options in
    let certified = certified_by (is_given parts (codes "certificate")) (may_certify (kind_of job.files) job.task) (apart (certificate_part (kind_of job.files) job.task) (flag (codes "certificate")))
    (λ g. h.certificate (h.certified ∙ g)) in
    let worded = certified_by (is_given parts (codes "words")) (may_word (is_given parts (codes "certificate")) job.task) (apart (words_part (is_given parts (codes "certificate")) job.task) (flag (codes "words")))
    (λ g. subst (λ (c : Bool). may_word c job.task ≡ true) h.certified (h.words (h.worded ∙ g))) in
    rw (only, kind)
    (rw (kind_checked parts v job.files h.files h.file_options h.design_options, h.cell, certified, worded, realised_task parts v job.task h.task, whole_task parts v (kind_of job.files) job.task h.task h.cell) refl)

job_read : (parts : List PartView) (v : Values) (job : Job) → AreValues parts v → IsJobOf parts v job → job_in parts v ≡ Ok job
job_read parts v job values h =
    let f = files_read parts v job.files values h.files h.file_options in
    rw (task_read parts v job.task values h.task h.task_options, job_checked parts v job h f.kind, f.read) (rw (sym h.design, sym h.certified, sym h.worded) refl)

no_seed : (parts : List PartView) (v : Values) → AreValues parts v → is_given parts (codes "generate") ≡ false → v.seed ≡ None
no_seed parts v h e = none_as IsSeed (value_of (codes "generate") parts) v.seed h.seed (no_value parts (codes "generate") e)

no_count : (parts : List PartView) (v : Values) → AreValues parts v → is_given parts (codes "count") ≡ false → v.controllers ≡ None
no_count parts v h e = none_as _ (value_of (codes "count") parts) v.controllers h.controllers (no_value parts (codes "count") e)

checked_read : (parts : List PartView) (v : Values) (found : JobFiles) → AreFiles parts v found → is_checked (kind_of found) ≡ true → HasOnly parts (file_options found) all_file_options
    → checked_files (value_of (codes "plant") parts) (file_of parts) ≡ Ok found
checked_read parts v found (AreFiles.controllers ps w name f) c only = rw (f, no_value ps (codes "plant") (off ps [] (codes "plant") only.1.1.0 refl)) refl
checked_read parts v found (AreFiles.cascades ps w name later f e) c only = absurd (cc)
checked_read parts v found (AreFiles.state_spaces ps w name f s) c only = absurd (cc)
checked_read parts v found (AreFiles.loops ps w name plant f p) c only = rw (f, p) refl
checked_read parts v found (AreFiles.cascade_loops ps w name later plant f e p) c only = absurd (cc)

-- no option of jobs is given, in the order in which a check looks at them
check_only : (parts : List PartView) (v : Values) (found : JobFiles) → AreFiles parts v found → is_checked (kind_of found) ≡ true → HasOnly parts (file_options found) all_file_options
    → (is_given parts (codes "state-space") ≡ false) × (is_given parts (codes "sections") ≡ false)
check_only parts v found (AreFiles.controllers ps w name f) c only = (off ps [] (codes "state-space") only.0 refl, off ps [] (codes "sections") only.1.0 refl)
check_only parts v found (AreFiles.cascades ps w name later f e) c only = absurd (cc)
check_only parts v found (AreFiles.state_spaces ps w name f s) c only = absurd (cc)
check_only parts v found (AreFiles.loops ps w name plant f p) c only = (off ps (codes "plant" ∷ []) (codes "state-space") only.0 refl, off ps (codes "plant" ∷ []) (codes "sections") only.1.0 refl)
check_only parts v found (AreFiles.cascade_loops ps w name later plant f e p) c only = absurd (cc)

check_read : (parts : List PartView) (v : Values) (found : JobFiles) (name : List ℕ) (worded : Bool) → IsCheckOf parts v found name worded → check_in parts name ≡ Ok (checks found name worded)
check_read parts v found name worded h =
    let files = check_only parts v found h.are_files h.checked h.file_options in
    let only : HasOnly parts [] all_job_options = (
      unless parts (codes "state-space") false files.0,
      (
        unless parts (codes "sections") false files.1,
        only_append parts [] all_task_options (codes "certificate" ∷ all_design_options) h.no_task (unless parts (codes "certificate") false h.no_certificate, h.no_design),
      ),
    ) in
    rw (first_by_only parts [] all_job_options only, checked_read parts v found h.are_files h.checked h.file_options) (rw h.words refl)

generation_read : (parts : List PartView) (v : Values) (seed count : ℕ) → IsGenerationOf parts v seed count → generation_in parts v.controllers seed ≡ Ok (generates seed count)
generation_read parts v seed count h =
    let files = h.no_files in
    let before : HasOnly parts [] (codes "check" ∷ codes "plant" ∷ codes "words" ∷ []) = (unless parts (codes "check") false h.no_check, (files.1.1.0, (unless parts (codes "words") false h.no_words, tt))) in
    let only : HasOnly parts [] all_job_options = (
      files.0,
      (
        files.1.0,
        only_append parts [] all_task_options (codes "certificate" ∷ all_design_options) h.no_task (unless parts (codes "certificate") false h.no_certificate, h.no_design),
      ),
    ) in
    rw (h.no_file, first_by_only parts [] (codes "check" ∷ codes "plant" ∷ codes "words" ∷ []) before, first_by_only parts [] all_job_options only) (rw (sym h.number) refl)

parts_read : (parts : List PartView) (v : Values) (request : Request) → AreValues parts v → IsRequestOf parts v request → request_by parts v v.seed v.controllers (value_of (codes "check") parts) ≡ Ok request
parts_read parts v (does job) values h =
    rw (no_seed parts v values h.no_seed, no_count parts v values h.no_count, no_value parts (codes "check") h.no_check) (ap done (job_read parts v job values h))
parts_read parts v (checks found name worded) values h = rw (no_seed parts v values h.no_seed, no_count parts v values h.no_count, h.given) (check_read parts v found name worded h)
parts_read parts v (generates seed count) values h = rw h.given (generation_read parts v seed count h)

pub line_read : (arguments : List (List ℕ)) (request : Request) → IsRequestLine arguments request → asked_of arguments ≡ Ok request
unfolding asked_of
line_read arguments request h =
    rw (given_is_read command_options arguments h.parts h.give) (rw h.filled (rw (values_read h.parts h.values h.are_values) (parts_read h.parts h.values request h.are_values h.request_of_parts)))

-- ---- from the request to the rules

lacks : (parts : List PartView) (kind : Kind) (t : Task) → check_whole parts kind t ≡ Ok tt → is_incomplete kind t ≡ true → ⊥
lacks parts of_kind.States (decides Stability false) w h = cc
lacks parts of_kind.Controller (checks_form name) w h = cc
lacks parts of_kind.Controller seeks_form w h = cc
lacks parts kind t w h = cc

cell_by : (cell incomplete : Bool) (reason : Reason) → (if cell then fine else if incomplete then fine else Err reason) ≡ fine → (incomplete ≡ true → ⊥) → cell ≡ true
cell_by true incomplete reason h n = refl
cell_by false true reason h n = absurd (n refl)
cell_by false false reason h n = absurd (cc)

certificate_by : (g m : Bool) (reason : Reason) → (if g && not m then Err reason else fine) ≡ fine → g ≡ true → m ≡ true
certificate_by true true reason h e = refl
certificate_by true false reason h e = absurd (cc)
certificate_by false m reason h e = absurd (cc)

record JobChecked (parts : List PartView) (v : Values) (t : Task) : Type 0 where
  pub only : HasOnly parts (task_options t) all_task_options
  pub states : check_states parts (kind_in parts) ≡ Ok tt
  pub cell : has_cell (kind_in parts) t ≡ true
  pub certificate : is_given parts (codes "certificate") ≡ true → may_certify (kind_in parts) t ≡ true
  pub words : is_given parts (codes "words") ≡ true → may_word (is_given parts (codes "certificate")) t ≡ true
  pub whole : IsWhole parts v (kind_in parts) t

job_checks : (parts : List PartView) (v : Values) (t : Task) → check_job parts t v.design.realisation ≡ Ok tt → JobChecked parts v t
unfolding check_own check_rest
job_checks parts v t h =
    let other = first_other parts (task_options t) all_task_options in
    let a = passed (unless_given (task_part t) other) _ tt h in
    let b = passed (check_states parts (kind_in parts)) _ tt a.second in
    let c = passed (check_cell (kind_in parts) t) _ tt b.second in
    let d = passed (check_certificate (is_given parts (codes "certificate")) (kind_in parts) t) _ tt c.second in
    let w = passed (check_words (is_given parts (codes "words")) (is_given parts (codes "certificate")) t) _ tt d.second in
    let e = passed (check_realisation t v.design.realisation) _ tt w.second in
    record {
      only = only_by_first parts (task_options t) all_task_options (none_given (task_part t) other a.first);
      states = b.first;
      cell = cell_by (has_cell (kind_in parts) t) (is_incomplete (kind_in parts) t) _ c.first (lacks parts (kind_in parts) t e.second);
      certificate = certificate_by (is_given parts (codes "certificate")) (may_certify (kind_in parts) t) _ d.first;
      words = certificate_by (is_given parts (codes "words")) (may_word (is_given parts (codes "certificate")) t) _ w.first;
      whole = record { realisation = e.first; whole = e.second };
    }

-- a job is found of these parts, and neither a check nor a generation
record IsAlone (parts : List PartView) : Type 0 where
  pub no_check : is_given parts (codes "check") ≡ false
  pub no_seed : is_given parts (codes "generate") ≡ false
  pub no_count : is_given parts (codes "count") ≡ false

job_found : (parts : List PartView) (v : Values) (job : Job) → AreTyped command_options parts → AreValues parts v → IsAlone parts → job_in parts v ≡ Ok job → IsJobOf parts v job
job_found parts v job typed values alone h =
    let a = passed (task_in parts v) _ job h in
    let b = passed (check_job parts a.value v.design.realisation) _ job a.second in
    let c = passed (files_in parts v) _ job b.second in
    let k = job_checks parts v a.value b.first in
    let f = files_found parts v c.value typed values k.states c.first in
    let same : record { files = c.value; task = a.value; design = v.design; certified = is_given parts (codes "certificate"); worded = is_given parts (codes "words") } ≡ job = let e = c.second in cc in
    subst (IsJobOf parts v) same (record {
      files = f.files;
      task = task_found parts v a.value (kind_in parts) k.whole a.first;
      cell = subst (λ (x : Kind). has_cell x a.value ≡ true) f.kind k.cell;
      design = refl;
      certified = refl;
      certificate = subst (λ (x : Kind). is_given parts (codes "certificate") ≡ true → may_certify x a.value ≡ true) f.kind k.certificate;
      worded = refl;
      words = k.words;
      file_options = f.file_only;
      task_options = k.only;
      design_options = f.design_only;
      no_check = alone.no_check;
      no_seed = alone.no_seed;
      no_count = alone.no_count;
    })

alone_by : (parts : List PartView) (v : Values) → AreTyped command_options parts → AreValues parts v → v.seed ≡ None → v.controllers ≡ None → value_of (codes "check") parts ≡ None → IsAlone parts
alone_by parts v typed values s c k = record {
  no_check = unvalued command_options parts (codes "check") typed refl k;
  no_seed = unvalued command_options parts (codes "generate") typed refl (no_text IsSeed (value_of (codes "generate") parts) v.seed values.seed s);
  no_count = unvalued command_options parts (codes "count") typed refl (no_text _ (value_of (codes "count") parts) v.controllers values.controllers c);
}

-- the files of a check
record CheckFound (parts : List PartView) (v : Values) (found : JobFiles) : Type 0 where
  pub are_files : AreFiles parts v found
  pub checked : is_checked (kind_of found) ≡ true
  pub only : HasOnly parts (file_options found) all_file_options

checked_by : (parts : List PartView) (v : Values) (found : JobFiles) (plant file : Option (List ℕ)) → AreTyped command_options parts
    → is_given parts (codes "state-space") ≡ false → is_given parts (codes "sections") ≡ false → value_of (codes "plant") parts ≡ plant → file_of parts ≡ file
    → checked_files plant file ≡ Ok found → CheckFound parts v found
checked_by parts v found plant None t s n p f h = absurd (cc)
checked_by parts v found None (Some name) t s n p f h =
    let same : controller name ≡ found = cc in
    subst (CheckFound parts v) same (record {
      are_files = AreFiles.controllers parts v name f;
      checked = refl;
      only = (unless parts (codes "state-space") _ s, (unless parts (codes "sections") _ n, (unless parts (codes "plant") _ (unvalued command_options parts (codes "plant") t refl p), tt)));
    })
checked_by parts v found (Some plant) (Some name) t s n p f h =
    let same : plant_loop name plant ≡ found = cc in
    subst (CheckFound parts v) same (record {
      are_files = AreFiles.loops parts v name plant f p;
      checked = refl;
      only = (unless parts (codes "state-space") _ s, (unless parts (codes "sections") _ n, ((λ g. refl), tt)));
    })

check_found : (parts : List PartView) (v : Values) (name : List ℕ) (request : Request) → AreTyped command_options parts → AreValues parts v → v.seed ≡ None → v.controllers ≡ None
    → value_of (codes "check") parts ≡ Some name → check_in parts name ≡ Ok request → IsRequestOf parts v request
check_found parts v name request typed values s c k h =
    let a = passed (unless_given (flag (codes "check")) (first_other parts [] all_job_options)) _ request h in
    let b = passed (checked_files (value_of (codes "plant") parts) (file_of parts)) (λ files. Ok (checks files name (is_given parts (codes "words")))) request a.second in
    let only = only_by_first parts [] all_job_options (none_given (flag (codes "check")) (first_other parts [] all_job_options) a.first) in
    let rest = only_after parts [] all_task_options (codes "certificate" ∷ all_design_options) only.1.1 in
    let f = checked_by parts v b.value (value_of (codes "plant") parts) (file_of parts) typed (off parts [] (codes "state-space") only.0 refl) (off parts [] (codes "sections") only.1.0 refl) refl refl b.first in
    let same : checks b.value name (is_given parts (codes "words")) ≡ request = let e = b.second in cc in
    subst (IsRequestOf parts v) same (record {
      given = k;
      are_files = f.are_files;
      checked = f.checked;
      words = refl;
      file_options = f.only;
      no_task = only_before parts [] all_task_options (codes "certificate" ∷ all_design_options) only.1.1;
      no_design = rest.1;
      no_certificate = off parts [] (codes "certificate") rest.0 refl;
      no_seed = unvalued command_options parts (codes "generate") typed refl (no_text IsSeed (value_of (codes "generate") parts) v.seed values.seed s);
      no_count = unvalued command_options parts (codes "count") typed refl (no_text _ (value_of (codes "count") parts) v.controllers values.controllers c);
    })

generation_found : (parts : List PartView) (v : Values) (seed : ℕ) (request : Request) → v.seed ≡ Some seed → generation_in parts v.controllers seed ≡ Ok request → IsRequestOf parts v request
generation_found parts v seed request s h =
    let a = passed (unless_file (flag (codes "generate")) (file_of parts)) _ request h in
    let b = passed (unless_given (flag (codes "generate")) (first_other parts [] (codes "check" ∷ codes "plant" ∷ codes "words" ∷ []))) _ request a.second in
    let c = passed (unless_given (flag (codes "generate")) (first_other parts [] all_job_options)) _ request b.second in
    let before = only_by_first parts [] (codes "check" ∷ codes "plant" ∷ codes "words" ∷ []) (none_given (flag (codes "generate")) (first_other parts [] (codes "check" ∷ codes "plant" ∷ codes "words" ∷ [])) b.first) in
    let only = only_by_first parts [] all_job_options (none_given (flag (codes "generate")) (first_other parts [] all_job_options) c.first) in
    let rest = only_after parts [] all_task_options (codes "certificate" ∷ all_design_options) only.1.1 in
    let same : generates seed (unwrap_or v.controllers default_controllers) ≡ request = let e = c.second in cc in
    subst (IsRequestOf parts v) same (record {
      given = s;
      number = refl;
      no_file = no_file (flag (codes "generate")) (file_of parts) a.first;
      no_check = off parts [] (codes "check") before.0 refl;
      no_certificate = off parts [] (codes "certificate") rest.0 refl;
      no_words = off parts [] (codes "words") before.1.1.0 refl;
      no_files = (only.0, (only.1.0, (before.1.0, tt)));
      no_task = only_before parts [] all_task_options (codes "certificate" ∷ all_design_options) only.1.1;
      no_design = rest.1;
    })

job_done : (parts : List PartView) (v : Values) (request : Request) (r : Result Job Reason) → ((job : Job) → r ≡ Ok job → IsJobOf parts v job) → done r ≡ Ok request → IsRequestOf parts v request
job_done parts v request (Ok job) f h = let same : does job ≡ request = cc in subst (IsRequestOf parts v) same (f job refl)
job_done parts v request (Err reason) f h = absurd (cc)

request_found : (parts : List PartView) (v : Values) (request : Request) (seed controllers : Option ℕ) (check : Option (List ℕ)) → AreTyped command_options parts → AreValues parts v → v.seed ≡ seed
    → v.controllers ≡ controllers → value_of (codes "check") parts ≡ check → request_by parts v seed controllers check ≡ Ok request → IsRequestOf parts v request
request_found parts v request (Some seed) controllers check t values s c k h = generation_found parts v seed request s (rw c h)
request_found parts v request None (Some count) check t values s c k h = absurd (cc)
request_found parts v request None None (Some name) t values s c k h = check_found parts v name request t values s c k h
request_found parts v request None None None t values s c k h =
    job_done parts v request (job_in parts v) (λ job e. job_found parts v job t values (alone_by parts v t values s c k) e) h

line_by : (arguments : List (List ℕ)) (request : Request) (parts : List PartView) (empty : Bool) → has_empty parts ≡ empty → parts_of command_options arguments ≡ Some parts
    → (fault : Option Reason) → asked_by (if empty then None else Some parts) fault ≡ Ok request → IsRequestLine arguments request
line_by arguments request parts true e p None h = absurd (cc)
line_by arguments request parts true e p (Some reason) h = absurd (cc)
line_by arguments request parts false e p fault h =
    let give = read_is_given command_options arguments parts p in
    let a = passed (values_in parts) _ request h in
    let values = values_found parts a.value a.first in
    record {
      parts = parts;
      give = give;
      filled = e;
      values = a.value;
      are_values = values;
      request_of_parts = request_found parts a.value request a.value.seed a.value.controllers (value_of (codes "check") parts) (parts_typed command_options arguments parts give.given) values refl refl refl a.second;
    }

read_by : (arguments : List (List ℕ)) (request : Request) (found : Option (List PartView)) → parts_of command_options arguments ≡ found
    → (fault : Option Reason) → asked_by (option_and_then filled found) fault ≡ Ok request → IsRequestLine arguments request
read_by arguments request None e None h = absurd (cc)
read_by arguments request None e (Some reason) h = absurd (cc)
read_by arguments request (Some parts) e fault h = line_by arguments request parts (has_empty parts) refl e fault h

pub line_found : (arguments : List (List ℕ)) (request : Request) → asked_of arguments ≡ Ok request → IsRequestLine arguments request
unfolding asked_of
line_found arguments request h = read_by arguments request (parts_of command_options arguments) refl (fault_of (marks_of command_options arguments)) h

-- ---- what is read stands in the table
request_in_table : (parts : List PartView) (v : Values) (request : Request) → IsRequestOf parts v request → IsInTable request
request_in_table parts v (does job) h = h.cell
request_in_table parts v (checks files name worded) h = h.checked
request_in_table parts v (generates seed count) h = tt

pub line_in_table : (arguments : List (List ℕ)) (request : Request) → IsRequestLine arguments request → IsInTable request
line_in_table arguments request h = request_in_table h.parts h.values request h.request_of_parts

request_certifiable : (parts : List PartView) (v : Values) (request : Request) → IsRequestOf parts v request → IsCertifiable request
request_certifiable parts v (does job) h = h.certificate
request_certifiable parts v (checks files name worded) h = tt
request_certifiable parts v (generates seed count) h = tt

pub line_certifiable : (arguments : List (List ℕ)) (request : Request) → IsRequestLine arguments request → IsCertifiable request
line_certifiable arguments request h = request_certifiable h.parts h.values request h.request_of_parts

-- so does what arguments ask for
pub asked_in_table : (arguments : List (List ℕ)) (request : Request) → asked_of arguments ≡ Ok request → IsInTable request × IsCertifiable request
asked_in_table arguments request h =
    let ruled : IsRequestLine arguments request = line_found arguments request h in
    (line_in_table arguments request ruled, line_certifiable arguments request ruled)
