-- The task of parts, by the rules and as it is found.
use Rattle.std.proofs.Common.{◌≡◌, ℕ, ℤ, Bool, true, false, List, Option, Some, None, Ok, Err, refl, sym, ap, subst, ◌∙◌}
use Rattle.std.specs.Prelude.{codes, if◌then◌else◌, Result}
use Rattle.std.specs.List.{list_any}
use Rattle.std.specs.Str.{bytes_eq}
use Rattle.dsv_names.specs.declared.property.RunProperty.TheVariants.{Overflow, LimitCycle}
use Rattle.dsv_names.specs.declared.property.RootProperty.TheVariants.{Stability, MinimumPhase}
use Rattle.dsv_names.specs.declared.property.Property.{Property}
use Rattle.dsv_names.specs.declared.property.Property.TheVariants.{OfRuns, OfRoots, Timing}
use Rattle.dsv_names.specs.declared.realisation.Realisation.{Realisation}
use Rattle.dsv_names.specs.declared.realisation.Realisation.TheVariants.{Dfi}
use Rattle.dsv_command.specs.declared.kind.Kind.{Kind}
use Rattle.dsv_command.specs.Finding.{task_if, is_stability, is_overflow, formula_task, plain_task, run_task, flag_task, ellipsoid_task, form_task, words_task, missing_task, task_by, code_task, code_prefix, task_in, check_realisation, check_whole}
use Rattle.dsv_command.specs.Parts.{PartView, is_given, value_of}
use Rattle.dsv_command.specs.Reasons.{Reason}
use Rattle.dsv_command.specs.Rules.{AreInputs, IsGivenAs, AreValues, HasOnly, IsTask}
use Rattle.dsv_command.specs.Table.{Task, decides, checks_time, writes, searches, seeks_set, measures_gain, simulates, runs_file, tells_words, emits_code, emits_test, emits_file_test, checks_form, seeks_form, checks_ellipsoid, seeks_ellipsoid, task_options, all_task_options}
use Rattle.dsv_command.specs.Values.{Values}
use Rattle.dsv_command.proofs.OnlyLaws.{off, no_value}

-- ---- from the rules to the task

-- the options of tasks that aren't given, if a task's own options are others
pub record Others (parts : List PartView) (own : List (List ℕ)) : Type 0 where
  pub simulate : list_any (bytes_eq (codes "simulate")) own ≡ false → is_given parts (codes "simulate") ≡ false
  pub form : list_any (bytes_eq (codes "form")) own ≡ false → is_given parts (codes "form") ≡ false
  pub lyapunov : list_any (bytes_eq (codes "lyapunov")) own ≡ false → is_given parts (codes "lyapunov") ≡ false
  pub ellipsoid : list_any (bytes_eq (codes "ellipsoid")) own ≡ false → is_given parts (codes "ellipsoid") ≡ false
  pub offer : list_any (bytes_eq (codes "offer-ellipsoid")) own ≡ false → is_given parts (codes "offer-ellipsoid") ≡ false
  pub gain : list_any (bytes_eq (codes "gain")) own ≡ false → is_given parts (codes "gain") ≡ false
  pub unbounded : list_any (bytes_eq (codes "unbounded")) own ≡ false → is_given parts (codes "unbounded") ≡ false
  pub formula : list_any (bytes_eq (codes "formula")) own ≡ false → is_given parts (codes "formula") ≡ false
  pub inputs : list_any (bytes_eq (codes "inputs")) own ≡ false → is_given parts (codes "inputs") ≡ false
  pub emit : list_any (bytes_eq (codes "emit-c")) own ≡ false → is_given parts (codes "emit-c") ≡ false

pub others : (parts : List PartView) (own : List (List ℕ)) → HasOnly parts own all_task_options → Others parts own
others parts own h = record {
  simulate = off parts own (codes "simulate") h.1.0;
  form = off parts own (codes "form") h.1.1.0;
  lyapunov = off parts own (codes "lyapunov") h.1.1.1.0;
  ellipsoid = off parts own (codes "ellipsoid") h.1.1.1.1.0;
  offer = off parts own (codes "offer-ellipsoid") h.1.1.1.1.1.0;
  gain = off parts own (codes "gain") h.1.1.1.1.1.1.0;
  unbounded = off parts own (codes "unbounded") h.1.1.1.1.1.1.1.0;
  formula = off parts own (codes "formula") h.1.1.1.1.1.1.1.1.0;
  inputs = off parts own (codes "inputs") h.1.1.1.1.1.1.1.1.1.1.1.1.0;
  emit = off parts own (codes "emit-c") h.1.1.1.1.1.1.1.1.1.1.1.1.1.1.0;
}

pub none_as : {A : Type 0} (Is : List ℕ → A → Type 0) (text : Option (List ℕ)) (value : Option A) → IsGivenAs Is text value → text ≡ None → value ≡ None
none_as Is None None h e = refl
none_as Is None (Some a) h e = absurd h
none_as Is (Some t) value h e = absurd (cc)

-- and the other way round
pub no_text : {A : Type 0} (Is : List ℕ → A → Type 0) (text : Option (List ℕ)) (value : Option A) → IsGivenAs Is text value → value ≡ None → text ≡ None
no_text Is None value h e = refl
no_text Is (Some t) None h e = absurd h
no_text Is (Some t) (Some a) h e = absurd (cc)

-- no inputs are given
no_inputs : (parts : List PartView) (v : Values) → AreValues parts v → is_given parts (codes "simulate") ≡ false → v.inputs ≡ None
no_inputs parts v h e = none_as AreInputs (value_of (codes "simulate") parts) v.inputs h.inputs (no_value parts (codes "simulate") e)

-- no property is given
no_property : (parts : List PartView) (v : Values) → AreValues parts v → is_given parts (codes "property") ≡ false → v.property ≡ None
no_property parts v h e = none_as _ (value_of (codes "property") parts) v.property h.property (no_value parts (codes "property") e)

-- a property is given, and no form and no ellipsoid is named
flag_read : (parts : List PartView) (v : Values) (own : List (List ℕ)) (p : Property) (t : Task) → AreValues parts v → v.property ≡ Some p → Others parts own
    → list_any (bytes_eq (codes "emit-c")) own ≡ false → list_any (bytes_eq (codes "simulate")) own ≡ false → list_any (bytes_eq (codes "form")) own ≡ false → list_any (bytes_eq (codes "ellipsoid")) own ≡ false
    → flag_task parts v.numbers p ≡ Ok t → task_in parts v ≡ Ok t
flag_read parts v own p t h e o c s f l k = rw (o.emit c, e, no_inputs parts v h (o.simulate s), no_value parts (codes "form") (o.form f), no_value parts (codes "ellipsoid") (o.ellipsoid l)) k

-- and nothing is to be found
run_read : (parts : List PartView) (v : Values) (own : List (List ℕ)) (p : Property) (t : Task) → AreValues parts v → v.property ≡ Some p → Others parts own
    → list_any (bytes_eq (codes "emit-c")) own ≡ false → list_any (bytes_eq (codes "simulate")) own ≡ false → list_any (bytes_eq (codes "form")) own ≡ false → list_any (bytes_eq (codes "ellipsoid")) own ≡ false
    → list_any (bytes_eq (codes "lyapunov")) own ≡ false → list_any (bytes_eq (codes "offer-ellipsoid")) own ≡ false
    → run_task parts v.numbers p ≡ Ok t → task_in parts v ≡ Ok t
run_read parts v own p t h e o c s f l y z k = flag_read parts v own p t h e o c s f l (rw (o.lyapunov y, o.offer z) k)

pub task_read : (parts : List PartView) (v : Values) (t : Task) → AreValues parts v → IsTask parts v t → HasOnly parts (task_options t) all_task_options → task_in parts v ≡ Ok t
task_read parts v t h (IsTask.roots ps w p e) only =
    let o = others ps (task_options t) only in
    run_read ps w (task_options t) (OfRoots p) (decides p (is_given ps (codes "schur-cohn"))) h e o refl refl refl refl refl refl (rw (o.gain refl, o.unbounded refl, o.formula refl) refl)
task_read parts v t h (IsTask.timing ps w e) only =
    let o = others ps (task_options t) only in
    run_read ps w (task_options t) Timing checks_time h e o refl refl refl refl refl refl (rw (o.gain refl, o.unbounded refl, o.formula refl) refl)
task_read parts v t h (IsTask.formula ps w p e f) only =
    let o = others ps (task_options t) only in
    run_read ps w (task_options t) (OfRuns p) (writes p w.numbers.samples) h e o refl refl refl refl refl refl (rw (o.gain refl, o.unbounded refl, f) refl)
task_read parts v t h (IsTask.search ps w p e) only =
    let o = others ps (task_options t) only in
    run_read ps w (task_options t) (OfRuns p) (searches p w.numbers.samples w.numbers.conflicts) h e o refl refl refl refl refl refl (rw (o.gain refl, o.unbounded refl, o.formula refl) refl)
task_read parts v t h (IsTask.unbounded ps w e u) only =
    let o = others ps (task_options t) only in
    run_read ps w (task_options t) (OfRuns Overflow) (seeks_set w.numbers.conflicts) h e o refl refl refl refl refl refl (rw (o.gain refl, u) refl)
task_read parts v t h (IsTask.gain ps w e g) only =
    let o = others ps (task_options t) only in
    run_read ps w (task_options t) (OfRuns Overflow) measures_gain h e o refl refl refl refl refl refl (rw g refl)
task_read parts v t h (IsTask.simulation ps w inputs e) only =
    let o = others ps (task_options t) only in
    rw (o.emit refl, no_property ps w h (off ps (task_options t) (codes "property") only.0 refl), e) refl
task_read parts v t h (IsTask.file_run ps w name e) only =
    let o = others ps (task_options t) only in
    rw (o.emit refl, no_property ps w h (off ps (task_options t) (codes "property") only.0 refl), no_inputs ps w h (o.simulate refl), e) refl
task_read parts v t h (IsTask.words_alone ps w e) only =
    let o = others ps (task_options t) only in
    rw (o.emit refl, no_property ps w h (off ps (task_options t) (codes "property") only.0 refl), no_inputs ps w h (o.simulate refl), no_value ps (codes "inputs") (o.inputs refl), e) refl
task_read parts v t h (IsTask.named_form ps w name e f) only =
    let o = others ps (task_options t) only in
    rw (o.emit refl, e, no_inputs ps w h (o.simulate refl), f) refl
task_read parts v t h (IsTask.sought_form ps w e l) only =
    let o = others ps (task_options t) only in
    flag_read ps w (task_options t) (OfRoots Stability) seeks_form h e o refl refl refl refl (rw l refl)
task_read parts v t h (IsTask.named_ellipsoid ps w name e u l) only =
    let o = others ps (task_options t) only in
    rw (o.emit refl, e, no_inputs ps w h (o.simulate refl), no_value ps (codes "form") (o.form refl), l) refl
task_read parts v t h (IsTask.sought_ellipsoid ps w e f r) only =
    let o = others ps (task_options t) only in
    flag_read ps w (task_options t) (OfRuns Overflow) seeks_ellipsoid h e o refl refl refl refl (rw (o.lyapunov refl, f) refl)
task_read parts v t h (IsTask.code ps w e) only =
    let o = others ps (task_options t) only in
    rw (e, no_inputs ps w h (o.simulate refl), no_value ps (codes "inputs") (o.inputs refl)) refl
task_read parts v t h (IsTask.code_test ps w inputs e f) only = rw (e, f) refl
task_read parts v t h (IsTask.code_file_test ps w name e f) only =
    let o = others ps (task_options t) only in
    rw (e, no_inputs ps w h (o.simulate refl), f) refl

-- ---- from the task to the rules

-- what is known of a task that is found, beside how it is found
pub record IsWhole (parts : List PartView) (v : Values) (kind : Kind) (t : Task) : Type 0 where
  pub realisation : check_realisation t v.design.realisation ≡ Ok tt
  pub whole : check_whole parts kind t ≡ Ok tt

if_found : {t : Task} (holds : Bool) (name : List ℕ) (p : Property) (made : Task) → task_if holds name p made ≡ Ok t → (holds ≡ true) × (made ≡ t)
if_found true name p made h = (refl, let e : made ≡ _ = cc in e)
if_found false name p made h = absurd (cc)

stability_is : (p : Property) → is_stability p ≡ true → p ≡ OfRoots Stability
stability_is (OfRoots Stability) h = refl
stability_is (OfRoots MinimumPhase) h = absurd (cc)
stability_is (OfRuns p) h = absurd (cc)
stability_is Timing h = absurd (cc)

overflow_is : (p : Property) → is_overflow p ≡ true → p ≡ OfRuns Overflow
overflow_is (OfRuns Overflow) h = refl
overflow_is (OfRuns LimitCycle) h = absurd (cc)
overflow_is (OfRoots p) h = absurd (cc)
overflow_is Timing h = absurd (cc)

dfi_is : (r : Realisation) → check_realisation seeks_ellipsoid r ≡ Ok tt → r ≡ Dfi
dfi_is Dfi h = refl
dfi_is r h = absurd (cc)

runs_by : (g : Bool) (parts : List PartView) (name : List ℕ) (kind : Kind) → is_given parts (codes "unbounded") ≡ g → check_whole parts kind (checks_ellipsoid name) ≡ Ok tt → is_given parts (codes "unbounded") ≡ true
runs_by true parts name kind e h = e
runs_by false parts name kind e h = absurd (let k = rw e at h in cc)

formula_by : (parts : List PartView) (v : Values) (p : Property) (t : Task) → v.property ≡ Some p → is_given parts (codes "formula") ≡ true → formula_task v.numbers p ≡ Ok t → IsTask parts v t
formula_by parts v (OfRuns p) t e f h = let same : writes p v.numbers.samples ≡ t = cc in subst (IsTask parts v) same (IsTask.formula parts v p e f)
formula_by parts v (OfRoots p) t e f h = absurd (cc)
formula_by parts v Timing t e f h = absurd (cc)

plain_by : (parts : List PartView) (v : Values) (p : Property) (t : Task) → v.property ≡ Some p → plain_task parts v.numbers p ≡ t → IsTask parts v t
plain_by parts v (OfRuns p) t e h = subst (IsTask parts v) h (IsTask.search parts v p e)
plain_by parts v (OfRoots p) t e h = subst (IsTask parts v) h (IsTask.roots parts v p e)
plain_by parts v Timing t e h = subst (IsTask parts v) h (IsTask.timing parts v e)

run_by : (parts : List PartView) (v : Values) (p : Property) (t : Task) (gain unbounded formula : Bool) → v.property ≡ Some p
    → is_given parts (codes "gain") ≡ gain → is_given parts (codes "unbounded") ≡ unbounded → is_given parts (codes "formula") ≡ formula
    → (if gain then task_if (is_overflow p) (codes "gain") p measures_gain
    else if unbounded then task_if (is_overflow p) (codes "unbounded") p (seeks_set v.numbers.conflicts)
    else if formula then formula_task v.numbers p else Ok (plain_task parts v.numbers p)) ≡ Ok t → IsTask parts v t
run_by parts v p t true unbounded formula e g u f h =
    let i = if_found (is_overflow p) (codes "gain") p measures_gain h in
    subst (IsTask parts v) i.1 (IsTask.gain parts v (e ∙ ap Some (overflow_is p i.0)) g)
run_by parts v p t false true formula e g u f h =
    let i = if_found (is_overflow p) (codes "unbounded") p (seeks_set v.numbers.conflicts) h in
    subst (IsTask parts v) i.1 (IsTask.unbounded parts v (e ∙ ap Some (overflow_is p i.0)) u)
run_by parts v p t false false true e g u f h = formula_by parts v p t e f h
run_by parts v p t false false false e g u f h = plain_by parts v p t e (let same : plain_task parts v.numbers p ≡ t = cc in same)

flag_by : (parts : List PartView) (v : Values) (p : Property) (t : Task) (kind : Kind) (lyapunov offer : Bool) → v.property ≡ Some p → IsWhole parts v kind t
    → is_given parts (codes "lyapunov") ≡ lyapunov → is_given parts (codes "offer-ellipsoid") ≡ offer
    → (if lyapunov then task_if (is_stability p) (codes "lyapunov") p seeks_form
    else if offer then task_if (is_overflow p) (codes "offer-ellipsoid") p seeks_ellipsoid else run_task parts v.numbers p) ≡ Ok t → IsTask parts v t
flag_by parts v p t kind true offer e w l o h =
    let i = if_found (is_stability p) (codes "lyapunov") p seeks_form h in
    subst (IsTask parts v) i.1 (IsTask.sought_form parts v (e ∙ ap Some (stability_is p i.0)) l)
flag_by parts v p t kind false true e w l o h =
    let i = if_found (is_overflow p) (codes "offer-ellipsoid") p seeks_ellipsoid h in
    let real : check_realisation seeks_ellipsoid v.design.realisation ≡ Ok tt = subst (λ (x : Task). check_realisation x v.design.realisation ≡ Ok tt) (sym i.1) w.realisation in
    subst (IsTask parts v) i.1 (IsTask.sought_ellipsoid parts v (e ∙ ap Some (overflow_is p i.0)) o (dfi_is v.design.realisation real))
flag_by parts v p t kind false false e w l o h =
    run_by parts v p t (is_given parts (codes "gain")) (is_given parts (codes "unbounded")) (is_given parts (codes "formula")) e refl refl refl h

ellipsoid_by : (parts : List PartView) (v : Values) (p : Property) (t : Task) (kind : Kind) (named : Option (List ℕ)) → v.property ≡ Some p → IsWhole parts v kind t
    → value_of (codes "ellipsoid") parts ≡ named → ellipsoid_task parts v.numbers p named ≡ Ok t → IsTask parts v t
ellipsoid_by parts v p t kind (Some name) e w k h =
    let i = if_found (is_overflow p) (codes "ellipsoid") p (checks_ellipsoid name) h in
    let whole : check_whole parts kind (checks_ellipsoid name) ≡ Ok tt = subst (λ (x : Task). check_whole parts kind x ≡ Ok tt) (sym i.1) w.whole in
    subst (IsTask parts v) i.1 (IsTask.named_ellipsoid parts v name (e ∙ ap Some (overflow_is p i.0)) (runs_by (is_given parts (codes "unbounded")) parts name kind refl whole) k)
ellipsoid_by parts v p t kind None e w k h = flag_by parts v p t kind (is_given parts (codes "lyapunov")) (is_given parts (codes "offer-ellipsoid")) e w refl refl h

form_by : (parts : List PartView) (v : Values) (p : Property) (t : Task) (kind : Kind) (named : Option (List ℕ)) → v.property ≡ Some p → IsWhole parts v kind t
    → value_of (codes "form") parts ≡ named → form_task parts v.numbers p named ≡ Ok t → IsTask parts v t
form_by parts v p t kind (Some name) e w k h =
    let i = if_found (is_stability p) (codes "form") p (checks_form name) h in
    subst (IsTask parts v) i.1 (IsTask.named_form parts v name (e ∙ ap Some (stability_is p i.0)) k)
form_by parts v p t kind None e w k h = ellipsoid_by parts v p t kind (value_of (codes "ellipsoid") parts) e w refl h

alone_by : (parts : List PartView) (v : Values) (t : Task) (words : Bool) (r : Reason) → is_given parts (codes "words") ≡ words
    → (if words then Ok tells_words else Err r) ≡ Ok t → IsTask parts v t
alone_by parts v t true r e h = let same : tells_words ≡ t = cc in subst (IsTask parts v) same (IsTask.words_alone parts v e)
alone_by parts v t false r e h = absurd (cc)

words_by : (parts : List PartView) (v : Values) (t : Task) (named : Option (List ℕ)) → value_of (codes "inputs") parts ≡ named → words_task parts named ≡ Ok t → IsTask parts v t
words_by parts v t (Some name) e h = let same : runs_file name (is_given parts (codes "outputs")) ≡ t = cc in subst (IsTask parts v) same (IsTask.file_run parts v name e)
words_by parts v t None e h = alone_by parts v t (is_given parts (codes "words")) (missing_task parts) refl h

given_by : (parts : List PartView) (v : Values) (t : Task) (kind : Kind) (property : Option Property) (inputs : Option (List ℤ)) → v.property ≡ property → v.inputs ≡ inputs
    → IsWhole parts v kind t → task_by parts v.numbers property inputs ≡ Ok t → IsTask parts v t
given_by parts v t kind (Some p) (Some xs) e f w h = absurd (cc)
given_by parts v t kind (Some p) None e f w h = form_by parts v p t kind (value_of (codes "form") parts) e w refl h
given_by parts v t kind None (Some xs) e f w h = let same : simulates xs (is_given parts (codes "outputs")) ≡ t = cc in subst (IsTask parts v) same (IsTask.simulation parts v xs f)
given_by parts v t kind None None e f w h = words_by parts v t (value_of (codes "inputs") parts) refl h

code_by : (parts : List PartView) (v : Values) (t : Task) (inputs : Option (List ℤ)) (named : Option (List ℕ)) → is_given parts (codes "emit-c") ≡ true → v.inputs ≡ inputs → value_of (codes "inputs") parts ≡ named
    → ◌≡◌ {A = Result Task Reason} (Ok (code_task (code_prefix v) inputs named)) (Ok t) → IsTask parts v t
code_by parts v t (Some xs) named e f g h = let same : emits_test (code_prefix v) xs ≡ t = cc in subst (IsTask parts v) same (IsTask.code_test parts v xs e f)
code_by parts v t None (Some name) e f g h = let same : emits_file_test (code_prefix v) name ≡ t = cc in subst (IsTask parts v) same (IsTask.code_file_test parts v name e g)
code_by parts v t None None e f g h = let same : emits_code (code_prefix v) ≡ t = cc in subst (IsTask parts v) same (IsTask.code parts v e)

found_with : (parts : List PartView) (v : Values) (t : Task) (kind : Kind) → IsWhole parts v kind t → (emit : Bool) → is_given parts (codes "emit-c") ≡ emit
    → (if emit then Ok (code_task (code_prefix v) v.inputs (value_of (codes "inputs") parts)) else task_by parts v.numbers v.property v.inputs) ≡ Ok t → IsTask parts v t
found_with parts v t kind w true e h = code_by parts v t v.inputs (value_of (codes "inputs") parts) e refl refl h
found_with parts v t kind w false e h = given_by parts v t kind v.property v.inputs refl refl w h

pub task_found : (parts : List PartView) (v : Values) (t : Task) (kind : Kind) → IsWhole parts v kind t → task_in parts v ≡ Ok t → IsTask parts v t
task_found parts v t kind w h = found_with parts v t kind w (is_given parts (codes "emit-c")) refl h
