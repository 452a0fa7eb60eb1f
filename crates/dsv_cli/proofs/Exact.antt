-- A refusal comes exactly where it is stated: what holds of files, of what tasks name, and of words.
use Rattle.std.proofs.Common.{◌≡◌, ◌∙◌, ◌⊎◌, inl, inr, sym, ap, subst, refl, ℕ, zero, suc, ◌<◌, ◌≤◌, List, [], ◌∷◌, length, take, arith, Option, Some, Ok, Err}
use Rattle.std.specs.Prelude.{Result, slice_get}
use Rattle.std.specs.List.{All}
use Rattle.std.proofs.lemmas.Bool.{cases_order}
use Rattle.dsv_base.specs.Seen.{FilesSeen, CameOf}
use Rattle.dsv_names.specs.declared.design.Design.{Design}
use Rattle.dsv_token.specs.declared.refusal.FileRefusal.{FileRefusal}
use Rattle.dsv_token.specs.declared.refusal.FileRefusal.TheVariants as text
use Rattle.dsv_state_file.specs.declared.refusal.StateRefusal.{StateRefusal}
use Rattle.dsv_certfile.specs.declared.fault.TextRefusal.{TextRefusal}
use Rattle.dsv_reader.specs.Controllers.{ControllerView}
use Rattle.dsv_reader.specs.Reading.{reading, plant_reading}
use Rattle.dsv_reader.proofs.TextLaws.{text_read}
use Rattle.dsv_reader.proofs.PlantTexts.{plant_text_read}
use Rattle.dsv_quantiser.specs.Modes.{BecomesWords}
use Rattle.dsv_quantiser.specs.QuantisedView.{QuantisedView}
use Rattle.dsv_quantiser.specs.declared.refusal.QuantRefusal.{QuantRefusal}
use Rattle.dsv_quantiser.proofs.Formats.{one_format}
use Rattle.dsv_quantiser.proofs.Modes.{become_one}
use Rattle.dsv_meaning.specs.Equations.{order}
use Rattle.dsv_cascade.specs.Cascades.{CascadeView, sections_of}
use Rattle.dsv_cascade.specs.Sections.{most_section_order, Fits, IsCascade, place_of, IsMisfit, IsRefused}
use Rattle.dsv_cascade.specs.declared.cascade.CascadeRefusal.{CascadeRefusal}
use Rattle.dsv_cascade.specs.declared.cascade.CascadeRefusal.TheVariants as misfit
use Rattle.dsv_state_file.specs.Reading.{state_of}
use Rattle.dsv_state_file.specs.StateFiles.{StateFileView}
use Rattle.dsv_state_file.proofs.WrittenFiles.{state_taken}
use Rattle.dsv_state_space.specs.Quantising.{state_words_of, BecomesStates}
use Rattle.dsv_state_space.specs.StateView.{StateView}
use Rattle.dsv_state_space.specs.declared.refusal.StateQuantRefusal.{StateQuantRefusal}
use Rattle.dsv_certfile.specs.Ellipsoids.{ellipsoid_in}
use Rattle.dsv_certfile.specs.Reading.{certificate_in}
use Rattle.dsv_certfile.specs.declared.certificate.Certificate.{Certificate}
use Rattle.dsv_certfile.specs.declared.fault.CertRefusal.{CertRefusal}
use Rattle.dsv_certfile.specs.declared.fault.CertRefusal.TheVariants as unread
use Rattle.dsv_command.specs.Table.{Request, JobFiles, controller, cascade, plant_loop, cascade_loop, Job, Task, checks_form, checks_ellipsoid, does, checks, generates, runs_file, emits_file_test}
use Rattle.dsv_command.specs.Table.{states as table_states}
use Rattle.dsv_report.specs.declared.stop.CertificateFault.TheVariants as fault
use Rattle.dsv_report.specs.declared.stop.Stop.{Stop}
use Rattle.dsv_report.specs.declared.stop.Stop.TheVariants as stop
use Rattle.dsv_report.specs.declared.stop.WhichFile.{WhichFile}
use Rattle.dsv_report.specs.declared.stop.WhichFile.TheVariants as file
use Rattle.dsv_report.specs.Stops.{Outcome, stop_of_text}
use Rattle.dsv_cli.specs.Accepted.{HoldsTheSame, AreTheSame, HoldTheSame}
use Rattle.dsv_cli.specs.Cascades.{BecomeWords, IsNoCascade}
use Rattle.dsv_files.specs.JobTexts.{AreControllers, IsLaterUnread, input_list}
use Rattle.dsv_cli.specs.Exact.{NamesTheSame, IsToldTheSame, RefusalsComeExactly}
use Rattle.dsv_cli.specs.Causes.{IsOfGeneration}
use Rattle.dsv_files.specs.Files.{IsLost, FileKind, a_controller, a_section, a_state_controller, a_plant, a_certificate, an_ellipsoid, which_of, limit_of, too_long_of, NoneCame, Content, IsText, IsRefusedBy, IsFaulty, IsFileOf, IsUnread, some_inputs}
use Rattle.dsv_cli.specs.JobRows.{LacksEvidence, LacksWords, IsTaskDone, IsDoneBy, IsOfCheck, IsCheckedBy, IsAnswered, IsCheckOfRow}
use Rattle.dsv_cli.specs.Words.{JobWords, of_words, of_series, of_state_words, BecomeJobWords, IsWordless, AreWordless}
use Rattle.dsv_files.specs.JobTexts.{JobTexts, of_one, of_sections, of_state_file, with_plant, sections_with_plant, HaveTexts, AreUnread, Evidence, none, certificate, ellipsoid, HasEvidence, IsEvidenceUnread}
use Rattle.dsv_cli.proofs.ExactTasks.{stopped_by, IsThis, task_exact, check_exact}
use Rattle.dsv_files.proofs.Pairwise.{some_once, pair_at, pair_before, at_place, before_place}
use Rattle.dsv_input_file.specs.InputTexts.{inputs_in}
use Rattle.dsv_input_file.specs.declared.refusal.InputsRefusal.{InputsRefusal}
use Rattle.dsv_report.specs.declared.stop.InputsFault.TheVariants as inputs_fault

-- ---- what the bytes of a file come to
-- they are over a limit, or their reading refuses them, or they are read
abbrev Comes : {A R : Type 0} → ℕ → (List ℕ → Result A R) → Stop → (R → Stop) → List ℕ → Result A Stop → Type 0
Comes limit read long refusal bytes (Ok v) = (length bytes ≤ limit) × (read bytes ≡ Ok v)
Comes {A} {R} limit read long refusal bytes (Err why) = ((limit < length bytes) × (why ≡ long)) ⊎ ((r : R) × (length bytes ≤ limit) × (read bytes ≡ Err r) × (why ≡ refusal r))

not_both : (n limit : ℕ) → n ≤ limit → limit < n → ⊥
not_both n limit h k = omega (arith, h, k)

read_once : {A R : Type 0} → (came : Result A R) (v w : A) → came ≡ Ok v → came ≡ Ok w → v ≡ w
read_once came v w h k = cc

read_or_refused : {A R : Type 0} → (came : Result A R) (v : A) (r : R) → came ≡ Ok v → came ≡ Err r → ⊥
read_or_refused came v r h k = cc

refused_once : {A R : Type 0} → (came : Result A R) (r s : R) → came ≡ Err r → came ≡ Err s → r ≡ s
refused_once came r s h k = cc

ok_or_not : {A R : Type 0} → (limit : ℕ) (read : List ℕ → Result A R) (long : Stop) (refusal : R → Stop) (bytes : List ℕ) (v : A) (why : Stop) → Comes limit read long refusal bytes (Ok v) → Comes limit read long refusal bytes (Err why) → ⊥
ok_or_not limit read long refusal bytes v why h (inl k) = not_both (length bytes) limit h.0 k.0
ok_or_not limit read long refusal bytes v why h (inr k) = read_or_refused (read bytes) v k.0 h.1 k.2

stopped_once : {A R : Type 0} → (limit : ℕ) (read : List ℕ → Result A R) (long : Stop) (refusal : R → Stop) (bytes : List ℕ) (v w : Stop) → Comes limit read long refusal bytes (Err v) → Comes limit read long refusal bytes (Err w) → v ≡ w
stopped_once limit read long refusal bytes v w (inl h) (inl k) = h.1 ∙ sym k.1
stopped_once limit read long refusal bytes v w (inl h) (inr k) = absurd (not_both (length bytes) limit k.1 h.0)
stopped_once limit read long refusal bytes v w (inr h) (inl k) = absurd (not_both (length bytes) limit h.1 k.0)
stopped_once limit read long refusal bytes v w (inr h) (inr k) = h.3 ∙ ap refusal (refused_once (read bytes) h.0 k.0 h.2 k.2) ∙ sym k.3

-- what holds of the bytes that came holds of a file's, if these are told
told : (P : List ℕ → Type 0) (bytes : List ℕ) (held : Option (List ℕ)) → held ≡ Some bytes → CameOf held P → P bytes
told P bytes held e t =
    let same : t.0 ≡ bytes = rw e at t.1 in
    subst P same t.2

-- ---- each kind of file
-- what its reading refuses
abbrev Fault : FileKind → Type 0
Fault a_controller = FileRefusal
Fault (a_section section) = FileRefusal
Fault a_state_controller = StateRefusal
Fault a_plant = FileRefusal
Fault a_certificate = CertRefusal
Fault an_ellipsoid = TextRefusal
Fault some_inputs = InputsRefusal

abbrev reading_of : (kind : FileKind) → List ℕ → Result (Content kind) (Fault kind)
reading_of a_controller = reading
reading_of (a_section section) = reading
reading_of a_state_controller = state_of
reading_of a_plant = plant_reading
reading_of a_certificate = certificate_in
reading_of an_ellipsoid = ellipsoid_in
reading_of some_inputs = inputs_in

abbrev inputs_refused : InputsRefusal → Stop
inputs_refused r = stop.InputsRefused (inputs_fault.Text r)

abbrev refusal_of : (kind : FileKind) → Fault kind → Stop
refusal_of a_controller = stop.FileRefused file.Controller
refusal_of (a_section section) = stop.FileRefused (file.Section section)
refusal_of a_state_controller = stop.StateRefused
refusal_of a_plant = stop.FileRefused file.Plant
refusal_of a_certificate = stop_of_text
refusal_of an_ellipsoid = stop.EllipsoidText
refusal_of some_inputs = inputs_refused

abbrev ComesAs : (kind : FileKind) → List ℕ → Result (Content kind) Stop → Type 0
ComesAs kind = Comes (limit_of (which_of kind)) (reading_of kind) (too_long_of (which_of kind)) (refusal_of kind)

is_read : (kind : FileKind) (bytes : List ℕ) (x : Content kind) → IsText kind bytes x → reading_of kind bytes ≡ Ok x
is_read a_controller bytes c h = text_read bytes c h
is_read (a_section section) bytes c h = text_read bytes c h
is_read a_state_controller bytes c h = state_taken bytes c h
is_read a_plant bytes p h = plant_text_read bytes p h
is_read a_certificate bytes c h = h
is_read an_ellipsoid bytes o h = h
is_read some_inputs bytes xs h = h

by_fault : (came : FileRefusal → Type 0) (which : WhichFile) (why : Stop) → IsRefusedBy came which why → (r : FileRefusal) × came r × (why ≡ stop.FileRefused which r)
by_fault came which (stop.FileRefused w text.NoMemory) h = absurd h
by_fault came which (stop.FileRefused w r) h = (r, h.1, ap (λ x. stop.FileRefused x r) h.0)
by_fault came which why h = absurd h

is_refused : (kind : FileKind) (bytes : List ℕ) (why : Stop) → IsFaulty kind bytes why → (r : Fault kind) × (reading_of kind bytes ≡ Err r) × (why ≡ refusal_of kind r)
is_refused a_controller bytes why h = by_fault (λ r. reading bytes ≡ Err r) file.Controller why h
is_refused (a_section section) bytes why h = by_fault (λ r. reading bytes ≡ Err r) (file.Section section) why h
is_refused a_plant bytes why h = by_fault (λ r. plant_reading bytes ≡ Err r) file.Plant why h
is_refused a_state_controller bytes (stop.StateRefused r) h = (r, h, refl)
is_refused a_state_controller bytes why h = absurd h
is_refused a_certificate bytes (stop.CertificateRefused line (fault.Text r)) h = (unread.Text line r, h, refl)
is_refused a_certificate bytes why h = absurd h
is_refused an_ellipsoid bytes (stop.EllipsoidText r) h = (r, h, refl)
is_refused an_ellipsoid bytes why h = absurd h
is_refused some_inputs bytes (stop.InputsRefused (inputs_fault.Text r)) h = (r, h, refl)
is_refused some_inputs bytes why h = absurd h

file_read : (kind : FileKind) (old : FilesSeen) (name bytes : List ℕ) (x : Content kind) → old.held name ≡ Some bytes → IsFileOf kind old name x → ComesAs kind bytes (Ok x)
file_read kind old name bytes x e h =
    let k = told (λ came. (length came ≤ limit_of (which_of kind)) × IsText kind came x) bytes (old.held name) e h in
    (k.0, is_read kind bytes x k.1)

none_stopped : (old new : FilesSeen) (name bytes : List ℕ) (which : WhichFile) (why : Stop) → old.held name ≡ Some bytes → NoneCame old new name which why → ((limit_of which < length bytes) × (why ≡ too_long_of which)) ⊎ IsLost (Err why)
none_stopped old new name bytes which (stop.ReadFault w) e h = inr tt
none_stopped old new name bytes which stop.NoMemory e h = inr tt
none_stopped old new name bytes which why e h = inl (told (λ came. limit_of which < length came) bytes (old.held name) e h.1, h.0)

-- its bytes are too many, or have a fault, or the run is lost
file_stopped : (kind : FileKind) (old new : FilesSeen) (name bytes : List ℕ) (why : Stop) → old.held name ≡ Some bytes → IsUnread kind old new name why → ComesAs kind bytes (Err why) ⊎ IsLost (Err why)
file_stopped kind old new name bytes why e (inl h) = stops (none_stopped old new name bytes (which_of kind) why e h)
  where
    stops : ((limit_of (which_of kind) < length bytes) × (why ≡ too_long_of (which_of kind))) ⊎ IsLost (Err why) → ComesAs kind bytes (Err why) ⊎ IsLost (Err why)
    stops (inl k) = inl (inl k)
    stops (inr k) = inr k
file_stopped kind old new name bytes why e (inr h) =
    let k = told (λ came. (length came ≤ limit_of (which_of kind)) × IsFaulty kind came why) bytes (old.held name) e h in
    let r = is_refused kind bytes why k.1 in
    inl (inr (r.0, k.0, r.1, r.2))

-- ---- two runs over one file
-- it is read, or stops a run
abbrev Reads : {A R : Type 0} → ℕ → (List ℕ → Result A R) → Stop → (R → Stop) → List ℕ → Stop → Type 0
Reads limit read long refusal bytes why = Comes limit read long refusal bytes (Err why) ⊎ IsLost (Err why)

-- what is read stops no run but by a lost one
lost_if_read : {A R : Type 0} → (limit : ℕ) (read : List ℕ → Result A R) (long : Stop) (refusal : R → Stop) (bytes : List ℕ) (v : A) (why : Stop) → Comes limit read long refusal bytes (Ok v) → Reads limit read long refusal bytes why → IsLost (Err why)
lost_if_read limit read long refusal bytes v why h (inl k) = absurd (ok_or_not limit read long refusal bytes v why h k)
lost_if_read limit read long refusal bytes v why h (inr k) = k

-- two stops are one, or one is lost
abbrev AreOne : Stop → Stop → Type 0
AreOne v w = (v ≡ w) ⊎ (IsLost (Err v) ⊎ IsLost (Err w))

one_if_stopped : {A R : Type 0} → (limit : ℕ) (read : List ℕ → Result A R) (long : Stop) (refusal : R → Stop) (bytes : List ℕ) (v w : Stop) → Reads limit read long refusal bytes v → Reads limit read long refusal bytes w → AreOne v w
one_if_stopped limit read long refusal bytes v w (inl h) (inl k) = inl (stopped_once limit read long refusal bytes v w h k)
one_if_stopped limit read long refusal bytes v w (inr h) k = inr (inl h)
one_if_stopped limit read long refusal bytes v w h (inr k) = inr (inr k)

-- ---- files
names_same_back : (old then_old : FilesSeen) (names others : List (List ℕ)) → AreTheSame old names then_old others → AreTheSame then_old others old names
names_same_back old then_old [] [] same = tt
names_same_back old then_old [] (m ∷ others) same = absurd same
names_same_back old then_old (n ∷ names) [] same = absurd same
names_same_back old then_old (n ∷ names) (m ∷ others) same = ((same.0.0, same.0.2, same.0.1), names_same_back old then_old names others same.1)

same_back : (old then_old : FilesSeen) (files : JobFiles) → HoldTheSame old files then_old files → HoldTheSame then_old files old files
same_back old then_old (controller name) same = (same.0, same.2, same.1)
same_back old then_old (table_states name) same = (same.0, same.2, same.1)
same_back old then_old (plant_loop name plant) same = ((same.0.0, same.0.2, same.0.1), (same.1.0, same.1.2, same.1.1))
same_back old then_old (cascade name later) same = ((same.0.0, same.0.2, same.0.1), names_same_back old then_old later later same.1)
same_back old then_old (cascade_loop name later plant) same = ((same.0.0, same.0.2, same.0.1), names_same_back old then_old later later same.1, (same.2.0, same.2.2, same.2.1))

pub one_file : (kind : FileKind) (old then_old : FilesSeen) (name other : List ℕ) (x y : Content kind) → HoldsTheSame old name then_old other → IsFileOf kind old name x → IsFileOf kind then_old other y → x ≡ y
one_file kind old then_old name other x y same h k = read_once (reading_of kind same.0) x y (file_read kind old name same.0 x same.1 h).1 (file_read kind then_old other same.0 y same.2 k).1

-- a file that is of its kind stops no run
pub file_lost : (kind : FileKind) (old then_old then_new : FilesSeen) (name other : List ℕ) (x : Content kind) (why : Stop) → HoldsTheSame old name then_old other → IsFileOf kind old name x → IsUnread kind then_old then_new other why
    → IsLost (Err why)
file_lost kind old then_old then_new name other x why same h k =
    lost_if_read (limit_of (which_of kind)) (reading_of kind) (too_long_of (which_of kind)) (refusal_of kind) same.0 x why (file_read kind old name same.0 x same.1 h) (file_stopped kind then_old then_new other same.0 why same.2 k)

file_one : (kind : FileKind) (old new then_old then_new : FilesSeen) (name : List ℕ) (v w : Stop) → HoldsTheSame old name then_old name → IsUnread kind old new name v → IsUnread kind then_old then_new name w → AreOne v w
file_one kind old new then_old then_new name v w same h k =
    one_if_stopped (limit_of (which_of kind)) (reading_of kind) (too_long_of (which_of kind)) (refusal_of kind) same.0 v w (file_stopped kind old new name same.0 v same.1 h) (file_stopped kind then_old then_new name same.0 w same.2 k)

-- ---- files of later sections
same_at : (old then_old : FilesSeen) (names : List (List ℕ)) (i : ℕ) (name : List ℕ) → slice_get names i ≡ Some name → AreTheSame old names then_old names → HoldsTheSame old name then_old name
same_at old then_old [] i name e same = absurd (cc)
same_at old then_old (n ∷ names) zero name e same = subst (λ m. HoldsTheSame old m then_old m) (some_once n name e) same.0
same_at old then_old (n ∷ names) (suc i) name e same = same_at old then_old names i name e same.1

sections_once : (old then_old : FilesSeen) (names : List (List ℕ)) (cs ds : List ControllerView) → AreTheSame old names then_old names → AreControllers old names cs → AreControllers then_old names ds → cs ≡ ds
sections_once old then_old [] [] [] same h k = refl
sections_once old then_old [] (c ∷ cs) ds same h k = absurd h
sections_once old then_old [] [] (d ∷ ds) same h k = absurd k
sections_once old then_old (n ∷ names) [] ds same h k = absurd h
sections_once old then_old (n ∷ names) (c ∷ cs) [] same h k = absurd k
sections_once old then_old (n ∷ names) (c ∷ cs) (d ∷ ds) same h k =
    ap (λ x. x ∷ cs) (one_file a_controller old then_old n n c d same.0 h.0 k.0) ∙ ap (λ xs. d ∷ xs) (sections_once old then_old names cs ds same.1 h.1 k.1)

-- a later file that is no controller's, and those before it are
abbrev LaterStop : FilesSeen → FilesSeen → List (List ℕ) → Stop → Type 0
LaterStop old new names why = (i : ℕ) × (name : List ℕ) × (slice_get names i ≡ Some name) × (before : List ControllerView) × AreControllers old (take i names) before × IsUnread (a_section (suc i)) old new name why

later_stopped : (old new : FilesSeen) (names : List (List ℕ)) (why : Stop) → IsLaterUnread old new names why → LaterStop old new names why ⊎ IsLost (Err why)
later_stopped old new names stop.NoMemory h = inr tt
later_stopped old new names why h = inl h

stop_lost : (old then_old then_new : FilesSeen) (names : List (List ℕ)) (cs : List ControllerView) (why : Stop) → AreTheSame old names then_old names → AreControllers old names cs → LaterStop then_old then_new names why ⊎ IsLost (Err why)
    → IsLost (Err why)
stop_lost old then_old then_new names cs why same h (inr k) = k
stop_lost old then_old then_new names cs why same h (inl (i, name, at, before, controllers, k)) =
    let p = pair_at (IsFileOf a_controller old) names cs i name at h in
    file_lost (a_section (suc i)) old then_old then_new name name p.0 why (same_at old then_old names i name at same) p.1 k

later_lost : (old then_old then_new : FilesSeen) (names : List (List ℕ)) (cs : List ControllerView) (why : Stop) → AreTheSame old names then_old names → AreControllers old names cs → IsLaterUnread then_old then_new names why → IsLost (Err why)
later_lost old then_old then_new names cs why same h k = stop_lost old then_old then_new names cs why same h (later_stopped then_old then_new names why k)

stops_one : (old new then_old then_new : FilesSeen) (names : List (List ℕ)) (v w : Stop) (i j : ℕ) (m n : List ℕ) (bs ds : List ControllerView) → AreTheSame old names then_old names
    → slice_get names i ≡ Some m → AreControllers old (take i names) bs → IsUnread (a_section (suc i)) old new m v
    → slice_get names j ≡ Some n → AreControllers then_old (take j names) ds → IsUnread (a_section (suc j)) then_old then_new n w → (i ≡ j) ⊎ ((i < j) ⊎ (j < i)) → AreOne v w
stops_one old new then_old then_new names v w i j m n bs ds same at before h there then_before k (inl e) =
    let there_i : slice_get names i ≡ Some n = rw e there in
    let one : m ≡ n = some_once m n (sym at ∙ there_i) in
    file_one (a_section (suc i)) old new then_old then_new n v w (same_at old then_old names i n there_i same) (subst (λ x. IsUnread (a_section (suc i)) old new x v) one h) (subst (λ x. IsUnread (a_section (suc x)) then_old then_new n w) (sym e) k)
stops_one old new then_old then_new names v w i j m n bs ds same at before h there then_before k (inr (inl l)) =
    let p = pair_before (IsFileOf a_controller then_old) names ds i j m at l then_before in
    let s = same_at old then_old names i m at same in
    inr (inl (file_lost (a_section (suc i)) then_old old new m m p.0 v (s.0, s.2, s.1) p.1 h))
stops_one old new then_old then_new names v w i j m n bs ds same at before h there then_before k (inr (inr l)) =
    let p = pair_before (IsFileOf a_controller old) names bs j i n there l before in
    inr (inr (file_lost (a_section (suc j)) old then_old then_new n n p.0 w (same_at old then_old names j n there same) p.1 k))

stop_once : (old new then_old then_new : FilesSeen) (names : List (List ℕ)) (v w : Stop) → AreTheSame old names then_old names → LaterStop old new names v ⊎ IsLost (Err v) → LaterStop then_old then_new names w ⊎ IsLost (Err w) → AreOne v w
stop_once old new then_old then_new names v w same (inr h) k = inr (inl h)
stop_once old new then_old then_new names v w same h (inr k) = inr (inr k)
stop_once old new then_old then_new names v w same (inl (i, m, at, bs, before, h)) (inl (j, n, there, ds, then_before, k)) =
    stops_one old new then_old then_new names v w i j m n bs ds same at before h there then_before k (cases_order i j)

later_once : (old new then_old then_new : FilesSeen) (names : List (List ℕ)) (v w : Stop) → AreTheSame old names then_old names → IsLaterUnread old new names v → IsLaterUnread then_old then_new names w → AreOne v w
later_once old new then_old then_new names v w same h k = stop_once old new then_old then_new names v w same (later_stopped old new names v h) (later_stopped then_old then_new names w k)

pub texts_once : (old then_old : FilesSeen) (files : JobFiles) (t u : JobTexts) → HoldTheSame old files then_old files → HaveTexts old files t → HaveTexts then_old files u → t ≡ u
texts_once old then_old (controller name) (of_one c) (of_one d) same h k = ap of_one (one_file a_controller old then_old name name c d same h k)
texts_once old then_old (controller name) (of_one c) u same h k = absurd k
texts_once old then_old (controller name) t u same h k = absurd h
texts_once old then_old (table_states name) (of_state_file c) (of_state_file d) same h k = ap of_state_file (one_file a_state_controller old then_old name name c d same h k)
texts_once old then_old (table_states name) (of_state_file c) u same h k = absurd k
texts_once old then_old (table_states name) t u same h k = absurd h
texts_once old then_old (plant_loop name plant) (with_plant c p) (with_plant d q) same h k =
    ap (λ x. with_plant x p) (one_file a_controller old then_old name name c d same.0 h.0 k.0) ∙ ap (with_plant d) (one_file a_plant old then_old plant plant p q same.1 h.1 k.1)
texts_once old then_old (plant_loop name plant) (with_plant c p) u same h k = absurd k
texts_once old then_old (plant_loop name plant) t u same h k = absurd h
texts_once old then_old (cascade name later) (of_sections c cs) (of_sections d ds) same h k =
    ap (λ x. of_sections x cs) (one_file a_controller old then_old name name c d same.0 h.0 k.0) ∙ ap (of_sections d) (sections_once old then_old later cs ds same.1 h.1 k.1)
texts_once old then_old (cascade name later) (of_sections c cs) u same h k = absurd k
texts_once old then_old (cascade name later) t u same h k = absurd h
texts_once old then_old (cascade_loop name later plant) (sections_with_plant c cs p) (sections_with_plant d ds q) same h k =
    ap (λ x. sections_with_plant x cs p) (one_file a_controller old then_old name name c d same.0 h.0 k.0) ∙ ap (λ xs. sections_with_plant d xs p) (sections_once old then_old later cs ds same.1 h.1 k.1)
    ∙ ap (sections_with_plant d ds) (one_file a_plant old then_old plant plant p q same.2 h.2 k.2)
texts_once old then_old (cascade_loop name later plant) (sections_with_plant c cs p) u same h k = absurd k
texts_once old then_old (cascade_loop name later plant) t u same h k = absurd h

-- files that have their texts stop no run
texts_lost : (old then_old then_new : FilesSeen) (files : JobFiles) (t : JobTexts) (why : Stop) → HoldTheSame old files then_old files → HaveTexts old files t → AreUnread then_old then_new files why → IsLost (Err why)
texts_lost old then_old then_new (controller name) (of_one c) why same h k = file_lost a_controller old then_old then_new name name c why same h k
texts_lost old then_old then_new (controller name) t why same h k = absurd h
texts_lost old then_old then_new (table_states name) (of_state_file c) why same h k = file_lost a_state_controller old then_old then_new name name c why same h k
texts_lost old then_old then_new (table_states name) t why same h k = absurd h
texts_lost old then_old then_new (plant_loop name plant) (with_plant c p) why same h (inl k) = file_lost a_controller old then_old then_new name name c why same.0 h.0 k
texts_lost old then_old then_new (plant_loop name plant) (with_plant c p) why same h (inr k) = file_lost a_plant old then_old then_new plant plant p why same.1 h.1 k.2
texts_lost old then_old then_new (plant_loop name plant) t why same h k = absurd h
texts_lost old then_old then_new (cascade name later) (of_sections c cs) why same h (inl k) = file_lost a_controller old then_old then_new name name c why same.0 h.0 k
texts_lost old then_old then_new (cascade name later) (of_sections c cs) why same h (inr k) = later_lost old then_old then_new later cs why same.1 h.1 k.2
texts_lost old then_old then_new (cascade name later) t why same h k = absurd h
texts_lost old then_old then_new (cascade_loop name later plant) (sections_with_plant c cs p) why same h (inl k) = file_lost a_controller old then_old then_new name name c why same.0 h.0 k
texts_lost old then_old then_new (cascade_loop name later plant) (sections_with_plant c cs p) why same h (inr (inl k)) = later_lost old then_old then_new later cs why same.1 h.1 k.2
texts_lost old then_old then_new (cascade_loop name later plant) (sections_with_plant c cs p) why same h (inr (inr k)) = file_lost a_plant old then_old then_new plant plant p why same.2 h.2 k.4
texts_lost old then_old then_new (cascade_loop name later plant) t why same h k = absurd h

unread_once : (old new then_old then_new : FilesSeen) (files : JobFiles) (v w : Stop) → HoldTheSame old files then_old files → AreUnread old new files v → AreUnread then_old then_new files w → AreOne v w
unread_once old new then_old then_new (controller name) v w same h k = file_one a_controller old new then_old then_new name v w same h k
unread_once old new then_old then_new (table_states name) v w same h k = file_one a_state_controller old new then_old then_new name v w same h k
unread_once old new then_old then_new (plant_loop name plant) v w same (inl h) (inl k) = file_one a_controller old new then_old then_new name v w same.0 h k
unread_once old new then_old then_new (plant_loop name plant) v w same (inl h) (inr k) =
    inr (inl (file_lost a_controller then_old old new name name k.0 v (same.0.0, same.0.2, same.0.1) k.1 h))
unread_once old new then_old then_new (plant_loop name plant) v w same (inr h) (inl k) = inr (inr (file_lost a_controller old then_old then_new name name h.0 w same.0 h.1 k))
unread_once old new then_old then_new (plant_loop name plant) v w same (inr h) (inr k) = file_one a_plant old new then_old then_new plant v w same.1 h.2 k.2
unread_once old new then_old then_new (cascade name later) v w same (inl h) (inl k) = file_one a_controller old new then_old then_new name v w same.0 h k
unread_once old new then_old then_new (cascade name later) v w same (inl h) (inr k) = inr (inl (file_lost a_controller then_old old new name name k.0 v (same.0.0, same.0.2, same.0.1) k.1 h))
unread_once old new then_old then_new (cascade name later) v w same (inr h) (inl k) = inr (inr (file_lost a_controller old then_old then_new name name h.0 w same.0 h.1 k))
unread_once old new then_old then_new (cascade name later) v w same (inr h) (inr k) = later_once old new then_old then_new later v w same.1 h.2 k.2
unread_once old new then_old then_new (cascade_loop name later plant) v w same (inl h) (inl k) = file_one a_controller old new then_old then_new name v w same.0 h k
unread_once old new then_old then_new (cascade_loop name later plant) v w same (inl h) (inr (inl k)) = inr (inl (file_lost a_controller then_old old new name name k.0 v (same.0.0, same.0.2, same.0.1) k.1 h))
unread_once old new then_old then_new (cascade_loop name later plant) v w same (inl h) (inr (inr k)) = inr (inl (file_lost a_controller then_old old new name name k.0 v (same.0.0, same.0.2, same.0.1) k.2 h))
unread_once old new then_old then_new (cascade_loop name later plant) v w same (inr (inl h)) (inl k) = inr (inr (file_lost a_controller old then_old then_new name name h.0 w same.0 h.1 k))
unread_once old new then_old then_new (cascade_loop name later plant) v w same (inr (inr h)) (inl k) = inr (inr (file_lost a_controller old then_old then_new name name h.0 w same.0 h.2 k))
unread_once old new then_old then_new (cascade_loop name later plant) v w same (inr (inl h)) (inr (inl k)) = later_once old new then_old then_new later v w same.1 h.2 k.2
unread_once old new then_old then_new (cascade_loop name later plant) v w same (inr (inl h)) (inr (inr k)) =
    inr (inl (later_lost then_old old new later k.1 v (names_same_back old then_old later later same.1) k.3 h.2))
unread_once old new then_old then_new (cascade_loop name later plant) v w same (inr (inr h)) (inr (inl k)) = inr (inr (later_lost old then_old then_new later h.1 w same.1 h.3 k.2))
unread_once old new then_old then_new (cascade_loop name later plant) v w same (inr (inr h)) (inr (inr k)) = file_one a_plant old new then_old then_new plant v w same.2 h.4 k.4

evidence_lost : (old then_old then_new : FilesSeen) (task : Task) (e : Evidence) (why : Stop) → NamesTheSame old then_old task → HasEvidence old task e → IsEvidenceUnread then_old then_new task why → IsLost (Err why)
evidence_lost old then_old then_new (checks_form name) (certificate c) why same h k = file_lost a_certificate old then_old then_new name name c why same h k
evidence_lost old then_old then_new (checks_form name) e why same h k = absurd h
evidence_lost old then_old then_new (checks_ellipsoid name) (ellipsoid o) why same h k = file_lost an_ellipsoid old then_old then_new name name o why same h k
evidence_lost old then_old then_new (checks_ellipsoid name) e why same h k = absurd h
evidence_lost old then_old then_new (runs_file name outputs) (input_list xs) why same h k = file_lost some_inputs old then_old then_new name name xs why same h k
evidence_lost old then_old then_new (runs_file name outputs) e why same h k = absurd h
evidence_lost old then_old then_new (emits_file_test prefix name) (input_list xs) why same h k = file_lost some_inputs old then_old then_new name name xs why same h k
evidence_lost old then_old then_new (emits_file_test prefix name) e why same h k = absurd h
evidence_lost old then_old then_new task e why same h k = absurd k

evidence_once : (old new then_old then_new : FilesSeen) (task : Task) (v w : Stop) → NamesTheSame old then_old task → IsEvidenceUnread old new task v → IsEvidenceUnread then_old then_new task w → AreOne v w
evidence_once old new then_old then_new (checks_form name) v w same h k = file_one a_certificate old new then_old then_new name v w same h k
evidence_once old new then_old then_new (checks_ellipsoid name) v w same h k = file_one an_ellipsoid old new then_old then_new name v w same h k
evidence_once old new then_old then_new (runs_file name outputs) v w same h k = file_one some_inputs old new then_old then_new name v w same h k
evidence_once old new then_old then_new (emits_file_test prefix name) v w same h k = file_one some_inputs old new then_old then_new name v w same h k
evidence_once old new then_old then_new task v w same h k = absurd h

names_back : (old then_old : FilesSeen) (task : Task) → NamesTheSame old then_old task → NamesTheSame then_old old task
names_back old then_old (checks_form name) same = (same.0, same.2, same.1)
names_back old then_old (checks_ellipsoid name) same = (same.0, same.2, same.1)
names_back old then_old (runs_file name outputs) same = (same.0, same.2, same.1)
names_back old then_old (emits_file_test prefix name) same = (same.0, same.2, same.1)
names_back old then_old task same = tt

-- ---- words
no_refusal : (design : Design) (c : ControllerView) (q : QuantisedView) (why : Stop) → BecomesWords c design (Ok q) → IsWordless design c why → ⊥
no_refusal design c q (stop.QuantRefused file.Controller r) h k = read_or_refused (Ok q) q r refl (become_one c c design (Ok q) (Err r) refl h k)
no_refusal design c q why h k = absurd k

one_refusal : (design : Design) (c : ControllerView) (v w : Stop) → IsWordless design c v → IsWordless design c w → v ≡ w
one_refusal design c (stop.QuantRefused file.Controller r) (stop.QuantRefused file.Controller s) h k = ap (stop.QuantRefused file.Controller) (refused_once (Err r) r s refl (become_one c c design (Err r) (Err s) refl h k))
one_refusal design c (stop.QuantRefused file.Controller r) w h k = absurd k
one_refusal design c v w h k = absurd h

states_become : (c : StateFileView) (design : Design) (o p : Result StateView StateQuantRefusal) → BecomesStates c design.rounding design.overflow o → BecomesStates c design.rounding design.overflow p → o ≡ p
states_become c design o p h k =
    let f = one_format h.format k.format (h.int_bits ∙ sym k.int_bits) (h.frac_bits ∙ sym k.frac_bits) (h.rounding_of ∙ sym k.rounding_of) (h.overflow_of ∙ sym k.overflow_of) in
    sym h.becomes ∙ ap (λ x. state_words_of c x) f ∙ k.becomes

-- ---- the words of sections
one_word : (design : Design) (c : ControllerView) (q r : QuantisedView) → BecomesWords c design (Ok q) → BecomesWords c design (Ok r) → q ≡ r
one_word design c q r h k = read_once (Ok q) q r refl (become_one c c design (Ok q) (Ok r) refl h k)

words_once : (design : Design) (cs : List ControllerView) (qs rs : List QuantisedView) → BecomeWords design cs qs → BecomeWords design cs rs → qs ≡ rs
words_once design [] [] [] h k = refl
words_once design [] (q ∷ qs) rs h k = absurd h
words_once design [] [] (r ∷ rs) h k = absurd k
words_once design (c ∷ cs) [] rs h k = absurd h
words_once design (c ∷ cs) (q ∷ qs) [] h k = absurd k
words_once design (c ∷ cs) (q ∷ qs) (r ∷ rs) h k =
    ap (λ x. x ∷ qs) (one_word design c q r h.0 k.0) ∙ ap (λ xs. r ∷ xs) (words_once design cs qs rs h.1 k.1)

pub word_or_not : (design : Design) (c : ControllerView) (q : QuantisedView) (r : QuantRefusal) → BecomesWords c design (Ok q) → BecomesWords c design (Err r) → ⊥
word_or_not design c q r h k = read_or_refused (Ok q) q r refl (become_one c c design (Ok q) (Err r) refl h k)

one_quant : (design : Design) (c : ControllerView) (r s : QuantRefusal) → BecomesWords c design (Err r) → BecomesWords c design (Err s) → r ≡ s
one_quant design c r s h k = refused_once (Err r) r s refl (become_one c c design (Err r) (Err s) refl h k)

abbrev series_of : QuantisedView → List QuantisedView → CascadeView
series_of first later = record { first = first; later = later }

one_series : (design : Design) (c : ControllerView) (cs : List ControllerView) (s u : CascadeView) → BecomesWords c design (Ok s.first) → BecomeWords design cs s.later → BecomesWords c design (Ok u.first) → BecomeWords design cs u.later → s ≡ u
one_series design c cs s u h hs k ks =
    ap (λ q. series_of q s.later) (one_word design c s.first u.first h k) ∙ ap (series_of u.first) (words_once design cs s.later u.later hs ks)

no_misfit : (first q : QuantisedView) (why : CascadeRefusal) → Fits first q → IsMisfit first q why → ⊥
no_misfit first q (misfit.Order n) h k = not_both (order q) most_section_order h.small k
no_misfit first q (misfit.Mixed n) h k = k.1 h.alike

fit_or_not : (first : QuantisedView) (sections : List QuantisedView) (why : CascadeRefusal) → All (Fits first) sections → IsRefused first sections why → ⊥
fit_or_not first sections why h k = no_misfit first k.section why (at_place (Fits first) sections (place_of why) k.section k.here h) k.misfit

one_misfit : (first q : QuantisedView) (v w : CascadeRefusal) → place_of v ≡ place_of w → IsMisfit first q v → IsMisfit first q w → v ≡ w
one_misfit first q (misfit.Order n) (misfit.Order m) e h k = ap misfit.Order e
one_misfit first q (misfit.Order n) (misfit.Mixed m) e h k = absurd (not_both (order q) most_section_order k.0 h)
one_misfit first q (misfit.Mixed n) (misfit.Order m) e h k = absurd (not_both (order q) most_section_order h.0 k)
one_misfit first q (misfit.Mixed n) (misfit.Mixed m) e h k = ap misfit.Mixed e

one_by_place : (first : QuantisedView) (sections : List QuantisedView) (v w : CascadeRefusal) → IsRefused first sections v → IsRefused first sections w → (place_of v ≡ place_of w) ⊎ ((place_of v < place_of w) ⊎ (place_of w < place_of v)) → v ≡ w
one_by_place first sections v w h k (inl e) =
    let one : h.section ≡ k.section = some_once h.section k.section (sym h.here ∙ ap (slice_get sections) e ∙ k.here) in
    one_misfit first k.section v w e (subst (λ x. IsMisfit first x v) one h.misfit) k.misfit
one_by_place first sections v w h k (inr (inl l)) = absurd (no_misfit first h.section v (before_place (Fits first) sections (place_of v) (place_of w) h.section h.here l k.before) h.misfit)
one_by_place first sections v w h k (inr (inr l)) = absurd (no_misfit first k.section w (before_place (Fits first) sections (place_of w) (place_of v) k.section k.here l h.before) k.misfit)

-- the words that came of sections are those of a cascade
abbrev RefusedSections : Design → ControllerView → List ControllerView → CascadeRefusal → Type 0
RefusedSections design first later r = (q : QuantisedView) × (qs : List QuantisedView) × BecomesWords first design (Ok q) × BecomeWords design later qs × IsRefused q (q ∷ qs) r

refused_as : (design : Design) (first : ControllerView) (later : List ControllerView) (p q : QuantisedView) (ps qs : List QuantisedView) (r : CascadeRefusal) → BecomesWords first design (Ok p) → BecomeWords design later ps
    → BecomesWords first design (Ok q) → BecomeWords design later qs → IsRefused q (q ∷ qs) r → IsRefused p (p ∷ ps) r
refused_as design first later p q ps qs r hp hps hq hqs h =
    let one = one_word design first q p hq hp in
    let all = words_once design later qs ps hqs hps in
    subst (λ xs. IsRefused p (p ∷ xs) r) all (subst (λ x. IsRefused x (x ∷ qs) r) one h)

refusals_once : (design : Design) (first : ControllerView) (later : List ControllerView) (v w : CascadeRefusal) → RefusedSections design first later v → RefusedSections design first later w → v ≡ w
refusals_once design first later v w (p, ps, hp, hps, h) (q, qs, hq, hqs, k) =
    one_by_place p (p ∷ ps) v w h (refused_as design first later p q ps qs w hp hps hq hqs k) (cases_order (place_of v) (place_of w))

-- a later section that becomes no words
abbrev LaterQuant : Design → List ControllerView → ℕ → QuantRefusal → Type 0
LaterQuant design cs section r = (i : ℕ) × (c : ControllerView) × (section ≡ suc i) × (slice_get cs i ≡ Some c) × (before : List QuantisedView) × BecomeWords design (take i cs) before × BecomesWords c design (Err r)

all_or_later : (design : Design) (cs : List ControllerView) (qs : List QuantisedView) (section : ℕ) (r : QuantRefusal) → BecomeWords design cs qs → LaterQuant design cs section r → ⊥
all_or_later design cs qs section r h (i, c, e, at, before, words, k) =
    let p = pair_at (λ x q. BecomesWords x design (Ok q)) cs qs i c at h in
    word_or_not design c p.0 r p.1 k

quants_by : (design : Design) (cs : List ControllerView) (i j : ℕ) (c d : ControllerView) (r s : QuantRefusal) (bs ds : List QuantisedView) → slice_get cs i ≡ Some c → BecomeWords design (take i cs) bs → BecomesWords c design (Err r)
    → slice_get cs j ≡ Some d → BecomeWords design (take j cs) ds → BecomesWords d design (Err s) → (i ≡ j) ⊎ ((i < j) ⊎ (j < i)) → stop.QuantRefused (file.Section (suc i)) r ≡ stop.QuantRefused (file.Section (suc j)) s
quants_by design cs i j c d r s bs ds at before h there then_before k (inl e) =
    let one : c ≡ d = some_once c d (sym at ∙ ap (slice_get cs) e ∙ there) in
    ap (λ x. stop.QuantRefused (file.Section (suc x)) r) e ∙ ap (stop.QuantRefused (file.Section (suc j))) (one_quant design d r s (subst (λ x. BecomesWords x design (Err r)) one h) k)
quants_by design cs i j c d r s bs ds at before h there then_before k (inr (inl l)) =
    let p = pair_before (λ x q. BecomesWords x design (Ok q)) cs ds i j c at l then_before in
    absurd (word_or_not design c p.0 r p.1 h)
quants_by design cs i j c d r s bs ds at before h there then_before k (inr (inr l)) =
    let p = pair_before (λ x q. BecomesWords x design (Ok q)) cs bs j i d there l before in
    absurd (word_or_not design d p.0 s p.1 k)

quants_once : (design : Design) (cs : List ControllerView) (m n : ℕ) (r s : QuantRefusal) → LaterQuant design cs m r → LaterQuant design cs n s → stop.QuantRefused (file.Section m) r ≡ stop.QuantRefused (file.Section n) s
quants_once design cs m n r s (i, c, e, at, bs, before, h) (j, d, f, there, ds, then_before, k) =
    ap (λ x. stop.QuantRefused (file.Section x) r) e ∙ quants_by design cs i j c d r s bs ds at before h there then_before k (cases_order i j) ∙ ap (λ x. stop.QuantRefused (file.Section x) s) (sym f)

cascade_lost : (design : Design) (c : ControllerView) (cs : List ControllerView) (s : CascadeView) (why : Stop) → BecomesWords c design (Ok s.first) → BecomeWords design cs s.later → IsCascade s → IsNoCascade design c cs why → IsLost (Err why)
cascade_lost design c cs s (stop.QuantRefused file.Controller r) h hs k n = absurd (word_or_not design c s.first r h n)
cascade_lost design c cs s (stop.CascadeRefused r) h hs k n =
    absurd (fit_or_not s.first (sections_of s) r k.fit (refused_as design c cs s.first n.0 s.later n.1 r h hs n.2 n.3 n.4))
cascade_lost design c cs s (stop.QuantRefused (file.Section m) r) h hs k n = absurd (all_or_later design cs s.later m r hs n.2)
cascade_lost design c cs s stop.NoMemory h hs k n = tt
cascade_lost design c cs s why h hs k n = absurd n.2

cascade_once : (design : Design) (c : ControllerView) (cs : List ControllerView) (v w : Stop) → IsNoCascade design c cs v → IsNoCascade design c cs w → AreOne v w
cascade_once design c cs (stop.QuantRefused file.Controller r) (stop.QuantRefused file.Controller s) h k = inl (ap (stop.QuantRefused file.Controller) (one_quant design c r s h k))
cascade_once design c cs (stop.QuantRefused file.Controller r) (stop.CascadeRefused s) h k = absurd (word_or_not design c k.0 r k.2 h)
cascade_once design c cs (stop.QuantRefused file.Controller r) w h k = absurd (word_or_not design c k.0 r k.1 h)
cascade_once design c cs (stop.CascadeRefused r) (stop.QuantRefused file.Controller s) h k = absurd (word_or_not design c h.0 s h.2 k)
cascade_once design c cs (stop.CascadeRefused r) (stop.CascadeRefused s) h k = inl (ap stop.CascadeRefused (refusals_once design c cs r s h k))
cascade_once design c cs (stop.CascadeRefused r) (stop.QuantRefused (file.Section n) s) h k = absurd (all_or_later design cs h.1 n s h.3 k.2)
cascade_once design c cs (stop.CascadeRefused r) stop.NoMemory h k = inr (inr tt)
cascade_once design c cs (stop.CascadeRefused r) w h k = absurd k.2
cascade_once design c cs (stop.QuantRefused (file.Section m) r) (stop.QuantRefused file.Controller s) h k = absurd (word_or_not design c h.0 s h.1 k)
cascade_once design c cs (stop.QuantRefused (file.Section m) r) (stop.CascadeRefused s) h k = absurd (all_or_later design cs k.1 m r k.3 h.2)
cascade_once design c cs (stop.QuantRefused (file.Section m) r) (stop.QuantRefused (file.Section n) s) h k = inl (quants_once design cs m n r s h.2 k.2)
cascade_once design c cs (stop.QuantRefused (file.Section m) r) stop.NoMemory h k = inr (inr tt)
cascade_once design c cs (stop.QuantRefused (file.Section m) r) w h k = absurd k.2
cascade_once design c cs stop.NoMemory w h k = inr (inl tt)
cascade_once design c cs v w h k = absurd h.2

-- ---- the words of texts
pub words_lost : (design : Design) (t : JobTexts) (words : JobWords) (why : Stop) → BecomeJobWords design t words → AreWordless design t why → IsLost (Err why)
words_lost design (of_one c) (of_words q) why h k = absurd (no_refusal design c q why h k)
words_lost design (with_plant c p) (of_words q) why h k = absurd (no_refusal design c q why h k)
words_lost design (of_sections c cs) (of_series s) why h k = cascade_lost design c cs s why h.0 h.1 h.2 k
words_lost design (sections_with_plant c cs p) (of_series s) why h k = cascade_lost design c cs s why h.0 h.1 h.2 k
words_lost design (of_state_file c) (of_state_words s) (stop.StateQuantRefused r) h k = absurd (read_or_refused (Ok s) s r refl (states_become c design (Ok s) (Err r) h k))
words_lost design (of_state_file c) (of_state_words s) why h k = absurd k
words_lost design t words why h k = absurd h

wordless_once : (design : Design) (t : JobTexts) (v w : Stop) → AreWordless design t v → AreWordless design t w → AreOne v w
wordless_once design (of_one c) v w h k = inl (one_refusal design c v w h k)
wordless_once design (with_plant c p) v w h k = inl (one_refusal design c v w h k)
wordless_once design (of_sections c cs) v w h k = cascade_once design c cs v w h k
wordless_once design (sections_with_plant c cs p) v w h k = cascade_once design c cs v w h k
wordless_once design (of_state_file c) (stop.StateQuantRefused r) (stop.StateQuantRefused s) h k = inl (ap stop.StateQuantRefused (refused_once (Err r) r s refl (states_become c design (Err r) (Err s) h k)))
wordless_once design (of_state_file c) (stop.StateQuantRefused r) w h k = absurd k
wordless_once design (of_state_file c) v w h k = absurd h

-- ---- evidence and words once
pub evidence_same : (old then_old : FilesSeen) (task : Task) (e f : Evidence) → NamesTheSame old then_old task → HasEvidence old task e → HasEvidence then_old task f → e ≡ f
evidence_same old then_old (checks_form name) (certificate c) (certificate d) same h k =
    ap certificate (read_once (certificate_in same.0) c d (file_read a_certificate old name same.0 c same.1 h).1 (file_read a_certificate then_old name same.0 d same.2 k).1)
evidence_same old then_old (checks_form name) (certificate c) f same h k = absurd k
evidence_same old then_old (checks_form name) e f same h k = absurd h
evidence_same old then_old (checks_ellipsoid name) (ellipsoid o) (ellipsoid p) same h k =
    ap ellipsoid (read_once (ellipsoid_in same.0) o p (file_read an_ellipsoid old name same.0 o same.1 h).1 (file_read an_ellipsoid then_old name same.0 p same.2 k).1)
evidence_same old then_old (checks_ellipsoid name) (ellipsoid o) f same h k = absurd k
evidence_same old then_old (checks_ellipsoid name) e f same h k = absurd h
evidence_same old then_old (runs_file name outputs) (input_list xs) (input_list ys) same h k =
    ap input_list (read_once (inputs_in same.0) xs ys (file_read some_inputs old name same.0 xs same.1 h).1 (file_read some_inputs then_old name same.0 ys same.2 k).1)
evidence_same old then_old (runs_file name outputs) (input_list xs) f same h k = absurd k
evidence_same old then_old (runs_file name outputs) e f same h k = absurd h
evidence_same old then_old (emits_file_test prefix name) (input_list xs) (input_list ys) same h k =
    ap input_list (read_once (inputs_in same.0) xs ys (file_read some_inputs old name same.0 xs same.1 h).1 (file_read some_inputs then_old name same.0 ys same.2 k).1)
evidence_same old then_old (emits_file_test prefix name) (input_list xs) f same h k = absurd k
evidence_same old then_old (emits_file_test prefix name) e f same h k = absurd h
evidence_same old then_old task none none same h k = refl
evidence_same old then_old task none f same h k = absurd k
evidence_same old then_old task e f same h k = absurd h

pub job_words_once : (design : Design) (t : JobTexts) (x y : JobWords) → BecomeJobWords design t x → BecomeJobWords design t y → x ≡ y
job_words_once design (of_one c) (of_words q) (of_words r) h k = ap of_words (one_word design c q r h k)
job_words_once design (of_one c) (of_words q) y h k = absurd k
job_words_once design (with_plant c p) (of_words q) (of_words r) h k = ap of_words (one_word design c q r h k)
job_words_once design (with_plant c p) (of_words q) y h k = absurd k
job_words_once design (of_sections c cs) (of_series s) (of_series u) h k = ap of_series (one_series design c cs s u h.0 h.1 k.0 k.1)
job_words_once design (of_sections c cs) (of_series s) y h k = absurd k
job_words_once design (sections_with_plant c cs p) (of_series s) (of_series u) h k = ap of_series (one_series design c cs s u h.0 h.1 k.0 k.1)
job_words_once design (sections_with_plant c cs p) (of_series s) y h k = absurd k
job_words_once design (of_state_file c) (of_state_words s) (of_state_words u) h k = ap of_state_words (read_once (Ok s) s u refl (states_become c design (Ok s) (Ok u) h k))
job_words_once design (of_state_file c) (of_state_words s) y h k = absurd k
job_words_once design t x y h k = absurd h

-- ---- two runs
-- what ends a job before its task
abbrev Barred : FilesSeen → FilesSeen → JobFiles → Task → Design → Stop → Type 0
Barred old new files task design why = AreUnread old new files why ⊎ (LacksEvidence old new files task why ⊎ LacksWords old files task design why)

-- it ends no job that is done
done_lost : (old new then_old : FilesSeen) (files : JobFiles) (task : Task) (design : Design) (why : Stop) (found : Outcome) → HoldTheSame old files then_old files → NamesTheSame old then_old task → Barred old new files task design why
    → IsDoneBy then_old files task design found → IsLost (Err why)
done_lost old new then_old files task design why found same names (inl h) d = texts_lost then_old old new files d.texts why (same_back old then_old files same) d.have_texts h
done_lost old new then_old files task design why found same names (inr (inl (t, has, h))) d = evidence_lost then_old old new task d.evidence why (names_back old then_old task names) d.has_evidence h
done_lost old new then_old files task design why found same names (inr (inr (t, e, has, named, h))) d =
    let one = texts_once old then_old files t d.texts same has d.have_texts in
    words_lost design d.texts d.words why d.become_words (subst (λ x. AreWordless design x why) one h)

barred_once : (old new then_old then_new : FilesSeen) (files : JobFiles) (task : Task) (design : Design) (v w : Stop) → HoldTheSame old files then_old files → NamesTheSame old then_old task → Barred old new files task design v
    → Barred then_old then_new files task design w → AreOne v w
barred_once old new then_old then_new files task design v w same names (inl h) (inl k) = unread_once old new then_old then_new files v w same h k
barred_once old new then_old then_new files task design v w same names (inl h) (inr (inl (u, has, k))) = inr (inl (texts_lost then_old old new files u v (same_back old then_old files same) has h))
barred_once old new then_old then_new files task design v w same names (inl h) (inr (inr (u, e, has, named, k))) = inr (inl (texts_lost then_old old new files u v (same_back old then_old files same) has h))
barred_once old new then_old then_new files task design v w same names (inr (inl (t, had, h))) (inl k) = inr (inr (texts_lost old then_old then_new files t w same had k))
barred_once old new then_old then_new files task design v w same names (inr (inl (t, had, h))) (inr (inl (u, has, k))) = evidence_once old new then_old then_new task v w names h k
barred_once old new then_old then_new files task design v w same names (inr (inl (t, had, h))) (inr (inr (u, e, has, named, k))) =
    inr (inl (evidence_lost then_old old new task e v (names_back old then_old task names) named h))
barred_once old new then_old then_new files task design v w same names (inr (inr (t, e, had, named, h))) (inl k) = inr (inr (texts_lost old then_old then_new files t w same had k))
barred_once old new then_old then_new files task design v w same names (inr (inr (t, e, had, named, h))) (inr (inl (u, has, k))) = inr (inr (evidence_lost old then_old then_new task e w names named k))
barred_once old new then_old then_new files task design v w same names (inr (inr (t, e, had, named, h))) (inr (inr (u, f, has, told, k))) =
    let one = texts_once old then_old files t u same had has in
    wordless_once design u v w (subst (λ x. AreWordless design x v) one h) k

-- what each answer is
kept_or_lost : (v w : Stop) → (IsLost (Err v) → ⊥) → AreOne v w → IsThis v (Err w)
kept_or_lost v w kept (inl e) = inl (ap stopped_by (sym e))
kept_or_lost v w kept (inr (inl h)) = absurd (kept h)
kept_or_lost v w kept (inr (inr h)) = inr h

done_exact : (old then_old : FilesSeen) (files : JobFiles) (task : Task) (design : Design) (why : Stop) (found : Outcome) → HoldTheSame old files then_old files → NamesTheSame old then_old task → (IsLost (Err why) → ⊥)
    → IsDoneBy old files task design (Err why) → IsDoneBy then_old files task design found → IsThis why found
done_exact old then_old files task design why found same names kept h k =
    let texts = texts_once old then_old files h.texts k.texts same h.have_texts k.have_texts in
    let evidence = evidence_same old then_old task h.evidence k.evidence names h.has_evidence k.has_evidence in
    let words = job_words_once design k.texts h.words k.words (subst (λ t. BecomeJobWords design t h.words) texts h.become_words) k.become_words in
    let by_texts = subst (λ t. IsTaskDone task h.evidence t h.words (Err why)) texts h.done in
    let by_evidence = subst (λ e. IsTaskDone task e k.texts h.words (Err why)) evidence by_texts in
    task_exact task k.evidence k.texts k.words why found (subst (λ w. IsTaskDone task k.evidence k.texts w (Err why)) words by_evidence) kept k.done

-- how a job is refused: before its task, or by it
abbrev Refused : FilesSeen → FilesSeen → JobFiles → Task → Design → Stop → Type 0
Refused old new files task design why = Barred old new files task design why ⊎ IsDoneBy old files task design (Err why)

refused_by : (old new : FilesSeen) (job : Job) (why : Stop) → IsAnswered old new (Some (does job)) (Err why) → Refused old new job.files job.task job.design why ⊎ IsLost (Err why)
refused_by old new job stop.NoMemory h = inr tt
refused_by old new job why (inl h) = inl (inl (inl h))
refused_by old new job why (inr (inl h)) = inl (inl (inr (inl h)))
refused_by old new job why (inr (inr (inl h))) = inl (inl (inr (inr h)))
refused_by old new job why (inr (inr (inr d))) = inl (inr d)

answer_exact : (old new then_old : FilesSeen) (files : JobFiles) (task : Task) (design : Design) (why : Stop) (found : Outcome) → HoldTheSame old files then_old files → NamesTheSame old then_old task → (IsLost (Err why) → ⊥)
    → Refused old new files task design why → IsDoneBy then_old files task design found → IsThis why found
answer_exact old new then_old files task design why found same names kept (inl h) d = absurd (kept (done_lost old new then_old files task design why found same names h d))
answer_exact old new then_old files task design why found same names kept (inr h) d = done_exact old then_old files task design why found same names kept h d

refusal_exact : (old new then_old then_new : FilesSeen) (files : JobFiles) (task : Task) (design : Design) (why w : Stop) → HoldTheSame old files then_old files → NamesTheSame old then_old task → (IsLost (Err why) → ⊥)
    → Refused old new files task design why → Refused then_old then_new files task design w ⊎ IsLost (Err w) → IsThis why (Err w)
refusal_exact old new then_old then_new files task design why w same names kept h (inr k) = inr k
refusal_exact old new then_old then_new files task design why w same names kept h (inl (inr d)) = answer_exact old new then_old files task design why (Err w) same names kept h d
refusal_exact old new then_old then_new files task design why w same names kept (inl h) (inl (inl k)) = kept_or_lost why w kept (barred_once old new then_old then_new files task design why w same names h k)
refusal_exact old new then_old then_new files task design why w same names kept (inr d) (inl (inl k)) =
    inr (done_lost then_old then_new old files task design w (Err why) (same_back old then_old files same) (names_back old then_old task names) k d)

job_exact : (old new then_old then_new : FilesSeen) (job : Job) (why : Stop) (found : Outcome) → HoldTheSame old job.files then_old job.files → NamesTheSame old then_old job.task → (IsLost (Err why) → ⊥)
    → Refused old new job.files job.task job.design why ⊎ IsLost (Err why) → IsAnswered then_old then_new (Some (does job)) found → IsThis why found
job_exact old new then_old then_new job why found same names kept (inr h) k = absurd (kept h)
job_exact old new then_old then_new job why (Ok found) same names kept (inl h) d = answer_exact old new then_old job.files job.task job.design why (Ok found) same names kept h d
job_exact old new then_old then_new job why (Err w) same names kept (inl h) k =
    refusal_exact old new then_old then_new job.files job.task job.design why w same names kept h (refused_by then_old then_new job w k)

-- ---- checks of certificates
abbrev Unchecked : FilesSeen → FilesSeen → JobFiles → List ℕ → Stop → Type 0
Unchecked old new files name why = AreUnread old new files why ⊎ ((texts : JobTexts) × HaveTexts old files texts × IsUnread a_certificate old new name why)

checked_lost : (old new then_old : FilesSeen) (files : JobFiles) (name : List ℕ) (why : Stop) (found : Outcome) → HoldTheSame old files then_old files → HoldsTheSame old name then_old name → Unchecked old new files name why
    → IsCheckedBy then_old files name found → IsLost (Err why)
checked_lost old new then_old files name why found same named (inl h) d = texts_lost then_old old new files d.texts why (same_back old then_old files same) d.have_texts h
checked_lost old new then_old files name why found same named (inr h) d = file_lost a_certificate then_old old new name name d.written why (named.0, named.2, named.1) d.spelled h.2

unchecked_once : (old new then_old then_new : FilesSeen) (files : JobFiles) (name : List ℕ) (v w : Stop) → HoldTheSame old files then_old files → HoldsTheSame old name then_old name → Unchecked old new files name v
    → Unchecked then_old then_new files name w → AreOne v w
unchecked_once old new then_old then_new files name v w same named (inl h) (inl k) = unread_once old new then_old then_new files v w same h k
unchecked_once old new then_old then_new files name v w same named (inl h) (inr k) = inr (inl (texts_lost then_old old new files k.0 v (same_back old then_old files same) k.1 h))
unchecked_once old new then_old then_new files name v w same named (inr h) (inl k) = inr (inr (texts_lost old then_old then_new files h.0 w same h.1 k))
unchecked_once old new then_old then_new files name v w same named (inr h) (inr k) = file_one a_certificate old new then_old then_new name v w named h.2 k.2

pub one_written : (old then_old : FilesSeen) (name : List ℕ) (c d : Certificate) → HoldsTheSame old name then_old name → IsFileOf a_certificate old name c → IsFileOf a_certificate then_old name d → c ≡ d
one_written old then_old name c d same h k = read_once (certificate_in same.0) c d (file_read a_certificate old name same.0 c same.1 h).1 (file_read a_certificate then_old name same.0 d same.2 k).1

checked_exact : (old then_old : FilesSeen) (files : JobFiles) (name : List ℕ) (why : Stop) (found : Outcome) → HoldTheSame old files then_old files → HoldsTheSame old name then_old name → (IsLost (Err why) → ⊥)
    → IsCheckedBy old files name (Err why) → IsCheckedBy then_old files name found → IsThis why found
checked_exact old then_old files name why found same named kept h k =
    let texts = texts_once old then_old files h.texts k.texts same h.have_texts k.have_texts in
    let written = one_written old then_old name h.written k.written named h.spelled k.spelled in
    let by_texts = subst (λ t. IsOfCheck t h.written (Err why)) texts h.check in
    check_exact k.texts k.written why found (subst (λ c. IsOfCheck k.texts c (Err why)) written by_texts) kept k.check

abbrev RefusedCheck : FilesSeen → FilesSeen → JobFiles → List ℕ → Stop → Type 0
RefusedCheck old new files name why = Unchecked old new files name why ⊎ IsCheckedBy old files name (Err why)

check_refused_by : (old new : FilesSeen) (files : JobFiles) (name : List ℕ) (why : Stop) → IsCheckOfRow old new files name (Err why) → RefusedCheck old new files name why ⊎ IsLost (Err why)
check_refused_by old new files name stop.NoMemory h = inr tt
check_refused_by old new files name why (inl h) = inl (inl (inl h))
check_refused_by old new files name why (inr (inl h)) = inl (inl (inr h))
check_refused_by old new files name why (inr (inr d)) = inl (inr d)

check_answer : (old new then_old : FilesSeen) (files : JobFiles) (name : List ℕ) (why : Stop) (found : Outcome) → HoldTheSame old files then_old files → HoldsTheSame old name then_old name → (IsLost (Err why) → ⊥)
    → RefusedCheck old new files name why → IsCheckedBy then_old files name found → IsThis why found
check_answer old new then_old files name why found same named kept (inl h) d = absurd (kept (checked_lost old new then_old files name why found same named h d))
check_answer old new then_old files name why found same named kept (inr h) d = checked_exact old then_old files name why found same named kept h d

check_refusal : (old new then_old then_new : FilesSeen) (files : JobFiles) (name : List ℕ) (why w : Stop) → HoldTheSame old files then_old files → HoldsTheSame old name then_old name → (IsLost (Err why) → ⊥)
    → RefusedCheck old new files name why → RefusedCheck then_old then_new files name w ⊎ IsLost (Err w) → IsThis why (Err w)
check_refusal old new then_old then_new files name why w same named kept h (inr k) = inr k
check_refusal old new then_old then_new files name why w same named kept h (inl (inr d)) = check_answer old new then_old files name why (Err w) same named kept h d
check_refusal old new then_old then_new files name why w same named kept (inl h) (inl (inl k)) = kept_or_lost why w kept (unchecked_once old new then_old then_new files name why w same named h k)
check_refusal old new then_old then_new files name why w same named kept (inr d) (inl (inl k)) =
    inr (checked_lost then_old then_new old files name w (Err why) (same_back old then_old files same) (named.0, named.2, named.1) k d)

checks_exact : (old new then_old then_new : FilesSeen) (files : JobFiles) (name : List ℕ) (why : Stop) (found : Outcome) → HoldTheSame old files then_old files → HoldsTheSame old name then_old name → (IsLost (Err why) → ⊥)
    → RefusedCheck old new files name why ⊎ IsLost (Err why) → IsCheckOfRow then_old then_new files name found → IsThis why found
checks_exact old new then_old then_new files name why found same named kept (inr h) k = absurd (kept h)
checks_exact old new then_old then_new files name why (Ok found) same named kept (inl h) d = check_answer old new then_old files name why (Ok found) same named kept h d
checks_exact old new then_old then_new files name why (Err w) same named kept (inl h) k =
    check_refusal old new then_old then_new files name why w same named kept h (check_refused_by then_old then_new files name w k)

generation_lost : (seed count : ℕ) (why : Stop) → IsOfGeneration seed count (Err why) → IsLost (Err why)
generation_lost seed count stop.NoMemory h = tt
generation_lost seed count why h = absurd h

pub come_exactly : RefusalsComeExactly
come_exactly old new then_old then_new (does job) why found same kept h answered = job_exact old new then_old then_new job why found same.0 same.1 kept (refused_by old new job why h) answered
come_exactly old new then_old then_new (checks files name worded) why found same kept h answered = checks_exact old new then_old then_new files name why found same.0 same.1 kept (check_refused_by old new files name why h) answered
come_exactly old new then_old then_new (generates seed count) why found same kept h answered = absurd (kept (generation_lost seed count why h.0))

pub told_back : (old then_old : FilesSeen) (request : Request) → IsToldTheSame old then_old request → IsToldTheSame then_old old request
told_back old then_old (does job) same = (same_back old then_old job.files same.0, names_back old then_old job.task same.1)
told_back old then_old (checks files name worded) same = (same_back old then_old files same.0, (same.1.0, same.1.2, same.1.1))
told_back old then_old (generates seed count) same = tt
