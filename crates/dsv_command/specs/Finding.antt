-- The request that parts ask for, or why there is none.
use Rattle.std.specs.Prelude.{ℕ, ℤ, List, [], ◌∷◌, ◌++◌, Bool, true, false, Option, Some, None}
use Rattle.std.specs.Prelude.{Result, Ok, Err, codes, if◌then◌else◌, unwrap_or, ◌&&◌, not}
use Rattle.std.specs.List.{list_any}
use Rattle.std.specs.Str.{bytes_eq}
use Rattle.dsv_text.specs.Stages.{◌>>=◌}
use Rattle.dsv_names.specs.declared.realisation.Realisation.{Realisation}
use Rattle.dsv_names.specs.declared.realisation.Realisation.TheVariants.{Dfi}
use Rattle.dsv_names.specs.declared.property.RunProperty.TheVariants.{Overflow}
use Rattle.dsv_names.specs.declared.property.RootProperty.TheVariants.{Stability}
use Rattle.dsv_names.specs.declared.property.Property.{Property}
use Rattle.dsv_names.specs.declared.property.Property.TheVariants.{OfRuns, OfRoots, Timing}
use Rattle.dsv_names.specs.Properties.{property_name}
use Rattle.dsv_names.specs.Realisations.{realisation_name}
use Rattle.dsv_command.specs.ClapCommand.{filled_parts_of}
use Rattle.dsv_command.specs.Limits.{default_controllers}
use Rattle.dsv_command.specs.Options.{command_options}
use Rattle.dsv_command.specs.Parts.{PartView, file, flag, choice, is_given, file_of, value_of}
use Rattle.dsv_command.specs.Reasons.{Reason, apart, wants, wants_form, no_task, no_file}
use Rattle.dsv_command.specs.Reasons.{fault_of, marks_of}
use Rattle.dsv_command.specs.declared.kind.Kind.{Kind}
use Rattle.dsv_command.specs.declared.kind.Kind.TheVariants as of_kind
use Rattle.dsv_command.specs.Table.{JobFiles, controller, cascade, states, plant_loop}
use Rattle.dsv_command.specs.Table.{cascade_loop, Task, decides, checks_time, writes, searches}
use Rattle.dsv_command.specs.Table.{seeks_set, measures_gain, simulates, checks_form, seeks_form}
use Rattle.dsv_command.specs.CodeNames.{default_code_name}
use Rattle.dsv_command.specs.Table.{runs_file, tells_words, may_word}
use Rattle.dsv_command.specs.Table.{emits_code, emits_test, emits_file_test}
use Rattle.dsv_command.specs.Table.{checks_ellipsoid, seeks_ellipsoid, Job, Request, does, checks}
use Rattle.dsv_command.specs.Table.{generates, has_cell, may_certify, task_options}
use Rattle.dsv_command.specs.Table.{all_task_options, all_design_options}
use Rattle.dsv_command.specs.Values.{Numbers, Values, values_in}

-- the first of these options that is given and isn't one of its own
abbrev pub first_other : List PartView → List (List ℕ) → List (List ℕ) → Option (List ℕ)
first_other parts own [] = None
first_other parts own (name ∷ names) = if list_any (bytes_eq name) own
    then first_other parts own names
    else if is_given parts name then Some name else first_other parts own names

-- nothing, unless another option is given
abbrev pub unless_given : PartView → Option (List ℕ) → Result (Unit {0}) Reason
unless_given part None = Ok tt
unless_given part (Some name) = Err (apart part (flag name))

-- nothing, unless FILE is given
abbrev pub unless_file : PartView → Option (List ℕ) → Result (Unit {0}) Reason
unless_file part None = Ok tt
unless_file part (Some text) = Err (apart part (file text))

abbrev pub property_part : Property → PartView
property_part property = choice (codes "property") (property_name property)

-- ---- the task

-- a task that an option asks for, of this property alone
abbrev pub task_if : Bool → List ℕ → Property → Task → Result Task Reason
task_if true name property task = Ok task
task_if false name property task = Err (apart (flag name) (property_part property))

abbrev pub is_stability : Property → Bool
is_stability (OfRoots Stability) = true
is_stability _ = false

abbrev pub is_overflow : Property → Bool
is_overflow (OfRuns Overflow) = true
is_overflow _ = false

abbrev pub formula_task : Numbers → Property → Result Task Reason
formula_task numbers (OfRuns property) = Ok (writes property numbers.samples)
formula_task numbers property = Err (apart (flag (codes "formula")) (property_part property))

-- the task of a property, if no option asks for another one
abbrev pub plain_task : List PartView → Numbers → Property → Task
plain_task parts numbers (OfRuns property) =
    searches property numbers.samples numbers.conflicts
plain_task parts numbers (OfRoots property) =
    decides property (is_given parts (codes "schur-cohn"))
plain_task parts numbers Timing = checks_time

-- the first option that asks for a task of its own
abbrev pub run_task : List PartView → Numbers → Property → Result Task Reason
run_task parts numbers property =
    if is_given parts (codes "gain")
    then task_if (is_overflow property) (codes "gain") property measures_gain
    else if is_given parts (codes "unbounded")
    then task_if (is_overflow property) (codes "unbounded") property (seeks_set numbers.conflicts)
    else if is_given parts (codes "formula") then formula_task numbers property
    else Ok (plain_task parts numbers property)

abbrev pub flag_task : List PartView → Numbers → Property → Result Task Reason
flag_task parts numbers property =
    if is_given parts (codes "lyapunov")
    then task_if (is_stability property) (codes "lyapunov") property seeks_form
    else if is_given parts (codes "offer-ellipsoid")
    then task_if (is_overflow property) (codes "offer-ellipsoid") property seeks_ellipsoid
    else run_task parts numbers property

-- an ellipsoid that is named, or else one of those
abbrev pub ellipsoid_task : List PartView → Numbers → Property → Option (List ℕ)
    → Result Task Reason
ellipsoid_task parts numbers property (Some name) =
    task_if (is_overflow property) (codes "ellipsoid") property (checks_ellipsoid name)
ellipsoid_task parts numbers property None = flag_task parts numbers property

-- a form that is named, or else one of those
abbrev pub form_task : List PartView → Numbers → Property → Option (List ℕ) → Result Task Reason
form_task parts numbers property (Some name) =
    task_if (is_stability property) (codes "form") property (checks_form name)
form_task parts numbers property None =
    ellipsoid_task parts numbers property (value_of (codes "ellipsoid") parts)

-- what is missing if nothing is asked: what writes C, if names in C are given
abbrev pub missing_task : List PartView → Reason
missing_task parts = if is_given parts (codes "c-name")
    then wants (codes "c-name") (codes "emit-c") else no_task

-- inputs in a file that is named, or else the words alone
abbrev pub words_task : List PartView → Option (List ℕ) → Result Task Reason
words_task parts (Some name) = Ok (runs_file name (is_given parts (codes "outputs")))
words_task parts None =
    if is_given parts (codes "words") then Ok tells_words else Err (missing_task parts)

-- either a property or inputs are given, or else one of those
abbrev pub task_by : List PartView → Numbers → Option Property → Option (List ℤ)
    → Result Task Reason
task_by parts numbers (Some property) (Some inputs) =
    Err (apart (flag (codes "simulate")) (flag (codes "property")))
task_by parts numbers (Some property) None =
    form_task parts numbers property (value_of (codes "form") parts)
task_by parts numbers None (Some inputs) =
    Ok (simulates inputs (is_given parts (codes "outputs")))
task_by parts numbers None None = words_task parts (value_of (codes "inputs") parts)

-- C with a test over inputs that are given, or over those in a file that is named, or with none
abbrev pub code_task : List ℕ → Option (List ℤ) → Option (List ℕ) → Task
code_task prefix (Some inputs) named = emits_test prefix inputs
code_task prefix None (Some name) = emits_file_test prefix name
code_task prefix None None = emits_code prefix

-- what names in C begin with
abbrev pub code_prefix : Values → List ℕ
code_prefix values = unwrap_or values.code_name default_code_name

-- C, if that is asked for, with names that begin so, or else the task that is given
abbrev pub task_with : List PartView → Numbers → Option Property → Option (List ℤ) → List ℕ
    → Result Task Reason
task_with parts numbers property inputs prefix = if is_given parts (codes "emit-c")
    then Ok (code_task prefix inputs (value_of (codes "inputs") parts))
    else task_by parts numbers property inputs

abbrev pub task_in : List PartView → Values → Result Task Reason
task_in parts values =
    task_with parts values.numbers values.property values.inputs (code_prefix values)

-- the part that asks for a task
abbrev pub task_part : Task → PartView
task_part (decides property schur_cohn) = property_part (OfRoots property)
task_part checks_time = property_part Timing
task_part (writes property samples) = flag (codes "formula")
task_part (searches property samples conflicts) = property_part (OfRuns property)
task_part (seeks_set conflicts) = flag (codes "unbounded")
task_part measures_gain = flag (codes "gain")
task_part (simulates inputs outputs) = flag (codes "simulate")
task_part (runs_file name outputs) = flag (codes "inputs")
task_part tells_words = flag (codes "words")
task_part (emits_code prefix) = flag (codes "emit-c")
task_part (emits_test prefix inputs) = flag (codes "emit-c")
task_part (emits_file_test prefix name) = flag (codes "emit-c")
task_part (checks_form name) = flag (codes "form")
task_part seeks_form = flag (codes "lyapunov")
task_part (checks_ellipsoid name) = flag (codes "ellipsoid")
task_part seeks_ellipsoid = flag (codes "offer-ellipsoid")

-- ---- what is asked about

-- by whether a state-space controller, a plant and sections are given
abbrev pub kind_by : Bool → Bool → Bool → Kind
kind_by true plant sections = of_kind.States
kind_by false true true = of_kind.CascadeLoop
kind_by false true false = of_kind.Loop
kind_by false false true = of_kind.Cascade
kind_by false false false = of_kind.Controller

abbrev pub kind_in : List PartView → Kind
kind_in parts = kind_by (is_given parts (codes "state-space")) (is_given parts (codes "plant"))
    (is_given parts (codes "sections"))

-- the part that makes the kind
abbrev pub kind_part : Kind → PartView
kind_part of_kind.Controller = file (codes "FILE")
kind_part of_kind.Cascade = flag (codes "sections")
kind_part of_kind.States = flag (codes "state-space")
kind_part of_kind.Loop = flag (codes "plant")
kind_part of_kind.CascadeLoop = flag (codes "plant")

-- what state-space controllers don't have: the options that name other files, a realisation
abbrev pub apart_from_states : List (List ℕ)
apart_from_states = codes "sections" ∷ codes "plant" ∷ codes "realization" ∷ []

abbrev pub check_states : List PartView → Kind → Result (Unit {0}) Reason
check_states parts of_kind.States =
    unless_file (flag (codes "state-space")) (file_of parts) >>= λ u.
    unless_given (flag (codes "state-space")) (first_other parts [] apart_from_states)
check_states parts _ = Ok tt

-- ---- what goes together

-- a task that lacks something else than its kind has: a form of a state-space controller, and
-- the state-space controller of a form
abbrev pub is_incomplete : Kind → Task → Bool
is_incomplete of_kind.States (decides Stability false) = true
is_incomplete of_kind.Controller (checks_form name) = true
is_incomplete of_kind.Controller seeks_form = true
is_incomplete _ _ = false

abbrev pub check_cell : Kind → Task → Result (Unit {0}) Reason
check_cell kind task = if has_cell kind task then Ok tt
    else if is_incomplete kind task then Ok tt
    else Err (apart (kind_part kind) (task_part task))

-- the kind doesn't go with a certificate, if a controller's task does
abbrev pub certificate_part : Kind → Task → PartView
certificate_part kind task =
    if may_certify of_kind.Controller task then kind_part kind else task_part task

abbrev pub check_certificate : Bool → Kind → Task → Result (Unit {0}) Reason
check_certificate certified kind task = if certified && not (may_certify kind task)
    then Err (apart (certificate_part kind task) (flag (codes "certificate"))) else Ok tt

-- what the words don't go with: a certificate, outputs alone, or the task
abbrev pub words_part : Bool → Task → PartView
words_part true task = flag (codes "certificate")
words_part false (simulates inputs outputs) = flag (codes "outputs")
words_part false (runs_file name outputs) = flag (codes "outputs")
words_part false task = task_part task

abbrev pub check_words : Bool → Bool → Task → Result (Unit {0}) Reason
check_words worded certified task = if worded && not (may_word certified task)
    then Err (apart (words_part certified task) (flag (codes "words"))) else Ok tt

-- ellipsoids are found in direct form I
abbrev pub check_realisation : Task → Realisation → Result (Unit {0}) Reason
check_realisation seeks_ellipsoid Dfi = Ok tt
check_realisation seeks_ellipsoid realisation = Err (apart (flag (codes "offer-ellipsoid"))
    (choice (codes "realization") (realisation_name realisation)))
check_realisation task realisation = Ok tt

-- ---- what is missing

-- what a task of this kind lacks, if it lacks something
abbrev pub check_cell_whole : Kind → Task → Result (Unit {0}) Reason
check_cell_whole of_kind.States (decides Stability false) = Err wants_form
check_cell_whole of_kind.Controller (checks_form name) =
    Err (wants (codes "form") (codes "state-space"))
check_cell_whole of_kind.Controller seeks_form =
    Err (wants (codes "lyapunov") (codes "state-space"))
check_cell_whole kind task = Ok tt

abbrev pub check_whole : List PartView → Kind → Task → Result (Unit {0}) Reason
check_whole parts kind (checks_ellipsoid name) = if is_given parts (codes "unbounded") then Ok tt
    else Err (wants (codes "ellipsoid") (codes "unbounded"))
check_whole parts kind task = check_cell_whole kind task

-- FILE is the controller's; the state-space controller's file is named in its place
abbrev pub files_by : Option (List ℕ) → Option (List ℕ) → Option (List (List ℕ))
    → Option (List ℕ) → Result JobFiles Reason
files_by (Some own) plant later main = Ok (states own)
files_by None plant later None = Err no_file
files_by None (Some plant) (Some later) (Some main) = Ok (cascade_loop main later plant)
files_by None (Some plant) None (Some main) = Ok (plant_loop main plant)
files_by None None (Some later) (Some main) = Ok (cascade main later)
files_by None None None (Some main) = Ok (controller main)

abbrev pub files_in : List PartView → Values → Result JobFiles Reason
files_in parts values = files_by (value_of (codes "state-space") parts)
    (value_of (codes "plant") parts) values.later (file_of parts)

-- ---- the request

-- nothing, unless an option of other tasks is given
unfoldable pub check_own : List PartView → Task → Result (Unit {0}) Reason
check_own parts task =
    unless_given (task_part task) (first_other parts (task_options task) all_task_options)

-- nothing, unless what is given doesn't go together
unfoldable pub check_rest : List PartView → Task → Realisation → Result (Unit {0}) Reason
check_rest parts task realisation =
    check_states parts (kind_in parts) >>= λ u.
    check_cell (kind_in parts) task >>= λ u.
    check_certificate (is_given parts (codes "certificate")) (kind_in parts) task >>= λ u.
    check_words (is_given parts (codes "words")) (is_given parts (codes "certificate")) task
    >>= λ u.
    check_realisation task realisation >>= λ u.
    check_whole parts (kind_in parts) task

abbrev pub check_job : List PartView → Task → Realisation → Result (Unit {0}) Reason
check_job parts task realisation =
    check_own parts task >>= λ u. check_rest parts task realisation

abbrev pub job_in : List PartView → Values → Result Job Reason
job_in parts values =
    task_in parts values >>= λ task.
    check_job parts task values.design.realisation >>= λ u.
    files_in parts values >>= λ files.
    Ok (record {
      files = files;
      task = task;
      design = values.design;
      certified = is_given parts (codes "certificate");
      worded = is_given parts (codes "words");
    })

-- the options that neither a check nor a generation has
abbrev pub all_job_options : List (List ℕ)
all_job_options = codes "state-space" ∷ codes "sections"
    ∷ (all_task_options ++ (codes "certificate" ∷ all_design_options))

-- a certificate of a controller or of its loop
abbrev pub checked_files : Option (List ℕ) → Option (List ℕ) → Result JobFiles Reason
checked_files plant None = Err no_file
checked_files None (Some main) = Ok (controller main)
checked_files (Some plant) (Some main) = Ok (plant_loop main plant)

abbrev pub check_in : List PartView → List ℕ → Result Request Reason
check_in parts name =
    unless_given (flag (codes "check")) (first_other parts [] all_job_options) >>= λ u.
    checked_files (value_of (codes "plant") parts) (file_of parts) >>= λ files.
    Ok (checks files name (is_given parts (codes "words")))

abbrev pub generation_in : List PartView → Option ℕ → ℕ → Result Request Reason
generation_in parts controllers seed =
    unless_file (flag (codes "generate")) (file_of parts) >>= λ u.
    unless_given (flag (codes "generate"))
    (first_other parts [] (codes "check" ∷ codes "plant" ∷ codes "words" ∷ [])) >>= λ u.
    unless_given (flag (codes "generate")) (first_other parts [] all_job_options) >>= λ u.
    Ok (generates seed (unwrap_or controllers default_controllers))

abbrev pub done : Result Job Reason → Result Request Reason
done (Ok job) = Ok (does job)
done (Err reason) = Err reason

-- a seed makes it a generation, and else there is no number of controllers; a certificate's name
-- makes it a check, and else it is a job
abbrev pub request_by : List PartView → Values → Option ℕ → Option ℕ → Option (List ℕ)
    → Result Request Reason
request_by parts values (Some seed) controllers certificate =
    generation_in parts controllers seed
request_by parts values None (Some controllers) certificate =
    Err (wants (codes "count") (codes "generate"))
request_by parts values None None (Some name) = check_in parts name
request_by parts values None None None = done (job_in parts values)

abbrev pub request_in : List PartView → Result Request Reason
request_in parts = values_in parts >>= λ values.
    request_by parts values values.seed values.controllers (value_of (codes "check") parts)

-- ---- a whole line

abbrev pub asked_by : Option (List PartView) → Option Reason → Result Request Reason
asked_by (Some parts) fault = request_in parts
asked_by None (Some reason) = Err reason
asked_by None None = Err no_task

-- what arguments ask for, or why they ask for nothing: the first fault of arguments that aren't
-- allowed, of which there is one, or what is wrong with their parts
unfoldable pub asked_of : List (List ℕ) → Result Request Reason
asked_of arguments = asked_by (filled_parts_of command_options arguments)
    (fault_of (marks_of command_options arguments))
