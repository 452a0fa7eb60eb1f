-- The heading of a report: its verdict, and what the job asked for.
use Rattle.std.specs.Prelude.{ℕ, List, [], ◌++◌, codes, Option, Some, None}
use Rattle.std.specs.Prelude.{Bool, true, false, if◌then◌else◌}
use Rattle.dsv_names.specs.declared.design.Design.{Design}
use Rattle.dsv_names.specs.declared.property.Property.{Property}
use Rattle.dsv_names.specs.declared.property.Property.TheVariants.{OfRuns, OfRoots, Timing}
use Rattle.dsv_names.specs.declared.property.RunProperty.TheVariants.{Overflow}
use Rattle.dsv_names.specs.declared.property.RootProperty.TheVariants.{Stability}
use Rattle.dsv_command.specs.Table.{JobFiles, controller, cascade, states, plant_loop}
use Rattle.dsv_command.specs.Table.{cascade_loop, kind_of, Task, decides, checks_time, writes}
use Rattle.dsv_command.specs.Table.{searches, seeks_set, measures_gain, simulates, checks_form}
use Rattle.dsv_command.specs.Table.{runs_file, tells_words}
use Rattle.dsv_command.specs.Table.{emits_code, emits_test, emits_file_test}
use Rattle.dsv_command.specs.Table.{seeks_form, checks_ellipsoid, seeks_ellipsoid, Job, Request}
use Rattle.dsv_command.specs.Table.{does}
use Rattle.dsv_command.specs.Views.{job_view}
use Rattle.dsv_command.specs.declared.kind.Kind.{Kind}
use Rattle.dsv_command.specs.declared.kind.Kind.TheVariants as of_kind
use Rattle.dsv_report.specs.CascadeTexts.{sections_text}
use Rattle.dsv_report.specs.Lines.{property_text, realisation_text, numbered, number_line}
use Rattle.dsv_report.specs.declared.headings.Heading.{Heading}
use Rattle.dsv_report.specs.declared.verdict.Verdict.{Verdict}
use Rattle.dsv_report.specs.declared.verdict.Verdict.TheVariants.{Successful, Failed, Inconclusive}
use Rattle.dsv_report.specs.declared.verdict.Verdict.TheVariants.{Simulation, Plain}

-- What a report is headed by: a job, and how many states its file says that a state-space
-- controller has.
pub record HeadingView : Type 0 where
  pub job : Job
  pub states : ℕ

abbrev pub heading_view : Heading → HeadingView
heading_view h = record { job = job_view h.job.now; states = h.states }

-- the heading of a request, if it is a job
abbrev pub asked_by : ℕ → Option Request → Option HeadingView
asked_by many (Some (does job)) = Some (record { job = job; states = many })
asked_by many other = None

-- ---- what was asked
-- the property that a task is about; a simulation is about none, and so is one that tells words
abbrev pub property_of : Task → Option Property
property_of (decides property schur_cohn) = Some (OfRoots property)
property_of checks_time = Some Timing
property_of (writes property samples) = Some (OfRuns property)
property_of (searches property samples conflicts) = Some (OfRuns property)
property_of (seeks_set conflicts) = Some (OfRuns Overflow)
property_of measures_gain = Some (OfRuns Overflow)
property_of (simulates inputs outputs) = None
property_of (runs_file name outputs) = None
property_of tells_words = None
property_of (emits_code prefix) = None
property_of (emits_test prefix inputs) = None
property_of (emits_file_test prefix name) = None
property_of (checks_form name) = Some (OfRoots Stability)
property_of seeks_form = Some (OfRoots Stability)
property_of (checks_ellipsoid name) = Some (OfRuns Overflow)
property_of seeks_ellipsoid = Some (OfRuns Overflow)

abbrev pub asked_text : Option Property → List ℕ
asked_text (Some property) = property_text property
asked_text None = []

-- what it is asked of: controllers by their realisation, and cascades with the number of their
-- sections too; state-space controllers, which have no realisation, by the number of their states
abbrev pub subject_text : JobFiles → Design → ℕ → List ℕ
subject_text (controller file) design many = realisation_text design.realisation
subject_text (cascade file later) design many =
    realisation_text design.realisation ++ sections_text later
subject_text (states file) design many = numbered (codes "state-space ") many
subject_text (plant_loop file plant) design many = realisation_text design.realisation
subject_text (cascade_loop file later plant) design many =
    realisation_text design.realisation ++ sections_text later

-- how many samples are asked for, or that there is no end to them and how it is decided, or that it
-- is asked of the loop with a plant, up to the end of the line
abbrev pub extent_text : Kind → Task → List ℕ
extent_text of_kind.Loop task = codes " plant\n"
extent_text of_kind.CascadeLoop task = codes " plant\n"
extent_text kind (writes property samples) = number_line (codes " samples ") samples
extent_text kind (searches property samples conflicts) = number_line (codes " samples ") samples
extent_text kind (seeks_set conflicts) = codes " unbounded\n"
extent_text kind (checks_ellipsoid name) = codes " unbounded\n"
extent_text kind seeks_ellipsoid = codes " unbounded\n"
extent_text kind measures_gain = codes " gain\n"
extent_text kind other = codes "\n"

-- what a job asked for
abbrev pub job_text : HeadingView → List ℕ
job_text h = asked_text (property_of h.job.task)
    ++ (subject_text h.job.files h.job.design h.states
    ++ extent_text (kind_of h.job.files) h.job.task)

-- ---- verdicts
unfoldable pub successful : List ℕ
successful = codes "VERIFICATION SUCCESSFUL\n"

unfoldable pub failed : List ℕ
failed = codes "VERIFICATION FAILED\n"

unfoldable pub inconclusive : List ℕ
inconclusive = codes "VERIFICATION INCONCLUSIVE\n"

unfoldable pub simulation : List ℕ
simulation = codes "SIMULATION\n"

-- the line of a verdict; a plain text has none
abbrev pub verdict_text : Verdict → List ℕ
verdict_text Successful = successful
verdict_text Failed = failed
verdict_text Inconclusive = inconclusive
verdict_text Simulation = simulation
verdict_text Plain = []

abbrev pub verdict_status : Verdict → ℕ
verdict_status Successful = 0
verdict_status Failed = 10
verdict_status Inconclusive = 20
verdict_status Simulation = 0
verdict_status Plain = 0

abbrev pub has_heading : Verdict → Bool
has_heading Plain = false
has_heading _ = true

-- the verdict and what the job asked for; a plain text has none, and without a job there is none
abbrev pub heading : Verdict → Option HeadingView → List ℕ
heading verdict None = []
heading verdict (Some job) =
    if has_heading verdict then verdict_text verdict ++ job_text job else []
