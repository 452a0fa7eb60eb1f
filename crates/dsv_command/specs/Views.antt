-- Scaffolding: what contracts see of the types of the code.
use Rattle.std.specs.Prelude.{ℕ, Bool, List, Option, Some, None, map, option_map}
use Rattle.std.specs.Borrow.{Bor}
use Rattle.dsv_command.specs.declared.options.CommandOption.{CommandOption}
use Rattle.dsv_command.specs.declared.parts.Key.{Key}
use Rattle.dsv_command.specs.declared.parts.Key.TheVariants as of_key
use Rattle.dsv_command.specs.declared.parts.Part.{Part}
use Rattle.dsv_command.specs.declared.parts.Part.TheVariants as of_part
use Rattle.dsv_command.specs.declared.marks.Mark.{Mark}
use Rattle.dsv_command.specs.declared.marks.Mark.TheVariants as of_mark
use Rattle.dsv_command.specs.declared.marks.Shape.{Shape}
use Rattle.dsv_command.specs.declared.marks.Shape.TheVariants as of_shape
use Rattle.dsv_command.specs.declared.marks.Step.{Step}
use Rattle.dsv_command.specs.declared.marks.Walk.{Walk}
use Rattle.dsv_command.specs.declared.reasons.Reason.{Reason}
use Rattle.dsv_command.specs.declared.reasons.Reason.TheVariants as of_reason
use Rattle.dsv_command.specs.declared.request.Line.{Line}
use Rattle.dsv_command.specs.declared.request.Line.TheVariants as of_line
use Rattle.dsv_command.specs.declared.table.Job.{Job}
use Rattle.dsv_command.specs.declared.table.JobFiles.{JobFiles}
use Rattle.dsv_command.specs.declared.table.JobFiles.TheVariants as of_files
use Rattle.dsv_command.specs.declared.table.Request.{Request}
use Rattle.dsv_command.specs.declared.table.Request.TheVariants as of_request
use Rattle.dsv_command.specs.declared.table.Task.{Task}
use Rattle.dsv_command.specs.declared.table.Task.TheVariants as of_task
use Rattle.dsv_command.specs.declared.values.Numbers.{Numbers}
use Rattle.dsv_command.specs.declared.values.Values.{Values}
use Rattle.dsv_command.specs.Parts as parts
use Rattle.dsv_command.specs.Reasons as reasons
use Rattle.dsv_command.specs.Shapes as shapes
use Rattle.dsv_command.specs.Table as table
use Rattle.dsv_command.specs.Values as values

-- an option as the table has it
abbrev pub option_view : CommandOption → List ℕ × Bool
option_view option = (option.name.now, option.takes_value)

abbrev pub options_view : List CommandOption → List (List ℕ × Bool)
options_view = map option_view

abbrev pub text_view : Option (Bor (List ℕ)) → Option (List ℕ)
text_view = option_map (λ text. text.now)

abbrev pub names_view : List (Bor (List ℕ)) → List (List ℕ)
names_view = map (λ name. name.now)

-- ---- parts, reasons and marks

abbrev pub key_view : Key → parts.Key
key_view of_key.File = parts.for_file
key_view (of_key.Option name) = parts.for_option name.now

abbrev pub part_view : Part → parts.PartView
part_view (of_part.File text) = parts.file text.now
part_view (of_part.Flag name) = parts.flag name.now
part_view (of_part.Choice name value) = parts.choice name.now value.now

abbrev pub reason_view : Reason → reasons.Reason
reason_view (of_reason.Unknown argument) = reasons.unknown argument.now
reason_view (of_reason.Twice key) = reasons.twice (key_view key)
reason_view (of_reason.LacksValue name) = reasons.lacks_value name.now
reason_view (of_reason.TakesNone name) = reasons.takes_none name.now
reason_view (of_reason.IsBlank key) = reasons.is_blank (key_view key)
reason_view (of_reason.BadValue name value) = reasons.bad_value name.now value.now
reason_view (of_reason.Apart part other) = reasons.apart (part_view part) (part_view other)
reason_view (of_reason.Wants name other) = reasons.wants name.now other.now
reason_view of_reason.WantsForm = reasons.wants_form
reason_view of_reason.NoTask = reasons.no_task
reason_view of_reason.NoFile = reasons.no_file

abbrev pub shape_view : Shape → shapes.ShapeView
shape_view of_shape.Plain = shapes.plain
shape_view of_shape.Stop = shapes.stop
shape_view (of_shape.Long name value) = shapes.long name.now (text_view value)
shape_view of_shape.Dashed = shapes.dashed

abbrev pub mark_view : Mark → reasons.Mark
mark_view (of_mark.Given part) = reasons.given (part_view part)
mark_view (of_mark.Strange argument) = reasons.strange argument.now
mark_view (of_mark.Bare name) = reasons.bare name.now
mark_view (of_mark.Laden name) = reasons.laden name.now

abbrev pub walk_view : Walk → reasons.Walk
walk_view walk = record { waits = text_view walk.waits; ended = walk.ended }

abbrev pub step_view : Step → reasons.Step
step_view step = record {
  lacking = text_view step.lacking;
  mark = option_map mark_view step.mark;
  walk = walk_view step.walk;
}

-- ---- what is asked

abbrev pub files_view : JobFiles → table.JobFiles
files_view (of_files.Controller file) = table.controller file.now
files_view (of_files.Cascade file later) = table.cascade file.now (names_view later.items)
files_view (of_files.States file) = table.states file.now
files_view (of_files.Loop file plant) = table.plant_loop file.now plant.now
files_view (of_files.CascadeLoop file later plant) =
    table.cascade_loop file.now (names_view later.items) plant.now

abbrev pub task_view : Task → table.Task
task_view (of_task.Decide question) = table.decides question.property question.schur_cohn
task_view of_task.CheckTime = table.checks_time
task_view (of_task.WriteFormula question) = table.writes question.property question.samples
task_view (of_task.Search question budget) =
    table.searches question.property question.samples budget.conflicts
task_view (of_task.SeekSet budget) = table.seeks_set budget.conflicts
task_view of_task.MeasureGain = table.measures_gain
task_view (of_task.Simulate inputs outputs) = table.simulates inputs.items outputs
task_view (of_task.RunFile name outputs) = table.runs_file name.now outputs
task_view of_task.TellWords = table.tells_words
task_view (of_task.EmitCode prefix) = table.emits_code prefix.now
task_view (of_task.EmitTest prefix inputs) = table.emits_test prefix.now inputs.items
task_view (of_task.EmitFileTest prefix name) = table.emits_file_test prefix.now name.now
task_view (of_task.CheckForm name) = table.checks_form name.now
task_view of_task.SeekForm = table.seeks_form
task_view (of_task.CheckEllipsoid name) = table.checks_ellipsoid name.now
task_view of_task.SeekEllipsoid = table.seeks_ellipsoid

abbrev pub job_view : Job → table.Job
job_view job = record {
  files = files_view job.files;
  task = task_view job.task;
  design = job.design;
  certified = job.certified;
  worded = job.worded;
}

abbrev pub request_view : Request → table.Request
request_view (of_request.Do job) = table.does (job_view job)
request_view (of_request.Check files certificate worded) =
    table.checks (files_view files) certificate.now worded
request_view (of_request.Generate g) = table.generates g.seed g.count

-- what a line asks for, and the reason that it asks for
abbrev pub asked_in : Line → Option table.Request
asked_in (of_line.Asks request) = Some (request_view request)
asked_in other = None

abbrev pub explained_in : Line → Option reasons.Reason
explained_in (of_line.Explains reason) = Some (reason_view reason)
explained_in other = None

abbrev pub numbers_view : Numbers → values.Numbers
numbers_view numbers = record {
  samples = numbers.samples.count;
  conflicts = numbers.budget.conflicts;
}

abbrev pub values_view : Values → values.Values
values_view given = record {
  property = given.property;
  inputs = option_map (λ inputs. inputs.items) given.inputs;
  numbers = numbers_view given.numbers;
  later = option_map (λ later. names_view later.items) given.later;
  design = given.design;
  seed = given.seed;
  controllers = option_map (λ controllers. controllers.count) given.controllers;
  code_name = text_view given.code_name;
}
