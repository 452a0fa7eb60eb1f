-- Why a command line is none.
use Rattle.std.specs.Prelude.{ℕ, List, [], ◌∷◌, ◌++◌, Bool, true, false}
use Rattle.std.specs.Prelude.{Option, Some, None, if◌then◌else◌, option_to_list}
use Rattle.std.specs.List.{list_any}
use Rattle.std.specs.Map.{lookup}
use Rattle.std.specs.Str.{bytes_eq}
use Rattle.dsv_command.specs.Parts.{PartView, file, flag, choice, Key, for_option}
use Rattle.dsv_command.specs.Parts.{key_of, is_same_key, is_empty_part}
use Rattle.dsv_command.specs.Shapes.{ShapeView, plain, stop, long, dashed, shape_of}

pub data Reason : Type 0 where
  -- the argument begins with `-`, and the command has no such option
  unknown : List ℕ → Reason
  -- FILE or an option is given a second time
  twice : Key → Reason
  -- the option has no value, or takes none and has one
  lacks_value : List ℕ → Reason
  takes_none : List ℕ → Reason
  -- FILE or the option's value is empty
  is_blank : Key → Reason
  -- the value isn't one of the option's
  bad_value : List ℕ → List ℕ → Reason
  -- two parts don't go together
  apart : PartView → PartView → Reason
  -- the first option is given only together with the second
  wants : List ℕ → List ℕ → Reason
  -- stability of a state-space controller, and nothing says how it is decided
  wants_form : Reason
  -- nothing is asked; it isn't said of what
  no_task : Reason
  no_file : Reason

-- ---- what the arguments are, one by one, whether or not they are allowed

pub data Mark : Type 0 where
  given : PartView → Mark
  -- no such option
  strange : List ℕ → Mark
  -- an option without its value, and one with a value that takes none
  bare : List ℕ → Mark
  laden : List ℕ → Mark

-- where the walk over the arguments stands between two of them: the option that waits for its
-- value, and whether `--` was met
pub record Walk : Type 0 where
  pub waits : Option (List ℕ)
  pub ended : Bool

abbrev pub on_the_way : Walk
on_the_way = record { waits = None; ended = false }

-- what an argument brings: that an option which waited has no value, a mark of its own; and where
-- the walk stands after it
pub record Step : Type 0 where
  pub lacking : Option (List ℕ)
  pub mark : Option Mark
  pub walk : Walk

abbrev pub mark_step : Mark → Step
mark_step mark = record { lacking = None; mark = Some mark; walk = on_the_way }

abbrev pub markless_step : Walk → Step
markless_step walk = record { lacking = None; mark = None; walk = walk }

-- an option of which is known whether it takes a value, and the value after =
abbrev pub mark_option : Option Bool → List ℕ → Option (List ℕ) → List ℕ → Step
mark_option (Some true) name (Some value) argument = mark_step (given (choice name value))
mark_option (Some true) name None argument =
    markless_step (record { waits = Some name; ended = false })
mark_option (Some false) name None argument = mark_step (given (flag name))
mark_option (Some false) name (Some value) argument = mark_step (laden name)
mark_option None name value argument = mark_step (strange argument)

-- an argument of this shape, if no option waits
abbrev pub mark_alone : List (List ℕ × Bool) → ShapeView → List ℕ → Step
mark_alone options plain argument = mark_step (given (file argument))
mark_alone options stop argument = markless_step (record { waits = None; ended = true })
mark_alone options (long name value) argument =
    mark_option (lookup (bytes_eq name) options) name value argument
mark_alone options dashed argument = mark_step (strange argument)

-- a plain argument is the value that is waited for; one that begins with a single `-`, as a
-- negative number does, is none and is taken for no option either
abbrev pub mark_shape : List (List ℕ × Bool) → Option (List ℕ) → ShapeView → List ℕ → Step
mark_shape options (Some name) plain argument = mark_step (given (choice name argument))
mark_shape options (Some name) dashed argument =
    record { lacking = Some name; mark = None; walk = on_the_way }
mark_shape options (Some name) shape argument =
    record (mark_alone options shape argument) { lacking = Some name }
mark_shape options None shape argument = mark_alone options shape argument

-- the next argument; after `--` it is FILE
abbrev pub take_step : List (List ℕ × Bool) → Walk → List ℕ → Step
take_step options walk argument = if walk.ended
    then record { lacking = None; mark = Some (given (file argument)); walk = walk }
    else mark_shape options walk.waits (shape_of argument) argument

abbrev pub bare_marks : Option (List ℕ) → List Mark
bare_marks None = []
bare_marks (Some name) = bare name ∷ []

abbrev pub step_marks : Step → List Mark
step_marks step = bare_marks step.lacking ++ option_to_list step.mark

-- an option that waits at the end has no value
abbrev pub marks_from : List (List ℕ × Bool) → Walk → List (List ℕ) → List Mark
marks_from options walk [] = bare_marks walk.waits
marks_from options walk (argument ∷ arguments) = step_marks (take_step options walk argument)
    ++ marks_from options (take_step options walk argument).walk arguments

unfoldable pub marks_of : List (List ℕ × Bool) → List (List ℕ) → List Mark
marks_of options arguments = marks_from options on_the_way arguments

-- ---- the first fault of marks: an option that there isn't, then one that is given a second time,
-- then a value that lacks, is one too many or is empty

abbrev pub strange_in : Mark → Option Reason
strange_in (strange argument) = Some (unknown argument)
strange_in _ = None

-- what a mark is given for
abbrev pub key_of_mark : Mark → Option Key
key_of_mark (given part) = Some (key_of part)
key_of_mark (strange argument) = None
key_of_mark (bare name) = Some (for_option name)
key_of_mark (laden name) = Some (for_option name)

abbrev pub is_key : Key → Option Key → Bool
is_key key None = false
is_key key (Some other) = is_same_key other key

-- a mark whose key stands before it
abbrev pub again : Option Key → List Mark → Option Reason
again None before = None
again (Some key) before = if list_any (λ m. is_key key (key_of_mark m)) before
    then Some (twice key) else None

abbrev pub blank_in : PartView → Option Reason
blank_in part = if is_empty_part part then Some (is_blank (key_of part)) else None

abbrev pub value_fault : Mark → Option Reason
value_fault (given part) = blank_in part
value_fault (strange argument) = None
value_fault (bare name) = Some (lacks_value name)
value_fault (laden name) = Some (takes_none name)

-- the first reason, or else another
abbrev pub or_else : Option Reason → Option Reason → Option Reason
or_else None other = other
or_else (Some reason) other = Some reason

abbrev pub first_in : (Mark → Option Reason) → List Mark → Option Reason
first_in fault [] = None
first_in fault (m ∷ ms) = or_else (fault m) (first_in fault ms)

-- the first mark whose key was met before, after these marks
abbrev pub again_in : List Mark → List Mark → Option Reason
again_in before [] = None
again_in before (m ∷ ms) = or_else (again (key_of_mark m) before) (again_in (before ++ m ∷ []) ms)

abbrev pub fault_of : List Mark → Option Reason
fault_of marks = or_else (first_in strange_in marks)
    (or_else (again_in [] marks) (first_in value_fault marks))
