-- Scaffolding: the command as clap sees it, for a table of options.
use Rattle.std.specs.Prelude.{ℕ, List, [], ◌∷◌, Bool, true, Some, None, map, codes}
use Rattle.std.specs.Prelude.{Option, if◌then◌else◌, option_and_then}
use Rattle.clap.specs.Words.{App, Kinds, Row, Rule, Shape, fault_of, matches_of, new_rule}
use Rattle.clap.specs.Simple.{new_shape}
use Rattle.clap.specs.declared.builder.ArgAction.TheVariants.{SetTrue}
use Rattle.clap.specs.declared.builder.value_parser.ValueParser.TheVariants.{NonEmptyString}
use Rattle.dsv_command.specs.Parts.{PartView, has_empty}
use Rattle.dsv_command.specs.Reading.{parts_of}

-- the id of FILE
abbrev pub file_id : List ℕ
file_id = codes "FILE"

-- FILE, which may not be empty
abbrev pub file_rule : Rule
file_rule = record (new_rule file_id) { parser = Some NonEmptyString }

-- an option, by its name and whether it takes a value; that may not be empty
abbrev pub option_rule : List ℕ × Bool → Rule
option_rule option = record (new_rule option.0) {
  long = Some option.0;
  action = if option.1 then None else Some SetTrue;
  parser = if option.1 then Some NonEmptyString else None;
}

-- no program's name stands before the arguments, and none of them asks for help or a version
abbrev pub command_shape : List (List ℕ × Bool) → Shape
command_shape options = record (new_shape (codes "dsv")) {
  rules = file_rule ∷ map option_rule options;
  no_binary_name = true;
  disable_help_flag = true;
  disable_version_flag = true;
}

abbrev pub command_app : List (List ℕ × Bool) → App
command_app options = record { top = command_shape options; subs = [] }

-- why clap refuses arguments, if it does
unfoldable pub command_faults : List (List ℕ × Bool) → List (List ℕ) → Kinds
command_faults options arguments = fault_of (command_app options) arguments

-- what clap finds in them
unfoldable pub command_rows : List (List ℕ × Bool) → List (List ℕ) → List Row
command_rows options arguments = matches_of (command_app options) arguments

-- parts of which no text is empty
abbrev pub filled : List PartView → Option (List PartView)
filled parts = if has_empty parts then None else Some parts

-- the parts that arguments give, where no text is empty
abbrev pub filled_parts_of : List (List ℕ × Bool) → List (List ℕ) → Option (List PartView)
filled_parts_of options arguments = option_and_then filled (parts_of options arguments)
