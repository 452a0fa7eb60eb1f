-- The line that says why a command line is none.
use Rattle.std.specs.Prelude.{ℕ, List, [], ◌∷◌, ◌++◌, codes, unwrap_or}
use Rattle.std.specs.Map.{lookup}
use Rattle.std.specs.Str.{bytes_eq}
use Rattle.dsv_command.specs.Parts.{PartView, file, flag, choice, Key, for_file, for_option}
use Rattle.dsv_command.specs.Reasons.{Reason, unknown, twice, lacks_value, takes_none, is_blank}
use Rattle.dsv_command.specs.Reasons.{bad_value, apart, wants, wants_form, no_task, no_file}
use Rattle.dsv_word_lines.specs.ControlCharacters.{shown}

-- what the values of an option may be; of an option that isn't here, the name of a file
abbrev pub allowed_values : List (List ℕ × List ℕ)
allowed_values =
    (codes "property", codes "OVERFLOW, LIMIT_CYCLE, STABILITY, MINIMUM_PHASE or TIMING") ∷
    (codes "x-size", codes "from 1 to 64") ∷
    (codes "conflicts", codes "from 1 to 200000") ∷ (
      codes "simulate",
      codes "1 to 64 whole numbers joined by commas; after = if the first is negative",
    ) ∷
    (codes "sections", codes "the names of 1 to 7 files, joined by commas") ∷
    (codes "realization", codes "DFI, DFII, TDFII, DDFI, DDFII or TDDFII") ∷
    (codes "rounding", codes "FLOOR, CEIL or NEAREST") ∷
    (codes "overflow-mode", codes "WRAPAROUND or SATURATE") ∷
    (codes "generate", codes "from 0 to 4294967295") ∷
    (codes "count", codes "from 1 to 1000") ∷ (
      codes "c-name",
      codes "a letter and up to 30 letters, digits or _; no word of C or <stdint.h>",
    ) ∷ []

abbrev pub allowed_in : List (List ℕ × List ℕ) → List ℕ → List ℕ
allowed_in table name = unwrap_or (lookup (bytes_eq name) table) (codes "the name of a file")

abbrev pub values_of : List ℕ → List ℕ
values_of name = allowed_in allowed_values name

abbrev pub option_text : List ℕ → List ℕ
option_text name = codes "--" ++ name

abbrev pub key_text : Key → List ℕ
key_text for_file = codes "FILE"
key_text (for_option name) = option_text name

-- an option, its value and a text after them
abbrev pub choice_text : List ℕ → List ℕ → List ℕ → List ℕ
choice_text name value rest = (option_text name ++ codes " ") ++ (value ++ rest)

-- a part, and a text after it: a choice is named with its value
abbrev pub part_text : PartView → List ℕ → List ℕ
part_text (file text) rest = codes "FILE" ++ rest
part_text (flag name) rest = option_text name ++ rest
part_text (choice name value) rest = choice_text name value rest

abbrev pub unknown_text : List ℕ → List ℕ
unknown_text argument = shown argument ++ codes ": there is no such option\n"

-- a text, and after it what values may be
abbrev pub allowed_text : List ℕ → List ℕ → List ℕ
allowed_text before values = before ++ (values ++ codes "\n")

abbrev pub lacking_text : List ℕ → List ℕ → List ℕ
lacking_text name values = option_text name ++ allowed_text (codes " wants a value: ") values

abbrev pub value_text : List ℕ → List ℕ → List ℕ
value_text value values = shown value ++ allowed_text (codes ": ") values

abbrev pub bad_value_text : List ℕ → List ℕ → List ℕ → List ℕ
bad_value_text name value values = (option_text name ++ codes " ") ++ value_text value values

abbrev pub apart_text : PartView → PartView → List ℕ
apart_text part other =
    part_text part (codes " and ") ++ part_text other (codes " don't go together\n")

abbrev pub wanting_text : List ℕ → List ℕ → List ℕ
wanting_text name other =
    (option_text name ++ codes " wants ") ++ (option_text other ++ codes "\n")

abbrev pub reason_text : Reason → List ℕ
reason_text (unknown argument) = unknown_text argument
reason_text (twice key) = key_text key ++ codes " is given twice\n"
reason_text (lacks_value name) = lacking_text name (values_of name)
reason_text (takes_none name) = option_text name ++ codes " takes no value\n"
reason_text (is_blank key) = key_text key ++ codes " is empty\n"
reason_text (bad_value name value) = bad_value_text name value (values_of name)
reason_text (apart part other) = apart_text part other
reason_text (wants name other) = wanting_text name other
reason_text wants_form =
    codes "STABILITY of a state-space controller wants --schur-cohn, --lyapunov or --form\n"
reason_text no_task = codes "--property or --simulate is missing\n"
reason_text no_file = codes "FILE is missing\n"
