-- The rules of the command, on whole lists of arguments, apart from how they are read.
use Rattle.std.specs.Prelude.{◌≡◌, ◌⊎◌, ℕ, Bool, true, false, List, [], ◌∷◌, ◌++◌}
use Rattle.std.specs.Prelude.{length, Option, Some, None, map, codes, ◌≤◌, ◌<◌, ◌^◌, ℤ, pos}
use Rattle.std.specs.Prelude.{unwrap_or}
use Rattle.std.specs.List.{All, list_any}
use Rattle.std.specs.Map.{lookup}
use Rattle.std.specs.Str.{bytes_eq}
use Rattle.dsv_text.specs.Bytes.{has_byte}
use Rattle.dsv_text.specs.Digits.{short_number}
use Rattle.dsv_fraction.specs.Arithmetic.{with_sign}
use Rattle.dsv_names.specs.declared.design.Design.{Design}
use Rattle.dsv_names.specs.declared.realisation.Realisation.TheVariants.{Dfi}
use Rattle.dsv_names.specs.declared.rounding.Rounding.TheVariants.{Floor}
use Rattle.dsv_names.specs.declared.overflow_mode.OverflowMode.TheVariants.{Wrap}
use Rattle.dsv_names.specs.declared.property.RunProperty.{RunProperty}
use Rattle.dsv_names.specs.declared.property.RunProperty.TheVariants.{Overflow}
use Rattle.dsv_names.specs.declared.property.RootProperty.{RootProperty}
use Rattle.dsv_names.specs.declared.property.RootProperty.TheVariants.{Stability}
use Rattle.dsv_names.specs.declared.property.Property.{Property}
use Rattle.dsv_names.specs.declared.property.Property.TheVariants.{OfRuns, OfRoots, Timing}
use Rattle.dsv_names.specs.OverflowModes.{overflow_mode_name}
use Rattle.dsv_names.specs.Properties.{property_name}
use Rattle.dsv_names.specs.Realisations.{realisation_name}
use Rattle.dsv_names.specs.Roundings.{rounding_name}
use Rattle.dsv_command.specs.Inputs.{most_inputs, most_digits, is_comma}
use Rattle.dsv_command.specs.SectionNames.{most_later}
use Rattle.dsv_command.specs.Limits.{most_number_digits, most_samples, default_samples}
use Rattle.dsv_command.specs.Limits.{most_conflicts, default_conflicts, most_controllers}
use Rattle.dsv_command.specs.Limits.{default_controllers}
use Rattle.dsv_command.specs.Options.{command_options}
use Rattle.dsv_command.specs.Parts.{PartView, file, flag, choice, key_of, has_key, is_given}
use Rattle.dsv_command.specs.Parts.{file_of, value_of, has_empty}
use Rattle.dsv_command.specs.Shapes.{dash, is_equals}
use Rattle.dsv_command.specs.Table.{JobFiles, controller, cascade, states, plant_loop}
use Rattle.dsv_command.specs.Table.{cascade_loop, Task, decides, checks_time, writes, searches}
use Rattle.dsv_command.specs.Table.{seeks_set, measures_gain, simulates, checks_form, seeks_form}
use Rattle.dsv_command.specs.CodeNames.{default_code_name, is_code_name}
use Rattle.dsv_command.specs.Table.{runs_file, tells_words, may_word}
use Rattle.dsv_command.specs.Table.{emits_code, emits_test, emits_file_test}
use Rattle.dsv_command.specs.Table.{checks_ellipsoid, seeks_ellipsoid, Job, Request, does, checks}
use Rattle.dsv_command.specs.Table.{generates, kind_of, has_cell, may_certify, is_checked}
use Rattle.dsv_command.specs.Table.{task_options, all_task_options, file_options}
use Rattle.dsv_command.specs.Table.{all_file_options, design_options, all_design_options}
use Rattle.dsv_command.specs.Values.{Values}

-- ---- arguments and the parts that they give

-- `-`, or an argument that doesn't begin with `-`
abbrev pub IsPlain : List ℕ → Type 0
IsPlain argument = (has_byte dash argument ≡ false) ⊎ (argument ≡ codes "-")

-- `--`
abbrev pub IsStop : List ℕ → Type 0
IsStop argument = argument ≡ codes "--"

-- `--NAME`: no `=` is in the name, which isn't empty
pub record IsOption (argument name : List ℕ) : Type 0 where
  pub same : argument ≡ codes "--" ++ name
  pub no_equals : list_any is_equals name ≡ false
  pub some_name : name ≡ [] → ⊥

-- `--NAME=VALUE`: the first `=` ends the name
pub record IsOptionWithValue (argument name value : List ℕ) : Type 0 where
  pub same : argument ≡ codes "--" ++ (name ++ (codes "=" ++ value))
  pub no_equals : list_any is_equals name ≡ false

-- the table has an option of this name, which takes a value or none
abbrev pub HasOption : List (List ℕ × Bool) → List ℕ → Bool → Type 0
HasOption options name takes_value = lookup (bytes_eq name) options ≡ Some takes_value

-- Arguments give these parts in their order: options of the table with a value after `=` or as the
-- next argument, options without a value, and other arguments as FILE; after `--` each argument is
-- FILE.
pub data AreParts : List (List ℕ × Bool) → List (List ℕ) → List PartView → Type 0 where
  none : (options : List (List ℕ × Bool)) → AreParts options [] []
  joined : (options : List (List ℕ × Bool)) (argument name value : List ℕ) (rest : List (List ℕ))
      (parts : List PartView) →
      IsOptionWithValue argument name value → HasOption options name true
      → AreParts options rest parts → AreParts options (argument ∷ rest) (choice name value ∷ parts)
  apart : (options : List (List ℕ × Bool)) (argument name value : List ℕ) (rest : List (List ℕ))
      (parts : List PartView) →
      IsOption argument name → HasOption options name true → IsPlain value
      → AreParts options rest parts
      → AreParts options (argument ∷ value ∷ rest) (choice name value ∷ parts)
  alone : (options : List (List ℕ × Bool)) (argument name : List ℕ) (rest : List (List ℕ))
      (parts : List PartView) →
      IsOption argument name → HasOption options name false → AreParts options rest parts
      → AreParts options (argument ∷ rest) (flag name ∷ parts)
  plain : (options : List (List ℕ × Bool)) (argument : List ℕ) (rest : List (List ℕ))
      (parts : List PartView) →
      IsPlain argument → AreParts options rest parts
      → AreParts options (argument ∷ rest) (file argument ∷ parts)
  stop : (options : List (List ℕ × Bool)) (argument : List ℕ) (rest : List (List ℕ))
      → IsStop argument → AreParts options (argument ∷ rest) (map file rest)

-- ---- what parts may stand together

-- each of the parts is new, after others and after those before it: FILE and each option are given
-- at most once
abbrev pub AreNew : List PartView → List PartView → Type 0
AreNew before [] = Unit {0}
AreNew before (p ∷ ps) = (has_key (key_of p) before ≡ false) × AreNew (before ++ p ∷ []) ps

-- the parts that arguments give, each at most once
pub record Give (options : List (List ℕ × Bool)) (arguments : List (List ℕ))
    (parts : List PartView) : Type 0 where
  pub given : AreParts options arguments parts
  pub once : AreNew [] parts

-- ---- values of options

-- a number of 1 to 15 digits, which may stand after `-`
pub data IsInput : List ℕ → ℤ → Type 0 where
  positive : (text : List ℕ) (n : ℕ) → short_number most_digits text ≡ Some n → IsInput text (pos n)
  negative : (text digits : List ℕ) (n : ℕ) → text ≡ codes "-" ++ digits
      → short_number most_digits digits ≡ Some n → IsInput text (with_sign true n)

-- numbers joined by commas
pub data AreNumbers : List ℕ → List ℤ → Type 0 where
  last : (text : List ℕ) (n : ℤ) → IsInput text n → AreNumbers text (n ∷ [])
  more : (text first rest : List ℕ) (n : ℤ) (ns : List ℤ) → text ≡ first ++ (codes "," ++ rest)
      → IsInput first n → AreNumbers rest ns → AreNumbers text (n ∷ ns)

-- 1 to 64 numbers joined by commas
pub record AreInputs (text : List ℕ) (inputs : List ℤ) : Type 0 where
  pub numbers : AreNumbers text inputs
  pub few : length inputs ≤ most_inputs

-- a number of 1 to 10 digits from 1 to a limit
pub record IsNumberUpTo (limit : ℕ) (text : List ℕ) (n : ℕ) : Type 0 where
  pub number : short_number most_number_digits text ≡ Some n
  pub some : 1 ≤ n
  pub few : n ≤ limit

-- the number that is given, or the default where none is
abbrev pub IsNumber : ℕ → ℕ → Option (List ℕ) → ℕ → Type 0
IsNumber limit default None n = n ≡ default
IsNumber limit default (Some text) n = IsNumberUpTo limit text n

-- the value is the chosen one's name, or none is given and the default is chosen
abbrev pub IsChosen : {A : Type 0} → (A → List ℕ) → A → Option (List ℕ) → A → Type 0
IsChosen name default None chosen = chosen ≡ default
IsChosen name default (Some value) chosen = value ≡ name chosen

-- DFI, FLOOR and WRAPAROUND are the defaults
pub record IsDesign (parts : List PartView) (design : Design) : Type 0 where
  pub realisation : IsChosen realisation_name Dfi (value_of (codes "realization") parts)
      design.realisation
  pub rounding : IsChosen rounding_name Floor (value_of (codes "rounding") parts) design.rounding
  pub overflow : IsChosen overflow_mode_name Wrap (value_of (codes "overflow-mode") parts)
      design.overflow

-- a seed of 1 to 10 digits, below 2^32
pub record IsSeed (text : List ℕ) (seed : ℕ) : Type 0 where
  pub number : short_number most_number_digits text ≡ Some seed
  pub small : seed < 2 ^ 32

-- the text of names, with a comma between each and the next
abbrev pub with_commas : List (List ℕ) → List ℕ
with_commas [] = []
with_commas (name ∷ []) = name
with_commas (name ∷ next ∷ names) = name ++ (codes "," ++ with_commas (next ∷ names))

-- a name that isn't empty, without a comma
pub record IsName (name : List ℕ) : Type 0 where
  pub filled : name ≡ [] → ⊥
  pub whole : list_any is_comma name ≡ false

-- 1 to 7 names joined by commas
pub record AreNames (text : List ℕ) (names : List (List ℕ)) : Type 0 where
  pub joined : text ≡ with_commas names
  pub each : All IsName names
  pub some : 1 ≤ length names
  pub few : length names ≤ most_later

-- a value that is given is read so, and none is if none is given
abbrev pub IsGivenAs : {A : Type 0} → (List ℕ → A → Type 0) → Option (List ℕ) → Option A → Type 0
IsGivenAs Is None None = Unit {0}
IsGivenAs Is (Some text) (Some value) = Is text value
IsGivenAs Is _ _ = ⊥

abbrev pub IsPropertyName : List ℕ → Property → Type 0
IsPropertyName text property = text ≡ property_name property

-- names in C may begin with this text
abbrev pub IsCodeName : List ℕ → List ℕ → Type 0
IsCodeName text name = (name ≡ text) × (is_code_name text ≡ true)

-- The values in parts: each that is given is one of its option's, whether or not a task has the
-- option. There are 1 to 64 samples or 10, 1 to 200000 conflicts or 50000, 1 to 1000 controllers.
pub record AreValues (parts : List PartView) (values : Values) : Type 0 where
  pub property : IsGivenAs IsPropertyName (value_of (codes "property") parts) values.property
  pub inputs : IsGivenAs AreInputs (value_of (codes "simulate") parts) values.inputs
  pub samples : IsNumber most_samples default_samples (value_of (codes "x-size") parts)
      values.numbers.samples
  pub conflicts : IsNumber most_conflicts default_conflicts (value_of (codes "conflicts") parts)
      values.numbers.conflicts
  pub later : IsGivenAs AreNames (value_of (codes "sections") parts) values.later
  pub design : IsDesign parts values.design
  pub seed : IsGivenAs IsSeed (value_of (codes "generate") parts) values.seed
  pub controllers : IsGivenAs (IsNumberUpTo most_controllers) (value_of (codes "count") parts)
      values.controllers
  pub code_name : IsGivenAs IsCodeName (value_of (codes "c-name") parts) values.code_name

-- ---- what is asked

-- each of these options that is given is one of its own
abbrev pub HasOnly : List PartView → List (List ℕ) → List (List ℕ) → Type 0
HasOnly parts own [] = Unit {0}
HasOnly parts own (name ∷ names) = (is_given parts name ≡ true
    → list_any (bytes_eq name) own ≡ true) × HasOnly parts own names

-- FILE is the controller's, or the first section's; the file of a state-space controller is named
-- in its place.
pub data AreFiles : List PartView → Values → JobFiles → Type 0 where
  controllers : (parts : List PartView) (values : Values) (name : List ℕ)
      → file_of parts ≡ Some name → AreFiles parts values (controller name)
  cascades : (parts : List PartView) (values : Values) (name : List ℕ) (later : List (List ℕ))
      → file_of parts ≡ Some name → values.later ≡ Some later
      → AreFiles parts values (cascade name later)
  state_spaces : (parts : List PartView) (values : Values) (name : List ℕ) → file_of parts ≡ None
      → value_of (codes "state-space") parts ≡ Some name → AreFiles parts values (states name)
  loops : (parts : List PartView) (values : Values) (name plant : List ℕ)
      → file_of parts ≡ Some name → value_of (codes "plant") parts ≡ Some plant
      → AreFiles parts values (plant_loop name plant)
  cascade_loops : (parts : List PartView) (values : Values) (name : List ℕ)
      (later : List (List ℕ)) (plant : List ℕ) → file_of parts ≡ Some name
      → values.later ≡ Some later → value_of (codes "plant") parts ≡ Some plant
      → AreFiles parts values (cascade_loop name later plant)

-- What is given for a task.
pub data IsTask : List PartView → Values → Task → Type 0 where
  roots : (parts : List PartView) (values : Values) (p : RootProperty)
      → values.property ≡ Some (OfRoots p)
      → IsTask parts values (decides p (is_given parts (codes "schur-cohn")))
  timing : (parts : List PartView) (values : Values) → values.property ≡ Some Timing
      → IsTask parts values checks_time
  formula : (parts : List PartView) (values : Values) (p : RunProperty)
      → values.property ≡ Some (OfRuns p) → is_given parts (codes "formula") ≡ true
      → IsTask parts values (writes p values.numbers.samples)
  search : (parts : List PartView) (values : Values) (p : RunProperty)
      → values.property ≡ Some (OfRuns p)
      → IsTask parts values (searches p values.numbers.samples values.numbers.conflicts)
  unbounded : (parts : List PartView) (values : Values)
      → values.property ≡ Some (OfRuns Overflow) → is_given parts (codes "unbounded") ≡ true
      → IsTask parts values (seeks_set values.numbers.conflicts)
  gain : (parts : List PartView) (values : Values) → values.property ≡ Some (OfRuns Overflow)
      → is_given parts (codes "gain") ≡ true → IsTask parts values measures_gain
  simulation : (parts : List PartView) (values : Values) (inputs : List ℤ)
      → values.inputs ≡ Some inputs
      → IsTask parts values (simulates inputs (is_given parts (codes "outputs")))
  file_run : (parts : List PartView) (values : Values) (name : List ℕ)
      → value_of (codes "inputs") parts ≡ Some name
      → IsTask parts values (runs_file name (is_given parts (codes "outputs")))
  words_alone : (parts : List PartView) (values : Values) → is_given parts (codes "words") ≡ true
      → IsTask parts values tells_words
  code : (parts : List PartView) (values : Values) → is_given parts (codes "emit-c") ≡ true
      → IsTask parts values (emits_code (unwrap_or values.code_name default_code_name))
  code_test : (parts : List PartView) (values : Values) (inputs : List ℤ)
      → is_given parts (codes "emit-c") ≡ true → values.inputs ≡ Some inputs
      → IsTask parts values (emits_test (unwrap_or values.code_name default_code_name) inputs)
  code_file_test : (parts : List PartView) (values : Values) (name : List ℕ)
      → is_given parts (codes "emit-c") ≡ true → value_of (codes "inputs") parts ≡ Some name
      → IsTask parts values (emits_file_test (unwrap_or values.code_name default_code_name) name)
  named_form : (parts : List PartView) (values : Values) (name : List ℕ)
      → values.property ≡ Some (OfRoots Stability) → value_of (codes "form") parts ≡ Some name
      → IsTask parts values (checks_form name)
  sought_form : (parts : List PartView) (values : Values)
      → values.property ≡ Some (OfRoots Stability) → is_given parts (codes "lyapunov") ≡ true
      → IsTask parts values seeks_form
  named_ellipsoid : (parts : List PartView) (values : Values) (name : List ℕ)
      → values.property ≡ Some (OfRuns Overflow) → is_given parts (codes "unbounded") ≡ true
      → value_of (codes "ellipsoid") parts ≡ Some name
      → IsTask parts values (checks_ellipsoid name)
  sought_ellipsoid : (parts : List PartView) (values : Values)
      → values.property ≡ Some (OfRuns Overflow)
      → is_given parts (codes "offer-ellipsoid") ≡ true → values.design.realisation ≡ Dfi
      → IsTask parts values seeks_ellipsoid

-- The job of these parts: there is such a task of what is asked about; no option is given that
-- either doesn't have; a certificate is to be written only where one may be, and words are told
-- only in reports that may tell them.
pub record IsJobOf (parts : List PartView) (values : Values) (job : Job) : Type 0 where
  pub files : AreFiles parts values job.files
  pub task : IsTask parts values job.task
  pub cell : has_cell (kind_of job.files) job.task ≡ true
  pub design : job.design ≡ values.design
  pub certified : job.certified ≡ is_given parts (codes "certificate")
  pub certificate : job.certified ≡ true → may_certify (kind_of job.files) job.task ≡ true
  pub worded : job.worded ≡ is_given parts (codes "words")
  pub words : job.worded ≡ true → may_word job.certified job.task ≡ true
  pub file_options : HasOnly parts (file_options job.files) all_file_options
  pub task_options : HasOnly parts (task_options job.task) all_task_options
  pub design_options : HasOnly parts (design_options (kind_of job.files)) all_design_options
  pub no_check : is_given parts (codes "check") ≡ false
  pub no_seed : is_given parts (codes "generate") ≡ false
  pub no_count : is_given parts (codes "count") ≡ false

-- The check of a certificate of a controller, or of its loop with a plant.
pub record IsCheckOf (parts : List PartView) (values : Values) (files : JobFiles)
    (certificate : List ℕ) (worded : Bool) : Type 0 where
  pub given : value_of (codes "check") parts ≡ Some certificate
  pub are_files : AreFiles parts values files
  pub checked : is_checked (kind_of files) ≡ true
  pub words : worded ≡ is_given parts (codes "words")
  pub file_options : HasOnly parts (file_options files) all_file_options
  pub no_task : HasOnly parts [] all_task_options
  pub no_design : HasOnly parts [] all_design_options
  pub no_certificate : is_given parts (codes "certificate") ≡ false
  pub no_seed : is_given parts (codes "generate") ≡ false
  pub no_count : is_given parts (codes "count") ≡ false

-- So many controllers of a seed, or 40: a seed is given, and a number of controllers or none, and
-- nothing else.
pub record IsGenerationOf (parts : List PartView) (values : Values) (seed count : ℕ)
    : Type 0 where
  pub given : values.seed ≡ Some seed
  pub number : count ≡ unwrap_or values.controllers default_controllers
  pub no_file : file_of parts ≡ None
  pub no_check : is_given parts (codes "check") ≡ false
  pub no_certificate : is_given parts (codes "certificate") ≡ false
  pub no_words : is_given parts (codes "words") ≡ false
  pub no_files : HasOnly parts [] all_file_options
  pub no_task : HasOnly parts [] all_task_options
  pub no_design : HasOnly parts [] all_design_options

-- what these parts ask for
abbrev pub IsRequestOf : List PartView → Values → Request → Type 0
IsRequestOf parts values (does job) = IsJobOf parts values job
IsRequestOf parts values (checks files certificate worded) =
    IsCheckOf parts values files certificate worded
IsRequestOf parts values (generates seed count) = IsGenerationOf parts values seed count

-- what a command line asks for; no text in it is empty
pub record IsRequestLine (arguments : List (List ℕ)) (request : Request) : Type 0 where
  pub parts : List PartView
  pub give : Give command_options arguments parts
  pub filled : has_empty parts ≡ false
  pub values : Values
  pub are_values : AreValues parts values
  pub request_of_parts : IsRequestOf parts values request
