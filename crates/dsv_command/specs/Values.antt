-- The values of the command's options.
use Rattle.std.specs.Prelude.{ℕ, ℤ, ◌&&◌, nat_le, nat_lt, ◌^◌, List, Option, Some, None}
use Rattle.std.specs.Prelude.{Result, Ok, Err, codes, if◌then◌else◌, option_and_then, unwrap_or}
use Rattle.dsv_text.specs.Digits.{short_number}
use Rattle.dsv_text.specs.Stages.{◌>>=◌}
use Rattle.dsv_names.specs.declared.design.Design.{Design}
use Rattle.dsv_names.specs.declared.realisation.Realisation.TheVariants.{Dfi}
use Rattle.dsv_names.specs.declared.rounding.Rounding.TheVariants.{Floor}
use Rattle.dsv_names.specs.declared.overflow_mode.OverflowMode.TheVariants.{Wrap}
use Rattle.dsv_names.specs.declared.property.Property.{Property}
use Rattle.dsv_names.specs.Names.{value_named}
use Rattle.dsv_names.specs.OverflowModes.{overflow_mode_name, overflow_modes}
use Rattle.dsv_names.specs.Properties.{property_name, properties}
use Rattle.dsv_names.specs.Realisations.{realisation_name, realisations}
use Rattle.dsv_names.specs.Roundings.{rounding_name, roundings}
use Rattle.dsv_command.specs.SectionNames.{names_of}
use Rattle.dsv_command.specs.CodeNames.{code_name_of}
use Rattle.dsv_command.specs.Inputs.{inputs_of}
use Rattle.dsv_command.specs.Limits.{most_number_digits, most_samples, most_conflicts}
use Rattle.dsv_command.specs.Limits.{most_controllers, default_samples, default_conflicts}
use Rattle.dsv_command.specs.Parts.{PartView, value_of}
use Rattle.dsv_command.specs.Reasons.{Reason, bad_value}

-- how many samples and conflicts a job has
pub record Numbers : Type 0 where
  pub samples : ℕ
  pub conflicts : ℕ

-- the values that are given, or else the defaults of numbers and designs
pub record Values : Type 0 where
  pub property : Option Property
  pub inputs : Option (List ℤ)
  pub numbers : Numbers
  -- the files of a cascade's later sections
  pub later : Option (List (List ℕ))
  pub design : Design
  pub seed : Option ℕ
  -- how many controllers are generated
  pub controllers : Option ℕ
  -- what names in C begin with
  pub code_name : Option (List ℕ)

-- a number of 1 to 10 digits from 1 to a limit
abbrev pub number_up_to : ℕ → List ℕ → Option ℕ
number_up_to limit text = option_and_then (λ n.
    (if nat_le 1 n && nat_le n limit then Some n else None)) (short_number most_number_digits text)

-- the seed that a text of 1 to 10 digits is, below 2^32
abbrev pub seed_of : List ℕ → Option ℕ
seed_of text = option_and_then (λ n. (if nat_lt n (2 ^ 32) then Some n else None))
    (short_number most_number_digits text)

-- what a value of an option is, if it is one
abbrev pub found_value : {A : Type 0} → List ℕ → List ℕ → Option A → Result (Option A) Reason
found_value name text None = Err (bad_value name text)
found_value name text (Some found) = Ok (Some found)

-- what a text is that may be given, as a value of this option
abbrev pub read_value : {A : Type 0} → List ℕ → (List ℕ → Option A) → Option (List ℕ)
    → Result (Option A) Reason
read_value name read None = Ok None
read_value name read (Some text) = found_value name text (read text)

abbrev pub value_in : {A : Type 0} → List ℕ → (List ℕ → Option A) → List PartView
    → Result (Option A) Reason
value_in name read parts = read_value name read (value_of name parts)

-- 10 samples and 50,000 conflicts are the defaults
abbrev pub samples_in : List PartView → Result ℕ Reason
samples_in parts = value_in (codes "x-size") (number_up_to most_samples) parts >>= λ samples.
    Ok (unwrap_or samples default_samples)

abbrev pub conflicts_in : List PartView → Result ℕ Reason
conflicts_in parts = value_in (codes "conflicts") (number_up_to most_conflicts) parts
    >>= λ conflicts. Ok (unwrap_or conflicts default_conflicts)

abbrev pub numbers_in : List PartView → Result Numbers Reason
numbers_in parts = samples_in parts >>= λ samples. conflicts_in parts >>= λ conflicts.
    Ok (record { samples = samples; conflicts = conflicts })

-- DFI, FLOOR and WRAPAROUND are the defaults
abbrev pub design_in : List PartView → Result Design Reason
design_in parts =
    value_in (codes "realization") (value_named realisation_name realisations) parts
    >>= λ realisation.
    value_in (codes "rounding") (value_named rounding_name roundings) parts >>= λ rounding.
    value_in (codes "overflow-mode") (value_named overflow_mode_name overflow_modes) parts
    >>= λ overflow.
    Ok (record {
      realisation = unwrap_or realisation Dfi;
      rounding = unwrap_or rounding Floor;
      overflow = unwrap_or overflow Wrap;
    })

-- the values in parts; the first that is none of its option's refuses them
abbrev pub values_in : List PartView → Result Values Reason
values_in parts =
    value_in (codes "property") (value_named property_name properties) parts >>= λ property.
    value_in (codes "simulate") inputs_of parts >>= λ inputs.
    numbers_in parts >>= λ numbers.
    value_in (codes "sections") names_of parts >>= λ later.
    design_in parts >>= λ design.
    value_in (codes "generate") seed_of parts >>= λ seed.
    value_in (codes "count") (number_up_to most_controllers) parts >>= λ controllers.
    value_in (codes "c-name") code_name_of parts >>= λ code_name.
    Ok (record {
      property = property;
      inputs = inputs;
      numbers = numbers;
      later = later;
      design = design;
      seed = seed;
      controllers = controllers;
      code_name = code_name;
    })
