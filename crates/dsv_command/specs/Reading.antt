-- Scaffolding: reading arguments one by one, by a table of options. What arguments are allowed to
-- be, and what they give, is said apart from this in `Rules`.
use Rattle.std.specs.Prelude.{ℕ, List, [], ◌∷◌, ◌++◌, Bool, true, false, Option}
use Rattle.std.specs.Prelude.{Some, None, if◌then◌else◌, option_and_then}
use Rattle.std.specs.Map.{lookup}
use Rattle.std.specs.Str.{bytes_eq}
use Rattle.dsv_command.specs.Parts.{PartView, file, flag, choice, Key, for_option, key_of, has_key}
use Rattle.dsv_command.specs.Shapes.{ShapeView, plain, stop, long, shape_of}

-- where the reading stands between two arguments
pub record Reading : Type 0 where
  -- what was given, in its order
  pub parts : List PartView
  -- the option that waits for its value
  pub waits : Option (List ℕ)
  -- whether the argument `--` was met
  pub ended : Bool

-- the next reading, unless something is given for the key: each is given at most once
abbrev pub once : Key → Reading → Reading → Option Reading
once key r next = if has_key key r.parts then None else Some next

-- one more part
abbrev pub gives : PartView → Reading → Option Reading
gives part r = once (key_of part) r (record r { parts = r.parts ++ part ∷ []; waits = None })

-- an option whose value is the next argument
abbrev pub awaits : List ℕ → Reading → Option Reading
awaits name r = once (for_option name) r (record r { waits = Some name })

-- a plain argument is the value that is waited for, or else FILE
abbrev pub meet_plain : Option (List ℕ) → List ℕ → Reading → Option Reading
meet_plain None argument r = gives (file argument) r
meet_plain (Some name) argument r = gives (choice name argument) r

-- an option of which is known whether it takes a value, and the value after =
abbrev pub meet_known : Option Bool → List ℕ → Option (List ℕ) → Reading → Option Reading
meet_known (Some true) name (Some value) r = gives (choice name value) r
meet_known (Some true) name None r = awaits name r
meet_known (Some false) name None r = gives (flag name) r
meet_known _ name value r = None

-- an option that the table has
abbrev pub meet_option : List (List ℕ × Bool) → List ℕ → Option (List ℕ) → Reading
    → Option Reading
meet_option options name value r = meet_known (lookup (bytes_eq name) options) name value r

-- an argument of this shape; only a plain one may be the value that is waited for
abbrev pub meet_shape : List (List ℕ × Bool) → ShapeView → Option (List ℕ) → List ℕ → Reading
    → Option Reading
meet_shape options plain waits argument r = meet_plain waits argument r
meet_shape options stop None argument r = Some (record r { ended = true })
meet_shape options (long name value) None argument r = meet_option options name value r
meet_shape options _ _ argument r = None

-- the next argument; after `--` it is FILE
abbrev pub meet : List (List ℕ × Bool) → Reading → List ℕ → Option Reading
meet options r argument = if r.ended then gives (file argument) r
    else meet_shape options (shape_of argument) r.waits argument r

-- no option may wait at the end
abbrev pub finish : Option (List ℕ) → Reading → Option (List PartView)
finish None r = Some r.parts
finish (Some name) r = None

-- what was given once these arguments are met too
abbrev pub read_from : List (List ℕ × Bool) → Reading → List (List ℕ) → Option (List PartView)
read_from options r [] = finish r.waits r
read_from options r (argument ∷ arguments) =
    option_and_then (λ next. read_from options next arguments) (meet options r argument)

-- before the first argument
abbrev pub start : Reading
start = record { parts = []; waits = None; ended = false }

-- the parts that arguments give, in their order, or none where they aren't allowed
unfoldable pub parts_of : List (List ℕ × Bool) → List (List ℕ) → Option (List PartView)
parts_of options arguments = read_from options start arguments
