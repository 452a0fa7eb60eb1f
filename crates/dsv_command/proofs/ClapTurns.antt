-- What one argument is to clap: whether it is refused, and where the walk stands after it.
use Rattle.std.proofs.Common.{◌≡◌, ℕ, Bool, true, false, cond, List, [], ◌∷◌, length, Option, Some, None, refl, ap, slice_get}
use Rattle.std.specs.Map.{lookup}
use Rattle.std.specs.Str.{bytes_eq, chars}
use Rattle.std.proofs.Math.Bool.{and-false}
use Rattle.clap.specs.Walk.{Held, Text, Waiting, Walk, idle, option, positional, is_pending, reacted, settled, positional_held, pushed, subcommand_met, walked}
use Rattle.clap.specs.Faults.{bundle_step_fault, flags_fault, positional_fault, react_fault, settle_fault, turn_fault}
use Rattle.clap.specs.Kinds.{Kinds, or_else}
use Rattle.clap.specs.declared.error.kind.ErrorKind.{ErrorKind}
use Rattle.clap.specs.declared.error.kind.ErrorKind.TheVariants.{TooManyValues, UnknownArgument}
use Rattle.dsv_command.specs.ClapCommand.{file_id}
use Rattle.dsv_command.specs.Parts.{PartView}
use Rattle.dsv_command.specs.Shapes.{plain, stop, long, dashed}
use Rattle.dsv_command.proofs.ClapLooks.{HasCharacters, Looks}
use Rattle.dsv_command.proofs.ClapRules.{Options, built_file, built_rules, built_shape, rule_named, by_id, by_long, by_second_index, by_short, text_itself}
use Rattle.dsv_command.proofs.ClapUses.{HasNoFile, held_at, not_file}

-- ---- lists of kinds

pub or_nil : (kinds : Kinds) → or_else kinds [] ≡ kinds
or_nil [] = refl
or_nil (k ∷ ks) = refl

pub first_none : (first next : Kinds) → or_else first next ≡ [] → first ≡ []
first_none [] next e = refl
first_none (k ∷ ks) next e = e

-- there is a kind in the list
abbrev pub Fault : Kinds → Type 0
Fault kinds = kinds ≡ [] → ⊥

pub not_none : {k : ErrorKind} {kinds : Kinds} → kinds ≡ k ∷ [] → Fault kinds
not_none e z = cc

-- ---- an argument that names an option

abbrev pub walk_at : Held → Waiting → ℕ → Bool → Walk
walk_at held waiting position is_trailing = record {
  held = held;
  waiting = waiting;
  position = position;
  is_trailing = is_trailing;
  stopped = None;
}

no_subcommand : (w : Waiting) (argument : Text) → subcommand_met [] w argument ≡ None
no_subcommand idle argument = refl
no_subcommand (option id) argument = refl
no_subcommand positional argument = refl

module _ (options : Options) (h : Held) (w : Waiting) (n : ℕ) (argument name : Text) where
  -- `--name=value`
  pub joined_turn : (value : Text) → lookup (bytes_eq name) options ≡ Some true → Looks (long name (Some value)) argument
      → turn_fault (built_shape options) [] (walk_at h w n false) argument ≡ react_fault (built_rules options) false (rule_named name true) (value ∷ []) h
  joined_turn value k l = rw (no_subcommand w argument, l.no_stop, l.parts, by_long options name, k) (or_nil _)

  pub joined_walked : (value : Text) → lookup (bytes_eq name) options ≡ Some true → Looks (long name (Some value)) argument
      → walked (built_rules options) [] (walk_at h w n false) argument ≡ walk_at (reacted (built_rules options) (rule_named name true) (value ∷ []) h) idle n false
  unfolding walked
  joined_walked value k l = rw (no_subcommand w argument, l.no_stop, l.parts, by_long options name, k) refl

  -- `--name` of an option with a value
  pub alone_turn : lookup (bytes_eq name) options ≡ Some true → Looks (long name None) argument
      → turn_fault (built_shape options) [] (walk_at h w n false) argument ≡ settle_fault (built_rules options) false h
  alone_turn k l = rw (no_subcommand w argument, l.no_stop, l.parts, by_long options name, k) (or_nil _)

  pub alone_walked : lookup (bytes_eq name) options ≡ Some true → Looks (long name None) argument
      → walked (built_rules options) [] (walk_at h w n false) argument
      ≡ walk_at (let held : Held = record (settled (built_rules options) h) { pending = Some (name, []) } in held) (option name) n false
  unfolding walked
  alone_walked k l = rw (no_subcommand w argument, l.no_stop, l.parts, by_long options name, k) refl

  -- `--name` of an option without one
  pub flag_turn : lookup (bytes_eq name) options ≡ Some false → Looks (long name None) argument
      → turn_fault (built_shape options) [] (walk_at h w n false) argument ≡ react_fault (built_rules options) false (rule_named name false) [] h
  flag_turn k l = rw (no_subcommand w argument, l.no_stop, l.parts, by_long options name, k) (or_nil _)

  pub flag_walked : lookup (bytes_eq name) options ≡ Some false → Looks (long name None) argument
      → walked (built_rules options) [] (walk_at h w n false) argument ≡ walk_at (reacted (built_rules options) (rule_named name false) [] h) idle n false
  unfolding walked
  flag_walked k l = rw (no_subcommand w argument, l.no_stop, l.parts, by_long options name, k) refl

  -- an option without a value, and a value
  pub flag_value : (value : Text) → lookup (bytes_eq name) options ≡ Some false → Looks (long name (Some value)) argument
      → turn_fault (built_shape options) [] (walk_at h w n false) argument ≡ TooManyValues ∷ []
  flag_value value k l = rw (no_subcommand w argument, l.no_stop, l.parts, by_long options name, k) refl

  -- no option of the table
  pub unknown : (value : Option Text) → lookup (bytes_eq name) options ≡ None → Looks (long name value) argument
      → turn_fault (built_shape options) [] (walk_at h w n false) argument ≡ UnknownArgument ∷ []
  unknown value k l = rw (no_subcommand w argument, l.no_stop, l.parts, by_long options name, k) refl

-- ---- any other that begins with `-`

module _ (options : Options) (w : Waiting) (n : ℕ) (argument : Text) where
  pub stop_turn : (h : Held) → Looks stop argument → turn_fault (built_shape options) [] (walk_at h w n false) argument ≡ []
  stop_turn h l = rw (no_subcommand w argument, l) refl

  pub stop_walked : (h : Held) → Looks stop argument → walked (built_rules options) [] (walk_at h w n false) argument ≡ walk_at h w n true
  unfolding walked
  stop_walked h l = rw (no_subcommand w argument, l) refl

-- no flag has a single `-`
unknown_flag : (options : Options) (characters : List ℕ) (flags : Text) (h : Held) (next : Text → ℕ → Held → Kinds) → (characters ≡ [] → ⊥)
    → bundle_step_fault (built_rules options) false (slice_get characters 0) flags 0 h next ≡ UnknownArgument ∷ []
unknown_flag options [] flags h next some = absurd (some refl)
unknown_flag options (x ∷ xs) flags h next some = rw (by_short options x) refl

dashed_fault : (options : Options) (first : ℕ) (more : Text) (h : Held) → (chars (first ∷ more) ≡ [] → ⊥)
    → flags_fault (built_rules options) false (length (first ∷ more)) (first ∷ more) 0 h ≡ UnknownArgument ∷ []
unfolding flags_fault
dashed_fault options first more h some = unknown_flag options (chars (first ∷ more)) (first ∷ more) h (flags_fault (built_rules options) false (length more)) some

pub dashed_turn : (options : Options) (ps : List PartView) (pending : Option (Text × List Text)) (w : Waiting) (n : ℕ) (argument : Text) → HasCharacters argument → Looks dashed argument
    → turn_fault (built_shape options) [] (walk_at (held_at ps pending) w n false) argument ≡ UnknownArgument ∷ []
dashed_turn options ps pending w n argument text l =
    rw (no_subcommand w argument, l.no_stop, l.no_long, l.short, dashed_fault options l.first l.more (held_at ps pending) (text l.first l.more l.same)) refl

-- ---- an argument without a name

file_fault : (options : Options) (h : Held) → positional_fault (built_rules options) false built_file h ≡ settle_fault (built_rules options) false h
file_fault options h = ap (λ b. cond b [] (settle_fault (built_rules options) false h)) (and-false (is_pending built_file h.pending))

file_held : (options : Options) (h : Held) (argument : Text) → positional_held (built_rules options) built_file argument h ≡ pushed file_id argument (settled (built_rules options) h)
file_held options h argument = ap (λ b. pushed file_id argument (cond b h (settled (built_rules options) h))) (and-false (is_pending built_file h.pending))

-- the walk takes the argument for a positional
abbrev pub IsPositional : Bool → Text → Type 0
IsPositional true argument = Unit {0}
IsPositional false argument = Looks plain argument

module _ (options : Options) (h : Held) (argument : Text) where
  -- FILE, where none was given
  pub file_turn : (ended : Bool) → IsPositional ended argument → turn_fault (built_shape options) [] (walk_at h idle 1 ended) argument ≡ settle_fault (built_rules options) false h
  file_turn true l = file_fault options h
  file_turn false l = rw (l.no_stop, l.no_long, l.no_short) (file_fault options h)

  pub file_walked : (ended : Bool) → IsPositional ended argument
      → walked (built_rules options) [] (walk_at h idle 1 ended) argument ≡ walk_at (pushed file_id argument (settled (built_rules options) h)) idle 2 ended
  unfolding walked
  file_walked true l = ap (λ (held : Held). walk_at held idle 2 true) (file_held options h argument)
  file_walked false l = rw (l.no_stop, l.no_long, l.no_short) (ap (λ (held : Held). walk_at held idle 2 false) (file_held options h argument))

  -- after `--` nothing waits
  pub late_turn : (w : Waiting) → turn_fault (built_shape options) [] (walk_at h w 1 true) argument ≡ settle_fault (built_rules options) false h
  late_turn w = file_fault options h

  -- a second FILE
  pub stray_turn : (w : Waiting) → turn_fault (built_shape options) [] (walk_at h w 2 true) argument ≡ UnknownArgument ∷ []
  stray_turn w = rw (by_second_index options) refl

  pub plain_stray : Looks plain argument → turn_fault (built_shape options) [] (walk_at h idle 2 false) argument ≡ UnknownArgument ∷ []
  plain_stray l = rw (l.no_stop, l.no_long, l.no_short) (rw (by_second_index options) refl)

-- ---- the value that an option waits for

module _ (options : Options) (ps : List PartView) (n : ℕ) (argument name : Text) (no_file : HasNoFile options) (k : lookup (bytes_eq name) options ≡ Some true) where
  pub wanted_turn : Looks plain argument → turn_fault (built_shape options) [] (walk_at (held_at ps (Some (name, []))) (option name) n false) argument ≡ []
  wanted_turn l = rw (l.no_stop, l.no_long, l.no_short) refl

  pub wanted_walked : Looks plain argument
      → walked (built_rules options) [] (walk_at (held_at ps (Some (name, []))) (option name) n false) argument ≡ walk_at (held_at ps (Some (name, argument ∷ []))) idle n false
  unfolding walked
  wanted_walked l = rw (l.no_stop, l.no_long, l.no_short, by_id options name (not_file options name true no_file k), k) (rw (text_itself name) refl)
