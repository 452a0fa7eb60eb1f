-- The rules of a command made of a table of options, as building leaves them.
use Rattle.std.proofs.Common.{◌≡◌, ◌∙◌, ℕ, Bool, true, false, not, cond, ◌&&◌, ◌||◌, List, [], ◌∷◌, ◌++◌, append_assoc, map, Option, Some, None, is_some, refl, sym, ap, ap₂, find, option_map, count_by}
use Rattle.std.specs.List.{list_all, list_any}
use Rattle.std.specs.Map.{lookup}
use Rattle.std.specs.Str.{bytes_eq}
use Rattle.std.proofs.Math.Bool.{or-false}
use Rattle.std.proofs.lemmas.Slice.Eq.{bytes_eq-Decides}
use Rattle.clap.specs.Walk.{Row, Rule, Text, arg_by_id, arg_by_long, arg_by_index, arg_by_short, with_default, has_row, is_early_multiple}
use Rattle.clap.specs.Simple.{App, on_top, with_rule, Shape, built, filled, filled_from, with_index, is_simple, is_buildable, is_ready, is_ready_leaf, is_in_order}
use Rattle.clap.specs.Faults.{defaults_fault, default_fault, is_simple_and_free, check_fault, has_free_rules}
use Rattle.clap.specs.Kinds.{Kinds, or_else}
use Rattle.clap.specs.Takes.{is_given}
use Rattle.dsv_command.specs.ClapCommand.{file_id, file_rule, option_rule, command_shape, command_app}

abbrev pub Options : Type 0
Options = List (Text × Bool)

-- ---- texts

pub same_text : (a b : Text) → bytes_eq a b ≡ true → a ≡ b
same_text a b e = (bytes_eq-Decides a b).0 e

pub text_itself : (a : Text) → bytes_eq a a ≡ true
text_itself a = (bytes_eq-Decides a a).1 refl

pub either_way : (a b : Text) → bytes_eq a b ≡ bytes_eq b a
either_way a b = by_test (bytes_eq a b) (bytes_eq b a) refl refl
  where
    by_test : (s t : Bool) → bytes_eq a b ≡ s → bytes_eq b a ≡ t → bytes_eq a b ≡ bytes_eq b a
    by_test true t e f = rw (same_text a b e) refl
    by_test false true e f = rw (same_text b a f) refl
    by_test false false e f = e ∙ sym f

-- ---- the rules as building leaves them

abbrev pub built_file : Rule
built_file = with_index 1 (filled file_rule)

abbrev pub built_option : Text × Bool → Rule
built_option option = filled (option_rule option)

abbrev pub built_rules : Options → List Rule
built_rules options = built_file ∷ map built_option options

abbrev pub built_shape : Options → Shape
built_shape options = record (command_shape options) {
  rules = built_rules options;
  disable_help_subcommand = true;
  is_built = true;
}

filled_options : (options : Options) (i : ℕ) → filled_from i (map option_rule options) ≡ map built_option options
filled_options [] i = refl
filled_options (o ∷ os) i = ap (λ rules. built_option o ∷ rules) (filled_options os i)

pub command_built : (options : Options) → built (command_app options) ≡ record { top = built_shape options; subs = [] }
command_built options = ap (λ (rules : List Rule). let a : App = record { top = record (built_shape options) { rules = built_file ∷ rules }; subs = [] } in a) (filled_options options 2)

-- ---- finding a rule

abbrev pub rule_named : Text → Bool → Rule
rule_named name takes_value = built_option (name, takes_value)

found_by : (name key : Text) (takes_value t : Bool) (x : Option Rule) (y : Option Bool) → bytes_eq name key ≡ t → x ≡ option_map (rule_named name) y
    → cond t (Some (rule_named key takes_value)) x ≡ option_map (rule_named name) (cond t (Some takes_value) y)
found_by name key takes_value true x y e h = rw (same_text name key e) refl
found_by name key takes_value false x y e h = h

option_by_id : (options : Options) (name : Text) → find (λ a. bytes_eq a.id name) (map built_option options) ≡ option_map (rule_named name) (lookup (bytes_eq name) options)
option_by_id [] name = refl
option_by_id (o ∷ os) name =
    ap (λ t. cond t (Some (built_option o)) (find (λ a. bytes_eq a.id name) (map built_option os))) (either_way o.0 name)
    ∙ found_by name o.0 o.1 (bytes_eq name o.0) _ _ refl (option_by_id os name)

option_by_long : (options : Options) (name : Text) → arg_by_long (map built_option options) name ≡ option_map (rule_named name) (lookup (bytes_eq name) options)
option_by_long [] name = refl
option_by_long (o ∷ os) name =
    ap (λ t. cond t (Some (built_option o)) (arg_by_long (map built_option os) name)) (or-false (bytes_eq o.0 name) ∙ either_way o.0 name)
    ∙ found_by name o.0 o.1 (bytes_eq name o.0) _ _ refl (option_by_long os name)

-- an option by its name
pub by_long : (options : Options) (name : Text) → arg_by_long (built_rules options) name ≡ option_map (rule_named name) (lookup (bytes_eq name) options)
by_long options name = option_by_long options name

pub by_id : (options : Options) (name : Text) → bytes_eq file_id name ≡ false → arg_by_id (built_rules options) name ≡ option_map (rule_named name) (lookup (bytes_eq name) options)
by_id options name e = rw e (option_by_id options name)

no_option_index : (options : Options) (i : ℕ) → arg_by_index (map built_option options) i ≡ None
no_option_index [] i = refl
no_option_index (o ∷ os) i = no_option_index os i

-- there is no second argument without a name
pub by_second_index : (options : Options) → arg_by_index (built_rules options) 2 ≡ None
by_second_index options = no_option_index options 2

no_option_short : (options : Options) (x : ℕ) → arg_by_short (map built_option options) x ≡ None
no_option_short [] x = refl
no_option_short (o ∷ os) x = no_option_short os x

-- no option has a short name
pub by_short : (options : Options) (x : ℕ) → arg_by_short (built_rules options) x ≡ None
by_short options x = no_option_short options x

-- ---- the command is simple

all_simple : (options : Options) → list_all (λ a. a.is_simple) (map option_rule options) ≡ true
all_simple [] = refl
all_simple (o ∷ os) = all_simple os

all_built_simple : (options : Options) → list_all (λ a. a.is_simple) (map built_option options) ≡ true
all_built_simple [] = refl
all_built_simple (o ∷ os) = all_built_simple os

all_free : (options : Options) → list_all (λ a. a.is_free) (map built_option options) ≡ true
all_free [] = refl
all_free (o ∷ os) = all_free os

none_early : (options : Options) (n : ℕ) → list_any (is_early_multiple n) (map built_option options) ≡ false
none_early [] n = refl
none_early (o ∷ os) n = none_early os n

in_order : (options : Options) → is_in_order (built_rules options) ≡ true
in_order options = ap not (none_early options (count_by (λ a. is_some a.index) (built_rules options)))

abbrev is_simple_as : App → App → Bool
is_simple_as app b = is_buildable app && (is_ready b.top && list_all is_ready_leaf b.subs)

pub command_simple : (options : Options) → is_simple (command_app options) ≡ true
command_simple options = ap (is_simple_as (command_app options)) (command_built options) ∙ rw (all_simple options, all_built_simple options, in_order options) refl

abbrev is_free_as : App → App → Bool
is_free_as app b = is_simple app && (has_free_rules b.top && list_all has_free_rules b.subs)

pub command_simple_and_free : (options : Options) → is_simple_and_free (command_app options) ≡ true
command_simple_and_free options = ap (is_free_as (command_app options)) (command_built options)
    ∙ (ap (λ b. b && (list_all (λ a. a.is_free) (map built_option options) && true)) (command_simple options) ∙ rw (all_free options) refl)

-- ---- what comes after the walk

no_default : (b : Bool) (kinds : Kinds) → cond (b || true) [] kinds ≡ []
no_default true kinds = refl
no_default false kinds = refl

no_flag_default : (b : Bool) → cond {A = Kinds} (b || false) [] [] ≡ []
no_flag_default true = refl
no_flag_default false = refl

option_default : (name : Text) (takes_value : Bool) (rows : List Row) → default_fault rows (rule_named name takes_value) ≡ []
option_default name true rows = no_default (has_row name rows) _
option_default name false rows = no_flag_default (has_row name rows)

option_defaults : (options : Options) (rows : List Row) → defaults_fault rows (map built_option options) ≡ []
unfolding defaults_fault
option_defaults [] rows = refl
option_defaults (o ∷ os) rows = ap₂ or_else (option_default o.0 o.1 rows) (option_defaults os (with_default rows (built_option o)))

-- no default is refused
pub no_defaults_fault : (options : Options) (rows : List Row) → defaults_fault rows (built_rules options) ≡ []
unfolding defaults_fault
no_defaults_fault options rows = ap₂ or_else (no_default (has_row file_id rows) _) (option_defaults options (with_default rows built_file))

none_required : (options : Options) (rows : List Row) → list_any (λ a. a.required && not (is_given a.id rows)) (map built_option options) ≡ false
none_required [] rows = refl
none_required (o ∷ os) rows = none_required os rows

-- nothing is wanted that isn't there
pub no_check_fault : (options : Options) (rows : List Row) → check_fault (built_shape options) rows false ≡ []
no_check_fault options rows = rw (none_required options rows) refl

-- ---- how the command is made

-- more rules after those that stand
abbrev pub with_rules : App → List Rule → App
with_rules app rules = on_top (λ (s : Shape). record s { rules = s.rules ++ rules }) app

pub with_rules_more : (app : App) (rule : Rule) (rules : List Rule) → with_rules app (rule ∷ rules) ≡ with_rules (with_rule app rule) rules
with_rules_more app rule rules = ap (λ (all : List Rule). on_top (λ (s : Shape). record s { rules = all }) app) (sym (append_assoc app.top.rules (rule ∷ []) rules))
