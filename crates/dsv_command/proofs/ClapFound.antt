-- What clap found answers as the parts do that the arguments give.
use Rattle.std.proofs.Common.{◌≡◌, ◌∙◌, Bool, true, false, cond, ◌||◌, List, [], ◌∷◌, ◌++◌, map, Option, Some, None, is_some, refl, sym, ap, ap₂, fold, find, option_and_then, slice_get, append_assoc, append-nil, codes}
use Rattle.std.specs.List.{list_all}
use Rattle.std.specs.Map.{lookup}
use Rattle.std.specs.Str.{bytes_eq}
use Rattle.clap.specs.Walk.{Row, Text, at_row, default_rows, first_of, has_row, more_values, nothing_held, idle, with_default, rows_after, Walk}
use Rattle.clap.specs.Simple.{App, names_of}
use Rattle.clap.specs.Faults.{built_fault}
use Rattle.clap.specs.declared.parser.matches.ValueSource.TheVariants.{DefaultValue}
use Rattle.clap.specs.declared.builder.value_parser.Reading.TheVariants.{AsWritten}
use Rattle.clap.proofs.FaultLemmas.{leaf_fault}
use Rattle.clap.proofs.WalkLemmas.{both}
use Rattle.dsv_command.specs.ClapCommand.{file_id, command_faults, command_rows, filled_parts_of}
use Rattle.dsv_command.specs.ClapRows.{AreRowsOf, TellParts, is_given_source, is_in_rows, part_of_row, parts_in}
use Rattle.dsv_command.specs.Parts.{PartView, file, flag, choice, for_option, has_key, has_empty, file_of, value_of}
use Rattle.dsv_command.specs.Reading.{parts_of}
use Rattle.dsv_command.proofs.ClapRules.{Options, built_file, built_option, built_rules, built_shape, command_built, either_way, same_text}
use Rattle.dsv_command.proofs.ClapUses.{AreKnown, HasNoFile, IsKnown, held_at, id_of, not_file, row_of}
use Rattle.dsv_command.proofs.ClapLooks.{HaveCharacters, neither}
use Rattle.dsv_command.proofs.ClapTurns.{walk_at}
use Rattle.dsv_command.proofs.ClapWalk.{run_fault, end_rows}
use Rattle.dsv_command.proofs.ClapAgreement.{Agrees, agree_from_start}

-- ---- tables

abbrev is_flag : Option Bool → Bool
is_flag (Some false) = true
is_flag _ = false

-- no option has FILE's id, and an option without a value isn't there with one before
pub record IsTable (options : Options) : Type 0 where
  pub no_file : HasNoFile options
  pub flags : list_all (λ o. o.1 || is_flag (lookup (bytes_eq o.0) options)) options ≡ true

-- names with and without a value differ
apart : (options : Options) (a b : Text) (x y : Option Bool) → (x ≡ y → ⊥) → lookup (bytes_eq a) options ≡ x → lookup (bytes_eq b) options ≡ y → bytes_eq a b ≡ false
apart options a b x y differ e f = by_test (bytes_eq a b) refl
  where
    by_test : (t : Bool) → bytes_eq a b ≡ t → t ≡ false
    by_test true g = absurd (differ (sym e ∙ (ap (λ name. lookup (bytes_eq name) options) (same_text a b g) ∙ f)))
    by_test false g = refl

-- ---- defaults come last

-- a row that stands there by default, of an option without a value
abbrev IsDefault : Options → Row → Type 0
IsDefault options row = (is_given_source row.source ≡ false) × ((name : Text) → (lookup (bytes_eq name) options ≡ Some false → ⊥) → bytes_eq row.id name ≡ false)

abbrev AreDefaults : Options → List Row → Type 0
AreDefaults options [] = Unit {0}
AreDefaults options (row ∷ rows) = IsDefault options row × AreDefaults options rows

record Defaulted (options : Options) (rows new : List Row) : Type 0 where
  pub extra : List Row
  pub same : new ≡ rows ++ extra
  pub defaults : AreDefaults options extra

absent_row : (id : Text) (rows : List Row) (change : Row → List Row) (missing : List Row) → has_row id rows ≡ false → at_row id change missing rows ≡ rows ++ missing
absent_row id [] change missing e = refl
absent_row id (r ∷ rs) change missing e =
    let both = neither (bytes_eq r.id id) (has_row id rs) e in
    rw (both.0, absent_row id rs change missing both.1) refl

no_default : (options : Options) (rows : List Row) → Defaulted options rows rows
no_default options rows = record { extra = []; same = sym (append-nil rows); defaults = tt }

abbrev default_row : Text → Row
default_row name = record { id = name; values = codes "false" ∷ []; count = None; source = Some DefaultValue; reading = AsWritten }

flag_default : (options : Options) (name : Text) (rows : List Row) (t : Bool) → has_row name rows ≡ t → lookup (bytes_eq name) options ≡ Some false
    → Defaulted options rows (cond t rows (default_rows name AsWritten (codes "false" ∷ []) rows))
flag_default options name rows true e k = no_default options rows
flag_default options name rows false e k = record {
  extra = default_row name ∷ [];
  same = absent_row name rows (more_values DefaultValue (codes "false" ∷ [])) (default_row name ∷ []) e;
  defaults = ((refl, λ other f. apart options name other (Some false) (lookup (bytes_eq other) options) (λ z. f (sym z)) k refl), tt);
}

-- both cases of a test alike
either_case : {A : Type 0} (test : Bool) (x : A) → cond test x x ≡ x
either_case true x = refl
either_case false x = refl

option_default : (options : Options) (name : Text) (takes_value : Bool) (rows : List Row) → (takes_value || is_flag (lookup (bytes_eq name) options)) ≡ true
    → Defaulted options rows (with_default rows (built_option (name, takes_value)))
option_default options name true rows e = rw (either_case (has_row name rows) rows) (no_default options rows)
option_default options name false rows e = flag_default options name rows (has_row name rows) refl (flag_of (lookup (bytes_eq name) options) e)
  where
    flag_of : (x : Option Bool) → is_flag x ≡ true → x ≡ Some false
    flag_of (Some false) e = refl
    flag_of (Some true) e = cc
    flag_of None e = cc

defaults_more : (options : Options) (xs ys : List Row) → AreDefaults options xs → AreDefaults options ys → AreDefaults options (xs ++ ys)
defaults_more options [] ys d e = e
defaults_more options (x ∷ xs) ys d e = (d.0, defaults_more options xs ys d.1 e)

default_then : (options : Options) (rows middle new : List Row) → Defaulted options rows middle → Defaulted options middle new → Defaulted options rows new
default_then options rows middle new d e = record {
  extra = d.extra ++ e.extra;
  same = e.same ∙ (ap (λ xs. xs ++ e.extra) d.same ∙ append_assoc rows d.extra e.extra);
  defaults = defaults_more options d.extra e.extra d.defaults e.defaults;
}

all_defaulted : (options : Options) (others : Options) (rows : List Row) → list_all (λ o. o.1 || is_flag (lookup (bytes_eq o.0) options)) others ≡ true
    → Defaulted options rows (fold with_default rows (map built_option others))
all_defaulted options [] rows e = no_default options rows
all_defaulted options (o ∷ os) rows e =
    let f = both (o.1 || is_flag (lookup (bytes_eq o.0) options)) (list_all (λ p. p.1 || is_flag (lookup (bytes_eq p.0) options)) os) e in
    default_then options rows (with_default rows (built_option o)) _ (option_default options o.0 o.1 rows f.0) (all_defaulted options os (with_default rows (built_option o)) f.1)

-- the rows that clap gives, but for defaults
rows_defaulted : (options : Options) (rows : List Row) → IsTable options → Defaulted options rows (fold with_default rows (built_rules options))
rows_defaulted options rows table = default_then options rows (with_default rows built_file) _ (rw (either_case (has_row file_id rows) rows) (no_default options rows))
    (all_defaulted options options (with_default rows built_file) table.flags)

-- ---- what defaults leave as it was

no_parts : (options : Options) (extra : List Row) → AreDefaults options extra → parts_in options extra ≡ []
no_parts options [] d = refl
no_parts options (row ∷ rows) d = rw (d.0.0, no_parts options rows d.1) refl

parts_in-append : (options : Options) (xs ys : List Row) → parts_in options (xs ++ ys) ≡ parts_in options xs ++ parts_in options ys
parts_in-append options [] ys = refl
parts_in-append options (x ∷ xs) ys = ap (λ ps. own ++ ps) (parts_in-append options xs ys) ∙ sym (append_assoc own (parts_in options xs) (parts_in options ys))
  where
    own : List PartView
    own = cond (is_given_source x.source) (part_of_row (lookup (bytes_eq x.id) options) x ∷ []) []

not_default : (options : Options) (extra : List Row) (name : Text) → AreDefaults options extra → (lookup (bytes_eq name) options ≡ Some false → ⊥) → find (λ row. bytes_eq row.id name) extra ≡ None
not_default options [] name d k = refl
not_default options (row ∷ rows) name d k = rw (d.0.1 name k) (not_default options rows name d.1 k)

find_first : (rows extra : List Row) (id : Text) → find (λ row. bytes_eq row.id id) extra ≡ None → find (λ row. bytes_eq row.id id) (rows ++ extra) ≡ find (λ row. bytes_eq row.id id) rows
find_first [] extra id e = e
find_first (r ∷ rs) extra id e = ap (cond (bytes_eq r.id id) (Some r)) (find_first rs extra id e)

abbrev given_in : Option Row → Bool
given_in found = is_given_source (option_and_then (λ (row : Row). row.source) found)

not_in_extra : (options : Options) (extra : List Row) (id : Text) → AreDefaults options extra → is_in_rows id extra ≡ false
not_in_extra options [] id d = refl
not_in_extra options (row ∷ rows) id d = elim (bytes_eq row.id id) as (λ t. given_in (cond t (Some row) (find (λ r. bytes_eq r.id id) rows)) ≡ false) [
  | true ↦ d.0.0
  | false ↦ not_in_extra options rows id d.1
]

in_first : (rows extra : List Row) (id : Text) → is_in_rows id extra ≡ false → is_in_rows id (rows ++ extra) ≡ is_in_rows id rows
in_first [] extra id e = e
in_first (r ∷ rs) extra id e = elim (bytes_eq r.id id) as (λ t. given_in (cond t (Some r) (find (λ x. bytes_eq x.id id) (rs ++ extra))) ≡ given_in (cond t (Some r) (find (λ x. bytes_eq x.id id) rs))) [
  | true ↦ refl
  | false ↦ in_first rs extra id e
]

-- ---- the rows of parts

module _ (options : Options) (no_file : HasNoFile options) where
  own_part : (p : PartView) → IsKnown options p → part_of_row (lookup (bytes_eq (id_of p)) options) (row_of p) ≡ p
  own_part (file text) k = rw no_file refl
  own_part (flag name) k = rw k refl
  own_part (choice name value) k = rw k refl

  parts_back : (ps : List PartView) → AreKnown options ps → parts_in options (map row_of ps) ≡ ps
  parts_back [] ks = refl
  parts_back (p ∷ ps) ks = ap₂ (λ q qs. q ∷ qs) (own_part p ks.0) (parts_back ps ks.1)

  file_in_rows : (ps : List PartView) → AreKnown options ps → first_of file_id (map row_of ps) ≡ file_of ps
  file_in_rows [] ks = refl
  file_in_rows (file text ∷ ps) ks = refl
  file_in_rows (flag name ∷ ps) ks = rw (either_way name file_id, not_file options name false no_file ks.0) (file_in_rows ps ks.1)
  file_in_rows (choice name value ∷ ps) ks = rw (either_way name file_id, not_file options name true no_file ks.0) (file_in_rows ps ks.1)

  value_in_rows : (ps : List PartView) (name : Text) → AreKnown options ps → lookup (bytes_eq name) options ≡ Some true → first_of name (map row_of ps) ≡ value_of name ps
  value_in_rows [] name ks k = refl
  value_in_rows (file text ∷ ps) name ks k = rw (not_file options name true no_file k) (value_in_rows ps name ks.1 k)
  value_in_rows (flag other ∷ ps) name ks k = rw (apart options other name (Some false) (Some true) (λ z. cc) ks.0 k) (value_in_rows ps name ks.1 k)
  value_in_rows (choice other value ∷ ps) name ks k =
      elim (bytes_eq other name) as (λ t. option_and_then (λ (r : Row). slice_get r.values 0) (cond t (Some (row_of (choice other value))) (find (λ r. bytes_eq r.id name) (map row_of ps)))
      ≡ cond t (Some value) (value_of name ps)) [
        | true ↦ refl
        | false ↦ value_in_rows ps name ks.1 k
      ]

  no_value_in : (ps : List PartView) (name : Text) → AreKnown options ps → (lookup (bytes_eq name) options ≡ Some true → ⊥) → value_of name ps ≡ None
  no_value_in [] name ks other_kind = refl
  no_value_in (file text ∷ ps) name ks other_kind = no_value_in ps name ks.1 other_kind
  no_value_in (flag other ∷ ps) name ks other_kind = no_value_in ps name ks.1 other_kind
  no_value_in (choice other value ∷ ps) name ks other_kind = rw (apart options other name (Some true) (lookup (bytes_eq name) options) (λ z. other_kind (sym z)) ks.0 refl) (no_value_in ps name ks.1 other_kind)

  given_in_rows : (ps : List PartView) (name : Text) → AreKnown options ps → bytes_eq file_id name ≡ false → is_in_rows name (map row_of ps) ≡ has_key (for_option name) ps
  given_in_rows [] name ks e = refl
  given_in_rows (file text ∷ ps) name ks e = rw e (given_in_rows ps name ks.1 e)
  given_in_rows (flag other ∷ ps) name ks e =
      elim (bytes_eq other name) as (λ t. given_in (cond t (Some (row_of (flag other))) (find (λ r. bytes_eq r.id name) (map row_of ps))) ≡ (t || has_key (for_option name) ps)) [
        | true ↦ refl
        | false ↦ given_in_rows ps name ks.1 e
      ]
  given_in_rows (choice other value ∷ ps) name ks e =
      elim (bytes_eq other name) as (λ t. given_in (cond t (Some (row_of (choice other value))) (find (λ r. bytes_eq r.id name) (map row_of ps))) ≡ (t || has_key (for_option name) ps)) [
        | true ↦ refl
        | false ↦ given_in_rows ps name ks.1 e
      ]

  not_given_in : (ps : List PartView) (name : Text) → AreKnown options ps → lookup (bytes_eq name) options ≡ None → has_key (for_option name) ps ≡ false
  not_given_in [] name ks e = refl
  not_given_in (file text ∷ ps) name ks e = not_given_in ps name ks.1 e
  not_given_in (flag other ∷ ps) name ks e = rw (apart options other name (Some false) None (λ z. cc) ks.0 e) (not_given_in ps name ks.1 e)
  not_given_in (choice other value ∷ ps) name ks e = rw (apart options other name (Some true) None (λ z. cc) ks.0 e) (not_given_in ps name ks.1 e)

  -- an option of the table hasn't FILE's id
  option_apart : (name : Text) (x : Option Bool) → lookup (bytes_eq name) options ≡ x → is_some x ≡ true → bytes_eq file_id name ≡ false
  option_apart name (Some takes_value) e s = not_file options name takes_value no_file e
  option_apart name None e s = cc

  -- ---- the rows that clap gives

  rows_tell : (rows new : List Row) (ps : List PartView) → rows ≡ map row_of ps → Defaulted options rows new → AreKnown options ps → parts_in options new ≡ ps
  rows_tell rows new ps e d ks = ap (parts_in options) d.same ∙ (parts_in-append options rows d.extra
      ∙ (ap₂ (λ xs ys. xs ++ ys) (ap (parts_in options) e ∙ parts_back ps ks) (no_parts options d.extra d.defaults) ∙ append-nil ps))

  rows_answer : (rows new : List Row) (ps : List PartView) → rows ≡ map row_of ps → Defaulted options rows new → AreKnown options ps → has_empty ps ≡ false → AreRowsOf options new ps
  rows_answer rows new ps e d ks f = record {
    file = first_found file_id (λ z. absurd (wrong z)) ∙ file_in_rows ps ks;
    value = λ name k. first_found name (λ z. let same : Some true ≡ Some false = sym k ∙ z in cc) ∙ value_in_rows ps name ks k;
    no_value = λ name other_kind. no_value_in ps name ks other_kind;
    given = λ name s. ap (is_in_rows name) d.same ∙ (in_first rows d.extra name (not_in_extra options d.extra name d.defaults)
        ∙ (ap (is_in_rows name) e ∙ given_in_rows ps name ks (option_apart name (lookup (bytes_eq name) options) refl s)));
    not_given = λ name k. not_given_in ps name ks k;
    filled = f;
  }
    where
      wrong : lookup (bytes_eq file_id) options ≡ Some false → ⊥
      wrong z = let none : Some false ≡ None = sym z ∙ no_file in cc

      first_found : (name : Text) → (lookup (bytes_eq name) options ≡ Some false → ⊥) → first_of name new ≡ first_of name (map row_of ps)
      first_found name no_flag = ap (first_of name) d.same
          ∙ (ap (option_and_then (λ (r : Row). slice_get r.values 0)) (find_first rows d.extra name (not_default options d.extra name d.defaults no_flag)) ∙ ap (first_of name) e)

-- ---- the theorem

abbrev from_start : Walk
from_start = walk_at (held_at [] None) idle 1 false

faults_run : (options : Options) (arguments : List Text) → command_faults options arguments ≡ run_fault options from_start arguments
unfolding command_faults
faults_run options arguments = ap (λ (b : App). built_fault b nothing_held arguments) (command_built options)
    ∙ leaf_fault (let a : App = record { top = built_shape options; subs = [] } in a) nothing_held arguments refl

rows_run : (options : Options) (arguments : List Text) → command_rows options arguments ≡ fold with_default (end_rows options from_start arguments) (built_rules options)
unfolding command_rows
rows_run options arguments = ap (λ (b : App). rows_after b.top.rules (names_of b) arguments) (command_built options)

agreed : (options : Options) (arguments : List Text) → IsTable options → HaveCharacters arguments → Agrees options (filled_parts_of options arguments) from_start arguments
unfolding parts_of
agreed options arguments table t = agree_from_start options table.no_file arguments t

-- clap refuses what the rules don't allow
pub refused : (options : Options) (arguments : List Text) → IsTable options → HaveCharacters arguments → (command_faults options arguments ≡ [] → ⊥) → filled_parts_of options arguments ≡ None
refused options arguments table t bad = by_parts (filled_parts_of options arguments) (agreed options arguments table t)
  where
    by_parts : (r : Option (List PartView)) → Agrees options r from_start arguments → r ≡ None
    by_parts None a = refl
    by_parts (Some parts) a = absurd (bad (faults_run options arguments ∙ a.taken))

-- rows tell the parts that the arguments give
pub record Tell (options : Options) (arguments : List Text) (rows : List Row) : Type 0 where
  pub told : TellParts options rows
  pub parts : Some (parts_in options rows) ≡ filled_parts_of options arguments

-- and what clap takes are the parts
pub taken : (options : Options) (arguments : List Text) → IsTable options → HaveCharacters arguments → command_faults options arguments ≡ [] → Tell options arguments (command_rows options arguments)
taken options arguments table t free = by_parts (filled_parts_of options arguments) (agreed options arguments table t) refl
  where
    by_parts : (r : Option (List PartView)) → Agrees options r from_start arguments → filled_parts_of options arguments ≡ r → Tell options arguments (command_rows options arguments)
    by_parts None a e = absurd (a (sym (faults_run options arguments) ∙ free))
    by_parts (Some ps) a e =
        let rows : List Row = end_rows options from_start arguments in
        let new : List Row = fold with_default rows (built_rules options) in
        let d : Defaulted options rows new = rows_defaulted options rows table in
        let same : parts_in options (command_rows options arguments) ≡ ps = ap (parts_in options) (rows_run options arguments) ∙ rows_tell options table.no_file rows new ps a.rows d a.known in
        let answer : AreRowsOf options new ps = rows_answer options table.no_file rows new ps a.rows d a.known a.filled in
        record {
          told = rw same (rw (rows_run options arguments) answer);
          parts = ap Some same ∙ sym e;
        }
