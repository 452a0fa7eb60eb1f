-- What clap holds of parts, and what one more use of an argument makes of it.
use Rattle.std.proofs.Common.{◌≡◌, ◌∙◌, ℕ, suc, ◌==◌, Bool, true, false, cond, ◌&&◌, ◌||◌, List, [], ◌∷◌, ◌++◌, map, length, nat_lt, Option, Some, None, refl, sym, ap, ap₂, codes, option_map, append-nil, arith}
use Rattle.std.specs.Map.{lookup}
use Rattle.std.specs.Str.{bytes_eq}
use Rattle.std.proofs.lemmas.Bool.Decides.{nat_tests}
use Rattle.std.proofs.lemmas.List.{map-append}
use Rattle.clap.specs.Walk.{Held, Row, Rule, Text, arg_by_id, at_row, has_row, more_values, settled, used}
use Rattle.clap.specs.Faults.{settle_fault, use_fault}
use Rattle.clap.specs.Kinds.{Kinds, or_else}
use Rattle.clap.specs.declared.builder.value_parser.Reading.TheVariants.{AsWritten}
use Rattle.clap.specs.declared.parser.matches.ValueSource.TheVariants.{CommandLine}
use Rattle.clap.specs.declared.error.kind.ErrorKind.TheVariants.{ArgumentConflict, InvalidValue}
use Rattle.dsv_command.specs.ClapCommand.{file_id}
use Rattle.dsv_command.specs.Parts.{PartView, file, flag, choice, Key, for_file, for_option, key_of, is_same_key, has_key, is_empty_part}
use Rattle.dsv_command.proofs.ClapLooks.{neither}
use Rattle.dsv_command.proofs.ClapRules.{Options, built_file, built_rules, rule_named, by_id, either_way, same_text}

-- ---- parts as clap sees them

abbrev pub id_of : PartView → Text
id_of (file text) = file_id
id_of (flag name) = name
id_of (choice name value) = name

-- the values of a part's use
abbrev pub values_of : PartView → List Text
values_of (file text) = text ∷ []
values_of (flag name) = []
values_of (choice name value) = value ∷ []

abbrev pub rule_of : PartView → Rule
rule_of (file text) = built_file
rule_of (flag name) = rule_named name false
rule_of (choice name value) = rule_named name true

-- the values that stand in the part's row
abbrev pub row_values : PartView → List Text
row_values (file text) = text ∷ []
row_values (flag name) = codes "true" ∷ []
row_values (choice name value) = value ∷ []

abbrev pub row_of : PartView → Row
row_of part = record {
  id = id_of part;
  values = row_values part;
  count = None;
  source = Some CommandLine;
  reading = AsWritten;
}

-- a part's option is in the table
abbrev pub IsKnown : Options → PartView → Type 0
IsKnown options (file text) = Unit {0}
IsKnown options (flag name) = lookup (bytes_eq name) options ≡ Some false
IsKnown options (choice name value) = lookup (bytes_eq name) options ≡ Some true

abbrev pub AreKnown : Options → List PartView → Type 0
AreKnown options [] = Unit {0}
AreKnown options (p ∷ ps) = IsKnown options p × AreKnown options ps

pub known_more : (options : Options) (ps : List PartView) (p : PartView) → AreKnown options ps → IsKnown options p → AreKnown options (ps ++ p ∷ [])
known_more options [] p ks k = (k, tt)
known_more options (q ∷ ps) p ks k = (ks.0, known_more options ps p ks.1 k)

-- the table has no option of FILE's id
abbrev pub HasNoFile : Options → Type 0
HasNoFile options = lookup (bytes_eq file_id) options ≡ None

by_test : (options : Options) (name : Text) (takes_value t : Bool) → lookup (bytes_eq file_id) options ≡ None → lookup (bytes_eq name) options ≡ Some takes_value → bytes_eq file_id name ≡ t → t ≡ false
by_test options name takes_value false n e f = refl
by_test options name takes_value true n e f = let same : file_id ≡ name = same_text file_id name f in let none : Some takes_value ≡ None = sym e ∙ (ap (λ x. lookup (bytes_eq x) options) (sym same) ∙ n) in cc

-- an option of the table hasn't FILE's id
pub not_file : (options : Options) (name : Text) (takes_value : Bool) → HasNoFile options → lookup (bytes_eq name) options ≡ Some takes_value → bytes_eq file_id name ≡ false
not_file options name takes_value n e = by_test options name takes_value (bytes_eq file_id name) n e refl

-- ---- keys and ids

abbrev pub key_id : Key → Text
key_id for_file = file_id
key_id (for_option name) = name

abbrev pub IsNamed : Key → Type 0
IsNamed for_file = Unit {0}
IsNamed (for_option name) = bytes_eq file_id name ≡ false

pub named : (options : Options) (p : PartView) → HasNoFile options → IsKnown options p → IsNamed (key_of p)
named options (file text) n k = tt
named options (flag name) n k = not_file options name false n k
named options (choice name value) n k = not_file options name true n k

same_ids : (j k : Key) → IsNamed j → IsNamed k → bytes_eq (key_id j) (key_id k) ≡ is_same_key j k
same_ids for_file for_file h i = refl
same_ids for_file (for_option b) h i = i
same_ids (for_option a) for_file h i = either_way a file_id ∙ h
same_ids (for_option a) (for_option b) h i = refl

id_by_key : (p : PartView) → id_of p ≡ key_id (key_of p)
id_by_key (file text) = refl
id_by_key (flag name) = refl
id_by_key (choice name value) = refl

pub same_id : (options : Options) (p : PartView) (k : Key) → HasNoFile options → IsKnown options p → IsNamed k → bytes_eq (id_of p) (key_id k) ≡ is_same_key (key_of p) k
same_id options p k n h i = ap (λ id. bytes_eq id (key_id k)) (id_by_key p) ∙ same_ids (key_of p) k (named options p n h) i

-- where nothing is given for a key, a row of its id comes last
absent : (options : Options) (k : Key) (ps : List PartView) (change : Row → List Row) (missing : List Row) → HasNoFile options → AreKnown options ps → IsNamed k → has_key k ps ≡ false
    → at_row (key_id k) change missing (map row_of ps) ≡ map row_of ps ++ missing
absent options k [] change missing n ks i e = refl
absent options k (p ∷ ps) change missing n ks i e =
    let both = neither (is_same_key (key_of p) k) (has_key k ps) e in
    let other : bytes_eq (id_of p) (key_id k) ≡ false = same_id options p k n ks.0 i ∙ both.0 in
    rw (other, absent options k ps change missing n ks.1 i both.1) refl

pub has_row_at : (options : Options) (k : Key) (ps : List PartView) → HasNoFile options → AreKnown options ps → IsNamed k → has_row (key_id k) (map row_of ps) ≡ has_key k ps
has_row_at options k [] n ks i = refl
has_row_at options k (p ∷ ps) n ks i = ap₂ (λ a b. a || b) (same_id options p k n ks.0 i) (has_row_at options k ps n ks.1 i)

-- ---- one use of an argument

-- what is done to a row that was there already
abbrev merged : PartView → Row → List Row
merged p = more_values CommandLine (row_values p)

pushed_row : (options : Options) (k : Key) (ps : List PartView) (p : PartView) → HasNoFile options → AreKnown options ps → IsNamed k → has_key k ps ≡ false
    → at_row (key_id k) (merged p) (row_of p ∷ []) (at_row (key_id k) (λ _. []) [] (map row_of ps)) ≡ map row_of (ps ++ p ∷ [])
pushed_row options k ps p n ks i e =
    ap (at_row (key_id k) (merged p) (row_of p ∷ [])) (absent options k ps (λ _. []) [] n ks i e ∙ append-nil (map row_of ps))
    ∙ (absent options k ps (merged p) (row_of p ∷ []) n ks i e ∙ sym (map-append row_of ps (p ∷ [])))

-- a use is one more row
pub used_part : (options : Options) (ps : List PartView) (p : PartView) → HasNoFile options → AreKnown options ps → IsKnown options p → has_key (key_of p) ps ≡ false
    → used (rule_of p) (values_of p) (map row_of ps) ≡ map row_of (ps ++ p ∷ [])
used_part options ps (file text) n ks k e = pushed_row options for_file ps (file text) n ks tt e
used_part options ps (flag name) n ks k e = pushed_row options (for_option name) ps (flag name) n ks (named options (flag name) n k) e
used_part options ps (choice name value) n ks k e = pushed_row options (for_option name) ps (choice name value) n ks (named options (choice name value) n k) e

-- why a use is refused: it is not the first, or its value is empty
abbrev pub use_kinds : Bool → Bool → Kinds
use_kinds again empty = cond again (ArgumentConflict ∷ []) (cond empty (InvalidValue ∷ []) [])

some_less : (n : ℕ) → nat_lt 0 (suc n) ≡ true
some_less n = grind (arith, nat_tests)

not_zero : (n : ℕ) → (suc n == 0) ≡ false
not_zero n = grind (arith, nat_tests)

value_refused : (again : Bool) (text : Text) → or_else (cond (again && true) (ArgumentConflict ∷ []) []) (or_else (cond (nat_lt 0 (length text)) [] (InvalidValue ∷ [])) []) ≡ use_kinds again (length text == 0)
value_refused true text = refl
value_refused false [] = refl
value_refused false (b ∷ bs) = rw (some_less (length bs), not_zero (length bs)) refl

flag_refused : (again : Bool) → or_else (cond (again && true) (ArgumentConflict ∷ []) []) [] ≡ use_kinds again false
flag_refused true = refl
flag_refused false = refl

pub part_use_fault : (options : Options) (ps : List PartView) (p : PartView) → HasNoFile options → AreKnown options ps → IsKnown options p
    → use_fault false (rule_of p) (values_of p) (map row_of ps) ≡ use_kinds (has_key (key_of p) ps) (is_empty_part p)
part_use_fault options ps (file text) n ks k = rw (has_row_at options for_file ps n ks tt) (value_refused (has_key for_file ps) text)
part_use_fault options ps (flag name) n ks k = rw (has_row_at options (for_option name) ps n ks (named options (flag name) n k)) (flag_refused (has_key (for_option name) ps))
part_use_fault options ps (choice name value) n ks k = rw (has_row_at options (for_option name) ps n ks (named options (choice name value) n k)) (value_refused (has_key (for_option name) ps) value)

-- ---- what is pending is used

abbrev pub parts_with : List PartView → Option PartView → List PartView
parts_with ps None = ps
parts_with ps (Some p) = ps ++ p ∷ []

abbrev pub pending_of : Option PartView → Option (Text × List Text)
pending_of = option_map (λ p. (id_of p, values_of p))

abbrev pub held_at : List PartView → Option (Text × List Text) → Held
held_at ps pending = record { rows = map row_of ps; pending = pending; skip = 0 }

pub record CanBeUsed (options : Options) (ps : List PartView) (p : PartView) : Type 0 where
  pub known : IsKnown options p
  pub new : has_key (key_of p) ps ≡ false
  pub filled : is_empty_part p ≡ false

abbrev pub CanSettle : Options → List PartView → Option PartView → Type 0
CanSettle options ps None = Unit {0}
CanSettle options ps (Some p) = CanBeUsed options ps p

rule_by_id : (options : Options) (p : PartView) → HasNoFile options → IsKnown options p → arg_by_id (built_rules options) (id_of p) ≡ Some (rule_of p)
rule_by_id options (file text) n k = refl
rule_by_id options (flag name) n k = by_id options name (not_file options name false n k) ∙ ap (option_map (rule_named name)) k
rule_by_id options (choice name value) n k = by_id options name (not_file options name true n k) ∙ ap (option_map (rule_named name)) k

pub settled_at : (options : Options) (ps : List PartView) (p : Option PartView) → HasNoFile options → AreKnown options ps → CanSettle options ps p
    → settled (built_rules options) (held_at ps (pending_of p)) ≡ held_at (parts_with ps p) None
settled_at options ps None n ks c = refl
settled_at options ps (Some p) n ks c = rw (rule_by_id options p n c.known) (ap (λ rows. let h : Held = record { rows = rows; pending = None; skip = 0 } in h) (used_part options ps p n ks c.known c.new))

pub settle_fault_at : (options : Options) (ps : List PartView) (p : PartView) → HasNoFile options → AreKnown options ps → IsKnown options p
    → settle_fault (built_rules options) false (held_at ps (pending_of (Some p))) ≡ use_kinds (has_key (key_of p) ps) (is_empty_part p)
settle_fault_at options ps p n ks k = rw (rule_by_id options p n k) (part_use_fault options ps p n ks k)

pub settle_ok : (options : Options) (ps : List PartView) (p : Option PartView) → HasNoFile options → AreKnown options ps → CanSettle options ps p
    → settle_fault (built_rules options) false (held_at ps (pending_of p)) ≡ []
settle_ok options ps None n ks c = refl
settle_ok options ps (Some p) n ks c = settle_fault_at options ps p n ks c.known ∙ ap₂ use_kinds c.new c.filled

-- an option without its value
pub settle_wanting : (options : Options) (ps : List PartView) (name : Text) → HasNoFile options → lookup (bytes_eq name) options ≡ Some true
    → settle_fault (built_rules options) false (held_at ps (Some (name, []))) ≡ InvalidValue ∷ []
settle_wanting options ps name n k = rw (by_id options name (not_file options name true n k), k) refl
