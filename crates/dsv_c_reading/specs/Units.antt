-- A text of C as a program: a line that includes <stdint.h>, a struct, helper functions, and two
-- functions over the struct, NAME_init and NAME_step. Numbers in parentheses are sections of
-- ISO/IEC 9899:1999.
use Rattle.std.specs.Prelude.{ℕ, ◌-◌, Bool, false, ◌==◌, ◌&&◌, if◌then◌else◌}
use Rattle.std.specs.Prelude.{List, [], ◌∷◌, ◌++◌, length, map, take, drop, codes}
use Rattle.std.specs.Prelude.{Option, Some, None, option_map}
use Rattle.std.specs.List.{list_all}
use Rattle.std.specs.Option.{option_and_then}
use Rattle.std.specs.Str.{bytes_eq, byte}
use Rattle.dsv_c.specs.Meaning.{is_same_type}
use Rattle.dsv_c.specs.Programs.{has_helper}
use Rattle.dsv_c.specs.Syntax.{Helper, NamedFunction, Program, Store}
use Rattle.dsv_c.specs.declared.c_type.CType.{CType}
use Rattle.dsv_c.specs.declared.c_type.CType.TheVariants.{Int32}
use Rattle.dsv_c_reading.specs.Bodies.{Body, begins, body_of, stores_of, is_new}
use Rattle.dsv_c_reading.specs.Expressions.{Scope, type_named, helper_named}
use Rattle.dsv_c_reading.specs.Items.{Item, items_of}
use Rattle.dsv_c_reading.specs.Lexemes.{Lexeme, Word, Digits, Mark, Points, Line, lexemes_of}

-- what was read: NAME, the names of the members, and the program
pub record CUnit : Type 0 where
  pub prefix : List ℕ
  pub members : List (List ℕ)
  pub program : Program

-- ---- the struct
pub record Field : Type 0 where
  pub type : CType
  pub name : List ℕ

-- type name, where those before it have other names (6.7.2.1)
abbrev pub field_of : List (List ℕ) → List Lexeme → Option Field
field_of names (Word t ∷ Word name ∷ []) = if is_new name names
    then option_map (λ type. record { type = type; name = name }) (type_named t) else None
field_of names other = None

abbrev pub fields_of : List (List ℕ) → List (List Lexeme) → Option (List Field)
fields_of names [] = Some []
fields_of names (l ∷ ls) = option_and_then (λ f. option_map (λ fs. f ∷ fs)
    (fields_of (names ++ f.name ∷ []) ls)) (field_of names l)

-- typedef struct { fields }
abbrev pub struct_of : Item → Option (List Field)
struct_of item = elim item.head [
  | [] ↦ None
  | l ∷ ls ↦ if begins (codes "typedef") (l ∷ ls) && begins (codes "struct") ls
      && length ls == 1 then fields_of [] item.lines else None
]

-- the one field of a struct without registers, which has one since a struct has a member (6.7.2.1)
abbrev pub is_unused : Field → Bool
is_unused f = is_same_type f.type Int32 && bytes_eq f.name (codes "none")

-- the fields that are registers
abbrev pub registers_of : List Field → List Field
registers_of [] = []
registers_of (f ∷ []) = if is_unused f then [] else f ∷ []
registers_of (f ∷ g ∷ fs) = f ∷ g ∷ fs

-- all have the type
abbrev pub have_type : CType → List Field → Bool
have_type type fields = list_all (λ f. is_same_type f.type type) fields

abbrev pub names_of : List Field → List (List ℕ)
names_of fields = map (λ f. f.name) fields

-- ---- after the struct: NAME_state;
abbrev pub state_end : List ℕ
state_end = codes "_state"

-- the name before an end
abbrev pub name_before : List ℕ → List ℕ → Option (List ℕ)
name_before end name = if bytes_eq (drop (length name - length end) name) end
    then Some (take (length name - length end) name) else None

pub record AfterStruct : Type 0 where
  pub prefix : List ℕ
  pub head : List Lexeme

abbrev pub after_struct : List Lexeme → Option AfterStruct
after_struct (Word w ∷ Mark m ∷ head) = if m == byte ";"
    then option_map (λ prefix. record { prefix = prefix; head = head }) (name_before state_end w)
    else None
after_struct other = None

-- ---- helper functions
abbrev pub no_members : List ℕ → Scope
no_members parameter = record { locals = parameter ∷ []; members = [] }

-- a function without stores
abbrev pub function_with : Helper → CType → CType → Body → Option NamedFunction
function_with name result parameter b = elim b.stores [
  | [] ↦ Some (record {
    name = name;
    function = record {
      parameter = parameter;
      locals = b.locals;
      value = b.value;
      result = result;
    };
  })
  | s ∷ ss ↦ None
]

abbrev pub named_body : Option Helper → Option CType → Option CType → Option Body
    → Option NamedFunction
named_body name result parameter body = option_and_then (λ h. option_and_then (λ t.
    option_and_then (λ u. option_and_then (function_with h t u) body) parameter) result) name

-- static result name(parameter v) (6.9.1)
abbrev pub function_read : List Lexeme → List (List Lexeme) → Option NamedFunction
function_read (Word s ∷ Word t ∷ Word name ∷ Mark o ∷ Word u ∷ Word v ∷ Mark c ∷ []) lines =
    if (bytes_eq s (codes "static") && o == byte "(") && (c == byte ")" && is_new v [])
    then named_body (helper_named name) (type_named t) (type_named u)
    (body_of (no_members v) lines) else None
function_read other lines = None

-- the static functions, none of which is defined twice (6.9), and what stands after them
pub record Functions : Type 0 where
  pub functions : List NamedFunction
  pub rest : List Item

abbrev pub with_function : NamedFunction → Functions → Option Functions
with_function f fs = if has_helper f.name (map (λ g. g.name) fs.functions) then None
    else Some (record { functions = f ∷ fs.functions; rest = fs.rest })

abbrev pub functions_of : List Item → Option Functions
functions_of [] = Some (record { functions = []; rest = [] })
functions_of (i ∷ items) = if begins (codes "static") i.head
    then option_and_then (λ f. option_and_then (with_function f) (functions_of items))
    (function_read i.head i.lines)
    else Some (record { functions = []; rest = i ∷ items })

-- ---- NAME_init and NAME_step
-- void NAME_init(NAME_state *s)
abbrev pub is_init : List ℕ → List Lexeme → Bool
is_init prefix (Word v ∷ Word n ∷ Mark o ∷ Word p ∷ Mark a ∷ Word s ∷ Mark c ∷ []) =
    ((bytes_eq v (codes "void") && bytes_eq n (prefix ++ codes "_init"))
    && (o == byte "(" && bytes_eq p (prefix ++ state_end)))
    && (a == byte "*" && (bytes_eq s (codes "s") && c == byte ")"))
is_init prefix other = false

-- word NAME_step(NAME_state *s, word x)
abbrev pub step_word : List ℕ → List Lexeme → Option CType
step_word prefix (Word t ∷ Word n ∷ Mark o ∷ Word p ∷ Mark a ∷ Word s ∷ Mark b ∷ Word u ∷ Word x
    ∷ Mark c ∷ []) = if (bytes_eq n (prefix ++ codes "_step")
    && (o == byte "(" && bytes_eq p (prefix ++ state_end)))
    && ((a == byte "*" && (bytes_eq s (codes "s") && b == byte ","))
    && (bytes_eq u t && (bytes_eq x (codes "x") && c == byte ")")))
    then type_named t else None
step_word prefix other = None

-- s->none = 0
abbrev pub stores_none : List Lexeme → Bool
stores_none (Word s ∷ Points ∷ Word n ∷ Mark e ∷ Digits z ∷ []) =
    (bytes_eq s (codes "s") && bytes_eq n (codes "none")) && (e == byte "=" && z == 0)
stores_none other = false

-- the lines, but for the first one of a struct without registers, which stores its one field
abbrev pub used_lines : List Field → List (List Lexeme) → Option (List (List Lexeme))
used_lines (f ∷ fields) lines = Some lines
used_lines [] [] = None
used_lines [] (l ∷ ls) = if stores_none l then Some ls else None

abbrev pub start_of : Scope → List Field → List (List Lexeme) → Option (List Store)
start_of scope fields lines = option_and_then (stores_of scope) (used_lines fields lines)

abbrev pub step_of : Scope → List Field → List (List Lexeme) → Option Body
step_of scope fields lines = option_and_then (body_of scope) (used_lines fields lines)

-- ---- the whole
abbrev pub unit_of : List ℕ → List Field → List NamedFunction → CType → List Store → Body → CUnit
unit_of prefix fields functions word start b = record {
  prefix = prefix;
  members = names_of fields;
  program = record {
    word = word;
    functions = functions;
    start = start;
    locals = b.locals;
    stores = b.stores;
    value = b.value;
  };
}

-- the scopes of NAME_init, which has no parameter but s, and of NAME_step
abbrev pub init_scope : List Field → Scope
init_scope fields = record { locals = []; members = names_of fields }

abbrev pub step_scope : List Field → Scope
step_scope fields = record { locals = codes "x" ∷ []; members = names_of fields }

-- of both functions, if the fields have the type of words
abbrev pub both_read : List ℕ → List Field → List NamedFunction → CType → List (List Lexeme)
    → List (List Lexeme) → Option CUnit
both_read prefix fields functions word init step = if have_type word fields
    then option_and_then (λ start. option_map (unit_of prefix fields functions word start)
    (step_of (step_scope fields) fields step)) (start_of (init_scope fields) fields init)
    else None

abbrev pub last_functions : List ℕ → List Field → Functions → Option CUnit
last_functions prefix fields fs = elim fs.rest [
  | [] ↦ None
  | i ∷ is ↦ elim is [
    | [] ↦ None
    | j ∷ js ↦ elim js [
      | [] ↦ if is_init prefix i.head then option_and_then
          (λ word. both_read prefix fields fs.functions word i.lines j.lines)
          (step_word prefix j.head) else None
      | k ∷ ks ↦ None
    ]
  ]
]

-- the pieces after the struct
abbrev pub pieces_read : List Field → List Item → Option CUnit
pieces_read fields [] = None
pieces_read fields (i ∷ items) = option_and_then (λ a. option_and_then
    (last_functions a.prefix (registers_of fields))
    (functions_of (record { head = a.head; lines = i.lines } ∷ items))) (after_struct i.head)

abbrev pub items_read : List Item → Option CUnit
items_read [] = None
items_read (i ∷ items) = option_and_then (λ fields. pieces_read fields items) (struct_of i)

-- after the line that includes <stdint.h>
abbrev pub after_include : List Lexeme → Option (List Lexeme)
after_include (Line l ∷ ls) = if bytes_eq l (codes "include <stdint.h>") then Some ls else None
after_include other = None

abbrev pub tokens_read : List Lexeme → Option CUnit
tokens_read ls =
    option_and_then (λ rest. option_and_then items_read (items_of rest)) (after_include ls)

-- what a text of C is read as, from its bytes
abbrev pub unit_in : List ℕ → Option CUnit
unit_in text = option_and_then tokens_read (lexemes_of text)
