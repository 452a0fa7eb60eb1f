-- The bodies of functions of a text of C: declarations, stores, and a return. Numbers in
-- parentheses are sections of ISO/IEC 9899:1999.
use Rattle.std.specs.Prelude.{ℕ, Bool, false, not, ◌==◌, ◌&&◌, if◌then◌else◌}
use Rattle.std.specs.Prelude.{List, [], ◌∷◌, ◌++◌, codes, Option, Some, None, option_map}
use Rattle.std.specs.List.{list_any}
use Rattle.std.specs.Option.{option_and_then}
use Rattle.std.specs.Str.{bytes_eq, byte}
use Rattle.dsv_command.specs.CodeNames.{keywords, ends_as_stdint, starts_name}
use Rattle.dsv_c.specs.Programs.{helper_order}
use Rattle.dsv_c.specs.Syntax.{Expr, Declaration, Store}
use Rattle.dsv_c_reading.specs.Lexemes.{Lexeme, Word, Digits, Mark, Points, Line}
use Rattle.dsv_c_reading.specs.Expressions.{Scope, place_of, type_named, helper_name, expr_of}

-- ---- names that may be declared
abbrev pub is_helper_name : List ℕ → Bool
is_helper_name name = list_any (λ h. bytes_eq (helper_name h) name) helper_order

-- no keyword (6.4.1), no name of <stdint.h> (7.18) or of a helper function, and not `s`; it doesn't
-- begin with `_` (7.1.3)
abbrev pub is_free : List ℕ → Bool
is_free name = starts_name name && (not (list_any (bytes_eq name) keywords)
    && (not (ends_as_stdint name)
    && (not (is_helper_name name) && not (bytes_eq name (codes "s")))))

-- none of these has the name yet (6.7)
abbrev pub is_new : List ℕ → List (List ℕ) → Bool
is_new name names = is_free name && not (list_any (λ n. bytes_eq n name) names)

-- ---- lines
-- the first token is this word
abbrev pub begins : List ℕ → List Lexeme → Bool
begins word [] = false
begins word (Word w ∷ ls) = bytes_eq w word
begins word (Digits n ∷ ls) = false
begins word (Mark m ∷ ls) = false
begins word (Points ∷ ls) = false
begins word (Line l ∷ ls) = false

-- a local under its name
pub record NamedLocal : Type 0 where
  pub name : List ℕ
  pub declaration : Declaration

-- const type name = value (6.7.8)
abbrev pub local_of : Scope → List ℕ → List ℕ → List Lexeme → Option NamedLocal
local_of scope t name value = if is_new name scope.locals
    then option_and_then (λ type. option_map
    (λ e. record { name = name; declaration = record { type = type; value = e } })
    (expr_of scope value)) (type_named t) else None

abbrev pub declaration_of : Scope → List Lexeme → Option NamedLocal
declaration_of scope (Word c ∷ Word t ∷ Word name ∷ Mark m ∷ value) =
    if bytes_eq c (codes "const") && m == byte "=" then local_of scope t name value else None
declaration_of scope other = None

-- s->name = value (6.5.16.1)
abbrev pub stored : Scope → List ℕ → List Lexeme → Option Store
stored scope name value = option_and_then (λ k. option_map
    (λ e. record { member = k; value = e }) (expr_of scope value)) (place_of name scope.members)

abbrev pub store_of : Scope → List Lexeme → Option Store
store_of scope (Word s ∷ Points ∷ Word name ∷ Mark m ∷ value) =
    if bytes_eq s (codes "s") && m == byte "=" then stored scope name value else None
store_of scope other = None

-- return value (6.8.6.4)
abbrev pub return_of : Scope → List Lexeme → Option Expr
return_of scope (Word r ∷ value) =
    if bytes_eq r (codes "return") then expr_of scope value else None
return_of scope other = None

-- ---- bodies
-- locals; stores; return value;
pub record Body : Type 0 where
  pub locals : List Declaration
  pub stores : List Store
  pub value : Expr

abbrev pub with_local : Declaration → Body → Body
with_local d b = record { locals = d ∷ b.locals; stores = b.stores; value = b.value }

abbrev pub with_store : Store → Body → Option Body
with_store s b = elim b.locals [
  | [] ↦ Some (record { locals = []; stores = s ∷ b.stores; value = b.value })
  | d ∷ ds ↦ None
]

-- a return is the last line
abbrev pub last_line : Option Expr → List (List Lexeme) → Option Body
last_line value [] = option_map (λ e. record { locals = []; stores = []; value = e }) value
last_line value (l ∷ ls) = None

abbrev pub scope_with : Scope → List ℕ → Scope
scope_with scope name =
    record { locals = scope.locals ++ name ∷ []; members = scope.members }

-- each local is declared before what reads it, and stands before all stores
abbrev pub body_of : Scope → List (List Lexeme) → Option Body
body_of scope [] = None
body_of scope (l ∷ ls) = if begins (codes "const") l
    then option_and_then (λ d. option_map (with_local d.declaration)
    (body_of (scope_with scope d.name) ls)) (declaration_of scope l)
    else if begins (codes "return") l then last_line (return_of scope l) ls
    else option_and_then (λ s. option_and_then (with_store s) (body_of scope ls))
    (store_of scope l)

-- stores alone
abbrev pub stores_of : Scope → List (List Lexeme) → Option (List Store)
stores_of scope [] = Some []
stores_of scope (l ∷ ls) =
    option_and_then (λ s. option_map (λ ss. s ∷ ss) (stores_of scope ls)) (store_of scope l)
