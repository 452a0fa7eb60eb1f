-- Expressions of a text of C: its tokens as those of the grammar of expressions, with names as
-- numbers, and what that grammar reads.
use Rattle.std.specs.Prelude.{ℕ, suc, ◌==◌, if◌then◌else◌, List, [], ◌∷◌, length, codes}
use Rattle.std.specs.Prelude.{Option, Some, None, option_map, pos}
use Rattle.std.specs.Option.{option_and_then}
use Rattle.std.specs.Str.{bytes_eq, byte}
use Rattle.dsv_lines.specs.Numerals.{negative_number}
use Rattle.dsv_names.specs.Names.{value_named}
use Rattle.dsv_c.specs.declared.c_type.CType.{CType}
use Rattle.dsv_c.specs.declared.c_type.CType.TheVariants.{Int, Int32, Int64}
use Rattle.dsv_c.specs.Programs.{helper_order}
use Rattle.dsv_c.specs.Syntax.{Helper, Rounded, Fitted, Expr}
use Rattle.dsv_ctext.specs.Texts.{type_name}
use Rattle.dsv_ctext.specs.Tokens.{Token, Number, Name, Arrow, ToType, Calling, Open, Close, Star}
use Rattle.dsv_ctext.specs.Tokens.{Cross, Dash, Slash, And, Hat, Below, Then, Else}
use Rattle.dsv_ctext.specs.Tokens.{Got, whole_of, operand_of}
use Rattle.dsv_c_reading.specs.Lexemes.{Lexeme, Word, Digits, Mark, Points, Line}
use Rattle.dsv_c_reading.specs.Machines.{Gone, gone, after_out, steps}

-- ---- names
-- the names that are declared: those of the parameter and the locals, and those of the members
pub record Scope : Type 0 where
  pub locals : List (List ℕ)
  pub members : List (List ℕ)

-- the place of the first name that is this one
abbrev pub place_of : List ℕ → List (List ℕ) → Option ℕ
place_of name [] = None
place_of name (n ∷ ns) = if bytes_eq n name then Some 0 else option_map suc (place_of name ns)

abbrev pub c_types : List CType
c_types = Int ∷ Int32 ∷ Int64 ∷ []

abbrev pub type_named : List ℕ → Option CType
type_named text = value_named type_name c_types text

abbrev pub helper_name : Helper → List ℕ
helper_name (Rounded Int) = codes "rounded16"
helper_name (Rounded Int32) = codes "rounded32"
helper_name (Rounded Int64) = codes "rounded64"
helper_name (Fitted Int) = codes "word16"
helper_name (Fitted Int32) = codes "word32"
helper_name (Fitted Int64) = codes "word64"

abbrev pub helper_named : List ℕ → Option Helper
helper_named text = value_named helper_name helper_order text

-- ---- the tokens of an expression
-- what stands before a token
pub data Before : Type 0 where
  -- an operand is wanted
  operator : Before
  -- an operand
  operand : Before
  -- a minus where an operand is wanted
  sign : Before
  -- `s` and `s->`
  state : Before
  arrow : Before
  -- a parenthesis where an operand is wanted, and one with a type
  parenthesis : Before
  type : CType → Before
  -- the name of a helper function
  helper : Helper → Before

abbrev pub gives : List Token → Before → Option (Gone Before Token)
gives out before = Some (gone out before)

-- a word where an operand is wanted
abbrev pub word_or_name : Scope → List ℕ → Option Helper → Option (Gone Before Token)
word_or_name scope w (Some h) = gives [] (helper h)
word_or_name scope w None = if bytes_eq w (codes "s") then gives [] state else
    option_and_then (λ k. gives (Name k ∷ []) operand) (place_of w scope.locals)

abbrev pub wanted_word : Scope → List ℕ → Option (Gone Before Token)
wanted_word scope w = word_or_name scope w (helper_named w)

abbrev pub wanted_mark : ℕ → Option (Gone Before Token)
wanted_mark m = if m == byte "-" then gives [] sign else
    if m == byte "(" then gives [] parenthesis else None

-- a token where an operand is wanted
abbrev pub wanted : Scope → Lexeme → Option (Gone Before Token)
wanted scope (Word w) = wanted_word scope w
wanted scope (Digits n) = gives (Number (pos n) ∷ []) operand
wanted scope (Mark m) = wanted_mark m
wanted scope Points = None
wanted scope (Line l) = None

-- a punctuator after an operand
abbrev pub operator_mark : ℕ → Option (Gone Before Token)
operator_mark m = if m == byte "*" then gives (Star ∷ []) operator else
    if m == byte "+" then gives (Cross ∷ []) operator else
    if m == byte "-" then gives (Dash ∷ []) operator else
    if m == byte "/" then gives (Slash ∷ []) operator else
    if m == byte "&" then gives (And ∷ []) operator else
    if m == byte "^" then gives (Hat ∷ []) operator else
    if m == byte "<" then gives (Below ∷ []) operator else
    if m == byte "?" then gives (Then ∷ []) operator else
    if m == byte ":" then gives (Else ∷ []) operator else
    if m == byte ")" then gives (Close ∷ []) operand else None

abbrev pub after_operand : Lexeme → Option (Gone Before Token)
after_operand (Word w) = None
after_operand (Digits n) = None
after_operand (Mark m) = operator_mark m
after_operand Points = None
after_operand (Line l) = None

abbrev pub after_sign : Lexeme → Option (Gone Before Token)
after_sign (Word w) = None
after_sign (Digits n) = gives (Number (negative_number n) ∷ []) operand
after_sign (Mark m) = None
after_sign Points = None
after_sign (Line l) = None

abbrev pub after_state : Lexeme → Option (Gone Before Token)
after_state (Word w) = None
after_state (Digits n) = None
after_state (Mark m) = None
after_state Points = gives [] arrow
after_state (Line l) = None

abbrev pub after_arrow : Scope → Lexeme → Option (Gone Before Token)
after_arrow scope (Word w) =
    option_and_then (λ k. gives (Arrow k ∷ []) operand) (place_of w scope.members)
after_arrow scope (Digits n) = None
after_arrow scope (Mark m) = None
after_arrow scope Points = None
after_arrow scope (Line l) = None

-- a parenthesis that no type follows begins an operand
abbrev pub opened : Scope → Lexeme → Option (Gone Before Token)
opened scope l = option_map (after_out (Open ∷ [])) (wanted scope l)

abbrev pub type_or_word : Scope → List ℕ → Option CType → Option (Gone Before Token)
type_or_word scope w (Some t) = gives [] (type t)
type_or_word scope w None = opened scope (Word w)

abbrev pub after_parenthesis : Scope → Lexeme → Option (Gone Before Token)
after_parenthesis scope (Word w) = type_or_word scope w (type_named w)
after_parenthesis scope (Digits n) = opened scope (Digits n)
after_parenthesis scope (Mark m) = opened scope (Mark m)
after_parenthesis scope Points = None
after_parenthesis scope (Line l) = None

-- just this punctuator, which makes a token
abbrev pub only_mark : ℕ → Token → Lexeme → Option (Gone Before Token)
only_mark wanted token (Word w) = None
only_mark wanted token (Digits n) = None
only_mark wanted token (Mark m) = if m == wanted then gives (token ∷ []) operator else None
only_mark wanted token Points = None
only_mark wanted token (Line l) = None

abbrev pub token_next : Scope → Before → Lexeme → Option (Gone Before Token)
token_next scope operator l = wanted scope l
token_next scope operand l = after_operand l
token_next scope sign l = after_sign l
token_next scope state l = after_state l
token_next scope arrow l = after_arrow scope l
token_next scope parenthesis l = after_parenthesis scope l
token_next scope (type t) l = only_mark (byte ")") (ToType t) l
token_next scope (helper h) l = only_mark (byte "(") (Calling h) l

-- ---- expressions
-- nothing is left
abbrev pub all_read : Got → Option Expr
all_read g = elim g.rest [
  | [] ↦ Some g.expr
  | t ∷ ts ↦ None
]

-- what tokens after which an operand stands are read as
abbrev pub expr_from : Gone Before Token → Option Expr
expr_from g = elim g.state [
  | operator ↦ None
  | operand ↦ option_and_then all_read (whole_of (operand_of (length g.out)) g.out)
  | sign ↦ None
  | state ↦ None
  | arrow ↦ None
  | parenthesis ↦ None
  | type t ↦ None
  | helper h ↦ None
]

abbrev pub expr_of : Scope → List Lexeme → Option Expr
expr_of scope ls = option_and_then expr_from (steps (token_next scope) operator ls)
