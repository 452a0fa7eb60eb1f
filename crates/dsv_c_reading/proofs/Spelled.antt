-- The tokens of the text of a program, apart from how they are found in it.
use Rattle.std.proofs.Common.{ℕ, zero, suc, ◌+◌, ◌==◌, false, List, [], ◌∷◌, ◌++◌}
use Rattle.std.specs.Prelude.{codes, if◌then◌else◌}
use Rattle.std.specs.List.{flat_map}
use Rattle.std.specs.Str.{byte}
use Rattle.std.proofs.Math.IntN.{ℤ, pos, negsuc}
use Rattle.dsv_c.specs.declared.c_type.CType.{CType}
use Rattle.dsv_c.specs.Syntax.{Expr, Declaration, Store, NamedFunction, Program}
use Rattle.dsv_ctext.specs.HelperTexts.{helper_local}
use Rattle.dsv_ctext.specs.Texts.{member_name, local_name, type_name}
use Rattle.dsv_ctext.specs.Tokens.{Token, Number, Name, Arrow, ToType, Calling, Open, Close, Star, Cross, Dash, Slash, And, Hat, Below, Then, Else, tokens}
use Rattle.dsv_ctext.specs.declared.names.Labels.{Labels}
use Rattle.dsv_c_reading.specs.Expressions.{helper_name}
use Rattle.dsv_c_reading.specs.Items.{Item}
use Rattle.dsv_c_reading.specs.Lexemes.{Lexeme, Word, Digits, Mark, Points, Line}

-- ---- expressions
abbrev pub number_lexemes : ℤ → List Lexeme
number_lexemes (pos n) = Digits n ∷ []
number_lexemes (negsuc n) = Mark (byte "-") ∷ Digits (n + 1) ∷ []

-- the tokens of a token of the grammar, for the names of locals and of members
abbrev pub token_lexemes : (ℕ → List ℕ) → (ℕ → List ℕ) → Token → List Lexeme
token_lexemes local member (Number c) = number_lexemes c
token_lexemes local member (Name k) = Word (local k) ∷ []
token_lexemes local member (Arrow k) = Word (codes "s") ∷ Points ∷ Word (member k) ∷ []
token_lexemes local member (ToType t) = Mark (byte "(") ∷ Word (type_name t) ∷ Mark (byte ")") ∷ []
token_lexemes local member (Calling h) = Word (helper_name h) ∷ Mark (byte "(") ∷ []
token_lexemes local member Open = Mark (byte "(") ∷ []
token_lexemes local member Close = Mark (byte ")") ∷ []
token_lexemes local member Star = Mark (byte "*") ∷ []
token_lexemes local member Cross = Mark (byte "+") ∷ []
token_lexemes local member Dash = Mark (byte "-") ∷ []
token_lexemes local member Slash = Mark (byte "/") ∷ []
token_lexemes local member And = Mark (byte "&") ∷ []
token_lexemes local member Hat = Mark (byte "^") ∷ []
token_lexemes local member Below = Mark (byte "<") ∷ []
token_lexemes local member Then = Mark (byte "?") ∷ []
token_lexemes local member Else = Mark (byte ":") ∷ []

abbrev pub expr_lexemes : (ℕ → List ℕ) → (ℕ → List ℕ) → Expr → List Lexeme
expr_lexemes local member e = flat_map (token_lexemes local member) (tokens false e)

-- ---- lines, without their semicolons
abbrev pub local_line : (ℕ → List ℕ) → (ℕ → List ℕ) → ℕ → Declaration → List Lexeme
local_line local member k d = Word (codes "const") ∷ Word (type_name d.type) ∷ Word (local k) ∷ Mark (byte "=") ∷ expr_lexemes local member d.value

-- the locals, the first of which has the number k
abbrev pub local_lines : (ℕ → List ℕ) → (ℕ → List ℕ) → ℕ → List Declaration → List (List Lexeme)
local_lines local member k [] = []
local_lines local member k (d ∷ ds) = local_line local member k d ∷ local_lines local member (k + 1) ds

abbrev pub stored_line : (ℕ → List ℕ) → (ℕ → List ℕ) → Store → List Lexeme
stored_line local member s = Word (codes "s") ∷ Points ∷ Word (member s.member) ∷ Mark (byte "=") ∷ expr_lexemes local member s.value

abbrev pub stored_lines : (ℕ → List ℕ) → (ℕ → List ℕ) → List Store → List (List Lexeme)
stored_lines local member [] = []
stored_lines local member (s ∷ ss) = stored_line local member s ∷ stored_lines local member ss

abbrev pub return_line : (ℕ → List ℕ) → (ℕ → List ℕ) → Expr → List Lexeme
return_line local member e = Word (codes "return") ∷ expr_lexemes local member e

-- s->none = 0, in a struct without registers
abbrev pub none_lines : ℕ → List (List Lexeme)
none_lines many = if many == 0 then (Word (codes "s") ∷ Points ∷ Word (codes "none") ∷ Mark (byte "=") ∷ Digits 0 ∷ []) ∷ [] else []

-- ---- pieces
-- the members from number k on, so many
abbrev pub field_lines : Labels → CType → ℕ → ℕ → List (List Lexeme)
field_lines names word k zero = []
field_lines names word k (suc n) = (Word (type_name word) ∷ Word (member_name names k) ∷ []) ∷ field_lines names word (k + 1) n

abbrev pub none_field : ℕ → List (List Lexeme)
none_field many = if many == 0 then (Word (codes "int32_t") ∷ Word (codes "none") ∷ []) ∷ [] else []

abbrev pub struct_item : Labels → CType → ℕ → Item
struct_item names word many = record {
  head = Word (codes "typedef") ∷ Word (codes "struct") ∷ [];
  lines = field_lines names word 0 many ++ none_field many;
}

abbrev pub no_name : ℕ → List ℕ
no_name k = []

abbrev pub function_item : NamedFunction → Item
function_item f = record {
  head = Word (codes "static") ∷ Word (type_name f.function.result) ∷ Word (helper_name f.name) ∷ Mark (byte "(")
      ∷ Word (type_name f.function.parameter) ∷ Word (codes "v") ∷ Mark (byte ")") ∷ [];
  lines = local_lines helper_local no_name 1 f.function.locals ++ return_line helper_local no_name f.function.value ∷ [];
}

abbrev pub init_item : Labels → ℕ → Program → Item
init_item names many p = record {
  head = Word (codes "void") ∷ Word (names.prefix.now ++ codes "_init") ∷ Mark (byte "(") ∷ Word (names.prefix.now ++ codes "_state")
      ∷ Mark (byte "*") ∷ Word (codes "s") ∷ Mark (byte ")") ∷ [];
  lines = none_lines many ++ stored_lines (local_name names) (member_name names) p.start;
}

abbrev pub step_item : Labels → ℕ → Program → Item
step_item names many p = record {
  head = Word (type_name p.word) ∷ Word (names.prefix.now ++ codes "_step") ∷ Mark (byte "(") ∷ Word (names.prefix.now ++ codes "_state")
      ∷ Mark (byte "*") ∷ Word (codes "s") ∷ Mark (byte ",") ∷ Word (type_name p.word) ∷ Word (codes "x") ∷ Mark (byte ")") ∷ [];
  lines = none_lines many ++ (local_lines (local_name names) (member_name names) 1 p.locals
      ++ (stored_lines (local_name names) (member_name names) p.stores ++ return_line (local_name names) (member_name names) p.value ∷ []));
}

-- ---- the whole
abbrev pub line_lexemes : List Lexeme → List Lexeme
line_lexemes l = l ++ Mark (byte ";") ∷ []

abbrev pub item_lexemes : Item → List Lexeme
item_lexemes i = i.head ++ (Mark (byte "{") ∷ (flat_map line_lexemes i.lines ++ Mark (byte "}") ∷ []))

abbrev pub state_name : Labels → List ℕ
state_name names = names.prefix.now ++ codes "_state"

-- all tokens but the line of the preprocessor
abbrev pub program_lexemes : Labels → ℕ → Program → List Lexeme
program_lexemes names many p = item_lexemes (struct_item names p.word many) ++ (Word (state_name names) ∷ Mark (byte ";")
    ∷ (flat_map (λ f. item_lexemes (function_item f)) p.functions ++ (item_lexemes (init_item names many p) ++ item_lexemes (step_item names many p))))

abbrev pub unit_lexemes : Labels → ℕ → Program → List Lexeme
unit_lexemes names many p = Line (codes "include <stdint.h>") ∷ program_lexemes names many p
