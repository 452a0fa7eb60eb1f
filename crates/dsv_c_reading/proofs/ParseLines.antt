-- The lines of a program's pieces have no braces and no semicolons.
use Rattle.std.proofs.Common.{◌≡◌, ℕ, zero, suc, ◌+◌, ◌==◌, Bool, true, false, List, [], ◌∷◌, ◌++◌, map, refl}
use Rattle.std.specs.List.{All, flat_map, list_all}
use Rattle.std.specs.Prelude.{codes, if◌then◌else◌}
use Rattle.std.specs.Str.{byte}
use Rattle.std.proofs.lemmas.List.Elements.{All-nil, All-cons, All-append}
use Rattle.std.proofs.Math.IntN.{pos, negsuc}
use Rattle.dsv_c.specs.declared.c_type.CType.{CType}
use Rattle.dsv_c.specs.Syntax.{Expr, Declaration, Store, NamedFunction, Program}
use Rattle.dsv_ctext.specs.HelperTexts.{helper_local}
use Rattle.dsv_ctext.specs.Texts.{member_name, local_name, type_name}
use Rattle.dsv_ctext.specs.Tokens.{Token, Number, Name, Arrow, ToType, Calling, Open, Close, Star, Cross, Dash, Slash, And, Hat, Below, Then, Else, tokens}
use Rattle.dsv_ctext.specs.declared.names.Labels.{Labels}
use Rattle.dsv_c_reading.specs.Lexemes.{Word, Digits, Mark, Points}
use Rattle.dsv_c_reading.proofs.ParseItems.{is_inside, IsLine, IsPiece}
use Rattle.dsv_c_reading.proofs.Spelled.{token_lexemes, local_line, local_lines, stored_line, stored_lines, return_line, none_lines, field_lines, none_field, struct_item, no_name, function_item, init_item, step_item}

-- ---- lines
tokens_inside : (local member : ℕ → List ℕ) (ts : List Token) → list_all is_inside (flat_map (token_lexemes local member) ts) ≡ true
tokens_inside local member [] = refl
tokens_inside local member (Number (pos c) ∷ ts) = tokens_inside local member ts
tokens_inside local member (Number (negsuc c) ∷ ts) = tokens_inside local member ts
tokens_inside local member (Name k ∷ ts) = tokens_inside local member ts
tokens_inside local member (Arrow k ∷ ts) = tokens_inside local member ts
tokens_inside local member (ToType t ∷ ts) = tokens_inside local member ts
tokens_inside local member (Calling h ∷ ts) = tokens_inside local member ts
tokens_inside local member (Open ∷ ts) = tokens_inside local member ts
tokens_inside local member (Close ∷ ts) = tokens_inside local member ts
tokens_inside local member (Star ∷ ts) = tokens_inside local member ts
tokens_inside local member (Cross ∷ ts) = tokens_inside local member ts
tokens_inside local member (Dash ∷ ts) = tokens_inside local member ts
tokens_inside local member (Slash ∷ ts) = tokens_inside local member ts
tokens_inside local member (And ∷ ts) = tokens_inside local member ts
tokens_inside local member (Hat ∷ ts) = tokens_inside local member ts
tokens_inside local member (Below ∷ ts) = tokens_inside local member ts
tokens_inside local member (Then ∷ ts) = tokens_inside local member ts
tokens_inside local member (Else ∷ ts) = tokens_inside local member ts

module _ (local member : ℕ → List ℕ) where
  locals_lines : (k : ℕ) (ds : List Declaration) → All IsLine (local_lines local member k ds)
  locals_lines k [] = All-nil IsLine
  locals_lines k (d ∷ ds) = All-cons IsLine (local_line local member k d) (local_lines local member (k + 1) ds) (record { inside = tokens_inside local member (tokens false d.value) }) (locals_lines (k + 1) ds)

  stores_lines : (ss : List Store) → All IsLine (stored_lines local member ss)
  stores_lines [] = All-nil IsLine
  stores_lines (s ∷ ss) = All-cons IsLine (stored_line local member s) (stored_lines local member ss) (record { inside = tokens_inside local member (tokens false s.value) }) (stores_lines ss)

  last_line : (e : Expr) → All IsLine (return_line local member e ∷ [])
  last_line e = All-cons IsLine (return_line local member e) [] (record { inside = tokens_inside local member (tokens false e) }) (All-nil IsLine)

  rest_lines : (ss : List Store) (e : Expr) → All IsLine (stored_lines local member ss ++ return_line local member e ∷ [])
  rest_lines ss e = All-append IsLine (stored_lines local member ss) (return_line local member e ∷ []) (stores_lines ss) (last_line e)

none_lines-are : (many : ℕ) → All IsLine (none_lines many)
none_lines-are many = by_test (many == 0)
  where
    by_test : (b : Bool) → All IsLine (if b then (Word (codes "s") ∷ Points ∷ Word (codes "none") ∷ Mark (byte "=") ∷ Digits 0 ∷ []) ∷ [] else [])
    by_test true = All-cons IsLine (Word (codes "s") ∷ Points ∷ Word (codes "none") ∷ Mark (byte "=") ∷ Digits 0 ∷ []) [] (record { inside = refl }) (All-nil IsLine)
    by_test false = All-nil IsLine

fields_lines : (names : Labels) (word : CType) (k n : ℕ) → All IsLine (field_lines names word k n)
fields_lines names word k zero = All-nil IsLine
fields_lines names word k (suc n) = All-cons IsLine (Word (type_name word) ∷ Word (member_name names k) ∷ []) (field_lines names word (k + 1) n) (record { inside = refl }) (fields_lines names word (k + 1) n)

none_field-line : (many : ℕ) → All IsLine (none_field many)
none_field-line many = by_test (many == 0)
  where
    by_test : (b : Bool) → All IsLine (if b then (Word (codes "int32_t") ∷ Word (codes "none") ∷ []) ∷ [] else [])
    by_test true = All-cons IsLine (Word (codes "int32_t") ∷ Word (codes "none") ∷ []) [] (record { inside = refl }) (All-nil IsLine)
    by_test false = All-nil IsLine

-- ---- pieces
pub struct_piece : (names : Labels) (word : CType) (many : ℕ) → IsPiece (struct_item names word many)
struct_piece names word many = record { head = refl; lines = All-append IsLine (field_lines names word 0 many) (none_field many) (fields_lines names word 0 many) (none_field-line many) }

function_piece : (f : NamedFunction) → IsPiece (function_item f)
function_piece f = record {
  head = refl;
  lines = All-append IsLine (local_lines helper_local no_name 1 f.function.locals) (return_line helper_local no_name f.function.value ∷ []) (locals_lines helper_local no_name 1 f.function.locals) (last_line helper_local no_name f.function.value);
}

init_piece : (names : Labels) (many : ℕ) (p : Program) → IsPiece (init_item names many p)
init_piece names many p = record {
  head = refl;
  lines = All-append IsLine (none_lines many) (stored_lines (local_name names) (member_name names) p.start) (none_lines-are many) (stores_lines (local_name names) (member_name names) p.start);
}

step_piece : (names : Labels) (many : ℕ) (p : Program) → IsPiece (step_item names many p)
step_piece names many p =
    let local = local_name names in
    let member = member_name names in
    let rest = stored_lines local member p.stores ++ return_line local member p.value ∷ [] in
    record {
      head = refl;
      lines = All-append IsLine (none_lines many) (local_lines local member 1 p.locals ++ rest) (none_lines-are many)
          (All-append IsLine (local_lines local member 1 p.locals) rest (locals_lines local member 1 p.locals) (rest_lines local member p.stores p.value));
    }

pub function_pieces : (names : Labels) (many : ℕ) (p : Program) (fs : List NamedFunction) → All IsPiece (map function_item fs ++ init_item names many p ∷ step_item names many p ∷ [])
function_pieces names many p [] = All-cons IsPiece (init_item names many p) (step_item names many p ∷ []) (init_piece names many p) (All-cons IsPiece (step_item names many p) [] (step_piece names many p) (All-nil IsPiece))
function_pieces names many p (f ∷ fs) = All-cons IsPiece (function_item f) (map function_item fs ++ init_item names many p ∷ step_item names many p ∷ []) (function_piece f) (function_pieces names many p fs)
