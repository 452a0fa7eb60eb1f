-- Helper functions as pieces of a text.
use Rattle.std.proofs.Common.{◌≡◌, ◌∙◌, ap, refl, sym, subst, arith, ℕ, ◌-◌, ◌^◌, ◌<◌, ◌≤◌, ◌==◌, Bool, true, false, List, [], ◌∷◌, ◌++◌, length, append_assoc}
use Rattle.std.specs.Prelude.{codes, if◌then◌else◌}
use Rattle.std.specs.List.{flat_map}
use Rattle.std.specs.Int.RustNames.{unsigned_abs}
use Rattle.std.proofs.Math.IntN.{pos}
use Rattle.std.proofs.lemmas.List.{append-nil}
use Rattle.std.proofs.lemmas.Grind.{flat_map-append}
use Rattle.dsv_names.specs.declared.overflow_mode.OverflowMode.{OverflowMode}
use Rattle.dsv_names.specs.declared.overflow_mode.OverflowMode.TheVariants as overflow_mode
use Rattle.dsv_names.specs.declared.rounding.Rounding.{Rounding}
use Rattle.dsv_names.specs.declared.rounding.Rounding.TheVariants as rounding
use Rattle.dsv_word.specs.declared.format.Format.{Format}
use Rattle.dsv_word.specs.Words.{width, lo, hi}
use Rattle.dsv_c.specs.Syntax.{Helper, Rounded, Fitted, Expr, Constant, Local, Plus, Declaration, Function, NamedFunction, Program}
use Rattle.dsv_c.specs.Programs.{addend_code, fitted_value, helper_code, has_helper, helper_order, named_function, functions_among}
use Rattle.dsv_ctext.specs.Texts.{type_name}
use Rattle.dsv_ctext.specs.HelperTexts.{helper_local, function_head, helper_local_line, function_tail, function_text}
use Rattle.dsv_c_reading.specs.Expressions.{helper_name}
use Rattle.dsv_c_reading.specs.Lexemes.{Lexeme, Word, Mark}
use Rattle.dsv_c_reading.proofs.Spelled.{expr_lexemes, no_name, local_line, local_lines, return_line, function_item, line_lexemes, item_lexemes}
use Rattle.dsv_c_reading.proofs.Readable.{IsReadable, AreReadable, AreHelpers}
use Rattle.dsv_c_reading.proofs.LexPieces.{Piece, blank, piece_join, no_piece, to_free}
use Rattle.dsv_c.proofs.Helpers.{low_size, high_size}
use Rattle.dsv_c_reading.proofs.LexSizes.{power_within}
use Rattle.dsv_c_reading.proofs.LexWords.{word_piece}
use Rattle.dsv_c_reading.proofs.LexTokens.{type_word, call_piece}
use Rattle.dsv_c_reading.proofs.LexExpressions.{helper_expr_piece}
use Rattle.dsv_c_reading.proofs.LexLines.{constant, after_name, blank_piece}

-- ---- their code is readable
less_power : (n : ℕ) → n < 63 → 2 ^ (n - 1) < 2 ^ 63
less_power n h = let p = power_within (n - 1) 62 (omega arith) in omega arith

addend_readable : (r : Rounding) (f : ℕ) → f < 63 → IsReadable 2 0 (addend_code r f)
addend_readable rounding.Floor f h = omega arith
addend_readable rounding.Ceil f h = let p = power_within f 62 (omega arith) in (omega arith, omega arith)
addend_readable rounding.Nearest f h = nearest (f == 0)
  where
    nearest : (b : Bool) → IsReadable 2 0 (if b then Local 0 else Plus (Local 0) (Constant (pos (2 ^ (f - 1)))))
    nearest true = omega arith
    nearest false = (omega arith, less_power f h)

fitted_readable : (o : OverflowMode) (n : ℕ) → n < 63 → IsReadable 2 0 (fitted_value o n)
fitted_readable overflow_mode.Wrap n h = (((omega arith, h), omega arith), less_power n h)
fitted_readable overflow_mode.Saturate n h =
    let p = less_power n h in
    let low : unsigned_abs (lo n) < 2 ^ 63 = omega (arith, low_size n) in
    let high : unsigned_abs (hi n) < 2 ^ 63 = omega (arith, high_size n) in
    let zero_here : 0 < 2 = omega arith in
    (zero_here, low, low, (high, zero_here, high, zero_here))

-- each local's value, and the function's value
record IsReadableFunction (f : Function) : Type 0 where
  locals : AreReadable 2 0 f.locals
  value : IsReadable 2 0 f.value

helper_readable : (f : Format) (h : Helper) → width f < 63 → IsReadableFunction (helper_code f h)
helper_readable f (Rounded t) w = record {
  locals = (addend_readable f.rounding f.frac_bits (omega arith), tt);
  value = ((omega arith, (omega arith, omega arith)), omega arith);
}
helper_readable f (Fitted t) w = record { locals = tt; value = fitted_readable f.overflow (width f) w }

-- ---- their texts
head_piece : (h : Helper) (f : Function) → Piece blank (function_head h f)
    (Word (codes "static") ∷ Word (type_name f.result) ∷ Word (helper_name h) ∷ Mark 40 ∷ Word (type_name f.parameter) ∷ Word (codes "v") ∷ Mark 41 ∷ Mark 123 ∷ []) blank
head_piece h f =
    piece_join (piece_join (piece_join (piece_join (piece_join (constant (codes "static ") (Word (codes "static") ∷ []) refl) (word_piece (type_word f.result))) blank_piece) (call_piece h)) (word_piece (type_word f.parameter)))
    (after_name 32 (codes "v)" ++ 10 ∷ (codes "{" ++ 10 ∷ [])) (Word (codes "v") ∷ Mark 41 ∷ Mark 123 ∷ []) refl refl)

local_piece : (d : Declaration) → IsReadable 2 0 d.value → Piece blank (helper_local_line d) (line_lexemes (local_line helper_local no_name 1 d)) blank
local_piece d r =
    piece_join (piece_join (piece_join (piece_join (constant (codes "    const ") (Word (codes "const") ∷ []) refl) (word_piece (type_word d.type))) (to_free (after_name 32 (codes "t = ") (Word (codes "t") ∷ Mark 61 ∷ []) refl refl)))
    (helper_expr_piece 2 d.value r)) (after_name 59 (10 ∷ []) (Mark 59 ∷ []) refl refl)

tail_piece : (e : Expr) → IsReadable 2 0 e → Piece blank (function_tail e) (line_lexemes (return_line helper_local no_name e) ++ Mark 125 ∷ []) blank
tail_piece e r =
    subst (λ (ls : List Lexeme). Piece blank (function_tail e) (Word (codes "return") ∷ ls) blank) (sym (append_assoc (expr_lexemes helper_local no_name e) (Mark 59 ∷ []) (Mark 125 ∷ [])))
    (piece_join (piece_join (constant (codes "    return ") (Word (codes "return") ∷ []) refl) (helper_expr_piece 2 e r)) (after_name 59 (10 ∷ 125 ∷ 10 ∷ 10 ∷ []) (Mark 59 ∷ Mark 125 ∷ []) refl refl))

-- the lines before the last one, and that one with the brace after it
lines_apart : (ls : List (List Lexeme)) (l : List Lexeme) → flat_map line_lexemes ls ++ (line_lexemes l ++ Mark 125 ∷ []) ≡ flat_map line_lexemes (ls ++ l ∷ []) ++ Mark 125 ∷ []
lines_apart ls l = sym (ap (λ (x : List Lexeme). x ++ Mark 125 ∷ []) (flat_map-append line_lexemes ls (l ∷ []))
    ∙ (append_assoc (flat_map line_lexemes ls) (line_lexemes l ++ []) (Mark 125 ∷ []) ∙ ap (λ (x : List Lexeme). flat_map line_lexemes ls ++ (x ++ Mark 125 ∷ [])) (append-nil (line_lexemes l))))

-- a function, from its locals
function_from : (n : NamedFunction) → Piece blank (flat_map helper_local_line n.function.locals) (flat_map line_lexemes (local_lines helper_local no_name 1 n.function.locals)) blank → IsReadable 2 0 n.function.value
    → Piece blank (function_text n) (item_lexemes (function_item n)) blank
function_from n p r =
    let head = Word (codes "static") ∷ Word (type_name n.function.result) ∷ Word (helper_name n.name) ∷ Mark 40 ∷ Word (type_name n.function.parameter) ∷ Word (codes "v") ∷ Mark 41 ∷ Mark 123 ∷ [] in
    subst (λ (ls : List Lexeme). Piece blank (function_text n) (head ++ ls) blank) (lines_apart (local_lines helper_local no_name 1 n.function.locals) (return_line helper_local no_name n.function.value))
    (piece_join (head_piece n.name n.function) (piece_join p (tail_piece n.function.value r)))

function_piece : (f : Format) (h : Helper) → width f < 63 → Piece blank (function_text (named_function f h)) (item_lexemes (function_item (named_function f h))) blank
function_piece f (Rounded t) w =
    let r = helper_readable f (Rounded t) w in
    function_from (named_function f (Rounded t)) (piece_join (local_piece (record { type = t; value = addend_code f.rounding f.frac_bits }) r.locals.0) no_piece) r.value
function_piece f (Fitted t) w = function_from (named_function f (Fitted t)) no_piece (helper_readable f (Fitted t) w).value

-- ---- all of them
abbrev FunctionsPiece : List NamedFunction → Type 0
FunctionsPiece fs = Piece blank (flat_map function_text fs) (flat_map (λ f. item_lexemes (function_item f)) fs) blank

among_by : (f : Format) (called : List Helper) (h : Helper) (order : List Helper) (b : Bool) → width f < 63 → FunctionsPiece (functions_among f called order)
    → FunctionsPiece (if b then named_function f h ∷ functions_among f called order else functions_among f called order)
among_by f called h order true w p = piece_join (function_piece f h w) p
among_by f called h order false w p = p

among_piece : (f : Format) (called order : List Helper) → width f < 63 → FunctionsPiece (functions_among f called order)
among_piece f called [] w = no_piece
among_piece f called (h ∷ order) w = among_by f called h order (has_helper h called) w (among_piece f called order w)

functions_by : (fs : List NamedFunction) → (1 ≤ length fs → FunctionsPiece fs) → FunctionsPiece fs
functions_by [] h = no_piece
functions_by (f ∷ fs) h = h (omega arith)

pub functions_piece : (p : Program) → AreHelpers p → Piece blank (flat_map function_text p.functions) (flat_map (λ f. item_lexemes (function_item f)) p.functions) blank
functions_piece p h = functions_by p.functions (λ some. subst FunctionsPiece (sym h.functions) (among_piece h.format h.called helper_order (h.small some)))
