-- The text of helper functions, whose parameter is v and whose local is t.
use Rattle.std.specs.Prelude.{◌^◌, ◌-◌, ℤ, pos, ℕ, zero, suc, false, List, [], ◌∷◌, ◌++◌, codes}
use Rattle.std.specs.List.{flat_map}
use Rattle.std.specs.Fmt.{signed_decimal}
use Rattle.dsv_c.specs.declared.c_type.CType.{CType}
use Rattle.dsv_c.specs.Syntax.{Helper, Expr, Declaration, Function, NamedFunction}
use Rattle.dsv_ctext.specs.Texts.{type_name, call_head}
use Rattle.dsv_ctext.specs.Tokens.{Token, Number, Name, Arrow, ToType, Calling, Open, Close, Star}
use Rattle.dsv_ctext.specs.Tokens.{Cross, Dash, Slash, And, Hat, Below, Then, Else, tokens}

abbrev pub helper_local : ℕ → List ℕ
helper_local zero = codes "v"
helper_local (suc k) = codes "t"

abbrev pub helper_spelling : Token → List ℕ
helper_spelling (Number c) = signed_decimal c
helper_spelling (Name k) = helper_local k
helper_spelling (Arrow k) = []
helper_spelling (ToType t) = codes "(" ++ (type_name t ++ codes ")")
helper_spelling (Calling h) = call_head h
helper_spelling Open = codes "("
helper_spelling Close = codes ")"
helper_spelling Star = codes " * "
helper_spelling Cross = codes " + "
helper_spelling Dash = codes " - "
helper_spelling Slash = codes " / "
helper_spelling And = codes " & "
helper_spelling Hat = codes " ^ "
helper_spelling Below = codes " < "
helper_spelling Then = codes " ? "
helper_spelling Else = codes " : "

abbrev pub helper_expr_text : Expr → List ℕ
helper_expr_text e = flat_map helper_spelling (tokens false e)

abbrev pub function_head : Helper → Function → List ℕ
function_head name f = codes "static " ++ type_name f.result ++ codes " " ++ call_head name
    ++ type_name f.parameter ++ (codes " v)" ++ 10 ∷ (codes "{" ++ 10 ∷ []))

abbrev pub helper_local_line : Declaration → List ℕ
helper_local_line d = codes "    const " ++ type_name d.type ++ codes " t = "
    ++ helper_expr_text d.value ++ (codes ";" ++ 10 ∷ [])

abbrev pub function_tail : Expr → List ℕ
function_tail e =
    codes "    return " ++ helper_expr_text e ++ (codes ";" ++ 10 ∷ (codes "}" ++ 10 ∷ 10 ∷ []))

abbrev pub function_text : NamedFunction → List ℕ
function_text n = function_head n.name n.function
    ++ (flat_map helper_local_line n.function.locals ++ function_tail n.function.value)

-- ---- the parts of what gives a word, as their writers see them
abbrev pub cast_start : CType → List ℕ
cast_start word = codes "    return (" ++ type_name word ++ codes ")"

abbrev pub wrap_start : ℕ → List ℕ
wrap_start n = codes "(((v & " ++ signed_decimal (pos (2 ^ n - 1)) ++ codes ") ^ "

abbrev pub wrap_end : ℕ → List ℕ
wrap_end n = signed_decimal (pos (2 ^ (n - 1))) ++ codes ") - "
    ++ signed_decimal (pos (2 ^ (n - 1))) ++ (codes ");" ++ 10 ∷ (codes "}" ++ 10 ∷ 10 ∷ []))

abbrev pub low_part : ℤ → List ℕ
low_part low =
    codes "(v < " ++ signed_decimal low ++ codes " ? " ++ signed_decimal low ++ codes " : ("

abbrev pub high_part : ℤ → List ℕ
high_part high = signed_decimal high ++ (codes " < v ? " ++ (signed_decimal high
    ++ ((codes " : v));" ++ 10 ∷ (codes "}" ++ 10 ∷ 10 ∷ [])) ++ [])))
