-- What the texts of expressions are read as.
use Rattle.std.specs.Prelude.{◌≡◌, ◌≤◌, ℕ, Bool, true, List, ◌++◌, Some}
use Rattle.std.specs.List.{flat_map}
use Rattle.dsv_c.specs.Syntax.{Expr}
use Rattle.dsv_ctext.specs.declared.names.Labels.{Labels}
use Rattle.dsv_ctext.specs.Texts.{code_text}
use Rattle.dsv_ctext.specs.Tokens.{Token, spelling, tokens, operand_of, depth, IsPlain}

-- from the tokens of an expression, whatever follows its parenthesis, just that expression is read
abbrev pub ExpressionsReadBack : Type 0
ExpressionsReadBack = (e : Expr) (n : ℕ) (rest : List Token) → IsPlain e → depth e ≤ n
    → operand_of n (tokens true e ++ rest) ≡ Some (record { expr = e; rest = rest })

-- the text of an expression is that of its tokens
abbrev pub ExpressionsAreSpelled : Type 0
ExpressionsAreSpelled = (names : Labels) (inner : Bool) (e : Expr)
    → flat_map (spelling names) (tokens inner e) ≡ code_text names inner e
