-- An expression is read from its tokens.
use Rattle.std.proofs.Common.{◌≡◌, ℕ, ◌+◌, ◌-◌, ◌^◌, ◌≤◌, Bool, true, false, List, [], ◌∷◌, ◌++◌, length, refl, sym, ap, ◌∙◌, arith, length-append}
use Rattle.std.specs.Prelude.{Some}
use Rattle.std.specs.Option.{option_and_then}
use Rattle.std.proofs.lemmas.List.{append-nil}
use Rattle.std.proofs.Math.IntN.{pos}
use Rattle.dsv_c.specs.Syntax.{Expr, Constant, Local, Member, Cast, Times, Plus, Minus, Over, Mask, Flip, Choice, Call}
use Rattle.dsv_ctext.specs.Tokens.{Token, Number, Close, Star, Cross, Dash, Slash, And, Hat, Below, Then, Else, tokens, open_tokens, close_tokens, whole_of, operand_of, depth, IsPlain}
use Rattle.dsv_ctext.proofs.Readings.{reads_both}
use Rattle.dsv_c_reading.specs.Expressions.{Scope, all_read, expr_from, expr_of}
use Rattle.dsv_c_reading.proofs.Readable.{IsReadable}
use Rattle.dsv_c_reading.proofs.Spelled.{expr_lexemes}
use Rattle.dsv_c_reading.proofs.ParseExpressions.{IsNamed, AreNamesOf, tokens_read_back}

pub named : (n m : ℕ) (e : Expr) → IsReadable n m e → IsNamed n m e
named n m (Constant c) p = tt
named n m (Local k) p = p
named n m (Member k) p = p
named n m (Cast t e) p = named n m e p
named n m (Times a b) p = (named n m a p.0, named n m b p.1)
named n m (Plus a b) p = (named n m a p.0, named n m b p.1)
named n m (Minus a b) p = (named n m a p.0, named n m b p.1)
named n m (Over e k) p = (named n m e p.0, p.1)
named n m (Mask e k) p = (named n m e p.0, p.1)
named n m (Flip e k) p = (named n m e p.0, p.1)
named n m (Choice a b c d) p = (named n m a p.0, named n m b p.1, named n m c p.2, named n m d p.3)
named n m (Call h e) p = named n m e p

plain : (n m : ℕ) (e : Expr) → IsNamed n m e → IsPlain e
plain n m (Constant c) p = tt
plain n m (Local k) p = tt
plain n m (Member k) p = tt
plain n m (Cast t e) p = plain n m e p
plain n m (Times a b) p = (plain n m a p.0, plain n m b p.1)
plain n m (Plus a b) p = (plain n m a p.0, plain n m b p.1)
plain n m (Minus a b) p = (plain n m a p.0, plain n m b p.1)
plain n m (Over e k) p = (plain n m e p.0, omega (arith, p.1))
plain n m (Mask e k) p = (plain n m e p.0, omega (arith, p.1))
plain n m (Flip e k) p = (plain n m e p.0, omega (arith, p.1))
plain n m (Choice a b c d) p = (plain n m a p.0, plain n m b p.1, plain n m c p.2, plain n m d p.3)
plain n m (Call h e) p = plain n m e p

-- an expression has at least as many tokens as it is deep
enough : (inner : Bool) (xs rest : List Token) (a b : ℕ) → a ≤ length xs → b ≤ length rest → a + b ≤ length (open_tokens inner ++ (xs ++ rest))
enough inner xs rest a b h k = omega (arith, h, k, length-append (open_tokens inner) (xs ++ rest), length-append xs rest)

then_enough : (x : Token) (xs rest : List Token) (a b : ℕ) → a ≤ length xs → b ≤ length rest → a + b + 1 ≤ length (x ∷ (xs ++ rest))
then_enough x xs rest a b h k = omega (arith, h, k, length-append xs rest)

many_tokens : (inner : Bool) (e : Expr) → depth e ≤ length (tokens inner e)
many_tokens inner (Constant c) = omega arith
many_tokens inner (Local k) = omega arith
many_tokens inner (Member k) = omega arith
many_tokens inner (Cast t e) = omega (arith, many_tokens true e)
many_tokens inner (Times a b) =
    omega (arith, enough inner (tokens true a) (Star ∷ (tokens true b ++ close_tokens inner)) (depth a) (depth b + 0 + 1) (many_tokens true a) (then_enough Star (tokens true b) (close_tokens inner) (depth b) 0 (many_tokens true b) (omega arith)))
many_tokens inner (Plus a b) =
    omega (arith, enough inner (tokens true a) (Cross ∷ (tokens true b ++ close_tokens inner)) (depth a) (depth b + 0 + 1) (many_tokens true a) (then_enough Cross (tokens true b) (close_tokens inner) (depth b) 0 (many_tokens true b) (omega arith)))
many_tokens inner (Minus a b) =
    omega (arith, enough inner (tokens true a) (Dash ∷ (tokens true b ++ close_tokens inner)) (depth a) (depth b + 0 + 1) (many_tokens true a) (then_enough Dash (tokens true b) (close_tokens inner) (depth b) 0 (many_tokens true b) (omega arith)))
many_tokens inner (Over e k) = omega (arith, enough inner (tokens true e) (Slash ∷ Number (pos (2 ^ k)) ∷ close_tokens inner) (depth e) 1 (many_tokens true e) (omega arith))
many_tokens inner (Mask e k) = omega (arith, enough inner (tokens true e) (And ∷ Number (pos (2 ^ k - 1)) ∷ close_tokens inner) (depth e) 1 (many_tokens true e) (omega arith))
many_tokens inner (Flip e k) = omega (arith, enough inner (tokens true e) (Hat ∷ Number (pos (2 ^ k)) ∷ close_tokens inner) (depth e) 1 (many_tokens true e) (omega arith))
many_tokens inner (Choice a b c d) =
    let end = tokens true d ++ close_tokens inner in
    let middle = tokens true c ++ (Else ∷ end) in
    let l = then_enough Else (tokens true d) (close_tokens inner) (depth d) 0 (many_tokens true d) (omega arith) in
    let k = then_enough Then (tokens true c) (Else ∷ end) (depth c) (depth d + 0 + 1) (many_tokens true c) l in
    let j = then_enough Below (tokens true b) (Then ∷ middle) (depth b) (depth c + (depth d + 0 + 1) + 1) (many_tokens true b) k in
    omega (arith, enough inner (tokens true a) (Below ∷ (tokens true b ++ (Then ∷ middle))) (depth a) (depth b + (depth c + (depth d + 0 + 1) + 1) + 1) (many_tokens true a) j)
many_tokens inner (Call h e) = omega (arith, many_tokens false e, length-append (tokens false e) (Close ∷ []))

pub expr_read : (scope : Scope) (local member : ℕ → List ℕ) (n m : ℕ) (e : Expr) → AreNamesOf scope local member n m → IsNamed n m e → expr_of scope (expr_lexemes local member e) ≡ Some e
expr_read scope local member n m e names p =
    let ts = tokens false e in
    let whole = (reads_both e (plain n m e p)).1 (length ts) [] (many_tokens false e) (λ o a. refl) in
    ap (option_and_then expr_from) (tokens_read_back scope local member n m names false e p).is
    ∙ ap (option_and_then all_read) (ap (whole_of (operand_of (length ts))) (sym (append-nil ts)) ∙ whole)
