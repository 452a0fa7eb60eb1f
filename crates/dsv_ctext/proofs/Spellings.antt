-- The text of an expression is that of its tokens.
use Rattle.std.proofs.Common.{◌≡◌, ℕ, ◌-◌, ◌^◌, Bool, true, false, List, [], ◌∷◌, ◌++◌, refl, sym, ap, ◌∙◌, append_assoc}
use Rattle.std.specs.Prelude.{codes}
use Rattle.std.specs.List.{flat_map}
use Rattle.std.specs.Fmt.{signed_decimal}
use Rattle.std.proofs.lemmas.List.{append-nil}
use Rattle.std.proofs.Math.IntN.{ℤ, pos}
use Rattle.dsv_ctext.specs.declared.names.Labels.{Labels}
use Rattle.dsv_c.specs.Syntax.{Expr, Constant, Local, Member, Cast, Times, Plus, Minus, Over, Mask, Flip, Choice, Call}
use Rattle.dsv_ctext.specs.Texts.{code_text, left_parenthesis, right_parenthesis, call_head}
use Rattle.dsv_ctext.specs.Tokens.{Token, Number, Name, Arrow, ToType, Close, Star, Cross, Dash, Slash, And, Hat, Below, Then, Else, spelling, open_tokens, close_tokens, tokens}

spelled-append : (names : Labels) (xs ys : List Token) → flat_map (spelling names) (xs ++ ys) ≡ flat_map (spelling names) xs ++ flat_map (spelling names) ys
spelled-append names [] ys = refl
spelled-append names (x ∷ xs) ys =
    ap (λ (t : List ℕ). spelling names x ++ t) (spelled-append names xs ys) ∙ sym (append_assoc (spelling names x) (flat_map (spelling names) xs) (flat_map (spelling names) ys))

open_text : (names : Labels) (inner : Bool) → flat_map (spelling names) (open_tokens inner) ≡ left_parenthesis inner
open_text names true = refl
open_text names false = refl

close_text : (names : Labels) (inner : Bool) → flat_map (spelling names) (close_tokens inner) ≡ right_parenthesis inner
close_text names true = refl
close_text names false = refl

-- o (a op (b c)) against the same from the left
binary_apart : (o a s b c : List ℕ) → o ++ (a ++ (s ++ (b ++ c))) ≡ o ++ a ++ s ++ b ++ c
binary_apart o a s b c = simp append_assoc refl

binary_text : (names : Labels) (inner : Bool) (a b : Expr) (t : Token) → flat_map (spelling names) (tokens true a) ≡ code_text names true a → flat_map (spelling names) (tokens true b) ≡ code_text names true b
    → flat_map (spelling names) (open_tokens inner ++ (tokens true a ++ (t ∷ (tokens true b ++ close_tokens inner)))) ≡ left_parenthesis inner ++ code_text names true a ++ spelling names t ++ code_text names true b ++ right_parenthesis inner
binary_text names inner a b t p q =
    let f = flat_map (spelling names) in
    spelled-append names (open_tokens inner) (tokens true a ++ (t ∷ (tokens true b ++ close_tokens inner)))
    ∙ (ap (λ (x : List ℕ). f (open_tokens inner) ++ x) (spelled-append names (tokens true a) (t ∷ (tokens true b ++ close_tokens inner)))
    ∙ (ap (λ (x : List ℕ). f (open_tokens inner) ++ (f (tokens true a) ++ (spelling names t ++ x))) (spelled-append names (tokens true b) (close_tokens inner))
    ∙ (ap (λ (x : List ℕ). x ++ (f (tokens true a) ++ (spelling names t ++ (f (tokens true b) ++ f (close_tokens inner))))) (open_text names inner)
    ∙ (ap (λ (x : List ℕ). left_parenthesis inner ++ (x ++ (spelling names t ++ (f (tokens true b) ++ f (close_tokens inner))))) p
    ∙ (ap (λ (x : List ℕ). left_parenthesis inner ++ (code_text names true a ++ (spelling names t ++ (x ++ f (close_tokens inner))))) q
    ∙ (ap (λ (x : List ℕ). left_parenthesis inner ++ (code_text names true a ++ (spelling names t ++ (code_text names true b ++ x)))) (close_text names inner)
    ∙ binary_apart (left_parenthesis inner) (code_text names true a) (spelling names t) (code_text names true b) (right_parenthesis inner)))))))

number_text : (names : Labels) (inner : Bool) (a : Expr) (t : Token) (n : ℤ) → flat_map (spelling names) (tokens true a) ≡ code_text names true a
    → flat_map (spelling names) (open_tokens inner ++ (tokens true a ++ (t ∷ Number n ∷ close_tokens inner))) ≡ left_parenthesis inner ++ code_text names true a ++ spelling names t ++ signed_decimal n ++ right_parenthesis inner
number_text names inner a t n p =
    let f = flat_map (spelling names) in
    spelled-append names (open_tokens inner) (tokens true a ++ (t ∷ Number n ∷ close_tokens inner))
    ∙ (ap (λ (x : List ℕ). f (open_tokens inner) ++ x) (spelled-append names (tokens true a) (t ∷ Number n ∷ close_tokens inner))
    ∙ (ap (λ (x : List ℕ). x ++ (f (tokens true a) ++ (spelling names t ++ (signed_decimal n ++ f (close_tokens inner))))) (open_text names inner)
    ∙ (ap (λ (x : List ℕ). left_parenthesis inner ++ (x ++ (spelling names t ++ (signed_decimal n ++ f (close_tokens inner))))) p
    ∙ (ap (λ (x : List ℕ). left_parenthesis inner ++ (code_text names true a ++ (spelling names t ++ (signed_decimal n ++ x)))) (close_text names inner)
    ∙ binary_apart (left_parenthesis inner) (code_text names true a) (spelling names t) (signed_decimal n) (right_parenthesis inner)))))

called_apart : (h t e : List ℕ) → h ++ (t ++ (e ++ [])) ≡ h ++ t ++ e
called_apart h t e = simp (append_assoc, append-nil) refl

chosen_apart : (o a s b t c u d e : List ℕ) → o ++ (a ++ (s ++ (b ++ (t ++ (c ++ (u ++ (d ++ e))))))) ≡ o ++ a ++ s ++ b ++ t ++ c ++ u ++ d ++ e
chosen_apart o a s b t c u d e = simp append_assoc refl

pub spells : (names : Labels) (inner : Bool) (e : Expr) → flat_map (spelling names) (tokens inner e) ≡ code_text names inner e
spells names inner (Constant c) = append-nil (signed_decimal c)
spells names inner (Local k) = append-nil (spelling names (Name k))
spells names inner (Member k) = append-nil (spelling names (Arrow k))
spells names inner (Cast t e) = ap (λ (x : List ℕ). spelling names (ToType t) ++ x) (spells names true e)
spells names inner (Times a b) = binary_text names inner a b Star (spells names true a) (spells names true b)
spells names inner (Plus a b) = binary_text names inner a b Cross (spells names true a) (spells names true b)
spells names inner (Minus a b) = binary_text names inner a b Dash (spells names true a) (spells names true b)
spells names inner (Over e k) = number_text names inner e Slash (pos (2 ^ k)) (spells names true e)
spells names inner (Mask e k) = number_text names inner e And (pos (2 ^ k - 1)) (spells names true e)
spells names inner (Flip e k) = number_text names inner e Hat (pos (2 ^ k)) (spells names true e)
spells names inner (Choice a b c d) =
    let f = flat_map (spelling names) in
    let td = tokens true d ++ close_tokens inner in
    let tc = tokens true c ++ (Else ∷ td) in
    let tb = tokens true b ++ (Then ∷ tc) in
    let x = λ (e : Expr). code_text names true e in
    spelled-append names (open_tokens inner) (tokens true a ++ (Below ∷ tb))
    ∙ (ap (λ (y : List ℕ). y ++ f (tokens true a ++ (Below ∷ tb))) (open_text names inner)
    ∙ (ap (λ (y : List ℕ). left_parenthesis inner ++ y) (spelled-append names (tokens true a) (Below ∷ tb) ∙ ap (λ (y : List ℕ). y ++ (codes " < " ++ f tb)) (spells names true a))
    ∙ (ap (λ (y : List ℕ). left_parenthesis inner ++ (x a ++ (codes " < " ++ y))) (spelled-append names (tokens true b) (Then ∷ tc) ∙ ap (λ (y : List ℕ). y ++ (codes " ? " ++ f tc)) (spells names true b))
    ∙ (ap (λ (y : List ℕ). left_parenthesis inner ++ (x a ++ (codes " < " ++ (x b ++ (codes " ? " ++ y))))) (spelled-append names (tokens true c) (Else ∷ td) ∙ ap (λ (y : List ℕ). y ++ (codes " : " ++ f td)) (spells names true c))
    ∙ (ap (λ (y : List ℕ). left_parenthesis inner ++ (x a ++ (codes " < " ++ (x b ++ (codes " ? " ++ (x c ++ (codes " : " ++ y))))))) (spelled-append names (tokens true d) (close_tokens inner) ∙ (ap (λ (y : List ℕ). y ++ f (close_tokens inner)) (spells names true d) ∙ ap (λ (y : List ℕ). x d ++ y) (close_text names inner)))
    ∙ chosen_apart (left_parenthesis inner) (x a) (codes " < ") (x b) (codes " ? ") (x c) (codes " : ") (x d) (right_parenthesis inner))))))
spells names inner (Call h e) =
    ap (λ (y : List ℕ). call_head h ++ y) (spelled-append names (tokens false e) (Close ∷ []) ∙ ap (λ (y : List ℕ). y ++ (codes ")" ++ [])) (spells names false e))
    ∙ called_apart (call_head h) (code_text names false e) (codes ")")
