-- The tokens of an expression are read as that expression.
use Rattle.std.proofs.Common.{◌≡◌, ℕ, ◌+◌, ◌-◌, ◌^◌, ◌<◌, Bool, true, false, List, [], ◌∷◌, ◌++◌, refl, sym, ap, subst, ◌∙◌, ℤ}
use Rattle.std.specs.Prelude.{Some, None, option_map}
use Rattle.std.specs.List.{flat_map}
use Rattle.std.specs.Option.{option_and_then}
use Rattle.std.proofs.lemmas.Grind.{flat_map-append}
use Rattle.std.proofs.Math.IntN.{pos, negsuc}
use Rattle.std.proofs.Math.Numerals.{add-one}
use Rattle.dsv_lines.specs.Numerals.{negative_number}
use Rattle.dsv_c.specs.declared.c_type.CType.{CType}
use Rattle.dsv_c.specs.declared.c_type.CType.TheVariants.{Int, Int32, Int64}
use Rattle.dsv_c.specs.Syntax.{Helper, Rounded, Fitted, Expr, Constant, Local, Member, Cast, Times, Plus, Minus, Over, Mask, Flip, Choice, Call}
use Rattle.dsv_ctext.specs.Tokens.{Token, Number, Name, Arrow, ToType, Calling, Open, Close, Star, Cross, Dash, Slash, And, Hat, Below, Then, Else, tokens, open_tokens, close_tokens}
use Rattle.dsv_c_reading.specs.Expressions.{Scope, place_of, type_named, Before, operator, operand, parenthesis, gives, wanted, wanted_word, opened, token_next}
use Rattle.dsv_c_reading.specs.Lexemes.{Lexeme}
use Rattle.dsv_c_reading.specs.Machines.{after_out}
use Rattle.dsv_c_reading.proofs.Runs.{Runs, steps_on, after_later, runs_none, runs_more, runs_append}
use Rattle.dsv_c_reading.proofs.Spelled.{token_lexemes}

-- ---- which expressions
-- n locals and m members are declared, and the powers of two are below 2^63
abbrev pub IsNamed : ℕ → ℕ → Expr → Type 0
IsNamed n m (Constant c) = Unit {0}
IsNamed n m (Local k) = k < n
IsNamed n m (Member k) = k < m
IsNamed n m (Cast t e) = IsNamed n m e
IsNamed n m (Times a b) = IsNamed n m a × IsNamed n m b
IsNamed n m (Plus a b) = IsNamed n m a × IsNamed n m b
IsNamed n m (Minus a b) = IsNamed n m a × IsNamed n m b
IsNamed n m (Over e k) = IsNamed n m e × (k < 63)
IsNamed n m (Mask e k) = IsNamed n m e × (k < 63)
IsNamed n m (Flip e k) = IsNamed n m e × (k < 63)
IsNamed n m (Choice a b c d) = IsNamed n m a × IsNamed n m b × IsNamed n m c × IsNamed n m d
IsNamed n m (Call h e) = IsNamed n m e

-- these are the names of n locals and of m members
pub record AreNamesOf (scope : Scope) (local member : ℕ → List ℕ) (n m : ℕ) : Type 0 where
  pub word : (k : ℕ) → k < n → wanted_word scope (local k) ≡ gives (Name k ∷ []) operand
  pub no_type : (k : ℕ) → k < n → type_named (local k) ≡ None
  pub members : (k : ℕ) → k < m → place_of (member k) scope.members ≡ Some k

-- ---- tokens
-- the first token begins an operand, and is no type's name
abbrev Begins : Scope → List Lexeme → Type 0
Begins scope [] = ⊥
Begins scope (l ∷ ls) = token_next scope parenthesis l ≡ opened scope l

-- what begins an operand may stand in parentheses
in_parentheses : (scope : Scope) (ls : List Lexeme) (ts : List Token) (t : Before) → Begins scope ls → Runs (token_next scope) operator ls ts t → Runs (token_next scope) parenthesis ls (Open ∷ ts) t
in_parentheses scope [] ts t b h = absurd b
in_parentheses scope (l ∷ ls) ts t b h = record {
  is = ap (option_and_then (steps_on (token_next scope) ls)) b
      ∙ (sym (after_later (token_next scope) ls (Open ∷ []) (wanted scope l)) ∙ ap (option_map (after_out (Open ∷ []))) h.is);
}

negative_again : (n : ℕ) → negative_number (n + 1) ≡ negsuc n
negative_again n = rw (add-one n) refl

module _ (scope : Scope) (local member : ℕ → List ℕ) where
  abbrev lexed : List Token → List Lexeme
  lexed ts = flat_map (token_lexemes local member) ts

  -- the tokens are read back from their own tokens
  abbrev AreRead : Before → List Token → Before → Type 0
  AreRead s ts t = Runs (token_next scope) s (lexed ts) ts t

  read_append : {s t u : Before} (xs ys : List Token) → AreRead s xs t → AreRead t ys u → AreRead s (xs ++ ys) u
  read_append {s = s} {u = u} xs ys h k =
      subst (λ (ls : List Lexeme). Runs (token_next scope) s ls (xs ++ ys) u) (sym (flat_map-append (token_lexemes local member) xs ys)) (runs_append h k)

  closes : (inner : Bool) → AreRead operand (close_tokens inner) operand
  closes true = record { is = refl }
  closes false = record { is = refl }

  opened_append : (xs ys : List Token) → Runs (token_next scope) parenthesis (lexed xs) (Open ∷ xs) operand → AreRead operand ys operand → Runs (token_next scope) parenthesis (lexed (xs ++ ys)) (Open ∷ (xs ++ ys)) operand
  opened_append xs ys h k =
      subst (λ (ls : List Lexeme). Runs (token_next scope) parenthesis ls (Open ∷ (xs ++ ys)) operand) (sym (flat_map-append (token_lexemes local member) xs ys)) (runs_append h k)

  group : (inner : Bool) (xs rest : List Token) → Begins scope (lexed xs) → AreRead operator xs operand → AreRead operand rest operand → AreRead operator (open_tokens inner ++ (xs ++ rest)) operand
  group true xs rest b h k = runs_more refl (opened_append xs rest (in_parentheses scope (lexed xs) xs operand b h) k)
  group false xs rest b h k = read_append xs rest h k

  -- ---- expressions
  module _ (n m : ℕ) (names : AreNamesOf scope local member n m) where
    begins_operand : (e : Expr) → IsNamed n m e → Begins scope (lexed (tokens true e))
    begins_operand (Constant (pos c)) p = refl
    begins_operand (Constant (negsuc c)) p = refl
    begins_operand (Local k) p = rw (names.no_type k p) refl
    begins_operand (Member k) p = refl
    begins_operand (Cast t e) p = refl
    begins_operand (Times a b) p = refl
    begins_operand (Plus a b) p = refl
    begins_operand (Minus a b) p = refl
    begins_operand (Over e k) p = refl
    begins_operand (Mask e k) p = refl
    begins_operand (Flip e k) p = refl
    begins_operand (Choice a b c d) p = refl
    begins_operand (Call (Rounded Int) e) p = refl
    begins_operand (Call (Rounded Int32) e) p = refl
    begins_operand (Call (Rounded Int64) e) p = refl
    begins_operand (Call (Fitted Int) e) p = refl
    begins_operand (Call (Fitted Int32) e) p = refl
    begins_operand (Call (Fitted Int64) e) p = refl

    cast_read : (t : CType) (ts : List Token) → AreRead operator ts operand → AreRead operator (ToType t ∷ ts) operand
    cast_read Int ts h = runs_more refl (runs_more refl (runs_more refl h))
    cast_read Int32 ts h = runs_more refl (runs_more refl (runs_more refl h))
    cast_read Int64 ts h = runs_more refl (runs_more refl (runs_more refl h))

    call_read : (h : Helper) (ts : List Token) → AreRead operator ts operand → AreRead operator (Calling h ∷ ts) operand
    call_read (Rounded Int) ts h = runs_more refl (runs_more refl h)
    call_read (Rounded Int32) ts h = runs_more refl (runs_more refl h)
    call_read (Rounded Int64) ts h = runs_more refl (runs_more refl h)
    call_read (Fitted Int) ts h = runs_more refl (runs_more refl h)
    call_read (Fitted Int32) ts h = runs_more refl (runs_more refl h)
    call_read (Fitted Int64) ts h = runs_more refl (runs_more refl h)

    pub tokens_read_back : (inner : Bool) (e : Expr) → IsNamed n m e → AreRead operator (tokens inner e) operand
    tokens_read_back inner (Constant (pos c)) p = record { is = refl }
    tokens_read_back inner (Constant (negsuc c)) p = runs_more refl (runs_more (ap (λ (z : ℤ). gives (Number z ∷ []) operand) (negative_again c)) (runs_none operand))
    tokens_read_back inner (Local k) p = runs_more (names.word k p) (runs_none operand)
    tokens_read_back inner (Member k) p = runs_more refl (runs_more refl (runs_more (ap (option_and_then (λ (k : ℕ). gives (Arrow k ∷ []) operand)) (names.members k p)) (runs_none operand)))
    tokens_read_back inner (Cast t e) p = cast_read t (tokens true e) (tokens_read_back true e p)
    tokens_read_back inner (Times a b) p =
        group inner (tokens true a) (Star ∷ (tokens true b ++ close_tokens inner)) (begins_operand a p.0) (tokens_read_back true a p.0)
        (runs_more refl (read_append (tokens true b) (close_tokens inner) (tokens_read_back true b p.1) (closes inner)))
    tokens_read_back inner (Plus a b) p =
        group inner (tokens true a) (Cross ∷ (tokens true b ++ close_tokens inner)) (begins_operand a p.0) (tokens_read_back true a p.0)
        (runs_more refl (read_append (tokens true b) (close_tokens inner) (tokens_read_back true b p.1) (closes inner)))
    tokens_read_back inner (Minus a b) p =
        group inner (tokens true a) (Dash ∷ (tokens true b ++ close_tokens inner)) (begins_operand a p.0) (tokens_read_back true a p.0)
        (runs_more refl (read_append (tokens true b) (close_tokens inner) (tokens_read_back true b p.1) (closes inner)))
    tokens_read_back inner (Over e k) p =
        group inner (tokens true e) (Slash ∷ Number (pos (2 ^ k)) ∷ close_tokens inner) (begins_operand e p.0) (tokens_read_back true e p.0) (runs_more refl (runs_more refl (closes inner)))
    tokens_read_back inner (Mask e k) p =
        group inner (tokens true e) (And ∷ Number (pos (2 ^ k - 1)) ∷ close_tokens inner) (begins_operand e p.0) (tokens_read_back true e p.0) (runs_more refl (runs_more refl (closes inner)))
    tokens_read_back inner (Flip e k) p =
        group inner (tokens true e) (Hat ∷ Number (pos (2 ^ k)) ∷ close_tokens inner) (begins_operand e p.0) (tokens_read_back true e p.0) (runs_more refl (runs_more refl (closes inner)))
    tokens_read_back inner (Choice a b c d) p =
        let end = tokens true d ++ close_tokens inner in
        let middle = tokens true c ++ (Else ∷ end) in
        group inner (tokens true a) (Below ∷ (tokens true b ++ (Then ∷ middle))) (begins_operand a p.0) (tokens_read_back true a p.0)
        (runs_more refl (read_append (tokens true b) (Then ∷ middle) (tokens_read_back true b p.1)
        (runs_more refl (read_append (tokens true c) (Else ∷ end) (tokens_read_back true c p.2)
        (runs_more refl (read_append (tokens true d) (close_tokens inner) (tokens_read_back true d p.3) (closes inner)))))))
    tokens_read_back inner (Call h e) p =
        call_read h (tokens false e ++ Close ∷ []) (read_append (tokens false e) (Close ∷ []) (tokens_read_back false e p) (record { is = refl }))
