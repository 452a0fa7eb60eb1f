-- Tokens of expressions as pieces of a text, for any names.
use Rattle.std.proofs.Common.{◌≡◌, ℕ, suc, ◌+◌, ◌-◌, ◌^◌, ◌<◌, ◌≤◌, Bool, true, false, List, [], ◌∷◌, ◌++◌, Some, decimal, refl, sym, subst, arith}
use Rattle.std.specs.Prelude.{codes}
use Rattle.std.specs.Fmt.{signed_decimal}
use Rattle.std.specs.List.{flat_map}
use Rattle.std.specs.Int.RustNames.{unsigned_abs}
use Rattle.std.proofs.lemmas.List.{append-nil}
use Rattle.std.proofs.lemmas.Grind.{flat_map-append}
use Rattle.std.proofs.Math.IntN.{ℤ, pos, negsuc}
use Rattle.std.proofs.Math.Nat.{pow-le-pow_right}
use Rattle.dsv_c.specs.declared.c_type.CType.{CType}
use Rattle.dsv_c.specs.declared.c_type.CType.TheVariants.{Int, Int32, Int64}
use Rattle.dsv_c.specs.Syntax.{Helper, Rounded, Fitted, Expr, Constant, Local, Member, Cast, Times, Plus, Minus, Over, Mask, Flip, Choice, Call}
use Rattle.dsv_ctext.specs.Texts.{type_name, call_head}
use Rattle.dsv_ctext.specs.Tokens.{Token, Number, Name, Arrow, ToType, Calling, Open, Close, Star, Cross, Dash, Slash, And, Hat, Below, Then, Else, tokens, open_tokens, close_tokens}
use Rattle.dsv_c_reading.specs.Expressions.{helper_name}
use Rattle.dsv_c_reading.specs.Machines.{gone, steps}
use Rattle.dsv_c_reading.specs.Lexemes.{Lexeme, Word, Digits, Mark, Points, nothing, mark, lex_next}
use Rattle.dsv_c_reading.proofs.Spelled.{number_lexemes}
use Rattle.dsv_c_reading.proofs.Readable.{IsReadable}
use Rattle.dsv_c_reading.proofs.LexPieces.{Piece, Kind, free, named, piece_join, piece_from, closing_piece, opened_at, closed_at, to_free}
use Rattle.dsv_c_reading.proofs.LexWords.{IsWord, word_piece, number_piece, negative_piece}

-- ---- constant tokens
pub type_word : (t : CType) → IsWord (type_name t)
type_word Int = record { letter = refl; bytes = refl }
type_word Int32 = record { letter = refl; bytes = refl }
type_word Int64 = record { letter = refl; bytes = refl }

-- from a letter or a parenthesis to a parenthesis that opens
opening : (b : ℕ) (bs : List ℕ) (o : List Lexeme) → steps lex_next nothing (b ∷ bs) ≡ Some (gone o (mark 40)) → Piece free (b ∷ bs) (o ++ Mark 40 ∷ []) free
opening b bs o e = piece_from free b bs o (Mark 40 ∷ []) (mark 40) free tt e opened_at

closing : (b : ℕ) (bs : List ℕ) (o : List Lexeme) → steps lex_next nothing (b ∷ bs) ≡ Some (gone o (mark 41)) → Piece free (b ∷ bs) (o ++ Mark 41 ∷ []) free
closing b bs o e = piece_from free b bs o (Mark 41 ∷ []) (mark 41) free tt e closed_at

pub cast_piece : (t : CType) → Piece free (codes "(" ++ type_name t ++ codes ")") (Mark 40 ∷ Word (type_name t) ∷ Mark 41 ∷ []) free
cast_piece Int = closing 40 (codes "int)") (Mark 40 ∷ Word (type_name Int) ∷ []) refl
cast_piece Int32 = closing 40 (codes "int32_t)") (Mark 40 ∷ Word (type_name Int32) ∷ []) refl
cast_piece Int64 = closing 40 (codes "int64_t)") (Mark 40 ∷ Word (type_name Int64) ∷ []) refl

pub call_piece : (h : Helper) → Piece free (call_head h) (Word (helper_name h) ∷ Mark 40 ∷ []) free
call_piece (Rounded Int) = opening 114 (codes "ounded16(") (Word (codes "rounded16") ∷ []) refl
call_piece (Rounded Int32) = opening 114 (codes "ounded32(") (Word (codes "rounded32") ∷ []) refl
call_piece (Rounded Int64) = opening 114 (codes "ounded64(") (Word (codes "rounded64") ∷ []) refl
call_piece (Fitted Int) = opening 119 (codes "ord16(") (Word (codes "word16") ∷ []) refl
call_piece (Fitted Int32) = opening 119 (codes "ord32(") (Word (codes "word32") ∷ []) refl
call_piece (Fitted Int64) = opening 119 (codes "ord64(") (Word (codes "word64") ∷ []) refl

pub open_piece : Piece free (codes "(") (Mark 40 ∷ []) free
open_piece = opening 40 [] [] refl

pub close_piece : Piece named (codes ")") (Mark 41 ∷ []) free
close_piece = piece_from named 41 [] [] (Mark 41 ∷ []) (mark 41) free refl refl closed_at

-- an operator between blanks
pub spaced : (b : ℕ) → steps lex_next nothing (32 ∷ b ∷ 32 ∷ []) ≡ Some (gone (Mark b ∷ []) nothing) → Piece named (32 ∷ b ∷ 32 ∷ []) (Mark b ∷ []) free
spaced b e = to_free (closing_piece named 32 (b ∷ 32 ∷ []) (Mark b ∷ []) refl e)

pub pointer_piece : {w : List ℕ} → IsWord w → Piece free (codes "s->" ++ w) (Word (codes "s") ∷ Points ∷ Word w ∷ []) named
pointer_piece t = piece_join (to_free (closing_piece free 115 (codes "->") (Word (codes "s") ∷ Points ∷ []) tt refl)) (word_piece t)

pub signed_piece : (c : ℤ) → unsigned_abs c < 10 ^ 64 → Piece free (signed_decimal c) (number_lexemes c) named
signed_piece (pos n) h = number_piece n h
signed_piece (negsuc n) h =
    let e : suc n ≡ n + 1 = omega arith in
    subst (λ (k : ℕ). Piece free (45 ∷ decimal (suc n)) (Mark 45 ∷ Digits k ∷ []) named) e (negative_piece (suc n) h)

-- ---- expressions
abbrev pub before : Token → Kind
before (Number c) = free
before (Name k) = free
before (Arrow k) = free
before (ToType t) = free
before (Calling h) = free
before Open = free
before Close = named
before Star = named
before Cross = named
before Dash = named
before Slash = named
before And = named
before Hat = named
before Below = named
before Then = named
before Else = named

abbrev pub after : Token → Kind
after (Number c) = named
after (Name k) = named
after (Arrow k) = named
after (ToType t) = free
after (Calling h) = free
after Open = free
after Close = named
after Star = free
after Cross = free
after Dash = free
after Slash = free
after And = free
after Hat = free
after Below = free
after Then = free
after Else = free

-- so many locals and members, and a number with few digits
abbrev pub IsFine : ℕ → ℕ → Token → Type 0
IsFine n m (Number c) = unsigned_abs c < 10 ^ 64
IsFine n m (Name k) = k < n
IsFine n m (Arrow k) = k < m
IsFine n m (ToType t) = Unit {0}
IsFine n m (Calling h) = Unit {0}
IsFine n m Open = Unit {0}
IsFine n m Close = Unit {0}
IsFine n m Star = Unit {0}
IsFine n m Cross = Unit {0}
IsFine n m Dash = Unit {0}
IsFine n m Slash = Unit {0}
IsFine n m And = Unit {0}
IsFine n m Hat = Unit {0}
IsFine n m Below = Unit {0}
IsFine n m Then = Unit {0}
IsFine n m Else = Unit {0}

-- the texts of tokens have these tokens of C
pub record Spells (text : Token → List ℕ) (lexemes : Token → List Lexeme) (n m : ℕ) : Type 0 where
  pub each : (t : Token) → IsFine n m t → Piece (before t) (text t) (lexemes t) (after t)

abbrev TokensPiece : (Token → List ℕ) → (Token → List Lexeme) → Kind → List Token → Kind → Type 0
TokensPiece text lexemes a ts c = Piece a (flat_map text ts) (flat_map lexemes ts) c

empty_piece : (c : Kind) → Piece c [] [] c
empty_piece c = record { read = λ s l h. record { out = []; last = s; pending = l; runs = refl; kind = h; whole = append-nil l } }

tokens_join : (text : Token → List ℕ) (lexemes : Token → List Lexeme) (a b c : Kind) (ts us : List Token) → TokensPiece text lexemes a ts b → TokensPiece text lexemes b us c → TokensPiece text lexemes a (ts ++ us) c
tokens_join text lexemes a b c ts us p q =
    subst (λ (x : List ℕ). Piece a x (flat_map lexemes (ts ++ us)) c) (sym (flat_map-append text ts us))
    (subst (λ (l : List Lexeme). Piece a (flat_map text ts ++ flat_map text us) l c) (sym (flat_map-append lexemes ts us)) (piece_join p q))

open_tokens_piece : (text : Token → List ℕ) (lexemes : Token → List Lexeme) (n m : ℕ) (inner : Bool) → Spells text lexemes n m → TokensPiece text lexemes free (open_tokens inner) free
open_tokens_piece text lexemes n m true s = piece_join (s.each Open tt) (empty_piece free)
open_tokens_piece text lexemes n m false s = empty_piece free

close_tokens_piece : (text : Token → List ℕ) (lexemes : Token → List Lexeme) (n m : ℕ) (inner : Bool) → Spells text lexemes n m → TokensPiece text lexemes named (close_tokens inner) named
close_tokens_piece text lexemes n m true s = piece_join (s.each Close tt) (empty_piece named)
close_tokens_piece text lexemes n m false s = empty_piece named

binary_piece : (text : Token → List ℕ) (lexemes : Token → List Lexeme) (n m : ℕ) (inner : Bool) (op : Token) (ts us : List Token) → Spells text lexemes n m → Piece named (text op) (lexemes op) free
    → TokensPiece text lexemes free ts named → TokensPiece text lexemes free us named → TokensPiece text lexemes free (open_tokens inner ++ (ts ++ (op ∷ (us ++ close_tokens inner)))) named
binary_piece text lexemes n m inner op ts us s o p q =
    tokens_join text lexemes free free named (open_tokens inner) (ts ++ (op ∷ (us ++ close_tokens inner))) (open_tokens_piece text lexemes n m inner s)
    (tokens_join text lexemes free named named ts (op ∷ (us ++ close_tokens inner)) p
    (piece_join o (tokens_join text lexemes free named named us (close_tokens inner) q (close_tokens_piece text lexemes n m inner s))))

power_small : (k : ℕ) → k < 63 → 2 ^ k < 10 ^ 64
power_small k h =
    let some : 0 < 2 = omega arith in
    let less : k ≤ 63 = omega arith in
    let p : 2 ^ k ≤ 2 ^ 63 = pow-le-pow_right some less in
    omega arith

pub expr_piece : (text : Token → List ℕ) (lexemes : Token → List Lexeme) (n m : ℕ) (inner : Bool) (e : Expr) → Spells text lexemes n m → IsReadable n m e → Piece free (flat_map text (tokens inner e)) (flat_map lexemes (tokens inner e)) named
expr_piece text lexemes n m inner (Constant c) s h = piece_join (s.each (Number c) (omega arith)) (empty_piece named)
expr_piece text lexemes n m inner (Local k) s h = piece_join (s.each (Name k) h) (empty_piece named)
expr_piece text lexemes n m inner (Member k) s h = piece_join (s.each (Arrow k) h) (empty_piece named)
expr_piece text lexemes n m inner (Cast t e) s h = piece_join (s.each (ToType t) tt) (expr_piece text lexemes n m true e s h)
expr_piece text lexemes n m inner (Times a b) s h = binary_piece text lexemes n m inner Star (tokens true a) (tokens true b) s (s.each Star tt) (expr_piece text lexemes n m true a s h.0) (expr_piece text lexemes n m true b s h.1)
expr_piece text lexemes n m inner (Plus a b) s h = binary_piece text lexemes n m inner Cross (tokens true a) (tokens true b) s (s.each Cross tt) (expr_piece text lexemes n m true a s h.0) (expr_piece text lexemes n m true b s h.1)
expr_piece text lexemes n m inner (Minus a b) s h = binary_piece text lexemes n m inner Dash (tokens true a) (tokens true b) s (s.each Dash tt) (expr_piece text lexemes n m true a s h.0) (expr_piece text lexemes n m true b s h.1)
expr_piece text lexemes n m inner (Over e k) s h = binary_piece text lexemes n m inner Slash (tokens true e) (Number (pos (2 ^ k)) ∷ []) s (s.each Slash tt) (expr_piece text lexemes n m true e s h.0)
    (piece_join (s.each (Number (pos (2 ^ k))) (power_small k h.1)) (empty_piece named))
expr_piece text lexemes n m inner (Mask e k) s h = binary_piece text lexemes n m inner And (tokens true e) (Number (pos (2 ^ k - 1)) ∷ []) s (s.each And tt) (expr_piece text lexemes n m true e s h.0)
    (piece_join (s.each (Number (pos (2 ^ k - 1))) (omega (arith, power_small k h.1))) (empty_piece named))
expr_piece text lexemes n m inner (Flip e k) s h = binary_piece text lexemes n m inner Hat (tokens true e) (Number (pos (2 ^ k)) ∷ []) s (s.each Hat tt) (expr_piece text lexemes n m true e s h.0)
    (piece_join (s.each (Number (pos (2 ^ k))) (power_small k h.1)) (empty_piece named))
expr_piece text lexemes n m inner (Choice a b c d) s h =
    let td = tokens true d ++ close_tokens inner in
    let tc = tokens true c ++ (Else ∷ td) in
    let tb = tokens true b ++ (Then ∷ tc) in
    let join = tokens_join text lexemes free named named in
    tokens_join text lexemes free free named (open_tokens inner) (tokens true a ++ (Below ∷ tb)) (open_tokens_piece text lexemes n m inner s)
    (join (tokens true a) (Below ∷ tb) (expr_piece text lexemes n m true a s h.0) (piece_join (s.each Below tt)
    (join (tokens true b) (Then ∷ tc) (expr_piece text lexemes n m true b s h.1) (piece_join (s.each Then tt)
    (join (tokens true c) (Else ∷ td) (expr_piece text lexemes n m true c s h.2) (piece_join (s.each Else tt)
    (join (tokens true d) (close_tokens inner) (expr_piece text lexemes n m true d s h.3) (close_tokens_piece text lexemes n m inner s))))))))
expr_piece text lexemes n m inner (Call f e) s h = piece_join (s.each (Calling f) tt)
    (tokens_join text lexemes free named named (tokens false e) (Close ∷ []) (expr_piece text lexemes n m false e s h) (piece_join (s.each Close tt) (empty_piece named)))
