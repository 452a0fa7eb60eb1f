-- Expressions as pieces of a text: those of a program, and those of helper functions.
use Rattle.std.proofs.Common.{◌≡◌, ℕ, ◌^◌, ◌≤◌, false, List, length, refl, subst, arith}
use Rattle.std.specs.List.{flat_map}
use Rattle.dsv_c.specs.Syntax.{Expr}
use Rattle.dsv_ctext.specs.Texts.{code_text, local_name, member_name}
use Rattle.dsv_ctext.specs.HelperTexts.{helper_local, helper_spelling, helper_expr_text}
use Rattle.dsv_ctext.specs.Tokens.{Token, Number, Name, Arrow, ToType, Calling, Open, Close, Star, Cross, Dash, Slash, And, Hat, Below, Then, Else, spelling, tokens}
use Rattle.dsv_ctext.specs.declared.names.Labels.{Labels}
use Rattle.dsv_ctext.proofs.Spellings.{spells}
use Rattle.dsv_c_reading.specs.Labels.{AreMembers}
use Rattle.dsv_c_reading.proofs.Spelled.{token_lexemes, expr_lexemes, no_name}
use Rattle.dsv_c_reading.proofs.Readable.{IsReadable}
use Rattle.dsv_c_reading.proofs.LexPieces.{Piece, free, named, to_named}
use Rattle.dsv_c_reading.proofs.LexWords.{word_piece}
use Rattle.dsv_c_reading.proofs.LexNames.{local_name_word, member_name_word, helper_local_word}
use Rattle.dsv_c_reading.proofs.LexTokens.{before, after, IsFine, Spells, spaced, open_piece, close_piece, cast_piece, call_piece, pointer_piece, signed_piece, expr_piece}

-- ---- in a program
spelled : (names : Labels) (n : ℕ) (t : Token) → AreMembers names.members.now → n ≤ 2 ^ 33 → IsFine n (length names.members.now) t → Piece (before t) (spelling names t) (token_lexemes (local_name names) (member_name names) t) (after t)
spelled names n (Number c) h l f = signed_piece c f
spelled names n (Name k) h l f = word_piece (local_name_word names k h (omega arith))
spelled names n (Arrow k) h l f = pointer_piece (member_name_word names k h f)
spelled names n (ToType t) h l f = cast_piece t
spelled names n (Calling c) h l f = call_piece c
spelled names n Open h l f = open_piece
spelled names n Close h l f = to_named close_piece
spelled names n Star h l f = spaced 42 refl
spelled names n Cross h l f = spaced 43 refl
spelled names n Dash h l f = spaced 45 refl
spelled names n Slash h l f = spaced 47 refl
spelled names n And h l f = spaced 38 refl
spelled names n Hat h l f = spaced 94 refl
spelled names n Below h l f = spaced 60 refl
spelled names n Then h l f = spaced 63 refl
spelled names n Else h l f = spaced 58 refl

pub code_piece : (names : Labels) (n m : ℕ) (e : Expr) → AreMembers names.members.now → length names.members.now ≡ m → n ≤ 2 ^ 33 → IsReadable n m e
    → Piece free (code_text names false e) (expr_lexemes (local_name names) (member_name names) e) named
code_piece names n m e h c l r =
    let lexemes = token_lexemes (local_name names) (member_name names) in
    let s : Spells (spelling names) lexemes n (length names.members.now) = record { each = λ t f. spelled names n t h l f } in
    let t : Spells (spelling names) lexemes n m = subst (Spells (spelling names) lexemes n) c s in
    subst (λ (x : List ℕ). Piece free x (flat_map lexemes (tokens false e)) named) (spells names false e) (expr_piece (spelling names) lexemes n m false e t r)

-- ---- in a helper function
helper_spelled : (n : ℕ) (t : Token) → IsFine n 0 t → Piece (before t) (helper_spelling t) (token_lexemes helper_local no_name t) (after t)
helper_spelled n (Number c) f = signed_piece c f
helper_spelled n (Name k) f = word_piece (helper_local_word k)
helper_spelled n (Arrow k) f = absurd (omega (arith, f))
helper_spelled n (ToType t) f = cast_piece t
helper_spelled n (Calling c) f = call_piece c
helper_spelled n Open f = open_piece
helper_spelled n Close f = to_named close_piece
helper_spelled n Star f = spaced 42 refl
helper_spelled n Cross f = spaced 43 refl
helper_spelled n Dash f = spaced 45 refl
helper_spelled n Slash f = spaced 47 refl
helper_spelled n And f = spaced 38 refl
helper_spelled n Hat f = spaced 94 refl
helper_spelled n Below f = spaced 60 refl
helper_spelled n Then f = spaced 63 refl
helper_spelled n Else f = spaced 58 refl

pub helper_expr_piece : (n : ℕ) (e : Expr) → IsReadable n 0 e → Piece free (helper_expr_text e) (expr_lexemes helper_local no_name e) named
helper_expr_piece n e r = expr_piece helper_spelling (token_lexemes helper_local no_name) n 0 false e (record { each = λ t f. helper_spelled n t f }) r
