-- Lines of a program's functions as pieces of a text.
use Rattle.std.proofs.Common.{◌≡◌, refl, sym, subst, arith, ℕ, suc, ◌+◌, ◌^◌, ◌<◌, ◌≤◌, ◌==◌, Bool, true, false, List, [], ◌∷◌, ◌++◌, length, Some, append_assoc}
use Rattle.std.specs.Prelude.{codes, if◌then◌else◌}
use Rattle.std.specs.List.{flat_map, All}
use Rattle.dsv_c.specs.declared.c_type.CType.{CType}
use Rattle.dsv_c.specs.Syntax.{Expr, Declaration, Store}
use Rattle.dsv_ctext.specs.Texts.{local_name, member_name, type_name}
use Rattle.dsv_ctext.specs.ProgramTexts.{declaration_head, declaration_line, declarations_text, store_line, none_store, step_tail}
use Rattle.dsv_ctext.specs.declared.names.Labels.{Labels}
use Rattle.dsv_c_reading.specs.Labels.{AreMembers}
use Rattle.dsv_c_reading.specs.Machines.{gone, steps}
use Rattle.dsv_c_reading.specs.Lexemes.{Lexeme, Word, Digits, Mark, Points, nothing, mark, is_word_byte, lex_next}
use Rattle.dsv_c_reading.proofs.Spelled.{expr_lexemes, local_line, local_lines, stored_line, stored_lines, return_line, none_lines, line_lexemes}
use Rattle.dsv_c_reading.proofs.Readable.{AreReadable, IsReadable, IsReadableStore}
use Rattle.dsv_c_reading.proofs.LexPieces.{Kind, Piece, blank, free, named, piece_join, piece_from, closing_piece, runs_piece, no_piece, to_free, opened_at}
use Rattle.dsv_c_reading.proofs.LexWords.{IsWord, word_piece}
use Rattle.dsv_c_reading.proofs.LexTokens.{type_word, spaced}
use Rattle.dsv_c_reading.proofs.LexNames.{local_name_word, member_name_word}
use Rattle.dsv_c_reading.proofs.LexExpressions.{code_piece}
use Rattle.dsv_c_reading.proofs.LexCoefficients.{commented_piece}

-- ---- constant pieces
-- whole tokens with a blank or the end of a line after them, if nothing is open before
pub constant : (x : List ℕ) (ls : List Lexeme) → steps lex_next nothing x ≡ Some (gone ls nothing) → Piece blank x ls free
constant x ls e = to_free (runs_piece x ls e)

-- the same after a word
pub after_name : (b : ℕ) (bs : List ℕ) (ls : List Lexeme) → steps lex_next nothing (b ∷ bs) ≡ Some (gone ls nothing) → is_word_byte b ≡ false → Piece named (b ∷ bs) ls blank
after_name b bs ls e h = closing_piece named b bs ls h e

pub blank_piece : Piece named (codes " ") [] free
blank_piece = to_free (after_name 32 [] [] refl refl)

-- ---- lines
declaration_head_piece : (names : Labels) (t : CType) (k : ℕ) → AreMembers names.members.now → k < 2 ^ 33
    → Piece blank (declaration_head names t k) (Word (codes "const") ∷ Word (type_name t) ∷ Word (local_name names k) ∷ Mark 61 ∷ []) free
declaration_head_piece names t k h l =
    piece_join (piece_join (piece_join (constant (codes "    const ") (Word (codes "const") ∷ []) refl) (word_piece (type_word t))) blank_piece)
    (piece_join (word_piece (local_name_word names k h l)) (spaced 61 refl))

declaration_piece : (names : Labels) (m k : ℕ) (d : Declaration) → AreMembers names.members.now → length names.members.now ≡ m → names.remarks.format.frac_bits ≤ 64 → k < 2 ^ 33 → IsReadable k m d.value
    → Piece blank (declaration_line names k d) (line_lexemes (local_line (local_name names) (member_name names) k d)) blank
declaration_piece names m k d h c f l r =
    piece_join (declaration_head_piece names d.type k h l) (piece_join (code_piece names k m d.value h c (omega arith) r) (commented_piece k m names.remarks.format.frac_bits d.value f r))

pub declarations_piece : (names : Labels) (m k : ℕ) (ds : List Declaration) → AreMembers names.members.now → length names.members.now ≡ m → names.remarks.format.frac_bits ≤ 64 → k + length ds ≤ 2 ^ 33 → AreReadable k m ds
    → Piece blank (declarations_text names k ds) (flat_map line_lexemes (local_lines (local_name names) (member_name names) k ds)) blank
declarations_piece names m k [] h c f l r = no_piece
declarations_piece names m k (d ∷ ds) h c f l r = piece_join (declaration_piece names m k d h c f (omega arith) r.0) (declarations_piece names m (k + 1) ds h c f (omega arith) r.1)

store_piece : (names : Labels) (n m : ℕ) (s : Store) → AreMembers names.members.now → length names.members.now ≡ m → n ≤ 2 ^ 33 → IsReadableStore n m s
    → Piece blank (store_line names s) (line_lexemes (stored_line (local_name names) (member_name names) s)) blank
store_piece names n m s h c l r =
    piece_join (piece_join (constant (codes "    s->") (Word (codes "s") ∷ Points ∷ []) refl) (piece_join (word_piece (member_name_word names s.member h (omega (arith, r.member)))) (spaced 61 refl)))
    (piece_join (code_piece names n m s.value h c l r.value) (after_name 59 (10 ∷ []) (Mark 59 ∷ []) refl refl))

pub stores_piece : (names : Labels) (n m : ℕ) (ss : List Store) → AreMembers names.members.now → length names.members.now ≡ m → n ≤ 2 ^ 33 → All (IsReadableStore n m) ss
    → Piece blank (flat_map (store_line names) ss) (flat_map line_lexemes (stored_lines (local_name names) (member_name names) ss)) blank
stores_piece names n m [] h c l r = no_piece
stores_piece names n m (s ∷ ss) h c l r = piece_join (store_piece names n m s h c l (r 0 s (omega arith))) (stores_piece names n m ss h c l (λ k d o. r (suc k) d (omega arith)))

-- with the end of the function
pub return_piece : (names : Labels) (n m : ℕ) (e : Expr) → AreMembers names.members.now → length names.members.now ≡ m → n ≤ 2 ^ 33 → IsReadable n m e
    → Piece blank (step_tail names e) (line_lexemes (return_line (local_name names) (member_name names) e) ++ Mark 125 ∷ []) blank
return_piece names n m e h c l r =
    subst (λ (ls : List Lexeme). Piece blank (step_tail names e) (Word (codes "return") ∷ ls) blank) (sym (append_assoc (expr_lexemes (local_name names) (member_name names) e) (Mark 59 ∷ []) (Mark 125 ∷ [])))
    (piece_join (constant (codes "    return ") (Word (codes "return") ∷ []) refl) (piece_join (code_piece names n m e h c l r) (after_name 59 (10 ∷ 125 ∷ 10 ∷ []) (Mark 59 ∷ Mark 125 ∷ []) refl refl)))

none_by : (b : Bool) → Piece blank (if b then codes "    s->none = 0;" ++ 10 ∷ [] else []) (flat_map line_lexemes (if b then (Word (codes "s") ∷ Points ∷ Word (codes "none") ∷ Mark 61 ∷ Digits 0 ∷ []) ∷ [] else [])) blank
none_by true = runs_piece (codes "    s->none = 0;" ++ 10 ∷ []) (Word (codes "s") ∷ Points ∷ Word (codes "none") ∷ Mark 61 ∷ Digits 0 ∷ Mark 59 ∷ []) refl
none_by false = no_piece

pub none_piece : (many : ℕ) → Piece blank (none_store many) (flat_map line_lexemes (none_lines many)) blank
none_piece many = none_by (many == 0)

-- ---- names in two parts
pub parts_piece : {ls : List Lexeme} {c : Kind} (v w rest : List ℕ) → IsWord (v ++ w) → Piece named rest ls c → Piece free (v ++ (w ++ rest)) (Word (v ++ w) ∷ ls) c
parts_piece {ls = ls} {c = c} v w rest t p = subst (λ (x : List ℕ). Piece free x (Word (v ++ w) ∷ ls) c) (append_assoc v w rest) (piece_join (word_piece t) p)

pub opening_piece : Piece named (codes "(") (Mark 40 ∷ []) free
opening_piece = piece_from named 40 [] [] (Mark 40 ∷ []) (mark 40) free refl refl opened_at
