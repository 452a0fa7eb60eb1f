-- The pieces of a text from one byte to the next, and the numbers that they are.
use Rattle.std.proofs.Common.{◌≡◌, ◌∙◌, sym, ap, refl, ℕ, ◌+◌, ◌-◌, ◌<◌, ◌≤◌, true, false, List, [], ◌∷◌, ◌++◌, length, take, drop, get_or, ℤ, Result, Ok, Err, arith}
use Rattle.std.proofs.lemmas.List.{take_more, get_or-drop, length-drop, at_drop_more}
use Rattle.dsv_text.specs.Stages.{◌>>=◌}
use Rattle.dsv_input_file.specs.declared.refusal.InputsRefusal.{InputsRefusal}
use Rattle.dsv_input_file.specs.InputTexts.{Piece, is_between, line_after, piece_of, pieces_from, number_after, numbers_from}

-- ---- the numbers of a piece and of those after it
number_first : (r : Result ℤ InputsRefusal) (more : List Piece) (found : List ℤ)
    → (r >>= λ n. numbers_from more (found ++ n ∷ [])) ≡ ((r >>= λ n. Ok (found ++ n ∷ [])) >>= numbers_from more)
number_first (Ok n) more found = refl
number_first (Err why) more found = refl

piece_first : (line : ℕ) (text : List ℕ) (more : List Piece) (found : List ℤ)
    → numbers_from (piece_of line text ++ more) found ≡ (numbers_from (piece_of line text) found >>= numbers_from more)
piece_first line [] more found = refl
piece_first line (b ∷ bs) more found = number_first (number_after (length found) (record { line = line; text = b ∷ bs })) more found

-- ---- one byte more
-- what stands from one place to another
abbrev between : ℕ → ℕ → List ℕ → List ℕ
between start i bytes = take (i - start) (drop start bytes)

between-more : (start i : ℕ) (bytes : List ℕ) → start ≤ i → i < length bytes
    → between start (i + 1) bytes ≡ between start i bytes ++ get_or bytes i 0 ∷ []
between-more start i bytes s h =
    let n : i + 1 - start ≡ i - start + 1 = omega arith in
    let at : start + (i - start) ≡ i = omega arith in
    ap (λ m. take m (drop start bytes)) n
    ∙ take_more (drop start bytes) (i - start) 0 (omega (arith, length-drop start bytes))
    ∙ ap (λ b. between start i bytes ++ b ∷ []) (get_or-drop start bytes (i - start) 0 ∙ ap (λ m. get_or bytes m 0) at)

between-none : (i : ℕ) (bytes : List ℕ) → between i i bytes ≡ []
between-none i bytes = let n : i - i ≡ 0 = omega arith in ap (λ m. take m (drop i bytes)) n

byte_between : (line i : ℕ) (begun bytes : List ℕ) → i < length bytes → is_between (get_or bytes i 0) ≡ true
    → pieces_from line begun (drop i bytes) ≡ piece_of line begun ++ pieces_from (line_after (get_or bytes i 0) line) [] (drop (i + 1) bytes)
byte_between line i begun bytes h e = at_drop_more (pieces_from line begun) bytes i 0 h ∙ rw e refl

byte_of_piece : (line i : ℕ) (begun bytes : List ℕ) → i < length bytes → is_between (get_or bytes i 0) ≡ false
    → pieces_from line begun (drop i bytes) ≡ pieces_from line (begun ++ get_or bytes i 0 ∷ []) (drop (i + 1) bytes)
byte_of_piece line i begun bytes h e = at_drop_more (pieces_from line begun) bytes i 0 h ∙ rw e refl

-- ---- what the numbers come to
-- a byte that ends a piece, whose number is put
pub piece_read : (line start i : ℕ) (bytes : List ℕ) (found new : List ℤ) → i < length bytes → is_between (get_or bytes i 0) ≡ true
    → numbers_from (piece_of line (between start i bytes)) found ≡ Ok new
    → numbers_from (pieces_from line (between start i bytes) (drop i bytes)) found
    ≡ numbers_from (pieces_from (line_after (get_or bytes i 0) line) (between (i + 1) (i + 1) bytes) (drop (i + 1) bytes)) new
piece_read line start i bytes found new h e put =
    let later = λ (begun : List ℕ). pieces_from (line_after (get_or bytes i 0) line) begun (drop (i + 1) bytes) in
    ap (λ ps. numbers_from ps found) (byte_between line i (between start i bytes) bytes h e)
    ∙ piece_first line (between start i bytes) (later []) found
    ∙ ap (λ r. r >>= numbers_from (later [])) put
    ∙ ap (λ begun. numbers_from (later begun) new) (sym (between-none (i + 1) bytes))

-- a byte of a piece
pub piece_longer : (line start i : ℕ) (bytes : List ℕ) (found : List ℤ) → start ≤ i → i < length bytes → is_between (get_or bytes i 0) ≡ false
    → numbers_from (pieces_from line (between start i bytes) (drop i bytes)) found
    ≡ numbers_from (pieces_from line (between start (i + 1) bytes) (drop (i + 1) bytes)) found
piece_longer line start i bytes found s h e =
    ap (λ ps. numbers_from ps found) (byte_of_piece line i (between start i bytes) bytes h e
    ∙ ap (λ begun. pieces_from line begun (drop (i + 1) bytes)) (sym (between-more start i bytes s h)))
