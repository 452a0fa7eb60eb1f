-- Words and numbers as pieces of a text.
use Rattle.std.proofs.Common.{◌≡◌, ℕ, ◌^◌, ◌<◌, Bool, true, false, List, [], ◌∷◌, ◌++◌, Some, None, option_and_then, decimal, refl, sym, ap, ◌∙◌, arith, append_assoc}
use Rattle.std.specs.Prelude.{codes, ◌==◌, ◌||◌, not, option_map, if◌then◌else◌}
use Rattle.std.specs.List.{list_all, list_any}
use Rattle.std.specs.Str.{byte}
use Rattle.std.proofs.lemmas.Bool.{and_parts, and_from, both_ways, ne_eqb}
use Rattle.std.proofs.lemmas.Bool.Decides.{nat_tests}
use Rattle.std.proofs.lemmas.List.{append-nil}
use Rattle.std.proofs.lemmas.List.Folds.{list_all-append}
use Rattle.dsv_text.specs.Bytes.{is_letter, is_digit}
use Rattle.dsv_text.specs.Digits.{digits_value}
use Rattle.dsv_lines.specs.Numerals.{is_numeral}
use Rattle.dsv_lines.proofs.WrittenNumerals.{IsDecimal, decimal_is, is_numeral-decimal}
use Rattle.dsv_command.specs.CodeNames.{are_name_bytes, starts_name}
use Rattle.dsv_c_reading.specs.Labels.{IsIdentifier}
use Rattle.dsv_c_reading.specs.Machines.{gone, after_out, steps}
use Rattle.dsv_c_reading.specs.Lexemes.{Lexeme, Word, Digits, Mark, Points, nothing, word, mark, line, is_space, is_word_byte, is_punctuator, is_joining, leaves, starts, word_lexeme, after_word, lex_next}
use Rattle.dsv_c_reading.proofs.Runs.{steps_on, steps_from}
use Rattle.dsv_c_reading.proofs.LexPieces.{Piece, starts_after, piece_from, named_at, free, named}

-- bytes of a word, and the token that they are
record IsToken (w : List ℕ) (x : Lexeme) : Type 0 where
  lexeme : word_lexeme w ≡ Some x
  bytes : list_all is_word_byte w ≡ true

abbrev begins_so : List ℕ → Bool
begins_so [] = false
begins_so (b ∷ bs) = is_letter b

pub record IsWord (w : List ℕ) : Type 0 where
  pub letter : begins_so w ≡ true
  pub bytes : list_all is_word_byte w ≡ true

-- ---- reading
no_space : (b : ℕ) → is_word_byte b ≡ true → is_space b ≡ false
no_space b h = grind (arith, nat_tests)

starts_word : (b : ℕ) → is_word_byte b ≡ true → starts [] b ≡ leaves [] (word (b ∷ []))
starts_word b h =
    ap (λ (p : Bool). if p then leaves [] nothing else if is_word_byte b then leaves [] (word (b ∷ [])) else if b == byte "#" then leaves [] (line []) else if is_punctuator b then leaves [] (mark b) else None) (no_space b h)
    ∙ ap (λ (p : Bool). if p then leaves [] (word (b ∷ [])) else if b == byte "#" then leaves [] (line []) else if is_punctuator b then leaves [] (mark b) else None) h

after_byte : (v : List ℕ) (b : ℕ) → is_word_byte b ≡ true → after_word v b ≡ leaves [] (word (v ++ b ∷ []))
after_byte v b h = rw h refl

-- more bytes of a word
more_bytes : (w v : List ℕ) → list_all is_word_byte w ≡ true → steps lex_next (word v) w ≡ Some (gone [] (word (v ++ w)))
more_bytes [] v h = ap (λ (x : List ℕ). Some (gone [] (word x))) (sym (append-nil v))
more_bytes (b ∷ bs) v h =
    let p = and_parts (is_word_byte b) (list_all is_word_byte bs) h in
    ap (option_and_then (steps_on lex_next bs)) (after_byte v b p.0) ∙ (ap (option_map (after_out [])) (more_bytes bs (v ++ b ∷ []) p.1) ∙ ap (λ (x : List ℕ). Some (gone [] (word x))) (append_assoc v (b ∷ []) bs))

word_runs : (b : ℕ) (bs : List ℕ) → list_all is_word_byte (b ∷ bs) ≡ true → steps lex_next nothing (b ∷ bs) ≡ Some (gone [] (word (b ∷ bs)))
word_runs b bs h =
    let p = and_parts (is_word_byte b) (list_all is_word_byte bs) h in
    ap (option_and_then (steps_on lex_next bs)) (starts_word b p.0) ∙ ap (option_map (after_out [])) (more_bytes bs (b ∷ []) p.1)

token_piece : {w : List ℕ} {x : Lexeme} → IsToken w x → Piece free w (x ∷ []) named
token_piece {w = w} {x = x} t = by w t.lexeme t.bytes
  where
    by : (w : List ℕ) → word_lexeme w ≡ Some x → list_all is_word_byte w ≡ true → Piece free w (x ∷ []) named
    by [] e h = absurd (cc)
    by (b ∷ bs) e h = piece_from free b bs [] (x ∷ []) (word (b ∷ bs)) named tt (word_runs b bs h) (named_at (b ∷ bs) x e)

-- ---- words
word_lexemes : (w : List ℕ) → begins_so w ≡ true → word_lexeme w ≡ Some (Word w)
word_lexemes [] h = absurd (cc)
word_lexemes (b ∷ bs) h = ap (λ (p : Bool). if p then Some (Word (b ∷ bs)) else if is_numeral (b ∷ bs) then Some (Digits (digits_value 0 (b ∷ bs))) else None) h

pub word_piece : {w : List ℕ} → IsWord w → Piece free w (Word w ∷ []) named
word_piece {w = w} t = token_piece (record { lexeme = word_lexemes w t.letter; bytes = t.bytes })

longer_begins : (v w : List ℕ) → begins_so v ≡ true → begins_so (v ++ w) ≡ true
longer_begins [] w h = absurd (cc)
longer_begins (b ∷ bs) w h = h

pub word_is : (b : ℕ) (bs : List ℕ) → is_letter b ≡ true → list_all is_word_byte bs ≡ true → IsWord (b ∷ bs)
word_is b bs h k = record {
  letter = h;
  bytes = and_from (is_word_byte b) (list_all is_word_byte bs) (ap (λ (p : Bool). p || is_digit b) h) k;
}

-- a word before more of its bytes
pub longer_word : (v w : List ℕ) → IsWord v → list_all is_word_byte w ≡ true → IsWord (v ++ w)
longer_word v w t h = record {
  letter = longer_begins v w t.letter;
  bytes = list_all-append is_word_byte v w ∙ and_from (list_all is_word_byte v) (list_all is_word_byte w) t.bytes h;
}

name_bytes : (w : List ℕ) → are_name_bytes w ≡ true → list_all is_word_byte w ≡ true
name_bytes [] h = refl
name_bytes (b ∷ bs) h =
    let p = and_parts (is_word_byte b) (are_name_bytes bs) h in
    and_from (is_word_byte b) (list_all is_word_byte bs) p.0 (name_bytes bs p.1)

name_begins : (w : List ℕ) → starts_name w ≡ true → begins_so w ≡ true
name_begins [] h = h
name_begins (b ∷ bs) h = (and_parts (is_letter b) (not (b == 95)) h).0

pub identifier_word : (w : List ℕ) → IsIdentifier w → IsWord w
identifier_word w i = record { letter = name_begins w i.starts; bytes = name_bytes w i.bytes }

-- ---- numbers
digit_byte : (d : ℕ) → is_digit d ≡ true → is_word_byte d ≡ true
digit_byte d h = rw h (or_true (is_letter d))
  where
    or_true : (p : Bool) → p || true ≡ true
    or_true true = refl
    or_true false = refl

digit_bytes : (ds : List ℕ) → list_all is_digit ds ≡ true → list_all is_word_byte ds ≡ true
digit_bytes [] h = refl
digit_bytes (d ∷ ds) h =
    let p = and_parts (is_digit d) (list_all is_digit ds) h in
    and_from (is_word_byte d) (list_all is_word_byte ds) (digit_byte d p.0) (digit_bytes ds p.1)

digit_no_letter : (d : ℕ) → is_digit d ≡ true → is_letter d ≡ false
digit_no_letter d h = grind (arith, nat_tests)

digits_lexeme : (n : ℕ) (ds : List ℕ) → IsDecimal n ds → word_lexeme ds ≡ Some (Digits n)
digits_lexeme n [] h = absurd (omega (arith, h.some))
digits_lexeme n (d ∷ ds) h =
    let p = and_parts (is_digit d) (list_all is_digit ds) h.digits in
    ap (λ (p : Bool). if p then Some (Word (d ∷ ds)) else if is_numeral (d ∷ ds) then Some (Digits (digits_value 0 (d ∷ ds))) else None) (digit_no_letter d p.0)
    ∙ (ap (λ (p : Bool). if p then Some (Digits (digits_value 0 (d ∷ ds))) else None) (is_numeral-decimal n (d ∷ ds) h) ∙ ap (λ (m : ℕ). Some (Digits m)) h.value)

decimal_token : (n : ℕ) (ds : List ℕ) → IsDecimal n ds → IsToken ds (Digits n)
decimal_token n ds h = record { lexeme = digits_lexeme n ds h; bytes = digit_bytes ds h.digits }

pub decimal_bytes : (n : ℕ) → n < 10 ^ 64 → list_all is_word_byte (decimal n) ≡ true
decimal_bytes n h = digit_bytes (decimal n) (decimal_is n h).digits

pub number_piece : (n : ℕ) → n < 10 ^ 64 → Piece free (decimal n) (Digits n ∷ []) named
number_piece n h = token_piece (decimal_token n (decimal n) (decimal_is n h))

-- ---- numbers after a minus
-- a digit is no other byte
other_byte : (d c : ℕ) → is_digit d ≡ true → is_digit c ≡ false → (d == c) ≡ false
other_byte d c h k = ne_eqb d c (λ e. both_ways (is_digit c) k (ap is_digit (sym e) ∙ h))

other_bytes : (d : ℕ) (cs : List ℕ) → is_digit d ≡ true → list_any is_digit cs ≡ false → list_any (λ c. d == c) cs ≡ false
other_bytes d [] h k = refl
other_bytes d (c ∷ cs) h k =
    let p = or_parts (is_digit c) (list_any is_digit cs) k in
    ap (λ (q : Bool). q || list_any (λ c. d == c) cs) (other_byte d c h p.0) ∙ other_bytes d cs h p.1
  where
    or_parts : (a b : Bool) → (a || b) ≡ false → (a ≡ false) × (b ≡ false)
    or_parts true b e = absurd (cc)
    or_parts false b e = (refl, e)

minus_starts : (d : ℕ) → is_digit d ≡ true → lex_next (mark 45) d ≡ option_map (after_out (Mark 45 ∷ [])) (starts [] d)
minus_starts d h =
    ap (λ (p : Bool). if p then leaves (Points ∷ []) nothing else if is_joining d then None else starts (Mark 45 ∷ []) d) (other_byte d 62 h refl)
    ∙ (ap (λ (p : Bool). if p then None else starts (Mark 45 ∷ []) d) (other_bytes d (codes "-+*/%&|^<>=!:.#?") h refl) ∙ starts_after (Mark 45) d)

-- a minus before digits
minus_runs : (ds : List ℕ) (n : ℕ) → IsDecimal n ds → steps lex_next nothing (45 ∷ ds) ≡ Some (gone (Mark 45 ∷ []) (word ds))
minus_runs [] n h = absurd (omega (arith, h.some))
minus_runs (d ∷ ds) n h =
    let p = and_parts (is_digit d) (list_all is_digit ds) h.digits in
    let e = steps_from lex_next (mark 45) nothing (Mark 45 ∷ []) d ds [] (word (d ∷ ds)) (minus_starts d p.0) (word_runs d ds (digit_bytes (d ∷ ds) h.digits)) in
    ap (option_map (after_out [])) e

pub negative_piece : (n : ℕ) → n < 10 ^ 64 → Piece free (45 ∷ decimal n) (Mark (byte "-") ∷ Digits n ∷ []) named
negative_piece n h =
    let w = decimal_is n h in
    piece_from free 45 (decimal n) (Mark 45 ∷ []) (Digits n ∷ []) (word (decimal n)) named tt (minus_runs (decimal n) n w) (named_at (decimal n) (Digits n) (digits_lexeme n (decimal n) w))
