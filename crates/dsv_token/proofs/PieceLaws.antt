-- The piece at the beginning is the gap or the token that stands there.
use Rattle.std.proofs.Common.{◌≡◌, ℕ, suc, ◌+◌, ◌<◌, Bool, true, false, ◌||◌, ◌==◌, inl, inr, List, [], ◌∷◌, ◌++◌, length, take, drop, refl, ap, ◌∙◌, arith}
use Rattle.std.proofs.Math.Seq.{drop-append_seam, take-append_seam}
use Rattle.std.proofs.lemmas.Bool.{cond_both, cases_Bool, eqb-true, ne_eqb, or_from}
use Rattle.std.specs.Prelude.{Option, Some, None}
use Rattle.std.specs.List.{list_all}
use Rattle.dsv_fraction.specs.Number.{number_len}
use Rattle.dsv_token.specs.declared.token.TokenKind.{TokenKind}
use Rattle.dsv_token.specs.declared.token.TokenKind.TheVariants as kind
use Rattle.dsv_token.specs.declared.lexemes.Lexeme.TheVariants as lexeme
use Rattle.dsv_token.specs.Names.{word_of}
use Rattle.dsv_text.specs.Bytes.{is_blank, is_letter}
use Rattle.dsv_token.specs.Lexing.{is_name_byte, in_line, mark_of, name_len, comment_gap, is_joined, number_of, name_of, piece_of}
use Rattle.dsv_token.specs.Pieces.{IsGap, IsToken}
use Rattle.dsv_token.proofs.Runs.{run_again, close_again}
use Rattle.dsv_token.proofs.Numbers.{point_alone, apart, letter_no_number, no_start}

-- ---- what stands there is the piece

pub gap_again : (fresh next : Bool) (gap rest : List ℕ) → IsGap fresh gap rest next → piece_of fresh (gap ++ rest) ≡ lexeme.Gap (length gap) next
gap_again fresh next gap rest (IsGap.blank f b r h) = rw h refl
gap_again fresh next gap rest (IsGap.hash line r h k) = ap (λ n. lexeme.Gap (suc n) true) (run_again in_line line rest h k)
gap_again fresh next gap rest (IsGap.line f line r h k) =
    let e : 1 + suc (length line) ≡ suc (suc (length line)) = omega arith in
    ap (λ n. lexeme.Gap (1 + suc n) false) (run_again in_line line rest h k) ∙ ap (λ n. lexeme.Gap n false) e
gap_again fresh next gap rest (IsGap.block f inside r h) =
    let n = length (inside ++ (42 ∷ 47 ∷ [])) in
    let e : 2 + n ≡ suc (suc n) = omega arith in
    ap comment_gap (close_again inside rest 2 false h) ∙ ap (λ n. lexeme.Gap n false) e

mark_piece : (fresh : Bool) (b : ℕ) (k : TokenKind) (rest : List ℕ) → mark_of b ≡ Some k → piece_of fresh (b ∷ rest) ≡ lexeme.Found k 1
mark_piece fresh b k rest =
    let P : Option TokenKind → Type 0 = λ o. o ≡ Some k → piece_of fresh (b ∷ rest) ≡ lexeme.Found k 1 in
    let step : (c : ℕ) (m : TokenKind) → piece_of fresh (c ∷ rest) ≡ lexeme.Found m 1 → (b == c) ≡ true → P (Some m) =
    λ c m s e h. let f : b ≡ c = eqb-true b c e in let g : m ≡ k = cc in rw f (s ∙ ap (λ x. lexeme.Found x 1) g) in
    cond_both (b == 123) (Some kind.Open) _ P (step 123 kind.Open refl) (λ e.
    cond_both (b == 125) (Some kind.Close) _ P (step 125 kind.Close refl) (λ e.
    cond_both (b == 61) (Some kind.Equals) _ P (step 61 kind.Equals refl) (λ e.
    cond_both (b == 44) (Some kind.Comma) _ P (step 44 kind.Comma refl) (λ e.
    cond_both (b == 59) (Some kind.Semicolon) None P (step 59 kind.Semicolon refl) (λ e h. absurd (cc))))))

name_piece : (text name : List ℕ) (n : ℕ) → name_len text ≡ n → take n text ≡ name → name_of text ≡ lexeme.Found (kind.Name (word_of name)) n
name_piece text name n e f = rw (e, f) refl

name_here : (fresh : Bool) (b : ℕ) (bs : List ℕ) → is_letter b ≡ true → piece_of fresh (b ∷ bs) ≡ name_of (b ∷ bs)
name_here fresh b bs h =
    let p : is_blank b ≡ false = or_from (b == 32 || b == 9 || b == 13) (b == 10) (or_from (b == 32 || b == 9) (b == 13) (or_from (b == 32) (b == 9) (apart is_letter b 32 h refl) (apart is_letter b 9 h refl)) (apart is_letter b 13 h refl)) (apart is_letter b 10 h refl) in
    let q : (b == 35) ≡ false = apart is_letter b 35 h refl in
    let r : (b == 47) ≡ false = apart is_letter b 47 h refl in
    rw (p, q, r, h) refl

number_piece : (text : List ℕ) (n : ℕ) → number_len text ≡ n → (n == 0) ≡ false → is_joined (drop n text) ≡ false → number_of text ≡ lexeme.Found kind.Number n
number_piece text n e f g = rw (e, f, g) refl

number_here : (fresh : Bool) (b : ℕ) (bs : List ℕ) → 0 < number_len (b ∷ bs) → piece_of fresh (b ∷ bs) ≡ number_of (b ∷ bs)
number_here fresh b bs h =
    let no : (c : ℕ) → number_len (c ∷ bs) ≡ 0 → (b == c) ≡ false = λ c z. no_start b c bs z h in
    let p : is_blank b ≡ false = or_from (b == 32 || b == 9 || b == 13) (b == 10) (or_from (b == 32 || b == 9) (b == 13) (or_from (b == 32) (b == 9) (no 32 refl) (no 9 refl)) (no 13 refl)) (no 10 refl) in
    let q : (b == 35) ≡ false = no 35 refl in
    let r : (b == 47) ≡ false = no 47 refl in
    let s : is_letter b ≡ false = elim (cases_Bool (is_letter b)) [ inl l ↦ let z : number_len (b ∷ bs) ≡ 0 = letter_no_number b bs l in absurd (omega (arith, z, h)) | inr l ↦ l ] in
    let m : mark_of b ≡ None = rw (no 123 refl, no 125 refl, no 61 refl, no 44 refl, no 59 refl) refl in
    rw (p, q, r, s, m) refl

number_again : (fresh : Bool) (token rest : List ℕ) → 0 < length token → number_len (token ++ rest) ≡ length token → is_joined rest ≡ false → piece_of fresh (token ++ rest) ≡ lexeme.Found kind.Number (length token)
number_again fresh [] rest some e h = absurd (omega arith)
number_again fresh (b ∷ bs) rest some e h =
    let n = length (b ∷ bs) in
    let k : is_joined (drop n ((b ∷ bs) ++ rest)) ≡ false = rw (drop-append_seam (b ∷ bs) rest) h in
    let z : (n == 0) ≡ false = ne_eqb n 0 (λ e. omega (arith, e)) in
    number_here fresh b (bs ++ rest) (omega (arith, e, some)) ∙ number_piece (b ∷ (bs ++ rest)) n e z k

pub token_again : (fresh : Bool) (k : TokenKind) (token rest : List ℕ) → IsToken k token rest → piece_of fresh (token ++ rest) ≡ lexeme.Found k (length token)
token_again fresh k token rest (IsToken.mark l b r h) = mark_piece fresh b k rest h
token_again fresh k token rest (IsToken.dot r h) = rw (point_alone rest h) refl
token_again fresh k token rest (IsToken.name b bs r h all p) =
    let front : list_all is_name_byte (b ∷ bs) ≡ true = rw (h, all) refl in
    name_here fresh b (bs ++ rest) h
    ∙ name_piece (b ∷ (bs ++ rest)) (b ∷ bs) (length (b ∷ bs)) (run_again is_name_byte (b ∷ bs) rest front p) (take-append_seam (b ∷ bs) rest)
token_again fresh k token rest (IsToken.number t r some e h) = number_again fresh token rest some e h
