-- The gap or the token that the piece at the beginning is.
use Rattle.std.proofs.Common.{◌≡◌, ℕ, suc, ◌+◌, ◌≤◌, Bool, true, false, ◌||◌, ◌==◌, cond, List, [], ◌∷◌, ◌++◌, length, take, drop, refl, sym, ap, ◌∙◌, subst, arith}
use Rattle.std.proofs.lemmas.List.{take-append-drop, length-take-le}
use Rattle.std.proofs.lemmas.Bool.{cond_both, eqb-true, eqb-false, both_ways}
use Rattle.std.specs.Prelude.{Option, Some, None}
use Rattle.dsv_text.specs.Bytes.{has_byte, is_blank, is_letter}
use Rattle.dsv_fraction.specs.Number.{number_len}
use Rattle.dsv_token.specs.declared.token.TokenKind.{TokenKind}
use Rattle.dsv_token.specs.declared.token.TokenKind.TheVariants as kind
use Rattle.dsv_token.specs.declared.lexemes.Lexeme.{Lexeme}
use Rattle.dsv_token.specs.declared.lexemes.Lexeme.TheVariants as lexeme
use Rattle.dsv_token.specs.Names.{word_of}
use Rattle.dsv_token.specs.Lexing.{is_name_byte, in_line, mark_of, mark_or, run_len, line_len, close_len, comment_gap, comment_of, is_joined, number_of, name_of, piece_of}
use Rattle.dsv_token.specs.Pieces.{IsGap, IsToken}
use Rattle.dsv_token.proofs.Runs.{either, run_all, run_ends, run_within, Closes, closes}
use Rattle.dsv_fraction.proofs.NumberFronts.{number_within}
use Rattle.dsv_token.proofs.Numbers.{point_number}

-- a gap of this length is at the beginning
pub record FrontGap (fresh : Bool) (text : List ℕ) (len : ℕ) (next : Bool) : Type 0 where
  pub gap : List ℕ
  pub rest : List ℕ
  pub split : text ≡ gap ++ rest
  pub count : len ≡ length gap
  pub some_byte : 1 ≤ len
  pub is_gap : IsGap fresh gap rest next

-- a token of this length is at the beginning
pub record FrontToken (text : List ℕ) (k : TokenKind) (len : ℕ) : Type 0 where
  pub token : List ℕ
  pub rest : List ℕ
  pub split : text ≡ token ++ rest
  pub count : len ≡ length token
  pub some_byte : 1 ≤ len
  pub is_token : IsToken k token rest

-- what a piece says of the text before which it was found
abbrev pub Stands : Bool → List ℕ → Lexeme → Type 0
Stands fresh text (lexeme.Gap len next) = FrontGap fresh text len next
Stands fresh text (lexeme.Found k len) = FrontToken text k len
Stands fresh text lexeme.Bad = Unit {0}

hash_stands : (fresh : Bool) (bs : List ℕ) → Stands fresh (35 ∷ bs) (cond fresh (lexeme.Gap (line_len (35 ∷ bs)) true) lexeme.Bad)
hash_stands false bs = tt
hash_stands true bs =
    let n = run_len in_line bs in
    record {
      gap = 35 ∷ take n bs;
      rest = drop n bs;
      split = ap (λ t. 35 ∷ t) (sym (take-append-drop n bs));
      count = ap suc (sym (length-take-le n bs (run_within in_line bs)));
      some_byte = omega arith;
      is_gap = IsGap.hash (take n bs) (drop n bs) (run_all in_line bs) (run_ends in_line bs);
    }

line_stands : (fresh : Bool) (bs : List ℕ) → Stands fresh (47 ∷ 47 ∷ bs) (lexeme.Gap (1 + line_len (47 ∷ bs)) false)
line_stands fresh bs =
    let n = run_len in_line bs in
    let l : length (take n bs) ≡ n = length-take-le n bs (run_within in_line bs) in
    record {
      gap = 47 ∷ 47 ∷ take n bs;
      rest = drop n bs;
      split = ap (λ t. 47 ∷ 47 ∷ t) (sym (take-append-drop n bs));
      count = omega (arith, l);
      some_byte = omega arith;
      is_gap = IsGap.line fresh (take n bs) (drop n bs) (run_all in_line bs) (run_ends in_line bs);
    }

block_closes : (fresh : Bool) (bs : List ℕ) (n : ℕ) → Closes 2 false bs n → Stands fresh (47 ∷ 42 ∷ bs) (lexeme.Gap n false)
block_closes fresh bs n (Closes.at_once rest f g h) = absurd (cc)
block_closes fresh bs n (Closes.later inside rest f g h) =
    record {
      gap = 47 ∷ 42 ∷ (inside ++ (42 ∷ 47 ∷ []));
      rest = rest;
      split = ap (λ t. 47 ∷ 42 ∷ t) g;
      count = omega (arith, h);
      some_byte = omega (arith, h);
      is_gap = IsGap.block fresh inside rest f;
    }

block_stands : (fresh : Bool) (bs : List ℕ) (o : Option ℕ) → close_len 2 false bs ≡ o → Stands fresh (47 ∷ 42 ∷ bs) (comment_gap o)
block_stands fresh bs None e = tt
block_stands fresh bs (Some n) e = block_closes fresh bs n (closes bs 2 false n e)

comment_stands : (fresh : Bool) (bs : List ℕ) → Stands fresh (47 ∷ bs) (comment_of bs)
comment_stands fresh [] = tt
comment_stands fresh (b ∷ bs) =
    let P : Lexeme → Type 0 = λ p. Stands fresh (47 ∷ b ∷ bs) p in
    cond_both (b == 47) (lexeme.Gap (1 + line_len (b ∷ bs)) false) _ P
    (λ e. let f : b ≡ 47 = eqb-true b 47 e in rw f (line_stands fresh bs))
    (λ e. cond_both (b == 42) (comment_gap (close_len 2 false bs)) lexeme.Bad P
    (λ e. let f : b ≡ 42 = eqb-true b 42 e in rw f (block_stands fresh bs (close_len 2 false bs) refl))
    (λ e. tt))

name_one : (b : ℕ) (bs : List ℕ) → is_letter b ≡ true → run_len is_name_byte (b ∷ bs) ≡ suc (run_len is_name_byte bs)
name_one b bs h =
    let e : is_name_byte b ≡ true = rw h refl in
    either (is_name_byte b) (suc (run_len is_name_byte bs)) 0 (λ n. n ≡ suc (run_len is_name_byte bs)) (λ k. refl) (λ k. absurd (both_ways (is_name_byte b) k e))

name_stands : (fresh : Bool) (b : ℕ) (bs : List ℕ) → is_letter b ≡ true → Stands fresh (b ∷ bs) (name_of (b ∷ bs))
name_stands fresh b bs h =
    let n = run_len is_name_byte bs in
    let e : run_len is_name_byte (b ∷ bs) ≡ suc n = name_one b bs h in
    let l : length (take n bs) ≡ n = length-take-le n bs (run_within is_name_byte bs) in
    let P : ℕ → Type 0 = λ m. Stands fresh (b ∷ bs) (lexeme.Found (kind.Name (word_of (take m (b ∷ bs)))) m) in
    subst P (sym e) (record {
      token = b ∷ take n bs;
      rest = drop n bs;
      split = ap (λ t. b ∷ t) (sym (take-append-drop n bs));
      count = ap suc (sym l);
      some_byte = omega arith;
      is_token = IsToken.name b (take n bs) (drop n bs) h (run_all is_name_byte bs) (run_ends is_name_byte bs);
    })

above : (n : ℕ) → (n ≡ 0 → ⊥) → 1 ≤ n
above n h = omega (arith, h)

dot_stands : (fresh : Bool) (text : List ℕ) → number_len text ≡ 0 → Stands fresh text (cond (has_byte 46 text) (lexeme.Found kind.Dot 1) lexeme.Bad)
dot_stands fresh [] h = tt
dot_stands fresh (b ∷ bs) h =
    cond_both (b == 46) (lexeme.Found kind.Dot 1) lexeme.Bad (λ p. Stands fresh (b ∷ bs) p) (λ e.
    let f : b ≡ 46 = eqb-true b 46 e in
    let k : number_len (46 ∷ bs) ≡ 0 = rw f at h in
    rw f (record { token = 46 ∷ []; rest = bs; split = refl; count = refl; some_byte = omega arith; is_token = IsToken.dot bs (point_number bs k) }))
    (λ e. tt)

number_stands : (fresh : Bool) (text : List ℕ) → Stands fresh text (number_of text)
number_stands fresh text =
    let n = number_len text in
    let P : Lexeme → Type 0 = λ p. Stands fresh text p in
    cond_both (n == 0) _ _ P (λ e. dot_stands fresh text (eqb-true n 0 e))
    (λ e. cond_both (is_joined (drop n text)) lexeme.Bad (lexeme.Found kind.Number n) P (λ f. tt)
    (λ f.
    let some : 1 ≤ n = above n (eqb-false n 0 e) in
    let l : length (take n text) ≡ n = length-take-le n text (number_within text) in
    let s : take n text ++ drop n text ≡ text = take-append-drop n text in
    record {
      token = take n text;
      rest = drop n text;
      split = sym s;
      count = sym l;
      some_byte = some;
      is_token = IsToken.number (take n text) (drop n text) (omega (arith, l, some)) (ap number_len s ∙ sym l) f;
    }))

mark_stands : (fresh : Bool) (b : ℕ) (bs : List ℕ) (o : Option TokenKind) → mark_of b ≡ o → Stands fresh (b ∷ bs) (mark_or o (number_of (b ∷ bs)))
mark_stands fresh b bs None e = number_stands fresh (b ∷ bs)
mark_stands fresh b bs (Some k) e =
    record { token = b ∷ []; rest = bs; split = refl; count = refl; some_byte = omega arith; is_token = IsToken.mark k b bs e }

-- the piece at the beginning stands there
pub prefix_stands : (fresh : Bool) (b : ℕ) (bs : List ℕ) → Stands fresh (b ∷ bs) (piece_of fresh (b ∷ bs))
prefix_stands fresh b bs =
    let P : Lexeme → Type 0 = λ p. Stands fresh (b ∷ bs) p in
    cond_both (is_blank b) (lexeme.Gap 1 (fresh || b == 10)) _ P
    (λ e. record { gap = b ∷ []; rest = bs; split = refl; count = refl; some_byte = omega arith; is_gap = IsGap.blank fresh b bs e })
    (λ e. cond_both (b == 35) _ _ P (λ e. let f : b ≡ 35 = eqb-true b 35 e in rw f (hash_stands fresh bs))
    (λ e. cond_both (b == 47) (comment_of bs) _ P (λ e. let f : b ≡ 47 = eqb-true b 47 e in rw f (comment_stands fresh bs))
    (λ e. cond_both (is_letter b) (name_of (b ∷ bs)) (mark_or (mark_of b) (number_of (b ∷ bs))) P (λ e. name_stands fresh b bs e)
    (λ e. mark_stands fresh b bs (mark_of b) refl))))
