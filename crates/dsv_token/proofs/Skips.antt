-- A piece's bytes are skipped at once.
use Rattle.std.proofs.Common.{◌≡◌, ℕ, zero, suc, ◌+◌, ◌-◌, ◌<◌, ◌≤◌, Bool, false, List, [], ◌∷◌, ◌++◌, length, drop, refl, sym, ap, ◌∙◌, arith, length-drop}
use Rattle.std.proofs.lemmas.List.{drop-drop}
use Rattle.dsv_token.specs.declared.token.TokenKind.{TokenKind}
use Rattle.dsv_token.specs.declared.token.Token.{Token}
use Rattle.dsv_token.specs.declared.lexemes.Lexeme.TheVariants as lexeme
use Rattle.dsv_token.specs.Lexing.{tokens_from, piece_of, by_piece}

-- so many bytes skipped are so many dropped
skip : (bs : List ℕ) (at n : ℕ) (fresh : Bool) (out : List Token) → tokens_from bs at n fresh out ≡ tokens_from (drop n bs) (at + n) 0 fresh out
skip bs at zero fresh out = let e : at + 0 ≡ at = omega arith in rw e refl
skip [] at (suc n) fresh out = refl
skip (b ∷ bs) at (suc n) fresh out =
    let e : at + 1 + n ≡ at + suc n = omega arith in
    rw (← e) (skip bs (at + 1) n fresh out)

pub prefix_gap : (rest : List ℕ) (at len : ℕ) (fresh next : Bool) (out : List Token) → 0 < length rest → 1 ≤ len → piece_of fresh rest ≡ lexeme.Gap len next →
    tokens_from (drop len rest) (at + len) 0 next out ≡ tokens_from rest at 0 fresh out
prefix_gap [] at len fresh next out p q e = absurd (omega arith)
prefix_gap (b ∷ bs) at zero fresh next out p q e = absurd (omega arith)
prefix_gap (b ∷ bs) at (suc n) fresh next out p q e =
    let k : at + 1 + n ≡ at + suc n = omega arith in
    let m : suc n - 1 ≡ n = omega arith in
    rw (← k) (sym (skip bs (at + 1) n next out)) ∙ ap (λ t. tokens_from bs (at + 1) t next out) (sym m) ∙ sym (ap (by_piece at out (λ n f o. tokens_from bs (at + 1) (n - 1) f o)) e)

pub prefix_found : (rest : List ℕ) (at len : ℕ) (fresh : Bool) (kind : TokenKind) (out : List Token) → 0 < length rest → 1 ≤ len → piece_of fresh rest ≡ lexeme.Found kind len →
    tokens_from (drop len rest) (at + len) 0 false (out ++ record { kind = kind; at = at; len = len } ∷ []) ≡ tokens_from rest at 0 fresh out
prefix_found [] at len fresh kind out p q e = absurd (omega arith)
prefix_found (b ∷ bs) at zero fresh kind out p q e = absurd (omega arith)
prefix_found (b ∷ bs) at (suc n) fresh kind out p q e =
    let k : at + 1 + n ≡ at + suc n = omega arith in
    let m : suc n - 1 ≡ n = omega arith in
    let o : List Token = out ++ record { kind = kind; at = at; len = suc n } ∷ [] in
    rw (← k) (sym (skip bs (at + 1) n false o)) ∙ ap (λ t. tokens_from bs (at + 1) t false o) (sym m) ∙ sym (ap (by_piece at out (λ n f o. tokens_from bs (at + 1) (n - 1) f o)) e)

-- after a gap
pub gap_step : (text : List ℕ) (at len : ℕ) (fresh next : Bool) (out : List Token) → at < length text → 1 ≤ len → lexeme.Gap len next ≡ piece_of fresh (drop at text) →
    tokens_from (drop (at + len) text) (at + len) 0 next out ≡ tokens_from (drop at text) at 0 fresh out
gap_step text at len fresh next out p q e =
    let d : length (drop at text) ≡ length text - at = length-drop at text in
    let f : drop len (drop at text) ≡ drop (at + len) text = drop-drop len at text in
    ap (λ t. tokens_from t (at + len) 0 next out) (sym f) ∙ prefix_gap (drop at text) at len fresh next out (omega arith) q (sym e)

-- after a token
pub found_step : (text : List ℕ) (at len : ℕ) (fresh : Bool) (kind : TokenKind) (out new : List Token) → at < length text → 1 ≤ len → lexeme.Found kind len ≡ piece_of fresh (drop at text) →
    new ≡ out ++ record { kind = kind; at = at; len = len } ∷ [] →
    tokens_from (drop (at + len) text) (at + len) 0 false new ≡ tokens_from (drop at text) at 0 fresh out
found_step text at len fresh kind out new p q e g =
    let d : length (drop at text) ≡ length text - at = length-drop at text in
    let f : drop len (drop at text) ≡ drop (at + len) text = drop-drop len at text in
    rw g (ap (λ t. tokens_from t (at + len) 0 false (out ++ record { kind = kind; at = at; len = len } ∷ [])) (sym f) ∙ prefix_found (drop at text) at len fresh kind out (omega arith) q (sym e))
