-- A text's tokens are those of its one cut into gaps and tokens.
use Rattle.std.proofs.Common.{◌≡◌, ℕ, zero, suc, ◌+◌, ◌-◌, ◌≤◌, Bool, true, false, List, [], ◌∷◌, ◌++◌, length, drop, refl, sym, ap, ◌∙◌, subst, inl, inr, arith, append_assoc, append-nil, length-append}
use Rattle.std.proofs.Math.Seq.{drop-append_seam}
use Rattle.std.specs.Prelude.{Result, Ok, Err, ◌⊎◌, ◌↔◌}
use Rattle.dsv_token.specs.declared.refusal.FileRefusal.{FileRefusal}
use Rattle.dsv_token.specs.declared.refusal.FileRefusal.TheVariants as refusal
use Rattle.dsv_token.specs.declared.token.TokenKind.{TokenKind}
use Rattle.dsv_token.specs.declared.token.Token.{Token}
use Rattle.dsv_token.specs.declared.lexemes.Lexeme.{Lexeme}
use Rattle.dsv_token.specs.declared.lexemes.Lexeme.TheVariants as lexeme
use Rattle.dsv_token.specs.Lexing.{piece_of, by_piece, tokens_from, tokens_of}
use Rattle.dsv_token.specs.Pieces.{IsGap, IsToken, IsCut, IsStuck, StopsAt}
use Rattle.dsv_token.proofs.Skips.{prefix_gap, prefix_found}
use Rattle.dsv_token.proofs.PieceLaws.{gap_again, token_again}
use Rattle.dsv_token.proofs.FrontLaws.{Stands, prefix_stands}

-- ---- what is cut is read

gap_some : (fresh next : Bool) (gap rest : List ℕ) → IsGap fresh gap rest next → 1 ≤ length gap
gap_some fresh next gap rest (IsGap.blank f b r h) = omega arith
gap_some fresh next gap rest (IsGap.hash line r h k) = omega arith
gap_some fresh next gap rest (IsGap.line f line r h k) = omega arith
gap_some fresh next gap rest (IsGap.block f inside r h) = omega arith

token_some : (k : TokenKind) (token rest : List ℕ) → IsToken k token rest → 1 ≤ length token
token_some k token rest (IsToken.mark l b r h) = omega arith
token_some k token rest (IsToken.dot r h) = omega arith
token_some k token rest (IsToken.name b bs r h all p) = omega arith
token_some k token rest (IsToken.number t r some e h) = omega (arith, some)

after_gap : (fresh next : Bool) (at : ℕ) (gap rest : List ℕ) (out : List Token) → IsGap fresh gap rest next →
    tokens_from (gap ++ rest) at 0 fresh out ≡ tokens_from rest (at + length gap) 0 next out
after_gap fresh next at gap rest out g =
    let some : 1 ≤ length gap = gap_some fresh next gap rest g in
    let n : length (gap ++ rest) ≡ length gap + length rest = length-append gap rest in
    sym (prefix_gap (gap ++ rest) at (length gap) fresh next out (omega (arith, some, n)) some (gap_again fresh next gap rest g))
    ∙ ap (λ t. tokens_from t (at + length gap) 0 next out) (drop-append_seam gap rest)

after_token : (fresh : Bool) (at : ℕ) (k : TokenKind) (token rest : List ℕ) (out : List Token) → IsToken k token rest →
    tokens_from (token ++ rest) at 0 fresh out ≡ tokens_from rest (at + length token) 0 false (out ++ record { kind = k; at = at; len = length token } ∷ [])
after_token fresh at k token rest out g =
    let some : 1 ≤ length token = token_some k token rest g in
    let n : length (token ++ rest) ≡ length token + length rest = length-append token rest in
    let new : List Token = out ++ record { kind = k; at = at; len = length token } ∷ [] in
    sym (prefix_found (token ++ rest) at (length token) fresh k out (omega (arith, some, n)) some (token_again fresh k token rest g))
    ∙ ap (λ t. tokens_from t (at + length token) 0 false new) (drop-append_seam token rest)

pub cut_again : (fresh : Bool) (at : ℕ) (text : List ℕ) (ts : List Token) → IsCut fresh at text ts → (out : List Token) → tokens_from text at 0 fresh out ≡ Ok (out ++ ts)
cut_again fresh at text ts (IsCut.none f a) out = rw (append-nil out) refl
cut_again fresh at text ts (IsCut.gap f next a gap rest us g h) out =
    after_gap fresh next at gap rest out g ∙ cut_again next (at + length gap) rest ts h out
cut_again fresh at text ts (IsCut.token f a k token rest us g h) out =
    let t : Token = record { kind = k; at = at; len = length token } in
    after_token fresh at k token rest out g ∙ cut_again false (at + length token) rest us h (out ++ t ∷ []) ∙ ap (λ x. Ok x) (append_assoc out (t ∷ []) us)

bad_where_stuck : (fresh : Bool) (text : List ℕ) (p : Lexeme) → Stands fresh text p → IsStuck fresh text → p ≡ lexeme.Bad
bad_where_stuck fresh text (lexeme.Gap len next) s h = absurd (h.no_gap s.gap s.rest next s.split s.is_gap)
bad_where_stuck fresh text (lexeme.Found k len) s h = absurd (h.no_token k s.token s.rest s.split s.is_token)
bad_where_stuck fresh text lexeme.Bad s h = refl

stuck_again : (fresh : Bool) (at : ℕ) (text : List ℕ) → IsStuck fresh text → (out : List Token) → tokens_from text at 0 fresh out ≡ Err (refusal.Token at)
stuck_again fresh at [] h out = let some = h.some_byte in absurd (omega (arith, some))
stuck_again fresh at (b ∷ bs) h out =
    ap (by_piece at out (λ n f o. tokens_from bs (at + 1) (n - 1) f o)) (bad_where_stuck fresh (b ∷ bs) (piece_of fresh (b ∷ bs)) (prefix_stands fresh b bs) h)

pub stops_again : (fresh : Bool) (at : ℕ) (text : List ℕ) (place : ℕ) → StopsAt fresh at text place → (out : List Token) → tokens_from text at 0 fresh out ≡ Err (refusal.Token place)
stops_again fresh at text place (StopsAt.here f a t h) out = stuck_again fresh at text h out
stops_again fresh at text place (StopsAt.gap f next a gap rest p g h) out =
    after_gap fresh next at gap rest out g ∙ stops_again next (at + length gap) rest place h out
stops_again fresh at text place (StopsAt.token f a k token rest p g h) out =
    after_token fresh at k token rest out g ∙ stops_again false (at + length token) rest place h (out ++ record { kind = k; at = at; len = length token } ∷ [])

-- ---- what is read is cut

-- a text's tokens by a cut, or the place where it stops
abbrev Said : Bool → ℕ → List ℕ → List Token → Result (List Token) FileRefusal → Type 0
Said fresh at text out (Ok all) = (ts : List Token) × (all ≡ out ++ ts) × IsCut fresh at text ts
Said fresh at text out (Err r) = (place : ℕ) × (r ≡ refusal.Token place) × StopsAt fresh at text place

said_gap : (fresh next : Bool) (at : ℕ) (gap rest : List ℕ) (out : List Token) (r : Result (List Token) FileRefusal) → IsGap fresh gap rest next →
    Said next (at + length gap) rest out r → Said fresh at (gap ++ rest) out r
said_gap fresh next at gap rest out (Ok all) g s = (s.0, s.1, IsCut.gap fresh next at gap rest s.0 g s.2)
said_gap fresh next at gap rest out (Err r) g s = (s.0, s.1, StopsAt.gap fresh next at gap rest s.0 g s.2)

said_token : (fresh : Bool) (at : ℕ) (k : TokenKind) (token rest : List ℕ) (out : List Token) (r : Result (List Token) FileRefusal) → IsToken k token rest →
    Said false (at + length token) rest (out ++ record { kind = k; at = at; len = length token } ∷ []) r → Said fresh at (token ++ rest) out r
said_token fresh at k token rest out (Ok all) g s =
    let t : Token = record { kind = k; at = at; len = length token } in
    (t ∷ s.0, s.1 ∙ append_assoc out (t ∷ []) s.0, IsCut.token fresh at k token rest s.0 g s.2)
said_token fresh at k token rest out (Err r) g s = (s.0, s.1, StopsAt.token fresh at k token rest s.0 g s.2)

-- the bytes after a piece, one byte at a time
rest_after : (b : ℕ) (bs front rest : List ℕ) (len : ℕ) → b ∷ bs ≡ front ++ rest → len ≡ length front → 1 ≤ len → drop (len - 1) bs ≡ rest
rest_after b bs front rest zero e f g = absurd (omega arith)
rest_after b bs front rest (suc n) e f g =
    let m : suc n - 1 ≡ n = omega arith in
    ap (λ k. drop k bs) m ∙ ap (λ t. drop (suc n) t) e ∙ ap (λ k. drop k (front ++ rest)) f ∙ drop-append_seam front rest

stuck_at : (fresh : Bool) (b : ℕ) (bs : List ℕ) → piece_of fresh (b ∷ bs) ≡ lexeme.Bad → IsStuck fresh (b ∷ bs)
stuck_at fresh b bs e = record {
  some_byte = omega arith;
  no_gap = λ gap rest next f g. let h : piece_of fresh (b ∷ bs) ≡ lexeme.Gap (length gap) next = ap (piece_of fresh) f ∙ gap_again fresh next gap rest g in absurd (cc);
  no_token = λ k token rest f g. let h : piece_of fresh (b ∷ bs) ≡ lexeme.Found k (length token) = ap (piece_of fresh) f ∙ token_again fresh k token rest g in absurd (cc);
}

said_piece : (fresh : Bool) (at b : ℕ) (bs : List ℕ) (out : List Token) (next : ℕ → Bool → List Token → Result (List Token) FileRefusal) →
    ((n : ℕ) (f : Bool) (o : List Token) → Said f (at + 1 + (n - 1)) (drop (n - 1) bs) o (next n f o)) →
    (p : Lexeme) → Stands fresh (b ∷ bs) p → piece_of fresh (b ∷ bs) ≡ p → Said fresh at (b ∷ bs) out (by_piece at out next p)
said_piece fresh at b bs out next said (lexeme.Gap len fresh_next) s e =
    let r : Result (List Token) FileRefusal = next len fresh_next out in
    let count = s.count in
    let some = s.some_byte in
    let place : at + 1 + (len - 1) ≡ at + length s.gap = omega (arith, count, some) in
    let after : drop (len - 1) bs ≡ s.rest = rest_after b bs s.gap s.rest len s.split s.count s.some_byte in
    let here : Said fresh_next (at + 1 + (len - 1)) (drop (len - 1) bs) out r = said len fresh_next out in
    let there : Said fresh_next (at + length s.gap) s.rest out r =
    subst (λ n. Said fresh_next n s.rest out r) place (subst (λ t. Said fresh_next (at + 1 + (len - 1)) t out r) after here) in
    subst (λ t. Said fresh at t out r) (sym s.split) (said_gap fresh fresh_next at s.gap s.rest out r s.is_gap there)
said_piece fresh at b bs out next said (lexeme.Found k len) s e =
    let new : ℕ → List Token = λ n. out ++ record { kind = k; at = at; len = n } ∷ [] in
    let r : Result (List Token) FileRefusal = next len false (new len) in
    let count = s.count in
    let some = s.some_byte in
    let place : at + 1 + (len - 1) ≡ at + length s.token = omega (arith, count, some) in
    let after : drop (len - 1) bs ≡ s.rest = rest_after b bs s.token s.rest len s.split s.count s.some_byte in
    let here : Said false (at + 1 + (len - 1)) (drop (len - 1) bs) (new len) r = said len false (new len) in
    let there : Said false (at + length s.token) s.rest (new (length s.token)) r =
    subst (λ n. Said false (at + length s.token) s.rest (new n) r) s.count
    (subst (λ n. Said false n s.rest (new len) r) place (subst (λ t. Said false (at + 1 + (len - 1)) t (new len) r) after here)) in
    subst (λ t. Said fresh at t out r) (sym s.split) (said_token fresh at k s.token s.rest out r s.is_token there)
said_piece fresh at b bs out next said lexeme.Bad s e = (at, refl, StopsAt.here fresh at (b ∷ bs) (stuck_at fresh b bs e))

pub said : (text : List ℕ) (at skip : ℕ) (fresh : Bool) (out : List Token) → Said fresh (at + skip) (drop skip text) out (tokens_from text at skip fresh out)
said [] at zero fresh out = ([], sym (append-nil out), IsCut.none fresh (at + 0))
said [] at (suc n) fresh out = ([], sym (append-nil out), IsCut.none fresh (at + suc n))
said (b ∷ bs) at (suc n) fresh out =
    let e : at + 1 + n ≡ at + suc n = omega arith in
    subst (λ k. Said fresh k (drop n bs) out (tokens_from bs (at + 1) n fresh out)) e (said bs (at + 1) n fresh out)
said (b ∷ bs) at zero fresh out =
    let e : at ≡ at + 0 = omega arith in
    subst (λ k. Said fresh k (b ∷ bs) out (tokens_from (b ∷ bs) at 0 fresh out)) e
    (said_piece fresh at b bs out (λ n f o. tokens_from bs (at + 1) (n - 1) f o) (λ n f o. said bs (at + 1) (n - 1) f o) (piece_of fresh (b ∷ bs)) (prefix_stands fresh b bs) refl)

-- ---- the law

ok_only : (all ts : List Token) → ◌≡◌ {A = Result (List Token) FileRefusal} (Ok all) (Ok ts) → ts ≡ all
ok_only all ts e = cc

token_only : (a b : ℕ) (r : FileRefusal) → ◌≡◌ {A = Result (List Token) FileRefusal} (Err r) (Err (refusal.Token a)) → r ≡ refusal.Token b → a ≡ b
token_only a b r e f = cc

cut_of : (text : List ℕ) (ts : List Token) (r : Result (List Token) FileRefusal) → Said true 0 text [] r → r ≡ Ok ts → IsCut true 0 text ts
cut_of text ts (Ok all) s e =
    let f : ts ≡ s.0 = ok_only all ts e ∙ s.1 in
    subst (λ t. IsCut true 0 text t) (sym f) s.2
cut_of text ts (Err r) s e = absurd (cc)

stop_of : (text : List ℕ) (place : ℕ) (r : Result (List Token) FileRefusal) → Said true 0 text [] r → r ≡ Err (refusal.Token place) → StopsAt true 0 text place
stop_of text place (Ok all) s e = absurd (cc)
stop_of text place (Err r) s e =
    let f : place ≡ s.0 = token_only place s.0 r e s.1 in
    subst (λ n. StopsAt true 0 text n) (sym f) s.2

-- what the whole text says
said_whole : (text : List ℕ) → Said true 0 text [] (tokens_of text)
said_whole text = said text 0 0 true []

pub cut_law : (text : List ℕ) (ts : List Token) → (tokens_of text ≡ Ok ts) ↔ IsCut true 0 text ts
cut_law text ts = (λ e. cut_of text ts (tokens_of text) (said_whole text) e, λ h. cut_again true 0 text ts h [])

pub stop_law : (text : List ℕ) (place : ℕ) → (tokens_of text ≡ Err (refusal.Token place)) ↔ StopsAt true 0 text place
stop_law text place = (λ e. stop_of text place (tokens_of text) (said_whole text) e, λ h. stops_again true 0 text place h [])

each_of : (text : List ℕ) (r : Result (List Token) FileRefusal) → Said true 0 text [] r → ((ts : List Token) × IsCut true 0 text ts) ⊎ ((place : ℕ) × StopsAt true 0 text place)
each_of text (Ok all) s = inl (s.0, s.2)
each_of text (Err r) s = inr (s.0, s.2)

pub each_law : (text : List ℕ) → ((ts : List Token) × IsCut true 0 text ts) ⊎ ((place : ℕ) × StopsAt true 0 text place)
each_law text = each_of text (tokens_of text) (said_whole text)
