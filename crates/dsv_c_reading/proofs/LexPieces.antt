-- Pieces of a text: what is open before and after one, and the tokens that it gives.
use Rattle.std.proofs.Common.{◌≡◌, ℕ, Bool, true, false, List, [], ◌∷◌, ◌++◌, Some, None, refl, sym, ap, subst, ◌∙◌, append_assoc}
use Rattle.std.specs.Prelude.{◌==◌, option_map, if◌then◌else◌}
use Rattle.std.specs.Option.{option_and_then}
use Rattle.std.specs.Str.{byte}
use Rattle.std.proofs.lemmas.List.{append-nil}
use Rattle.dsv_c_reading.specs.Machines.{gone, after_out, steps}
use Rattle.dsv_c_reading.specs.Lexemes.{Lexeme, Mark, Open, nothing, word, mark, line, is_space, is_word_byte, is_punctuator, leaves, starts, word_lexeme, lex_next}
use Rattle.dsv_c_reading.proofs.Runs.{after_none, steps_then, steps_from}

-- ---- what is open
-- The state gives these tokens before the byte, which is then read as if nothing were open.
abbrev pub Ends : Open → List Lexeme → ℕ → Type 0
Ends s l b = lex_next s b ≡ option_map (after_out l) (lex_next nothing b)

pub data Kind : Type 0 where
  -- nothing is open
  blank : Kind
  -- any byte ends the open token, if there is one
  free : Kind
  -- any byte ends it but one of a word
  named : Kind

-- the state is of this kind, and has these tokens open
abbrev pub At : Kind → Open → List Lexeme → Type 0
At blank s l = (s ≡ nothing) × (l ≡ [])
At free s l = (b : ℕ) → Ends s l b
At named s l = (b : ℕ) → is_word_byte b ≡ false → Ends s l b

-- a piece may begin with this byte
abbrev pub First : Kind → ℕ → Type 0
First blank b = Unit {0}
First free b = Unit {0}
First named b = is_word_byte b ≡ false

nothing_free : (s : Open) (l : List Lexeme) → At blank s l → At free s l
nothing_free s l h b = subst (λ (t : Open). Ends t l b) (sym h.0) (subst (λ (m : List Lexeme). Ends nothing m b) (sym h.1) (after_none (lex_next nothing b)))

ends_at : (a : Kind) (s : Open) (l : List Lexeme) (b : ℕ) → At a s l → First a b → Ends s l b
ends_at blank s l b h f = nothing_free s l h b
ends_at free s l b h f = h b
ends_at named s l b h f = h b f

starts_by : (x : Lexeme) (b : ℕ) (p q r u : Bool) → (if p then leaves (x ∷ []) nothing else if q then leaves (x ∷ []) (word (b ∷ [])) else if r then leaves (x ∷ []) (line []) else if u then leaves (x ∷ []) (mark b) else None)
    ≡ option_map (after_out (x ∷ [])) (if p then leaves [] nothing else if q then leaves [] (word (b ∷ [])) else if r then leaves [] (line []) else if u then leaves [] (mark b) else None)
starts_by x b true q r u = refl
starts_by x b false true r u = refl
starts_by x b false false true u = refl
starts_by x b false false false true = refl
starts_by x b false false false false = refl

pub starts_after : (x : Lexeme) (b : ℕ) → starts (x ∷ []) b ≡ option_map (after_out (x ∷ [])) (starts [] b)
starts_after x b = starts_by x b (is_space b) (is_word_byte b) (b == byte "#") (is_punctuator b)

-- after a word or a number
pub named_at : (w : List ℕ) (x : Lexeme) → word_lexeme w ≡ Some x → At named (word w) (x ∷ [])
named_at w x e b h = ap (λ (p : Bool). if p then leaves [] (word (w ++ b ∷ [])) else option_and_then (λ l. starts (l ∷ []) b) (word_lexeme w)) h ∙ (ap (option_and_then (λ l. starts (l ∷ []) b)) e ∙ starts_after x b)

pub opened_at : At free (mark 40) (Mark 40 ∷ [])
opened_at b = starts_after (Mark 40) b

pub closed_at : At free (mark 41) (Mark 41 ∷ [])
closed_at b = starts_after (Mark 41) b

-- ---- pieces
-- What a piece gives from a state that has the tokens l open: with what is open in the end, l and
-- the piece's own tokens.
pub record Left (s : Open) (l : List Lexeme) (x : List ℕ) (ls : List Lexeme) (c : Kind) : Type 0 where
  pub out : List Lexeme
  pub last : Open
  pub pending : List Lexeme
  pub runs : steps lex_next s x ≡ Some (gone out last)
  pub kind : At c last pending
  pub whole : l ++ ls ≡ out ++ pending

-- A text that has these tokens, if a state of kind a is before it; one of kind c is after it.
pub record Piece (a : Kind) (x : List ℕ) (ls : List Lexeme) (c : Kind) : Type 0 where
  pub read : (s : Open) (l : List Lexeme) → At a s l → Left s l x ls c

left_join : (s : Open) (l : List Lexeme) (x y : List ℕ) (ls ms : List Lexeme) (b c : Kind) → Left s l x ls b → Piece b y ms c → Left s l (x ++ y) (ls ++ ms) c
left_join s l x y ls ms b c p q =
    let r = q.read p.last p.pending p.kind in
    record {
      out = p.out ++ r.out;
      last = r.last;
      pending = r.pending;
      runs = steps_then lex_next s p.last r.last x y p.out r.out p.runs r.runs;
      kind = r.kind;
      whole = sym (append_assoc l ls ms) ∙ (ap (λ (m : List Lexeme). m ++ ms) p.whole ∙ (append_assoc p.out p.pending ms ∙ (ap (λ (m : List Lexeme). p.out ++ m) r.whole ∙ sym (append_assoc p.out r.out r.pending))));
    }

pub piece_join : {a b c : Kind} {x y : List ℕ} {ls ms : List Lexeme} → Piece a x ls b → Piece b y ms c → Piece a (x ++ y) (ls ++ ms) c
piece_join {a = a} {b = b} {c = c} {x = x} {y = y} {ls = ls} {ms = ms} p q = record { read = λ s l h. left_join s l x y ls ms b c (p.read s l h) q }

-- a piece by its first byte, from nothing
pub piece_from : (a : Kind) (b : ℕ) (bs : List ℕ) (o l : List Lexeme) (t : Open) (c : Kind) → First a b → steps lex_next nothing (b ∷ bs) ≡ Some (gone o t) → At c t l → Piece a (b ∷ bs) (o ++ l) c
piece_from a b bs o l t c f e h = record {
  read = λ s m k. record {
    out = m ++ o;
    last = t;
    pending = l;
    runs = steps_from lex_next s nothing m b bs o t (ends_at a s m b k f) e;
    kind = h;
    whole = sym (append_assoc m o l);
  };
}

-- a piece after which nothing is open
pub closing_piece : (a : Kind) (b : ℕ) (bs : List ℕ) (o : List Lexeme) → First a b → steps lex_next nothing (b ∷ bs) ≡ Some (gone o nothing) → Piece a (b ∷ bs) o blank
closing_piece a b bs o f e = subst (λ (m : List Lexeme). Piece a (b ∷ bs) m blank) (append-nil o) (piece_from a b bs o [] nothing blank f e (refl, refl))

-- ---- between kinds
left_free : (s : Open) (l : List Lexeme) (x : List ℕ) (ls : List Lexeme) → Left s l x ls blank → Left s l x ls free
left_free s l x ls p = record { out = p.out; last = p.last; pending = p.pending; runs = p.runs; kind = nothing_free p.last p.pending p.kind; whole = p.whole }

left_named : (s : Open) (l : List Lexeme) (x : List ℕ) (ls : List Lexeme) → Left s l x ls free → Left s l x ls named
left_named s l x ls p = record { out = p.out; last = p.last; pending = p.pending; runs = p.runs; kind = λ b _. p.kind b; whole = p.whole }

pub to_free : {a : Kind} {x : List ℕ} {ls : List Lexeme} → Piece a x ls blank → Piece a x ls free
to_free {x = x} {ls = ls} p = record { read = λ s l h. left_free s l x ls (p.read s l h) }

pub to_named : {a : Kind} {x : List ℕ} {ls : List Lexeme} → Piece a x ls free → Piece a x ls named
to_named {x = x} {ls = ls} p = record { read = λ s l h. left_named s l x ls (p.read s l h) }

pub from_blank : {c : Kind} {x : List ℕ} {ls : List Lexeme} → Piece free x ls c → Piece blank x ls c
from_blank p = record { read = λ s l h. p.read s l (nothing_free s l h) }

-- ---- pieces between which nothing is open
pub piece_runs : {x : List ℕ} {ls : List Lexeme} → Piece blank x ls blank → steps lex_next nothing x ≡ Some (gone ls nothing)
piece_runs {x = x} {ls = ls} p =
    let r = p.read nothing [] (refl, refl) in
    let e : ls ≡ r.out = r.whole ∙ (ap (λ (m : List Lexeme). r.out ++ m) r.kind.1 ∙ append-nil r.out) in
    r.runs ∙ (ap (λ (t : Open). Some (gone r.out t)) r.kind.0 ∙ ap (λ (m : List Lexeme). Some (gone m nothing)) (sym e))

pub runs_piece : (x : List ℕ) (ls : List Lexeme) → steps lex_next nothing x ≡ Some (gone ls nothing) → Piece blank x ls blank
runs_piece x ls e = record {
  read = λ s l h. record {
    out = ls;
    last = nothing;
    pending = [];
    runs = ap (λ (t : Open). steps lex_next t x) h.0 ∙ e;
    kind = (refl, refl);
    whole = ap (λ (m : List Lexeme). m ++ ls) h.1 ∙ sym (append-nil ls);
  };
}

pub no_piece : Piece blank [] [] blank
no_piece = runs_piece [] [] refl
