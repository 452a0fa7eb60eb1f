-- Pieces between blanks, found byte by byte.
use Rattle.std.proofs.Common.{◌≡◌, ℕ, ◌+◌, true, false, List, [], ◌∷◌, ◌++◌, Ok, Err, cond, length, refl, arith, ap, sym, subst, ◌∙◌, append_assoc, append-nil}
use Rattle.std.specs.Prelude.{Result}
use Rattle.std.specs.List.{list_all}
use Rattle.std.proofs.lemmas.Bool.{and_parts}
use Rattle.dsv_text.specs.Bytes.{is_blank}
use Rattle.dsv_text.specs.Stages.{and_then}
use Rattle.dsv_cnf.specs.Reading.{clauses_from, take_part}
use Rattle.dsv_cnf.specs.ReadingView.{ReadingView}
use Rattle.dsv_cnf.specs.TextFaults.{HasNoBlank, IsPiece}
use Rattle.dsv_cnf.specs.Texts.{IsGap, IsApart, AreSpaced}
use Rattle.dsv_cnf.specs.declared.reader.CnfRefusal.{CnfRefusal}

-- a piece and where it begins
pub record Placed : Type 0 where
  pub at : ℕ
  pub text : List ℕ

-- the pieces' texts
abbrev pub texts : List Placed → List (List ℕ)
texts [] = []
texts (p ∷ ps) = p.text ∷ texts ps

-- nothing is no piece
abbrev pub with_piece : List ℕ → ℕ → List Placed → List Placed
with_piece [] at ps = ps
with_piece (b ∷ bs) at ps = record { at = at; text = b ∷ bs } ∷ ps

-- the pieces of what is left, after the bytes of `text`, which begin at the offset `at`
abbrev pub placed : List ℕ → List ℕ → ℕ → List Placed
placed [] text at = with_piece text at []
placed (b ∷ bs) text at = cond (is_blank b) (with_piece text at (placed bs [] (at + length text + 1))) (placed bs (text ++ b ∷ []) at)

-- pieces are read one after another
abbrev pub read_pieces : List Placed → ReadingView → Result ReadingView CnfRefusal
read_pieces [] r = Ok r
read_pieces (p ∷ ps) r = and_then (take_part r p.text p.at) (read_pieces ps)

-- ---- reading is reading pieces

read-with_piece : (text : List ℕ) (at : ℕ) (ps : List Placed) (r : ReadingView) → and_then (take_part r text at) (read_pieces ps) ≡ read_pieces (with_piece text at ps) r
read-with_piece [] at ps r = refl
read-with_piece (b ∷ bs) at ps r = refl

and_then-ok : (a : Result ReadingView CnfRefusal) → a ≡ and_then a (read_pieces [])
and_then-ok (Ok r) = refl
and_then-ok (Err e) = refl

and_then-same : (a : Result ReadingView CnfRefusal) (f g : ReadingView → Result ReadingView CnfRefusal) → ((r : ReadingView) → f r ≡ g r) → and_then a f ≡ and_then a g
and_then-same (Ok r) f g h = h r
and_then-same (Err e) f g h = refl

pub clauses_from-placed : (bs text : List ℕ) (at : ℕ) (r : ReadingView) → clauses_from bs text at r ≡ read_pieces (placed bs text at) r
clauses_from-placed [] text at r = and_then-ok (take_part r text at) ∙ read-with_piece text at [] r
clauses_from-placed (b ∷ bs) text at r =
    elim (is_blank b) as (λ x. cond x (and_then (take_part r text at) (clauses_from bs [] (at + length text + 1))) (clauses_from bs (text ++ b ∷ []) at r)
    ≡ read_pieces (cond x (with_piece text at (placed bs [] (at + length text + 1))) (placed bs (text ++ b ∷ []) at)) r) [
      | true ↦
          let next = at + length text + 1 in
          and_then-same (take_part r text at) (clauses_from bs [] next) (read_pieces (placed bs [] next)) (λ s. clauses_from-placed bs [] next s)
          ∙ read-with_piece text at (placed bs [] next) r
      | false ↦ clauses_from-placed bs (text ++ b ∷ []) at r
    ]

-- ---- the pieces that are found are spaced

pub spaced-blank : (b : ℕ) (ps : List (List ℕ)) (bs : List ℕ) → is_blank b ≡ true → AreSpaced ps bs → AreSpaced ps (b ∷ bs)
spaced-blank b [] bs h s = rw h s
spaced-blank b (p ∷ ps) bs h s = record {
  gap = b ∷ s.gap;
  blanks = rw h s.blanks;
  rest = s.rest;
  split = ap (λ t. b ∷ t) s.split;
  apart = s.apart;
  goes_on = s.goes_on;
}

pub spaced-with_piece : (text : List ℕ) (at : ℕ) (ps : List Placed) (rest : List ℕ) → IsApart rest → AreSpaced (texts ps) rest → AreSpaced (texts (with_piece text at ps)) (text ++ rest)
spaced-with_piece [] at ps rest a s = s
spaced-with_piece (b ∷ bs) at ps rest a s = record {
  gap = [];
  blanks = refl;
  rest = rest;
  split = refl;
  apart = a;
  goes_on = s;
}

pub placed-spaced : (bs text : List ℕ) (at : ℕ) → AreSpaced (texts (placed bs text at)) (text ++ bs)
placed-spaced [] text at = spaced-with_piece text at [] [] tt refl
placed-spaced (b ∷ bs) text at =
    elim (is_blank b) as (λ x. is_blank b ≡ x → AreSpaced (texts (cond x (with_piece text at (placed bs [] (at + length text + 1))) (placed bs (text ++ b ∷ []) at))) (text ++ b ∷ bs)) [
      | true ↦ λ h.
          let ps = placed bs [] (at + length text + 1) in
          spaced-with_piece text at ps (b ∷ bs) h (spaced-blank b (texts ps) bs h (placed-spaced bs [] (at + length text + 1)))
      | false ↦ λ h.
          subst (λ t. AreSpaced (texts (placed bs (text ++ b ∷ []) at)) t) (append_assoc text (b ∷ []) bs) (placed-spaced bs (text ++ b ∷ []) at)
    ] refl

-- ---- spaced pieces are found

abbrev pub ArePieces : List (List ℕ) → Type 0
ArePieces [] = Unit {0}
ArePieces (p ∷ ps) = IsPiece p × ArePieces ps

-- blanks before
pub placed-gap : (gap rest : List ℕ) (at : ℕ) → IsGap gap → placed (gap ++ rest) [] at ≡ placed rest [] (at + length gap)
placed-gap [] rest at h = let e : at ≡ at + 0 = omega arith in ap (placed rest []) e
placed-gap (b ∷ bs) rest at h =
    let p = and_parts (is_blank b) (list_all is_blank bs) h in
    let e : at + 0 + 1 + length bs ≡ at + length (b ∷ bs) = omega arith in
    rw p.0 (placed-gap bs rest (at + 0 + 1) p.1 ∙ ap (placed rest []) e)

placed-more : (piece text rest : List ℕ) (at : ℕ) → HasNoBlank piece → placed (piece ++ rest) text at ≡ placed rest (text ++ piece) at
placed-more [] text rest at h = ap (λ t. placed rest t at) (sym (append-nil text))
placed-more (b ∷ bs) text rest at h = rw h.0 (placed-more bs (text ++ b ∷ []) rest at h.1 ∙ ap (λ t. placed rest t at) (append_assoc text (b ∷ []) bs))

placed-apart : (b : ℕ) (bs rest : List ℕ) (at : ℕ) → IsApart rest → placed rest (b ∷ bs) at ≡ record { at = at; text = b ∷ bs } ∷ placed rest [] (at + length (b ∷ bs))
placed-apart b bs [] at h = refl
placed-apart b bs (c ∷ cs) at h =
    let e : at + length (b ∷ bs) + 1 ≡ at + length (b ∷ bs) + 0 + 1 = omega arith in
    rw h (ap (λ (k : ℕ). record { at = at; text = b ∷ bs } ∷ placed cs [] k) e)

-- a piece, where the text goes on apart from it
pub placed-piece : (piece rest : List ℕ) (at : ℕ) → IsPiece piece → IsApart rest → placed (piece ++ rest) [] at ≡ record { at = at; text = piece } ∷ placed rest [] (at + length piece)
placed-piece [] rest at h a = let s = h.some in absurd (omega (arith, s))
placed-piece (b ∷ bs) rest at h a = placed-more (b ∷ bs) [] rest at h.whole ∙ placed-apart b bs rest at a

pub spaced-placed : (ps : List (List ℕ)) (text : List ℕ) (at : ℕ) → ArePieces ps → AreSpaced ps text → texts (placed text [] at) ≡ ps
spaced-placed [] text at h s =
    ap (λ t. texts (placed t [] at)) (sym (append-nil text)) ∙ ap texts (placed-gap text [] at s)
spaced-placed (p ∷ ps) text at h s =
    let next = at + length s.gap in
    ap (λ t. texts (placed t [] at)) (s.split ∙ append_assoc s.gap p s.rest)
    ∙ ap texts (placed-gap s.gap (p ++ s.rest) at s.blanks ∙ placed-piece p s.rest next h.0 s.apart)
    ∙ ap (λ ts. p ∷ ts) (spaced-placed ps s.rest (next + length p) h.1 s.goes_on)

-- each piece that is found is one
pieces-with_piece : (text : List ℕ) (at : ℕ) (ps : List Placed) → HasNoBlank text → ArePieces (texts ps) → ArePieces (texts (with_piece text at ps))
pieces-with_piece [] at ps h s = s
pieces-with_piece (b ∷ bs) at ps h s = (record { some = omega arith; whole = h }, s)

no_blank-more : (text : List ℕ) (b : ℕ) → HasNoBlank text → is_blank b ≡ false → HasNoBlank (text ++ b ∷ [])
no_blank-more [] b h k = (k, tt)
no_blank-more (c ∷ cs) b h k = (h.0, no_blank-more cs b h.1 k)

pub placed-pieces : (bs text : List ℕ) (at : ℕ) → HasNoBlank text → ArePieces (texts (placed bs text at))
placed-pieces [] text at h = pieces-with_piece text at [] h tt
placed-pieces (b ∷ bs) text at h =
    elim (is_blank b) as (λ x. is_blank b ≡ x → ArePieces (texts (cond x (with_piece text at (placed bs [] (at + length text + 1))) (placed bs (text ++ b ∷ []) at)))) [
      | true ↦ λ e. pieces-with_piece text at (placed bs [] (at + length text + 1)) h (placed-pieces bs [] (at + length text + 1) tt)
      | false ↦ λ e. placed-pieces bs (text ++ b ∷ []) at (no_blank-more text b h e)
    ] refl
