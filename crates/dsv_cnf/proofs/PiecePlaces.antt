-- Where a piece stands in a text.
use Rattle.std.proofs.Common.{◌≡◌, ℕ, ◌+◌, true, false, List, [], ◌∷◌, ◌++◌, cond, length, refl, arith, ap, sym, subst, ◌∙◌, append_assoc, length-append}
use Rattle.dsv_text.specs.Bytes.{is_blank}
use Rattle.dsv_cnf.specs.TextFaults.{IsPiece, EndsApart}
use Rattle.dsv_cnf.specs.Texts.{IsApart, AreSpaced}
use Rattle.dsv_cnf.proofs.ListLemmas.{first_same, rest_same}
use Rattle.dsv_cnf.proofs.Spacing.{Placed, texts, with_piece, placed, spaced-blank, spaced-with_piece, placed-piece}

-- ---- a piece that was found

-- The piece stands apart from the text before it, which has these pieces, and from the text after.
pub record IsLocated (whole : List ℕ) (at : ℕ) (before : List Placed) (p : Placed) : Type 0 where
  pub front : List ℕ
  pub rest : List ℕ
  pub split : whole ≡ front ++ p.text ++ rest
  pub place : p.at ≡ at + length front
  pub pieces : AreSpaced (texts before) front
  pub ended : EndsApart front
  pub apart : IsApart rest

ends-cons : (b : ℕ) (bs : List ℕ) → is_blank b ≡ true → EndsApart bs → EndsApart (b ∷ bs)
ends-cons b [] h k = h
ends-cons b (c ∷ cs) h k = k

ends-append : (text : List ℕ) (b : ℕ) (bs : List ℕ) → EndsApart (b ∷ bs) → EndsApart (text ++ b ∷ bs)
ends-append [] b bs h = h
ends-append (c ∷ []) b bs h = h
ends-append (c ∷ d ∷ ds) b bs h = ends-append (d ∷ ds) b bs h

-- blanks and a text before
located-blank : (b : ℕ) (bs : List ℕ) (at : ℕ) (before : List Placed) (p : Placed) → is_blank b ≡ true → IsLocated bs (at + 1) before p → IsLocated (b ∷ bs) at before p
located-blank b bs at before p h l = record {
  front = b ∷ l.front;
  rest = l.rest;
  split = ap (λ t. b ∷ t) l.split;
  place = let e = l.place in omega (arith, e);
  pieces = spaced-blank b (texts before) l.front h l.pieces;
  ended = ends-cons b l.front h l.ended;
  apart = l.apart;
}

located-later : (c : ℕ) (cs : List ℕ) (b : ℕ) (bs : List ℕ) (at : ℕ) (q : Placed) (before : List Placed) (p : Placed) → is_blank b ≡ true → q.text ≡ c ∷ cs → IsLocated bs (at + length (c ∷ cs) + 1) before p
    → IsLocated ((c ∷ cs) ++ b ∷ bs) at (q ∷ before) p
located-later c cs b bs at q before p h e l =
    let text : List ℕ = c ∷ cs in
    let gap : AreSpaced (texts before) (b ∷ l.front) = spaced-blank b (texts before) l.front h l.pieces in
    let spaced : AreSpaced (text ∷ texts before) (text ++ b ∷ l.front) = spaced-with_piece text at before (b ∷ l.front) h gap in
    record {
      front = text ++ b ∷ l.front;
      rest = l.rest;
      split = ap (λ t. text ++ b ∷ t) l.split ∙ sym (append_assoc text (b ∷ l.front ++ p.text) l.rest) ∙ ap (λ t. t ++ l.rest) (sym (append_assoc text (b ∷ l.front) p.text));
      place = let k = l.place in omega (arith, k, length-append text (b ∷ l.front));
      pieces = subst (λ t. AreSpaced (t ∷ texts before) (text ++ b ∷ l.front)) (sym e) spaced;
      ended = ends-append text b l.front (ends-cons b l.front h l.ended);
      apart = l.apart;
    }

located-here : (c : ℕ) (cs rest : List ℕ) (at : ℕ) (p : Placed) → IsApart rest → record { at = at; text = c ∷ cs } ≡ p → IsLocated ((c ∷ cs) ++ rest) at [] p
located-here c cs rest at p h e =
    let n : at ≡ at + 0 = omega arith in
    record {
      front = [];
      rest = rest;
      split = ap (λ (q : Placed). q.text ++ rest) e;
      place = ap (λ (q : Placed). q.at) (sym e) ∙ n;
      pieces = refl;
      ended = tt;
      apart = h;
    }

none_split : (before : List Placed) (p : Placed) (after : List Placed) → [] ≡ before ++ p ∷ after → ⊥
none_split [] p after e = cc
none_split (q ∷ qs) p after e = cc

located_last : (text : List ℕ) (at : ℕ) (before : List Placed) (p : Placed) (after : List Placed) → with_piece text at [] ≡ before ++ p ∷ after → IsLocated (text ++ []) at before p
located_last [] at before p after e = absurd (none_split before p after e)
located_last (c ∷ cs) at [] p after e = located-here c cs [] at p tt (first_same (record { at = at; text = c ∷ cs }) p [] after e)
located_last (c ∷ cs) at (q ∷ qs) p after e = absurd (none_split qs p after (rest_same (record { at = at; text = c ∷ cs }) q [] (qs ++ p ∷ after) e))

located_blank : (b : ℕ) (bs text : List ℕ) (at : ℕ) (before : List Placed) (p : Placed) (after : List Placed) → is_blank b ≡ true
    → ((more : List Placed) → placed bs [] (at + length text + 1) ≡ more ++ p ∷ after → IsLocated bs (at + length text + 1) more p)
    → with_piece text at (placed bs [] (at + length text + 1)) ≡ before ++ p ∷ after → IsLocated (text ++ b ∷ bs) at before p
located_blank b bs [] at before p after h ih e =
    let n : at + 0 + 1 ≡ at + 1 = omega arith in
    located-blank b bs at before p h (subst (λ (k : ℕ). IsLocated bs k before p) n (ih before e))
located_blank b bs (c ∷ cs) at [] p after h ih e = located-here c cs (b ∷ bs) at p h (first_same (record { at = at; text = c ∷ cs }) p (placed bs [] (at + length (c ∷ cs) + 1)) after e)
located_blank b bs (c ∷ cs) at (q ∷ qs) p after h ih e =
    let first : record { at = at; text = c ∷ cs } ≡ q = first_same (record { at = at; text = c ∷ cs }) q (placed bs [] (at + length (c ∷ cs) + 1)) (qs ++ p ∷ after) e in
    located-later c cs b bs at q qs p h (ap (λ (x : Placed). x.text) (sym first)) (ih qs (rest_same (record { at = at; text = c ∷ cs }) q (placed bs [] (at + length (c ∷ cs) + 1)) (qs ++ p ∷ after) e))

pub located : (bs text : List ℕ) (at : ℕ) (before : List Placed) (p : Placed) (after : List Placed) → placed bs text at ≡ before ++ p ∷ after → IsLocated (text ++ bs) at before p
located [] text at before p after e = located_last text at before p after e
located (b ∷ bs) text at before p after e =
    elim (is_blank b) as (λ x. is_blank b ≡ x → cond x (with_piece text at (placed bs [] (at + length text + 1))) (placed bs (text ++ b ∷ []) at) ≡ before ++ p ∷ after → IsLocated (text ++ b ∷ bs) at before p) [
      | true ↦ λ h f. located_blank b bs text at before p after h (λ more g. located bs [] (at + length text + 1) more p after g) f
      | false ↦ λ h f. subst (λ t. IsLocated t at before p) (append_assoc text (b ∷ []) bs) (located bs (text ++ b ∷ []) at before p after f)
    ] refl e

-- ---- a piece that is found

with_piece-append : (text : List ℕ) (at : ℕ) (ps qs : List Placed) → with_piece text at (ps ++ qs) ≡ with_piece text at ps ++ qs
with_piece-append [] at ps qs = refl
with_piece-append (b ∷ bs) at ps qs = refl

ended-more : (b : ℕ) (bs text rest : List ℕ) (at : ℕ) → EndsApart (b ∷ bs) → placed (b ∷ bs ++ rest) text at ≡ placed (b ∷ bs) text at ++ placed rest [] (at + length text + length (b ∷ bs))
ended-more b [] text rest at h =
    rw h (with_piece-append text at [] (placed rest [] (at + length text + 1)))
ended-more b (c ∷ cs) text rest at h =
    elim (is_blank b) as (λ x. cond x (with_piece text at (placed (c ∷ cs ++ rest) [] (at + length text + 1))) (placed (c ∷ cs ++ rest) (text ++ b ∷ []) at)
    ≡ cond x (with_piece text at (placed (c ∷ cs) [] (at + length text + 1))) (placed (c ∷ cs) (text ++ b ∷ []) at) ++ placed rest [] (at + length text + length (b ∷ c ∷ cs))) [
      | true ↦
          let next = at + length text + 1 in
          let n : next + 0 + length (c ∷ cs) ≡ at + length text + length (b ∷ c ∷ cs) = omega arith in
          ap (with_piece text at) (ended-more c cs [] rest next h ∙ ap (λ (k : ℕ). placed (c ∷ cs) [] next ++ placed rest [] k) n)
          ∙ with_piece-append text at (placed (c ∷ cs) [] next) (placed rest [] (at + length text + length (b ∷ c ∷ cs)))
      | false ↦
          let n : at + length (text ++ b ∷ []) + length (c ∷ cs) ≡ at + length text + length (b ∷ c ∷ cs) = omega (arith, length-append text (b ∷ [])) in
          ended-more c cs (text ++ b ∷ []) rest at h ∙ ap (λ (k : ℕ). placed (c ∷ cs) (text ++ b ∷ []) at ++ placed rest [] k) n
    ]

-- the pieces before and after a place where pieces end
pub placed-ended : (before rest : List ℕ) (at : ℕ) → EndsApart before → placed (before ++ rest) [] at ≡ placed before [] at ++ placed rest [] (at + length before)
placed-ended [] rest at h = let e : at ≡ at + 0 = omega arith in ap (placed rest []) e
placed-ended (b ∷ bs) rest at h = let n : at + 0 + length (b ∷ bs) ≡ at + length (b ∷ bs) = omega arith in ended-more b bs [] rest at h ∙ ap (λ (k : ℕ). placed (b ∷ bs) [] at ++ placed rest [] k) n

-- a piece between two texts
pub placed-between : (before piece after : List ℕ) (at : ℕ) → EndsApart before → IsPiece piece → IsApart after
    → placed (before ++ piece ++ after) [] at ≡ placed before [] at ++ record { at = at + length before; text = piece } ∷ placed after [] (at + length before + length piece)
placed-between before piece after at h p a =
    ap (λ t. placed t [] at) (append_assoc before piece after) ∙ placed-ended before (piece ++ after) at h
    ∙ ap (λ ps. placed before [] at ++ ps) (placed-piece piece after (at + length before) p a)
