-- Where comment lines end.
use Rattle.std.proofs.Common.{◌≡◌, ℕ, ◌+◌, Bool, true, false, not, ◌==◌, List, [], ◌∷◌, ◌++◌, ◌⊎◌, inl, inr, length, refl, arith, ap, sym, ◌∙◌, append_assoc, length-append}
use Rattle.std.specs.List.{flat_map, list_all}
use Rattle.std.proofs.lemmas.Bool.{and_parts, eqb-true}
use Rattle.dsv_cnf.specs.Reading.{comments_end}
use Rattle.dsv_cnf.specs.Texts.{in_line, IsInLine, AreInLines, comment_line}
use Rattle.dsv_algebra.proofs.Booleans.{not_true}

-- the text has no byte, or another than a `c` first
abbrev pub BeginsOther : List ℕ → Type 0
BeginsOther [] = Unit {0}
BeginsOther (b ∷ bs) = (b == 99) ≡ false

-- ---- comment lines are found

line-step : (b : ℕ) (bs : List ℕ) (at : ℕ) → (b == 10) ≡ false → comments_end true (b ∷ bs) at ≡ comments_end true bs (at + 1)
line-step b bs at h = ap (λ x. comments_end (not x) bs (at + 1)) h

after-line : (line rest : List ℕ) (at : ℕ) → IsInLine line → comments_end true (line ++ 10 ∷ rest) at ≡ comments_end false rest (at + length line + 1)
after-line [] rest at h = let e : at + 1 ≡ at + 0 + 1 = omega arith in ap (comments_end false rest) e
after-line (b ∷ bs) rest at h =
    let p = and_parts (in_line b) (list_all in_line bs) h in
    let e : at + 1 + length bs + 1 ≡ at + length (b ∷ bs) + 1 = omega arith in
    line-step b (bs ++ 10 ∷ rest) at (not_true (b == 10) p.0) ∙ after-line bs rest (at + 1) p.1 ∙ ap (comments_end false rest) e

pub lines-shape : (line more rest : List ℕ) → comment_line line ++ more ++ rest ≡ 99 ∷ (line ++ 10 ∷ (more ++ rest))
lines-shape line more rest = ap (λ t. 99 ∷ t) (append_assoc (line ++ 10 ∷ []) more rest ∙ append_assoc line (10 ∷ []) (more ++ rest))

pub length-line : (line : List ℕ) → length (comment_line line) ≡ length line + 2
length-line line = omega (arith, length-append line (10 ∷ []))

pub after-lines : (cs : List (List ℕ)) (rest : List ℕ) (at : ℕ) → AreInLines cs → comments_end false (flat_map comment_line cs ++ rest) at ≡ comments_end false rest (at + length (flat_map comment_line cs))
after-lines [] rest at h = let e : at ≡ at + 0 = omega arith in ap (comments_end false rest) e
after-lines (c ∷ cs) rest at h =
    let more = flat_map comment_line cs in
    let e : at + 1 + length c + 1 + length more ≡ at + length (comment_line c ++ more) = omega (arith, length-append (comment_line c) more, length-line c) in
    ap (λ t. comments_end false t at) (lines-shape c more rest)
    ∙ after-line c (more ++ rest) (at + 1) h.0
    ∙ after-lines cs rest (at + 1 + length c + 1) h.1
    ∙ ap (comments_end false rest) e

pub after-none : (rest : List ℕ) (at : ℕ) → BeginsOther rest → comments_end false rest at ≡ at
after-none [] at h = refl
after-none (b ∷ bs) at h = rw h refl

pub in-line : (line : List ℕ) (at : ℕ) → IsInLine line → comments_end true line at ≡ at + length line
in-line [] at h = omega arith
in-line (b ∷ bs) at h =
    let p = and_parts (in_line b) (list_all in_line bs) h in
    let e : at + 1 + length bs ≡ at + length (b ∷ bs) = omega arith in
    line-step b bs at (not_true (b == 10) p.0) ∙ in-line bs (at + 1) p.1 ∙ e

-- ---- what is found are comment lines

-- Comment lines and a rest that begins with no other comment, or with one that has no end.
pub record CommentsCut (bytes : List ℕ) : Type 0 where
  pub comments : List (List ℕ)
  pub lines : AreInLines comments
  pub rest : List ℕ
  pub split : bytes ≡ flat_map comment_line comments ++ rest
  pub ends : BeginsOther rest ⊎ ((line : List ℕ) × (rest ≡ 99 ∷ line) × IsInLine line)

-- The rest of a line and then comment lines.
record LineCut (bytes : List ℕ) : Type 0 where
  line : List ℕ
  whole : IsInLine line
  rest : List ℕ
  split : bytes ≡ line ++ 10 ∷ rest
  cut : CommentsCut rest

abbrev SaidComments : Bool → List ℕ → Type 0
SaidComments true bytes = LineCut bytes ⊎ IsInLine bytes
SaidComments false bytes = CommentsCut bytes

line_more : (b : ℕ) (bs : List ℕ) → (b == 10) ≡ false → SaidComments true bs → SaidComments true (b ∷ bs)
line_more b bs h (inl c) = inl (record {
  line = b ∷ c.line;
  whole = rw h c.whole;
  rest = c.rest;
  split = ap (λ t. b ∷ t) c.split;
  cut = c.cut;
})
line_more b bs h (inr i) = inr (rw h i)

line_ends : (b : ℕ) (bs : List ℕ) → b ≡ 10 → CommentsCut bs → SaidComments true (b ∷ bs)
line_ends b bs h c = inl (record { line = []; whole = refl; rest = bs; split = ap (λ n. n ∷ bs) h; cut = c })

comment_begins : (b : ℕ) (bs : List ℕ) → b ≡ 99 → SaidComments true bs → CommentsCut (b ∷ bs)
comment_begins b bs h (inl c) = record {
  comments = c.line ∷ c.cut.comments;
  lines = (c.whole, c.cut.lines);
  rest = c.cut.rest;
  split =
      let more = flat_map comment_line c.cut.comments in
      let inner : bs ≡ c.line ++ 10 ∷ (more ++ c.cut.rest) = c.split ∙ ap (λ t. c.line ++ 10 ∷ t) c.cut.split in
      ap (λ n. n ∷ bs) h ∙ ap (λ t. 99 ∷ t) inner ∙ sym (lines-shape c.line more c.cut.rest);
  ends = c.cut.ends;
}
comment_begins b bs h (inr i) = record { comments = []; lines = tt; rest = b ∷ bs; split = refl; ends = inr (bs, ap (λ n. n ∷ bs) h, i) }

said_comments : (bytes : List ℕ) (inside : Bool) → SaidComments inside bytes
said_comments [] true = inr refl
said_comments [] false = record { comments = []; lines = tt; rest = []; split = refl; ends = inl tt }
said_comments (b ∷ bs) true =
    elim (b == 10) as (λ x. (b == 10) ≡ x → SaidComments true (b ∷ bs)) [
      | true ↦ λ h. line_ends b bs (eqb-true b 10 h) (said_comments bs false)
      | false ↦ λ h. line_more b bs h (said_comments bs true)
    ] refl
said_comments (b ∷ bs) false =
    elim (b == 99) as (λ x. (b == 99) ≡ x → CommentsCut (b ∷ bs)) [
      | true ↦ λ h. comment_begins b bs (eqb-true b 99 h) (said_comments bs true)
      | false ↦ λ h. record { comments = []; lines = tt; rest = b ∷ bs; split = refl; ends = inl h }
    ] refl

pub comments_cut : (bytes : List ℕ) → CommentsCut bytes
comments_cut bytes = said_comments bytes false
