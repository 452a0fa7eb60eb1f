-- Lines that were cut are the text again, the pieces of a line are the line again, and a text begins with a line or has none.
use Rattle.std.proofs.Common.{◌≡◌, ◌∙◌, sym, ap, ℕ, ◌≤◌, Bool, true, false, cond, List, [], ◌∷◌, ◌++◌, length, refl, arith, append_assoc}
use Rattle.std.specs.Prelude.{◌==◌}
use Rattle.std.specs.List.{flat_map}
use Rattle.std.proofs.lemmas.Bool.{eqb-true}
use Rattle.std.proofs.lemmas.List.Elements.{All-nil, All-cons, All-head, All-tail}
use Rattle.dsv_lines.specs.Pieces.{space, line_feed, onto_first, pieces_of, TextLines, unended, line, onto_text, lines_of}
use Rattle.dsv_lines.specs.Texts.{Line, is_plain, IsPlain, line_text}
use Rattle.dsv_lines.proofs.Cuts.{some_pieces}
use Rattle.dsv_lines.proofs.WrittenLines.{plain_from, line_bytes, IsLine, pieces_of-line_bytes, line_bytes-spaced, line_before, onto_lines}

-- ---- pieces
joined_step : (b : ℕ) (bs : List ℕ) (ps : List (List ℕ)) (c : Bool) → (b == space) ≡ c → 1 ≤ length ps → line_bytes ps ≡ bs
    → line_bytes (cond c ([] ∷ ps) (onto_first b ps)) ≡ b ∷ bs
joined_step b bs [] c e h k = absurd (omega (arith, h))
joined_step b bs (p ∷ ps) true e h k = rw (eqb-true b space e) (ap (λ t. space ∷ t) k)
joined_step b bs (p ∷ []) false e h k = ap (λ t. b ∷ t) k
joined_step b bs (p ∷ q ∷ ps) false e h k = ap (λ t. b ∷ t) k

pub line_bytes-pieces_of : (text : List ℕ) → line_bytes (pieces_of text) ≡ text
line_bytes-pieces_of [] = refl
line_bytes-pieces_of (b ∷ bs) = joined_step b bs (pieces_of bs) (b == space) refl (some_pieces bs) (line_bytes-pieces_of bs)

-- ---- lines
-- the bytes of lines and of what follows them
abbrev text_of : TextLines → List ℕ
text_of (unended bytes) = bytes
text_of (line bytes more) = bytes ++ line_feed ∷ text_of more

text_step : (b : ℕ) (bs : List ℕ) (t : TextLines) (c : Bool) → (b == line_feed) ≡ c → text_of t ≡ bs
    → text_of (cond c (line [] t) (onto_text b t)) ≡ b ∷ bs
text_step b bs t true e k = rw (eqb-true b line_feed e) (ap (λ x. line_feed ∷ x) k)
text_step b bs (unended bytes) false e k = ap (λ x. b ∷ x) k
text_step b bs (line bytes more) false e k = ap (λ x. b ∷ x) k

text_of-lines_of : (text : List ℕ) → text_of (lines_of text) ≡ text
text_of-lines_of [] = refl
text_of-lines_of (b ∷ bs) = text_step b bs (lines_of bs) (b == line_feed) refl (text_of-lines_of bs)

line_text-bytes : (l : Line) → line_text l ≡ line_bytes l ++ line_feed ∷ []
line_text-bytes [] = refl
line_text-bytes (p ∷ ps) = ap (λ t. t ++ line_feed ∷ []) (line_bytes-spaced p ps)

text_of-onto_lines : (ls : List Line) → text_of (onto_lines ls (unended [])) ≡ flat_map line_text ls
text_of-onto_lines [] = refl
text_of-onto_lines (l ∷ ls) =
    ap (λ t. line_bytes l ++ line_feed ∷ t) (text_of-onto_lines ls)
    ∙ sym (append_assoc (line_bytes l) (line_feed ∷ []) (flat_map line_text ls))
    ∙ ap (λ t. t ++ flat_map line_text ls) (sym (line_text-bytes l))

-- a text that is cut into these lines, with nothing after them, is their text
pub lines-read : (text : List ℕ) (ls : List Line) → lines_of text ≡ onto_lines ls (unended []) → text ≡ flat_map line_text ls
lines-read text ls h = sym (text_of-lines_of text) ∙ ap text_of h ∙ text_of-onto_lines ls

-- ---- the first line of a text
-- a text has no line, or begins with one and goes on with the rest
pub data Beginning (text : List ℕ) : Type 0 where
  none : (bytes : List ℕ) → lines_of text ≡ unended bytes → Beginning text
  one : (l : Line) (rest : List ℕ) → IsLine l → text ≡ line_text l ++ rest → Beginning text

space_step : (b : ℕ) (bs : List ℕ) (l : Line) (rest : List ℕ) (c : Bool) → (b == line_feed) ≡ false → (b == space) ≡ c → IsLine l → bs ≡ line_text l ++ rest → Beginning (b ∷ bs)
space_step b bs [] rest c e f h k = absurd h
space_step b bs (p ∷ ps) rest true e f h k =
    Beginning.one ([] ∷ p ∷ ps) rest (All-cons IsPlain [] (p ∷ ps) refl h) (ap (λ x. x ∷ bs) (eqb-true b space f) ∙ ap (λ t. space ∷ t) k)
space_step b bs (p ∷ ps) rest false e f h k =
    Beginning.one ((b ∷ p) ∷ ps) rest
    (All-cons IsPlain (b ∷ p) ps (plain_from (b == space) (b == line_feed) (is_plain p) f e (All-head IsPlain p ps h)) (All-tail IsPlain p ps h)) (ap (λ t. b ∷ t) k)

beginning_step : (b : ℕ) (bs : List ℕ) (c : Bool) → (b == line_feed) ≡ c → Beginning bs → Beginning (b ∷ bs)
beginning_step b bs true e h = Beginning.one ([] ∷ []) bs (All-cons IsPlain [] [] refl (All-nil IsPlain)) (ap (λ x. x ∷ bs) (eqb-true b line_feed e))
beginning_step b bs false e (Beginning.none bytes k) = Beginning.none (b ∷ bytes) (rw e (ap (onto_text b) k))
beginning_step b bs false e (Beginning.one l rest h k) = space_step b bs l rest (b == space) e refl h k

pub beginning : (text : List ℕ) → Beginning text
beginning [] = Beginning.none [] refl
beginning (b ∷ bs) = beginning_step b bs (b == line_feed) refl (beginning bs)

-- lines that begin the same text are the same, and so is what follows them
pub record AreSame (l m : Line) (rest more : List ℕ) : Type 0 where
  pub lines : l ≡ m
  pub rests : rest ≡ more

same_parts : (a b : List ℕ) (t u : TextLines) → line a t ≡ line b u → (a ≡ b) × (t ≡ u)
same_parts a b t u e = (cc, cc)

pub same_beginning : (l m : Line) (rest more : List ℕ) → IsLine l → IsLine m → line_text l ++ rest ≡ line_text m ++ more → AreSame l m rest more
same_beginning l m rest more h k e =
    let p = same_parts (line_bytes l) (line_bytes m) (lines_of rest) (lines_of more) (sym (line_before l rest h) ∙ ap lines_of e ∙ line_before m more k) in
    record {
      lines = sym (pieces_of-line_bytes l h) ∙ ap pieces_of p.0 ∙ pieces_of-line_bytes m k;
      rests = sym (text_of-lines_of rest) ∙ ap text_of p.1 ∙ text_of-lines_of more;
    }

-- a text without a line begins with none
pub no_beginning : (l : Line) (bytes text rest : List ℕ) → IsLine l → lines_of text ≡ unended bytes → text ≡ line_text l ++ rest → ⊥
no_beginning l bytes text rest h e k = let both : unended bytes ≡ line (line_bytes l) (lines_of rest) = sym e ∙ ap lines_of k ∙ line_before l rest h in cc
