-- Texts cut at the first byte of a kind.
use Rattle.std.proofs.Common.{◌≡◌, ◌∙◌, sym, ap, ℕ, suc, ◌+◌, ◌<◌, ◌≤◌, Bool, true, false, not, cond, List, [], ◌∷◌, length, take, drop, get_or, refl, arith, add-one, ◌-◌, Option, Some, None, inl, inr, eq-eqb, length-drop, slice_get}
use native.Mathlib.Numerals.{unary_clauses}
use Rattle.std.specs.Prelude.{◌==◌, is_none}
use Rattle.std.specs.Borrow.{Bor}
use Rattle.std.specs.List.{position_or_len}
use Rattle.std.proofs.Math.Seq.{drop-cons, drop-length, take-length}
use Rattle.std.proofs.lemmas.Bool.{cases_lt, ne_eqb}
use Rattle.dsv_lines.specs.Pieces.{space, line_feed, onto_first, pieces_of, pieces_left, TextLines, unended, line, onto_text, lines_of, is_ended, LinesLeft}

-- ---- pieces
abbrev space_at : List ℕ → ℕ
space_at = position_or_len (λ b. b == space)

piece_at : (byte : ℕ) (bs : List ℕ) (p n : ℕ) → n ≡ suc p
    → (byte ∷ take p bs) ∷ pieces_of (drop (p + 1) bs) ≡ take n (byte ∷ bs) ∷ pieces_of (drop (n + 1) (byte ∷ bs))
piece_at byte bs p n e = rw e (simp unary_clauses refl)

piece_step : (byte : ℕ) (bs : List ℕ) (c : Bool)
    → (space_at bs < length bs → pieces_of bs ≡ take (space_at bs) bs ∷ pieces_of (drop (space_at bs + 1) bs))
    → let n = cond (not c) (1 + space_at bs) 0 in
    n < suc (length bs) → cond c ([] ∷ pieces_of bs) (onto_first byte (pieces_of bs)) ≡ take n (byte ∷ bs) ∷ pieces_of (drop (n + 1) (byte ∷ bs))
piece_step byte bs true ih h = refl
piece_step byte bs false ih h = rw (ih (omega arith)) (piece_at byte bs (space_at bs) (1 + space_at bs) (omega arith))

pieces_cut : (text : List ℕ) → space_at text < length text → pieces_of text ≡ take (space_at text) text ∷ pieces_of (drop (space_at text + 1) text)
pieces_cut [] h = absurd (omega arith)
pieces_cut (b ∷ bs) h = piece_step b bs (b == space) (pieces_cut bs) h

last_step : (byte : ℕ) (bs : List ℕ) (c : Bool) → (space_at bs ≡ length bs → pieces_of bs ≡ bs ∷ [])
    → cond (not c) (1 + space_at bs) 0 ≡ suc (length bs)
    → cond c ([] ∷ pieces_of bs) (onto_first byte (pieces_of bs)) ≡ (byte ∷ bs) ∷ []
last_step byte bs true ih h = absurd (omega arith)
last_step byte bs false ih h = rw (ih (omega arith)) refl

pieces_uncut : (text : List ℕ) → space_at text ≡ length text → pieces_of text ≡ text ∷ []
pieces_uncut [] h = refl
pieces_uncut (b ∷ bs) h = last_step b bs (b == space) (pieces_uncut bs) h

-- a space ends the first piece
pub first_piece : (text : List ℕ) (n : ℕ) → n ≡ position_or_len (λ b. b == 32) text → n < length text
    → pieces_of text ≡ take n text ∷ pieces_of (drop (n + 1) text)
first_piece text n e h = let e' : n ≡ space_at text = e in rw e' (pieces_cut text (omega arith))

-- a text without a space is one piece
pub only_piece : (text : List ℕ) (n : ℕ) → n ≡ position_or_len (λ b. b == 32) text → n ≡ length text
    → pieces_of text ≡ text ∷ []
only_piece text n e h = pieces_uncut text (sym e ∙ h)

-- ---- lines
abbrev feed_at : List ℕ → ℕ
feed_at = position_or_len (λ b. b == line_feed)

line_at : (byte : ℕ) (bs : List ℕ) (p n : ℕ) → n ≡ suc p
    → line (byte ∷ take p bs) (lines_of (drop (p + 1) bs)) ≡ line (take n (byte ∷ bs)) (lines_of (drop (n + 1) (byte ∷ bs)))
line_at byte bs p n e = rw e (simp unary_clauses refl)

line_step : (byte : ℕ) (bs : List ℕ) (c : Bool)
    → (feed_at bs < length bs → lines_of bs ≡ line (take (feed_at bs) bs) (lines_of (drop (feed_at bs + 1) bs)))
    → let n = cond (not c) (1 + feed_at bs) 0 in
    n < suc (length bs) → cond c (line [] (lines_of bs)) (onto_text byte (lines_of bs)) ≡ line (take n (byte ∷ bs)) (lines_of (drop (n + 1) (byte ∷ bs)))
line_step byte bs true ih h = refl
line_step byte bs false ih h = rw (ih (omega arith)) (line_at byte bs (feed_at bs) (1 + feed_at bs) (omega arith))

lines_cut : (text : List ℕ) → feed_at text < length text → lines_of text ≡ line (take (feed_at text) text) (lines_of (drop (feed_at text + 1) text))
lines_cut [] h = absurd (omega arith)
lines_cut (b ∷ bs) h = line_step b bs (b == line_feed) (lines_cut bs) h

unended_step : (byte : ℕ) (bs : List ℕ) (c : Bool) → (feed_at bs ≡ length bs → lines_of bs ≡ unended bs)
    → cond (not c) (1 + feed_at bs) 0 ≡ suc (length bs)
    → cond c (line [] (lines_of bs)) (onto_text byte (lines_of bs)) ≡ unended (byte ∷ bs)
unended_step byte bs true ih h = absurd (omega arith)
unended_step byte bs false ih h = rw (ih (omega arith)) refl

lines_uncut : (text : List ℕ) → feed_at text ≡ length text → lines_of text ≡ unended text
lines_uncut [] h = refl
lines_uncut (b ∷ bs) h = unended_step b bs (b == line_feed) (lines_uncut bs) h

-- a line feed ends the first line
pub first_line : (text : List ℕ) (n : ℕ) → n ≡ position_or_len (λ b. b == 10) text → n < length text
    → lines_of text ≡ line (take n text) (lines_of (drop (n + 1) text))
first_line text n e h = let e' : n ≡ feed_at text = e in rw e' (lines_cut text (omega arith))

-- a text without a line feed has no line
pub no_line : (text : List ℕ) (n : ℕ) → n ≡ position_or_len (λ b. b == 10) text → n ≡ length text
    → lines_of text ≡ unended text
no_line text n e h = lines_uncut text (sym e ∙ h)

-- ---- what is left is no end
text_step : (byte : ℕ) (ls : TextLines) (c : Bool) → is_ended (cond c (line [] ls) (onto_text byte ls)) ≡ false
text_step byte ls true = refl
text_step byte (unended bytes) false = refl
text_step byte (line bytes more) false = refl

-- a text has ended where it is empty
pub is_ended-lines_of : (text : List ℕ) → is_ended (lines_of text) ≡ (length text == 0)
is_ended-lines_of [] = refl
is_ended-lines_of (b ∷ bs) =
    text_step b (lines_of bs) (b == line_feed) ∙ sym (ne_eqb (length (b ∷ bs)) 0 (λ e. omega (arith, e)))

-- ---- how many pieces there are
some_step : (byte : ℕ) (ps : List (List ℕ)) (c : Bool) → 1 ≤ length ps → 1 ≤ length (cond c ([] ∷ ps) (onto_first byte ps))
some_step byte ps true h = omega arith
some_step byte [] false h = absurd (omega arith)
some_step byte (p ∷ ps) false h = omega arith

pub some_pieces : (text : List ℕ) → 1 ≤ length (pieces_of text)
some_pieces [] = omega arith
some_pieces (b ∷ bs) = some_step b (pieces_of bs) (b == space) (some_pieces bs)

-- pieces are left until the last one is taken
pub pieces_left-none : (o : Option (Bor (List ℕ))) → (length (pieces_left o) == 0) ≡ is_none o
pieces_left-none None = refl
pieces_left-none (Some text) = ne_eqb (length (pieces_of text.now)) 0 (λ e. omega (arith, e, some_pieces text.now))

count_step : (byte : ℕ) (ps : List (List ℕ)) (c : Bool) → 1 ≤ length ps → length (cond c ([] ∷ ps) (onto_first byte ps)) ≡ cond c 1 0 + length ps
count_step byte ps true h = omega arith
count_step byte [] false h = absurd (omega arith)
count_step byte (p ∷ ps) false h = omega arith

-- a byte that is a space begins a piece
pub piece_count : (text : List ℕ) (i : ℕ) → i < length text
    → length (pieces_of (drop i text)) ≡ cond (get_or text i 0 == 32) 1 0 + length (pieces_of (drop (i + 1) text))
piece_count text i h =
    rw (add-one) (rw (drop-cons text i 0) (count_step (get_or text i 0) (pieces_of (drop (suc i) text)) (get_or text i 0 == space) (some_pieces (drop (suc i) text))))

pub last_piece : (text : List ℕ) (i : ℕ) → i ≡ length text → length (pieces_of (drop i text)) ≡ 1
last_piece text i e = rw e (rw (drop-length text) refl)

pub space_counts : (text : List ℕ) (i : ℕ) → i < length text → get_or text i 0 ≡ 32
    → length (pieces_of (drop i text)) ≡ 1 + length (pieces_of (drop (i + 1) text))
space_counts text i h e = piece_count text i h ∙ ap (λ b. cond b 1 0 + length (pieces_of (drop (i + 1) text))) (eq-eqb (get_or text i 0) 32 e)

pub other_counts : (text : List ℕ) (i : ℕ) → i < length text → (get_or text i 0 ≡ 32 → ⊥)
    → length (pieces_of (drop i text)) ≡ length (pieces_of (drop (i + 1) text))
other_counts text i h ne =
    piece_count text i h ∙ ap (λ b. cond b 1 0 + length (pieces_of (drop (i + 1) text))) (ne_eqb (get_or text i 0) 32 ne) ∙ omega arith

-- ---- what is taken
to_end : (n : ℕ) (text : List ℕ) → take (length text - n) (drop n text) ≡ drop n text
to_end n text = rw (← length-drop n text) (take-length (drop n text))

-- the first piece ends at the first space, or where the text ends
pub taken_piece : (text : List ℕ) (n : ℕ) → n ≡ position_or_len (λ b. b == 32) text → n ≤ length text
    → slice_get (pieces_of text) 0 ≡ Some (take n text)
taken_piece text n e h = elim (cases_lt n (length text)) [
  | inl l ↦ ap (λ ps. slice_get ps 0) (first_piece text n e l)
  | inr g ↦
      let all : n ≡ length text = omega (arith, h, g) in
      ap (λ ps. slice_get ps 0) (only_piece text n e all) ∙ ap Some (sym (ap (λ k. take k text) all ∙ take-length text))
]

-- a text with a space
pub cut_piece : (text : List ℕ) (n : ℕ) → n ≡ position_or_len (λ b. b == 32) text → n < length text
    → pieces_of text ≡ take n text ∷ pieces_of (take (length text - (n + 1)) (drop (n + 1) text))
cut_piece text n e h = first_piece text n e h ∙ ap (λ t. take n text ∷ pieces_of t) (sym (to_end (n + 1) text))

-- and one without
pub last_is_whole : (text : List ℕ) (n : ℕ) → n ≡ position_or_len (λ b. b == 32) text → n ≡ length text → pieces_of text ≡ take n text ∷ []
last_is_whole text n e h = only_piece text n e h ∙ ap (λ t. t ∷ []) (sym (ap (λ k. take k text) h ∙ take-length text))

abbrev left_of : TextLines → ℕ → LinesLeft
left_of ls n = record { lines = ls; number = n }

pub taken_line : (text : List ℕ) (n number : ℕ) → n ≡ position_or_len (λ b. b == 10) text → n < length text
    → left_of (lines_of text) number ≡ left_of (line (take n text) (lines_of (take (length text - (n + 1)) (drop (n + 1) text)))) number
taken_line text n number e h =
    ap (λ ls. left_of ls number) (first_line text n e h ∙ ap (λ r. line (take n text) (lines_of r)) (sym (to_end (n + 1) text)))
