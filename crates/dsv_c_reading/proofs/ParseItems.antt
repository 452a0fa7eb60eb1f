-- The tokens of pieces are read as these pieces.
use Rattle.std.proofs.Common.{◌≡◌, ℕ, ◌==◌, Bool, true, false, List, [], ◌∷◌, ◌++◌, refl, sym, ap, subst, append_assoc}
use Rattle.std.specs.Prelude.{not, ◌&&◌, Some, None, if◌then◌else◌}
use Rattle.std.specs.List.{All, flat_map, list_all}
use Rattle.std.specs.Option.{option_and_then}
use Rattle.std.specs.Str.{byte}
use Rattle.std.proofs.lemmas.Bool.{and_parts}
use Rattle.std.proofs.lemmas.List.{append-nil}
use Rattle.std.proofs.lemmas.List.Elements.{All-head, All-tail}
use Rattle.dsv_c_reading.specs.Items.{Item, before, between, closed, goes, item_next, whole_items, items_of}
use Rattle.dsv_c_reading.specs.Lexemes.{Lexeme, Word, Digits, Mark, Points, Line}
use Rattle.dsv_c_reading.proofs.Runs.{Runs, runs_none, runs_more, runs_append}
use Rattle.dsv_c_reading.proofs.Spelled.{line_lexemes, item_lexemes}

-- ---- tokens of lines
-- no brace and no semicolon
abbrev pub is_inside : Lexeme → Bool
is_inside (Word w) = true
is_inside (Digits n) = true
is_inside (Mark m) = not (m == byte ";") && (not (m == byte "}") && not (m == byte "{"))
is_inside Points = true
is_inside (Line l) = false

pub record IsLine (ls : List Lexeme) : Type 0 where
  pub inside : list_all is_inside ls ≡ true

mark_inside : (head : List Lexeme) (lines : List (List Lexeme)) (line : List Lexeme) (m : ℕ) (a b c : Bool) → (not a && (not b && not c)) ≡ true
    → (if a then goes (between head (lines ++ line ∷ []) []) else if b then closed head lines line else if c then None else goes (between head lines (line ++ Mark m ∷ []))) ≡ goes (between head lines (line ++ Mark m ∷ []))
mark_inside head lines line m true b c h = absurd (cc)
mark_inside head lines line m false true c h = absurd (cc)
mark_inside head lines line m false false true h = absurd (cc)
mark_inside head lines line m false false false h = refl

goes_inside : (head : List Lexeme) (lines : List (List Lexeme)) (line : List Lexeme) (l : Lexeme) → is_inside l ≡ true → item_next (between head lines line) l ≡ goes (between head lines (line ++ l ∷ []))
goes_inside head lines line (Word w) h = refl
goes_inside head lines line (Digits n) h = refl
goes_inside head lines line (Mark m) h = mark_inside head lines line m (m == byte ";") (m == byte "}") (m == byte "{") h
goes_inside head lines line Points h = refl
goes_inside head lines line (Line l) h = absurd (cc)

-- the tokens of a line are kept
line_kept : (head : List Lexeme) (lines : List (List Lexeme)) (line ls : List Lexeme) → list_all is_inside ls ≡ true → Runs item_next (between head lines line) ls [] (between head lines (line ++ ls))
line_kept head lines line [] h = subst (λ (t : List Lexeme). Runs item_next (between head lines line) [] [] (between head lines t)) (sym (append-nil line)) (runs_none (between head lines line))
line_kept head lines line (l ∷ ls) h =
    let p = and_parts (is_inside l) (list_all is_inside ls) h in
    subst (λ (t : List Lexeme). Runs item_next (between head lines line) (l ∷ ls) [] (between head lines t)) (append_assoc line (l ∷ []) ls)
    (runs_more {o = []} (goes_inside head lines line l p.0) (line_kept head lines (line ++ l ∷ []) ls p.1))

-- ---- lines
line_read : (head : List Lexeme) (lines : List (List Lexeme)) (line : List Lexeme) → IsLine line → Runs item_next (between head lines []) (line_lexemes line) [] (between head (lines ++ line ∷ []) [])
line_read head lines line h = runs_append {o = []} (line_kept head lines [] line h.inside) (record { is = refl })

lines_read : (head : List Lexeme) (earlier ls : List (List Lexeme)) → All IsLine ls → Runs item_next (between head earlier []) (flat_map line_lexemes ls) [] (between head (earlier ++ ls) [])
lines_read head earlier [] h = subst (λ (t : List (List Lexeme)). Runs item_next (between head earlier []) [] [] (between head t [])) (sym (append-nil earlier)) (runs_none (between head earlier []))
lines_read head earlier (l ∷ ls) h =
    subst (λ (t : List (List Lexeme)). Runs item_next (between head earlier []) (flat_map line_lexemes (l ∷ ls)) [] (between head t [])) (append_assoc earlier (l ∷ []) ls)
    (runs_append {o = []} (line_read head earlier l (All-head IsLine l ls h)) (lines_read head (earlier ++ l ∷ []) ls (All-tail IsLine l ls h)))

-- ---- heads
-- no brace and no line of the preprocessor
abbrev pub is_in_head : Lexeme → Bool
is_in_head (Word w) = true
is_in_head (Digits n) = true
is_in_head (Mark m) = not (m == byte "{") && not (m == byte "}")
is_in_head Points = true
is_in_head (Line l) = false

mark_in_head : (head : List Lexeme) (m : ℕ) (a b : Bool) → (not a && not b) ≡ true → (if a then goes (between head [] []) else if b then None else goes (before (head ++ Mark m ∷ []))) ≡ goes (before (head ++ Mark m ∷ []))
mark_in_head head m true b h = absurd (cc)
mark_in_head head m false true h = absurd (cc)
mark_in_head head m false false h = refl

goes_before : (head : List Lexeme) (l : Lexeme) → is_in_head l ≡ true → item_next (before head) l ≡ goes (before (head ++ l ∷ []))
goes_before head (Word w) h = refl
goes_before head (Digits n) h = refl
goes_before head (Mark m) h = mark_in_head head m (m == byte "{") (m == byte "}") h
goes_before head Points h = refl
goes_before head (Line l) h = absurd (cc)

-- the tokens of a head are kept
head_kept : (head ls : List Lexeme) → list_all is_in_head ls ≡ true → Runs item_next (before head) ls [] (before (head ++ ls))
head_kept head [] h = subst (λ (t : List Lexeme). Runs item_next (before head) [] [] (before t)) (sym (append-nil head)) (runs_none (before head))
head_kept head (l ∷ ls) h =
    let p = and_parts (is_in_head l) (list_all is_in_head ls) h in
    subst (λ (t : List Lexeme). Runs item_next (before head) (l ∷ ls) [] (before t)) (append_assoc head (l ∷ []) ls) (runs_more {o = []} (goes_before head l p.0) (head_kept (head ++ l ∷ []) ls p.1))

-- ---- pieces
pub record IsPiece (i : Item) : Type 0 where
  pub head : list_all is_in_head i.head ≡ true
  pub lines : All IsLine i.lines

-- the machine gives a piece, and then stands at the beginning of the next
piece_read : (i : Item) → IsPiece i → Runs item_next (before []) (item_lexemes i) (i ∷ []) (before [])
piece_read i h = runs_append {o = []} (head_kept [] i.head h.head) (runs_more {o = []} refl (runs_append {o = []} (lines_read i.head [] i.lines h.lines) (record { is = refl })))

pieces_read : (items : List Item) → All IsPiece items → Runs item_next (before []) (flat_map item_lexemes items) items (before [])
pieces_read [] h = runs_none (before [])
pieces_read (i ∷ items) h = runs_append (piece_read i (All-head IsPiece i items h)) (pieces_read items (All-tail IsPiece i items h))

pub items_are : (items : List Item) → All IsPiece items → items_of (flat_map item_lexemes items) ≡ Some items
items_are items h = ap (option_and_then whole_items) (pieces_read items h).is
