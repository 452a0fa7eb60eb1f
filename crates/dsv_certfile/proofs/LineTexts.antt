-- Texts of lines, by their parts.
use Rattle.std.proofs.Common.{◌≡◌, ◌∙◌, sym, ap, List, [], ◌∷◌, ◌++◌, ℕ, map, Result, Ok, refl, append_assoc, codes, length, take, ℤ, inl, inr, arith}
use Rattle.std.specs.Prelude.{min}
use Rattle.std.proofs.Math.Seq.{take-length}
use Rattle.std.proofs.lemmas.Bool.{cases_lt}
use Rattle.std.specs.List.{flat_map}
use Rattle.std.proofs.lemmas.Grind.{flat_map-append}
use Rattle.std.proofs.lemmas.List.{append-nil, take_all}
use Rattle.dsv_base.specs.Seen.{SinkSeen}
use Rattle.dsv_base.specs.Taking.{Wrote, Writes}
use Rattle.dsv_base.specs.Text.{spaced_text, line_of}
use Rattle.dsv_certfile.specs.Keywords.{zero_text}
use Rattle.dsv_lines.specs.Texts.{Line, piece_text, line_text}
use Rattle.dsv_certfile.specs.Texts.{list_pieces, numbers_line, rows_lines}
use Rattle.dsv_certfile.specs.declared.keyword.Keyword.{Keyword}

abbrev pub spaced : Line → List ℕ
spaced = flat_map (spaced_text piece_text)

-- a text by another name
pub writes_as : {T E : Type 0} {a b : SinkSeen} {r : Result T E} {x y : List ℕ} → x ≡ y → Writes a b r x → Writes a b r y
writes_as e w = rw (← e) w

-- what was written is the text
pub writes_ok : {T E : Type 0} {a b : SinkSeen} {v : T} {x y : List ℕ} → x ≡ y → Wrote a b x → Writes {T = T} {E = E} a b (Ok v) y
writes_ok e w = record { whole = rw (← e) w; cut = tt }

-- pieces that are texts of things
pub spaced-map : {X : Type 0} (f : X → List ℕ) (xs : List X) → spaced (map f xs) ≡ flat_map (spaced_text f) xs
spaced-map f [] = refl
spaced-map f (x ∷ xs) = ap (λ t. (32 ∷ f x) ++ t) (spaced-map f xs)

pub line-map : {X : Type 0} (f : X → List ℕ) (w : List ℕ) (xs : List X) → line_of f w xs ≡ line_text (w ∷ map f xs)
line-map f w xs = ap (λ t. w ++ t ++ 10 ∷ []) (sym (spaced-map f xs))

pub lines-map : {X : Type 0} (f : X → Line) (xs : List X) → flat_map (λ x. line_text (f x)) xs ≡ flat_map line_text (map f xs)
lines-map f [] = refl
lines-map f (x ∷ xs) = ap (λ t. line_text (f x) ++ t) (lines-map f xs)

-- a list that 0 ends
pub list-text : {X : Type 0} (f : X → List ℕ) (xs : List X) → flat_map (spaced_text f) xs ++ codes " 0" ≡ spaced (list_pieces f xs)
list-text f xs = sym (flat_map-append (spaced_text piece_text) (map f xs) (zero_text ∷ []) ∙ ap (λ t. t ++ codes " 0") (spaced-map f xs))

-- ---- lines of parts
pub word-text : (w : List ℕ) → w ++ 10 ∷ [] ≡ line_text (w ∷ [])
word-text w = ap (λ t. t ++ 10 ∷ []) (sym (append-nil w))

-- two lists after a word
pub lists-text : (w : List ℕ) (xs ys : Line) → w ++ (spaced xs ++ (spaced ys ++ 10 ∷ [])) ≡ line_text (w ∷ (xs ++ ys))
lists-text w xs ys = rw (flat_map-append (spaced_text piece_text) xs ys) (simp append_assoc)

-- a piece and a list after a word
pub piece_list-text : (w p : List ℕ) (xs : Line) → w ++ ((32 ∷ p) ++ (spaced xs ++ 10 ∷ [])) ≡ line_text (w ∷ p ∷ xs)
piece_list-text w p xs = simp append_assoc

-- things and a last piece after a word
pub last-text : {X : Type 0} (f : X → List ℕ) (w : List ℕ) (xs : List X) (x : X)
    → w ++ (flat_map (spaced_text f) xs ++ ((32 ∷ f x) ++ 10 ∷ [])) ≡ line_text (w ∷ map f (xs ++ x ∷ []))
last-text f w xs x =
    rw (spaced-map f (xs ++ x ∷ []), flat_map-append (spaced_text f) xs (x ∷ [])) (simp (append_assoc, append-nil))

first-parts : (w p xs e : List ℕ) → w ++ (p ++ (xs ++ e)) ≡ (w ++ (p ++ xs)) ++ e
first-parts w p xs e = simp append_assoc

-- a piece and things after a word
pub first-text : {X : Type 0} (f : X → List ℕ) (w : List ℕ) (x : X) (xs : List X)
    → w ++ ((32 ∷ f x) ++ (flat_map (spaced_text f) xs ++ 10 ∷ [])) ≡ line_text (w ∷ map f (x ∷ xs))
first-text f w x xs =
    first-parts w (32 ∷ f x) (flat_map (spaced_text f) xs) (10 ∷ []) ∙ ap (λ t. (w ++ ((32 ∷ f x) ++ t)) ++ 10 ∷ []) (sym (spaced-map f xs))

two-parts : (w p q e : List ℕ) → w ++ (p ++ (q ++ e)) ≡ (w ++ (p ++ (q ++ []))) ++ e
two-parts w p q e = simp (append_assoc, append-nil)

-- two pieces after a word
pub two-text : (w p q : List ℕ) → w ++ ((32 ∷ p) ++ ((32 ∷ q) ++ 10 ∷ [])) ≡ line_text (w ∷ p ∷ q ∷ [])
two-text w p q = two-parts w (32 ∷ p) (32 ∷ q) (10 ∷ [])

four-parts : (w p q r s xs e : List ℕ) → w ++ ((p ++ q) ++ ((r ++ s) ++ (xs ++ e))) ≡ (w ++ (p ++ (q ++ (r ++ (s ++ xs))))) ++ e
four-parts w p q r s xs e = simp append_assoc

six-terms : (w p v q u r e : List ℕ) → w ++ (p ++ ((v ++ q) ++ ((u ++ r) ++ e))) ≡ (w ++ (p ++ (v ++ (q ++ (u ++ (r ++ [])))))) ++ e
six-terms w p v q u r e = simp (append_assoc, append-nil)

-- a piece after each of three words
pub words-text : (w p v q u r : List ℕ)
    → w ++ ((32 ∷ p) ++ (((32 ∷ v) ++ (32 ∷ q)) ++ (((32 ∷ u) ++ (32 ∷ r)) ++ 10 ∷ []))) ≡ line_text (w ∷ p ∷ v ∷ q ∷ u ∷ r ∷ [])
words-text w p v q u r = six-terms w (32 ∷ p) (32 ∷ v) (32 ∷ q) (32 ∷ u) (32 ∷ r) (10 ∷ [])

five-parts : (w p q r s t e : List ℕ) → w ++ ((p ++ (q ++ r)) ++ (s ++ (t ++ e))) ≡ (w ++ (p ++ (q ++ (r ++ (s ++ (t ++ [])))))) ++ e
five-parts w p q r s t e = simp (append_assoc, append-nil)

-- five pieces after a word
pub five-text : (w p q r s t : List ℕ)
    → w ++ (((32 ∷ p) ++ ((32 ∷ q) ++ (32 ∷ r))) ++ ((32 ∷ s) ++ ((32 ∷ t) ++ 10 ∷ []))) ≡ line_text (w ∷ p ∷ q ∷ r ∷ s ∷ t ∷ [])
five-text w p q r s t = five-parts w (32 ∷ p) (32 ∷ q) (32 ∷ r) (32 ∷ s) (32 ∷ t) (10 ∷ [])

-- four pieces and a list after a word
pub four-text : (w p q r s : List ℕ) (xs : Line)
    → w ++ (((32 ∷ p) ++ (32 ∷ q)) ++ (((32 ∷ r) ++ (32 ∷ s)) ++ (spaced xs ++ 10 ∷ []))) ≡ line_text (w ∷ p ∷ q ∷ r ∷ s ∷ xs)
four-text w p q r s xs = four-parts w (32 ∷ p) (32 ∷ q) (32 ∷ r) (32 ∷ s) (spaced xs) (10 ∷ [])

-- ---- lines one after another
-- two lists of lines
pub two_lists-text : (xs ys : List Line) → flat_map line_text xs ++ flat_map line_text ys ≡ flat_map line_text (xs ++ ys)
two_lists-text xs ys = sym (flat_map-append line_text xs ys)

-- three lists of lines
pub three_lists-text : (xs ys zs : List Line)
    → flat_map line_text xs ++ (flat_map line_text ys ++ flat_map line_text zs) ≡ flat_map line_text ((xs ++ ys) ++ zs)
three_lists-text xs ys zs =
    sym (append_assoc (flat_map line_text xs) (flat_map line_text ys) (flat_map line_text zs))
    ∙ ap (λ t. t ++ flat_map line_text zs) (sym (flat_map-append line_text xs ys))
    ∙ sym (flat_map-append line_text (xs ++ ys) zs)

six-parts : (a xs b ys c zs : List ℕ) → a ++ (xs ++ (b ++ (ys ++ (c ++ zs)))) ≡ (a ++ xs) ++ ((b ++ ys) ++ (c ++ zs))
six-parts a xs b ys c zs = simp append_assoc

-- three lists of lines, each after a line
pub sections-text : (a b c : Line) (xs ys zs : List Line)
    → line_text a ++ (flat_map line_text xs ++ (line_text b ++ (flat_map line_text ys ++ (line_text c ++ flat_map line_text zs))))
    ≡ flat_map line_text (((a ∷ xs) ++ (b ∷ ys)) ++ (c ∷ zs))
sections-text a b c xs ys zs =
    six-parts (line_text a) (flat_map line_text xs) (line_text b) (flat_map line_text ys) (line_text c) (flat_map line_text zs)
    ∙ three_lists-text (a ∷ xs) (b ∷ ys) (c ∷ zs)

-- a list of lines, a line, another list and a last line
pub framed-text : (hs : List Line) (c d : Line) (xs : List Line)
    → flat_map line_text hs ++ (line_text c ++ (flat_map line_text xs ++ line_text d)) ≡ flat_map line_text (hs ++ c ∷ (xs ++ d ∷ []))
framed-text hs c d xs =
    let e : flat_map line_text xs ++ line_text d ≡ flat_map line_text (xs ++ d ∷ []) =
    ap (λ t. flat_map line_text xs ++ t) (sym (append-nil (line_text d))) ∙ sym (flat_map-append line_text xs (d ∷ [])) in
    ap (λ t. flat_map line_text hs ++ (line_text c ++ t)) e ∙ sym (flat_map-append line_text hs (c ∷ (xs ++ d ∷ [])))

-- a list of lines, a line, another list, and a third one
pub parted-text : (xs : List Line) (c : Line) (ys zs : List Line)
    → flat_map line_text xs ++ (line_text c ++ (flat_map line_text ys ++ flat_map line_text zs)) ≡ flat_map line_text (xs ++ c ∷ (ys ++ zs))
parted-text xs c ys zs =
    ap (λ t. flat_map line_text xs ++ (line_text c ++ t)) (two_lists-text ys zs) ∙ two_lists-text xs (c ∷ (ys ++ zs))

-- ---- the first rows
-- at most so many of a list of so many
pub take_least : {A : Type 0} (n d : ℕ) (xs : List A) → length xs ≡ n → take (min n d) xs ≡ take d xs
take_least n d xs e = elim (cases_lt d n) [
  | inl l ↦ (let m : min n d ≡ d = omega (arith, l) in ap (λ k. take k xs) m)
  | inr g ↦
      let m : min n d ≡ length xs = omega (arith, g, e) in
      ap (λ k. take k xs) m ∙ take-length xs ∙ sym (take_all d xs (omega (arith, g, e)))
]

-- a line for each of the first rows
pub rows-text : (w : Keyword) (n d : ℕ) (rows : List (List ℤ)) → length rows ≡ n
    → flat_map (λ row. line_text (numbers_line w (take d row))) (take (min n d) rows) ≡ flat_map line_text (rows_lines w d rows)
rows-text w n d rows e =
    ap (flat_map (λ row. line_text (numbers_line w (take d row)))) (take_least n d rows e)
    ∙ lines-map (λ row. numbers_line w (take d row)) (take d rows)
