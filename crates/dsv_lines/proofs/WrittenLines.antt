-- Written lines are cut into the same lines again, and a line into the same pieces.
use Rattle.std.proofs.Common.{◌≡◌, ◌∙◌, ap, ℕ, Bool, true, false, List, [], ◌∷◌, ◌++◌, refl, append_assoc}
use Rattle.std.specs.Prelude.{◌==◌, ◌&&◌, not}
use Rattle.std.specs.List.{All, flat_map}
use Rattle.std.proofs.lemmas.List.{append-nil}
use Rattle.std.proofs.lemmas.List.Elements.{All-head, All-tail}
use Rattle.dsv_base.specs.Text.{spaced_text}
use Rattle.dsv_lines.specs.Pieces.{space, line_feed, onto_first, pieces_of, TextLines, unended, line, onto_text, lines_of}
use Rattle.dsv_lines.specs.Texts.{Line, is_plain, IsPlain, ArePlain, piece_text, line_text}

-- ---- pieces
plain_step : (a b c : Bool) → not a && (not b && c) ≡ true → (a ≡ false) × (b ≡ false) × (c ≡ true)
plain_step true b c e = absurd (cc)
plain_step false true c e = absurd (cc)
plain_step false false c e = (refl, refl, e)

plain_parts : (b : ℕ) (bs : List ℕ) → IsPlain (b ∷ bs) → ((b == space) ≡ false) × ((b == line_feed) ≡ false) × IsPlain bs
plain_parts b bs h = plain_step (b == space) (b == line_feed) (is_plain bs) h

pub plain_from : (a b c : Bool) → a ≡ false → b ≡ false → c ≡ true → not a && (not b && c) ≡ true
plain_from a b c e f g = rw (e, f, g) refl

pub plain-append : (p q : List ℕ) → IsPlain p → IsPlain q → IsPlain (p ++ q)
plain-append [] q h k = k
plain-append (b ∷ bs) q h k =
    let l = plain_parts b bs h in plain_from (b == space) (b == line_feed) (is_plain (bs ++ q)) l.0 l.1 (plain-append bs q l.2 k)

one_piece : (p : List ℕ) → IsPlain p → pieces_of p ≡ p ∷ []
one_piece [] h = refl
one_piece (b ∷ bs) h = let k = plain_parts b bs h in rw (k.0) (ap (onto_first b) (one_piece bs k.2))

piece_before : (p rest : List ℕ) → IsPlain p → pieces_of (p ++ space ∷ rest) ≡ p ∷ pieces_of rest
piece_before [] rest h = refl
piece_before (b ∷ bs) rest h = let k = plain_parts b bs h in rw (k.0) (ap (onto_first b) (piece_before bs rest k.2))

-- a line without its line feed
abbrev pub line_bytes : Line → List ℕ
line_bytes [] = []
line_bytes (p ∷ []) = p
line_bytes (p ∷ q ∷ ps) = p ++ space ∷ line_bytes (q ∷ ps)

pieces_by : (p : List ℕ) (ps : Line) → ArePlain (p ∷ ps) → pieces_of (line_bytes (p ∷ ps)) ≡ p ∷ ps
pieces_by p [] h = one_piece p (All-head IsPlain p [] h)
pieces_by p (q ∷ qs) h =
    piece_before p (line_bytes (q ∷ qs)) (All-head IsPlain p (q ∷ qs) h) ∙ ap (λ ps. p ∷ ps) (pieces_by q qs (All-tail IsPlain p (q ∷ qs) h))

-- one piece at least, and each is plain
abbrev pub IsLine : Line → Type 0
IsLine [] = ⊥
IsLine (p ∷ ps) = ArePlain (p ∷ ps)

pub pieces_of-line_bytes : (l : Line) → IsLine l → pieces_of (line_bytes l) ≡ l
pieces_of-line_bytes [] h = absurd h
pieces_of-line_bytes (p ∷ ps) h = pieces_by p ps h

-- ---- lines
-- a plain piece before a text that has a line
piece_onto : (p t x : List ℕ) (more : TextLines) → IsPlain p → lines_of t ≡ line x more → lines_of (p ++ t) ≡ line (p ++ x) more
piece_onto [] t x more h e = e
piece_onto (b ∷ bs) t x more h e = let k = plain_parts b bs h in rw (k.1) (ap (onto_text b) (piece_onto bs t x more k.2 e))

line_bytes_before : (p : List ℕ) (ps : Line) (rest : List ℕ) → ArePlain (p ∷ ps)
    → lines_of (line_bytes (p ∷ ps) ++ line_feed ∷ rest) ≡ line (line_bytes (p ∷ ps)) (lines_of rest)
line_bytes_before p [] rest h =
    piece_onto p (line_feed ∷ rest) [] (lines_of rest) (All-head IsPlain p [] h) refl ∙ ap (λ x. line x (lines_of rest)) (append-nil p)
line_bytes_before p (q ∷ qs) rest h =
    let next = line_bytes (q ∷ qs) in
    ap lines_of (append_assoc p (space ∷ next) (line_feed ∷ rest))
    ∙ piece_onto p (space ∷ (next ++ line_feed ∷ rest)) (space ∷ next) (lines_of rest) (All-head IsPlain p (q ∷ qs) h)
    (ap (onto_text space) (line_bytes_before q qs rest (All-tail IsPlain p (q ∷ qs) h)))

pub line_bytes-spaced : (p : List ℕ) (ps : Line) → p ++ flat_map (spaced_text piece_text) ps ≡ line_bytes (p ∷ ps)
line_bytes-spaced p [] = append-nil p
line_bytes-spaced p (q ∷ qs) = ap (λ t. p ++ space ∷ t) (line_bytes-spaced q qs)

pub line_before : (l : Line) (rest : List ℕ) → IsLine l → lines_of (line_text l ++ rest) ≡ line (line_bytes l) (lines_of rest)
line_before [] rest h = absurd h
line_before (p ∷ ps) rest h =
    ap (λ t. lines_of ((t ++ line_feed ∷ []) ++ rest)) (line_bytes-spaced p ps)
    ∙ ap lines_of (append_assoc (line_bytes (p ∷ ps)) (line_feed ∷ []) rest)
    ∙ line_bytes_before p ps rest h

-- lines in front of others
abbrev pub onto_lines : List Line → TextLines → TextLines
onto_lines [] t = t
onto_lines (l ∷ ls) t = line (line_bytes l) (onto_lines ls t)

pub lines-written : (ls : List Line) → All IsLine ls → lines_of (flat_map line_text ls) ≡ onto_lines ls (unended [])
lines-written [] h = refl
lines-written (l ∷ ls) h = line_before l (flat_map line_text ls) (All-head IsLine l ls h) ∙ ap (line (line_bytes l)) (lines-written ls (All-tail IsLine l ls h))

pub onto_lines-append : (ls ms : List Line) (t : TextLines) → onto_lines (ls ++ ms) t ≡ onto_lines ls (onto_lines ms t)
onto_lines-append [] ms t = refl
onto_lines-append (l ∷ ls) ms t = ap (line (line_bytes l)) (onto_lines-append ls ms t)
