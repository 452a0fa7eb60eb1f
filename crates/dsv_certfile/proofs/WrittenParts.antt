-- Readers of written lines, one after another.
use Rattle.std.proofs.Common.{◌≡◌, ◌∙◌, sym, ap, ℕ, ◌+◌, List, [], ◌∷◌, ◌++◌, length, map, Result, Ok, append_assoc}
use Rattle.std.specs.List.{All}
use Rattle.std.proofs.lemmas.List.Elements.{All-head, All-tail}
use Rattle.dsv_base.proofs.TextLemmas.{end_nil}
use Rattle.dsv_text.specs.Stages.{◌>>=◌}
use Rattle.dsv_lines.specs.Readings.{Reading, reading_of}
use Rattle.dsv_certfile.specs.Answers.{at_line}
use Rattle.dsv_certfile.specs.Bodies.{line_in, lines_from}
use Rattle.dsv_lines.specs.Pieces.{TextLines, LinesLeft}
use Rattle.dsv_lines.specs.Texts.{Line}
use Rattle.dsv_certfile.specs.declared.fault.TextFault.{TextFault}
use Rattle.dsv_certfile.specs.declared.fault.TextRefusal.{TextRefusal}
use Rattle.dsv_lines.proofs.WrittenLines.{line_bytes, onto_lines, onto_lines-append}

abbrev pub left_at : TextLines → ℕ → LinesLeft
left_at ls n = record { lines = ls; number = n }

abbrev pub Reader : Type 0 → Type 0
Reader X = LinesLeft → Result (Reading X) TextRefusal

-- the reader takes these lines and gives the value, whatever follows them
abbrev pub Takes : {X : Type 0} → Reader X → X → List Line → Type 0
Takes read x ls = (t : TextLines) (n : ℕ) → (m : ℕ) × (read (left_at (onto_lines ls t) n) ≡ Ok (reading_of x (left_at t m)))

pub takes_as : {X : Type 0} (read : Reader X) (x : X) (ls ms : List Line) → ls ≡ ms → Takes read x ls → Takes read x ms
takes_as read x ls ms e h = λ t n. let a = h t n in (a.0, ap (λ us. read (left_at (onto_lines us t) n)) (sym e) ∙ a.1)

pub takes_value : {X : Type 0} (read : Reader X) (x y : X) (ls : List Line) → x ≡ y → Takes read x ls → Takes read y ls
takes_value read x y ls e h = λ t n. let a = h t n in (a.0, a.1 ∙ ap (λ z. Ok (reading_of z (left_at t a.0))) e)

-- one reader, and then another that knows what the first gave
abbrev pub and_read : {X Y : Type 0} → Reader X → (X → Reader Y) → Reader Y
and_read f g ls = f ls >>= λ r. g r.value r.left

pub takes_both : {X Y : Type 0} (f : Reader X) (g : X → Reader Y) (x : X) (y : Y) (ls ms : List Line)
    → Takes f x ls → Takes (g x) y ms → Takes (and_read f g) y (ls ++ ms)
takes_both {X = X} f g x y ls ms hf hg = λ t n.
    let a = hf (onto_lines ms t) n in
    let b = hg t a.0 in
    (b.0, ap (λ u. and_read f g (left_at u n)) (onto_lines-append ls ms t) ∙ ap (λ (o : Result (Reading X) TextRefusal). o >>= λ r. g r.value r.left) a.1 ∙ b.1)

-- a reader, and what is made of what it gave
pub takes_made : {X Y : Type 0} (f : Reader X) (h : X → Y) (x : X) (ls : List Line)
    → Takes f x ls → Takes (λ u. f u >>= λ r. Ok (reading_of (h r.value) r.left)) (h x) ls
takes_made {X = X} f h x ls hf = λ t n.
    let a = hf t n in
    (a.0, ap (λ (o : Result (Reading X) TextRefusal). o >>= λ r. Ok (reading_of (h r.value) r.left)) a.1)

pub takes_line : {X : Type 0} (read : List ℕ → Result X TextFault) (l : Line) (x : X) → read (line_bytes l) ≡ Ok x → Takes (line_in read) x (l ∷ [])
takes_line {X = X} read l x e = λ t n.
    (n + 1, ap (λ (o : Result X TextFault). at_line n o >>= λ y. Ok (reading_of y (left_at t (n + 1)))) e)

pub takes_lines : {X : Type 0} (read : List ℕ → Result X TextFault) (text : X → Line) (xs ys : List X)
    → All (λ x. read (line_bytes (text x)) ≡ Ok x) xs → Takes (lines_from read (length xs) ys) (ys ++ xs) (map text xs)
takes_lines read text [] ys h = λ t n. (n, ap (λ zs. Ok (reading_of zs (left_at t n))) (end_nil ys))
takes_lines {X = X} read text (x ∷ xs) ys h = λ t n.
    let first = takes_line read (text x) x (All-head (λ x. read (line_bytes (text x)) ≡ Ok x) x xs h) (onto_lines (map text xs) t) n in
    let more = takes_lines read text xs (ys ++ x ∷ []) (All-tail (λ x. read (line_bytes (text x)) ≡ Ok x) x xs h) t first.0 in (
      more.0,
      ap (λ (o : Result (Reading X) TextRefusal). o >>= λ r. lines_from read (length xs) (ys ++ r.value ∷ []) r.left) first.1
          ∙ more.1 ∙ ap (λ zs. Ok (reading_of zs (left_at t more.0))) (append_assoc ys (x ∷ []) xs),
    )
