-- What readers give, one after another, has a property with the lines that they took, whatever the text is.
use Rattle.std.proofs.Common.{◌≡◌, ◌∙◌, sym, ap, ℕ, zero, suc, ◌+◌, List, [], ◌∷◌, ◌++◌, length, map, Result, Ok, Err, IfOk, refl, arith, append_assoc, length-append}
use Rattle.std.specs.List.{All, flat_map}
use Rattle.std.proofs.lemmas.List.{append-nil, map-append}
use Rattle.std.proofs.lemmas.List.Elements.{All-push}
use Rattle.std.proofs.lemmas.Result.{IfOk-weaker}
use Rattle.dsv_text.specs.Stages.{◌>>=◌}
use Rattle.dsv_lines.specs.Readings.{Reading, reading_of}
use Rattle.dsv_lines.specs.Texts.{Line, line_text}
use Rattle.dsv_lines.proofs.ReadLines.{line_bytes-pieces_of, lines-read}
use Rattle.dsv_lines.proofs.WrittenLines.{onto_lines, onto_lines-append}
use Rattle.dsv_certfile.specs.Answers.{at_line}
use Rattle.dsv_certfile.specs.Bodies.{line_from, line_in, lines_from, whole_text}
use Rattle.dsv_certfile.specs.Headings.{whole_line}
use Rattle.dsv_lines.specs.Pieces.{TextLines, unended, line, LinesLeft, pieces_of, lines_of}
use Rattle.dsv_certfile.specs.declared.fault.TextFault.{TextFault}
use Rattle.dsv_certfile.proofs.WrittenParts.{Reader, and_read}

-- two stages
pub then_has : {X Y E : Type 0} (r : Result X E) (g : X → Result Y E) (P : X → Type 0) (Q : Y → Type 0)
    → IfOk r P → ((x : X) → P x → IfOk (g x) Q) → IfOk (r >>= g) Q
then_has (Ok x) g P Q h k = k x h
then_has (Err e) g P Q h k = tt

pub whole_line_has : {X : Type 0} (x : X) (pieces : List (List ℕ)) (P : X → Type 0) → (pieces ≡ [] → P x) → IfOk (whole_line x pieces) P
whole_line_has x [] P h = h refl
whole_line_has x (piece ∷ pieces) P h = tt

pub whole_text_has : {X : Type 0} (x : X) (n : ℕ) (ls : TextLines) (P : X → Type 0) → (ls ≡ unended [] → P x) → IfOk (whole_text x n ls) P
whole_text_has x n (unended []) P h = h refl
whole_text_has x n (unended (b ∷ bs)) P h = tt
whole_text_has x n (line bytes more) P h = tt

pub at_line_has : {X : Type 0} (n : ℕ) (r : Result X TextFault) (P : X → Type 0) → IfOk r P → IfOk (at_line n r) P
at_line_has n (Ok x) P h = h
at_line_has n (Err why) P h = tt

-- ---- readers
-- the lines that a reader took of a text, which have the property with the value that it gave
pub record Taken {X : Type 0} (P : X → List Line → Type 0) (old : TextLines) (r : Reading X) : Type 0 where
  pub lines : List Line
  pub cut : old ≡ onto_lines lines r.left.lines
  pub has : P r.value lines

-- the value that is read and the lines that it is read of have the property
abbrev pub Yields : {X : Type 0} → Reader X → (X → List Line → Type 0) → Type 0
Yields read P = (ls : LinesLeft) → IfOk (read ls) (Taken P ls.lines)

pub yields_both : {X Y : Type 0} (f : Reader X) (g : X → Reader Y) (P : X → List Line → Type 0) (Q : Y → List Line → Type 0)
    → Yields f P → ((x : X) (xs : List Line) → P x xs → Yields (g x) (λ y ys. Q y (xs ++ ys))) → Yields (and_read f g) Q
yields_both {X = X} {Y = Y} f g P Q hf hg = λ ls.
    then_has (f ls) (λ (r : Reading X). g r.value r.left) (Taken P ls.lines) (Taken Q ls.lines) (hf ls)
    (λ r h. IfOk-weaker (g r.value r.left) (Taken (λ y ys. Q y (h.lines ++ ys)) r.left.lines) (Taken Q ls.lines)
    (λ (s : Reading Y) k. record {
      lines = h.lines ++ k.lines;
      cut = h.cut ∙ ap (onto_lines h.lines) k.cut ∙ sym (onto_lines-append h.lines k.lines s.left.lines);
      has = k.has;
    }) (hg r.value h.lines h.has r.left))

pub yields_made : {X Y : Type 0} (f : Reader X) (h : X → Y) (P : X → List Line → Type 0) (Q : Y → List Line → Type 0) → Yields f P
    → ((x : X) (xs : List Line) → P x xs → Q (h x) xs) → Yields (λ u. f u >>= λ r. Ok (reading_of (h r.value) r.left)) Q
yields_made {X = X} {Y = Y} f h P Q hf hh = λ ls.
    then_has (f ls) (λ (r : Reading X). Ok (reading_of (h r.value) r.left)) (Taken P ls.lines) (Taken Q ls.lines) (hf ls)
    (λ r k. record { lines = k.lines; cut = k.cut; has = hh r.value k.lines k.has })

-- the same property in other words
pub yields_weaker : {X : Type 0} (f : Reader X) (P Q : X → List Line → Type 0) → Yields f P → ((x : X) (xs : List Line) → P x xs → Q x xs) → Yields f Q
yields_weaker f P Q hf h = λ ls.
    IfOk-weaker (f ls) (Taken P ls.lines) (Taken Q ls.lines) (λ r k. record { lines = k.lines; cut = k.cut; has = h r.value k.lines k.has }) (hf ls)

line_has : {X : Type 0} (read : List ℕ → Result X TextFault) (P : X → List Line → Type 0) → ((bytes : List ℕ) → IfOk (read bytes) (λ x. P x (pieces_of bytes ∷ [])))
    → (n : ℕ) (ls : TextLines) → IfOk (line_from read n ls) (Taken P ls)
line_has read P h n (unended bytes) = tt
line_has {X = X} read P h n (line bytes more) =
    then_has (at_line n (read bytes)) (λ (x : X). Ok (reading_of x (record { lines = more; number = n + 1 }))) (λ x. P x (pieces_of bytes ∷ [])) (Taken P (line bytes more))
    (at_line_has n (read bytes) (λ x. P x (pieces_of bytes ∷ [])) (h bytes))
    (λ x k. record { lines = pieces_of bytes ∷ []; cut = ap (λ bs. line bs more) (sym (line_bytes-pieces_of bytes)); has = k })

pub yields_line : {X : Type 0} (read : List ℕ → Result X TextFault) (P : X → List Line → Type 0) → ((bytes : List ℕ) → IfOk (read bytes) (λ x. P x (pieces_of bytes ∷ [])))
    → Yields (line_in read) P
yields_line read P h = λ ls. line_has read P h ls.number ls.lines

-- So many values more, each with the property, and the lines are their texts.
pub record AreRead {X : Type 0} (text : X → Line) (P : X → Type 0) (n : ℕ) (old new : List X) (lines : List Line) : Type 0 where
  pub many : length new ≡ length old + n
  pub have : All P new
  pub texts : map text old ++ lines ≡ map text new

-- a value whose line is its text
abbrev pub IsTextOf : {X : Type 0} → (X → Line) → (X → Type 0) → Line → X → Type 0
IsTextOf text P l x = P x × (l ≡ text x)

-- the text of one thing more
pub more_texts : {X Y : Type 0} (text : X → Y) (xs : List X) (x : X) (ls ms : List Y) → map text (xs ++ x ∷ []) ++ ls ≡ ms → map text xs ++ (text x ∷ ls) ≡ ms
more_texts text xs x ls ms h = sym (append_assoc (map text xs) (text x ∷ []) ls) ∙ ap (λ t. t ++ ls) (sym (map-append text xs (x ∷ []))) ∙ h

pub yields_lines : {X : Type 0} (read : List ℕ → Result X TextFault) (text : X → Line) (P : X → Type 0) → ((bytes : List ℕ) → IfOk (read bytes) (IsTextOf text P (pieces_of bytes)))
    → (n : ℕ) (xs : List X) → All P xs → Yields (lines_from read n xs) (AreRead text P n xs)
yields_lines read text P h zero xs k = λ ls. record { lines = []; cut = refl; has = record { many = omega arith; have = k; texts = append-nil (map text xs) } }
yields_lines {X = X} read text P h (suc n) xs k =
    yields_both (line_in read) (λ x. lines_from read n (xs ++ x ∷ [])) (λ x ls. P x × (ls ≡ text x ∷ [])) (AreRead text P (suc n) xs)
    (yields_line read (λ x ls. P x × (ls ≡ text x ∷ []))
    (λ bytes. IfOk-weaker (read bytes) (IsTextOf text P (pieces_of bytes)) (λ x. P x × (pieces_of bytes ∷ [] ≡ text x ∷ [])) (λ x q. (q.0, ap (λ l. l ∷ []) q.1)) (h bytes)))
    (λ x first p. yields_weaker (lines_from read n (xs ++ x ∷ [])) (AreRead text P n (xs ++ x ∷ [])) (λ ys ls. AreRead text P (suc n) xs ys (first ++ ls))
    (yields_lines read text P h n (xs ++ x ∷ []) (All-push P xs x k p.0))
    (λ ys ls q. record {
      many = q.many ∙ omega (arith, length-append xs (x ∷ []));
      have = q.have;
      texts = ap (λ us. map text xs ++ (us ++ ls)) p.1 ∙ more_texts text xs x ls (map text ys) q.texts;
    }))

-- ---- lines
pub joined : {A : Type 0} {a b c d : List A} → a ≡ c → b ≡ d → a ++ b ≡ c ++ d
joined {a = a} {d = d} e f = ap (λ xs. a ++ xs) f ∙ ap (λ xs. xs ++ d) e

-- lines that were taken of a text in two parts, with nothing after them, are the lines of the text
pub read_lines : (bytes : List ℕ) (ls ms : List Line) (t u : TextLines) (all : List Line) → lines_of bytes ≡ onto_lines ls t → t ≡ onto_lines ms u → u ≡ unended [] → ls ++ ms ≡ all
    → bytes ≡ flat_map line_text all
read_lines bytes ls ms t u all e f g h =
    lines-read bytes all (e ∙ ap (onto_lines ls) (f ∙ ap (onto_lines ms) g) ∙ sym (onto_lines-append ls ms (unended [])) ∙ ap (λ ks. onto_lines ks (unended [])) h)
