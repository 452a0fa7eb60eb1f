-- The lines of a list, one after another, each by its number.
use Rattle.std.proofs.Common.{◌≡◌, ◌∙◌, sym, ap, refl, ℕ, zero, suc, ◌+◌, ◌<◌, List, [], ◌∷◌, ◌++◌, length, take, drop, map, get_or, subst, add-one, arith}
use Rattle.std.proofs.lemmas.List.{append_assoc, append-nil}
use Rattle.std.specs.List.{flat_map}
use Rattle.dsv_base.specs.Seen.{SinkSeen}
use Rattle.dsv_base.specs.Taking.{Wrote, CutShort}
use Rattle.dsv_base.proofs.TakingLemmas.{wrote_more, cut_later, cut_more}
use Rattle.dsv_report.specs.Lines.{numbered_lines}

-- what is written of a list's elements is written of the list that is made of them
pub lines_of_map : {A B : Type 0} (text : ℕ → B → List ℕ) (f : A → B) (k : ℕ) (xs : List A) → numbered_lines (λ n x. text n (f x)) k xs ≡ numbered_lines text k (map f xs)
lines_of_map text f k [] = refl
lines_of_map text f k (x ∷ xs) = ap (λ t. text k (f x) ++ t) (lines_of_map text f (k + 1) xs)

-- and with no numbers
pub flat_map_of_map : {A B : Type 0} (text : B → List ℕ) (f : A → B) (xs : List A) → flat_map (λ x. text (f x)) xs ≡ flat_map text (map f xs)
flat_map_of_map text f [] = refl
flat_map_of_map text f (x ∷ xs) = ap (λ t. text (f x) ++ t) (flat_map_of_map text f xs)

-- one element more
lines_more : {A : Type 0} (text : ℕ → A → List ℕ) (k i : ℕ) (xs : List A) (d : A) → i < length xs → numbered_lines text k (take (suc i) xs) ≡ numbered_lines text k (take i xs) ++ text (k + i) (get_or xs i d)
lines_more text k i [] d h = absurd (omega arith)
lines_more text k zero (x ∷ xs) d h =
    let n : k ≡ k + 0 = omega arith in
    append-nil (text k x) ∙ ap (λ m. text m x) n
lines_more text k (suc i) (x ∷ xs) d h =
    let n : k + 1 + i ≡ k + suc i = omega arith in
    ap (λ t. text k x ++ t) (lines_more text (k + 1) i xs d (omega arith) ∙ ap (λ m. numbered_lines text (k + 1) (take i xs) ++ text m (get_or xs i d)) n)
    ∙ sym (append_assoc (text k x) (numbered_lines text (k + 1) (take i xs)) (text (k + suc i) (get_or xs i d)))

-- the first elements, and the others
lines_split : {A : Type 0} (text : ℕ → A → List ℕ) (k i : ℕ) (xs : List A) → numbered_lines text k xs ≡ numbered_lines text k (take i xs) ++ numbered_lines text (k + i) (drop i xs)
lines_split text k zero xs = let n : k ≡ k + 0 = omega arith in ap (λ m. numbered_lines text m xs) n
lines_split text k (suc i) [] = refl
lines_split text k (suc i) (x ∷ xs) =
    let n : k + 1 + i ≡ k + suc i = omega arith in
    ap (λ t. text k x ++ t) (lines_split text (k + 1) i xs ∙ ap (λ m. numbered_lines text (k + 1) (take i xs) ++ numbered_lines text m (drop i xs)) n)
    ∙ sym (append_assoc (text k x) (numbered_lines text (k + 1) (take i xs)) (numbered_lines text (k + suc i) (drop i xs)))

-- ---- with what was written
line_more : {A : Type 0} (text : ℕ → A → List ℕ) (xs : List A) (k : ℕ) (x : A) → k < length xs → x ≡ get_or xs k x → numbered_lines text 0 (take (suc k) xs) ≡ numbered_lines text 0 (take k xs) ++ text k x
line_more {A} text xs k x h e =
    let n : 0 + k ≡ k = omega arith in
    lines_more text 0 k xs x h
    ∙ ap (λ m. numbered_lines text 0 (take k xs) ++ text m (get_or xs k x)) n
    ∙ ap (λ (y : A). numbered_lines text 0 (take k xs) ++ text k y) (sym e)

pub wrote_line : {A : Type 0} {a b c : SinkSeen} (text : ℕ → A → List ℕ) (xs : List A) (k : ℕ) (x : A)
    → k < length xs → x ≡ get_or xs k x → Wrote a b (numbered_lines text 0 (take k xs)) → Wrote b c (text k x)
    → Wrote a c (numbered_lines text 0 (take (k + 1) xs))
wrote_line {A} {a} {b} {c} text xs k x h e f g =
    subst (λ t. Wrote a c t) (sym (line_more text xs k x h e) ∙ ap (λ n. numbered_lines text 0 (take n xs)) (sym (add-one k))) (wrote_more f g)

pub cut_line : {A : Type 0} {a b c : SinkSeen} (text : ℕ → A → List ℕ) (xs : List A) (k : ℕ) (x : A)
    → k < length xs → x ≡ get_or xs k x → Wrote a b (numbered_lines text 0 (take k xs)) → CutShort b c (text k x)
    → CutShort a c (numbered_lines text 0 xs)
cut_line {A} {a} {b} {c} text xs k x h e f g =
    let rest = numbered_lines text (0 + suc k) (drop (suc k) xs) in
    subst (λ t. CutShort a c t)
    (ap (λ t. t ++ rest) (sym (line_more text xs k x h e)) ∙ sym (lines_split text 0 (suc k) xs))
    (cut_more rest (cut_later f g))
