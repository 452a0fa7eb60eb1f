-- A text is read byte by byte.
use Rattle.std.proofs.Common.{◌≡◌, ℕ, ◌+◌, ◌-◌, ◌<◌, ◌≤◌, true, false, List, [], ◌∷◌, ◌++◌, Ok, Err, length, get_or, take, drop, refl, arith, ap, ◌∙◌, add-one, length-drop}
use Rattle.std.specs.Prelude.{slice_range}
use Rattle.std.proofs.Math.Seq.{drop-cons}
use Rattle.std.proofs.lemmas.Grind.{common_steps}
use Rattle.std.proofs.lemmas.List.{take_more, length-take-le}
use Rattle.dsv_text.specs.Bytes.{is_blank}
use Rattle.dsv_cnf.specs.Reading.{clauses_from, take_part, word_end}
use Rattle.dsv_cnf.specs.declared.reader.CnfRefusal.TheVariants as refusal
use Rattle.dsv_cnf.specs.ReadingView.{ReadingView}

from-at : (bytes : List ℕ) (i d : ℕ) → i < length bytes → drop i bytes ≡ get_or bytes i d ∷ drop (i + 1) bytes
from-at bytes i d lt = rw add-one (drop-cons bytes i d lt)

-- a word has to go on, but the text ends
pub word-short : (word bytes : List ℕ) (i end : ℕ) → i < length word → length bytes ≤ end → word_end (drop i word) (drop end bytes) end ≡ Err (refusal.Header end)
word-short word bytes i end lt past = let none : drop end bytes ≡ [] = grind (arith, common_steps) in rw (from-at word i 0 lt, none) refl

range-more : (bytes : List ℕ) (start i d : ℕ) → start ≤ i → i < length bytes → slice_range bytes start (i + 1) ≡ slice_range bytes start i ++ get_or bytes i d ∷ []
range-more bytes start i d le lt =
    let e : i + 1 - start ≡ (i - start) + 1 = omega arith in
    let h : i - start < length (drop start bytes) = omega (arith, length-drop start bytes) in
    let at : get_or (drop start bytes) (i - start) d ≡ get_or bytes i d = grind (arith, common_steps) in
    rw e (take_more (drop start bytes) (i - start) d h ∙ ap (λ b. take (i - start) (drop start bytes) ++ b ∷ []) at)

-- a byte more of what stands between two blanks
pub more-text : (bytes : List ℕ) (start i d : ℕ) (r : ReadingView) → start ≤ i → i < length bytes → is_blank (get_or bytes i d) ≡ false
    → clauses_from (drop (i + 1) bytes) (slice_range bytes start (i + 1)) start r ≡ clauses_from (drop i bytes) (slice_range bytes start i) start r
more-text bytes start i d r le lt blank = rw (from-at bytes i d lt, range-more bytes start i d le lt, blank) refl

-- a blank ends what stands before it
pub more-blank : (bytes : List ℕ) (start i d : ℕ) (r next : ReadingView) → start ≤ i → i < length bytes → is_blank (get_or bytes i d) ≡ true → take_part r (slice_range bytes start i) start ≡ Ok next
    → clauses_from (drop (i + 1) bytes) (slice_range bytes (i + 1) (i + 1)) (i + 1) next ≡ clauses_from (drop i bytes) (slice_range bytes start i) start r
more-blank bytes start i d r next le lt blank e =
    let n : length (slice_range bytes start i) ≡ i - start = length-take-le (i - start) (drop start bytes) (omega (arith, length-drop start bytes)) in
    let at : start + length (slice_range bytes start i) + 1 ≡ i + 1 = omega arith in
    let none : slice_range bytes (i + 1) (i + 1) ≡ [] = grind (arith, common_steps) in
    rw (from-at bytes i d lt, blank, e, at, none) refl
