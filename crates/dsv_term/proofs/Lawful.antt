-- Lists of lawful nodes, their widths and their words.
use Rattle.std.proofs.Common.{◌≡◌, ℕ, ◌<◌, List, [], ◌∷◌, ◌++◌, refl, arith, ap, sym, ◌∙◌, length, length-append, take, drop, length-take, slice_index, get_or}
use Rattle.std.proofs.lemmas.List.{get_or_append_left, get_or_push, take-append-drop}
use Rattle.dsv_term.specs.declared.node.TermId.{TermId}
use Rattle.dsv_term.specs.declared.node.TermNode.{TermNode}
use Rattle.dsv_term.specs.declared.word.Word.{Word}
use Rattle.dsv_term.specs.TermNode.{word_at, node_word, words_from, node_width, widths_from, IsLawful, AreLawful, entries_from}
use Rattle.dsv_term.proofs.Entries.{length-entries, entries-keep, entries-append}
use Rattle.dsv_term.proofs.Nodes.{node_word-same, node_width-same, IsLawful-more}

pub AreLawful-push : (inputs : List ℕ) (ns : List TermNode) (n : TermNode) (ws : List ℕ) → AreLawful inputs ns ws → IsLawful inputs (widths_from inputs ns ws) n → AreLawful inputs (ns ++ n ∷ []) ws
AreLawful-push inputs [] n ws h k = (k, tt)
AreLawful-push inputs (m ∷ ms) n ws h k = (h.0, AreLawful-push inputs ms n (ws ++ node_width inputs ws m ∷ []) h.1 k)

pub AreLawful-prefix : (inputs : List ℕ) (before after : List TermNode) (ws : List ℕ) → AreLawful inputs (before ++ after) ws → AreLawful inputs before ws
AreLawful-prefix inputs [] after ws h = tt
AreLawful-prefix inputs (m ∷ ms) after ws h = (h.0, AreLawful-prefix inputs ms after (ws ++ node_width inputs ws m ∷ []) h.1)

-- a node is lawful after those before it
pub AreLawful-at : (inputs : List ℕ) (before after : List TermNode) (n : TermNode) (ws : List ℕ) → AreLawful inputs (before ++ n ∷ after) ws → IsLawful inputs (widths_from inputs before ws) n
AreLawful-at inputs [] after n ws h = h.0
AreLawful-at inputs (m ∷ ms) after n ws h = AreLawful-at inputs ms after n (ws ++ node_width inputs ws m ∷ []) h.1

pub AreLawful-take : (inputs : List ℕ) (k : ℕ) (ns : List TermNode) → AreLawful inputs ns [] → AreLawful inputs (take k ns) []
AreLawful-take inputs k ns h = AreLawful-prefix inputs (take k ns) (drop k ns) [] (rw (take-append-drop k ns) h)

-- ---- the entry of a node stands at its place
entry-at : {X : Type 0} (entry : List X → TermNode → X) (before after : List TermNode) (n : TermNode) (d : X) → get_or (entries_from entry (before ++ n ∷ after) []) (length before) d ≡ entry (entries_from entry before []) n
entry-at entry before after n d =
    let es = entries_from entry before [] in
    let l = length-entries entry before [] in
    rw (entries-append entry before (n ∷ after) [])
    (entries-keep entry after (es ++ entry es n ∷ []) (length before) d (omega (arith, length-append es (entry es n ∷ [])))
    ∙ get_or_push es (entry es n) d (length before) (omega arith))

-- entries of a front stay
pub prefix-keeps : {X : Type 0} (entry : List X → TermNode → X) (before after : List TermNode) (k : ℕ) (d : X) → k < length before → get_or (entries_from entry (before ++ after) []) k d ≡ get_or (entries_from entry before []) k d
prefix-keeps entry before after k d h =
    let es = entries_from entry before [] in
    let l = length-entries entry before [] in
    rw (entries-append entry before after []) (entries-keep entry after es k d (omega arith))

pub entry-take : {X : Type 0} (entry : List X → TermNode → X) (n : ℕ) (ns : List TermNode) (k : ℕ) (d : X) → k < n → k < length ns → get_or (entries_from entry ns []) k d ≡ get_or (entries_from entry (take n ns) []) k d
entry-take entry n ns k d h l =
    let e = prefix-keeps entry (take n ns) (drop n ns) k d (omega (arith, length-take n ns)) in
    rw (take-append-drop n ns) at e

-- a node's word is made of all words
pub word-at : (inputs values : List ℕ) (before after : List TermNode) (n : TermNode) (id : TermId) → AreLawful inputs (before ++ n ∷ after) [] → id.0 ≡ length before
    → word_at (words_from inputs values (before ++ n ∷ after) []) id ≡ node_word inputs values (words_from inputs values (before ++ n ∷ after) []) n
word-at inputs values before after n id h e =
    let all = words_from inputs values (before ++ n ∷ after) [] in
    let es = words_from inputs values before [] in
    let widths = widths_from inputs before [] in
    let l = length-entries (node_width inputs) before [] in
    let same : node_word inputs values all n ≡ node_word inputs values es n =
    node_word-same inputs inputs values widths all es n (AreLawful-at inputs before after n [] h) (λ k p. refl)
    (λ a p. prefix-keeps (node_word inputs values) before (n ∷ after) a.0 (record { width = 0; number = 0 }) (omega arith)) in
    rw e (entry-at (node_word inputs values) before after n (record { width = 0; number = 0 }) ∙ sym same)

pub width-at : (inputs : List ℕ) (before after : List TermNode) (n : TermNode) (id : TermId) → AreLawful inputs (before ++ n ∷ after) [] → id.0 ≡ length before
    → slice_index (widths_from inputs (before ++ n ∷ after) []) id.0 ≡ node_width inputs (widths_from inputs (before ++ n ∷ after) []) n
width-at inputs before after n id h e =
    let all = widths_from inputs (before ++ n ∷ after) [] in
    let es = widths_from inputs before [] in
    let l = length-entries (node_width inputs) before [] in
    let same : node_width inputs all n ≡ node_width inputs es n =
    node_width-same inputs inputs es all n (AreLawful-at inputs before after n [] h) (λ k p. refl)
    (λ a p. prefix-keeps (node_width inputs) before (n ∷ after) a.0 0 (omega arith)) in
    rw e (entry-at (node_width inputs) before after n 0 ∙ sym same)

-- ---- more inputs
input-kept : (inputs more : List ℕ) (k : ℕ) → k < length inputs → slice_index (inputs ++ more) k ≡ slice_index inputs k
input-kept inputs more k h = get_or_append_left inputs more 0 k h

pub words-more : (inputs more values widths : List ℕ) (ns : List TermNode) (ws : List Word) → AreLawful inputs ns widths → words_from (inputs ++ more) values ns ws ≡ words_from inputs values ns ws
words-more inputs more values widths [] ws h = refl
words-more inputs more values widths (n ∷ ns) ws h =
    let e : node_word (inputs ++ more) values ws n ≡ node_word inputs values ws n =
    node_word-same inputs (inputs ++ more) values widths ws ws n h.0 (input-kept inputs more) (λ id p. refl) in
    ap (λ (w : Word). words_from (inputs ++ more) values ns (ws ++ w ∷ [])) e
    ∙ words-more inputs more values (widths ++ node_width inputs widths n ∷ []) ns (ws ++ node_word inputs values ws n ∷ []) h.1

width-more : (inputs more ws : List ℕ) (n : TermNode) → IsLawful inputs ws n → node_width (inputs ++ more) ws n ≡ node_width inputs ws n
width-more inputs more ws n h = node_width-same inputs (inputs ++ more) ws ws n h (input-kept inputs more) (λ id p. refl)

pub widths-more : (inputs more : List ℕ) (ns : List TermNode) (ws : List ℕ) → AreLawful inputs ns ws → widths_from (inputs ++ more) ns ws ≡ widths_from inputs ns ws
widths-more inputs more [] ws h = refl
widths-more inputs more (n ∷ ns) ws h =
    ap (λ (w : ℕ). widths_from (inputs ++ more) ns (ws ++ w ∷ [])) (width-more inputs more ws n h.0)
    ∙ widths-more inputs more ns (ws ++ node_width inputs ws n ∷ []) h.1

pub AreLawful-more : (inputs more : List ℕ) (ns : List TermNode) (ws : List ℕ) → AreLawful inputs ns ws → AreLawful (inputs ++ more) ns ws
AreLawful-more inputs more [] ws h = tt
AreLawful-more inputs more (n ∷ ns) ws h = (
  IsLawful-more inputs more ws n h.0,
  rw (width-more inputs more ws n h.0) (AreLawful-more inputs more ns (ws ++ node_width inputs ws n ∷ []) h.1),
)
