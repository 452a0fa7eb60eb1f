-- The words of nodes are words: their bits spell their numbers.
use Rattle.std.proofs.Common.{◌≡◌, ℕ, ◌+◌, ◌-◌, ◌*◌, ◌/◌, ◌^◌, ◌<◌, ◌≤◌, Bool, true, false, cond, List, [], ◌∷◌, ◌++◌, refl, arith, ap, sym, ◌∙◌, length, take, length-take, slice_index, get_or, ℤ, pos, negsuc, neg_ℤ, ◌-ℤ◌, ◌*ℤ◌, int_lt, int_le, nat_lt, ◌==◌}
use Rattle.std.specs.Prelude.{All}
use Rattle.std.proofs.Math.Nat.{mul_comm}
use Rattle.std.proofs.lemmas.Nat.{pow_pos, pow-add, mod_below, and_le_l, or_lt, mul-add-lt}
use Rattle.std.proofs.lemmas.List.{length-map, get_or-map, map_push, get_or_read}
use Rattle.std.proofs.lemmas.List.Elements.{All-push}
use Rattle.dsv_term.specs.Limits.{max_width}
use Rattle.dsv_term.specs.declared.node.TermId.{TermId}
use Rattle.dsv_term.specs.declared.node.TermNode.{TermNode}
use Rattle.dsv_term.specs.declared.node.TermNode.TheVariants.{Input, Constant, Add, Sub, Slt, Sle, Ult, Eq, And, Or, Concat, Neg, Not, MulConst, Sext, Extract, Ite}
use Rattle.dsv_term.specs.declared.word.Word.{Word}
use Rattle.dsv_term.specs.Word.{IsWidth, IsWord, residue, signed_of, bit_of, and_of, or_of, complement_of, joined_of, extract_of}
use Rattle.dsv_term.specs.TermNode.{word_at, word_widths, node_word, words_from, node_width, widths_from, IsLawful, AreLawful}
use Rattle.dsv_term.specs.Terms.{AreTerms, AreValues, words_of, word_of, width_of}
use Rattle.dsv_term.specs.TermsView.{TermsView}
use Rattle.dsv_term.proofs.Entries.{length-entries}
use Rattle.dsv_term.proofs.Lawful.{entry-take}

pub one_bit : IsWidth 1
one_bit = record { some = omega arith; narrow = omega arith }

pub residue_fits : (w : ℕ) (z : ℤ) → residue w z < 2 ^ w
residue_fits w (pos n) = mod_below n (2 ^ w) (pow_pos w)
residue_fits w (negsuc n) = omega (arith, pow_pos w)

IsWord-residue : (w : ℕ) (z : ℤ) → IsWidth w → IsWord (record { width = w; number = residue w z })
IsWord-residue w z h = record { lawful = h; fits = residue_fits w z }

bit_fits : (b : Bool) → cond b 1 0 < 2 ^ 1
bit_fits true = omega arith
bit_fits false = omega arith

IsWord-bit : (b : Bool) → IsWord (bit_of b)
IsWord-bit b = record { lawful = one_bit; fits = bit_fits b }

IsWord-and : (a b : Word) → IsWord a → IsWord (and_of a b)
IsWord-and a b h = record { lawful = h.lawful; fits = omega (arith, and_le_l a.number b.number) }

IsWord-or : (a b : Word) → IsWord a → IsWord b → a.width ≡ b.width → IsWord (or_of a b)
IsWord-or a b h k e = record { lawful = h.lawful; fits = or_lt a.width a.number b.number h.fits (rw e k.fits) }

IsWord-complement : (a : Word) → IsWord a → IsWord (complement_of a)
IsWord-complement a h = record { lawful = h.lawful; fits = omega (arith, pow_pos a.width) }

joined_fits : (a b v w : ℕ) → a < 2 ^ v → b < 2 ^ w → a * 2 ^ w + b < 2 ^ (v + w)
joined_fits a b v w h k = let e = mul-add-lt a (2 ^ w) b (2 ^ v) h k in rw (pow-add 2 v w, mul_comm (2 ^ v) (2 ^ w)) e

IsWord-joined : (a b : Word) → IsWord a → IsWord b → a.width + b.width ≤ max_width → IsWord (joined_of a b)
IsWord-joined a b h k n =
    record {
      lawful = record { some = omega (arith, h.lawful.some); narrow = n };
      fits = joined_fits a.number b.number a.width b.width h.fits k.fits;
    }

IsWidth-extract : (width high low : ℕ) → IsWidth width → low ≤ high → high < width → IsWidth (high + 1 - low)
IsWidth-extract width high low h o i = record { some = omega arith; narrow = omega (arith, h.narrow) }

IsWord-extract : (a : Word) (high low : ℕ) → IsWord a → low ≤ high → high < a.width → IsWord (extract_of high low a)
IsWord-extract a high low h o i =
    record {
      lawful = IsWidth-extract a.width high low h.lawful o i;
      fits = mod_below (a.number / 2 ^ low) (2 ^ (high + 1 - low)) (pow_pos (high + 1 - low));
    }

choice_width : (q : Bool) (a b : Word) → a.width ≡ b.width → (cond q a b).width ≡ a.width
choice_width true a b e = refl
choice_width false a b e = sym e

choice_by : (q : Bool) (a b : Word) → IsWord a → IsWord b → IsWord (cond q a b)
choice_by true a b h k = h
choice_by false a b h k = k

-- ---- nodes
-- A term that stands among these words.
pub record IsKnown (ws : List Word) (a : TermId) : Type 0 where
  pub stands : a.0 < length ws
  pub word : IsWord (word_at ws a)
  pub width : (word_at ws a).width ≡ slice_index (word_widths ws) a.0

pub known : (ws : List Word) (a : TermId) → All IsWord ws → a.0 < length (word_widths ws) → IsKnown ws a
known ws a h k =
    let l : a.0 < length ws = omega (arith, length-map ws (λ (w : Word). w.width)) in
    record {
      stands = l;
      word = h a.0 (record { width = 0; number = 0 }) l;
      width = sym (get_or-map (λ (w : Word). w.width) ws a.0 (record { width = 0; number = 0 }) 0 l);
    }

width_known : (ws : List Word) (a : TermId) → IsKnown ws a → IsWidth (slice_index (word_widths ws) a.0)
width_known ws a k = rw (← k.width) k.word.lawful

same_width : (ws : List Word) (a b : TermId) → IsKnown ws a → IsKnown ws b → slice_index (word_widths ws) a.0 ≡ slice_index (word_widths ws) b.0 → (word_at ws a).width ≡ (word_at ws b).width
same_width ws a b k l e = k.width ∙ (e ∙ sym l.width)

-- the words of lawful nodes are words
pub IsWord-node : (inputs values : List ℕ) (ws : List Word) (n : TermNode) → All IsWidth inputs → AreValues inputs values → All IsWord ws → IsLawful inputs (word_widths ws) n → IsWord (node_word inputs values ws n)
IsWord-node inputs values ws (Input k) i v h l = record { lawful = i k 0 l; fits = v.fit k l }
IsWord-node inputs values ws (Constant w n) i v h l = record { lawful = l.lawful; fits = l.fits }
IsWord-node inputs values ws (Add a b) i v h l =
    let k = known ws a h l.first in
    record { lawful = k.word.lawful; fits = mod_below ((word_at ws a).number + (word_at ws b).number) (2 ^ (word_at ws a).width) (pow_pos (word_at ws a).width) }
IsWord-node inputs values ws (Sub a b) i v h l = IsWord-residue (word_at ws a).width (pos (word_at ws a).number -ℤ pos (word_at ws b).number) (known ws a h l.first).word.lawful
IsWord-node inputs values ws (Slt a b) i v h l = IsWord-bit (int_lt (signed_of (word_at ws a)) (signed_of (word_at ws b)))
IsWord-node inputs values ws (Sle a b) i v h l = IsWord-bit (int_le (signed_of (word_at ws a)) (signed_of (word_at ws b)))
IsWord-node inputs values ws (Ult a b) i v h l = IsWord-bit (nat_lt (word_at ws a).number (word_at ws b).number)
IsWord-node inputs values ws (Eq a b) i v h l = IsWord-bit ((word_at ws a).number == (word_at ws b).number)
IsWord-node inputs values ws (And a b) i v h l = IsWord-and (word_at ws a) (word_at ws b) (known ws a h l.first).word
IsWord-node inputs values ws (Or a b) i v h l =
    let k = known ws a h l.first in
    let m = known ws b h l.second in
    IsWord-or (word_at ws a) (word_at ws b) k.word m.word (same_width ws a b k m l.same)
IsWord-node inputs values ws (Concat a b) i v h l =
    let k = known ws a h l.first in
    let m = known ws b h l.second in
    IsWord-joined (word_at ws a) (word_at ws b) k.word m.word (omega (arith, k.width, m.width, l.narrow))
IsWord-node inputs values ws (Neg a) i v h l = IsWord-residue (word_at ws a).width (neg_ℤ (pos (word_at ws a).number)) (known ws a h l).word.lawful
IsWord-node inputs values ws (Not a) i v h l = IsWord-complement (word_at ws a) (known ws a h l).word
IsWord-node inputs values ws (MulConst a c) i v h l = IsWord-residue (word_at ws a).width (c *ℤ pos (word_at ws a).number) (known ws a h l).word.lawful
IsWord-node inputs values ws (Sext a w) i v h l =
    let k = width_known ws a (known ws a h l.stands) in
    IsWord-residue w (signed_of (word_at ws a)) (record { some = omega (arith, k.some, l.wider); narrow = l.narrow })
IsWord-node inputs values ws (Extract a high low) i v h l =
    let k = known ws a h l.stands in
    IsWord-extract (word_at ws a) high low k.word l.order (omega (arith, k.width, l.inside))
IsWord-node inputs values ws (Ite c a b) i v h l =
    choice_by ((word_at ws c).number == 1) (word_at ws a) (word_at ws b) (known ws a h l.alike.first).word (known ws b h l.alike.second).word

-- a word is as wide as its node
pub width-node_word : (inputs values : List ℕ) (ws : List Word) (n : TermNode) → All IsWord ws → IsLawful inputs (word_widths ws) n → (node_word inputs values ws n).width ≡ node_width inputs (word_widths ws) n
width-node_word inputs values ws (Add a b) h l = (known ws a h l.first).width
width-node_word inputs values ws (Sub a b) h l = (known ws a h l.first).width
width-node_word inputs values ws (And a b) h l = (known ws a h l.first).width
width-node_word inputs values ws (Or a b) h l = (known ws a h l.first).width
width-node_word inputs values ws (Concat a b) h l = let p = (known ws a h l.first).width in let q = (known ws b h l.second).width in cc
width-node_word inputs values ws (Neg a) h l = (known ws a h l).width
width-node_word inputs values ws (Not a) h l = (known ws a h l).width
width-node_word inputs values ws (MulConst a c) h l = (known ws a h l).width
width-node_word inputs values ws (Ite c a b) h l =
    let k = known ws a h l.alike.first in
    let m = known ws b h l.alike.second in
    choice_width ((word_at ws c).number == 1) (word_at ws a) (word_at ws b) (same_width ws a b k m l.alike.same) ∙ k.width
width-node_word inputs values ws n h l = refl

-- ---- the widths of terms
IsWidth-node : (inputs ws : List ℕ) (n : TermNode) → All IsWidth inputs → All IsWidth ws → IsLawful inputs ws n → IsWidth (node_width inputs ws n)
IsWidth-node inputs ws (Input k) i h l = i k 0 l
IsWidth-node inputs ws (Constant w n) i h l = l.lawful
IsWidth-node inputs ws (Add a b) i h l = h a.0 0 l.first
IsWidth-node inputs ws (Sub a b) i h l = h a.0 0 l.first
IsWidth-node inputs ws (And a b) i h l = h a.0 0 l.first
IsWidth-node inputs ws (Or a b) i h l = h a.0 0 l.first
IsWidth-node inputs ws (Concat a b) i h l = record { some = omega (arith, (h a.0 0 l.first).some); narrow = l.narrow }
IsWidth-node inputs ws (Neg a) i h l = h a.0 0 l
IsWidth-node inputs ws (Not a) i h l = h a.0 0 l
IsWidth-node inputs ws (MulConst a c) i h l = h a.0 0 l
IsWidth-node inputs ws (Sext a w) i h l = record { some = omega (arith, (h a.0 0 l.stands).some, l.wider); narrow = l.narrow }
IsWidth-node inputs ws (Extract a high low) i h l = IsWidth-extract (slice_index ws a.0) high low (h a.0 0 l.stands) l.order l.inside
IsWidth-node inputs ws (Ite c a b) i h l = h a.0 0 l.alike.first
IsWidth-node inputs ws n i h l = one_bit

pub AreWidths : (inputs : List ℕ) (ns : List TermNode) (ws : List ℕ) → All IsWidth inputs → All IsWidth ws → AreLawful inputs ns ws → All IsWidth (widths_from inputs ns ws)
AreWidths inputs [] ws i h l = h
AreWidths inputs (n ∷ ns) ws i h l =
    AreWidths inputs ns (ws ++ node_width inputs ws n ∷ []) i (All-push IsWidth ws (node_width inputs ws n) h (IsWidth-node inputs ws n i h l.0)) l.1

-- ---- one word after another
pub record IsNext (inputs : List ℕ) (ns : List TermNode) (ws : List Word) : Type 0 where
  pub words : All IsWord ws
  pub lawful : AreLawful inputs ns (word_widths ws)

pushed_widths : (inputs values : List ℕ) (ws : List Word) (n : TermNode) → All IsWord ws → IsLawful inputs (word_widths ws) n
    → word_widths (ws ++ node_word inputs values ws n ∷ []) ≡ word_widths ws ++ node_width inputs (word_widths ws) n ∷ []
pushed_widths inputs values ws n h l =
    map_push (λ (u : Word). u.width) ws (node_word inputs values ws n) ∙ ap (λ (u : ℕ). word_widths ws ++ u ∷ []) (width-node_word inputs values ws n h l)

pub next : (inputs values : List ℕ) (n : TermNode) (ns : List TermNode) (ws new : List Word) (w : Word) → All IsWidth inputs → AreValues inputs values → All IsWord ws
    → AreLawful inputs (n ∷ ns) (word_widths ws) → w ≡ node_word inputs values ws n → new ≡ ws ++ w ∷ [] → IsNext inputs ns new
next inputs values n ns ws new w i v h l e g =
    let word = IsWord-node inputs values ws n i v h l.0 in
    let all : new ≡ ws ++ node_word inputs values ws n ∷ [] = g ∙ ap (λ (u : Word). ws ++ u ∷ []) e in
    let widths : word_widths new ≡ word_widths ws ++ node_width inputs (word_widths ws) n ∷ [] =
    ap word_widths all ∙ pushed_widths inputs values ws n h l.0 in
    record {
      words = rw all (All-push IsWord ws (node_word inputs values ws n) h word);
      lawful = rw widths l.1;
    }

-- Words of lawful nodes, as wide as these.
pub record AreWords (inputs : List ℕ) (ns : List TermNode) (ws all : List Word) : Type 0 where
  pub words : All IsWord all
  pub widths : word_widths all ≡ widths_from inputs ns (word_widths ws)

pub words_of_nodes : (inputs values : List ℕ) (ns : List TermNode) (ws : List Word) → All IsWidth inputs → AreValues inputs values → All IsWord ws → AreLawful inputs ns (word_widths ws) → AreWords inputs ns ws (words_from inputs values ns ws)
words_of_nodes inputs values [] ws i v h l = record { words = h; widths = refl }
words_of_nodes inputs values (n ∷ ns) ws i v h l =
    let w = node_word inputs values ws n in
    let k = next inputs values n ns ws (ws ++ w ∷ []) w i v h l refl refl in
    let rest = words_of_nodes inputs values ns (ws ++ w ∷ []) i v k.words k.lawful in
    record { words = rest.words; widths = rest.widths ∙ ap (widths_from inputs ns) (pushed_widths inputs values ws n h l.0) }

-- the value of a term is below 2 to its width
pub word_below : (t : TermsView) (values : List ℕ) (id : TermId) → AreTerms t → AreValues t.inputs values → id.0 < length t.nodes → (word_of t values id).number < 2 ^ width_of t id
word_below t values id h v l =
    let all = words_of_nodes t.inputs values t.nodes [] h.inputs v (λ k d p. absurd (omega arith)) h.lawful in
    let n = length-entries (node_word t.inputs values) t.nodes [] in
    let k = known (words_of t values) id all.words (omega (arith, length-map (words_of t values) (λ (w : Word). w.width))) in
    let e : (word_of t values id).width ≡ width_of t id = k.width ∙ ap (λ (ws : List ℕ). slice_index ws id.0) all.widths in
    rw (← e) k.word.fits

-- ---- the words up to one term
pub reached : (t : TermsView) (values : List ℕ) (id : TermId) (ws : List Word) → ws ≡ words_from t.inputs values (take (id.0 + 1) t.nodes) [] → id.0 < length t.nodes → id.0 < length ws
reached t values id ws e l = omega (arith, ap length e, length-entries (node_word t.inputs values) (take (id.0 + 1) t.nodes) [], length-take (id.0 + 1) t.nodes)

pub evaluated : (t : TermsView) (values : List ℕ) (id : TermId) (ws : List Word) (w : Word) → ws ≡ words_from t.inputs values (take (id.0 + 1) t.nodes) [] → id.0 < length t.nodes → w ≡ get_or ws id.0 w → w ≡ word_of t values id
evaluated t values id ws w e l r =
    let d : Word = record { width = 0; number = 0 } in
    get_or_read ws id.0 w (reached t values id ws e l) r d
    ∙ (ap (λ (us : List Word). get_or us id.0 d) e ∙ sym (entry-take (node_word t.inputs values) (id.0 + 1) t.nodes id.0 d (omega arith) l))
