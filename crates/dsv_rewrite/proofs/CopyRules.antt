-- What sums of shifted copies stand for, as whole numbers.
use Rattle.std.proofs.Common.{◌≡◌, ℕ, ◌+◌, ◌-◌, ◌*◌, ◌/◌, ◌%◌, ◌^◌, ◌<◌, ◌≤◌, Bool, true, false, List, refl, arith, ap, sym, subst, ◌∙◌, length, if◌then◌else◌}
use Rattle.std.specs.Prelude.{◌==◌}
use Rattle.std.proofs.Math.IntN.{ℤ, pos, neg_ℤ, ◌+ℤ◌, ◌-ℤ◌}
use Rattle.std.proofs.lemmas.Int.{ints}
use Rattle.std.proofs.lemmas.Nat.{pow_pos, pow-add, mod_below, div-add-mod', mod-mul-add}
use Rattle.std.proofs.lemmas.Bool.{eqb-true}
use Rattle.std.proofs.lemmas.Bool.Decides.{nat_tests}
use Rattle.dsv_term.specs.Limits.{max_width}
use Rattle.dsv_term.specs.declared.node.TermId.{TermId}
use Rattle.dsv_term.specs.declared.word.Word.{Word}
use Rattle.dsv_term.specs.Building.{Built, built_of}
use Rattle.dsv_term.specs.Growth.{AreSound, Adds}
use Rattle.dsv_term.specs.Terms.{AreValues, KeepsTerms, width_of, word_of, HasBits}
use Rattle.dsv_term.specs.TermsView.{TermsView}
use Rattle.dsv_term.specs.Word.{IsWord, residue, sum_of, difference_of, joined_of, extended_of, extract_of}
use Rattle.dsv_term.proofs.Building.{later, stands-width, Adds-built}
use Rattle.dsv_term.proofs.Complement.{spelled, residue-small, low-spelled, sum-spelled, difference-spelled}
use Rattle.dsv_term.proofs.Made.{KeepsTerms-both}
use Rattle.dsv_term.proofs.Words.{residue_fits}
use Rattle.dsv_rewrite.specs.declared.part.Part.{Part}
use Rattle.dsv_rewrite.specs.Constants.{constant_term}
use Rattle.dsv_rewrite.specs.Digits.{shifted_term, Copies, none, sum, negated_sum, Multiple, with_added, with_taken}
use Rattle.dsv_rewrite.specs.Pairs.{joined_term, sum_term, difference_term}
use Rattle.dsv_rewrite.specs.Parts.{part_term}
use Rattle.dsv_rewrite.specs.Ready.{AreCopies}
use Rattle.dsv_rewrite.specs.Simple.{AreSimple}
use Rattle.dsv_rewrite.proofs.Extracts.{extended-same}
use Rattle.dsv_rewrite.proofs.Laws.{word_eq}
use Rattle.dsv_rewrite.proofs.PairRules.{ArePair, joined_rewrites, sum_rewrites, difference_rewrites}
use Rattle.dsv_rewrite.proofs.PartRules.{part_rewrites}
use Rattle.dsv_rewrite.proofs.Standing.{known_word, Rewrites, kept_rewrites, rewrites_as, rewrites_then, constant_rewrites}

-- ---- a shift
shift_mod : (n a s : ℕ) → 0 < a → 0 < s → s * n % (a * s) ≡ n % a * s
shift_mod n a s ha hs =
    let d = div-add-mod' n a in
    let l = mod_below n a ha in
    let e : s * n ≡ n / a * (a * s) + n % a * s = rows n (n / a) (n % a) a s (sym d) in
    ap (λ (m : ℕ). m % (a * s)) e ∙ mod-mul-add (n / a) (a * s) (n % a * s) (less (n % a) a s l hs)
  where
    rows : (n q r a s : ℕ) → n ≡ q * a + r → s * n ≡ q * (a * s) + r * s
    rows n q r a s e = rw e (omega arith)

    less : (r a s : ℕ) → r < a → 0 < s → r * s < a * s
    less r a s l h =
        let d = a - 1 - r in
        let e : a ≡ r + 1 + d = omega arith in
        rw e (let m : (r + 1 + d) * s ≡ r * s + s + d * s = omega arith in omega arith)

shift_up : (x : Word) (width shift : ℕ) → IsWord x → x.width ≡ width → shift < width
    → joined_of (extended_of (width - shift) (extract_of (width - 1 - shift) 0 x)) (record { width = shift; number = 0 }) ≡ spelled width (pos (2 ^ shift * x.number))
shift_up x width shift h w l =
    let m = width - shift in
    let n = x.number in
    let whole : x ≡ spelled width (pos n) = word_eq x (spelled width (pos n)) w (sym (residue-small width n (subst (λ (k : ℕ). n < 2 ^ k) w h.fits))) in
    let top : width - 1 - shift ≡ m - 1 = omega arith in
    let low : extract_of (width - 1 - shift) 0 x ≡ spelled m (pos n) =
    ap (λ (k : ℕ). extract_of k 0 x) top ∙ (ap (extract_of (m - 1) 0) whole ∙ low-spelled m width (pos n) (omega arith) (omega arith)) in
    let narrow = h.lawful.narrow in
    let fits : IsWord (spelled m (pos n)) = record { lawful = record { some = omega arith; narrow = omega arith }; fits = residue_fits m (pos n) } in
    let same : extended_of m (extract_of (width - 1 - shift) 0 x) ≡ spelled m (pos n) = ap (extended_of m) low ∙ extended-same (spelled m (pos n)) fits in
    let e : width ≡ m + shift = omega arith in
    let p : 2 ^ width ≡ 2 ^ m * 2 ^ shift = ap (λ (k : ℕ). 2 ^ k) e ∙ pow-add 2 m shift in
    let zeros : Word = record { width = shift; number = 0 } in
    let number : n % 2 ^ m * 2 ^ shift + 0 ≡ 2 ^ shift * n % 2 ^ width =
    sym (ap (λ (k : ℕ). 2 ^ shift * n % k) p ∙ (shift_mod n (2 ^ m) (2 ^ shift) (pow_pos m) (pow_pos shift) ∙ omega arith)) in
    ap (λ (i : Word). joined_of i zeros) same ∙ word_eq (joined_of (spelled m (pos n)) zeros) (spelled width (pos (2 ^ shift * n))) (sym e) number

-- the word of a term that is so many bits higher
abbrev pub shifted_number : TermsView → TermId → ℕ → List ℕ → ℤ
shifted_number t a shift values = pos (2 ^ shift * (word_of t values a).number)

shifted_by : (t : TermsView) (width shift : ℕ) (a : TermId) (none_ : Bool) → (shift == 0) ≡ none_ → AreSound t → a.0 < length t.nodes → width_of t a ≡ width → shift < width
    → Rewrites t (if none_ then built_of t a else let low = part_term t (width - shift) (record { of = a; high = width - 1 - shift; low = 0 }) in let zeros = constant_term low.terms (record { width = shift; number = 0 }) in joined_term zeros.terms low.id zeros.id)
    width (λ values. spelled width (shifted_number t a shift values))
shifted_by t width shift a true e s h w l =
    let z = eqb-true shift 0 e in
    kept_rewrites t a width (λ values. spelled width (shifted_number t a shift values)) s h w
    (λ values v.
    let k = known_word t values a s v h in
    let n = (word_of t values a).number in
    let one : n ≡ 2 ^ shift * n = sym (ap (λ (i : ℕ). 2 ^ i * n) z ∙ omega arith) in
    let fits : n < 2 ^ width = subst (λ (i : ℕ). n < 2 ^ i) (k.width ∙ w) k.word.fits in
    word_eq (word_of t values a) (spelled width (shifted_number t a shift values)) (k.width ∙ w) (sym (residue-small width n fits) ∙ ap (λ (i : ℕ). residue width (pos i)) one))
shifted_by t width shift a false e s h w l =
    let p : Part = record { of = a; high = width - 1 - shift; low = 0 } in
    let zero_word : Word = record { width = shift; number = 0 } in
    let low = part_term t (width - shift) p in
    let zeros = constant_term low.terms zero_word in
    let both = joined_term zeros.terms low.id zeros.id in
    let narrow = (stands-width t a s h).narrow in
    let some : 1 ≤ shift = positive shift e in
    let r1 = part_rewrites t (width - shift) p s (record { stands = h; order = omega arith; inside = omega (arith, w) }) (omega arith) (omega arith) in
    let r2 = constant_rewrites low.terms zero_word r1.adds.sound (record { lawful = record { some = some; narrow = omega arith }; fits = pow_pos shift }) in
    let up_ = later low.terms zeros.terms low.id r2.adds.kept r1.adds.stands in
    let wide : width_of zeros.terms low.id ≡ width - shift = up_.width ∙ r1.adds.width in
    let r3 = joined_rewrites zeros.terms low.id zeros.id r2.adds.sound up_.stands r2.adds.stands (omega (arith, wide, r2.adds.width)) in
    let first = rewrites_then t low zeros (width - shift) shift (λ values. extended_of (width - shift) (extract_of (width - 1 - shift) 0 (word_of t values a))) (λ values. zero_word) (λ values. zero_word) r1 r2 (λ values v. refl) in
    rewrites_as t both (width_of zeros.terms low.id + width_of zeros.terms zeros.id) width (λ values. spelled width (shifted_number t a shift values)) (λ values. spelled width (shifted_number t a shift values))
    (rewrites_then t zeros both shift (width_of zeros.terms low.id + width_of zeros.terms zeros.id) (λ values. zero_word)
    (λ values. joined_of (word_of zeros.terms values low.id) (word_of zeros.terms values zeros.id)) (λ values. spelled width (shifted_number t a shift values)) first r3
    (λ values v.
    let k = known_word t values a s v h in
    ap (λ (i : Word). joined_of i (word_of zeros.terms values zeros.id)) (up_.word values ∙ r1.word values v)
    ∙ (ap (joined_of (extended_of (width - shift) (extract_of (width - 1 - shift) 0 (word_of t values a)))) (first.word values v)
    ∙ shift_up (word_of t values a) width shift k.word (k.width ∙ w) l)))
    (omega (arith, wide, r2.adds.width)) (λ values v. refl)
  where
    positive : (n : ℕ) → (n == 0) ≡ false → 1 ≤ n
    positive n e = grind (arith, nat_tests)

pub shifted_rewrites : (t : TermsView) (width shift : ℕ) (a : TermId) → AreSound t → a.0 < length t.nodes → width_of t a ≡ width → shift < width
    → Rewrites t (shifted_term t width shift a) width (λ values. spelled width (shifted_number t a shift values))
shifted_rewrites t width shift a s h w l = shifted_by t width shift a (shift == 0) refl s h w l

-- ---- copies
-- The copies so far stand for z.
abbrev pub CopiesAre : TermsView → List ℕ → Copies → ℕ → ℤ → Type 0
CopiesAre t values none width z = z ≡ pos 0
CopiesAre t values (sum a) width z = word_of t values a ≡ spelled width z
CopiesAre t values (negated_sum a) width z = word_of t values a ≡ spelled width (neg_ℤ z)

-- Terms were added so that the copies stand for a number.
pub record Counts (t : TermsView) (m : Multiple) (width : ℕ) (z : List ℕ → ℤ) : Type 0 where
  pub sound : AreSound m.terms
  pub inputs : m.terms.inputs ≡ t.inputs
  pub kept : KeepsTerms t m.terms
  pub simple : AreSimple t → AreSimple m.terms
  pub copies : AreCopies m.terms m.copies width
  pub value : (values : List ℕ) → AreValues t.inputs values → CopiesAre m.terms values m.copies width (z values)

pub later_copies : (t u : TermsView) (c : Copies) (width : ℕ) → KeepsTerms t u → AreCopies t c width → AreCopies u c width
later_copies t u none width k h = tt
later_copies t u (sum a) width k h = record { stands = k.longer a h.stands; width = k.widths a h.stands ∙ h.width }
later_copies t u (negated_sum a) width k h = record { stands = k.longer a h.stands; width = k.widths a h.stands ∙ h.width }

pub later_value : (t u : TermsView) (values : List ℕ) (c : Copies) (width : ℕ) (z : ℤ) → KeepsTerms t u → AreCopies t c width → CopiesAre t values c width z → CopiesAre u values c width z
later_value t u values none width z k h e = e
later_value t u values (sum a) width z k h e = k.words values a h.stands ∙ e
later_value t u values (negated_sum a) width z k h e = k.words values a h.stands ∙ e

-- one term more, made of the copies
put_copy : (t : TermsView) (m : Multiple) (b : Built) (c : Copies) (width : ℕ) (z y : List ℕ → ℤ) (f : List ℕ → Word) → Counts t m width z → Rewrites m.terms b width f
    → AreCopies b.terms c width → ((values : List ℕ) → AreValues t.inputs values → word_of b.terms values b.id ≡ f values → CopiesAre b.terms values c width (y values))
    → Counts t (record { terms = b.terms; copies = c }) width y
put_copy t m b c width z y f h r a e =
    record {
      sound = r.adds.sound;
      inputs = r.adds.inputs ∙ h.inputs;
      kept = KeepsTerms-both t m.terms b.terms h.kept r.adds.kept;
      simple = λ q. r.simple (h.simple q);
      copies = a;
      value = λ values v. e values v (r.word values (subst (λ (i : List ℕ). AreValues i values) (sym h.inputs) v));
    }

bits_pair : (t : TermsView) (a b : TermId) (width : ℕ) → AreSound t → HasBits t a width → HasBits t b width → ArePair t a b
bits_pair t a b width s h k = record { sound = s; first = h.stands; second = k.stands; alike = h.width ∙ sym k.width }

-- the copy, before it is added
pub record HasCopy (t : TermsView) (copy : Built) (width : ℕ) (y : List ℕ → ℤ) : Type 0 where
  pub bits : HasBits copy.terms copy.id width
  pub value : (values : List ℕ) → AreValues t.inputs values → word_of copy.terms values copy.id ≡ spelled width (y values)

pub added_counts : (t : TermsView) (copy : Built) (c : Copies) (width : ℕ) (z y : List ℕ → ℤ) → Counts t (record { terms = copy.terms; copies = c }) width z → HasCopy t copy width y
    → Counts t (with_added copy c) width (λ values. z values +ℤ y values)
added_counts t copy none width z y h k = record {
  sound = h.sound;
  inputs = h.inputs;
  kept = h.kept;
  simple = h.simple;
  copies = k.bits;
  value = λ values v. k.value values v ∙ ap (spelled width) (let e = h.value values v in omega (arith, ints));
}
added_counts t copy (sum a) width z y h k =
    let p = bits_pair copy.terms a copy.id width h.sound h.copies k.bits in
    let b = sum_term copy.terms a copy.id in
    let f : List ℕ → Word = λ values. sum_of (word_of copy.terms values a) (word_of copy.terms values copy.id) in
    let r = rewrites_as copy.terms b (width_of copy.terms a) width f f (sum_rewrites copy.terms a copy.id p) h.copies.width (λ values v. refl) in
    put_copy t (record { terms = copy.terms; copies = sum a }) b (sum b.id) width z (λ values. z values +ℤ y values) f h r (record { stands = r.adds.stands; width = r.adds.width })
    (λ values v e. e ∙ (ap (λ (i : Word). sum_of i (word_of copy.terms values copy.id)) (h.value values v) ∙ (ap (sum_of (spelled width (z values))) (k.value values v) ∙ sum-spelled width (z values) (y values))))
added_counts t copy (negated_sum a) width z y h k =
    let p = bits_pair copy.terms copy.id a width h.sound k.bits h.copies in
    let b = difference_term copy.terms copy.id a in
    let f : List ℕ → Word = λ values. difference_of (word_of copy.terms values copy.id) (word_of copy.terms values a) in
    let r = rewrites_as copy.terms b (width_of copy.terms copy.id) width f f (difference_rewrites copy.terms copy.id a p) k.bits.width (λ values v. refl) in
    put_copy t (record { terms = copy.terms; copies = negated_sum a }) b (sum b.id) width z (λ values. z values +ℤ y values) f h r (record { stands = r.adds.stands; width = r.adds.width })
    (λ values v e. e ∙ (ap (λ (i : Word). difference_of i (word_of copy.terms values a)) (k.value values v) ∙ (ap (difference_of (spelled width (y values))) (h.value values v)
    ∙ (difference-spelled width (y values) (neg_ℤ (z values)) ∙ ap (spelled width) (turned (z values) (y values))))))
  where
    turned : (z y : ℤ) → y -ℤ neg_ℤ z ≡ z +ℤ y
    turned z y = omega (arith, ints)

pub taken_counts : (t : TermsView) (copy : Built) (c : Copies) (width : ℕ) (z y : List ℕ → ℤ) → Counts t (record { terms = copy.terms; copies = c }) width z → HasCopy t copy width y
    → Counts t (with_taken copy c) width (λ values. z values -ℤ y values)
taken_counts t copy none width z y h k = record {
  sound = h.sound;
  inputs = h.inputs;
  kept = h.kept;
  simple = h.simple;
  copies = k.bits;
  value = λ values v. k.value values v ∙ ap (spelled width) (let e = h.value values v in omega (arith, ints));
}
taken_counts t copy (sum a) width z y h k =
    let p = bits_pair copy.terms a copy.id width h.sound h.copies k.bits in
    let b = difference_term copy.terms a copy.id in
    let f : List ℕ → Word = λ values. difference_of (word_of copy.terms values a) (word_of copy.terms values copy.id) in
    let r = rewrites_as copy.terms b (width_of copy.terms a) width f f (difference_rewrites copy.terms a copy.id p) h.copies.width (λ values v. refl) in
    put_copy t (record { terms = copy.terms; copies = sum a }) b (sum b.id) width z (λ values. z values -ℤ y values) f h r (record { stands = r.adds.stands; width = r.adds.width })
    (λ values v e. e ∙ (ap (λ (i : Word). difference_of i (word_of copy.terms values copy.id)) (h.value values v) ∙ (ap (difference_of (spelled width (z values))) (k.value values v) ∙ difference-spelled width (z values) (y values))))
taken_counts t copy (negated_sum a) width z y h k =
    let p = bits_pair copy.terms a copy.id width h.sound h.copies k.bits in
    let b = sum_term copy.terms a copy.id in
    let f : List ℕ → Word = λ values. sum_of (word_of copy.terms values a) (word_of copy.terms values copy.id) in
    let r = rewrites_as copy.terms b (width_of copy.terms a) width f f (sum_rewrites copy.terms a copy.id p) h.copies.width (λ values v. refl) in
    put_copy t (record { terms = copy.terms; copies = negated_sum a }) b (negated_sum b.id) width z (λ values. z values -ℤ y values) f h r (record { stands = r.adds.stands; width = r.adds.width })
    (λ values v e. e ∙ (ap (λ (i : Word). sum_of i (word_of copy.terms values copy.id)) (h.value values v) ∙ (ap (sum_of (spelled width (neg_ℤ (z values)))) (k.value values v)
    ∙ (sum-spelled width (neg_ℤ (z values)) (y values) ∙ ap (spelled width) (turned (z values) (y values))))))
  where
    turned : (z y : ℤ) → neg_ℤ z +ℤ y ≡ neg_ℤ (z -ℤ y)
    turned z y = omega (arith, ints)

-- ---- what the code's steps ask
-- The low bits of a term and the zeros below them stand.
pub record ShiftStands (u v : TermsView) (low zeros : TermId) : Type 0 where
  pub before : AreSound u
  pub sound : AreSound v
  pub first : low.0 < length v.nodes
  pub second : zeros.0 < length v.nodes
  pub narrow : width_of v low + width_of v zeros ≤ max_width

pub low_adds : (t u : TermsView) (a low : TermId) (width shift : ℕ) → AreSound t → a.0 < length t.nodes → width_of t a ≡ width → shift < width
    → built_of u low ≡ part_term t (width - shift) (record { of = a; high = width - 1 - shift; low = 0 }) → Adds t u low (width - shift)
low_adds t u a low width shift s h w l e =
    let p : Part = record { of = a; high = width - 1 - shift; low = 0 } in
    let narrow = (stands-width t a s h).narrow in
    Adds-built t u low (part_term t (width - shift) p) (width - shift) e (part_rewrites t (width - shift) p s (record { stands = h; order = omega arith; inside = omega (arith, w) }) (omega arith) (omega arith)).adds

pub shift_stands : (t u v : TermsView) (a low zeros : TermId) (width shift : ℕ) → AreSound t → a.0 < length t.nodes → width_of t a ≡ width → 1 ≤ shift → shift < width
    → built_of u low ≡ part_term t (width - shift) (record { of = a; high = width - 1 - shift; low = 0 }) → built_of v zeros ≡ constant_term u (record { width = shift; number = 0 }) → ShiftStands u v low zeros
shift_stands t u v a low zeros width shift s h w some l e f =
    let narrow = (stands-width t a s h).narrow in
    let x : Word = record { width = shift; number = 0 } in
    let d = low_adds t u a low width shift s h w l e in
    let g = Adds-built u v zeros (constant_term u x) shift f (constant_rewrites u x d.sound (record { lawful = record { some = some; narrow = omega arith }; fits = pow_pos shift })).adds in
    let i = later u v low g.kept d.stands in
    record { before = d.sound; sound = g.sound; first = i.stands; second = g.stands; narrow = omega (arith, i.width, d.width, g.width) }
