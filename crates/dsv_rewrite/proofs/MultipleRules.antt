-- What a product by signed digits stands for.
use Rattle.std.proofs.Common.{◌≡◌, ℕ, zero, suc, ◌+◌, ◌-◌, ◌*◌, ◌^◌, ◌<◌, ◌≤◌, List, [], ◌∷◌, refl, arith, ap, sym, subst, ◌∙◌, length}
use Rattle.std.proofs.Math.IntN.{ℤ, pos, neg_ℤ, ◌+ℤ◌, ◌-ℤ◌, ◌*ℤ◌}
use Rattle.std.proofs.lemmas.Int.{ints}
use Rattle.std.proofs.lemmas.Nat.{pow_pos, pow-add}
use Rattle.dsv_algebra.proofs.Normaliser.{ring, env, var, num, plus, times, minus}
use Rattle.dsv_term.specs.declared.node.TermId.{TermId}
use Rattle.dsv_term.specs.declared.word.Word.{Word}
use Rattle.dsv_term.specs.Building.{Built, built_of}
use Rattle.dsv_term.specs.Growth.{AreSound}
use Rattle.dsv_term.specs.Terms.{AreValues, width_of, word_of}
use Rattle.dsv_term.specs.TermsView.{TermsView}
use Rattle.dsv_term.specs.Word.{IsWidth, negation_of, product_of, residue}
use Rattle.dsv_term.proofs.Building.{Adds-built, stands-width, KeepsTerms-self}
use Rattle.dsv_term.proofs.Complement.{spelled, residue-small, residue-turn, product-spelled}
use Rattle.dsv_term.proofs.Made.{KeepsTerms-both}
use Rattle.dsv_rewrite.specs.declared.digits.Digit.{Digit}
use Rattle.dsv_rewrite.specs.declared.digits.Digit.TheVariants.{Minus, Zero, Plus}
use Rattle.dsv_rewrite.specs.Constants.{constant_term}
use Rattle.dsv_rewrite.specs.Digits.{lowest_digit, digit_value, above_digit, shifted_term, Copies, none, sum, negated_sum, Multiple, with_added, with_taken, with_digit, digits_from, copies_term, multiple_term}
use Rattle.dsv_rewrite.specs.Pairs.{negation_term}
use Rattle.dsv_rewrite.specs.Ready.{AreCopies, IsSmall}
use Rattle.dsv_rewrite.proofs.CopyRules.{shifted_number, shifted_rewrites, CopiesAre, Counts, HasCopy, later_copies, later_value, added_counts, taken_counts}
use Rattle.dsv_rewrite.proofs.Laws.{word_eq}
use Rattle.dsv_rewrite.proofs.PairRules.{negation_rewrites}
use Rattle.dsv_rewrite.proofs.SignedDigits.{digit_split, above_small}
use Rattle.dsv_rewrite.proofs.Standing.{known_word, Rewrites, kept_rewrites, constant_rewrites}

-- ---- one digit
counts_as : (t : TermsView) (m : Multiple) (width : ℕ) (z y : List ℕ → ℤ) → Counts t m width z → ((values : List ℕ) → z values ≡ y values) → Counts t m width y
counts_as t m width z y h e = record {
  sound = h.sound;
  inputs = h.inputs;
  kept = h.kept;
  simple = h.simple;
  copies = h.copies;
  value = λ values v. subst (λ (k : ℤ). CopiesAre m.terms values m.copies width k) (e values) (h.value values v);
}

-- the terms with a shifted copy
record WithCopy (t : TermsView) (m : Multiple) (copy : Built) (width : ℕ) (z y : List ℕ → ℤ) : Type 0 where
  counts : Counts t (record { terms = copy.terms; copies = m.copies }) width z
  has : HasCopy t copy width y

with_copy : (t : TermsView) (m : Multiple) (width shift : ℕ) (a : TermId) (z : List ℕ → ℤ) → Counts t m width z → a.0 < length t.nodes → width_of t a ≡ width → shift < width
    → WithCopy t m (shifted_term m.terms width shift a) width z (shifted_number t a shift)
with_copy t m width shift a z h s w l =
    let copy = shifted_term m.terms width shift a in
    let r = shifted_rewrites m.terms width shift a h.sound (h.kept.longer a s) (h.kept.widths a s ∙ w) l in
    record {
      counts = record {
        sound = r.adds.sound;
        inputs = r.adds.inputs ∙ h.inputs;
        kept = KeepsTerms-both t m.terms copy.terms h.kept r.adds.kept;
        simple = λ q. r.simple (h.simple q);
        copies = later_copies m.terms copy.terms m.copies width r.adds.kept h.copies;
        value = λ values v. later_value m.terms copy.terms values m.copies width (z values) r.adds.kept h.copies (h.value values v);
      };
      has = record {
        bits = record { stands = r.adds.stands; width = r.adds.width };
        value = λ values v. r.word values (subst (λ (i : List ℕ). AreValues i values) (sym h.inputs) v)
            ∙ ap (λ (x : Word). spelled width (pos (2 ^ shift * x.number))) (h.kept.words values a s);
      };
    }

plus_one : (z y : ℤ) → z +ℤ y ≡ z +ℤ pos 1 *ℤ y
plus_one z y = ring (env (z ∷ y ∷ [])) (plus (var 0) (var 1)) (plus (var 0) (times (num (pos 1)) (var 1))) refl

less_one : (z y : ℤ) → z -ℤ y ≡ z +ℤ neg_ℤ (pos 1) *ℤ y
less_one z y = ring (env (z ∷ y ∷ [])) (plus (var 0) (minus (var 1))) (plus (var 0) (times (minus (num (pos 1))) (var 1))) refl

same_one : (z y : ℤ) → z ≡ z +ℤ pos 0 *ℤ y
same_one z y = ring (env (z ∷ y ∷ [])) (var 0) (plus (var 0) (times (num (pos 0)) (var 1))) refl

pub digit_counts : (t : TermsView) (m : Multiple) (d : Digit) (width shift : ℕ) (a : TermId) (z : List ℕ → ℤ) → Counts t m width z → a.0 < length t.nodes → width_of t a ≡ width → shift < width
    → Counts t (with_digit d width shift a m) width (λ values. z values +ℤ digit_value d *ℤ shifted_number t a shift values)
digit_counts t m Minus width shift a z h s w l =
    let c = with_copy t m width shift a z h s w l in
    let copy = shifted_term m.terms width shift a in
    counts_as t (with_taken copy m.copies) width (λ values. z values -ℤ shifted_number t a shift values) (λ values. z values +ℤ digit_value Minus *ℤ shifted_number t a shift values)
    (taken_counts t copy m.copies width z (shifted_number t a shift) c.counts c.has) (λ values. less_one (z values) (shifted_number t a shift values))
digit_counts t m Zero width shift a z h s w l =
    counts_as t m width z (λ values. z values +ℤ digit_value Zero *ℤ shifted_number t a shift values) h (λ values. same_one (z values) (shifted_number t a shift values))
digit_counts t m Plus width shift a z h s w l =
    let c = with_copy t m width shift a z h s w l in
    let copy = shifted_term m.terms width shift a in
    counts_as t (with_added copy m.copies) width (λ values. z values +ℤ shifted_number t a shift values) (λ values. z values +ℤ digit_value Plus *ℤ shifted_number t a shift values)
    (added_counts t copy m.copies width z (shifted_number t a shift) c.counts c.has) (λ values. plus_one (z values) (shifted_number t a shift values))

-- ---- all digits
-- The copies and what is left of the number make the whole product.
pub record IsCounted (t : TermsView) (m : Multiple) (a : TermId) (coeff c : ℤ) (shift : ℕ) : Type 0 where
  pub z : List ℕ → ℤ
  pub counts : Counts t m (width_of t a) z
  pub total : (values : List ℕ) → z values +ℤ c *ℤ shifted_number t a shift values ≡ coeff *ℤ pos (word_of t values a).number

twice : (z d a y : ℤ) → z +ℤ d *ℤ y +ℤ a *ℤ (y +ℤ y) ≡ z +ℤ ((a +ℤ a) +ℤ d) *ℤ y
twice z d a y = ring (env (z ∷ d ∷ a ∷ y ∷ [])) (plus (plus (var 0) (times (var 1) (var 3))) (times (var 2) (plus (var 3) (var 3)))) (plus (var 0) (times (plus (plus (var 2) (var 2)) (var 1)) (var 3))) refl

next_number : (shift n : ℕ) → pos (2 ^ (shift + 1) * n) ≡ pos (2 ^ shift * n) +ℤ pos (2 ^ shift * n)
next_number shift n =
    let e : 2 ^ (shift + 1) ≡ 2 ^ shift * 2 = pow-add 2 shift 1 in
    let f : 2 ^ (shift + 1) * n ≡ 2 ^ shift * n + 2 ^ shift * n = rw e (omega arith) in
    ap pos f

pub counted_step : (t : TermsView) (m : Multiple) (a : TermId) (coeff c : ℤ) (shift : ℕ) → a.0 < length t.nodes → shift < width_of t a → IsCounted t m a coeff c shift
    → IsCounted t (with_digit (lowest_digit c) (width_of t a) shift a m) a coeff (above_digit c) (shift + 1)
counted_step t m a coeff c shift s l h =
    let d = digit_value (lowest_digit c) in
    record {
      z = λ values. h.z values +ℤ d *ℤ shifted_number t a shift values;
      counts = digit_counts t m (lowest_digit c) (width_of t a) shift a h.z h.counts s refl l;
      total = λ values.
          let y = shifted_number t a shift values in
          ap (λ (k : ℤ). h.z values +ℤ d *ℤ y +ℤ above_digit c *ℤ k) (next_number shift (word_of t values a).number)
          ∙ (twice (h.z values) d (above_digit c) y ∙ (ap (λ (k : ℤ). h.z values +ℤ k *ℤ y) (sym (digit_split c).is) ∙ h.total values));
    }

record IsCountedTo (t : TermsView) (m : Multiple) (a : TermId) (coeff : ℤ) (shift : ℕ) : Type 0 where
  left : ℤ
  is : IsCounted t m a coeff left shift

digits_counted : (n : ℕ) (t : TermsView) (m : Multiple) (a : TermId) (coeff c : ℤ) (shift : ℕ) → a.0 < length t.nodes → shift + n ≡ width_of t a → IsCounted t m a coeff c shift
    → IsCountedTo t (digits_from n (width_of t a) shift c a m) a coeff (width_of t a)
digits_counted zero t m a coeff c shift s e h = record { left = c; is = subst (λ (k : ℕ). IsCounted t m a coeff c k) (let q : shift ≡ width_of t a = omega arith in q) h }
digits_counted (suc n) t m a coeff c shift s e h =
    digits_counted n t (with_digit (lowest_digit c) (width_of t a) shift a m) a coeff (above_digit c) (shift + 1) s (omega arith) (counted_step t m a coeff c shift s (omega arith) h)

first_number : (n : ℕ) → pos (2 ^ 0 * n) ≡ pos n
first_number n = ap pos (omega arith)

no_copies : (coeff y : ℤ) → pos 0 +ℤ coeff *ℤ y ≡ coeff *ℤ y
no_copies coeff y = ring (env (coeff ∷ y ∷ [])) (plus (num (pos 0)) (times (var 0) (var 1))) (times (var 0) (var 1)) refl

pub counted_start : (t : TermsView) (a : TermId) (coeff : ℤ) → AreSound t → IsCounted t (record { terms = t; copies = none }) a coeff coeff 0
counted_start t a coeff s = record {
  z = λ values. pos 0;
  counts = record { sound = s; inputs = refl; kept = KeepsTerms-self t; simple = λ q. q; copies = tt; value = λ values v. refl };
  total = λ values.
      let n = (word_of t values a).number in
      ap (λ (y : ℤ). pos 0 +ℤ coeff *ℤ y) (first_number n) ∙ no_copies coeff (pos n);
}

-- ---- the sum of all copies
counts_then : (t : TermsView) (m : Multiple) (b : Built) (width : ℕ) (z : List ℕ → ℤ) (f g : List ℕ → Word) → Counts t m width z → Rewrites m.terms b width f → ((values : List ℕ) → AreValues t.inputs values → f values ≡ g values) → Rewrites t b width g
counts_then t m b width z f g h r e = record {
  adds = record { sound = r.adds.sound; inputs = r.adds.inputs ∙ h.inputs; kept = KeepsTerms-both t m.terms b.terms h.kept r.adds.kept; stands = r.adds.stands; width = r.adds.width };
  word = λ values v. r.word values (subst (λ (i : List ℕ). AreValues i values) (sym h.inputs) v) ∙ e values v;
  simple = λ q. r.simple (h.simple q);
}

negation-spelled : (width : ℕ) (z : ℤ) → negation_of (spelled width z) ≡ spelled width (neg_ℤ z)
negation-spelled width z =
    let e : product_of (neg_ℤ (pos 1)) (spelled width z) ≡ spelled width (neg_ℤ (pos 1) *ℤ z) = product-spelled width (neg_ℤ (pos 1)) z in
    let f : (y : ℤ) → neg_ℤ y ≡ neg_ℤ (pos 1) *ℤ y = λ y. ring (env (y ∷ [])) (minus (var 0)) (times (minus (num (pos 1))) (var 0)) refl in
    ap (λ (k : ℤ). spelled width k) (f (pos (residue width z))) ∙ (e ∙ ap (λ (k : ℤ). spelled width k) (sym (f z)))

copies_rewrites : (t u : TermsView) (width : ℕ) (c : Copies) (z : List ℕ → ℤ) (a : TermId) → AreSound t → a.0 < length t.nodes → width_of t a ≡ width → Counts t (record { terms = u; copies = c }) width z
    → Rewrites t (copies_term u width c) width (λ values. spelled width (z values))
copies_rewrites t u width none z a s l w h =
    let zero_word : Word = record { width = width; number = 0 } in
    counts_then t (record { terms = u; copies = none }) (constant_term u zero_word) width z (λ values. zero_word) (λ values. spelled width (z values)) h
    (constant_rewrites u zero_word h.sound (record { lawful = subst IsWidth w (stands-width t a s l); fits = pow_pos width }))
    (λ values v. ap (λ (n : ℕ). record { width = width; number = n }) (sym (ap (residue width) (h.value values v) ∙ residue-small width 0 (pow_pos width))))
copies_rewrites t u width (sum b) z a s l w h =
    counts_then t (record { terms = u; copies = sum b }) (built_of u b) width z (λ values. word_of u values b) (λ values. spelled width (z values)) h
    (kept_rewrites u b width (λ values. word_of u values b) h.sound h.copies.stands h.copies.width (λ values v. refl))
    (λ values v. h.value values v)
copies_rewrites t u width (negated_sum b) z a s l w h =
    let r = negation_rewrites u b h.sound h.copies.stands in
    let q = subst (λ (k : ℕ). Rewrites u (negation_term u b) k (λ values. negation_of (word_of u values b))) h.copies.width r in
    counts_then t (record { terms = u; copies = negated_sum b }) (negation_term u b) width z (λ values. negation_of (word_of u values b)) (λ values. spelled width (z values)) h q
    (λ values v. ap negation_of (h.value values v) ∙ (negation-spelled width (neg_ℤ (z values)) ∙ ap (spelled width) (turned (z values))))
  where
    turned : (z : ℤ) → neg_ℤ (neg_ℤ z) ≡ z
    turned z = omega (arith, ints)

whole_turns : (z c n p : ℤ) (w : ℤ) → z +ℤ c *ℤ (p *ℤ n) ≡ w → z ≡ w +ℤ neg_ℤ (c *ℤ n) *ℤ p
whole_turns z c n p w e = ring (env (z ∷ c ∷ n ∷ p ∷ [])) (var 0) (plus (plus (var 0) (times (var 1) (times (var 3) (var 2)))) (times (minus (times (var 1) (var 2))) (var 3))) refl
    ∙ ap (λ (k : ℤ). k +ℤ neg_ℤ (c *ℤ n) *ℤ p) e

pub multiple_rewrites : (t : TermsView) (coeff : ℤ) (a : TermId) → AreSound t → a.0 < length t.nodes → Rewrites t (multiple_term t coeff a) (width_of t a) (λ values. product_of coeff (word_of t values a))
unfolding multiple_term
multiple_rewrites t coeff a s l =
    let w = width_of t a in
    let m = digits_from w w 0 coeff a (record { terms = t; copies = none }) in
    let k = digits_counted w t (record { terms = t; copies = none }) a coeff coeff 0 l (omega arith) (counted_start t a coeff s) in
    let z = k.is.z in
    let r = copies_rewrites t m.terms w m.copies z a s l refl k.is.counts in
    record {
      adds = r.adds;
      word = λ values v.
          let x = known_word t values a s v l in
          let n = (word_of t values a).number in
          let turn : z values ≡ coeff *ℤ pos n +ℤ neg_ℤ (k.left *ℤ pos n) *ℤ pos (2 ^ w) = whole_turns (z values) k.left (pos n) (pos (2 ^ w)) (coeff *ℤ pos n) (k.is.total values) in
          r.word values v ∙ word_eq (spelled w (z values)) (product_of coeff (word_of t values a)) (sym x.width)
          (ap (residue w) turn ∙ (residue-turn w (coeff *ℤ pos n) (neg_ℤ (k.left *ℤ pos n)) ∙ ap (λ (j : ℕ). residue j (coeff *ℤ pos n)) (sym x.width)));
      simple = r.simple;
    }

-- ---- what the code's steps ask
-- A shifted copy of a term stands with the copies so far.
pub record CopyStands (t u : TermsView) (copy : TermId) (c : Copies) (width : ℕ) : Type 0 where
  pub sound : AreSound u
  pub stands : copy.0 < length u.nodes
  pub copies : AreCopies u c (width_of u copy)

pub copy_stands : (t u : TermsView) (copy a : TermId) (c : Copies) (width shift : ℕ) → AreSound t → a.0 < length t.nodes → width_of t a ≡ width → shift < width → AreCopies t c width → built_of u copy ≡ shifted_term t width shift a → CopyStands t u copy c width
copy_stands t u copy a c width shift s l w i h e =
    let d = Adds-built t u copy (shifted_term t width shift a) width e (shifted_rewrites t width shift a s l w i).adds in
    record { sound = d.sound; stands = d.stands; copies = subst (λ (k : ℕ). AreCopies u c k) (sym d.width) (later_copies t u c width d.kept h) }

-- What holds after so many digits.
pub record IsMultiple (t : TermsView) (a : TermId) (coeff : ℤ) (width : ℕ) (m : Multiple) (rest : ℤ) (shift : ℕ) : Type 0 where
  pub counted : IsCounted t m a coeff rest shift
  pub small : IsSmall rest
  pub more : digits_from (width - shift) width shift rest a m ≡ digits_from width width 0 coeff a (record { terms = t; copies = none })

pub multiple_start : (t : TermsView) (a : TermId) (coeff : ℤ) (width : ℕ) → AreSound t → IsSmall coeff → IsMultiple t a coeff width (record { terms = t; copies = none }) coeff 0
multiple_start t a coeff width s k =
    let e : width - 0 ≡ width = omega arith in
    record { counted = counted_start t a coeff s; small = k; more = ap (λ (n : ℕ). digits_from n width 0 coeff a (record { terms = t; copies = none })) e }

pub multiple_step : (t : TermsView) (a : TermId) (coeff : ℤ) (width : ℕ) (m now : Multiple) (rest next : ℤ) (shift : ℕ) → a.0 < length t.nodes → width ≡ width_of t a → shift < width
    → IsMultiple t a coeff width m rest shift → now ≡ with_digit (lowest_digit rest) width shift a m → next ≡ above_digit rest → IsMultiple t a coeff width now next (shift + 1)
multiple_step t a coeff width m now rest next shift s w l h e f =
    let n : width - shift ≡ suc (width - (shift + 1)) = omega arith in
    let c = counted_step t m a coeff rest shift s (omega arith) h.counted in
    let d : IsCounted t (with_digit (lowest_digit rest) width shift a m) a coeff (above_digit rest) (shift + 1) =
    subst (λ (k : ℕ). IsCounted t (with_digit (lowest_digit rest) k shift a m) a coeff (above_digit rest) (shift + 1)) (sym w) c in
    let r : IsMultiple t a coeff width (with_digit (lowest_digit rest) width shift a m) (above_digit rest) (shift + 1) = record {
      counted = d;
      small = above_small rest h.small;
      more = sym (ap (λ (k : ℕ). digits_from k width shift rest a m) n) ∙ h.more;
    } in
    subst (λ (k : ℤ). IsMultiple t a coeff width now k (shift + 1)) (sym f) (subst (λ (i : Multiple). IsMultiple t a coeff width i (above_digit rest) (shift + 1)) (sym e) r)

pub multiple_end : (t : TermsView) (a : TermId) (coeff : ℤ) (width : ℕ) (m : Multiple) (rest : ℤ) (shift : ℕ) → width ≡ width_of t a → width ≤ shift → IsMultiple t a coeff width m rest shift → copies_term m.terms width m.copies ≡ multiple_term t coeff a
unfolding multiple_term
multiple_end t a coeff width m rest shift w l h =
    let z : 0 ≡ width - shift = omega arith in
    let e : m ≡ digits_from width width 0 coeff a (record { terms = t; copies = none }) = ap (λ (k : ℕ). digits_from k width shift rest a m) z ∙ h.more in
    ap (λ (i : Multiple). copies_term i.terms width i.copies) e
    ∙ ap (λ (k : ℕ). let i = digits_from k k 0 coeff a (record { terms = t; copies = none }) in copies_term i.terms k i.copies) w
