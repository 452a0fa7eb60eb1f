-- What the rules for nodes over one or two terms say.
use Rattle.std.proofs.Common.{◌≡◌, ℕ, ◌+◌, ◌-◌, ◌^◌, ◌<◌, ◌≤◌, ◌⊎◌, Bool, true, false, inl, inr, List, Option, Some, None, refl, arith, ap, sym, subst, ◌∙◌, length, if◌then◌else◌}
use Rattle.std.specs.Prelude.{◌==◌}
use Rattle.std.proofs.lemmas.Nat.{pow_pos}
use Rattle.std.proofs.lemmas.Bool.{eqb-true}
use Rattle.dsv_term.specs.Limits.{max_width}
use Rattle.dsv_term.specs.declared.node.TermId.{TermId}
use Rattle.dsv_term.specs.declared.node.TermNode.{TermNode}
use Rattle.dsv_term.specs.declared.node.TermNode.TheVariants.{Add, Sub, Slt, Sle, Ult, Eq, And, Or, Concat, Neg, Not, Ite}
use Rattle.dsv_term.specs.declared.word.Word.{Word}
use Rattle.dsv_term.specs.Building.{Built, built_of, with_node}
use Rattle.dsv_term.specs.Growth.{AreSound}
use Rattle.dsv_term.specs.TermNode.{AreAlike}
use Rattle.dsv_term.specs.Terms.{AreValues, widths_of, width_of, word_of}
use Rattle.dsv_term.specs.TermsView.{TermsView}
use Rattle.dsv_term.specs.Word.{IsWord, bit_of, sum_of, difference_of, negation_of, signed_less_of, signed_at_most_of, less_of, same_of, and_of, or_of, complement_of, joined_of, choice_of}
use Rattle.dsv_term.proofs.Building.{stands-width, listed}
use Rattle.dsv_rewrite.specs.Constants.{constant_at, constant_term, is_zero, is_full}
use Rattle.dsv_rewrite.specs.Pairs.{by_constants, kept_or, constant_or, is_same_term, zero_like, sum_term, difference_term, signed_less_term, signed_at_most_term, less_term, same_term, known_or, end_term, and_term, or_term, joined_term, of_constant, negation_term, complement_term, choice_by, choice_term, comparison_term}
use Rattle.dsv_rewrite.specs.Simple.{IsOpen}
use Rattle.dsv_rewrite.proofs.Folding.{IsWord-sum, IsWord-difference, IsWord-signed_less, IsWord-signed_at_most, IsWord-less, IsWord-same, IsWord-and, IsWord-or, IsWord-joined, IsWord-negation, IsWord-complement}
use Rattle.dsv_rewrite.proofs.Laws.{zero_is, full_is, zero-sum, sum-zero, difference-zero, difference-self, signed_less-self, signed_at_most-self, less-self, same-self, and-self, and-flip, zero-and, full-and, or-self, or-flip, zero-or, full-or}
use Rattle.dsv_rewrite.proofs.Standing.{IsConstantTerm, constant_is, known_word, Rewrites, node_rewrites, kept_rewrites, rewrites_as, constant_rewrites}

-- Two terms that stand, of one width.
pub record ArePair (t : TermsView) (a b : TermId) : Type 0 where
  pub sound : AreSound t
  pub first : a.0 < length t.nodes
  pub second : b.0 < length t.nodes
  pub alike : width_of t a ≡ width_of t b

-- ---- by what is constant
pub pair_by : (t : TermsView) (a b : TermId) (ca cb : Option Word) (both : Word → Word → Built) (first second : Word → Built) (neither : Built) (bits : ℕ) (meaning : List ℕ → Word)
    → AreSound t → a.0 < length t.nodes → b.0 < length t.nodes → constant_at t a ≡ ca → constant_at t b ≡ cb
    → ((x y : Word) → IsConstantTerm t a x → IsConstantTerm t b y → Rewrites t (both x y) bits meaning)
    → ((x : Word) → IsConstantTerm t a x → IsOpen t b → Rewrites t (first x) bits meaning)
    → ((y : Word) → IsOpen t a → IsConstantTerm t b y → Rewrites t (second y) bits meaning)
    → (IsOpen t a → IsOpen t b → Rewrites t neither bits meaning)
    → Rewrites t (by_constants ca cb both first second neither) bits meaning
pair_by t a b (Some x) (Some y) both first second neither bits meaning s ha hb ea eb f g h k = f x y (constant_is t a x s ha ea) (constant_is t b y s hb eb)
pair_by t a b (Some x) None both first second neither bits meaning s ha hb ea eb f g h k = g x (constant_is t a x s ha ea) eb
pair_by t a b None (Some y) both first second neither bits meaning s ha hb ea eb f g h k = h y ea (constant_is t b y s hb eb)
pair_by t a b None None both first second neither bits meaning s ha hb ea eb f g h k = k ea eb

pub kept_by : (t : TermsView) (test : Bool) (kept : TermId) (node : TermNode) (bits : ℕ) (meaning : List ℕ → Word)
    → (test ≡ true → Rewrites t (built_of t kept) bits meaning) → Rewrites t (with_node t node) bits meaning → Rewrites t (kept_or t test kept node) bits meaning
kept_by t true kept node bits meaning h g = h refl
kept_by t false kept node bits meaning h g = g

pub constant_by : (t : TermsView) (test : Bool) (word : Word) (node : TermNode) (bits : ℕ) (meaning : List ℕ → Word)
    → (test ≡ true → Rewrites t (constant_term t word) bits meaning) → Rewrites t (with_node t node) bits meaning → Rewrites t (constant_or t test word node) bits meaning
constant_by t true word node bits meaning h g = h refl
constant_by t false word node bits meaning h g = g

-- the word of a function of two constants
folded : (t : TermsView) (a b : TermId) (x y : Word) (op : Word → Word → Word) (bits : ℕ) → AreSound t → IsConstantTerm t a x → IsConstantTerm t b y → IsWord (op x y) → (op x y).width ≡ bits
    → Rewrites t (constant_term t (op x y)) bits (λ values. op (word_of t values a) (word_of t values b))
folded t a b x y op bits s p q h w =
    rewrites_as t (constant_term t (op x y)) (op x y).width bits (λ values. op x y) (λ values. op (word_of t values a) (word_of t values b)) (constant_rewrites t (op x y) s h) w
    (λ values v. ap (λ (i : Word). op i y) (sym (p.word values)) ∙ ap (op (word_of t values a)) (sym (q.word values)))

alike : (t : TermsView) (a b : TermId) → ArePair t a b → AreAlike (widths_of t) a b
alike t a b p = record { first = listed t a p.first; second = listed t b p.second; same = p.alike }

equal_widths : (t : TermsView) (a b : TermId) (x y : Word) → ArePair t a b → IsConstantTerm t a x → IsConstantTerm t b y → x.width ≡ y.width
equal_widths t a b x y p q r = q.width ∙ (p.alike ∙ sym r.width)

same_id : (a b : TermId) → is_same_term a b ≡ true → a ≡ b
same_id a b e = ap (λ (k : ℕ). let j : TermId = record { 0 = k } in j) (eqb-true a.0 b.0 e)

-- ---- sums and differences
pub sum_rewrites : (t : TermsView) (a b : TermId) → ArePair t a b → Rewrites t (sum_term t a b) (width_of t a) (λ values. sum_of (word_of t values a) (word_of t values b))
sum_rewrites t a b p =
    let s = p.sound in
    let m : List ℕ → Word = λ values. sum_of (word_of t values a) (word_of t values b) in
    pair_by t a b (constant_at t a) (constant_at t b) (λ x y. constant_term t (sum_of x y)) (λ x. kept_or t (is_zero x) b (Add a b)) (λ y. kept_or t (is_zero y) a (Add a b)) (with_node t (Add a b))
    (width_of t a) m s p.first p.second refl refl
    (λ x y q r. folded t a b x y sum_of (width_of t a) s q r (IsWord-sum x y q.fits r.fits (equal_widths t a b x y p q r)) q.width)
    (λ x q o. kept_by t (is_zero x) b (Add a b) (width_of t a) m
    (λ z. kept_rewrites t b (width_of t a) m s p.second (sym p.alike) (λ values v.
    let k = known_word t values b s v p.second in
    zero-sum x (word_of t values b) (zero_is x z) (q.width ∙ (p.alike ∙ sym k.width)) k.word ∙ ap (λ (i : Word). sum_of i (word_of t values b)) (sym (q.word values))))
    (node_rewrites t (Add a b) s (alike t a b p) (inr o)))
    (λ y o r. kept_by t (is_zero y) a (Add a b) (width_of t a) m
    (λ z. kept_rewrites t a (width_of t a) m s p.first refl (λ values v.
    let k = known_word t values a s v p.first in
    sum-zero (word_of t values a) y (zero_is y z) k.word ∙ ap (sum_of (word_of t values a)) (sym (r.word values))))
    (node_rewrites t (Add a b) s (alike t a b p) (inl o)))
    (λ o q. node_rewrites t (Add a b) s (alike t a b p) (inl o))

pub difference_rewrites : (t : TermsView) (a b : TermId) → ArePair t a b → Rewrites t (difference_term t a b) (width_of t a) (λ values. difference_of (word_of t values a) (word_of t values b))
difference_rewrites t a b p =
    let s = p.sound in
    let m : List ℕ → Word = λ values. difference_of (word_of t values a) (word_of t values b) in
    let w = stands-width t a s p.first in
    pair_by t a b (constant_at t a) (constant_at t b) (λ x y. constant_term t (difference_of x y)) (λ x. with_node t (Sub a b)) (λ y. kept_or t (is_zero y) a (Sub a b)) (constant_or t (is_same_term a b) (zero_like t a) (Sub a b))
    (width_of t a) m s p.first p.second refl refl
    (λ x y q r. folded t a b x y difference_of (width_of t a) s q r (IsWord-difference x y q.fits r.fits (equal_widths t a b x y p q r)) q.width)
    (λ x q o. node_rewrites t (Sub a b) s (alike t a b p) (inr o))
    (λ y o r. kept_by t (is_zero y) a (Sub a b) (width_of t a) m
    (λ z. kept_rewrites t a (width_of t a) m s p.first refl (λ values v.
    let k = known_word t values a s v p.first in
    difference-zero (word_of t values a) y (zero_is y z) k.word ∙ ap (difference_of (word_of t values a)) (sym (r.word values))))
    (node_rewrites t (Sub a b) s (alike t a b p) (inl o)))
    (λ o q. constant_by t (is_same_term a b) (zero_like t a) (Sub a b) (width_of t a) m
    (λ z. rewrites_as t (constant_term t (zero_like t a)) (width_of t a) (width_of t a) (λ values. zero_like t a) m (constant_rewrites t (zero_like t a) s (record { lawful = w; fits = pow_pos (width_of t a) })) refl
    (λ values v. sym (ap (λ (j : TermId). difference_of (word_of t values a) (word_of t values j)) (sym (same_id a b z)) ∙ (difference-self (word_of t values a) ∙ ap (λ (k : ℕ). record { width = k; number = 0 }) (known_word t values a s v p.first).width))))
    (node_rewrites t (Sub a b) s (alike t a b p) (inl o)))

-- ---- comparisons
comparison_rewrites : (t : TermsView) (a b : TermId) (compare : Word → Word → Word) (same : Bool) (node : TermNode) → ArePair t a b
    → ((x y : Word) → IsWord x → IsWord y → x.width ≡ y.width → IsWord (compare x y)) → ((x y : Word) → (compare x y).width ≡ 1) → ((x : Word) → compare x x ≡ bit_of same)
    → ((IsOpen t a ⊎ IsOpen t b) → Rewrites t (with_node t node) 1 (λ values. compare (word_of t values a) (word_of t values b)))
    → Rewrites t (comparison_term t compare same node a b) 1 (λ values. compare (word_of t values a) (word_of t values b))
comparison_rewrites t a b compare same node p fits wide self made =
    let s = p.sound in
    let m : List ℕ → Word = λ values. compare (word_of t values a) (word_of t values b) in
    pair_by t a b (constant_at t a) (constant_at t b) (λ x y. constant_term t (compare x y)) (λ x. with_node t node) (λ y. with_node t node) (constant_or t (is_same_term a b) (bit_of same) node)
    1 m s p.first p.second refl refl
    (λ x y q r. folded t a b x y compare 1 s q r (fits x y q.fits r.fits (equal_widths t a b x y p q r)) (wide x y))
    (λ x q o. made (inr o))
    (λ y o r. made (inl o))
    (λ o q. constant_by t (is_same_term a b) (bit_of same) node 1 m
    (λ z. rewrites_as t (constant_term t (bit_of same)) 1 1 (λ values. bit_of same) m (constant_rewrites t (bit_of same) s (bit_fits same)) refl
    (λ values v. sym (ap (λ (j : TermId). compare (word_of t values a) (word_of t values j)) (sym (same_id a b z)) ∙ self (word_of t values a))))
    (made (inl o)))
  where
    bit_fits : (q : Bool) → IsWord (bit_of q)
    bit_fits true = record { lawful = record { some = omega arith; narrow = omega arith }; fits = omega arith }
    bit_fits false = record { lawful = record { some = omega arith; narrow = omega arith }; fits = omega arith }

pub signed_less_rewrites : (t : TermsView) (a b : TermId) → ArePair t a b → Rewrites t (signed_less_term t a b) 1 (λ values. signed_less_of (word_of t values a) (word_of t values b))
signed_less_rewrites t a b p = comparison_rewrites t a b signed_less_of false (Slt a b) p IsWord-signed_less (λ x y. refl) signed_less-self (λ o. node_rewrites t (Slt a b) p.sound (alike t a b p) o)

pub signed_at_most_rewrites : (t : TermsView) (a b : TermId) → ArePair t a b → Rewrites t (signed_at_most_term t a b) 1 (λ values. signed_at_most_of (word_of t values a) (word_of t values b))
signed_at_most_rewrites t a b p = comparison_rewrites t a b signed_at_most_of true (Sle a b) p IsWord-signed_at_most (λ x y. refl) signed_at_most-self (λ o. node_rewrites t (Sle a b) p.sound (alike t a b p) o)

pub less_rewrites : (t : TermsView) (a b : TermId) → ArePair t a b → Rewrites t (less_term t a b) 1 (λ values. less_of (word_of t values a) (word_of t values b))
less_rewrites t a b p = comparison_rewrites t a b less_of false (Ult a b) p IsWord-less (λ x y. refl) less-self (λ o. node_rewrites t (Ult a b) p.sound (alike t a b p) o)

pub same_rewrites : (t : TermsView) (a b : TermId) → ArePair t a b → Rewrites t (same_term t a b) 1 (λ values. same_of (word_of t values a) (word_of t values b))
same_rewrites t a b p = comparison_rewrites t a b same_of true (Eq a b) p IsWord-same (λ x y. refl) same-self (λ o. node_rewrites t (Eq a b) p.sound (alike t a b p) o)

-- ---- and, or
-- a test of a constant, and one more
with_by : (t : TermsView) (zero full : Bool) (first second : TermId) (node : TermNode) (bits : ℕ) (meaning : List ℕ → Word)
    → (zero ≡ true → Rewrites t (built_of t first) bits meaning) → (full ≡ true → Rewrites t (built_of t second) bits meaning) → Rewrites t (with_node t node) bits meaning
    → Rewrites t (known_or t (if zero then Some first else if full then Some second else None) node) bits meaning
with_by t true full first second node bits meaning h g n = h refl
with_by t false true first second node bits meaning h g n = g refl
with_by t false false first second node bits meaning h g n = n

-- a term of two, one of which is a constant, has this word
kept_first : (t : TermsView) (a b : TermId) (f : Word → Word → Word) → ArePair t a b → ((values : List ℕ) → AreValues t.inputs values → word_of t values a ≡ f (word_of t values a) (word_of t values b))
    → Rewrites t (built_of t a) (width_of t a) (λ values. f (word_of t values a) (word_of t values b))
kept_first t a b f p e = kept_rewrites t a (width_of t a) (λ values. f (word_of t values a) (word_of t values b)) p.sound p.first refl e

kept_second : (t : TermsView) (a b : TermId) (f : Word → Word → Word) → ArePair t a b → ((values : List ℕ) → AreValues t.inputs values → word_of t values b ≡ f (word_of t values a) (word_of t values b))
    → Rewrites t (built_of t b) (width_of t a) (λ values. f (word_of t values a) (word_of t values b))
kept_second t a b f p e = kept_rewrites t b (width_of t a) (λ values. f (word_of t values a) (word_of t values b)) p.sound p.second (sym p.alike) e

-- both words at given values
record AreKnown (t : TermsView) (values : List ℕ) (a b : TermId) : Type 0 where
  first : IsWord (word_of t values a)
  second : IsWord (word_of t values b)
  same : (word_of t values a).width ≡ (word_of t values b).width

both_known : (t : TermsView) (values : List ℕ) (a b : TermId) → ArePair t a b → AreValues t.inputs values → AreKnown t values a b
both_known t values a b p v =
    let k = known_word t values a p.sound v p.first in
    let l = known_word t values b p.sound v p.second in
    record { first = k.word; second = l.word; same = k.width ∙ (p.alike ∙ sym l.width) }

-- what a test of a constant says of its term's word
zero_word : (t : TermsView) (a : TermId) (x : Word) (values : List ℕ) → IsConstantTerm t a x → is_zero x ≡ true → (word_of t values a).number ≡ 0
zero_word t a x values q z = ap (λ (w : Word). w.number) (q.word values) ∙ zero_is x z

full_word : (t : TermsView) (a : TermId) (x : Word) (values : List ℕ) → IsConstantTerm t a x → is_full x ≡ true → (word_of t values a).number ≡ 2 ^ (word_of t values a).width - 1
full_word t a x values q z = subst (λ (w : Word). w.number ≡ 2 ^ w.width - 1) (sym (q.word values)) (full_is x z)

pub and_rewrites : (t : TermsView) (a b : TermId) → ArePair t a b → Rewrites t (and_term t a b) (width_of t a) (λ values. and_of (word_of t values a) (word_of t values b))
and_rewrites t a b p =
    let s = p.sound in
    let m : List ℕ → Word = λ values. and_of (word_of t values a) (word_of t values b) in
    pair_by t a b (constant_at t a) (constant_at t b) (λ x y. constant_term t (and_of x y)) (λ x. known_or t (end_term x a b) (And a b)) (λ y. known_or t (end_term y b a) (And a b)) (kept_or t (is_same_term a b) a (And a b))
    (width_of t a) m s p.first p.second refl refl
    (λ x y q r. folded t a b x y and_of (width_of t a) s q r (IsWord-and x y q.fits r.fits (equal_widths t a b x y p q r)) q.width)
    (λ x q o. with_by t (is_zero x) (is_full x) a b (And a b) (width_of t a) m
    (λ z. kept_first t a b and_of p (λ values v. zero-and (word_of t values a) (word_of t values b) (zero_word t a x values q z)))
    (λ z. kept_second t a b and_of p (λ values v. let k = both_known t values a b p v in full-and (word_of t values a) (word_of t values b) (full_word t a x values q z) k.same k.second))
    (node_rewrites t (And a b) s (alike t a b p) (inr o)))
    (λ y o r. with_by t (is_zero y) (is_full y) b a (And a b) (width_of t a) m
    (λ z. kept_second t a b and_of p (λ values v. let k = both_known t values a b p v in zero-and (word_of t values b) (word_of t values a) (zero_word t b y values r z) ∙ and-flip (word_of t values b) (word_of t values a) (sym k.same)))
    (λ z. kept_first t a b and_of p (λ values v. let k = both_known t values a b p v in full-and (word_of t values b) (word_of t values a) (full_word t b y values r z) (sym k.same) k.first ∙ and-flip (word_of t values b) (word_of t values a) (sym k.same)))
    (node_rewrites t (And a b) s (alike t a b p) (inl o)))
    (λ o q. kept_by t (is_same_term a b) a (And a b) (width_of t a) m
    (λ z. kept_first t a b and_of p (λ values v. and-self (word_of t values a) ∙ ap (λ (j : TermId). and_of (word_of t values a) (word_of t values j)) (same_id a b z)))
    (node_rewrites t (And a b) s (alike t a b p) (inl o)))

pub or_rewrites : (t : TermsView) (a b : TermId) → ArePair t a b → Rewrites t (or_term t a b) (width_of t a) (λ values. or_of (word_of t values a) (word_of t values b))
or_rewrites t a b p =
    let s = p.sound in
    let m : List ℕ → Word = λ values. or_of (word_of t values a) (word_of t values b) in
    pair_by t a b (constant_at t a) (constant_at t b) (λ x y. constant_term t (or_of x y)) (λ x. known_or t (end_term x b a) (Or a b)) (λ y. known_or t (end_term y a b) (Or a b)) (kept_or t (is_same_term a b) a (Or a b))
    (width_of t a) m s p.first p.second refl refl
    (λ x y q r. folded t a b x y or_of (width_of t a) s q r (IsWord-or x y q.fits r.fits (equal_widths t a b x y p q r)) q.width)
    (λ x q o. with_by t (is_zero x) (is_full x) b a (Or a b) (width_of t a) m
    (λ z. kept_second t a b or_of p (λ values v. let k = both_known t values a b p v in zero-or (word_of t values a) (word_of t values b) (zero_word t a x values q z) k.same))
    (λ z. kept_first t a b or_of p (λ values v. let k = both_known t values a b p v in full-or (word_of t values a) (word_of t values b) (full_word t a x values q z) k.same k.second))
    (node_rewrites t (Or a b) s (alike t a b p) (inr o)))
    (λ y o r. with_by t (is_zero y) (is_full y) a b (Or a b) (width_of t a) m
    (λ z. kept_first t a b or_of p (λ values v. let k = both_known t values a b p v in zero-or (word_of t values b) (word_of t values a) (zero_word t b y values r z) (sym k.same) ∙ or-flip (word_of t values b) (word_of t values a) (sym k.same)))
    (λ z. kept_second t a b or_of p (λ values v. let k = both_known t values a b p v in full-or (word_of t values b) (word_of t values a) (full_word t b y values r z) (sym k.same) k.first ∙ or-flip (word_of t values b) (word_of t values a) (sym k.same)))
    (node_rewrites t (Or a b) s (alike t a b p) (inl o)))
    (λ o q. kept_by t (is_same_term a b) a (Or a b) (width_of t a) m
    (λ z. kept_first t a b or_of p (λ values v. or-self (word_of t values a) ∙ ap (λ (j : TermId). or_of (word_of t values a) (word_of t values j)) (same_id a b z)))
    (node_rewrites t (Or a b) s (alike t a b p) (inl o)))

-- ---- joined terms
pub joined_rewrites : (t : TermsView) (a b : TermId) → AreSound t → a.0 < length t.nodes → b.0 < length t.nodes → width_of t a + width_of t b ≤ max_width
    → Rewrites t (joined_term t a b) (width_of t a + width_of t b) (λ values. joined_of (word_of t values a) (word_of t values b))
joined_rewrites t a b s h g n =
    let m : List ℕ → Word = λ values. joined_of (word_of t values a) (word_of t values b) in
    let made : (IsOpen t a ⊎ IsOpen t b) → Rewrites t (with_node t (Concat a b)) (width_of t a + width_of t b) m = λ o. node_rewrites t (Concat a b) s (record { first = listed t a h; second = listed t b g; narrow = n }) o in
    pair_by t a b (constant_at t a) (constant_at t b) (λ x y. constant_term t (joined_of x y)) (λ x. with_node t (Concat a b)) (λ y. with_node t (Concat a b)) (with_node t (Concat a b))
    (width_of t a + width_of t b) m s h g refl refl
    (λ x y q r. folded t a b x y joined_of (width_of t a + width_of t b) s q r (IsWord-joined x y q.fits r.fits (omega (arith, q.width, r.width))) (omega (arith, q.width, r.width)))
    (λ x q o. made (inr o))
    (λ y o r. made (inl o))
    (λ o q. made (inl o))

-- ---- one term
one_by : (t : TermsView) (a : TermId) (ca : Option Word) (value : Word → Word) (node : TermNode) → AreSound t → a.0 < length t.nodes → constant_at t a ≡ ca
    → ((x : Word) → IsWord x → IsWord (value x)) → ((x : Word) → (value x).width ≡ x.width) → (IsOpen t a → Rewrites t (with_node t node) (width_of t a) (λ values. value (word_of t values a)))
    → Rewrites t (of_constant t ca value node) (width_of t a) (λ values. value (word_of t values a))
one_by t a (Some x) value node s h e fits wide made =
    let q = constant_is t a x s h e in
    rewrites_as t (constant_term t (value x)) (value x).width (width_of t a) (λ values. value x) (λ values. value (word_of t values a)) (constant_rewrites t (value x) s (fits x q.fits)) (wide x ∙ q.width)
    (λ values v. ap value (sym (q.word values)))
one_by t a None value node s h e fits wide made = made e

pub negation_rewrites : (t : TermsView) (a : TermId) → AreSound t → a.0 < length t.nodes → Rewrites t (negation_term t a) (width_of t a) (λ values. negation_of (word_of t values a))
negation_rewrites t a s h = one_by t a (constant_at t a) negation_of (Neg a) s h refl IsWord-negation (λ x. refl) (λ o. node_rewrites t (Neg a) s (listed t a h) o)

pub complement_rewrites : (t : TermsView) (a : TermId) → AreSound t → a.0 < length t.nodes → Rewrites t (complement_term t a) (width_of t a) (λ values. complement_of (word_of t values a))
complement_rewrites t a s h = one_by t a (constant_at t a) complement_of (Not a) s h refl IsWord-complement (λ x. refl) (λ o. node_rewrites t (Not a) s (listed t a h) o)

-- ---- choices
chosen : (t : TermsView) (q : Bool) (c a b : TermId) (x : Word) → ArePair t a b → IsConstantTerm t c x → (x.number == 1) ≡ q
    → Rewrites t (if q then built_of t a else built_of t b) (width_of t a) (λ values. choice_of (word_of t values c) (word_of t values a) (word_of t values b))
chosen t true c a b x p k e =
    kept_rewrites t a (width_of t a) (λ values. choice_of (word_of t values c) (word_of t values a) (word_of t values b)) p.sound p.first refl
    (λ values v. sym (ap (λ (i : Word). choice_of i (word_of t values a) (word_of t values b)) (k.word values) ∙ ap (λ (q : Bool). if q then word_of t values a else word_of t values b) e))
chosen t false c a b x p k e =
    kept_rewrites t b (width_of t a) (λ values. choice_of (word_of t values c) (word_of t values a) (word_of t values b)) p.sound p.second (sym p.alike)
    (λ values v. sym (ap (λ (i : Word). choice_of i (word_of t values a) (word_of t values b)) (k.word values) ∙ ap (λ (q : Bool). if q then word_of t values a else word_of t values b) e))

either : (c a : Word) → a ≡ choice_of c a a
either c a = by (c.number == 1)
  where
    by : (q : Bool) → a ≡ (if q then a else a)
    by true = refl
    by false = refl

choice_rewrites_by : (t : TermsView) (cc_ : Option Word) (c a b : TermId) → ArePair t a b → c.0 < length t.nodes → width_of t c ≡ 1 → constant_at t c ≡ cc_
    → Rewrites t (choice_by t cc_ c a b) (width_of t a) (λ values. choice_of (word_of t values c) (word_of t values a) (word_of t values b))
choice_rewrites_by t (Some x) c a b p h w e = chosen t (x.number == 1) c a b x p (constant_is t c x p.sound h e) refl
choice_rewrites_by t None c a b p h w e =
    let m : List ℕ → Word = λ values. choice_of (word_of t values c) (word_of t values a) (word_of t values b) in
    kept_by t (is_same_term a b) a (Ite c a b) (width_of t a) m
    (λ z. kept_rewrites t a (width_of t a) m p.sound p.first refl (λ values v. either (word_of t values c) (word_of t values a) ∙ ap (λ (j : TermId). choice_of (word_of t values c) (word_of t values a) (word_of t values j)) (same_id a b z)))
    (node_rewrites t (Ite c a b) p.sound (record { stands = listed t c h; bit = w; alike = alike t a b p }) (inl e))

pub choice_rewrites : (t : TermsView) (c a b : TermId) → ArePair t a b → c.0 < length t.nodes → width_of t c ≡ 1
    → Rewrites t (choice_term t c a b) (width_of t a) (λ values. choice_of (word_of t values c) (word_of t values a) (word_of t values b))
choice_rewrites t c a b p h w = choice_rewrites_by t (constant_at t c) c a b p h w refl
