-- One pass over the nodes of a goal.
use Rattle.std.proofs.Common.{◌≡◌, ℕ, ◌+◌, ◌-◌, ◌<◌, ◌≤◌, inl, inr, List, [], ◌∷◌, ◌++◌, Option, Some, None, refl, arith, ap, sym, subst, ◌∙◌, length, slice_index, slice_get, drop}
use Rattle.std.proofs.Math.IntN.{ℤ}
use Rattle.std.proofs.lemmas.List.{drop_more, length_push, get_or_push, get_or_append_left}
use Rattle.std.proofs.lemmas.Bool.{cases_lt}
use Rattle.dsv_term.specs.Limits.{max_width}
use Rattle.dsv_term.specs.declared.node.TermId.{TermId}
use Rattle.dsv_term.specs.declared.node.TermNode.{TermNode}
use Rattle.dsv_term.specs.declared.node.TermNode.TheVariants.{Input, Constant, Add, Sub, Slt, Sle, Ult, Eq, And, Or, Concat, Neg, Not, MulConst, Sext, Extract, Ite}
use Rattle.dsv_term.specs.declared.word.Word.{Word}
use Rattle.dsv_term.specs.Building.{Built, built_of, with_node}
use Rattle.dsv_term.specs.Growth.{AreSound}
use Rattle.dsv_term.specs.TermNode.{AreAlike}
use Rattle.dsv_term.specs.Terms.{AreValues, KeepsTerms, AreTerms, width_of, word_of}
use Rattle.dsv_term.specs.TermsView.{TermsView}
use Rattle.dsv_term.specs.Word.{sum_of, difference_of, negation_of, product_of, signed_less_of, signed_at_most_of, less_of, same_of, and_of, or_of, complement_of, joined_of, extended_of, extract_of, choice_of}
use Rattle.dsv_term.proofs.Building.{AreTerms-sound, stands-width}
use Rattle.dsv_rewrite.specs.Constants.{constant_at, constant_term}
use Rattle.dsv_rewrite.specs.Pairs.{sum_term, difference_term, negation_term, complement_term, signed_less_term, signed_at_most_term, less_term, same_term, and_term, or_term, joined_term, choice_term}
use Rattle.dsv_rewrite.specs.Ready.{IsReady, IsReadyTerm, AreReadyTerms}
use Rattle.dsv_rewrite.specs.Rules.{product_by, extension_term, extract_term, term_of, rewritten, Rewritten, rewritten_from}
use Rattle.dsv_rewrite.specs.Simple.{AreSimple}
use Rattle.dsv_rewrite.proofs.Extracts.{extended-same, extract-all}
use Rattle.dsv_rewrite.proofs.Folding.{IsWord-product, IsWord-extract}
use Rattle.dsv_rewrite.proofs.MultipleRules.{multiple_rewrites}
use Rattle.dsv_rewrite.proofs.PairRules.{ArePair, sum_rewrites, difference_rewrites, signed_less_rewrites, signed_at_most_rewrites, less_rewrites, same_rewrites, and_rewrites, or_rewrites, joined_rewrites, negation_rewrites, complement_rewrites, choice_rewrites}
use Rattle.dsv_rewrite.proofs.PartRules.{part_rewrites}
use Rattle.dsv_rewrite.proofs.Standing.{IsMadeOf, node_at-is, node_made, known_word, constant_is, Rewrites, node_rewrites, kept_rewrites, rewrites_as, constant_rewrites}

-- ---- products, extensions and extracts of whole terms
product_by_rewrites : (t : TermsView) (a : TermId) (ca : Option Word) (coeff : ℤ) → AreSound t → a.0 < length t.nodes → constant_at t a ≡ ca → Rewrites t (product_by t ca coeff a) (width_of t a) (λ values. product_of coeff (word_of t values a))
product_by_rewrites t a (Some x) coeff s h e =
    let q = constant_is t a x s h e in
    rewrites_as t (constant_term t (product_of coeff x)) x.width (width_of t a) (λ values. product_of coeff x) (λ values. product_of coeff (word_of t values a)) (constant_rewrites t (product_of coeff x) s (IsWord-product coeff x q.fits)) q.width
    (λ values v. ap (product_of coeff) (sym (q.word values)))
product_by_rewrites t a None coeff s h e = multiple_rewrites t coeff a s h

extension_rewrites : (t : TermsView) (a : TermId) (width : ℕ) → AreSound t → a.0 < length t.nodes → width_of t a ≤ width → width ≤ max_width → Rewrites t (extension_term t a width) width (λ values. extended_of width (word_of t values a))
extension_rewrites t a width s h w n =
    let some = (stands-width t a s h).some in
    let high = width_of t a - 1 in
    rewrites_as t (extension_term t a width) width width (λ values. extended_of width (extract_of high 0 (word_of t values a))) (λ values. extended_of width (word_of t values a))
    (part_rewrites t width (record { of = a; high = high; low = 0 }) s (record { stands = h; order = omega arith; inside = omega arith }) (omega arith) n) refl
    (λ values v.
    let k = known_word t values a s v h in
    let x = word_of t values a in
    let e : x.width - 1 ≡ high = ap (λ (i : ℕ). i - 1) k.width in
    ap (extended_of width) (sym (extract-all x k.word ∙ ap (λ (i : ℕ). extract_of i 0 x) e)))

extract_rewrites : (t : TermsView) (a : TermId) (high low : ℕ) → AreSound t → a.0 < length t.nodes → low ≤ high → high < width_of t a → Rewrites t (extract_term t a high low) (high + 1 - low) (λ values. extract_of high low (word_of t values a))
extract_rewrites t a high low s h o i =
    let width = high + 1 - low in
    let narrow = (stands-width t a s h).narrow in
    rewrites_as t (extract_term t a high low) width width (λ values. extended_of width (extract_of high low (word_of t values a))) (λ values. extract_of high low (word_of t values a))
    (part_rewrites t width (record { of = a; high = high; low = low }) s (record { stands = h; order = o; inside = i }) (omega arith) (omega arith)) refl
    (λ values v.
    let k = known_word t values a s v h in
    extended-same (extract_of high low (word_of t values a)) (IsWord-extract high low (word_of t values a) k.word o (omega (arith, k.width))))

-- ---- what a node became
-- A term that became another: as wide, and the same word for all values of the inputs.
pub record IsSame (old t : TermsView) (a b : TermId) : Type 0 where
  pub stands : b.0 < length t.nodes
  pub width : width_of t b ≡ width_of old a
  pub word : (values : List ℕ) → AreValues old.inputs values → word_of t values b ≡ word_of old values a

-- The term of an input.
pub record IsInputTerm (inputs : List ℕ) (t : TermsView) (id : TermId) : Type 0 where
  pub stands : id.0 < length t.nodes
  pub width : width_of t id ≡ slice_index inputs id.0
  pub word : (values : List ℕ) → word_of t values id ≡ record { width = slice_index inputs id.0; number = slice_index values id.0 }

-- What holds after so many nodes.
pub record IsPass (old : TermsView) (i : ℕ) (t : TermsView) (ids : List TermId) : Type 0 where
  pub sound : AreSound t
  pub simple : AreSimple t
  pub inputs : t.inputs ≡ old.inputs
  pub starts : (id : TermId) → id.0 < length old.inputs → IsInputTerm old.inputs t id
  pub count : length ids ≡ i
  pub same : (a : TermId) → a.0 < i → IsSame old t a (term_of ids a)

pub ready_term : (old : TermsView) (i : ℕ) (t : TermsView) (ids : List TermId) (a : TermId) → IsPass old i t ids → a.0 < i → IsReadyTerm t ids a
ready_term old i t ids a p l = record { known = (let c = p.count in omega arith); stands = (p.same a l).stands }

-- two nodes of one width
alike_before : (old : TermsView) (i : ℕ) (t : TermsView) (ids earlier : List ℕ) (js : List TermId) (a b : TermId) → length earlier ≡ i → ((a : TermId) → a.0 < i → slice_index earlier a.0 ≡ width_of old a) → AreAlike earlier a b → IsPass old i t js → AreReadyTerms t js a b
alike_before old i t ids earlier js a b c e l p =
    let fa : a.0 < i = omega (arith, l.first) in
    let fb : b.0 < i = omega (arith, l.second) in
    record {
      first = ready_term old i t js a p fa;
      second = ready_term old i t js b p fb;
      alike = (p.same a fa).width ∙ (sym (e a fa) ∙ (l.same ∙ (e b fb ∙ sym (p.same b fb).width)));
    }

ready_by : (old : TermsView) (id : TermId) (t : TermsView) (ids : List TermId) (n : TermNode) → IsPass old id.0 t ids → IsMadeOf old id n → IsReady t ids n
ready_by old id t ids (Input k) p m = tt
ready_by old id t ids (Constant w v) p m = m.lawful
ready_by old id t ids (Add a b) p m = alike_before old id.0 t [] m.earlier ids a b m.count m.same m.lawful p
ready_by old id t ids (Sub a b) p m = alike_before old id.0 t [] m.earlier ids a b m.count m.same m.lawful p
ready_by old id t ids (Slt a b) p m = alike_before old id.0 t [] m.earlier ids a b m.count m.same m.lawful p
ready_by old id t ids (Sle a b) p m = alike_before old id.0 t [] m.earlier ids a b m.count m.same m.lawful p
ready_by old id t ids (Ult a b) p m = alike_before old id.0 t [] m.earlier ids a b m.count m.same m.lawful p
ready_by old id t ids (Eq a b) p m = alike_before old id.0 t [] m.earlier ids a b m.count m.same m.lawful p
ready_by old id t ids (And a b) p m = alike_before old id.0 t [] m.earlier ids a b m.count m.same m.lawful p
ready_by old id t ids (Or a b) p m = alike_before old id.0 t [] m.earlier ids a b m.count m.same m.lawful p
ready_by old id t ids (Concat a b) p m =
    let l = m.lawful in
    let c = m.count in
    let fa : a.0 < id.0 = omega (arith, l.first) in
    let fb : b.0 < id.0 = omega (arith, l.second) in
    record {
      first = ready_term old id.0 t ids a p fa;
      second = ready_term old id.0 t ids b p fb;
      narrow = omega (arith, (p.same a fa).width, (p.same b fb).width, m.same a fa, m.same b fb, l.narrow);
    }
ready_by old id t ids (Neg a) p m = ready_term old id.0 t ids a p (let c = m.count in omega (arith, m.lawful))
ready_by old id t ids (Not a) p m = ready_term old id.0 t ids a p (let c = m.count in omega (arith, m.lawful))
ready_by old id t ids (MulConst a k) p m = ready_term old id.0 t ids a p (let c = m.count in omega (arith, m.lawful))
ready_by old id t ids (Sext a w) p m =
    let l = m.lawful in
    let c = m.count in
    let fa : a.0 < id.0 = omega (arith, l.stands) in
    record { term = ready_term old id.0 t ids a p fa; wider = omega (arith, (p.same a fa).width, m.same a fa, l.wider); narrow = l.narrow }
ready_by old id t ids (Extract a high low) p m =
    let l = m.lawful in
    let c = m.count in
    let fa : a.0 < id.0 = omega (arith, l.stands) in
    record { term = ready_term old id.0 t ids a p fa; order = l.order; inside = omega (arith, (p.same a fa).width, m.same a fa, l.inside) }
ready_by old id t ids (Ite c a b) p m =
    let l = m.lawful in
    let k = m.count in
    let fc : c.0 < id.0 = omega (arith, l.stands) in
    record {
      condition = ready_term old id.0 t ids c p fc;
      bit = (p.same c fc).width ∙ (sym (m.same c fc) ∙ l.bit);
      terms = alike_before old id.0 t [] m.earlier ids a b m.count m.same l.alike p;
    }

pub node_ready : (old : TermsView) (i : ℕ) (t : TermsView) (ids : List TermId) (n : TermNode) → AreTerms old → i < length old.nodes → slice_get old.nodes i ≡ Some n → IsPass old i t ids → IsReady t ids n
node_ready old i t ids n h l e p =
    let id : TermId = record { 0 = i } in
    ready_by old id t ids n p (node_made old id n (AreTerms-sound old h) l e)

-- ---- the term of a node
-- a rule for two terms
two_then : (old : TermsView) (id : TermId) (t : TermsView) (ids : List TermId) (a b : TermId) (f : Word → Word → Word) (n : TermNode) (r : Built) (bits : ℕ) → IsPass old id.0 t ids → IsMadeOf old id n → a.0 < id.0 → b.0 < id.0
    → Rewrites t r bits (λ values. f (word_of t values (term_of ids a)) (word_of t values (term_of ids b))) → bits ≡ width_of old id
    → ((values : List ℕ) → word_of old values id ≡ f (word_of old values a) (word_of old values b)) → Rewrites t r (width_of old id) (λ values. word_of old values id)
two_then old id t ids a b f n r bits p m la lb rule w e =
    rewrites_as t r bits (width_of old id) (λ values. f (word_of t values (term_of ids a)) (word_of t values (term_of ids b))) (λ values. word_of old values id) rule w
    (λ values v.
    let u = subst (λ (i : List ℕ). AreValues i values) p.inputs v in
    ap (λ (i : Word). f i (word_of t values (term_of ids b))) ((p.same a la).word values u) ∙ (ap (f (word_of old values a)) ((p.same b lb).word values u) ∙ sym (e values)))

one_then : (old : TermsView) (id : TermId) (t : TermsView) (ids : List TermId) (a : TermId) (f : Word → Word) (r : Built) (bits : ℕ) → IsPass old id.0 t ids → a.0 < id.0
    → Rewrites t r bits (λ values. f (word_of t values (term_of ids a))) → bits ≡ width_of old id
    → ((values : List ℕ) → word_of old values id ≡ f (word_of old values a)) → Rewrites t r (width_of old id) (λ values. word_of old values id)
one_then old id t ids a f r bits p la rule w e =
    rewrites_as t r bits (width_of old id) (λ values. f (word_of t values (term_of ids a))) (λ values. word_of old values id) rule w
    (λ values v. ap f ((p.same a la).word values (subst (λ (i : List ℕ). AreValues i values) p.inputs v)) ∙ sym (e values))

pair_of : (t : TermsView) (ids : List TermId) (a b : TermId) → AreSound t → AreReadyTerms t ids a b → ArePair t (term_of ids a) (term_of ids b)
pair_of t ids a b s r = record { sound = s; first = r.first.stands; second = r.second.stands; alike = r.alike }

-- a rule for two terms that gives a term of their width, and one that gives a bit
alike_then : (old : TermsView) (id : TermId) (t : TermsView) (ids : List TermId) (a b : TermId) (f : Word → Word → Word) (n : TermNode) (r : Built) → IsPass old id.0 t ids → (m : IsMadeOf old id n) → AreAlike m.earlier a b → width_of old id ≡ width_of old a
    → ((values : List ℕ) → word_of old values id ≡ f (word_of old values a) (word_of old values b))
    → (ArePair t (term_of ids a) (term_of ids b) → Rewrites t r (width_of t (term_of ids a)) (λ values. f (word_of t values (term_of ids a)) (word_of t values (term_of ids b))))
    → Rewrites t r (width_of old id) (λ values. word_of old values id)
alike_then old id t ids a b f n r p m l w e rule =
    let c = m.count in
    let fa : a.0 < id.0 = omega (arith, l.first) in
    let fb : b.0 < id.0 = omega (arith, l.second) in
    let k = alike_before old id.0 t [] m.earlier ids a b m.count m.same l p in
    two_then old id t ids a b f n r (width_of t (term_of ids a)) p m fa fb (rule (pair_of t ids a b p.sound k)) ((p.same a fa).width ∙ sym w) e

bit_then : (old : TermsView) (id : TermId) (t : TermsView) (ids : List TermId) (a b : TermId) (f : Word → Word → Word) (n : TermNode) (r : Built) → IsPass old id.0 t ids → (m : IsMadeOf old id n) → AreAlike m.earlier a b → width_of old id ≡ 1
    → ((values : List ℕ) → word_of old values id ≡ f (word_of old values a) (word_of old values b))
    → (ArePair t (term_of ids a) (term_of ids b) → Rewrites t r 1 (λ values. f (word_of t values (term_of ids a)) (word_of t values (term_of ids b))))
    → Rewrites t r (width_of old id) (λ values. word_of old values id)
bit_then old id t ids a b f n r p m l w e rule =
    let c = m.count in
    let fa : a.0 < id.0 = omega (arith, l.first) in
    let fb : b.0 < id.0 = omega (arith, l.second) in
    let k = alike_before old id.0 t [] m.earlier ids a b m.count m.same l p in
    two_then old id t ids a b f n r 1 p m fa fb (rule (pair_of t ids a b p.sound k)) (sym w) e

choice_then : (old : TermsView) (id : TermId) (t : TermsView) (ids : List TermId) (c a b : TermId) → IsPass old id.0 t ids → IsMadeOf old id (Ite c a b) → Rewrites t (choice_term t (term_of ids c) (term_of ids a) (term_of ids b)) (width_of old id) (λ values. word_of old values id)
choice_then old id t ids c a b p m =
    let l = m.lawful in
    let k = m.count in
    let fc : c.0 < id.0 = omega (arith, l.stands) in
    let fa : a.0 < id.0 = omega (arith, l.alike.first) in
    let fb : b.0 < id.0 = omega (arith, l.alike.second) in
    let r = ready_by old id t ids (Ite c a b) p m in
    let c2 = term_of ids c in
    let a2 = term_of ids a in
    let b2 = term_of ids b in
    rewrites_as t (choice_term t c2 a2 b2) (width_of t a2) (width_of old id) (λ values. choice_of (word_of t values c2) (word_of t values a2) (word_of t values b2)) (λ values. word_of old values id)
    (choice_rewrites t c2 a2 b2 (pair_of t ids a b p.sound r.terms) r.condition.stands r.bit) ((p.same a fa).width ∙ sym m.width)
    (λ values v.
    let u = subst (λ (i : List ℕ). AreValues i values) p.inputs v in
    ap (λ (i : Word). choice_of i (word_of t values a2) (word_of t values b2)) ((p.same c fc).word values u)
    ∙ (ap (λ (i : Word). choice_of (word_of old values c) i (word_of t values b2)) ((p.same a fa).word values u)
    ∙ (ap (choice_of (word_of old values c) (word_of old values a)) ((p.same b fb).word values u) ∙ sym (m.word values))))

node_rewritten : (old : TermsView) (id : TermId) (t : TermsView) (ids : List TermId) (n : TermNode) → IsPass old id.0 t ids → IsMadeOf old id n → Rewrites t (rewritten t ids n) (width_of old id) (λ values. word_of old values id)
node_rewritten old id t ids (Input k) p m =
    let j : TermId = record { 0 = k } in
    let q = p.starts j m.lawful in
    kept_rewrites t j (width_of old id) (λ values. word_of old values id) p.sound q.stands (q.width ∙ sym m.width) (λ values v. q.word values ∙ sym (m.word values))
node_rewritten old id t ids (Constant w x) p m =
    rewrites_as t (with_node t (Constant w x)) w (width_of old id) (λ values. record { width = w; number = x }) (λ values. word_of old values id) (node_rewrites t (Constant w x) p.sound m.lawful tt) (sym m.width) (λ values v. sym (m.word values))
node_rewritten old id t ids (Add a b) p m = alike_then old id t ids a b sum_of (Add a b) (sum_term t (term_of ids a) (term_of ids b)) p m m.lawful m.width m.word (sum_rewrites t (term_of ids a) (term_of ids b))
node_rewritten old id t ids (Sub a b) p m = alike_then old id t ids a b difference_of (Sub a b) (difference_term t (term_of ids a) (term_of ids b)) p m m.lawful m.width m.word (difference_rewrites t (term_of ids a) (term_of ids b))
node_rewritten old id t ids (Slt a b) p m = bit_then old id t ids a b signed_less_of (Slt a b) (signed_less_term t (term_of ids a) (term_of ids b)) p m m.lawful m.width m.word (signed_less_rewrites t (term_of ids a) (term_of ids b))
node_rewritten old id t ids (Sle a b) p m = bit_then old id t ids a b signed_at_most_of (Sle a b) (signed_at_most_term t (term_of ids a) (term_of ids b)) p m m.lawful m.width m.word (signed_at_most_rewrites t (term_of ids a) (term_of ids b))
node_rewritten old id t ids (Ult a b) p m = bit_then old id t ids a b less_of (Ult a b) (less_term t (term_of ids a) (term_of ids b)) p m m.lawful m.width m.word (less_rewrites t (term_of ids a) (term_of ids b))
node_rewritten old id t ids (Eq a b) p m = bit_then old id t ids a b same_of (Eq a b) (same_term t (term_of ids a) (term_of ids b)) p m m.lawful m.width m.word (same_rewrites t (term_of ids a) (term_of ids b))
node_rewritten old id t ids (And a b) p m = alike_then old id t ids a b and_of (And a b) (and_term t (term_of ids a) (term_of ids b)) p m m.lawful m.width m.word (and_rewrites t (term_of ids a) (term_of ids b))
node_rewritten old id t ids (Or a b) p m = alike_then old id t ids a b or_of (Or a b) (or_term t (term_of ids a) (term_of ids b)) p m m.lawful m.width m.word (or_rewrites t (term_of ids a) (term_of ids b))
node_rewritten old id t ids (Concat a b) p m =
    let l = m.lawful in
    let c = m.count in
    let fa : a.0 < id.0 = omega (arith, l.first) in
    let fb : b.0 < id.0 = omega (arith, l.second) in
    let r = ready_by old id t ids (Concat a b) p m in
    two_then old id t ids a b joined_of (Concat a b) (joined_term t (term_of ids a) (term_of ids b)) (width_of t (term_of ids a) + width_of t (term_of ids b)) p m fa fb
    (joined_rewrites t (term_of ids a) (term_of ids b) p.sound r.first.stands r.second.stands r.narrow) (omega (arith, (p.same a fa).width, (p.same b fb).width, m.width)) m.word
node_rewritten old id t ids (Neg a) p m =
    let c = m.count in
    let fa : a.0 < id.0 = omega (arith, m.lawful) in
    one_then old id t ids a negation_of (negation_term t (term_of ids a)) (width_of t (term_of ids a)) p fa (negation_rewrites t (term_of ids a) p.sound (p.same a fa).stands) ((p.same a fa).width ∙ sym m.width) m.word
node_rewritten old id t ids (Not a) p m =
    let c = m.count in
    let fa : a.0 < id.0 = omega (arith, m.lawful) in
    one_then old id t ids a complement_of (complement_term t (term_of ids a)) (width_of t (term_of ids a)) p fa (complement_rewrites t (term_of ids a) p.sound (p.same a fa).stands) ((p.same a fa).width ∙ sym m.width) m.word
node_rewritten old id t ids (MulConst a k) p m =
    let c = m.count in
    let fa : a.0 < id.0 = omega (arith, m.lawful) in
    let a2 = term_of ids a in
    one_then old id t ids a (product_of k) (product_by t (constant_at t a2) k a2) (width_of t a2) p fa (product_by_rewrites t a2 (constant_at t a2) k p.sound (p.same a fa).stands refl) ((p.same a fa).width ∙ sym m.width) m.word
node_rewritten old id t ids (Sext a w) p m =
    let c = m.count in
    let fa : a.0 < id.0 = omega (arith, m.lawful.stands) in
    let r = ready_by old id t ids (Sext a w) p m in
    one_then old id t ids a (extended_of w) (extension_term t (term_of ids a) w) w p fa (extension_rewrites t (term_of ids a) w p.sound (p.same a fa).stands r.wider r.narrow) (sym m.width) m.word
node_rewritten old id t ids (Extract a high low) p m =
    let c = m.count in
    let fa : a.0 < id.0 = omega (arith, m.lawful.stands) in
    let r = ready_by old id t ids (Extract a high low) p m in
    one_then old id t ids a (extract_of high low) (extract_term t (term_of ids a) high low) (high + 1 - low) p fa (extract_rewrites t (term_of ids a) high low p.sound (p.same a fa).stands r.order r.inside) (sym m.width) m.word
node_rewritten old id t ids (Ite c a b) p m = choice_then old id t ids c a b p m

-- ---- one node more
same_later : (old t u : TermsView) (a b : TermId) → KeepsTerms t u → IsSame old t a b → IsSame old u a b
same_later old t u a b k h = record { stands = k.longer b h.stands; width = k.widths b h.stands ∙ h.width; word = λ values v. k.words values b h.stands ∙ h.word values v }

input_later : (inputs : List ℕ) (t u : TermsView) (id : TermId) → KeepsTerms t u → IsInputTerm inputs t id → IsInputTerm inputs u id
input_later inputs t u id k h = record { stands = k.longer id h.stands; width = k.widths id h.stands ∙ h.width; word = λ values. k.words values id h.stands ∙ h.word values }

pass_with : (old : TermsView) (i : ℕ) (t : TermsView) (ids : List TermId) (b : Built) → IsPass old i t ids → Rewrites t b (width_of old (record { 0 = i })) (λ values. word_of old values (record { 0 = i })) → IsPass old (i + 1) b.terms (ids ++ b.id ∷ [])
pass_with old i t ids b p r =
    let c = p.count in
    record {
      sound = r.adds.sound;
      simple = r.simple p.simple;
      inputs = r.adds.inputs ∙ p.inputs;
      starts = λ id l. input_later old.inputs t b.terms id r.adds.kept (p.starts id l);
      count = length_push ids b.id ∙ ap (λ (k : ℕ). k + 1) c;
      same = λ a l. elim (cases_lt a.0 i) [
        | inl less ↦
            let e : term_of (ids ++ b.id ∷ []) a ≡ term_of ids a = get_or_append_left ids (b.id ∷ []) (record { 0 = 0 }) a.0 (omega arith) in
            subst (λ (j : TermId). IsSame old b.terms a j) (sym e) (same_later old t b.terms a (term_of ids a) r.adds.kept (p.same a less))
        | inr more ↦
            let z : i ≡ a.0 = omega arith in
            let e : term_of (ids ++ b.id ∷ []) a ≡ b.id = get_or_push ids b.id (record { 0 = 0 }) a.0 (omega arith) in
            let s : IsSame old b.terms (record { 0 = i }) b.id = record { stands = r.adds.stands; width = r.adds.width; word = λ values v. r.word values (subst (λ (j : List ℕ). AreValues j values) (sym p.inputs) v) } in
            subst (λ (j : TermId). IsSame old b.terms a j) (sym e) (subst (λ (k : ℕ). IsSame old b.terms (record { 0 = k }) b.id) z s)
      ];
    }

pub record IsNextPass (old : TermsView) (i : ℕ) (u : TermsView) (now : List TermId) (start : Rewritten) : Type 0 where
  pub pass : IsPass old i u now
  pub rest : rewritten_from (drop i old.nodes) (record { terms = u; ids = now }) ≡ start

pub pass_step : (old : TermsView) (i : ℕ) (t u : TermsView) (ids seen now : List TermId) (id : TermId) (n : TermNode) (start : Rewritten) → AreTerms old → i < length old.nodes → slice_get old.nodes i ≡ Some n
    → IsNextPass old i t ids start → seen ≡ ids → built_of u id ≡ rewritten t seen n → now ≡ ids ++ id ∷ [] → IsNextPass old (i + 1) u now start
pass_step old i t u ids seen now id n start h l e p g b q =
    let place : TermId = record { 0 = i } in
    let m = node_made old place n (AreTerms-sound old h) l e in
    let b2 : built_of u id ≡ rewritten t ids n = b ∙ ap (λ (js : List TermId). rewritten t js n) g in
    let r = subst (λ (i : Built). Rewrites t i (width_of old place) (λ values. word_of old values place)) (sym b2) (node_rewritten old place t ids n p.pass m) in
    let next = pass_with old i t ids (built_of u id) p.pass r in
    let d : drop i old.nodes ≡ n ∷ drop (i + 1) old.nodes = drop_more old.nodes i (Input 0) l ∙ ap (λ (k : TermNode). k ∷ drop (i + 1) old.nodes) (node_at-is old place n e) in
    let same : rewritten_from (n ∷ drop (i + 1) old.nodes) (record { terms = t; ids = ids }) ≡ start = ap (λ (ns : List TermNode). rewritten_from ns (record { terms = t; ids = ids })) (sym d) ∙ p.rest in
    record {
      pass = subst (λ (js : List TermId). IsPass old (i + 1) u js) (sym q) next;
      rest = ap (λ (js : List TermId). rewritten_from (drop (i + 1) old.nodes) (record { terms = u; ids = js })) q
          ∙ (ap (λ (k : Built). rewritten_from (drop (i + 1) old.nodes) (record { terms = k.terms; ids = ids ++ k.id ∷ [] })) b2 ∙ same);
    }
