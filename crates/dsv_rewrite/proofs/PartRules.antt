-- What the rules for bits of terms say.
use Rattle.std.proofs.Common.{◌≡◌, ℕ, zero, suc, ◌+◌, ◌-◌, ◌<◌, ◌≤◌, Bool, true, false, List, Option, Some, None, refl, arith, ap, sym, subst, ◌∙◌, length, min, if◌then◌else◌, ◌&&◌}
use Rattle.std.specs.Prelude.{◌==◌, nat_lt, nat_le, unwrap_or}
use Rattle.std.proofs.lemmas.Bool.{eqb-true}
use Rattle.std.proofs.lemmas.Bool.Decides.{nat_tests}
use Rattle.dsv_term.specs.Limits.{max_width}
use Rattle.dsv_term.specs.declared.node.TermId.{TermId}
use Rattle.dsv_term.specs.declared.node.TermNode.{TermNode}
use Rattle.dsv_term.specs.declared.node.TermNode.TheVariants.{Concat, Sext, Extract}
use Rattle.dsv_term.specs.declared.word.Word.{Word}
use Rattle.dsv_term.specs.Building.{Built, built_of, with_node}
use Rattle.dsv_term.specs.Growth.{AreSound}
use Rattle.dsv_term.specs.Terms.{AreValues, width_of, word_of}
use Rattle.dsv_term.specs.TermsView.{TermsView}
use Rattle.dsv_term.specs.Word.{extended_of, extract_of}
use Rattle.dsv_term.proofs.Building.{stands-width, listed}
use Rattle.dsv_rewrite.specs.declared.part.Part.{Part}
use Rattle.dsv_rewrite.specs.Constants.{node_at, constant_of, constant_at, constant_term}
use Rattle.dsv_rewrite.specs.Parts.{inside_extract, inside_extension, inner_part, or_inside, innermost_part, bits_term, extended_bits, part_of_constant, part_term}
use Rattle.dsv_rewrite.specs.Ready.{IsPart}
use Rattle.dsv_rewrite.specs.Simple.{IsOpen}
use Rattle.dsv_rewrite.proofs.Extracts.{extract-extract, extract-lower, extract-upper, extract-extended, extended-same, extract-all}
use Rattle.dsv_rewrite.proofs.Folding.{IsWord-extended, IsWord-extract}
use Rattle.dsv_rewrite.proofs.Standing.{IsMadeOf, made_of, constant_is, known_word, Rewrites, node_rewrites, kept_rewrites, rewrites_as, rewrites_then, constant_rewrites, node_at-made}

-- ---- bits of a term inside
-- Other bits, of a term that stands, that are the same at every width.
pub record SamePart (t : TermsView) (p q : Part) : Type 0 where
  pub part : IsPart t q
  pub fewer : q.high + p.low ≤ p.high + q.low
  pub word : (values : List ℕ) (width : ℕ) → AreValues t.inputs values → extended_of width (extract_of q.high q.low (word_of t values q.of)) ≡ extended_of width (extract_of p.high p.low (word_of t values p.of))

part_from : (q : Part) (o : Option Part) → o ≡ Some q → unwrap_or o q ≡ q
part_from q o e = ap (λ (i : Option Part). unwrap_or i q) e

extract_same : (t : TermsView) (p : Part) (a : TermId) (high low : ℕ) → AreSound t → IsPart t p → IsMadeOf t p.of (Extract a high low) → SamePart t p (inside_extract a low p)
extract_same t p a high low s h m =
    let l = m.lawful in
    let c = m.count in
    let before : a.0 < p.of.0 = omega (arith, l.stands) in
    let w : high < width_of t a = let e = m.same a before in omega (arith, l.inside) in
    let i : p.high < high + 1 - low = let e = m.width in omega (arith, h.inside) in
    record {
      part = record { stands = omega (arith, h.stands); order = omega (arith, h.order); inside = omega (arith, l.order) };
      fewer = omega arith;
      word = λ values width v. ap (extended_of width) (sym (ap (extract_of p.high p.low) (m.word values) ∙ extract-extract p.high p.low high low (word_of t values a) h.order l.order i));
    }

extension_same : (t : TermsView) (p : Part) (a : TermId) (w : ℕ) → AreSound t → IsPart t p → IsMadeOf t p.of (Sext a w) → SamePart t p (inside_extension a (width_of t a) p)
extension_same t p a w s h m =
    let l = m.lawful in
    let c = m.count in
    let before : a.0 < p.of.0 = omega (arith, l.stands) in
    let stands : a.0 < length t.nodes = omega (arith, h.stands) in
    let some = (stands-width t a s stands).some in
    let e = m.same a before in
    let i : p.high < w = let f = m.width in omega (arith, h.inside) in
    record {
      part = record { stands = stands; order = omega (arith, h.order); inside = omega arith };
      fewer = omega (arith, h.order);
      word = λ values width v.
          let k = known_word t values a s v stands in
          let x = word_of t values a in
          let g = extract-extended width p.high p.low w x k.word (omega (arith, k.width, l.wider)) h.order i in
          let top : x.width - 1 ≡ width_of t a - 1 = ap (λ (n : ℕ). n - 1) k.width in
          subst (λ (n : ℕ). extended_of width (extract_of (min p.high n) (min p.low n) x) ≡ extended_of width (extract_of p.high p.low (extended_of w x))) top g
          ∙ ap (λ (y : Word). extended_of width (extract_of p.high p.low y)) (sym (m.word values));
    }

less : (a b : ℕ) → nat_lt a b ≡ true → a < b
less a b e = grind (arith, nat_tests)

at_most : (a b : ℕ) → nat_le a b ≡ true → a ≤ b
at_most a b e = grind (arith, nat_tests)

joined_same : (t : TermsView) (p q : Part) (a b : TermId) (low high : Bool) → nat_lt p.high (width_of t b) ≡ low → nat_le (width_of t b) p.low ≡ high → AreSound t → IsPart t p → IsMadeOf t p.of (Concat a b)
    → (if low then Some (record p { of = b }) else if high then Some (record { of = a; high = p.high - width_of t b; low = p.low - width_of t b }) else None) ≡ Some q → SamePart t p q
joined_same t p q a b true high el eh s h m e =
    let same : record p { of = b } ≡ q = part_from q (Some (record p { of = b })) e in
    let c = m.count in
    let l = m.lawful in
    let stands : b.0 < length t.nodes = omega (arith, l.second, h.stands) in
    let inside = less p.high (width_of t b) el in
    let r : SamePart t p (record p { of = b }) = record {
      part = record { stands = stands; order = h.order; inside = inside };
      fewer = omega arith;
      word = λ values width v.
          let k = known_word t values b s v stands in
          ap (extended_of width) (sym (ap (extract_of p.high p.low) (m.word values) ∙ extract-lower p.high p.low (word_of t values a) (word_of t values b) h.order (omega (arith, k.width)) k.word));
    } in
    subst (λ (i : Part). SamePart t p i) same r
joined_same t p q a b false true el eh s h m e =
    let w = width_of t b in
    let part : Part = record { of = a; high = p.high - w; low = p.low - w } in
    let same : part ≡ q = part_from q (Some part) e in
    let c = m.count in
    let l = m.lawful in
    let first : a.0 < length t.nodes = omega (arith, l.first, h.stands) in
    let stands : b.0 < length t.nodes = omega (arith, l.second, h.stands) in
    let above = at_most w p.low eh in
    let all = m.width in
    let r : SamePart t p part = record {
      part = record { stands = first; order = omega (arith, h.order); inside = omega (arith, h.order, h.inside) };
      fewer = omega (arith, h.order);
      word = λ values width v.
          let k = known_word t values b s v stands in
          let g = extract-upper p.high p.low (word_of t values a) (word_of t values b) h.order (omega (arith, k.width)) k.word in
          ap (extended_of width) (sym (ap (extract_of p.high p.low) (m.word values) ∙ (g ∙ ap (λ (n : ℕ). extract_of (p.high - n) (p.low - n) (word_of t values a)) k.width)));
    } in
    subst (λ (i : Part). SamePart t p i) same r
joined_same t p q a b false false el eh s h m e = absurd cc

inner_part_by : (t : TermsView) (p q : Part) (n : TermNode) → AreSound t → IsPart t p → IsMadeOf t p.of n → inner_part t n p ≡ Some q → SamePart t p q
inner_part_by t p q (Concat a b) s h m e = joined_same t p q a b (nat_lt p.high (width_of t b)) (nat_le (width_of t b) p.low) refl refl s h m e
inner_part_by t p q (Sext a w) s h m e =
    let part = inside_extension a (width_of t a) p in
    subst (λ (i : Part). SamePart t p i) (part_from q (Some part) e) (extension_same t p a w s h m)
inner_part_by t p q (Extract a high low) s h m e =
    let part = inside_extract a low p in
    subst (λ (i : Part). SamePart t p i) (part_from q (Some part) e) (extract_same t p a high low s h m)
inner_part_by t p q n s h m e = absurd cc

pub inner_part_same : (t : TermsView) (p q : Part) → AreSound t → IsPart t p → inner_part t (node_at t p.of) p ≡ Some q → SamePart t p q
inner_part_same t p q s h e = inner_part_by t p q (node_at t p.of) s h (made_of t p.of s h.stands) e

part_itself : (t : TermsView) (p : Part) → IsPart t p → SamePart t p p
part_itself t p h = record { part = h; fewer = omega arith; word = λ values width v. refl }

part_then : (t : TermsView) (p q r : Part) → SamePart t p q → SamePart t q r → SamePart t p r
part_then t p q r h k = record { part = k.part; fewer = omega (arith, h.fewer, k.fewer); word = λ values width v. k.word values width v ∙ h.word values width v }

inside_by : (t : TermsView) (p : Part) (next : Part → Part) (o : Option Part) → AreSound t → IsPart t p → inner_part t (node_at t p.of) p ≡ o → ((q : Part) → IsPart t q → SamePart t q (next q)) → SamePart t p (or_inside p next o)
inside_by t p next None s h e f = part_itself t p h
inside_by t p next (Some q) s h e f =
    let k = inner_part_same t p q s h e in
    part_then t p q (next q) k (f q k.part)

pub innermost_part_same : (n : ℕ) (t : TermsView) (p : Part) → AreSound t → IsPart t p → SamePart t p (innermost_part n t p)
innermost_part_same zero t p s h = part_itself t p h
innermost_part_same (suc n) t p s h = inside_by t p (λ q. innermost_part n t q) (inner_part t (node_at t p.of) p) s h refl (λ q k. innermost_part_same n t q s k)

-- ---- the term of bits

-- bits of a term that is no constant, which are none either
pub record BitsRewrite (t : TermsView) (q : Part) (b : Built) : Type 0 where
  pub rewrites : Rewrites t b (q.high + 1 - q.low) (λ values. extract_of q.high q.low (word_of t values q.of))
  pub is_open : IsOpen b.terms b.id

all_tests : (a b : Bool) → (a && b) ≡ true → (a ≡ true) × (b ≡ true)
all_tests true true e = (refl, refl)
all_tests true false e = absurd cc
all_tests false b e = absurd cc

bits_by : (t : TermsView) (q : Part) (all : Bool) → ((q.low == 0) && (q.high + 1 == width_of t q.of)) ≡ all → AreSound t → IsPart t q → IsOpen t q.of
    → BitsRewrite t q (if all then built_of t q.of else with_node t (Extract q.of q.high q.low))
bits_by t q true e s h o =
    let tests = all_tests (q.low == 0) (q.high + 1 == width_of t q.of) e in
    let zero_low = eqb-true q.low 0 tests.0 in
    let top = eqb-true (q.high + 1) (width_of t q.of) tests.1 in
    record {
      rewrites = kept_rewrites t q.of (q.high + 1 - q.low) (λ values. extract_of q.high q.low (word_of t values q.of)) s h.stands (omega arith)
          (λ values v.
          let k = known_word t values q.of s v h.stands in
          let x = word_of t values q.of in
          let high : x.width - 1 ≡ q.high = omega (arith, k.width) in
          extract-all x k.word ∙ (ap (λ (n : ℕ). extract_of n 0 x) high ∙ ap (λ (n : ℕ). extract_of q.high n x) (sym zero_low)));
      is_open = o;
    }
bits_by t q false e s h o =
    record {
      rewrites = node_rewrites t (Extract q.of q.high q.low) s (record { stands = listed t q.of h.stands; order = h.order; inside = h.inside }) o;
      is_open = made_open t q s h;
    }
  where
    made_open : (t : TermsView) (q : Part) → AreSound t → IsPart t q → IsOpen (with_node t (Extract q.of q.high q.low)).terms (with_node t (Extract q.of q.high q.low)).id
    made_open t q s h = ap constant_of (node_at-made t (Extract q.of q.high q.low))

pub bits_rewrites : (t : TermsView) (q : Part) → AreSound t → IsPart t q → IsOpen t q.of → BitsRewrite t q (bits_term t q)
bits_rewrites t q s h o = bits_by t q ((q.low == 0) && (q.high + 1 == width_of t q.of)) refl s h o

extended_by : (t : TermsView) (width : ℕ) (q : Part) (same : Bool) → (q.high + 1 - q.low == width) ≡ same → AreSound t → IsPart t q → IsOpen t q.of → q.high + 1 ≤ width + q.low → width ≤ max_width
    → Rewrites t (if same then bits_term t q else with_node (bits_term t q).terms (Sext (bits_term t q).id width)) width (λ values. extended_of width (extract_of q.high q.low (word_of t values q.of)))
extended_by t width q true e s h o w n =
    let r = (bits_rewrites t q s h o).rewrites in
    let same = eqb-true (q.high + 1 - q.low) width e in
    rewrites_as t (bits_term t q) (q.high + 1 - q.low) width (λ values. extract_of q.high q.low (word_of t values q.of)) (λ values. extended_of width (extract_of q.high q.low (word_of t values q.of))) r same
    (λ values v.
    let k = known_word t values q.of s v h.stands in
    let x = extract_of q.high q.low (word_of t values q.of) in
    let i = IsWord-extract q.high q.low (word_of t values q.of) k.word h.order (omega (arith, k.width, h.inside)) in
    sym (subst (λ (m : ℕ). extended_of m x ≡ x) same (extended-same x i)))
extended_by t width q false e s h o w n =
    let b = bits_term t q in
    let r = bits_rewrites t q s h o in
    let a = r.rewrites.adds in
    rewrites_then t b (with_node b.terms (Sext b.id width)) (q.high + 1 - q.low) width (λ values. extract_of q.high q.low (word_of t values q.of)) (λ values. extended_of width (word_of b.terms values b.id)) (λ values. extended_of width (extract_of q.high q.low (word_of t values q.of)))
    r.rewrites
    (node_rewrites b.terms (Sext b.id width) a.sound (record { stands = listed b.terms b.id a.stands; wider = omega (arith, a.width, h.order); narrow = n }) r.is_open)
    (λ values v. ap (extended_of width) (r.rewrites.word values v))

pub extended_rewrites : (t : TermsView) (width : ℕ) (q : Part) → AreSound t → IsPart t q → IsOpen t q.of → q.high + 1 ≤ width + q.low → width ≤ max_width
    → Rewrites t (extended_bits t width q) width (λ values. extended_of width (extract_of q.high q.low (word_of t values q.of)))
extended_rewrites t width q s h o w n = extended_by t width q (q.high + 1 - q.low == width) refl s h o w n

part_by : (t : TermsView) (width : ℕ) (q : Part) (c : Option Word) → constant_at t q.of ≡ c → AreSound t → IsPart t q → q.high + 1 ≤ width + q.low → width ≤ max_width
    → Rewrites t (part_of_constant t width q c) width (λ values. extended_of width (extract_of q.high q.low (word_of t values q.of)))
part_by t width q (Some x) e s h w n =
    let k = constant_is t q.of x s h.stands e in
    let y = extended_of width (extract_of q.high q.low x) in
    let i = IsWord-extract q.high q.low x k.fits h.order (omega (arith, k.width, h.inside)) in
    rewrites_as t (constant_term t y) width width (λ values. y) (λ values. extended_of width (extract_of q.high q.low (word_of t values q.of))) (constant_rewrites t y s (IsWord-extended width (extract_of q.high q.low x) i (omega (arith, h.order)) n)) refl
    (λ values v. ap (λ (z : Word). extended_of width (extract_of q.high q.low z)) (sym (k.word values)))
part_by t width q None e s h w n = extended_rewrites t width q s h e w n

pub part_rewrites : (t : TermsView) (width : ℕ) (p : Part) → AreSound t → IsPart t p → p.high + 1 ≤ width + p.low → width ≤ max_width
    → Rewrites t (part_term t width p) width (λ values. extended_of width (extract_of p.high p.low (word_of t values p.of)))
unfolding part_term
part_rewrites t width p s h w n =
    let q = innermost_part p.of.0 t p in
    let k = innermost_part_same p.of.0 t p s h in
    rewrites_as t (part_of_constant t width q (constant_at t q.of)) width width (λ values. extended_of width (extract_of q.high q.low (word_of t values q.of))) (λ values. extended_of width (extract_of p.high p.low (word_of t values p.of)))
    (part_by t width q (constant_at t q.of) refl s k.part (omega (arith, k.fewer)) n) refl
    (λ values v. k.word values width v)
