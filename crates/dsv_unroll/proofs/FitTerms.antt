-- What the term of a fitted value adds, which number it spells, and what its bit says.
use Rattle.std.proofs.Common.{◌≡◌, ℕ, ◌+◌, ◌-◌, ◌<◌, ◌≤◌, Bool, true, false, not, ◌||◌, List, refl, arith, ap, sym, subst, ◌∙◌, length}
use Rattle.std.specs.Prelude.{◌==◌, nat_lt, int_lt, if◌then◌else◌, ◌≤ℤ◌}
use Rattle.std.proofs.Math.IntN.{ℤ}
use Rattle.std.proofs.lemmas.Int.{ints}
use Rattle.std.proofs.lemmas.Bool.Decides.{nat_tests}
use Rattle.dsv_word.specs.Words.{lo, hi}
use Rattle.dsv_term.specs.declared.node.TermId.{TermId}
use Rattle.dsv_term.specs.declared.node.TermNode.TheVariants.{Eq, Or, Not, Sext, Extract}
use Rattle.dsv_term.specs.declared.word.Word.{Word}
use Rattle.dsv_term.specs.Building.{built_of, with_node}
use Rattle.dsv_term.specs.Growth.{AreSound, Adds}
use Rattle.dsv_term.specs.Terms.{KeepsTerms, width_of, word_of, HasBits}
use Rattle.dsv_term.specs.TermsView.{TermsView}
use Rattle.dsv_term.specs.Word.{residue, signed_of, bit_of, same_of, or_of, complement_of, extended_of, extract_of}
use Rattle.dsv_term.proofs.Words.{residue_fits}
use Rattle.dsv_term.proofs.Made.{KeepsTerms-both}
use Rattle.dsv_term.proofs.Building.{Adds-none, later, extension_gives, same_gives, complement_gives, or_gives, extract_gives}
use Rattle.dsv_term.proofs.Complement.{IsSpelled, spelled, wider_spelled, signed-spelled, signed_reads, low-spelled, same-spelled, apart-spelled, or-bits, complement-bit}
use Rattle.dsv_unroll.specs.Ready.{IsValue}
use Rattle.dsv_unroll.specs.Rules.{CutTerms, cut_terms, Unrolled, unrolled_of, cut_term}
use Rattle.dsv_unroll.proofs.RuleTerms.{Spells}

-- z is no word of n bits
abbrev pub is_outside : ℕ → ℤ → Bool
is_outside n z = int_lt z (lo n) || int_lt (hi n) z

or_false : (a b : Bool) → (a || b) ≡ false → (a ≡ false) × (b ≡ false)
or_false true b e = absurd cc
or_false false b e = (refl, e)

pub not_less : (a b : ℤ) → int_lt a b ≡ false → b ≤ℤ a
not_less a b e = grind (arith, ints)

at_least : (a b : ℤ) → b ≤ℤ a → int_lt a b ≡ false
at_least a b h = grind (arith, ints)

pub inside_spelled : (n : ℕ) (z : ℤ) → is_outside n z ≡ false → IsSpelled n z
inside_spelled n z e =
    let k = or_false (int_lt z (lo n)) (int_lt (hi n) z) e in
    let a = not_less z (lo n) k.0 in
    let b = not_less (hi n) z k.1 in
    record { low = a; high = omega (arith, ints) }

pub spelled_inside : (n : ℕ) (z : ℤ) → IsSpelled n z → is_outside n z ≡ false
spelled_inside n z h = rw (at_least z (lo n) h.low, at_least (hi n) z (let k = h.high in omega (arith, ints))) refl

not_twice : (q : Bool) → not (not q) ≡ q
not_twice true = refl
not_twice false = refl

-- the word that is cut, extended again, is the same exactly for words
back_same : (n w : ℕ) (z : ℤ) → 1 ≤ n → n ≤ w → IsSpelled w z → same_of (extended_of w (spelled n z)) (spelled w z) ≡ bit_of (not (is_outside n z))
back_same n w z p l h = by (is_outside n z) refl
  where
    by : (q : Bool) → is_outside n z ≡ q → same_of (extended_of w (spelled n z)) (spelled w z) ≡ bit_of (not q)
    by false e =
        let f = inside_spelled n z e in
        same-spelled w (signed_of (spelled n z)) z (signed-spelled n z p f)
    by true e =
        let r = signed_reads n (residue n z) p (residue_fits n z) in
        apart-spelled w (signed_of (spelled n z)) z (omega arith) (wider_spelled n w (signed_of (spelled n z)) l r.fits) h
        (λ same. let s = spelled_inside n z (subst (IsSpelled n) same r.fits) in absurd (let c : true ≡ false = sym e ∙ s in cc))

-- ---- a term that is cut
-- what the low bits of a term and its test say
pub record CutGives (t : TermsView) (of : TermId) (n : ℕ) (c : CutTerms) : Type 0 where
  pub sound : AreSound c.terms
  pub inputs : c.terms.inputs ≡ t.inputs
  pub kept : KeepsTerms t c.terms
  pub word_bits : HasBits c.terms c.word n
  pub is_word_bit : HasBits c.terms c.tested.is_word 1
  pub outside_bit : HasBits c.terms c.tested.outside 1
  pub word : (values : List ℕ) (z : ℤ) → Spells t values of (width_of t of) z → word_of c.terms values c.word ≡ spelled n z
  pub is_word : (values : List ℕ) (z : ℤ) → Spells t values of (width_of t of) z → word_of c.terms values c.tested.is_word ≡ bit_of (not (is_outside n z))
  pub outside : (values : List ℕ) (z : ℤ) → Spells t values of (width_of t of) z → word_of c.terms values c.tested.outside ≡ bit_of (is_outside n z)
  pub truth : List ℕ → Bool
  pub is_word_truth : (values : List ℕ) → word_of c.terms values c.tested.is_word ≡ bit_of (truth values)
  pub outside_truth : (values : List ℕ) → word_of c.terms values c.tested.outside ≡ bit_of (not (truth values))

pub cut_gives : (t : TermsView) (of : TermId) (n : ℕ) → AreSound t → IsValue t of → 1 ≤ n → n < width_of t of → CutGives t of n (cut_terms t n of)
cut_gives t of n s v p l =
    let w = width_of t of in
    let m : n - 1 + 1 - 0 ≡ n = omega arith in
    let a = with_node t (Extract of (n - 1) 0) in
    let ga = extract_gives t of (n - 1) 0 s v.stands (omega arith) (omega arith) in
    let wa : width_of a.terms a.id ≡ n = ga.adds.width ∙ m in
    let b = with_node a.terms (Sext a.id w) in
    let gb = extension_gives a.terms a.id w ga.adds.sound ga.adds.stands (omega arith) (omega (arith, v.narrow)) in
    let kb = KeepsTerms-both t a.terms b.terms ga.adds.kept gb.adds.kept in
    let lb = later t b.terms of kb v.stands in
    let c = with_node b.terms (Eq b.id of) in
    let gc = same_gives b.terms b.id of gb.adds.sound gb.adds.stands lb.stands (gb.adds.width ∙ sym lb.width) in
    let d = with_node c.terms (Not c.id) in
    let gd = complement_gives c.terms c.id gc.adds.sound gc.adds.stands in
    let kcd = KeepsTerms-both b.terms c.terms d.terms gc.adds.kept gd.adds.kept in
    let la = later a.terms d.terms a.id (KeepsTerms-both a.terms b.terms d.terms gb.adds.kept kcd) ga.adds.stands in
    let lc = later c.terms d.terms c.id gd.adds.kept gc.adds.stands in
    let low : (values : List ℕ) (z : ℤ) → Spells t values of w z → word_of a.terms values a.id ≡ spelled n z = λ values z q. ga.word values ∙ (ap (extract_of (n - 1) 0) q.word ∙ low-spelled n w z p (omega arith)) in
    let same : (values : List ℕ) (z : ℤ) → Spells t values of w z → word_of c.terms values c.id ≡ bit_of (not (is_outside n z)) = λ values z q.
    let back : word_of b.terms values b.id ≡ extended_of w (spelled n z) = gb.word values ∙ ap (extended_of w) (low values z q) in
    let orig : word_of b.terms values of ≡ spelled w z = lb.word values ∙ q.word in
    gc.word values ∙ (ap (λ (i : Word). same_of i (word_of b.terms values of)) back ∙ (ap (same_of (extended_of w (spelled n z))) orig ∙ back_same n w z p (omega arith) q.fits)) in
    let r : List ℕ → Bool = λ values. (word_of b.terms values b.id).number == (word_of b.terms values of).number in
    record {
      sound = gd.adds.sound;
      inputs = gd.adds.inputs ∙ (gc.adds.inputs ∙ (gb.adds.inputs ∙ ga.adds.inputs));
      kept = KeepsTerms-both t b.terms d.terms kb kcd;
      word_bits = record { stands = la.stands; width = la.width ∙ wa };
      is_word_bit = record { stands = lc.stands; width = lc.width ∙ gc.adds.width };
      outside_bit = record { stands = gd.adds.stands; width = gd.adds.width ∙ gc.adds.width };
      word = λ values z q. la.word values ∙ low values z q;
      is_word = λ values z q. lc.word values ∙ same values z q;
      outside = λ values z q. gd.word values ∙ (ap complement_of (same values z q) ∙ (complement-bit (not (is_outside n z)) ∙ ap bit_of (not_twice (is_outside n z))));
      truth = r;
      is_word_truth = λ values. lc.word values ∙ gc.word values;
      outside_truth = λ values. gd.word values ∙ (ap complement_of (gc.word values) ∙ complement-bit (r values));
    }

pub record Fits (t : TermsView) (of : TermId) (n : ℕ) (overflowed : TermId) (u : Unrolled) : Type 0 where
  pub adds : Adds t u.terms u.id (width_of u.terms u.id)
  pub narrow : width_of u.terms u.id ≤ 127
  pub overflowed_stands : u.overflowed.0 < length u.terms.nodes
  pub overflowed_bit : width_of u.terms u.overflowed ≡ 1
  pub value : (values : List ℕ) (z : ℤ) → Spells t values of (width_of t of) z → is_outside n z ≡ false → Spells u.terms values u.id (width_of u.terms u.id) z
  pub overflows : (values : List ℕ) (z : ℤ) (b : Bool) → Spells t values of (width_of t of) z → word_of t values overflowed ≡ bit_of b → word_of u.terms values u.overflowed ≡ bit_of (b || is_outside n z)
  pub stays : (values : List ℕ) → word_of t values overflowed ≡ bit_of true → word_of u.terms values u.overflowed ≡ bit_of true

pub cut_fits : (t : TermsView) (of : TermId) (n : ℕ) (overflowed : TermId) → AreSound t → IsValue t of → 1 ≤ n → n < width_of t of → overflowed.0 < length t.nodes → width_of t overflowed ≡ 1
    → Fits t of n overflowed (cut_term t n of overflowed)
cut_fits t of n overflowed s v p l fs fb =
    let c = cut_terms t n of in
    let g = cut_gives t of n s v p l in
    let ld = later t c.terms overflowed g.kept fs in
    let e = with_node c.terms (Or overflowed c.tested.outside) in
    let ge = or_gives c.terms overflowed c.tested.outside g.sound ld.stands g.outside_bit.stands (ld.width ∙ (fb ∙ sym g.outside_bit.width)) in
    let lw = later c.terms e.terms c.word ge.adds.kept g.word_bits.stands in
    record {
      adds = record { sound = ge.adds.sound; inputs = ge.adds.inputs ∙ g.inputs; kept = KeepsTerms-both t c.terms e.terms g.kept ge.adds.kept; stands = lw.stands; width = refl };
      narrow = omega (arith, lw.width, g.word_bits.width, v.narrow);
      overflowed_stands = ge.adds.stands;
      overflowed_bit = ge.adds.width ∙ (ld.width ∙ fb);
      value = λ values z q i.
          let k : n ≡ width_of e.terms c.word = sym (lw.width ∙ g.word_bits.width) in
          subst (λ (j : ℕ). Spells e.terms values c.word j z) k (record { word = lw.word values ∙ g.word values z q; fits = inside_spelled n z i });
      overflows = λ values z x q f.
          ge.word values ∙ (ap (λ (i : Word). or_of i (word_of c.terms values c.tested.outside)) (ld.word values ∙ f) ∙ (ap (or_of (bit_of x)) (g.outside values z q) ∙ or-bits x (is_outside n z)));
      stays = λ values f.
          ge.word values ∙ (ap (λ (i : Word). or_of i (word_of c.terms values c.tested.outside)) (ld.word values ∙ f) ∙ (ap (or_of (bit_of true)) (g.outside_truth values) ∙ or-bits true (not (g.truth values))));
    }

-- ---- a term that is a word already
or_false_right : (b : Bool) → b ≡ (b || false)
or_false_right true = refl
or_false_right false = refl

pub kept_fits : (t : TermsView) (of : TermId) (n : ℕ) (overflowed : TermId) → AreSound t → IsValue t of → width_of t of ≤ n → overflowed.0 < length t.nodes → width_of t overflowed ≡ 1
    → Fits t of n overflowed (unrolled_of (built_of t of) overflowed)
kept_fits t of n overflowed s v l fs fb =
    record {
      adds = Adds-none t of (width_of t of) s v.stands refl;
      narrow = v.narrow;
      overflowed_stands = fs;
      overflowed_bit = fb;
      value = λ values z q i. q;
      overflows = λ values z b q g.
          let e = spelled_inside n z (wider_spelled (width_of t of) n z l q.fits) in
          g ∙ ap bit_of (or_false_right b ∙ ap (λ (c : Bool). b || c) (sym e));
      stays = λ values g. g;
    }

fits_by : (t : TermsView) (of : TermId) (n : ℕ) (overflowed : TermId) (q : Bool) → nat_lt n (width_of t of) ≡ q → AreSound t → IsValue t of → 1 ≤ n → overflowed.0 < length t.nodes → width_of t overflowed ≡ 1
    → Fits t of n overflowed (if q then cut_term t n of overflowed else unrolled_of (built_of t of) overflowed)
fits_by t of n overflowed true e s v p fs fb = cut_fits t of n overflowed s v p (less n (width_of t of) e) fs fb
  where
    less : (a b : ℕ) → nat_lt a b ≡ true → a < b
    less a b e = grind (arith, nat_tests)
fits_by t of n overflowed false e s v p fs fb = kept_fits t of n overflowed s v (not_more n (width_of t of) e) fs fb
  where
    not_more : (a b : ℕ) → nat_lt a b ≡ false → b ≤ a
    not_more a b e = grind (arith, nat_tests)

pub tested_fits : (t : TermsView) (of : TermId) (n : ℕ) (overflowed : TermId) → AreSound t → IsValue t of → 1 ≤ n → overflowed.0 < length t.nodes → width_of t overflowed ≡ 1
    → Fits t of n overflowed (if nat_lt n (width_of t of) then cut_term t n of overflowed else unrolled_of (built_of t of) overflowed)
tested_fits t of n overflowed s v p fs fb = fits_by t of n overflowed (nat_lt n (width_of t of)) refl s v p fs fb
