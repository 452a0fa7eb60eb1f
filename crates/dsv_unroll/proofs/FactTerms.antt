-- The tests of facts hold at all inputs in range.
use Rattle.std.proofs.Common.{◌≡◌, ℕ, zero, suc, ◌+◌, ◌<◌, Bool, true, false, not, ◌&&◌, ◌||◌, Option, None, Some, List, [], ◌∷◌, ◌++◌, refl, arith, ap, sym, subst, ◌∙◌, length, drop, take}
use Rattle.std.specs.Prelude.{int_le, slice_index_or, ◌≤ℤ◌}
use Rattle.std.specs.List.{All}
use Rattle.std.proofs.Math.IntN.{ℤ, pos}
use Rattle.std.proofs.Math.Seq.{drop-nil}
use Rattle.std.proofs.lemmas.Int.{ints}
use Rattle.std.proofs.lemmas.List.{append-nil, append_assoc, drop_more}
use Rattle.std.proofs.lemmas.List.Elements.{All-nil, All-cons, All-head, All-tail, All-get_or}
use Rattle.dsv_word.specs.declared.format.Format.{Format}
use Rattle.dsv_word.specs.Words.{width, IsWord}
use Rattle.dsv_linear.specs.declared.fact.Fact.{Fact}
use Rattle.dsv_linear.specs.declared.fact.Fact.TheVariants as fact
use Rattle.dsv_linear.specs.Facts.{Hold, HoldsOf}
use Rattle.dsv_term.specs.declared.node.TermId.{TermId}
use Rattle.dsv_term.specs.declared.node.TermNode.TheVariants.{Constant, Sle, And, Or}
use Rattle.dsv_term.specs.declared.word.Word.{Word}
use Rattle.dsv_term.specs.Building.{Built, built_of, with_node}
use Rattle.dsv_term.specs.Growth.{AreSound, Adds}
use Rattle.dsv_term.specs.Terms.{KeepsTerms, width_of, word_of, HasBits}
use Rattle.dsv_term.specs.TermsView.{TermsView}
use Rattle.dsv_term.specs.Word.{residue, signed_of, bit_of, and_of, or_of, signed_at_most_of}
use Rattle.dsv_term.proofs.Words.{residue_fits}
use Rattle.dsv_term.proofs.Made.{KeepsTerms-both}
use Rattle.dsv_term.proofs.Building.{KeepsTerms-self, Adds-built, later, stands-width, constant_gives, signed_at_most_gives, and_gives, or_gives}
use Rattle.dsv_term.proofs.Complement.{IsSpelled, spelled, wider_spelled, signed_at_most-spelled, and-bits, or-bits}
use Rattle.dsv_unroll.specs.declared.fitting.TestedTerm.{TestedTerm}
use Rattle.dsv_unroll.specs.FactTests.{FactTerms, within_test, with_test, with_word, with_fact, with_entry, facts_from}
use Rattle.dsv_unroll.specs.Ready.{IsValue, AreBits, IsTruth, IsTest, IsEntry, AreTested, AreKnown}
use Rattle.dsv_unroll.specs.Rules.{term_at}
use Rattle.dsv_unroll.proofs.FitTerms.{is_outside, inside_spelled, spelled_inside}
use Rattle.dsv_unroll.proofs.Follows.{Means}
use Rattle.dsv_unroll.proofs.NodeTerms.{all_more}
use Rattle.dsv_unroll.proofs.SampleSteps.{bits_later}
use Rattle.dsv_unroll.proofs.InputTests.{bits_kept, bits_push, at_most}
use Rattle.dsv_unroll.proofs.TestedTerms.{truth_later, entry_later, entries_later, EntrySays, EntriesSay, entries_say_later}

-- ---- words
pub word_spells : (f : Format) (z : ℤ) → IsWord f z → IsSpelled (width f) z
word_spells f z w = let l = w.low in let k = w.high in record { low = l; high = omega (arith, ints) }

pub word_inside : (f : Format) (z : ℤ) → IsWord f z → is_outside (width f) z ≡ false
word_inside f z w = spelled_inside (width f) z (word_spells f z w)

pub inside_word : (f : Format) (z : ℤ) → is_outside (width f) z ≡ false → IsWord f z
inside_word f z h = let s = inside_spelled (width f) z h in let l = s.low in let k = s.high in record { low = l; high = omega (arith, ints) }

-- ---- within two ends
pub record WithinGives (t : TermsView) (low high : ℤ) (id : TermId) (b : Built) : Type 0 where
  pub adds : Adds t b.terms b.id 1
  pub truth : IsTruth b.terms b.id
  pub holds : (values : List ℕ) (z : ℤ) → Means t values id z → IsSpelled (width_of t id) low → IsSpelled (width_of t id) high → low ≤ℤ z → z ≤ℤ high → word_of b.terms values b.id ≡ bit_of true

pub within_gives : (t : TermsView) (low high : ℤ) (id : TermId) → AreSound t → IsValue t id → WithinGives t low high id (within_test t low high id)
within_gives t low high id s v =
    let bits = width_of t id in
    let w = stands-width t id s v.stands in
    let a = with_node t (Constant bits (residue bits low)) in
    let ga = constant_gives t bits (residue bits low) s w (residue_fits bits low) in
    let b = with_node a.terms (Constant bits (residue bits high)) in
    let gb = constant_gives a.terms bits (residue bits high) ga.adds.sound w (residue_fits bits high) in
    let kb = KeepsTerms-both t a.terms b.terms ga.adds.kept gb.adds.kept in
    let ab = later a.terms b.terms a.id gb.adds.kept ga.adds.stands in
    let vb = later t b.terms id kb v.stands in
    let c = with_node b.terms (Sle a.id id) in
    let gc = signed_at_most_gives b.terms a.id id gb.adds.sound ab.stands vb.stands (ab.width ∙ (ga.adds.width ∙ sym vb.width)) in
    let kc = KeepsTerms-both t b.terms c.terms kb gc.adds.kept in
    let bc = later b.terms c.terms b.id gc.adds.kept gb.adds.stands in
    let vc = later t c.terms id kc v.stands in
    let d = with_node c.terms (Sle id b.id) in
    let gd = signed_at_most_gives c.terms id b.id gc.adds.sound vc.stands bc.stands (vc.width ∙ sym (bc.width ∙ gb.adds.width)) in
    let cd = later c.terms d.terms c.id gd.adds.kept gc.adds.stands in
    let e = with_node d.terms (And c.id d.id) in
    let ge = and_gives d.terms c.id d.id gd.adds.sound cd.stands gd.adds.stands (cd.width ∙ (gc.adds.width ∙ sym gd.adds.width)) in
    let one : width_of e.terms e.id ≡ 1 = ge.adds.width ∙ (cd.width ∙ gc.adds.width) in
    let p : List ℕ → Bool = λ vs. int_le (signed_of (word_of b.terms vs a.id)) (signed_of (word_of b.terms vs id)) in
    let q : List ℕ → Bool = λ vs. int_le (signed_of (word_of c.terms vs id)) (signed_of (word_of c.terms vs b.id)) in
    record {
      adds = record { sound = ge.adds.sound; inputs = ge.adds.inputs ∙ (gd.adds.inputs ∙ (gc.adds.inputs ∙ (gb.adds.inputs ∙ ga.adds.inputs))); kept = KeepsTerms-both t c.terms e.terms kc (KeepsTerms-both c.terms d.terms e.terms gd.adds.kept ge.adds.kept); stands = ge.adds.stands; width = one };
      truth = record {
        bit = record { stands = ge.adds.stands; width = one };
        truth = λ vs. p vs && q vs;
        word = λ vs. ge.word vs ∙ (ap (λ (i : Word). and_of i (word_of d.terms vs d.id)) (cd.word vs ∙ gc.word vs) ∙ (ap (and_of (bit_of (p vs))) (gd.word vs) ∙ and-bits (p vs) (q vs)));
      };
      holds = λ vs z m fl fh l h.
          let least : word_of c.terms vs c.id ≡ bit_of true =
          gc.word vs ∙ (ap (λ (i : Word). signed_at_most_of i (word_of b.terms vs id)) (ab.word vs ∙ ga.word vs) ∙ (ap (signed_at_most_of (spelled bits low)) (vb.word vs ∙ m.spells.word) ∙ (signed_at_most-spelled bits low z w.some fl m.spells.fits ∙ ap bit_of (at_most low z l)))) in
          let most : word_of d.terms vs d.id ≡ bit_of true =
          gd.word vs ∙ (ap (λ (i : Word). signed_at_most_of i (word_of c.terms vs b.id)) (vc.word vs ∙ m.spells.word) ∙ (ap (signed_at_most_of (spelled bits z)) (bc.word vs ∙ gb.word vs) ∙ (signed_at_most-spelled bits z high w.some m.spells.fits fh ∙ ap bit_of (at_most z high h)))) in
          ge.word vs ∙ (ap (λ (i : Word). and_of i (word_of d.terms vs d.id)) (cd.word vs ∙ least) ∙ (ap (and_of (bit_of true)) most ∙ and-bits true true));
    }

pub within_adds : (t u : TermsView) (low high : ℤ) (id test : TermId) → AreSound t → IsValue t id → built_of u test ≡ within_test t low high id → Adds t u test 1
within_adds t u low high id test s v e = Adds-built t u test (within_test t low high id) 1 e (within_gives t low high id s v).adds

-- ---- a fact
-- Tests after these, where g says whether a value before that may be outside was: all are 1 where the inputs are good.
pub record FactsHold (t : TermsView) (values : List ℕ) (before : List TermId) (good : Bool) (g : List ℕ → Bool) (k : FactTerms) : Type 0 where
  pub sound : AreSound k.terms
  pub inputs : k.terms.inputs ≡ t.inputs
  pub kept : KeepsTerms t k.terms
  pub bit : HasBits k.terms k.overflowed 1
  pub word : (vs : List ℕ) → word_of k.terms vs k.overflowed ≡ bit_of (g vs)
  pub all : AreBits k.terms k.tests
  pub more : List TermId
  pub tests : k.tests ≡ before ++ more
  pub bits : AreBits k.terms more
  pub ones : good ≡ true → (i : ℕ) → i < length more → word_of k.terms values (term_at more i) ≡ bit_of true

hold_later : (t : TermsView) (values : List ℕ) (before : List TermId) (good : Bool) (g : List ℕ → Bool) (k : FactTerms) (u : TermsView) → AreSound u → u.inputs ≡ k.terms.inputs → KeepsTerms k.terms u → FactsHold t values before good g k
    → FactsHold t values before good g (record { terms = u; overflowed = k.overflowed; tests = k.tests })
hold_later t values before good g k u s i a h =
    record {
      sound = s;
      inputs = i ∙ h.inputs;
      kept = KeepsTerms-both t k.terms u h.kept a;
      bit = bits_kept k.terms u k.overflowed 1 a h.bit;
      word = λ vs. a.words vs k.overflowed h.bit.stands ∙ h.word vs;
      all = bits_later k.terms u k.tests a h.all;
      more = h.more;
      tests = h.tests;
      bits = bits_later k.terms u h.more a h.bits;
      ones = λ q j p. a.words values (term_at h.more j) (h.bits.stand j p).stands ∙ h.ones q j p;
    }

guarded : (g c : Bool) (o w : Word) → o ≡ bit_of g → w ≡ bit_of c → (g ≡ false → w ≡ bit_of true) → or_of o w ≡ bit_of true
guarded true c o w e d h = rw (e, d) (or-bits true c)
guarded false c o w e d h = rw (e, h refl) (or-bits false true)

test_holds : (t : TermsView) (values : List ℕ) (before : List TermId) (good : Bool) (g : List ℕ → Bool) (k : FactTerms) (test : TermId) → FactsHold t values before good g k → IsTruth k.terms test
    → (good ≡ true → g values ≡ false → word_of k.terms values test ≡ bit_of true) → FactsHold t values before good g (with_test k (built_of k.terms test))
unfolding hold_later
test_holds t values before good g k test h b one =
    let u = with_node k.terms (Or k.overflowed test) in
    let a = or_gives k.terms k.overflowed test h.sound h.bit.stands b.bit.stands (h.bit.width ∙ sym b.bit.width) in
    let l = hold_later t values before good g k u.terms a.adds.sound a.adds.inputs a.adds.kept h in
    let bit : HasBits u.terms u.id 1 = record { stands = a.adds.stands; width = a.adds.width ∙ h.bit.width } in
    record {
      sound = l.sound;
      inputs = l.inputs;
      kept = l.kept;
      bit = l.bit;
      word = l.word;
      all = bits_push u.terms k.tests u.id l.all bit;
      more = h.more ++ u.id ∷ [];
      tests = ap (λ (ys : List TermId). ys ++ u.id ∷ []) h.tests ∙ append_assoc before h.more (u.id ∷ []);
      bits = bits_push u.terms h.more u.id l.bits bit;
      ones = λ q. all_more (λ (j : TermId). word_of u.terms values j ≡ bit_of true) h.more u.id (l.ones q)
          (a.word values ∙ guarded (g values) (b.truth values) (word_of k.terms values k.overflowed) (word_of k.terms values test) (h.word values) (b.word values) (one q));
    }

open_holds : (t : TermsView) (values : List ℕ) (before : List TermId) (good : Bool) (g : List ℕ → Bool) (k : FactTerms) (outside : TermId) → FactsHold t values before good g k → (b : IsTruth k.terms outside)
    → let u = with_node k.terms (Or k.overflowed outside) in FactsHold t values before good (λ vs. g vs || b.truth vs) (record { terms = u.terms; overflowed = u.id; tests = k.tests })
unfolding hold_later
open_holds t values before good g k outside h b =
    let u = with_node k.terms (Or k.overflowed outside) in
    let a = or_gives k.terms k.overflowed outside h.sound h.bit.stands b.bit.stands (h.bit.width ∙ sym b.bit.width) in
    let l = hold_later t values before good g k u.terms a.adds.sound a.adds.inputs a.adds.kept h in
    record {
      sound = l.sound;
      inputs = l.inputs;
      kept = l.kept;
      bit = record { stands = a.adds.stands; width = a.adds.width ∙ h.bit.width };
      word = λ vs. a.word vs ∙ (ap (λ (i : Word). or_of i (word_of k.terms vs outside)) (h.word vs) ∙ (ap (or_of (bit_of (g vs))) (b.word vs) ∙ or-bits (g vs) (b.truth vs)));
      all = l.all;
      more = l.more;
      tests = l.tests;
      bits = l.bits;
      ones = l.ones;
    }

-- ---- an entry
pub record EntryHolds (t : TermsView) (values : List ℕ) (before : List TermId) (good : Bool) (g : List ℕ → Bool) (k now : FactTerms) (outside : Bool) : Type 0 where
  pub overflows : List ℕ → Bool
  pub holds : FactsHold t values before good overflows now
  pub step : KeepsTerms k.terms now.terms
  pub word : good ≡ true → overflows values ≡ false → (g values ≡ false) × (outside ≡ false)

bit_same : (a b : Bool) → bit_of a ≡ bit_of b → a ≡ b
bit_same true true h = refl
bit_same false false h = refl
bit_same true false h = absurd (let e = ap (λ (w : Word). w.number) h in cc)
bit_same false true h = absurd (let e = ap (λ (w : Word). w.number) h in cc)

neither : (a b : Bool) → (a || b) ≡ false → (a ≡ false) × (b ≡ false)
neither true b h = absurd cc
neither false b h = (refl, h)

-- what a fact says in terms of its value, which is outside or not
abbrev FactSays : TermsView → List ℕ → Fact → TestedTerm → Bool → Type 0
FactSays t values fact.Open x outside = word_of t values x.outside ≡ bit_of outside
FactSays t values fact.Inside x outside = (word_of t values x.is_word ≡ bit_of true) × (outside ≡ false)
FactSays t values (fact.Within low high) x outside = (let w = within_test t low high x.value in word_of w.terms values w.id ≡ bit_of true) × (word_of t values x.is_word ≡ bit_of true) × (outside ≡ false)

abbrev EntryFact : TermsView → List ℕ → Fact → Option TestedTerm → Bool → Type 0
EntryFact t values held None outside = outside ≡ false
EntryFact t values held (Some x) outside = FactSays t values held x outside

-- the test that a value is a word, where it is wanted
word_holds : (wanted : Bool) (t : TermsView) (values : List ℕ) (before : List TermId) (good : Bool) (g : List ℕ → Bool) (k : FactTerms) (x : TestedTerm) → FactsHold t values before good g k → IsTruth k.terms x.is_word
    → (good ≡ true → g values ≡ false → word_of k.terms values x.is_word ≡ bit_of true) → FactsHold t values before good g (with_word wanted k x) × KeepsTerms k.terms (with_word wanted k x).terms
word_holds true t values before good g k x h b one =
    (test_holds t values before good g k x.is_word h b one, (or_gives k.terms k.overflowed x.is_word h.sound h.bit.stands b.bit.stands (h.bit.width ∙ sym b.bit.width)).adds.kept)
word_holds false t values before good g k x h b one = (h, KeepsTerms-self k.terms)

fact_holds : (long : Bool) → (t : TermsView) (values : List ℕ) (before : List TermId) (good : Bool) (g : List ℕ → Bool) (k : FactTerms) (held : Fact) (x : TestedTerm) (outside : Bool) → FactsHold t values before good g k → IsTest k.terms x
    → (good ≡ true → g values ≡ false → FactSays k.terms values held x outside) → EntryHolds t values before good g k (with_fact long k held x) outside
fact_holds long t values before good g k fact.Open x outside h s m =
    record {
      overflows = λ vs. g vs || s.outside.truth vs;
      holds = open_holds t values before good g k x.outside h s.outside;
      step = (or_gives k.terms k.overflowed x.outside h.sound h.bit.stands s.outside.bit.stands (h.bit.width ∙ sym s.outside.bit.width)).adds.kept;
      word = λ q o.
          let n = neither (g values) (s.outside.truth values) o in
          (n.0, bit_same outside false (sym (m q n.0) ∙ (s.outside.word values ∙ ap bit_of n.1)));
    }
fact_holds long t values before good g k fact.Inside x outside h s m =
    let i = word_holds true t values before good g k x h s.is_word (λ q o. (m q o).0) in
    record { overflows = g; holds = i.0; step = i.1; word = λ q o. (o, (m q o).1) }
fact_holds long t values before good g k (fact.Within low high) x outside h s m =
    let w = within_test k.terms low high x.value in
    let a = within_gives k.terms low high x.value h.sound s.value in
    let mid : FactTerms = record { terms = w.terms; overflowed = k.overflowed; tests = k.tests } in
    let l = hold_later t values before good g k w.terms a.adds.sound a.adds.inputs a.adds.kept h in
    let ranged = with_test k w in
    let first = test_holds t values before good g mid w.id l a.truth (λ q o. (m q o).0) in
    let step = KeepsTerms-both k.terms w.terms ranged.terms a.adds.kept (or_gives w.terms k.overflowed w.id l.sound l.bit.stands a.truth.bit.stands (l.bit.width ∙ sym a.truth.bit.width)).adds.kept in
    let i = word_holds long t values before good g ranged x first (truth_later k.terms ranged.terms x.is_word step s.is_word)
    (λ q o. step.words values x.is_word s.is_word.bit.stands ∙ (m q o).1) in
    record { overflows = g; holds = i.0; step = KeepsTerms-both k.terms ranged.terms (with_word long ranged x).terms step i.1; word = λ q o. (o, (m q o).2) }

entry_holds : (long : Bool) → (t : TermsView) (values : List ℕ) (before : List TermId) (good : Bool) (g : List ℕ → Bool) (k : FactTerms) (held : Fact) (x : Option TestedTerm) (outside : Bool) → FactsHold t values before good g k → IsEntry k.terms x
    → (good ≡ true → g values ≡ false → EntryFact k.terms values held x outside) → EntryHolds t values before good g k (with_entry long k held x) outside
entry_holds long t values before good g k held None outside h s m = record { overflows = g; holds = h; step = KeepsTerms-self k.terms; word = λ q o. (o, m q o) }
entry_holds long t values before good g k held (Some x) outside h s m = fact_holds long t values before good g k held x outside h s m

-- a fact that is true says so
between_word : (f : Format) (low high e : ℤ) → HoldsOf f (fact.Within low high) e → IsWord f e
between_word f low high e h =
    let a = h.low_word.low in
    let b = h.high_word.high in
    let c = h.between.least in
    let d = h.between.most in
    record { low = omega (arith, ints); high = omega (arith, ints) }

fact_says : (t : TermsView) (values : List ℕ) (f : Format) (held : Fact) (x : TestedTerm) (e : ℤ) → AreSound t → IsTest t x → EntrySays t values (width f) (Some x) e → HoldsOf f held e → FactSays t values held x (is_outside (width f) e)
fact_says t values f fact.Open x e s i n h = n.outside
fact_says t values f fact.Inside x e s i n h = (n.is_word ∙ ap (λ (o : Bool). bit_of (not o)) (word_inside f e h), word_inside f e h)
fact_says t values f (fact.Within low high) x e s i n h =
    let v = width_of t x.value in
    let inside = word_inside f e (between_word f low high e h) in
    let a = within_gives t low high x.value s i.value in (
      a.holds values e n.value (wider_spelled (width f) v low n.wide (word_spells f low h.low_word)) (wider_spelled (width f) v high n.wide (word_spells f high h.high_word)) h.between.least h.between.most,
      n.is_word ∙ ap (λ (o : Bool). bit_of (not o)) inside,
      inside,
    )

entry_says : (t : TermsView) (values : List ℕ) (f : Format) (held : Fact) (x : Option TestedTerm) (e : ℤ) → AreSound t → IsEntry t x → EntrySays t values (width f) x e → HoldsOf f held e → EntryFact t values held x (is_outside (width f) e)
entry_says t values f held None e s i n h = n
entry_says t values f held (Some x) e s i n h = fact_says t values f held x e s i n h

-- ---- all facts
pub record AllHold (t : TermsView) (values : List ℕ) (before : List TermId) (good : Bool) (k : FactTerms) : Type 0 where
  pub overflows : List ℕ → Bool
  pub holds : FactsHold t values before good overflows k

-- what is known of the values to come, where none before was outside
abbrev pub Known : TermsView → List ℕ → Format → List Fact → List (Option TestedTerm) → List ℤ → Type 0
Known t values f facts xs es = EntriesSay t values (width f) xs es × Hold f facts es

none_known : (f : Format) (es : List ℤ) → Hold f [] es
none_known f es = λ m p w. tt

hold_first : (f : Format) (held : Fact) (facts : List Fact) (e : ℤ) (es : List ℤ) → Hold f (held ∷ facts) (e ∷ es) → HoldsOf f held e
hold_first f held facts e es h = h 0 (omega arith) (All-nil (IsWord f))

hold_rest : (f : Format) (held : Fact) (facts : List Fact) (e : ℤ) (es : List ℤ) → Hold f (held ∷ facts) (e ∷ es) → IsWord f e → Hold f facts es
hold_rest f held facts e es h w = λ m p a. h (suc m) (omega arith) (All-cons (IsWord f) e (take m es) w a)

-- one entry more, where the others hold after it
facts_step : (long : Bool) → (t : TermsView) (values : List ℕ) (f : Format) (before : List TermId) (good : Bool) (g : List ℕ → Bool) (k : FactTerms) (held : Fact) (facts : List Fact) (x : Option TestedTerm) (xs : List (Option TestedTerm)) (e : ℤ) (es : List ℤ) (end : FactTerms)
    → FactsHold t values before good g k → All (IsEntry k.terms) (x ∷ xs) → (good ≡ true → g values ≡ false → EntriesSay k.terms values (width f) (x ∷ xs) (e ∷ es) × HoldsOf f held e) → (good ≡ true → g values ≡ false → IsWord f e → Hold f facts es)
    → ((now : List ℕ → Bool) → FactsHold t values before good now (with_entry long k held x) → All (IsEntry (with_entry long k held x).terms) xs → (good ≡ true → now values ≡ false → Known (with_entry long k held x).terms values f facts xs es) → AllHold t values before good end)
    → AllHold t values before good end
facts_step long t values f before good g k held facts x xs e es end h s m r rest =
    let n = with_entry long k held x in
    let first = All-head (IsEntry k.terms) x xs s in
    let a = entry_holds long t values before good g k held x (is_outside (width f) e) h first (λ q o. let i = m q o in entry_says k.terms values f held x e h.sound first i.0.0 i.1) in
    let others = All-tail (IsEntry k.terms) x xs s in
    rest a.overflows a.holds (entries_later k.terms n.terms xs a.step others) (λ q o.
    let b = a.word q o in
    (entries_say_later k.terms n.terms values (width f) a.step xs es others ((m q b.0).0.1 b.1), r q b.0 (inside_word f e b.1)))

pub facts_hold : (long : Bool) → (t : TermsView) (values : List ℕ) (f : Format) (before : List TermId) (good : Bool) (facts : List Fact) (xs : List (Option TestedTerm)) (es : List ℤ) (g : List ℕ → Bool) (k : FactTerms)
    → FactsHold t values before good g k → All (IsEntry k.terms) xs → (good ≡ true → g values ≡ false → Known k.terms values f facts xs es) → AllHold t values before good (facts_from long k facts xs)
facts_hold long t values f before good facts [] es g k h s m = record { overflows = g; holds = h }
facts_hold long t values f before good [] (x ∷ xs) [] g k h s m =
    facts_step long t values f before good g k fact.Open [] x xs (pos 0) [] (facts_from long k [] (x ∷ xs)) h s (λ q o. absurd (m q o).0) (λ q o w. none_known f [])
    (λ now a b c. facts_hold long t values f before good [] xs [] now (with_entry long k fact.Open x) a b c)
facts_hold long t values f before good [] (x ∷ xs) (e ∷ es) g k h s m =
    facts_step long t values f before good g k fact.Open [] x xs e es (facts_from long k [] (x ∷ xs)) h s (λ q o. ((m q o).0, tt)) (λ q o w. none_known f es)
    (λ now a b c. facts_hold long t values f before good [] xs es now (with_entry long k fact.Open x) a b c)
facts_hold long t values f before good (held ∷ facts) (x ∷ xs) [] g k h s m =
    facts_step long t values f before good g k held facts x xs (pos 0) [] (facts_from long k (held ∷ facts) (x ∷ xs)) h s (λ q o. absurd (m q o).0) (λ q o w. absurd (m q o).0)
    (λ now a b c. facts_hold long t values f before good facts xs [] now (with_entry long k held x) a b c)
facts_hold long t values f before good (held ∷ facts) (x ∷ xs) (e ∷ es) g k h s m =
    facts_step long t values f before good g k held facts x xs e es (facts_from long k (held ∷ facts) (x ∷ xs)) h s
    (λ q o. let n = m q o in (n.0, hold_first f held facts e es n.1)) (λ q o w. hold_rest f held facts e es (m q o).1 w)
    (λ now a b c. facts_hold long t values f before good facts xs es now (with_entry long k held x) a b c)

-- ---- as the code has it
pub first_holds : (t : TermsView) (values : List ℕ) (good : Bool) (overflowed : TermId) (tests : List TermId) → (h : AreKnown t overflowed tests) → FactsHold t values tests good h.bit.truth (record { terms = t; overflowed = overflowed; tests = tests })
first_holds t values good overflowed tests h =
    record {
      sound = h.sound;
      inputs = refl;
      kept = KeepsTerms-self t;
      bit = h.bit.bit;
      word = h.bit.word;
      all = h.bits;
      more = [];
      tests = sym (append-nil tests);
      bits = record { stand = λ i p. absurd (omega arith) };
      ones = λ q i p. absurd (omega arith);
    }

-- after the tests of a value's range the terms stand as they did
pub ranged_known : (k : FactTerms) (low high : ℤ) (x : TestedTerm) → AreKnown k.terms k.overflowed k.tests → IsTest k.terms x
    → let r = with_test k (within_test k.terms low high x.value) in AreKnown r.terms r.overflowed r.tests × IsTest r.terms x
ranged_known k low high x h s =
    let r = with_fact false k (fact.Within low high) x in
    let e = fact_holds false k.terms [] k.tests false h.bit.truth k (fact.Within low high) x false (first_holds k.terms [] false k.overflowed k.tests h) s (λ q o. absurd cc) in
    (record { sound = e.holds.sound; bit = record { bit = e.holds.bit; truth = e.overflows; word = e.holds.word }; bits = e.holds.all }, entry_later k.terms r.terms e.step (Some x) s)

pub record IsFactStep (long : Bool) (first : TermsView) (i : ℕ) (facts : List Fact) (entries : List (Option TestedTerm)) (k end : FactTerms) : Type 0 where
  pub known : AreKnown k.terms k.overflowed k.tests
  pub tested : AreTested k.terms entries
  pub kept : KeepsTerms first k.terms
  pub same : facts_from long k (drop i facts) (drop i entries) ≡ end

facts_from-drop : (long : Bool) → (facts : List Fact) (i : ℕ) (k : FactTerms) (x : Option TestedTerm) (xs : List (Option TestedTerm)) → facts_from long k (drop i facts) (x ∷ xs) ≡ facts_from long (with_entry long k (slice_index_or facts i fact.Open) x) (drop (i + 1) facts) xs
facts_from-drop long [] i k x xs = rw (drop-nil {A = Fact} i, drop-nil {A = Fact} (i + 1)) refl
facts_from-drop long (held ∷ facts) zero k x xs = refl
facts_from-drop long (held ∷ facts) (suc i) k x xs = let e : suc i + 1 ≡ suc (i + 1) = omega arith in rw e (facts_from-drop long facts i k x xs)

pub fact_step : (long : Bool) → (first : TermsView) (i : ℕ) (facts : List Fact) (entries : List (Option TestedTerm)) (k now end : FactTerms) (held : Fact) (x : Option TestedTerm) → i < length entries → held ≡ slice_index_or facts i fact.Open → x ≡ slice_index_or entries i None
    → now ≡ with_entry long k held x → IsFactStep long first i facts entries k end → IsFactStep long first (i + 1) facts entries now end
fact_step long first i facts entries k now end held x l a b n s =
    let u = with_entry long k held x in
    let here : IsEntry k.terms x = subst (IsEntry k.terms) (sym b) (All-get_or (IsEntry k.terms) entries i None l s.tested.stand) in
    let h = entry_holds long k.terms [] k.tests false s.known.bit.truth k held x false (first_holds k.terms [] false k.overflowed k.tests s.known) here (λ q o. absurd cc) in
    let known : AreKnown u.terms u.overflowed u.tests = record { sound = h.holds.sound; bit = record { bit = h.holds.bit; truth = h.overflows; word = h.holds.word }; bits = h.holds.all } in
    let tested : AreTested u.terms entries = record { stand = entries_later k.terms u.terms entries h.step s.tested.stand } in
    let d : drop i entries ≡ x ∷ drop (i + 1) entries = drop_more entries i None l ∙ ap (λ (y : Option TestedTerm). y ∷ drop (i + 1) entries) (sym b) in
    let same : facts_from long u (drop (i + 1) facts) (drop (i + 1) entries) ≡ end =
    ap (λ (j : Fact). facts_from long (with_entry long k j x) (drop (i + 1) facts) (drop (i + 1) entries)) a
    ∙ (sym (facts_from-drop long facts i k x (drop (i + 1) entries)) ∙ (ap (facts_from long k (drop i facts)) (sym d) ∙ s.same)) in
    subst (λ (j : FactTerms). IsFactStep long first (i + 1) facts entries j end) (sym n) (record { known = known; tested = tested; kept = KeepsTerms-both first k.terms u.terms s.kept h.step; same = same })
