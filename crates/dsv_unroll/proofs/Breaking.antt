-- The root of the overflow goal is 1 exactly where the inputs break.
use Rattle.std.proofs.Common.{◌≡◌, ℕ, zero, suc, ◌+◌, ◌^◌, ◌<◌, ◌≤◌, Bool, true, false, ◌&&◌, ◌||◌, List, [], ◌∷◌, refl, arith, ap, sym, subst, ◌∙◌, length, map, replicate}
use Rattle.std.specs.Prelude.{int_le, slice_index, slice_index_or, ◌≤ℤ◌}
use Rattle.std.specs.List.{All, Contains}
use Rattle.std.proofs.Math.IntN.{ℤ, pos}
use Rattle.std.proofs.lemmas.Int.{ints}
use Rattle.std.proofs.lemmas.Nat.{pow_pos}
use Rattle.std.proofs.lemmas.List.{length-map, length-replicate, get_or-map, get_or-replicate}
use Rattle.std.proofs.lemmas.List.Elements.{All-replicate, All-nil, All-cons, All-head, All-tail, All-from_get_or}
use Rattle.dsv_word.specs.declared.format.Format.{Format}
use Rattle.dsv_word.specs.Words.{width, lo, hi, IsWord}
use Rattle.dsv_system.specs.Runs.{SampleRow, rows_from, row_at}
use Rattle.dsv_system.specs.Systems.{zeros, AreInRange}
use Rattle.dsv_system.specs.Breaks.{Breaks, IsOutside}
use Rattle.dsv_linear.specs.declared.fact.Fact.{Fact}
use Rattle.dsv_linear.specs.Facts.{exact_values, Hold, AreFacts}
use Rattle.dsv_linear.specs.Known.{facts_of}
use Rattle.dsv_netlist.specs.Nodes.{Net, at, step_of}
use Rattle.dsv_netlist.specs.Conditions.{IsNetlist}
use Rattle.dsv_term.specs.declared.node.TermId.{TermId}
use Rattle.dsv_term.specs.declared.node.TermNode.TheVariants.{Constant}
use Rattle.dsv_term.specs.declared.word.Word.{Word}
use Rattle.dsv_term.specs.Building.{Built, built_of, with_node}
use Rattle.dsv_term.specs.Growth.{AreSound}
use Rattle.dsv_term.specs.Terms.{KeepsTerms, AreValues, width_of, word_of, HasBits}
use Rattle.dsv_term.specs.TermsView.{TermsView, no_terms}
use Rattle.dsv_term.specs.Word.{IsWidth, bit_of}
use Rattle.dsv_term.proofs.Made.{KeepsTerms-both}
use Rattle.dsv_term.proofs.Building.{KeepsTerms-self, constant_gives}
use Rattle.dsv_term.proofs.Complement.{IsSpelled, wider_spelled}
use Rattle.dsv_unroll.specs.FactTests.{FactTerms, facts_from, is_long}
use Rattle.dsv_unroll.specs.Goals.{InputTerms, inputs_from, RunTerms, run_from, run_tests, conjunction_from, overflow_with, overflow_of}
use Rattle.dsv_unroll.specs.Ready.{IsValue, AreBits, AreRunReady, AreTested, AreKnown}
use Rattle.dsv_unroll.specs.Rules.{term_at}
use Rattle.dsv_unroll.specs.Words.{spelled_word, spelled_words, Tells}
use Rattle.dsv_unroll.proofs.RuleTerms.{Spells}
use Rattle.dsv_unroll.proofs.FitTerms.{is_outside}
use Rattle.dsv_unroll.proofs.Follows.{Means, means_later}
use Rattle.dsv_unroll.proofs.NodeTerms.{width_some, width_small}
use Rattle.dsv_unroll.proofs.Runs.{any_outside, breaks_from, RegistersMean, InputsMean, RunFollows, run_follows}
use Rattle.dsv_unroll.proofs.TestedTerms.{TestsHold, run_holds}
use Rattle.dsv_unroll.proofs.FactTerms.{word_inside, inside_word, facts_hold, first_holds}
use Rattle.dsv_unroll.proofs.SampleSteps.{bits_later}
use Rattle.dsv_unroll.proofs.InputTests.{bits_kept, bit_added, no_bits_mean, TestsMean, tests_later, joined-split, InputsStand, inputs_stand, words_at, with_range, all_in_range, Joins, conjunction_joins, conjunction_keeps, conjunction_from-both}
use Rattle.dsv_unroll.proofs.ValueTerms.{value_of, value_right}
use Rattle.dsv_netlist.specs.Systems.{runs_of}

-- ---- a break
outside_no_word : (f : Format) (e : ℤ) → is_outside (width f) e ≡ true → IsWord f e → ⊥
outside_no_word f e h w = let i = word_inside f e w in let c : true ≡ false = sym h ∙ i in cc

no_word_outside : (f : Format) (e : ℤ) → (IsWord f e → ⊥) → is_outside (width f) e ≡ true
no_word_outside f e h = by (is_outside (width f) e) refl
  where
    by : (q : Bool) → is_outside (width f) e ≡ q → q ≡ true
    by true g = refl
    by false g = absurd (h (inside_word f e g))

some_by : (f : Format) (e : ℤ) (es : List ℤ) (q : Bool) → is_outside (width f) e ≡ q → any_outside f (e ∷ es) ≡ true → (any_outside f es ≡ true → (d : ℤ) × Contains es d × (IsWord f d → ⊥)) → (d : ℤ) × Contains (e ∷ es) d × (IsWord f d → ⊥)
some_by f e es true g h rest = (e, (0, omega arith, refl), outside_no_word f e g)
some_by f e es false g h rest =
    let r = rest (rw g at h) in
    let c = r.1 in
    (r.0, (suc c.0, (let l = c.1 in omega arith), c.2), r.2)

some_outside : (f : Format) (es : List ℤ) → any_outside f es ≡ true → (e : ℤ) × Contains es e × (IsWord f e → ⊥)
some_outside f [] h = absurd cc
some_outside f (e ∷ es) h = some_by f e es (is_outside (width f) e) refl h (some_outside f es)

or_right : (a : Bool) → (a || true) ≡ true
or_right true = refl
or_right false = refl

outside_by : (f : Format) (d : ℤ) (ds : List ℤ) (e : ℤ) (k : ℕ) → k < length (d ∷ ds) → slice_index_or (d ∷ ds) k e ≡ e → (IsWord f e → ⊥) → (Contains ds e → any_outside f ds ≡ true) → any_outside f (d ∷ ds) ≡ true
outside_by f d ds e zero l g h rest = rw (no_word_outside f d (λ w. h (subst (IsWord f) g w))) refl
outside_by f d ds e (suc k) l g h rest = rw (rest (k, omega arith, g)) (or_right (is_outside (width f) d))

outside_some : (f : Format) (es : List ℤ) (e : ℤ) → Contains es e → (IsWord f e → ⊥) → any_outside f es ≡ true
outside_some f [] e c h = absurd (let l = c.1 in omega arith)
outside_some f (d ∷ ds) e c h = outside_by f d ds e c.0 c.1 c.2 h (λ k. outside_some f ds e k h)

-- a row with a break
abbrev pub BrokenRow : Format → List SampleRow → Type 0
BrokenRow f rs = (r : SampleRow) × Contains rs r × IsOutside f r

broken_here : (f : Format) (r : SampleRow) (rs : List SampleRow) → IsOutside f r → BrokenRow f (r ∷ rs)
broken_here f r rs o = (r, (0, omega arith, refl), o)

broken_later : (f : Format) (r : SampleRow) (rs : List SampleRow) → BrokenRow f rs → BrokenRow f (r ∷ rs)
broken_later f r rs b = let c = b.1 in (b.0, (suc c.0, (let l = c.1 in omega arith), c.2), b.2)

breaks_stay : (net : Net) (rs zs : List ℤ) → breaks_from net true rs zs ≡ true
breaks_stay net rs [] = refl
breaks_stay net rs (z ∷ zs) = breaks_stay net (step_of net rs z).past zs

breaks_row_by : (net : Net) (rs : List ℤ) (z : ℤ) (zs : List ℤ) (q : Bool) → any_outside net.format (step_of net rs z).exact ≡ q → breaks_from net q (step_of net rs z).past zs ≡ true
    → (breaks_from net false (step_of net rs z).past zs ≡ true → BrokenRow net.format (rows_from (step_of net) (step_of net rs z).past zs)) → BrokenRow net.format (rows_from (step_of net) rs (z ∷ zs))
breaks_row_by net rs z zs true g h rest = broken_here net.format (row_at (step_of net rs z) z) (rows_from (step_of net) (step_of net rs z).past zs) (some_outside net.format (step_of net rs z).exact g)
breaks_row_by net rs z zs false g h rest = broken_later net.format (row_at (step_of net rs z) z) (rows_from (step_of net) (step_of net rs z).past zs) (rest h)

pub breaks_row : (net : Net) (rs zs : List ℤ) → breaks_from net false rs zs ≡ true → BrokenRow net.format (rows_from (step_of net) rs zs)
breaks_row net rs [] h = absurd cc
breaks_row net rs (z ∷ zs) h = breaks_row_by net rs z zs (any_outside net.format (step_of net rs z).exact) refl h (breaks_row net (step_of net rs z).past zs)

breaks_more : (net : Net) (rs zs : List ℤ) (q : Bool) → breaks_from net false rs zs ≡ true → breaks_from net q rs zs ≡ true
breaks_more net rs zs true h = breaks_stay net rs zs
breaks_more net rs zs false h = h

row_breaks_by : (net : Net) (rs : List ℤ) (z : ℤ) (zs : List ℤ) (r : SampleRow) (k : ℕ) → k < length (rows_from (step_of net) rs (z ∷ zs)) → slice_index_or (rows_from (step_of net) rs (z ∷ zs)) k r ≡ r → IsOutside net.format r
    → (BrokenRow net.format (rows_from (step_of net) (step_of net rs z).past zs) → breaks_from net false (step_of net rs z).past zs ≡ true) → breaks_from net false rs (z ∷ zs) ≡ true
row_breaks_by net rs z zs r zero l g o rest =
    let p = subst (IsOutside net.format) (sym g) o in
    rw (outside_some net.format (step_of net rs z).exact p.0 p.1 p.2) (breaks_stay net (step_of net rs z).past zs)
row_breaks_by net rs z zs r (suc k) l g o rest = breaks_more net (step_of net rs z).past zs (any_outside net.format (step_of net rs z).exact) (rest (r, (k, omega arith, g), o))

pub row_breaks : (net : Net) (rs zs : List ℤ) → BrokenRow net.format (rows_from (step_of net) rs zs) → breaks_from net false rs zs ≡ true
row_breaks net rs [] b = absurd (let l = b.1.1 in omega arith)
row_breaks net rs (z ∷ zs) b = row_breaks_by net rs z zs b.0 b.1.0 b.1.1 b.1.2 b.2 (row_breaks net (step_of net rs z).past zs)

-- ---- the range
range_one : (low high z : ℤ) → (low ≤ℤ z) × (z ≤ℤ high) → with_range low high true z ≡ true
range_one low high z h =
    let a : int_le low z ≡ true = (let l = h.0 in grind (arith, ints)) in
    let b : int_le z high ≡ true = (let k = h.1 in grind (arith, ints)) in
    rw (a, b) refl

range_from : (low high z : ℤ) (q : Bool) → with_range low high q z ≡ true → (q ≡ true) × (low ≤ℤ z) × (z ≤ℤ high)
range_from low high z true h = by (int_le low z) (int_le z high) refl refl h
  where
    by : (a b : Bool) → int_le low z ≡ a → int_le z high ≡ b → ((true && a) && b) ≡ true → (true ≡ true) × (low ≤ℤ z) × (z ≤ℤ high)
    by true true e g k = (refl, grind (arith, ints), grind (arith, ints))
    by true false e g k = absurd cc
    by false b e g k = absurd cc
range_from low high z false h = absurd cc

all_before : (low high : ℤ) (q : Bool) (zs : List ℤ) → all_in_range low high q zs ≡ true → q ≡ true
all_before low high q [] h = h
all_before low high q (z ∷ zs) h = (range_from low high z q (all_before low high (with_range low high q z) zs h)).0

pub all_range : (low high : ℤ) (q : Bool) (zs : List ℤ) → all_in_range low high q zs ≡ true → AreInRange low high zs
all_range low high q [] h = All-nil (λ x. (low ≤ℤ x) × (x ≤ℤ high))
all_range low high q (z ∷ zs) h =
    let r = range_from low high z q (all_before low high (with_range low high q z) zs h) in
    All-cons (λ x. (low ≤ℤ x) × (x ≤ℤ high)) z zs (r.1, r.2) (all_range low high (with_range low high q z) zs h)

pub range_all : (low high : ℤ) (zs : List ℤ) → AreInRange low high zs → all_in_range low high true zs ≡ true
range_all low high [] h = refl
range_all low high (z ∷ zs) h = rw (range_one low high z (All-head (λ x. (low ≤ℤ x) × (x ≤ℤ high)) z zs h)) (range_all low high zs (All-tail (λ x. (low ≤ℤ x) × (x ≤ℤ high)) z zs h))

-- ---- the values
-- words in range are their values
values_right : (n : ℕ) (low high : ℤ) (q : Bool) (zs : List ℤ) → n ≤ 128 → all_in_range low high q zs ≡ true → map (value_of n low high) zs ≡ zs
values_right n low high q [] s h = refl
values_right n low high q (z ∷ zs) s h =
    let r = range_from low high z q (all_before low high (with_range low high q z) zs h) in
    rw (value_right n low high z s r.1 r.2) (ap (λ (ys : List ℤ). z ∷ ys) (values_right n low high (with_range low high q z) zs s h))

no_more : (a b : Bool) → (a && false) ≡ (b && false)
no_more true true = refl
no_more true false = refl
no_more false true = refl
no_more false false = refl

-- so what is said of the values is said of the words, where these are in range
pub values_say : (f : Format) (low high : ℤ) (said : List ℤ → Bool) (zs : List ℤ) → (said (map (value_of (width f) low high) zs) && all_in_range low high true zs) ≡ (said zs && all_in_range low high true zs)
values_say f low high said zs = by (all_in_range low high true zs) refl
  where
    by : (q : Bool) → all_in_range low high true zs ≡ q → (said (map (value_of (width f) low high) zs) && q) ≡ (said zs && q)
    by true e = ap (λ (ys : List ℤ). said ys && true) (values_right (width f) low high true zs (let s = width_small f in omega arith) e)
    by false e = no_more (said (map (value_of (width f) low high) zs)) (said zs)

-- ---- what the root says
pub both_true : (a b : Bool) → (a && b) ≡ true → (a ≡ true) × (b ≡ true)
both_true true true h = (refl, refl)
both_true true false h = absurd cc
both_true false b h = absurd cc

bit_number : (q : Bool) → bit_of q ≡ bit_of true → q ≡ true
bit_number true h = refl
bit_number false h = absurd (let e = ap (λ (w : Word). w.number) h in cc)

pub tells_by : (w : Word) (P : Type 0) (q : Bool) → w ≡ bit_of q → (q ≡ true → P) → (P → q ≡ true) → Tells w P
tells_by w P true e f g = record { one = λ p. e; zero = λ n. absurd (n (f refl)); only = λ k. f refl }
tells_by w P false e f g = record { one = λ p. e ∙ ap bit_of (g p); zero = λ n. e; only = λ k. f (bit_number false (sym e ∙ k)) }

truth_breaks : (net : Net) (low high : ℤ) (zs : List ℤ) → (breaks_from net false (zeros (length net.next)) zs && all_in_range low high true zs) ≡ true → Breaks (runs_of net) low high zs
truth_breaks net low high zs h =
    let b = both_true (breaks_from net false (zeros (length net.next)) zs) (all_in_range low high true zs) h in
    record { in_range = all_range low high true zs b.1; broken = breaks_row net (zeros (length net.next)) zs b.0 }

breaks_truth : (net : Net) (low high : ℤ) (zs : List ℤ) → Breaks (runs_of net) low high zs → (breaks_from net false (zeros (length net.next)) zs && all_in_range low high true zs) ≡ true
breaks_truth net low high zs h = rw (row_breaks net (zeros (length net.next)) zs h.broken, range_all low high zs h.in_range) refl

-- ---- the goal
pub words_map : (f : Format) (values all : List ℕ) (j : ℕ) → ((i : ℕ) → i < length values → slice_index values i ≡ slice_index all (j + i)) → words_at (width f) all j (length values) ≡ spelled_words f values
words_map f [] all j h = refl
words_map f (v ∷ values) all j h =
    let z : j + 0 ≡ j = omega arith in
    let e : slice_index all j ≡ v = sym (h 0 (omega arith) ∙ ap (slice_index all) z) in
    rw e (ap (λ (zs : List ℤ). spelled_word f v ∷ zs) (words_map f values all (j + 1) (λ i p. h (suc i) (omega arith) ∙ ap (slice_index all) (let k : j + suc i ≡ j + 1 + i = omega arith in k))))

pub word_spelled : (f : Format) (z : ℤ) → IsSpelled (width f) z → IsWord f z
word_spelled f z s = let l = s.low in let k = s.high in record { low = l; high = omega (arith, ints) }

pub zero_bit_spelled : IsSpelled 1 (pos 0)
zero_bit_spelled = record { low = omega (arith, ints); high = omega (arith, ints) }

pub word_width : (f : Format) → IsWidth (width f)
word_width f = record { some = width_some f; narrow = let h = width_small f in omega arith }

-- what stands after the inputs, and after the zero
pub record Starts (net : Net) (values : List ℕ) (low high : ℤ) (samples : ℕ) (i : InputTerms) (t : TermsView) (zero_bit : TermId) : Type 0 where
  pub ready : AreRunReady net (replicate (length net.next) zero_bit) i.ids t zero_bit
  pub bits : AreBits t i.tests
  pub overflows : (vs : List ℕ) → word_of t vs zero_bit ≡ bit_of false
  pub registers : RegistersMean t values (replicate (length net.next) zero_bit) (zeros (length net.next))
  pub inputs : InputsMean net.format t values i.ids (map (value_of (width net.format) low high) (words_at (width net.format) values 0 samples))
  pub tests : TestsMean t values i.tests (all_in_range low high true (words_at (width net.format) values 0 samples))
  pub sound : AreSound t
  pub count : length t.inputs ≡ samples
  pub widths : (j : ℕ) → j < length t.inputs → slice_index t.inputs j ≡ width net.format

-- before the first input, after terms whose inputs have n bits
pub none_stand : (n : ℕ) (low high : ℤ) (values : List ℕ) (base : TermsView) → AreSound base → ((i : ℕ) → i < length base.inputs → slice_index base.inputs i ≡ n) → InputsStand n low high values base (record { terms = base; ids = []; tests = [] }) [] true
none_stand n low high values base s w =
    record {
      sound = s;
      kept = KeepsTerms-self base;
      count = omega arith;
      words = refl;
      widths = w;
      stand = λ k p. absurd (omega arith);
      mean = λ k p. absurd (omega arith);
      bits = record { stand = λ k p. absurd (omega arith) };
      tests = record { truths = []; mean = no_bits_mean base values; all = refl };
    }

pub words_at-length : (n : ℕ) (values : List ℕ) (j k : ℕ) → length (words_at n values j k) ≡ k
words_at-length n values j zero = refl
words_at-length n values j (suc k) = omega (arith, words_at-length n values (j + 1) k)

-- terms with no node
pub none_sound : AreSound no_terms
none_sound = record { inputs = λ k d p. absurd (omega arith); lawful = tt }

-- the inputs' terms spell values that are words
pub inputs_mean : (f : Format) (values : List ℕ) (low high : ℤ) (base : TermsView) (i : InputTerms) (zs : List ℤ) (q : Bool) → InputsStand (width f) low high values base i zs q → InputsMean f i.terms values i.ids (map (value_of (width f) low high) zs)
inputs_mean f values low high base i zs q s =
    let v : ℤ → ℤ = value_of (width f) low high in
    let at_v : (j : ℕ) → j < length zs → at (map v zs) j ≡ v (at zs j) = λ j p. get_or-map v zs j (pos 0) (pos 0) p in
    record {
      count = sym s.words ∙ sym (length-map zs v);
      each = λ j p. let h : j < length zs = (let e = s.words in omega arith) in subst (Means i.terms values (term_at i.ids j)) (sym (at_v j h)) (s.mean j p);
      words = All-from_get_or (IsWord f) (map v zs) (pos 0) (λ j p.
          let h : j < length zs = omega (arith, length-map zs v) in
          let o : j < length i.ids = (let e = s.words in omega arith) in
          subst (IsWord f) (sym (at_v j h)) (word_spelled f (v (at zs j)) (wider_spelled (width_of i.terms (term_at i.ids j)) (width f) (v (at zs j)) (s.stand j o).narrow (s.mean j o).spells.fits)));
    }

pub inputs_mean_later : (f : Format) (t u : TermsView) (values : List ℕ) (inputs : List TermId) (xs : List ℤ) → KeepsTerms t u → ((i : ℕ) → i < length inputs → (term_at inputs i).0 < length t.nodes) → InputsMean f t values inputs xs → InputsMean f u values inputs xs
inputs_mean_later f t u values inputs xs k h m = record { count = m.count; each = λ j p. means_later t u values (term_at inputs j) (at xs j) k (h j p) (m.each j p); words = m.words }

pub starts_by : (net : Net) (values : List ℕ) (low high : ℤ) (samples : ℕ) (i : InputTerms) → InputsStand (width net.format) low high values no_terms i (words_at (width net.format) values 0 samples) (all_in_range low high true (words_at (width net.format) values 0 samples))
    → Starts net values low high samples i (with_node i.terms (Constant 1 0)).terms (with_node i.terms (Constant 1 0)).id
starts_by net values low high samples i s =
    let n = width net.format in
    let zs = words_at n values 0 samples in
    let m = length net.next in
    let u = with_node i.terms (Constant 1 0) in
    let g = constant_gives i.terms 1 0 s.sound (record { some = omega arith; narrow = omega arith }) (omega arith) in
    let k = g.adds.kept in
    let small = width_small net.format in
    let value : IsValue u.terms u.id = record { stands = g.adds.stands; narrow = let e = g.adds.width in omega (arith, e) } in
    let zero_bit : Means u.terms values u.id (pos 0) = record { spells = subst (λ (w : ℕ). Spells u.terms values u.id w (pos 0)) (sym g.adds.width) (record { word = g.word values; fits = zero_bit_spelled }) } in
    let at_k : (j : ℕ) → j < length (replicate m u.id) → term_at (replicate m u.id) j ≡ u.id = λ j p. get_or-replicate m j u.id (record { 0 = 0 }) (omega (arith, length-replicate m u.id)) in
    let zero_k : (j : ℕ) → j < length (replicate m u.id) → at (zeros m) j ≡ pos 0 = λ j p. get_or-replicate m j (pos 0) (pos 0) (omega (arith, length-replicate m u.id)) in
    record {
      ready = record {
        sound = g.adds.sound;
        count = length-replicate m u.id;
        registers_stand = λ j p. subst (IsValue u.terms) (sym (at_k j p)) value;
        inputs_stand = λ j p. let h = s.stand j p in let e = k.widths (term_at i.ids j) h.stands in record { stands = k.longer (term_at i.ids j) h.stands; narrow = omega (arith, h.narrow) };
        overflowed_stands = g.adds.stands;
        overflowed_bit = g.adds.width;
      };
      bits = bits_later i.terms u.terms i.tests k s.bits;
      overflows = g.word;
      registers = record { each = λ j p. rw (at_k j p, zero_k j p) zero_bit };
      inputs = inputs_mean_later net.format i.terms u.terms values i.ids (map (value_of n low high) zs) k (λ j p. (s.stand j p).stands) (inputs_mean net.format values low high no_terms i zs (all_in_range low high true zs) s);
      tests = tests_later i.terms u.terms values i.tests (all_in_range low high true zs) k s.bits s.tests;
      sound = g.adds.sound;
      count = (let e = s.count in let w = s.words in omega (arith, ap length g.adds.inputs, words_at-length n values 0 samples));
      widths = λ j p. ap (λ (is : List ℕ). slice_index is j) g.adds.inputs ∙ s.widths j (let e = ap length g.adds.inputs in omega arith);
    }

pub inputs_of : (net : Net) (values : List ℕ) (low high : ℤ) (samples : ℕ) → low ≤ℤ hi (width net.format) → lo (width net.format) ≤ℤ high → ((j : ℕ) → j < samples → slice_index values j < 2 ^ width net.format)
    → InputsStand (width net.format) low high values no_terms (inputs_from (width net.format) low high samples (record { terms = no_terms; ids = []; tests = [] })) (words_at (width net.format) values 0 samples) (all_in_range low high true (words_at (width net.format) values 0 samples))
inputs_of net values low high samples l h f =
    inputs_stand (width net.format) low high values no_terms samples (record { terms = no_terms; ids = []; tests = [] }) [] true (word_width net.format) l h (λ j p. f j (omega arith)) (none_stand (width net.format) low high values no_terms none_sound (λ j p. absurd (omega arith)))

pub record GoalStands (net : Net) (low high : ℤ) (samples : ℕ) (values : List ℕ) (g : Built) : Type 0 where
  pub bit : HasBits g.terms g.id 1
  pub word : word_of g.terms values g.id ≡ bit_of (breaks_from net false (zeros (length net.next)) (words_at (width net.format) values 0 samples) && all_in_range low high true (words_at (width net.format) values 0 samples))
  pub count : length g.terms.inputs ≡ samples
  pub widths : (j : ℕ) → j < length g.terms.inputs → slice_index g.terms.inputs j ≡ width net.format

zeros_words : (net : Net) → All (IsWord net.format) (zeros (length net.next))
zeros_words net = All-replicate (IsWord net.format) (length net.next) (pos 0) (word_spelled net.format (pos 0) (wider_spelled 1 (width net.format) (pos 0) (width_some net.format) zero_bit_spelled))

-- before the first fact
first_known : (net : Net) (i : InputTerms) (t : TermsView) (zero_bit : TermId) (run : RunTerms) → AreRunReady net (replicate (length net.next) zero_bit) i.ids t zero_bit → ((vs : List ℕ) → word_of t vs zero_bit ≡ bit_of false) → AreBits t i.tests → AreSound run.terms → KeepsTerms t run.terms
    → AreKnown run.terms zero_bit i.tests
first_known net i t zero_bit run r w b s k =
    record {
      sound = s;
      bit = record { bit = bits_kept t run.terms zero_bit 1 k (record { stands = r.overflowed_stands; width = r.overflowed_bit }); truth = λ vs. false; word = λ vs. k.words vs zero_bit r.overflowed_stands ∙ w vs };
      bits = bits_later t run.terms i.tests k b;
    }

-- the run over the inputs' values
starts_holds : (net : Net) (values : List ℕ) (low high : ℤ) (samples : ℕ) (i : InputTerms) (t : TermsView) (zero_bit : TermId) → IsNetlist net → Starts net values low high samples i t zero_bit
    → let start : RunTerms = record { terms = t; registers = replicate (length net.next) zero_bit; overflowed = zero_bit } in let vs = map (value_of (width net.format) low high) (words_at (width net.format) values 0 samples) in
    TestsHold (run_from net i.ids start).terms values (width net.format) (run_tests net i.ids start) (exact_values (rows_from (step_of net) (zeros (length net.next)) vs)) false
starts_holds net values low high samples i t zero_bit h s =
    let m = length net.next in
    let vs = map (value_of (width net.format) low high) (words_at (width net.format) values 0 samples) in
    run_holds net values i.ids vs (record { terms = t; registers = replicate m zero_bit; overflowed = zero_bit }) (zeros m) false h (length-replicate m (pos 0)) (zeros_words net) s.ready (s.overflows values) (λ e. s.registers) s.inputs

pub starts_follow : (net : Net) (values : List ℕ) (low high : ℤ) (samples : ℕ) (i : InputTerms) (t : TermsView) (zero_bit : TermId) → IsNetlist net → Starts net values low high samples i t zero_bit
    → let start : RunTerms = record { terms = t; registers = replicate (length net.next) zero_bit; overflowed = zero_bit } in let vs = map (value_of (width net.format) low high) (words_at (width net.format) values 0 samples) in
    RunFollows net values t (run_from net i.ids start) (breaks_from net false (zeros (length net.next)) vs)
starts_follow net values low high samples i t zero_bit h s =
    let m = length net.next in
    let vs = map (value_of (width net.format) low high) (words_at (width net.format) values 0 samples) in
    run_follows net values i.ids vs (record { terms = t; registers = replicate m zero_bit; overflowed = zero_bit }) (zeros m) false h (length-replicate m (pos 0)) (zeros_words net) s.ready (s.overflows values) (λ e. s.registers) s.inputs

-- the facts of the run over values, where the words are in range
facts_known : (net : Net) (low high : ℤ) (samples : ℕ) (facts : List Fact) (zs : List ℤ) → AreFacts net low high samples facts → length zs ≡ samples → all_in_range low high true zs ≡ true
    → Hold net.format facts (exact_values (rows_from (step_of net) (zeros (length net.next)) (map (value_of (width net.format) low high) zs)))
facts_known net low high samples facts zs a c q =
    let e = values_right (width net.format) low high true zs (let s = width_small net.format in omega arith) q in
    subst (λ (ys : List ℤ). Hold net.format facts (exact_values (rows_from (step_of net) (zeros (length net.next)) ys))) (sym e) (a zs c (all_range low high true zs q))

-- the bit of a run and the tests of the inputs, joined after terms that keep those of the start
pub range_joins : (net : Net) (values : List ℕ) (low high : ℤ) (samples : ℕ) (i : InputTerms) (u t : TermsView) (zero_bit overflowed : TermId) (b : Bool) → Starts net values low high samples i u zero_bit → AreSound t → HasBits t overflowed 1 → word_of t values overflowed ≡ bit_of b → KeepsTerms u t
    → Joins values t (conjunction_from (built_of t overflowed) i.tests) (b && all_in_range low high true (words_at (width net.format) values 0 samples))
range_joins net values low high samples i u t zero_bit overflowed b s sound bit overflows kept =
    let q = all_in_range low high true (words_at (width net.format) values 0 samples) in
    let m = tests_later u t values i.tests q kept s.bits s.tests in
    let j = conjunction_joins values t overflowed i.tests m.truths b sound bit overflows (bits_later u t i.tests kept s.bits) m.mean in
    record { adds = j.adds; word = j.word ∙ ap bit_of (joined-split b m.truths ∙ ap (λ (c : Bool). b && c) m.all) }

pub goal_stands : (net : Net) (low high : ℤ) (samples : ℕ) (facts : List Fact) (values : List ℕ) → IsNetlist net → low ≤ℤ hi (width net.format) → lo (width net.format) ≤ℤ high → AreFacts net low high samples facts
    → ((j : ℕ) → j < samples → slice_index values j < 2 ^ width net.format) → GoalStands net low high samples values (overflow_with net low high samples facts)
unfolding first_known
goal_stands net low high samples facts values net_ l h a f =
    let zs = words_at (width net.format) values 0 samples in
    let m = length net.next in
    let i = inputs_from (width net.format) low high samples (record { terms = no_terms; ids = []; tests = [] }) in
    let s = starts_by net values low high samples i (inputs_of net values low high samples l h f) in
    let u = with_node i.terms (Constant 1 0) in
    let start : RunTerms = record { terms = u.terms; registers = replicate m u.id; overflowed = u.id } in
    let run = run_from net i.ids start in
    let entries = run_tests net i.ids start in
    let vs = map (value_of (width net.format) low high) zs in
    let r = starts_follow net values low high samples i u.terms u.id net_ s in
    let b = breaks_from net false (zeros m) vs in
    let q = all_in_range low high true zs in
    let first : FactTerms = record { terms = run.terms; overflowed = u.id; tests = i.tests } in
    let long = is_long samples in
    let k = facts_from long first facts entries in
    let tests = starts_holds net values low high samples i u.terms u.id net_ s in
    let e = facts_hold long run.terms values net.format i.tests q facts entries (exact_values (rows_from (step_of net) (zeros m) vs)) (λ o. false) first
    (first_holds run.terms values q u.id i.tests (first_known net i u.terms u.id run s.ready s.overflows s.bits r.ready.sound r.kept)) tests.stand
    (λ o p. (tests.say refl, facts_known net low high samples facts zs a (words_at-length (width net.format) values 0 samples) o)) in
    let g = e.holds in
    let kept = KeepsTerms-both u.terms run.terms k.terms r.kept g.kept in
    let overflowed = bits_kept run.terms k.terms run.overflowed 1 g.kept (record { stands = r.stands; width = r.bit }) in
    let overflows = g.kept.words values run.overflowed r.stands ∙ r.overflows in
    let j = range_joins net values low high samples i u.terms k.terms u.id run.overflowed b s g.sound overflowed overflows kept in
    let one = conjunction_from (built_of k.terms run.overflowed) i.tests in
    let n = conjunction_keeps values one.terms one.id g.more (b && q) j.adds.sound (bit_added k.terms one.terms one.id j.adds) j.word (bits_later k.terms one.terms g.more j.adds.kept g.bits)
    (λ o d p. j.adds.kept.words values (term_at g.more d) (g.bits.stand d p).stands ∙ g.ones (both_true b q o).1 d p) in
    let end : conjunction_from (built_of k.terms run.overflowed) k.tests ≡ conjunction_from one g.more = ap (conjunction_from (built_of k.terms run.overflowed)) g.tests ∙ conjunction_from-both (built_of k.terms run.overflowed) i.tests g.more in
    let same = n.adds.inputs ∙ (j.adds.inputs ∙ (g.inputs ∙ r.inputs)) in
    subst (GoalStands net low high samples values) (sym end) (record {
      bit = (let a = n.adds in record { stands = a.stands; width = a.width });
      word = n.word ∙ ap bit_of (values_say net.format low high (breaks_from net false (zeros m)) zs);
      count = ap length same ∙ s.count;
      widths = λ d p. ap (λ (is : List ℕ). slice_index is d) same ∙ s.widths d (let c = ap length same in omega arith);
    })

pub overflow_tells : (net : Net) (low high : ℤ) (samples : ℕ) (facts : List Fact) (values : List ℕ) → IsNetlist net → low ≤ℤ hi (width net.format) → lo (width net.format) ≤ℤ high → AreFacts net low high samples facts
    → let g = overflow_with net low high samples facts in AreValues g.terms.inputs values → Tells (word_of g.terms values g.id) (Breaks (runs_of net) low high (spelled_words net.format values))
overflow_tells net low high samples facts values net_ l h a v =
    let o = overflow_with net low high samples facts in
    let none = goal_stands net low high samples facts [] net_ l h a (λ j p. pow_pos (width net.format)) in
    let c : length values ≡ samples = v.count ∙ none.count in
    let f : (j : ℕ) → j < samples → slice_index values j < 2 ^ width net.format = λ j p. (let q : j < length o.terms.inputs = omega (arith, none.count) in subst (λ (w : ℕ). slice_index values j < 2 ^ w) (none.widths j q) (v.fit j q)) in
    let g = goal_stands net low high samples facts values net_ l h a f in
    let e : words_at (width net.format) values 0 samples ≡ spelled_words net.format values = ap (words_at (width net.format) values 0) (sym c) ∙ words_map net.format values values 0 (λ i p. ap (slice_index values) (let z : i ≡ 0 + i = omega arith in z)) in
    let zs = words_at (width net.format) values 0 samples in
    subst (λ (ys : List ℤ). Tells (word_of o.terms values o.id) (Breaks (runs_of net) low high ys)) e
    (tells_by (word_of o.terms values o.id) (Breaks (runs_of net) low high zs) (breaks_from net false (zeros (length net.next)) zs && all_in_range low high true zs) g.word (truth_breaks net low high zs) (breaks_truth net low high zs))

-- a list of one number is known by its length
pub same_items : (n : ℕ) (xs : List ℕ) (k : ℕ) → length xs ≡ k → ((j : ℕ) → j < length xs → slice_index xs j ≡ n) → xs ≡ replicate k n
same_items n [] zero e h = refl
same_items n [] (suc k) e h = absurd (omega arith)
same_items n (x ∷ xs) zero e h = absurd (omega arith)
same_items n (x ∷ xs) (suc k) e h = ap (λ (ys : List ℕ). x ∷ ys) (same_items n xs k (omega arith) (λ j p. h (suc j) (omega arith))) ∙ ap (λ (y : ℕ). y ∷ replicate k n) (h 0 (omega arith))

pub overflow_inputs : (net : Net) (low high : ℤ) (samples : ℕ) (facts : List Fact) → IsNetlist net → low ≤ℤ hi (width net.format) → lo (width net.format) ≤ℤ high → AreFacts net low high samples facts
    → (overflow_with net low high samples facts).terms.inputs ≡ replicate samples (width net.format)
overflow_inputs net low high samples facts net_ l h a =
    let none = goal_stands net low high samples facts [] net_ l h a (λ j p. pow_pos (width net.format)) in
    same_items (width net.format) (overflow_with net low high samples facts).terms.inputs samples none.count none.widths

-- ---- as the code has it
pub record AreStarted (net : Net) (registers : List TermId) (i : InputTerms) (t : TermsView) (zero_bit : TermId) : Type 0 where
  pub ready : AreRunReady net registers i.ids t zero_bit
  pub known : IsNetlist net → let start : RunTerms = record { terms = t; registers = registers; overflowed = zero_bit } in AreKnown (run_from net i.ids start).terms zero_bit i.tests
  pub tested : IsNetlist net → let start : RunTerms = record { terms = t; registers = registers; overflowed = zero_bit } in AreTested (run_from net i.ids start).terms (run_tests net i.ids start)

started : (net : Net) (low high : ℤ) (samples : ℕ) (registers : List TermId) (i : InputTerms) (t : TermsView) (zero_bit : TermId) → low ≤ℤ hi (width net.format) → lo (width net.format) ≤ℤ high
    → i ≡ inputs_from (width net.format) low high samples (record { terms = no_terms; ids = []; tests = [] }) → built_of t zero_bit ≡ with_node i.terms (Constant 1 0) → registers ≡ replicate (length net.next) zero_bit → AreStarted net registers i t zero_bit
started net low high samples registers i t zero_bit l h e b r =
    let first = inputs_from (width net.format) low high samples (record { terms = no_terms; ids = []; tests = [] }) in
    let s = starts_by net [] low high samples first (inputs_of net [] low high samples l h (λ j p. pow_pos (width net.format))) in
    let u = with_node first.terms (Constant 1 0) in
    let start : RunTerms = record { terms = u.terms; registers = replicate (length net.next) u.id; overflowed = u.id } in
    let one : AreStarted net (replicate (length net.next) u.id) first u.terms u.id = record {
      ready = s.ready;
      known = λ n. let f = starts_follow net [] low high samples first u.terms u.id n s in first_known net first u.terms u.id (run_from net first.ids start) s.ready s.overflows s.bits f.ready.sound f.kept;
      tested = λ n. record { stand = (starts_holds net [] low high samples first u.terms u.id n s).stand };
    } in
    let two = subst (λ (j : InputTerms). AreStarted net (replicate (length net.next) (with_node j.terms (Constant 1 0)).id) j (with_node j.terms (Constant 1 0)).terms (with_node j.terms (Constant 1 0)).id) (sym e) one in
    let three = subst (λ (v : Built). AreStarted net (replicate (length net.next) v.id) i v.terms v.id) (sym b) two in
    subst (λ (ids : List TermId). AreStarted net ids i t zero_bit) (sym r) three

-- from the equations that the code has
pub started_from : (net : Net) (low high : ℤ) (samples k : ℕ) (f : Format) (none : TermsView) (registers : List TermId) (i : InputTerms) (t : TermsView) (zero_bit : TermId) → low ≤ℤ hi (width net.format) → lo (width net.format) ≤ℤ high
    → i ≡ inputs_from (width f) low high samples (record { terms = none; ids = []; tests = [] }) → none ≡ no_terms → f ≡ net.format → built_of t zero_bit ≡ with_node i.terms (Constant 1 0) → registers ≡ replicate k zero_bit → k ≡ length net.next
    → AreStarted net registers i t zero_bit
started_from net low high samples k f none registers i t zero_bit l h e z g b r c =
    let from : TermsView → Format → InputTerms = λ n j. inputs_from (width j) low high samples (record { terms = n; ids = []; tests = [] }) in
    started net low high samples registers i t zero_bit l h (e ∙ (ap (λ (n : TermsView). from n f) z ∙ ap (from no_terms) g)) b (r ∙ ap (λ (j : ℕ). replicate j zero_bit) c)

pub made_tells : (net : Net) (low high : ℤ) (samples : ℕ) (t : TermsView) (root : TermId) (values : List ℕ) → built_of t root ≡ overflow_of net low high samples → IsNetlist net → low ≤ℤ hi (width net.format) → lo (width net.format) ≤ℤ high
    → AreFacts net low high samples (facts_of net low high samples) → AreValues t.inputs values → Tells (word_of t values root) (Breaks (runs_of net) low high (spelled_words net.format values))
unfolding overflow_of
made_tells net low high samples t root values e n l h a v =
    let w = subst (λ (g : Built). AreValues g.terms.inputs values) e v in
    subst (λ (g : Built). Tells (word_of g.terms values g.id) (Breaks (runs_of net) low high (spelled_words net.format values))) (sym e) (overflow_tells net low high samples (facts_of net low high samples) values n l h a w)

pub made_inputs : (net : Net) (low high : ℤ) (samples : ℕ) (t : TermsView) (root : TermId) → built_of t root ≡ overflow_of net low high samples → IsNetlist net → low ≤ℤ hi (width net.format) → lo (width net.format) ≤ℤ high
    → AreFacts net low high samples (facts_of net low high samples) → t.inputs ≡ replicate samples (width net.format)
unfolding overflow_of
made_inputs net low high samples t root e n l h a = ap (λ (g : Built). g.terms.inputs) e ∙ overflow_inputs net low high samples (facts_of net low high samples) n l h a
