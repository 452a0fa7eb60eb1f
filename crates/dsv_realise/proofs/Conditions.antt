-- The netlist of every quantised controller is one, with the counts of the table.
use Rattle.std.proofs.Common.{◌≡◌, ℕ, zero, suc, ◌+◌, ◌*◌, ◌<◌, ◌≤◌, Bool, true, false, List, [], ◌∷◌, ◌++◌, length, take, drop, refl, sym, ap, subst, ◌∙◌, arith, length-append, length-drop}
use Rattle.std.specs.Prelude.{count_by, IsTrue, ◌≤ℤ◌}
use Rattle.std.specs.List.{All}
use Rattle.std.proofs.Math.IntN.{ℤ, pos}
use Rattle.std.proofs.lemmas.Int.{ints}
use Rattle.std.proofs.lemmas.List.{length-take-le}
use Rattle.std.proofs.lemmas.List.Sums.{sum_by-cons}
use Rattle.std.proofs.lemmas.List.Elements.{All-nil, All-cons, All-push, All-weaker, All-get_or, All-take, All-drop}
use Rattle.dsv_word.specs.declared.format.Format.{Format}
use Rattle.dsv_word.specs.Words.{width, hi, IsWord}
use Rattle.dsv_netlist.specs.declared.node.Node.{Node}
use Rattle.dsv_netlist.specs.declared.node.Node.TheVariants.{Input, Reg}
use Rattle.dsv_netlist.specs.Limits.{bound_limit}
use Rattle.dsv_netlist.specs.Nodes.{Net}
use Rattle.dsv_netlist.specs.Bounds.{word_bound, bounds_from, bounds_of}
use Rattle.dsv_netlist.specs.Conditions.{AllNameBack, ReadsBelow, names_word, is_fit, IsNetlist}
use Rattle.dsv_netlist.specs.Counts.{is_product, is_sum, counts_of}
use Rattle.dsv_netlist.proofs.Naming.{names_word-below}
use Rattle.dsv_netlist.proofs.Sizes.{word_size}
use Rattle.dsv_names.specs.declared.realisation.Realisation.{Realisation}
use Rattle.dsv_names.specs.declared.realisation.Realisation.TheVariants.{Dfi, Dfii, Tdfii, Ddfi, Ddfii, Tddfii}
use Rattle.dsv_quantiser.specs.QuantisedView.{QuantisedView, IsQuantisedView, IsDeltaWord}
use Rattle.dsv_meaning.specs.declared.summands.Summand.TheVariants.{Alone}
use Rattle.dsv_meaning.specs.Lines.{summands}
use Rattle.dsv_meaning.specs.Equations.{order, feedback, first_alone, forward_summands, feedback_summands, transposed_output, registers_of, forward_registers_of, products_of, sums_of}
use Rattle.dsv_realise.specs.Making.{no_places}
use Rattle.dsv_realise.specs.Netlists.{registers_from, sources, count, shift, newest_at, first_form, second_form_state, second_form, transposed_form, transposed_nodes, delta_inputs, delta_outputs, delta_states, transposed_delta_nodes, net_with, net_as, net_of}
use Rattle.dsv_realise.specs.Running.{counts_as}
use Rattle.dsv_realise.proofs.Sources.{IsSized, sized}
use Rattle.dsv_realise.proofs.LineNodes.{length-summands}
use Rattle.dsv_realise.proofs.Growing.{AreSound, HasCounts, IsSmall, word_small, bounds-length, one_if, Grown}
use Rattle.dsv_realise.proofs.GrowingLines.{AreFit, summands_fit, fit_both, products_in-summands, products_in-append, products_in-alone, AllNamed, named_later, named_both, alone_fit}
use Rattle.dsv_realise.proofs.Totals.{line_grows, has_summands, none_alone}
use Rattle.dsv_realise.proofs.GrowingChains.{alone_few, chain_begins, transposed_grows, delta_grows, transposed_delta_grows}

-- ---- the first nodes
registers_named : (j n i : ℕ) → i < n → names_word (registers_from j n) i ≡ true
registers_named j zero i h = absurd (omega arith)
registers_named j (suc n) zero h = refl
registers_named j (suc n) (suc i) h = registers_named (j + 1) n i (omega arith)

pub sources_named : (n i : ℕ) → i < n + 1 → names_word (sources n) i ≡ true
sources_named n zero h = refl
sources_named n (suc i) h = registers_named 0 n i (omega arith)

registers_back : (k j n : ℕ) → AllNameBack k (registers_from j n)
registers_back k j zero = tt
registers_back k j (suc n) = (tt, registers_back (k + 1) (j + 1) n)

registers_read : (r j n : ℕ) → j + n ≤ r → All (ReadsBelow r) (registers_from j n)
registers_read r j zero h = λ k d l. absurd (omega arith)
registers_read r j (suc n) h = All-cons (ReadsBelow r) (Reg j) (registers_from (j + 1) n) (omega arith) (registers_read r (j + 1) n (omega arith))

registers_bound : (f : Format) (j n : ℕ) (bs : List ℕ) → All (λ b. b ≡ word_bound f) bs → All (λ b. b ≡ word_bound f) (bounds_from f (registers_from j n) bs)
registers_bound f j zero bs h = h
registers_bound f j (suc n) bs h = registers_bound f (j + 1) n (bs ++ word_bound f ∷ []) (All-push (λ b. b ≡ word_bound f) bs (word_bound f) h refl)

registers-none : (test : Node → Bool) (j n : ℕ) → ((k : ℕ) → test (Reg k) ≡ false) → count_by test (registers_from j n) ≡ 0
registers-none test j zero h = refl
registers-none test j (suc n) h =
    let e : one_if (test (Reg j)) ≡ 0 = ap one_if (h j) in
    omega (arith, sum_by-cons (λ (m : Node). one_if (test m)) (Reg j) (registers_from (j + 1) n), registers-none test (j + 1) n h, e)

sources-none : (test : Node → Bool) (n : ℕ) → test Input ≡ false → ((k : ℕ) → test (Reg k) ≡ false) → count_by test (sources n) ≡ 0
sources-none test n i h =
    let e : one_if (test Input) ≡ 0 = ap one_if i in
    omega (arith, sum_by-cons (λ (m : Node). one_if (test m)) Input (registers_from 0 n), registers-none test 0 n h, e)

registers-length : (j n : ℕ) → length (registers_from j n) ≡ n
registers-length j zero = refl
registers-length j (suc n) = ap suc (registers-length (j + 1) n)

pub sources_sound : (f : Format) (n : ℕ) → AreSound f n (sources n)
sources_sound f n =
    let w = word_bound f in
    let all : All (λ b. b ≡ w) (bounds_of f (sources n)) = registers_bound f 0 n (w ∷ []) (All-push (λ b. b ≡ w) [] w (All-nil (λ b. b ≡ w)) refl) in
    record {
      backwards = (tt, registers_back 1 0 n);
      registers = All-cons (ReadsBelow n) Input (registers_from 0 n) tt (registers_read n 0 n (omega arith));
      bounded = All-weaker (λ b. b ≡ w) (λ b. b < bound_limit) (λ b e. omega (arith, e, word_small f)) (bounds_of f (sources n)) all;
      words = λ k h. All-get_or (λ b. b ≡ w) (bounds_of f (sources n)) k 0 (omega (arith, names_word-below (sources n) k h, bounds-length f (sources n))) all;
    }

pub sources_count : (n : ℕ) → HasCounts n (sources n) 0 0
sources_count n = record {
  products = sources-none is_product n refl (λ k. refl);
  sums = sources-none is_sum n refl (λ k. refl);
  fits = omega (arith, sources-none is_fit n refl (λ k. refl));
  nodes = omega (arith, registers-length 0 n);
}

-- ---- numbers of nodes
named_count : (n j m : ℕ) → j + m ≤ n + 1 → AllNamed (sources n) (count j m)
named_count n j zero h = tt
named_count n j (suc m) h = (sources_named n j (omega arith), named_count n (j + 1) m (omega arith))

named_shift : (ns : List Node) (i k n : ℕ) → names_word ns i ≡ true → ((m : ℕ) → m < n → AllNamed ns (count k m)) → AllNamed ns (shift i k n)
named_shift ns i k zero h g = tt
named_shift ns i k (suc n) h g = (h, g n (omega arith))

pub count-length : (k n : ℕ) → length (count k n) ≡ n
count-length k zero = refl
count-length k (suc n) = ap suc (count-length (k + 1) n)

shift-length : (i k n : ℕ) → length (shift i k n) ≡ n
shift-length i k zero = refl
shift-length i k (suc n) = ap suc (count-length k n)

pub all_named : (ns : List Node) (ks : List ℕ) → AllNamed ns ks → All (λ k. IsTrue (names_word ns k)) ks
all_named ns [] h = All-nil (λ k. IsTrue (names_word ns k))
all_named ns (k ∷ ks) h = All-cons (λ j. IsTrue (names_word ns j)) k ks h.0 (all_named ns ks h.1)

-- ---- coefficients
pub small_word : (f : Format) (v : ℤ) → IsWord f v → IsSmall v
small_word f v h = omega (arith, word_size f v h, word_small f)

zero_small : (v : ℤ) → v ≡ pos 0 → IsSmall v
zero_small v e = rw e (omega arith)

positive_small : (f : Format) (v : ℤ) → pos 1 ≤ℤ v → v ≤ℤ hi (width f) → IsSmall v
positive_small f v l h = small_word f v (record { low = omega (arith, ints); high = h })

delta_small : (k : Realisation) (f : Format) (v : ℤ) → IsDeltaWord f k v → IsSmall v
delta_small Dfi f v h = zero_small v h
delta_small Dfii f v h = zero_small v h
delta_small Tdfii f v h = zero_small v h
delta_small Ddfi f v h = positive_small f v h.0 h.1
delta_small Ddfii f v h = positive_small f v h.0 h.1
delta_small Tddfii f v h = positive_small f v h.0 h.1

-- the coefficients are few and small
record IsMild (q : QuantisedView) : Type 0 where
  size : IsSized q
  few : order q ≤ 8
  b : All IsSmall q.b
  a : All IsSmall (feedback q)
  delta : IsSmall q.delta

mild : (q : QuantisedView) → IsQuantisedView q → IsMild q
mild q h = record {
  size = sized q h;
  few = omega (arith, h.few);
  b = All-weaker (IsWord q.format) IsSmall (small_word q.format) q.b h.b_words;
  a = All-weaker (IsWord q.format) IsSmall (small_word q.format) (feedback q) h.a_words;
  delta = delta_small q.realisation q.format q.delta h.delta;
}

-- ---- lines
first_grown : (q : QuantisedView) (s : ℕ) → IsMild q → s + 1 ≡ 2 * order q + 1 → Grown q.format (order q + order q) (sources (order q + order q)) (first_form q) (2 * order q + 1) s
first_grown q s m e =
    let n = order q in
    let ns = sources (n + n) in
    let bs = forward_summands q (λ (i : ℕ). i) in
    let as_ = feedback_summands q (λ (i : ℕ). i) (n + 1) in
    let fit : AreFit ns (bs ++ as_) = fit_both ns bs as_
    (summands_fit ns false q.b (λ (i : ℕ). i) 0 m.b (λ i l. sources_named (n + n) (0 + i) (omega (arith, m.size.forward))))
    (summands_fit ns true (feedback q) (λ (i : ℕ). i) (n + 1) m.a (λ i l. sources_named (n + n) (n + 1 + i) (omega (arith, m.size.back)))) in
    let lb = length-summands false q.b (λ (i : ℕ). i) 0 in
    let la = length-summands true (feedback q) (λ (i : ℕ). i) (n + 1) in
    let l = length-append bs as_ in
    line_grows q (n + n) ns 0 0 (2 * n + 1) s (bs ++ as_) (sources_sound q.format (n + n)) (sources_count (n + n)) fit
    (omega (arith, products_in-append bs as_, products_in-summands false q.b (λ (i : ℕ). i) 0, products_in-summands true (feedback q) (λ (i : ℕ). i) (n + 1), m.size.forward, m.size.back))
    (omega (arith, m.size.forward, m.size.back)) (omega (arith, m.size.forward)) (omega (arith, m.size.forward, m.size.back, m.few))
    (λ g. absurd (cc (g, has_summands false q.b (λ (i : ℕ). i) 0 as_ (omega (arith, m.size.forward)))))

state_grown : (q : QuantisedView) → IsMild q → Grown q.format (order q) (sources (order q)) (second_form_state q) (order q) (order q)
state_grown q m =
    let n = order q in
    let ns = sources n in
    let as_ = feedback_summands q (λ (i : ℕ). i) 1 in
    line_grows q n ns 0 0 n n (Alone 0 ∷ as_) (sources_sound q.format n) (sources_count n)
    (sources_named n 0 (omega arith), summands_fit ns true (feedback q) (λ (i : ℕ). i) 1 m.a (λ i l. sources_named n (1 + i) (omega (arith, m.size.back))))
    (omega (arith, products_in-summands true (feedback q) (λ (i : ℕ). i) 1, m.size.back))
    (omega (arith, length-summands true (feedback q) (λ (i : ℕ). i) 1, m.size.back)) (omega arith) (omega (arith, length-summands true (feedback q) (λ (i : ℕ). i) 1, m.size.back, m.few))
    (λ g. omega (arith, length-summands true (feedback q) (λ (i : ℕ). i) 1, none_alone true (feedback q) (λ (i : ℕ). i) 1 g))

newest_named : (ns : List Node) (p n i : ℕ) → names_word ns p ≡ true → ((j : ℕ) → j < n + 1 → names_word ns j ≡ true) → i < n + 1 → names_word ns (newest_at p i) ≡ true
newest_named ns p n zero h g l = h
newest_named ns p n (suc i) h g l = g (suc i) l

second_grown : (q : QuantisedView) (s : ℕ) → IsMild q → s + 1 ≡ 2 * order q + 1 → Grown q.format (order q) (second_form_state q).nodes (second_form q) (2 * order q + 1) s
second_grown q s m e =
    let n = order q in
    let g = state_grown q m in
    let ns = (second_form_state q).nodes in
    let ids = newest_at (second_form_state q).place in
    line_grows q n ns n n (2 * n + 1) s (forward_summands q ids) g.sound g.counts
    (summands_fit ns false q.b ids 0 m.b (λ i l. newest_named ns (second_form_state q).place n (0 + i) g.place (λ j k. g.keeps j (sources_named n j k)) (omega (arith, m.size.forward))))
    (omega (arith, products_in-summands false q.b ids 0, m.size.forward)) (omega (arith, length-summands false q.b ids 0, m.size.forward)) (omega (arith, length-summands false q.b ids 0, m.size.forward)) (omega (arith, length-summands false q.b ids 0, m.size.forward, m.few))
    (λ e. absurd (let none = none_alone false q.b ids 0 e in omega (arith, none, m.size.forward)))

output_grown : (q : QuantisedView) → IsMild q → Grown q.format (order q) (sources (order q)) (transposed_form q) 1 (length (first_alone (count 1 (order q))))
output_grown q m =
    let n = order q in
    let ns = sources n in
    let ks = count 1 n in
    let zeroth : ℕ → ℕ = λ i. 0 in
    let bs = summands false (take 1 q.b) zeroth 0 in
    let lt : length (take 1 q.b) ≡ 1 = length-take-le 1 q.b (omega (arith, m.size.forward)) in
    let l = length-append bs (first_alone ks) in
    let lb = length-summands false (take 1 q.b) zeroth 0 in
    line_grows q n ns 0 0 1 (length (first_alone ks)) (transposed_output q 0 ks) (sources_sound q.format n) (sources_count n)
    (fit_both ns bs (first_alone ks) (summands_fit ns false (take 1 q.b) zeroth 0 (All-take IsSmall 1 q.b m.b) (λ i k. sources_named n 0 (omega arith))) (alone_fit ns ks (named_count n 1 n (omega arith))))
    (omega (arith, products_in-append bs (first_alone ks), products_in-summands false (take 1 q.b) zeroth 0, products_in-alone ks)) (omega arith) (omega arith) (omega (arith, alone_few ks))
    (λ e. absurd (cc (e, has_summands false (take 1 q.b) zeroth 0 (first_alone ks) (omega arith))))

-- ---- all of it
products_few : (k : Realisation) (n : ℕ) → n ≤ 8 → products_of k n ≤ 33
products_few Dfi n h = omega arith
products_few Dfii n h = omega arith
products_few Tdfii n h = omega arith
products_few Ddfi n h = omega arith
products_few Ddfii n h = omega arith
products_few Tddfii n h = omega arith

sums_few : (k : Realisation) (n : ℕ) → n ≤ 8 → sums_of k n ≤ 32
sums_few Dfi n h = omega arith
sums_few Dfii n h = omega arith
sums_few Tdfii n h = omega arith
sums_few Ddfi n h = omega arith
sums_few Ddfii n h = omega arith
sums_few Tddfii n h = omega arith

registers_few : (k : Realisation) (n : ℕ) → n ≤ 8 → registers_of k n ≤ 16
registers_few Dfi n h = omega arith
registers_few Dfii n h = omega arith
registers_few Tdfii n h = omega arith
registers_few Ddfi n h = omega arith
registers_few Ddfii n h = omega arith
registers_few Tddfii n h = omega arith

forward_few : (k : Realisation) (n : ℕ) → forward_registers_of k n ≤ registers_of k n
forward_few Dfi n = omega arith
forward_few Dfii n = omega arith
forward_few Tdfii n = omega arith
forward_few Ddfi n = omega arith
forward_few Ddfii n = omega arith
forward_few Tddfii n = omega arith

-- nodes, numbers of those that load the registers, and of the output
record IsWhole (k : Realisation) (q : QuantisedView) (r : ℕ) (ns : List Node) (ks : List ℕ) (y : ℕ) : Type 0 where
  sound : AreSound q.format r ns
  counts : HasCounts r ns (products_of k (order q)) (sums_of k (order q))
  next : AllNamed ns ks
  many : length ks ≡ r
  output : names_word ns y ≡ true

-- the netlist of a realisation is one, with the table's counts
pub record IsRealised (k : Realisation) (q : QuantisedView) (net : Net) : Type 0 where
  pub netlist : IsNetlist net
  pub counts : counts_of net ≡ counts_as k (order q)

realised : (k : Realisation) (q : QuantisedView) (r : ℕ) (ns : List Node) (next : List ℕ) (output : ℕ) → order q ≤ 8 → r ≡ registers_of k (order q) → IsWhole k q r ns next output → IsRealised k q (net_with q k ns next output)
realised k q r ns next output few e w =
    let p = products_few k (order q) few in
    let s = sums_few k (order q) few in
    let rf = registers_few k (order q) few in
    let many : length next ≡ registers_of k (order q) = w.many ∙ e in
    record {
      netlist = record {
        few_nodes = omega (arith, w.counts.nodes);
        few_registers = omega arith;
        few_exact = omega (arith, w.counts.fits);
        feed_forward = omega (arith, forward_few k (order q));
        backwards = w.sound.backwards;
        registers = subst (λ (j : ℕ). All (ReadsBelow j) ns) (sym w.many) w.sound.registers;
        output = w.output;
        next = all_named ns next w.next;
        bounded = w.sound.bounded;
      };
      counts = rw (w.counts.products, w.counts.sums, many) refl;
    }

realised_as : (k : Realisation) (q : QuantisedView) → IsMild q → IsRealised k q (net_as k q)
realised_as Dfi q m =
    let n = order q in
    let g = first_grown q (sums_of Dfi n) m (omega arith) in
    let y = first_form q in
    let named = λ (j : ℕ) (l : ℕ) (h : j + l ≤ n + n + 1). named_later (sources (n + n)) y.nodes (count j l) g.keeps (named_count (n + n) j l h) in
    realised Dfi q (n + n) y.nodes (shift 0 1 n ++ shift y.place (n + 1) n) y.place m.few (omega arith) (record {
      sound = g.sound;
      counts = g.counts;
      next = named_both y.nodes (shift 0 1 n) (shift y.place (n + 1) n) (named_shift y.nodes 0 1 n (g.keeps 0 refl) (λ l h. named 1 l (omega arith))) (named_shift y.nodes y.place (n + 1) n g.place (λ l h. named (n + 1) l (omega arith)));
      many = omega (arith, length-append (shift 0 1 n) (shift y.place (n + 1) n), shift-length 0 1 n, shift-length y.place (n + 1) n);
      output = g.place;
    })
realised_as Dfii q m =
    let n = order q in
    let w = state_grown q m in
    let g = second_grown q (sums_of Dfii n) m (omega arith) in
    let wp = (second_form_state q).place in
    let y = second_form q in
    realised Dfii q n y.nodes (shift wp 1 n) y.place m.few refl (record {
      sound = g.sound;
      counts = g.counts;
      next = named_shift y.nodes wp 1 n (g.keeps wp w.place) (λ l h. named_later (sources n) y.nodes (count 1 l) (λ k u. g.keeps k (w.keeps k u)) (named_count n 1 l (omega arith)));
      many = shift-length wp 1 n;
      output = g.place;
    })
realised_as Tdfii q m =
    let n = order q in
    let g = output_grown q m in
    let y = transposed_form q in
    let ks = count 1 n in
    let start = chain_begins q.format n y.nodes 1 (length (first_alone ks)) g.sound g.counts in
    let c = transposed_grows q n y.nodes 0 y.place (drop 1 q.b) (feedback q) ks (no_places y.nodes) 1 (length (first_alone ks)) 0 (products_of Tdfii n) (sums_of Tdfii n) n start
    (g.keeps 0 refl) g.place (named_later (sources n) y.nodes ks g.keeps (named_count n 1 n (omega arith))) (All-drop IsSmall 1 q.b m.b) m.a
    (omega (arith, m.size.forward, m.size.back, length-drop 1 q.b)) (count-length 1 n ∙ sym m.size.back) (omega (arith, m.size.back)) (omega (arith, m.size.back)) (omega (arith, m.size.back)) in
    realised Tdfii q n (transposed_nodes q).nodes (transposed_nodes q).places y.place m.few refl (record { sound = c.sound; counts = c.counts; next = c.named; many = c.many; output = c.keeps y.place g.place })
realised_as Ddfi q m =
    let n = order q in
    let f = q.format in
    let r = n + n in
    let s = 2 * n in
    let g = first_grown q s m (omega arith) in
    let y = first_form q in
    let ki = count 1 n in
    let ko = count (n + 1) n in
    let li = count-length 1 n in
    let lo_ = count-length (n + 1) n in
    let c = delta_grows q r y.nodes 0 ki (no_places y.nodes) (2 * n + 1) s 0 (3 * n + 1) (3 * n) n (chain_begins f r y.nodes (2 * n + 1) s g.sound g.counts) m.delta
    (g.keeps 0 refl) (named_later (sources r) y.nodes ki g.keeps (named_count r 1 n (omega arith))) (omega arith) (omega arith) (omega arith) in
    let ns = (delta_inputs q).nodes in
    let d = delta_grows q r ns y.place ko (no_places ns) (3 * n + 1) (3 * n) 0 (products_of Ddfi n) (sums_of Ddfi n) n (chain_begins f r ns (3 * n + 1) (3 * n) c.sound c.counts) m.delta
    (c.keeps y.place g.place) (named_later (sources r) ns ko (λ k u. c.keeps k (g.keeps k u)) (named_count r (n + 1) n (omega arith))) (omega arith) (omega arith) (omega arith) in
    let out = delta_outputs q in
    realised Ddfi q r out.nodes ((delta_inputs q).places ++ out.places) y.place m.few (omega arith) (record {
      sound = d.sound;
      counts = d.counts;
      next = named_both out.nodes (delta_inputs q).places out.places (named_later ns out.nodes (delta_inputs q).places d.keeps c.named) d.named;
      many = omega (arith, length-append (delta_inputs q).places out.places, c.many, d.many);
      output = d.keeps y.place (c.keeps y.place g.place);
    })
realised_as Ddfii q m =
    let n = order q in
    let w = state_grown q m in
    let s = 2 * n in
    let g = second_grown q s m (omega arith) in
    let wp = (second_form_state q).place in
    let y = second_form q in
    let ks = count 1 n in
    let lk = count-length 1 n in
    let c = delta_grows q n y.nodes wp ks (no_places y.nodes) (2 * n + 1) s 0 (products_of Ddfii n) (sums_of Ddfii n) n (chain_begins q.format n y.nodes (2 * n + 1) s g.sound g.counts) m.delta
    (g.keeps wp w.place) (named_later (sources n) y.nodes ks (λ k u. g.keeps k (w.keeps k u)) (named_count n 1 n (omega arith))) (omega arith) (omega arith) (omega arith) in
    realised Ddfii q n (delta_states q).nodes (delta_states q).places y.place m.few refl (record { sound = c.sound; counts = c.counts; next = c.named; many = c.many; output = c.keeps y.place g.place })
realised_as Tddfii q m =
    let n = order q in
    let g = output_grown q m in
    let y = transposed_form q in
    let ks = count 1 n in
    let start = chain_begins q.format n y.nodes 1 (length (first_alone ks)) g.sound g.counts in
    let c = transposed_delta_grows q n y.nodes 0 y.place (drop 1 q.b) (feedback q) ks (no_places y.nodes) 1 (length (first_alone ks)) 0 (products_of Tddfii n) (sums_of Tddfii n) n start m.delta
    (g.keeps 0 refl) g.place (named_later (sources n) y.nodes ks g.keeps (named_count n 1 n (omega arith))) (All-drop IsSmall 1 q.b m.b) m.a
    (omega (arith, m.size.forward, m.size.back, length-drop 1 q.b)) (count-length 1 n ∙ sym m.size.back) (omega (arith, m.size.back)) (omega (arith, m.size.back)) (omega (arith, m.size.back)) in
    realised Tddfii q n (transposed_delta_nodes q).nodes (transposed_delta_nodes q).places y.place m.few refl (record { sound = c.sound; counts = c.counts; next = c.named; many = c.many; output = c.keeps y.place g.place })

pub net_realised : (q : QuantisedView) → IsQuantisedView q → IsRealised q.realisation q (net_of q)
net_realised q h = realised_as q.realisation q (mild q h)
