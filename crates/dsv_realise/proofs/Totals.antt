-- Lines that are summed in a wide accumulator are nodes of a netlist, and so are lines of either kind.
use Rattle.std.proofs.Common.{◌≡◌, ℕ, ◌+◌, ◌*◌, ◌^◌, ◌<◌, ◌≤◌, Bool, true, false, List, [], ◌∷◌, ◌++◌, length, zero, suc, refl, subst, arith}
use Rattle.std.specs.Prelude.{count_by, slice_index}
use Rattle.std.specs.Int.RustNames.{unsigned_abs}
use Rattle.std.proofs.Math.IntN.{ℤ, pos, negsuc, neg_ℤ, ◌-ℤ◌}
use Rattle.std.proofs.Math.Nat.{pow-le-pow_right}
use Rattle.std.proofs.lemmas.Int.{ints}
use Rattle.std.proofs.lemmas.Nat.{mul-le}
use Rattle.std.proofs.lemmas.List.{length_push}
use Rattle.dsv_word.specs.declared.format.Format.{Format}
use Rattle.dsv_netlist.specs.declared.node.Node.{Node}
use Rattle.dsv_netlist.specs.declared.node.Node.TheVariants.{MulConst, Round, Fit, Scale}
use Rattle.dsv_netlist.specs.Bounds.{word_bound, node_bound, bounds_of}
use Rattle.dsv_netlist.specs.Conditions.{NamesBelow, ReadsBelow, gives_word, names_word, is_fit}
use Rattle.dsv_netlist.specs.Counts.{is_product, is_sum}
use Rattle.dsv_netlist.proofs.Naming.{names_word-below}
use Rattle.dsv_quantiser.specs.QuantisedView.{QuantisedView}
use Rattle.dsv_meaning.specs.declared.summands.Summand.{Summand}
use Rattle.dsv_meaning.specs.declared.summands.Summand.TheVariants.{Times, Alone}
use Rattle.dsv_meaning.specs.Lines.{summands, has_product}
use Rattle.dsv_realise.specs.Making.{Made, put, sum_node, exact_node, is_away, first_exact_node, with_first_exact, with_next_exact, with_exact_summands, with_rounded, first_place, with_wide_line, with_line, line_nodes}
use Rattle.dsv_realise.proofs.Growing.{AreSound, sound_more, HasCounts, one_if, count_more, IsSmall, word_small, Grown, named_old, named_last, bound_last, bound_before, joining-bound, joining_below, joining_reads, joining-word, joining-product, joining-sum, joining-fit, not_word}
use Rattle.dsv_realise.proofs.GrowingLines.{IsFit, AreFit, products_in, products_in-cons, recounted, narrow_grows}

-- a product, or a word times 2^frac_bits, that may follow these nodes
record IsTerm (f : Format) (r : ℕ) (ns : List Node) (n : Node) (p : ℕ) : Type 0 where
  backwards : NamesBelow (length ns) n
  reads : ReadsBelow r n
  bound : node_bound f (bounds_of f ns) n ≤ 2 ^ 94
  word : gives_word n ≡ false
  product : one_if (is_product n) ≡ p
  sum : one_if (is_sum n) ≡ 0
  fit : one_if (is_fit n) ≡ 0

times_term : (f : Format) (r : ℕ) (ns : List Node) (c : ℤ) (i : ℕ) → AreSound f r ns → IsSmall c → names_word ns i ≡ true → IsTerm f r ns (MulConst c i) 1
times_term f r ns c i h small w = record {
  backwards = names_word-below ns i w;
  reads = tt;
  bound =
      let big : unsigned_abs c * word_bound f ≤ 2 ^ 47 * 2 ^ 47 = mul-le (unsigned_abs c) (word_bound f) (2 ^ 47) (2 ^ 47) small (word_small f) in
      let same : unsigned_abs c * slice_index (bounds_of f ns) i ≡ unsigned_abs c * word_bound f = rw (h.words i w) refl in
      omega (arith, big, same);
  word = refl;
  product = refl;
  sum = refl;
  fit = refl;
}

scale_term : (f : Format) (r : ℕ) (ns : List Node) (i : ℕ) → AreSound f r ns → names_word ns i ≡ true → IsTerm f r ns (Scale i) 0
scale_term f r ns i h w = record {
  backwards = names_word-below ns i w;
  reads = tt;
  bound =
      let small : 2 ^ f.frac_bits ≤ 2 ^ 47 = let two : 0 < 2 = omega arith in let e : f.frac_bits ≤ 47 = omega (arith, f.lawful) in pow-le-pow_right two e in
      let big : 2 ^ f.frac_bits * word_bound f ≤ 2 ^ 47 * 2 ^ 47 = mul-le (2 ^ f.frac_bits) (word_bound f) (2 ^ 47) (2 ^ 47) small (word_small f) in
      let same : 2 ^ f.frac_bits * slice_index (bounds_of f ns) i ≡ 2 ^ f.frac_bits * word_bound f = rw (h.words i w) refl in
      omega (arith, big, same);
  word = refl;
  product = refl;
  sum = refl;
  fit = refl;
}

zero_minus : (c : ℤ) → pos 0 -ℤ c ≡ neg_ℤ c
zero_minus c = omega (arith, ints)

negative_size : (c : ℤ) → unsigned_abs (neg_ℤ c) ≡ unsigned_abs c
negative_size (pos zero) = refl
negative_size (pos (suc n)) = refl
negative_size (negsuc n) = refl

negative_small : (c : ℤ) → IsSmall c → IsSmall (pos 0 -ℤ c)
negative_small c h = rw (zero_minus c, negative_size c) h

first_term : (f : Format) (r : ℕ) (ns : List Node) (t : Summand ℕ) → AreSound f r ns → IsFit ns t → IsTerm f r ns (first_exact_node t) (products_in (t ∷ []))
first_term f r ns (Times true c i) h k = times_term f r ns (pos 0 -ℤ c) i h (negative_small c k.0) k.1
first_term f r ns (Times false c i) h k = times_term f r ns c i h k.0 k.1
first_term f r ns (Alone i) h k = scale_term f r ns i h k

next_term : (f : Format) (r : ℕ) (old ns : List Node) (t : Summand ℕ) → AreSound f r ns → ((k : ℕ) → names_word old k ≡ true → names_word ns k ≡ true) → IsFit old t → IsTerm f r ns (exact_node t) (products_in (t ∷ []))
next_term f r old ns (Times away c i) h e k = times_term f r ns c i h k.0 (e i k.1)
next_term f r old ns (Alone i) h e k = scale_term f r ns i h (e i k)

term_follows : (f : Format) (r : ℕ) (ns : List Node) (n : Node) (p : ℕ) → AreSound f r ns → IsTerm f r ns n p → AreSound f r (put ns n)
term_follows f r ns n p h t = sound_more f r ns n h (record { backwards = t.backwards; reads = t.reads; small = omega (arith, t.bound); word = λ g. not_word (gives_word n) (node_bound f (bounds_of f ns) n) (word_bound f) t.word g })

-- a total of k summands, after so many fits and nodes
record Summed (f : Format) (r : ℕ) (old : List Node) (m : Made) (p s fits nodes k : ℕ) : Type 0 where
  sound : AreSound f r m.nodes
  products : count_by is_product m.nodes ≡ p
  sums : count_by is_sum m.nodes ≡ s
  fits_few : count_by is_fit m.nodes ≤ fits
  nodes_few : length m.nodes + 1 ≤ nodes + 2 * k
  keeps : (j : ℕ) → names_word old j ≡ true → names_word m.nodes j ≡ true
  within : m.place < length m.nodes
  bound : slice_index (bounds_of f m.nodes) m.place ≤ k * 2 ^ 94

first_summed : (f : Format) (r : ℕ) (ns : List Node) (p s fits nodes : ℕ) (t : Summand ℕ) → AreSound f r ns → count_by is_product ns ≡ p → count_by is_sum ns ≡ s → count_by is_fit ns ≤ fits → length ns ≤ nodes → IsFit ns t
    → Summed f r ns (with_first_exact ns t) (p + products_in (t ∷ [])) s fits nodes 1
first_summed f r ns p s fits nodes t h hp hs hf hn k =
    let n = first_exact_node t in
    let u = first_term f r ns t h k in
    record {
      sound = term_follows f r ns n (products_in (t ∷ [])) h u;
      products = omega (arith, hp, count_more is_product ns n, u.product);
      sums = omega (arith, hs, count_more is_sum ns n, u.sum);
      fits_few = omega (arith, hf, count_more is_fit ns n, u.fit);
      nodes_few = omega (arith, hn, length_push ns n);
      keeps = λ j e. named_old ns (n ∷ []) j e;
      within = omega (arith, length_push ns n);
      bound = omega (arith, bound_last f ns n, u.bound);
    }

next_summed : (f : Format) (r : ℕ) (old : List Node) (m : Made) (p s fits nodes k : ℕ) (t : Summand ℕ) → Summed f r old m p s fits nodes k → k ≤ 100 → IsFit old t
    → Summed f r old (with_next_exact m t) (p + products_in (t ∷ [])) (s + 1) fits nodes (k + 1)
next_summed f r old m p s fits nodes k t g few w =
    let ns = m.nodes in
    let n1 = exact_node t in
    let u = next_term f r old ns t g.sound g.keeps w in
    let a = put ns n1 in
    let la = length_push ns n1 in
    let h1 = term_follows f r ns n1 (products_in (t ∷ [])) g.sound u in
    let n2 = sum_node (is_away t) m.place (length ns) in
    let b1 = bound_before f ns n1 m.place g.within in
    let b2 = bound_last f ns n1 in
    let b3 : node_bound f (bounds_of f a) n2 ≡ slice_index (bounds_of f ns) m.place + node_bound f (bounds_of f ns) n1 = joining-bound f a (is_away t) m.place (length ns) (slice_index (bounds_of f ns) m.place) (node_bound f (bounds_of f ns) n1) b1 b2 in
    let h2 : AreSound f r (put a n2) = sound_more f r a n2 h1 (record {
      backwards = joining_below (length a) (is_away t) m.place (length ns) (omega (arith, g.within)) (omega arith);
      reads = joining_reads r (is_away t) m.place (length ns);
      small = omega (arith, b3, g.bound, u.bound);
      word = λ e. not_word (gives_word n2) (node_bound f (bounds_of f a) n2) (word_bound f) (joining-word (is_away t) m.place (length ns)) e;
    }) in
    record {
      sound = h2;
      products = omega (arith, g.products, count_more is_product ns n1, count_more is_product a n2, u.product, joining-product (is_away t) m.place (length ns));
      sums = omega (arith, g.sums, count_more is_sum ns n1, count_more is_sum a n2, u.sum, joining-sum (is_away t) m.place (length ns));
      fits_few = omega (arith, g.fits_few, count_more is_fit ns n1, count_more is_fit a n2, u.fit, joining-fit (is_away t) m.place (length ns));
      nodes_few = omega (arith, g.nodes_few, length_push a n2);
      keeps = λ j e. named_old a (n2 ∷ []) j (named_old ns (n1 ∷ []) j (g.keeps j e));
      within = omega (arith, length_push a n2);
      bound = omega (arith, bound_last f a n2, b3, g.bound, u.bound);
    }

resummed : (f : Format) (r : ℕ) (old : List Node) (m : Made) (p s fits nodes k p2 s2 k2 : ℕ) → p ≡ p2 → s ≡ s2 → k ≡ k2 → Summed f r old m p s fits nodes k → Summed f r old m p2 s2 fits nodes k2
resummed f r old m p s fits nodes k p2 s2 k2 e d b g = subst (λ (j : ℕ). Summed f r old m j s2 fits nodes k2) e (subst (λ (j : ℕ). Summed f r old m p j fits nodes k2) d (subst (λ (j : ℕ). Summed f r old m p s fits nodes j) b g))

exact_summed : (f : Format) (r : ℕ) (old : List Node) (m : Made) (p s fits nodes k : ℕ) (ts : List (Summand ℕ)) → Summed f r old m p s fits nodes k → k + length ts ≤ 100 → AreFit old ts
    → Summed f r old (with_exact_summands m ts) (p + products_in ts) (s + length ts) fits nodes (k + length ts)
exact_summed f r old m p s fits nodes k [] g few w = resummed f r old m p s fits nodes k (p + 0) (s + 0) (k + 0) (omega arith) (omega arith) (omega arith) g
exact_summed f r old m p s fits nodes k (t ∷ ts) g few w =
    let one = products_in (t ∷ []) in
    resummed f r old (with_exact_summands (with_next_exact m t) ts) (p + one + products_in ts) (s + 1 + length ts) fits nodes (k + 1 + length ts) (p + products_in (t ∷ ts)) (s + length (t ∷ ts)) (k + length (t ∷ ts)) (omega (arith, products_in-cons t ts)) (omega arith) (omega arith)
    (exact_summed f r old (with_next_exact m t) (p + one) (s + 1) fits nodes (k + 1) ts (next_summed f r old m p s fits nodes k t g (omega arith) w.0) (omega arith) w.1)

-- rounded and fitted
rounded_grows : (f : Format) (r : ℕ) (old : List Node) (m : Made) (p s fits nodes k p0 s0 : ℕ) → Summed f r old m p s fits nodes k → 1 ≤ k → k ≤ 100 → fits ≡ p0 + s0 → nodes ≡ r + 1 + 3 * p0 + 2 * s0 → p0 + 1 ≤ p → s0 + k ≡ s + 1
    → Grown f r old (with_rounded m) p s
rounded_grows f r old m p s fits nodes k p0 s0 g some few ef en hp hs =
    let ns = m.nodes in
    let n1 = Round m.place in
    let a = put ns n1 in
    let n2 = Fit (length ns) in
    let la = length_push ns n1 in
    let lb = length_push a n2 in
    let h1 : AreSound f r a = sound_more f r ns n1 g.sound (record { backwards = g.within; reads = tt; small = omega (arith, g.bound); word = λ e. absurd cc }) in
    let h2 : AreSound f r (put a n2) = sound_more f r a n2 h1 (record { backwards = omega arith; reads = tt; small = omega (arith, word_small f); word = λ e. refl }) in
    record {
      sound = h2;
      counts = record {
        products = omega (arith, g.products, count_more is_product ns n1, count_more is_product a n2);
        sums = omega (arith, g.sums, count_more is_sum ns n1, count_more is_sum a n2);
        fits = omega (arith, g.fits_few, count_more is_fit ns n1, count_more is_fit a n2);
        nodes = omega (arith, g.nodes_few);
      };
      keeps = λ j e. named_old a (n2 ∷ []) j (named_old ns (n1 ∷ []) j (g.keeps j e));
      place = named_last a n2;
    }

some_products : (ts : List (Summand ℕ)) → has_product ts ≡ true → 1 ≤ products_in ts
some_products [] e = absurd cc
some_products (Times away c i ∷ ts) e = omega arith
some_products (Alone i ∷ ts) e = some_products ts e

no_products : (ts : List (Summand ℕ)) → has_product ts ≡ false → products_in ts ≡ 0
no_products [] e = refl
no_products (Times away c i ∷ ts) e = absurd cc
no_products (Alone i ∷ ts) e = no_products ts e

wide_grows : (f : Format) (r : ℕ) (ns : List Node) (p s p2 s2 : ℕ) (ts : List (Summand ℕ)) → AreSound f r ns → HasCounts r ns p s → AreFit ns ts → p + products_in ts ≡ p2 → s + length ts ≡ s2 + 1 → 0 < length ts → length ts ≤ 100 → (has_product ts ≡ false → length ts ≡ 1)
    → Grown f r ns (with_wide_line ns ts) p2 s2
wide_grows f r ns p s p2 s2 [] h u k e d l few one = absurd (omega arith)
wide_grows f r ns p s p2 s2 (t ∷ ts) h u k e d l few one = by_products (has_product (t ∷ ts)) refl
  where
    alone : (v : Summand ℕ) (vs : List (Summand ℕ)) → AreFit ns (v ∷ vs) → has_product (v ∷ vs) ≡ false → p + products_in (v ∷ vs) ≡ p2 → length (v ∷ vs) ≡ 1 → s + length (v ∷ vs) ≡ s2 + 1 → Grown f r ns (record { nodes = ns; place = first_place (v ∷ vs) }) p2 s2
    alone (Times away c i) vs a b g j o = absurd cc
    alone (Alone i) vs a b g j o = recounted f r ns (record { nodes = ns; place = i }) p s p2 s2 (omega (arith, no_products (Alone i ∷ vs) b)) (omega arith) (record { sound = h; counts = u; keeps = λ m n. n; place = a.0 })

    by_products : (b : Bool) → has_product (t ∷ ts) ≡ b → Grown f r ns (with_wide_line ns (t ∷ ts)) p2 s2
    by_products true b =
        let fits = p + s in
        let nodes = r + 1 + 3 * p + 2 * s in
        let first = first_summed f r ns p s fits nodes t h u.products u.sums u.fits u.nodes k.0 in
        let all = exact_summed f r ns (with_first_exact ns t) (p + products_in (t ∷ [])) s fits nodes 1 ts first (omega arith) k.1 in
        let m = with_exact_summands (with_first_exact ns t) ts in
        rw b (recounted f r ns (with_rounded m) (p + products_in (t ∷ []) + products_in ts) (s + length ts) p2 s2 (omega (arith, products_in-cons t ts)) (omega arith)
        (rounded_grows f r ns m (p + products_in (t ∷ []) + products_in ts) (s + length ts) fits nodes (1 + length ts) p s all (omega arith) (omega arith) refl refl (omega (arith, products_in-cons t ts, some_products (t ∷ ts) b)) (omega arith)))
    by_products false b = rw b (alone t ts k b e (one b) d)

-- ---- lines of either kind
pub line_grows : (q : QuantisedView) (r : ℕ) (ns : List Node) (p s p2 s2 : ℕ) (ts : List (Summand ℕ)) → AreSound q.format r ns → HasCounts r ns p s → AreFit ns ts → p + products_in ts ≡ p2 → s + length ts ≡ s2 + 1 → 0 < length ts → length ts ≤ 100 → (has_product ts ≡ false → length ts ≡ 1)
    → Grown q.format r ns (line_nodes q ns ts) p2 s2
line_grows q r ns p s p2 s2 ts h u k e d l few one = by_kind q.wide
  where
    by_kind : (wide : Bool) → Grown q.format r ns (with_line wide ns ts) p2 s2
    by_kind true = wide_grows q.format r ns p s p2 s2 ts h u k e d l few one
    by_kind false = narrow_grows q.format r ns p s p2 s2 ts h u k e d l

pub has_summands : (away : Bool) (cs : List ℤ) (g : ℕ → ℕ) (k : ℕ) (us : List (Summand ℕ)) → 0 < length cs → has_product (summands away cs g k ++ us) ≡ true
has_summands away [] g k us h = absurd (omega arith)
has_summands away (c ∷ cs) g k us h = refl

pub none_alone : (away : Bool) (cs : List ℤ) (g : ℕ → ℕ) (k : ℕ) → has_product (summands away cs g k) ≡ false → length cs ≡ 0
none_alone away [] g k e = refl
none_alone away (c ∷ cs) g k e = absurd cc
