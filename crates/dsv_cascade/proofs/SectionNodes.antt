-- The nodes of every realisation: one input, which stands first, and no more fits and nodes than their products and sums take.
use Rattle.std.proofs.Common.{◌≡◌, ℕ, zero, suc, ◌+◌, ◌*◌, ◌≤◌, Bool, true, false, List, [], ◌∷◌, ◌++◌, length, drop, refl, subst, ap, arith, add-zero, zero-add, append_assoc}
use Rattle.std.specs.Prelude.{count_by}
use Rattle.std.proofs.Math.IntN.{ℤ}
use Rattle.std.proofs.lemmas.List.{append-nil, length_push}
use Rattle.std.proofs.lemmas.List.Elements.{All-nil, All-push}
use Rattle.dsv_names.specs.declared.realisation.Realisation.{Realisation}
use Rattle.dsv_names.specs.declared.realisation.Realisation.TheVariants.{Dfi, Dfii, Tdfii, Ddfi, Ddfii, Tddfii}
use Rattle.dsv_netlist.specs.declared.node.Node.{Node}
use Rattle.dsv_netlist.specs.declared.node.Node.TheVariants.{Input, Reg, MulConst, Round, Fit}
use Rattle.dsv_netlist.specs.Conditions.{is_fit}
use Rattle.dsv_netlist.specs.Counts.{is_product, is_sum}
use Rattle.dsv_quantiser.specs.QuantisedView.{QuantisedView}
use Rattle.dsv_meaning.specs.declared.summands.Summand.{Summand}
use Rattle.dsv_meaning.specs.declared.summands.Summand.TheVariants.{Times, Alone}
use Rattle.dsv_meaning.specs.Lines.{has_product}
use Rattle.dsv_meaning.specs.Equations.{order, feedback, forward_summands, feedback_summands, transposed_output, transposed_line, delta_line, registers_of}
use Rattle.dsv_realise.specs.Making.{Made, put, with_product, sum_node, with_sum, with_first, with_next, with_summands, with_narrow_line, exact_node, is_away, first_exact_node, with_first_exact, with_next_exact, with_exact_summands, with_rounded, with_wide_line, with_line, line_nodes, Chained, no_places, with_place, with_transposed, with_delta, with_transposed_delta}
use Rattle.dsv_realise.specs.Netlists.{registers_from, sources, count, newest_at, first_form, second_form_state, second_form, transposed_form, delta_inputs, net_as}
use Rattle.dsv_realise.proofs.Growing.{one_if, count_more, joining-product, joining-sum, joining-fit}
use Rattle.dsv_cascade.proofs.MovedNodes.{IsInner, HasOneInput}

-- nodes after the input and r registers
pub record AreBuilt (r : ℕ) (ns : List Node) : Type 0 where
  pub input : HasOneInput ns
  pub fits : count_by is_fit ns ≤ count_by is_product ns + count_by is_sum ns
  pub nodes : length ns ≤ r + 1 + 3 * count_by is_product ns + 2 * count_by is_sum ns

-- ---- a node more
input_put : (ns : List Node) (n : Node) → HasOneInput ns → IsInner n → HasOneInput (put ns n)
input_put ns n o i = record {
  rest = put o.rest n;
  begins = ap (λ (w : List Node). put w n) o.begins;
  inner = All-push IsInner o.rest n o.inner i;
}

sum_inner : (away : Bool) (j k : ℕ) → IsInner (sum_node away j k)
sum_inner true j k = tt
sum_inner false j k = tt

product_built : (r : ℕ) (ns : List Node) (c : ℤ) (i : ℕ) → AreBuilt r ns → AreBuilt r (with_product ns c i).nodes
product_built r ns c i h =
    let a = put ns (MulConst c i) in
    let b = put a (Round (length ns)) in
    let last = Fit (length a) in
    let p : count_by is_product (put b last) ≡ count_by is_product ns + 1 = omega (arith, count_more is_product ns (MulConst c i), count_more is_product a (Round (length ns)), count_more is_product b last) in
    let s : count_by is_sum (put b last) ≡ count_by is_sum ns = omega (arith, count_more is_sum ns (MulConst c i), count_more is_sum a (Round (length ns)), count_more is_sum b last) in
    record {
      input = input_put b last (input_put a (Round (length ns)) (input_put ns (MulConst c i) h.input tt) tt) tt;
      fits = omega (arith, h.fits, p, s, count_more is_fit ns (MulConst c i), count_more is_fit a (Round (length ns)), count_more is_fit b last);
      nodes = omega (arith, h.nodes, p, s, length_push ns (MulConst c i), length_push a (Round (length ns)), length_push b last);
    }

sum_built : (r : ℕ) (away : Bool) (ns : List Node) (j k : ℕ) → AreBuilt r ns → AreBuilt r (with_sum away ns j k).nodes
sum_built r away ns j k h =
    let n = sum_node away j k in
    let a = put ns n in
    let last = Fit (length ns) in
    let p : count_by is_product (put a last) ≡ count_by is_product ns = omega (arith, count_more is_product ns n, count_more is_product a last, joining-product away j k) in
    let s : count_by is_sum (put a last) ≡ count_by is_sum ns + 1 = omega (arith, count_more is_sum ns n, count_more is_sum a last, joining-sum away j k) in
    record {
      input = input_put a last (input_put ns n h.input (sum_inner away j k)) tt;
      fits = omega (arith, h.fits, p, s, count_more is_fit ns n, count_more is_fit a last, joining-fit away j k);
      nodes = omega (arith, h.nodes, p, s, length_push ns n, length_push a last);
    }

-- ---- lines that are summed in words
first_built : (r : ℕ) (ns : List Node) (t : Summand ℕ) → AreBuilt r ns → AreBuilt r (with_first ns t).nodes
first_built r ns (Times away c i) h = product_built r ns c i h
first_built r ns (Alone i) h = h

next_built : (r : ℕ) (m : Made) (t : Summand ℕ) → AreBuilt r m.nodes → AreBuilt r (with_next m t).nodes
next_built r m (Times away c i) h = let f = with_product m.nodes c i in sum_built r away f.nodes m.place f.place (product_built r m.nodes c i h)
next_built r m (Alone i) h = sum_built r false m.nodes m.place i h

summands_built : (r : ℕ) (m : Made) (ts : List (Summand ℕ)) → AreBuilt r m.nodes → AreBuilt r (with_summands m ts).nodes
summands_built r m [] h = h
summands_built r m (t ∷ ts) h = summands_built r (with_next m t) ts (next_built r m t h)

narrow_built : (r : ℕ) (ns : List Node) (ts : List (Summand ℕ)) → AreBuilt r ns → AreBuilt r (with_narrow_line ns ts).nodes
narrow_built r ns [] h = h
narrow_built r ns (t ∷ ts) h = summands_built r (with_first ns t) ts (first_built r ns t h)

-- ---- lines that are summed in a wide accumulator
-- a total with k products or more, which isn't rounded yet
record AreSummed (r k : ℕ) (ns : List Node) : Type 0 where
  input : HasOneInput ns
  fits : count_by is_fit ns + k ≤ count_by is_product ns + count_by is_sum ns
  nodes : length ns + 3 * k ≤ r + 2 + 3 * count_by is_product ns + 2 * count_by is_sum ns

-- how many products the summand has
abbrev product_in : Summand ℕ → ℕ
product_in (Times away c i) = 1
product_in (Alone i) = 0

record IsTerm (n : Node) (p : ℕ) : Type 0 where
  inner : IsInner n
  product : one_if (is_product n) ≡ p
  sum : one_if (is_sum n) ≡ 0
  fit : one_if (is_fit n) ≡ 0

first_term : (t : Summand ℕ) → IsTerm (first_exact_node t) (product_in t)
first_term (Times away c i) = record { inner = tt; product = refl; sum = refl; fit = refl }
first_term (Alone i) = record { inner = tt; product = refl; sum = refl; fit = refl }

next_term : (t : Summand ℕ) → IsTerm (exact_node t) (product_in t)
next_term (Times away c i) = record { inner = tt; product = refl; sum = refl; fit = refl }
next_term (Alone i) = record { inner = tt; product = refl; sum = refl; fit = refl }

first_summed : (r : ℕ) (ns : List Node) (t : Summand ℕ) → AreBuilt r ns → AreSummed r (product_in t) (with_first_exact ns t).nodes
first_summed r ns t h =
    let n = first_exact_node t in
    let u = first_term t in
    record {
      input = input_put ns n h.input u.inner;
      fits = omega (arith, h.fits, u.product, u.sum, u.fit, count_more is_fit ns n, count_more is_product ns n, count_more is_sum ns n);
      nodes = omega (arith, h.nodes, u.product, u.sum, length_push ns n, count_more is_product ns n, count_more is_sum ns n);
    }

next_summed : (r k : ℕ) (m : Made) (t : Summand ℕ) → AreSummed r k m.nodes → AreSummed r (k + product_in t) (with_next_exact m t).nodes
next_summed r k m t h =
    let n = exact_node t in
    let u = next_term t in
    let a = put m.nodes n in
    let last = sum_node (is_away t) m.place (length m.nodes) in
    let p : count_by is_product (put a last) ≡ count_by is_product m.nodes + product_in t = omega (arith, u.product, count_more is_product m.nodes n, count_more is_product a last, joining-product (is_away t) m.place (length m.nodes)) in
    let s : count_by is_sum (put a last) ≡ count_by is_sum m.nodes + 1 = omega (arith, u.sum, count_more is_sum m.nodes n, count_more is_sum a last, joining-sum (is_away t) m.place (length m.nodes)) in
    record {
      input = input_put a last (input_put m.nodes n h.input u.inner) (sum_inner (is_away t) m.place (length m.nodes));
      fits = omega (arith, h.fits, p, s, u.fit, count_more is_fit m.nodes n, count_more is_fit a last, joining-fit (is_away t) m.place (length m.nodes));
      nodes = omega (arith, h.nodes, p, s, length_push m.nodes n, length_push a last);
    }

rounded_built : (r k : ℕ) (m : Made) → AreSummed r k m.nodes → 1 ≤ k → AreBuilt r (with_rounded m).nodes
rounded_built r k m h some =
    let a = put m.nodes (Round m.place) in
    let last = Fit (length m.nodes) in
    let p : count_by is_product (put a last) ≡ count_by is_product m.nodes = omega (arith, count_more is_product m.nodes (Round m.place), count_more is_product a last) in
    let s : count_by is_sum (put a last) ≡ count_by is_sum m.nodes = omega (arith, count_more is_sum m.nodes (Round m.place), count_more is_sum a last) in
    record {
      input = input_put a last (input_put m.nodes (Round m.place) h.input tt) tt;
      fits = omega (arith, h.fits, p, s, count_more is_fit m.nodes (Round m.place), count_more is_fit a last);
      nodes = omega (arith, h.nodes, p, s, length_push m.nodes (Round m.place), length_push a last);
    }

-- a total one of whose summands is a product, now or later
total_built : (r k : ℕ) (m : Made) (ts : List (Summand ℕ)) → AreSummed r k m.nodes → (has_product ts ≡ false → 1 ≤ k) → AreBuilt r (with_rounded (with_exact_summands m ts)).nodes
total_built r k m [] h e = rounded_built r k m h (e refl)
total_built r k m (Times away c i ∷ ts) h e = total_built r (k + 1) (with_next_exact m (Times away c i)) ts (next_summed r k m (Times away c i) h) (λ g. omega arith)
total_built r k m (Alone i ∷ ts) h e = total_built r (k + 0) (with_next_exact m (Alone i)) ts (next_summed r k m (Alone i) h) (λ g. omega (arith, e g))

wide_built : (r : ℕ) (ns : List Node) (ts : List (Summand ℕ)) → AreBuilt r ns → AreBuilt r (with_wide_line ns ts).nodes
wide_built r ns [] h = h
wide_built r ns (Times away c i ∷ ts) h = total_built r 1 (with_first_exact ns (Times away c i)) ts (first_summed r ns (Times away c i) h) (λ g. omega arith)
wide_built r ns (Alone i ∷ ts) h = by_products (has_product ts) refl
  where
    by_products : (b : Bool) → has_product ts ≡ b → AreBuilt r (with_wide_line ns (Alone i ∷ ts)).nodes
    by_products true e = rw e (total_built r 0 (with_first_exact ns (Alone i)) ts (first_summed r ns (Alone i) h) (λ g. absurd cc))
    by_products false e = rw e h

-- ---- lines of either kind, and chains of them
line_built : (q : QuantisedView) (r : ℕ) (ns : List Node) (ts : List (Summand ℕ)) → AreBuilt r ns → AreBuilt r (line_nodes q ns ts).nodes
line_built q r ns ts h = by_kind q.wide
  where
    by_kind : (wide : Bool) → AreBuilt r (with_line wide ns ts).nodes
    by_kind true = wide_built r ns ts h
    by_kind false = narrow_built r ns ts h

transposed_built : (q : QuantisedView) (r x y : ℕ) (bs as_ : List ℤ) (ks : List ℕ) (c : Chained) → AreBuilt r c.nodes → AreBuilt r (with_transposed q x y bs as_ ks c).nodes
transposed_built q r x y [] as_ ks c h = h
transposed_built q r x y (b ∷ bs) [] ks c h = h
transposed_built q r x y (b ∷ bs) (a ∷ cs) ks c h =
    let ts = transposed_line b a x y (drop 1 ks) in
    transposed_built q r x y bs cs (drop 1 ks) (with_place c (line_nodes q c.nodes ts)) (line_built q r c.nodes ts h)

delta_built : (q : QuantisedView) (r before : ℕ) (ks : List ℕ) (c : Chained) → AreBuilt r c.nodes → AreBuilt r (with_delta q before ks c).nodes
delta_built q r before [] c h = h
delta_built q r before (k ∷ ks) c h = delta_built q r k ks (with_place c (line_nodes q c.nodes (delta_line q k before))) (line_built q r c.nodes (delta_line q k before) h)

transposed_delta_built : (q : QuantisedView) (r x y : ℕ) (bs as_ : List ℤ) (ks : List ℕ) (c : Chained) → AreBuilt r c.nodes → AreBuilt r (with_transposed_delta q x y bs as_ ks c).nodes
transposed_delta_built q r x y [] as_ ks c h = h
transposed_delta_built q r x y (b ∷ bs) [] ks c h = h
transposed_delta_built q r x y (b ∷ bs) (a ∷ cs) [] c h = h
transposed_delta_built q r x y (b ∷ bs) (a ∷ cs) (k ∷ ks) c h =
    let t = line_nodes q c.nodes (transposed_line b a x y ks) in
    transposed_delta_built q r x y bs cs ks (with_place c (line_nodes q t.nodes (delta_line q k t.place)))
    (line_built q r t.nodes (delta_line q k t.place) (line_built q r c.nodes (transposed_line b a x y ks) h))

-- ---- the input and the registers
register_built : (r j : ℕ) (ns : List Node) → AreBuilt r ns → AreBuilt (r + 1) (put ns (Reg j))
register_built r j ns h = record {
  input = input_put ns (Reg j) h.input tt;
  fits = omega (arith, h.fits, count_more is_fit ns (Reg j), count_more is_product ns (Reg j), count_more is_sum ns (Reg j));
  nodes = omega (arith, h.nodes, length_push ns (Reg j), count_more is_product ns (Reg j), count_more is_sum ns (Reg j));
}

registers_built : (r j n : ℕ) (ns : List Node) → AreBuilt r ns → AreBuilt (r + n) (ns ++ registers_from j n)
registers_built r j zero ns h = rw (add-zero r, append-nil ns) h
registers_built r j (suc n) ns h =
    let e : r + 1 + n ≡ r + suc n = omega arith in
    rw (← e, ← append_assoc ns (Reg j ∷ []) (registers_from (j + 1) n)) (registers_built (r + 1) (j + 1) n (put ns (Reg j)) (register_built r j ns h))

sources_built : (n : ℕ) → AreBuilt n (sources n)
sources_built n =
    let input : AreBuilt 0 (Input ∷ []) = record {
      input = record { rest = []; begins = refl; inner = All-nil IsInner };
      fits = omega arith;
      nodes = omega arith;
    } in
    rw zero-add at (registers_built 0 0 n (Input ∷ []) input)

-- ---- the realisations
first_form_built : (q : QuantisedView) → AreBuilt (2 * order q) (first_form q).nodes
first_form_built q =
    let n = order q in
    let twice : n + n ≡ 2 * n = omega arith in
    line_built q (2 * n) (sources (n + n)) (forward_summands q (λ (i : ℕ). i) ++ feedback_summands q (λ (i : ℕ). i) (n + 1)) (subst (λ (r : ℕ). AreBuilt r (sources (n + n))) twice (sources_built (n + n)))

second_form_built : (q : QuantisedView) → AreBuilt (order q) (second_form q).nodes
second_form_built q =
    let w = second_form_state q in
    line_built q (order q) w.nodes (forward_summands q (newest_at w.place))
    (line_built q (order q) (sources (order q)) (Alone 0 ∷ feedback_summands q (λ (i : ℕ). i) 1) (sources_built (order q)))

transposed_form_built : (q : QuantisedView) → AreBuilt (order q) (transposed_form q).nodes
transposed_form_built q = line_built q (order q) (sources (order q)) (transposed_output q 0 (count 1 (order q))) (sources_built (order q))

pub net_built : (k : Realisation) (q : QuantisedView) → AreBuilt (registers_of k (order q)) (net_as k q).nodes
net_built Dfi q = first_form_built q
net_built Dfii q = second_form_built q
net_built Tdfii q = let y = transposed_form q in transposed_built q (order q) 0 y.place (drop 1 q.b) (feedback q) (count 1 (order q)) (no_places y.nodes) (transposed_form_built q)
net_built Ddfi q =
    let y = first_form q in
    let u = delta_inputs q in
    delta_built q (2 * order q) y.place (count (order q + 1) (order q)) (no_places u.nodes) (delta_built q (2 * order q) 0 (count 1 (order q)) (no_places y.nodes) (first_form_built q))
net_built Ddfii q = delta_built q (order q) (second_form_state q).place (count 1 (order q)) (no_places (second_form q).nodes) (second_form_built q)
net_built Tddfii q = let y = transposed_form q in transposed_delta_built q (order q) 0 y.place (drop 1 q.b) (feedback q) (count 1 (order q)) (no_places y.nodes) (transposed_form_built q)
