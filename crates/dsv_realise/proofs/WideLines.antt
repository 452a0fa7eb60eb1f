-- The nodes of lines that are summed in a wide accumulator give the lines' values, and so do those of lines of either kind.
use Rattle.std.proofs.Common.{◌≡◌, ℕ, ◌<◌, Bool, true, false, List, [], ◌∷◌, ◌++◌, length, map, refl, ap, subst, ◌∙◌, arith}
use Rattle.std.specs.Prelude.{◌^◌}
use Rattle.std.proofs.Math.IntN.{ℤ, pos, ◌+ℤ◌, ◌-ℤ◌, ◌*ℤ◌}
use Rattle.std.proofs.lemmas.Int.{ints}
use Rattle.std.proofs.lemmas.List.{length_push}
use Rattle.dsv_algebra.proofs.Normaliser.{ring, env, var, num, plus, times, minus}
use Rattle.dsv_word.specs.declared.format.Format.{Format}
use Rattle.dsv_netlist.specs.declared.node.Node.{Node}
use Rattle.dsv_netlist.specs.declared.node.Node.TheVariants.{Round, Fit}
use Rattle.dsv_netlist.specs.Nodes.{at, node_value, node_exact}
use Rattle.dsv_quantiser.specs.QuantisedView.{QuantisedView}
use Rattle.dsv_meaning.specs.declared.summands.Summand.{Summand}
use Rattle.dsv_meaning.specs.declared.summands.Summand.TheVariants.{Times, Alone}
use Rattle.dsv_meaning.specs.Lines.{Sum, fitted_value, exact_summand, total, has_product, first_word, wide_line, line}
use Rattle.dsv_meaning.specs.Equations.{line_of}
use Rattle.dsv_realise.specs.Making.{Made, put, sum_node, exact_node, is_away, first_exact_node, with_first_exact, with_next_exact, with_exact_summands, with_total, with_rounded, first_place, with_wide_line, with_line, line_nodes}
use Rattle.dsv_realise.proofs.Samples.{IsAt, Gives, Keeps, keeps_self, keeps_more, plain, fits, at-length, at_last, at_old, joint, joining_value, joining_exact, round_in, fit_in}
use Rattle.dsv_realise.proofs.LineNodes.{in_words, IsOver, AreOver, narrow_gives}

-- a total so far, after these exact values
abbrev so_far : ℤ → List ℤ → Sum
so_far v es = record { value = v; exact = es }

-- what a summand's node has, before its sign is looked at
abbrev unsigned_value : Format → Summand ℤ → ℤ
unsigned_value f (Times away c w) = c *ℤ w
unsigned_value f (Alone w) = pos (2 ^ f.frac_bits) *ℤ w

exact_node-value : (f : Format) (rs : List ℤ) (x : ℤ) (vs now : List ℤ) (t : Summand ℕ) → Keeps vs now → IsOver (length vs) t → node_value f rs x now (exact_node t) ≡ unsigned_value f (in_words vs t)
exact_node-value f rs x vs now (Times away c i) k o = ap (λ (u : ℤ). c *ℤ u) (k.old i o)
exact_node-value f rs x vs now (Alone i) k o = ap (λ (u : ℤ). pos (2 ^ f.frac_bits) *ℤ u) (k.old i o)

exact_node-exact : (vs : List ℤ) (t : Summand ℕ) → node_exact vs (exact_node t) ≡ []
exact_node-exact vs (Times away c i) = refl
exact_node-exact vs (Alone i) = refl

added : (f : Format) (v : ℤ) (vs : List ℤ) (t : Summand ℕ) → joint (is_away t) v (unsigned_value f (in_words vs t)) ≡ v +ℤ exact_summand f (in_words vs t)
added f v vs (Times true c i) = omega (arith, ints)
added f v vs (Times false c i) = refl
added f v vs (Alone i) = refl

negated : (c w : ℤ) → (pos 0 -ℤ c) *ℤ w ≡ pos 0 -ℤ c *ℤ w
negated c w = ring (env (c ∷ w ∷ [])) (times (plus (num (pos 0)) (minus (var 0))) (var 1)) (plus (num (pos 0)) (minus (times (var 0) (var 1)))) refl

first_value : (f : Format) (rs : List ℤ) (x : ℤ) (vs : List ℤ) (t : Summand ℕ) → node_value f rs x vs (first_exact_node t) ≡ exact_summand f (in_words vs t)
first_value f rs x vs (Times true c i) = negated c (at vs i)
first_value f rs x vs (Times false c i) = refl
first_value f rs x vs (Alone i) = refl

first_exact_node-exact : (vs : List ℤ) (t : Summand ℕ) → node_exact vs (first_exact_node t) ≡ []
first_exact_node-exact vs (Times away c i) = refl
first_exact_node-exact vs (Alone i) = refl

first_exact_gives : (f : Format) (rs : List ℤ) (x : ℤ) (ns : List Node) (vs es : List ℤ) (t : Summand ℕ) → IsAt f rs x ns vs es → Gives f rs x vs (with_first_exact ns t) (so_far (exact_summand f (in_words vs t)) es)
first_exact_gives f rs x ns vs es t h =
    let v = exact_summand f (in_words vs t) in
    let l = at-length f rs x ns vs es h in
    let m : IsAt f rs x (put ns (first_exact_node t)) (vs ++ v ∷ []) es = plain f rs x ns (first_exact_node t) vs es v h (first_exact_node-exact vs t) (first_value f rs x vs t) in
    record {
      now = vs ++ v ∷ [];
      stands = m;
      keeps = keeps_more vs vs v (keeps_self vs);
      within = omega (arith, l, length_push vs v);
      value = at_last vs v (length ns) l;
    }

next_exact_gives : (f : Format) (rs : List ℤ) (x : ℤ) (vs : List ℤ) (m : Made) (v : ℤ) (es : List ℤ) (t : Summand ℕ) → Gives f rs x vs m (so_far v es) → IsOver (length vs) t
    → Gives f rs x vs (with_next_exact m t) (so_far (v +ℤ exact_summand f (in_words vs t)) es)
next_exact_gives f rs x vs m v es t g o =
    let u = unsigned_value f (in_words vs t) in
    let w = joint (is_away t) v u in
    let vs1 = g.now ++ u ∷ [] in
    let n1 = exact_node t in
    let a = put m.nodes n1 in
    let n2 = sum_node (is_away t) m.place (length m.nodes) in
    let l = at-length f rs x m.nodes g.now es g.stands in
    let h1 : IsAt f rs x a vs1 es = plain f rs x m.nodes n1 g.now es u g.stands (exact_node-exact g.now t) (exact_node-value f rs x vs g.now t g.keeps o) in
    let l1 = at-length f rs x a vs1 es h1 in
    let h2 : IsAt f rs x (put a n2) (vs1 ++ w ∷ []) es =
    plain f rs x a n2 vs1 es w h1 (joining_exact vs1 (is_away t) m.place (length m.nodes))
    (joining_value f rs x vs1 (is_away t) m.place (length m.nodes) v u (at_old g.now (u ∷ []) m.place g.within ∙ g.value) (at_last g.now u (length m.nodes) l)) in
    record {
      now = vs1 ++ w ∷ [];
      stands = h2;
      keeps = keeps_more vs vs1 w (keeps_more vs g.now u g.keeps);
      within = omega (arith, l1, length_push vs1 w);
      value = at_last vs1 w (length a) l1 ∙ added f v vs t;
    }

exact_summands_give : (f : Format) (rs : List ℤ) (x : ℤ) (vs : List ℤ) (m : Made) (v : ℤ) (es : List ℤ) (ts : List (Summand ℕ)) → Gives f rs x vs m (so_far v es) → AreOver (length vs) ts
    → Gives f rs x vs (with_exact_summands m ts) (so_far (v +ℤ total f (map (in_words vs) ts)) es)
exact_summands_give f rs x vs m v es [] g o = let e : v ≡ v +ℤ pos 0 = omega (arith, ints) in subst (λ (u : ℤ). Gives f rs x vs m (so_far u es)) e g
exact_summands_give f rs x vs m v es (t ∷ ts) g o =
    let u = exact_summand f (in_words vs t) in
    let e : v +ℤ u +ℤ total f (map (in_words vs) ts) ≡ v +ℤ (u +ℤ total f (map (in_words vs) ts)) = omega (arith, ints) in
    subst (λ (w : ℤ). Gives f rs x vs (with_exact_summands (with_next_exact m t) ts) (so_far w es)) e
    (exact_summands_give f rs x vs (with_next_exact m t) (v +ℤ u) es ts (next_exact_gives f rs x vs m v es t g o.0) o.1)

total_gives : (f : Format) (rs : List ℤ) (x : ℤ) (ns : List Node) (vs es : List ℤ) (ts : List (Summand ℕ)) → 0 < length ts → IsAt f rs x ns vs es → AreOver (length vs) ts → Gives f rs x vs (with_total ns ts) (so_far (total f (map (in_words vs) ts)) es)
total_gives f rs x ns vs es [] l h o = absurd (omega arith)
total_gives f rs x ns vs es (t ∷ ts) l h o = exact_summands_give f rs x vs (with_first_exact ns t) (exact_summand f (in_words vs t)) es ts (first_exact_gives f rs x ns vs es t h) o.1

rounded_gives : (f : Format) (rs : List ℤ) (x : ℤ) (vs : List ℤ) (m : Made) (v : ℤ) (es : List ℤ) → Gives f rs x vs m (so_far v es) → Gives f rs x vs (with_rounded m) (fitted_value f es (round_in f v))
rounded_gives f rs x vs m v es g =
    let r = round_in f v in
    let vs1 = g.now ++ r ∷ [] in
    let a = put m.nodes (Round m.place) in
    let h1 : IsAt f rs x a vs1 es = plain f rs x m.nodes (Round m.place) g.now es r g.stands refl (ap (round_in f) g.value) in
    let l1 = at-length f rs x a vs1 es h1 in
    let h2 : IsAt f rs x (put a (Fit (length m.nodes))) (vs1 ++ fit_in f r ∷ []) (es ++ r ∷ []) = fits f rs x a (length m.nodes) vs1 es r h1 (at_last g.now r (length m.nodes) (at-length f rs x m.nodes g.now es g.stands)) in
    record {
      now = vs1 ++ fit_in f r ∷ [];
      stands = h2;
      keeps = keeps_more vs vs1 (fit_in f r) (keeps_more vs g.now r g.keeps);
      within = omega (arith, l1, length_push vs1 (fit_in f r));
      value = at_last vs1 (fit_in f r) (length a) l1;
    }

-- the words have as many products as the nodes
same_products : (vs : List ℤ) (ts : List (Summand ℕ)) → has_product (map (in_words vs) ts) ≡ has_product ts
same_products vs [] = refl
same_products vs (Times away c i ∷ ts) = refl
same_products vs (Alone i ∷ ts) = same_products vs ts

wide_gives : (f : Format) (rs : List ℤ) (x : ℤ) (ns : List Node) (vs es : List ℤ) (ts : List (Summand ℕ)) → 0 < length ts → IsAt f rs x ns vs es → AreOver (length vs) ts → Gives f rs x vs (with_wide_line ns ts) (wide_line f es (map (in_words vs) ts))
wide_gives f rs x ns vs es ts l h o = by_products (has_product ts) refl
  where
    alone : (us : List (Summand ℕ)) → 0 < length us → AreOver (length vs) us → has_product us ≡ false → Gives f rs x vs (record { nodes = ns; place = first_place us }) (so_far (first_word (map (in_words vs) us)) es)
    alone [] k a e = absurd (omega arith)
    alone (Times away c i ∷ us) k a e = absurd cc
    alone (Alone i ∷ us) k a e = record { now = vs; stands = h; keeps = keeps_self vs; within = a.0; value = refl }

    by_products : (b : Bool) → has_product ts ≡ b → Gives f rs x vs (with_wide_line ns ts) (wide_line f es (map (in_words vs) ts))
    by_products true e = rw (same_products vs ts, e) (rounded_gives f rs x vs (with_total ns ts) (total f (map (in_words vs) ts)) es (total_gives f rs x ns vs es ts l h o))
    by_products false e = rw (same_products vs ts, e) (alone ts l o e)

-- the nodes of a line give the line over the words
pub line_gives : (q : QuantisedView) (rs : List ℤ) (x : ℤ) (ns : List Node) (vs es : List ℤ) (ts : List (Summand ℕ)) → 0 < length ts → IsAt q.format rs x ns vs es → AreOver (length vs) ts
    → Gives q.format rs x vs (line_nodes q ns ts) (line_of q es (map (in_words vs) ts))
line_gives q rs x ns vs es ts l h o = by_kind q.wide
  where
    by_kind : (wide : Bool) → Gives q.format rs x vs (with_line wide ns ts) (line wide q.format es (map (in_words vs) ts))
    by_kind true = wide_gives q.format rs x ns vs es ts l h o
    by_kind false = narrow_gives q.format rs x ns vs es ts l h o
