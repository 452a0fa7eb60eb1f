-- Over any inputs there is an exact run of a netlist over some denominator, and over all denominators its values are the same.
use Rattle.std.proofs.Common.{◌≡◌, ℕ, ◌^◌, List, [], ◌∷◌, ◌++◌, length, map, refl, sym, subst, ap, ◌∙◌, arith}
use Rattle.std.proofs.Math.IntN.{ℤ, pos, ◌+ℤ◌, ◌-ℤ◌, ◌*ℤ◌}
use Rattle.std.proofs.lemmas.Int.{ints}
use Rattle.std.proofs.lemmas.Nat.{pow_pos}
use Rattle.std.proofs.lemmas.List.{map_push}
use lib.Signed.{◌<ℤ◌}
use Rattle.dsv_algebra.proofs.Signs.{mul_positive}
use Rattle.dsv_word.specs.declared.format.Format.{Format}
use Rattle.dsv_system.specs.Systems.{zeros}
use Rattle.dsv_netlist.specs.declared.node.Node.{Node}
use Rattle.dsv_netlist.specs.declared.node.Node.TheVariants.{Input, Reg, MulConst, Round, Add, Sub, Fit, Scale}
use Rattle.dsv_netlist.specs.Nodes.{Net, at}
use Rattle.dsv_roundoff.specs.Exact.{IsExactly, AreExactly, RunsExactly}
use Rattle.dsv_roundoff.specs.Laws.{RunsExist, RunsAreOne, scaled}
use Rattle.dsv_roundoff.proofs.Scaling.{scaled_at, scaled_zeros, at_same, grouped, swapped, add_spread, sub_spread, power_up, quotient_one}

-- ---- numbers over a denominator so many times as great
scaled_twice : (s g : ℤ) (vs : List ℤ) → scaled (s *ℤ g) vs ≡ scaled s (scaled g vs)
scaled_twice s g [] = refl
scaled_twice s g (v ∷ vs) = rw (grouped s g v) (ap (λ (xs : List ℤ). (s *ℤ (g *ℤ v)) ∷ xs) (scaled_twice s g vs))

scaled_loads : (s : ℤ) (vs : List ℤ) (next : List ℕ) → scaled s (map (at vs) next) ≡ map (at (scaled s vs)) next
scaled_loads s vs [] = refl
scaled_loads s vs (k ∷ next) = rw (scaled_at s vs k) (ap (λ (xs : List ℤ). (s *ℤ at vs k) ∷ xs) (scaled_loads s vs next))

-- ---- what is exact is so at each such denominator
node_scaled : (f : Format) (d : ℤ) (regs : List ℤ) (x : ℤ) (es : List ℤ) (n : Node) (e s : ℤ) → IsExactly f d regs x es n e → IsExactly f (s *ℤ d) (scaled s regs) x (scaled s es) n (s *ℤ e)
node_scaled f d regs x es Input e s h = rw h (sym (grouped s d x))
node_scaled f d regs x es (Reg r) e s h = rw (h, scaled_at s regs r) refl
node_scaled f d regs x es (MulConst c i) e s h = rw (h, scaled_at s es i) (sym (swapped s c (at es i)))
node_scaled f d regs x es (Round i) e s h = rw (scaled_at s es i, ← h) (swapped s (pos (2 ^ f.frac_bits)) e)
node_scaled f d regs x es (Add i j) e s h = rw (h, scaled_at s es i, scaled_at s es j) (add_spread s (at es i) (at es j))
node_scaled f d regs x es (Sub i j) e s h = rw (h, scaled_at s es i, scaled_at s es j) (sub_spread s (at es i) (at es j))
node_scaled f d regs x es (Fit i) e s h = rw (h, scaled_at s es i) refl
node_scaled f d regs x es (Scale i) e s h = rw (h, scaled_at s es i) (sym (swapped s (pos (2 ^ f.frac_bits)) (at es i)))

nodes_scaled : (f : Format) (d : ℤ) (regs : List ℤ) (x : ℤ) (ns : List Node) (es all : List ℤ) (s : ℤ) → AreExactly f d regs x es ns all → AreExactly f (s *ℤ d) (scaled s regs) x (scaled s es) ns (scaled s all)
nodes_scaled f d regs x [] es [] s h = tt
nodes_scaled f d regs x [] es (e ∷ all) s h = absurd h
nodes_scaled f d regs x (n ∷ ns) es [] s h = absurd h
nodes_scaled f d regs x (n ∷ ns) es (e ∷ all) s h = (
  node_scaled f d regs x es n e s h.0,
  subst (λ (xs : List ℤ). AreExactly f (s *ℤ d) (scaled s regs) x xs ns (scaled s all)) (map_push (λ (w : ℤ). s *ℤ w) es e) (nodes_scaled f d regs x ns (es ++ e ∷ []) all s h.1),
)

-- ---- some denominator will do
-- of a node
pub record NodeExists (f : Format) (d : ℤ) (regs : List ℤ) (x : ℤ) (es : List ℤ) (n : Node) : Type 0 where
  pub growth : ℤ
  pub value : ℤ
  pub positive : pos 0 <ℤ growth
  pub is : IsExactly f (growth *ℤ d) (scaled growth regs) x (scaled growth es) n value

one_up : pos 0 <ℤ pos 1
one_up = omega (arith, ints)

node_exists : (f : Format) (d : ℤ) (regs : List ℤ) (x : ℤ) (es : List ℤ) (n : Node) → NodeExists f d regs x es n
node_exists f d regs x es Input = record { growth = pos 1; value = pos 1 *ℤ d *ℤ x; positive = one_up; is = refl }
node_exists f d regs x es (Reg r) = record { growth = pos 1; value = at (scaled (pos 1) regs) r; positive = one_up; is = refl }
node_exists f d regs x es (MulConst c i) = record { growth = pos 1; value = c *ℤ at (scaled (pos 1) es) i; positive = one_up; is = refl }
node_exists f d regs x es (Round i) = record {
  growth = pos (2 ^ f.frac_bits);
  value = at es i;
  positive = let p = pow_pos f.frac_bits in omega (arith, ints);
  is = sym (scaled_at (pos (2 ^ f.frac_bits)) es i);
}
node_exists f d regs x es (Add i j) = record { growth = pos 1; value = at (scaled (pos 1) es) i +ℤ at (scaled (pos 1) es) j; positive = one_up; is = refl }
node_exists f d regs x es (Sub i j) = record { growth = pos 1; value = at (scaled (pos 1) es) i -ℤ at (scaled (pos 1) es) j; positive = one_up; is = refl }
node_exists f d regs x es (Fit i) = record { growth = pos 1; value = at (scaled (pos 1) es) i; positive = one_up; is = refl }
node_exists f d regs x es (Scale i) = record { growth = pos 1; value = pos (2 ^ f.frac_bits) *ℤ at (scaled (pos 1) es) i; positive = one_up; is = refl }

nodes_same : (f : Format) (d e : ℤ) (regs loads : List ℤ) (x : ℤ) (ns : List Node) (es fs all : List ℤ) → e ≡ d → loads ≡ regs → fs ≡ es → AreExactly f d regs x es ns all → AreExactly f e loads x fs ns all
nodes_same f d e regs loads x ns es fs all p q r h = rw (p, q, r) h

runs_same : (net : Net) (d e : ℤ) (regs loads xs : List ℤ) (samples : List (List ℤ)) → e ≡ d → loads ≡ regs → RunsExactly net d regs xs samples → RunsExactly net e loads xs samples
runs_same net d e regs loads xs samples p q h = rw (p, q) h

-- of nodes
pub record NodesExist (f : Format) (d : ℤ) (regs : List ℤ) (x : ℤ) (ns : List Node) (es : List ℤ) : Type 0 where
  pub growth : ℤ
  pub values : List ℤ
  pub positive : pos 0 <ℤ growth
  pub are : AreExactly f (growth *ℤ d) (scaled growth regs) x (scaled growth es) ns values

nodes_exist : (f : Format) (d : ℤ) (regs : List ℤ) (x : ℤ) (ns : List Node) (es : List ℤ) → NodesExist f d regs x ns es
nodes_exist f d regs x [] es = record { growth = pos 1; values = []; positive = one_up; are = tt }
nodes_exist f d regs x (n ∷ ns) es =
    let o = node_exists f d regs x es n in
    let g = o.growth in
    let t = nodes_exist f (g *ℤ d) (scaled g regs) x ns (scaled g es ++ o.value ∷ []) in
    let s = t.growth in
    let rest = subst (λ (xs : List ℤ). AreExactly f (s *ℤ (g *ℤ d)) (scaled s (scaled g regs)) x xs ns t.values) (map_push (λ (w : ℤ). s *ℤ w) (scaled g es) o.value) t.are in
    record {
      growth = s *ℤ g;
      values = (s *ℤ o.value) ∷ t.values;
      positive = mul_positive s g t.positive o.positive;
      are = nodes_same f (s *ℤ (g *ℤ d)) (s *ℤ g *ℤ d) (scaled s (scaled g regs)) (scaled (s *ℤ g) regs) x (n ∷ ns) (scaled s (scaled g es)) (scaled (s *ℤ g) es) ((s *ℤ o.value) ∷ t.values)
          (grouped s g d) (scaled_twice s g regs) (scaled_twice s g es) (node_scaled f (g *ℤ d) (scaled g regs) x (scaled g es) n o.value s o.is, rest);
    }

-- of a run
pub record RunGrows (net : Net) (d : ℤ) (regs xs : List ℤ) : Type 0 where
  pub growth : ℤ
  pub samples : List (List ℤ)
  pub positive : pos 0 <ℤ growth
  pub runs : RunsExactly net (growth *ℤ d) (scaled growth regs) xs samples

run_grows : (net : Net) (d : ℤ) (regs xs : List ℤ) → RunGrows net d regs xs
run_grows net d regs [] = record { growth = pos 1; samples = []; positive = one_up; runs = tt }
run_grows net d regs (x ∷ xs) =
    let o = nodes_exist net.format d regs x net.nodes [] in
    let g = o.growth in
    let t = run_grows net (g *ℤ d) (map (at o.values) net.next) xs in
    let s = t.growth in
    let rest = subst (λ (loads : List ℤ). RunsExactly net (s *ℤ (g *ℤ d)) loads xs t.samples) (scaled_loads s o.values net.next) t.runs in
    record {
      growth = s *ℤ g;
      samples = scaled s o.values ∷ t.samples;
      positive = mul_positive s g t.positive o.positive;
      runs = runs_same net (s *ℤ (g *ℤ d)) (s *ℤ g *ℤ d) (scaled s (scaled g regs)) (scaled (s *ℤ g) regs) (x ∷ xs) (scaled s o.values ∷ t.samples)
          (grouped s g d) (scaled_twice s g regs) (nodes_scaled net.format (g *ℤ d) (scaled g regs) x net.nodes [] o.values s o.are, rest);
    }

pub runs_exist : RunsExist
runs_exist net xs =
    let start = zeros (length net.next) in
    let t = run_grows net (pos 1) start xs in (
      t.growth *ℤ pos 1,
      t.samples,
      mul_positive t.growth (pos 1) t.positive one_up,
      subst (λ (regs : List ℤ). RunsExactly net (t.growth *ℤ pos 1) regs xs t.samples) (scaled_zeros t.growth (length net.next)) t.runs,
    )

-- ---- and all are the same
node_one : (f : Format) (d e : ℤ) (regs loads : List ℤ) (x : ℤ) (es fs : List ℤ) (n : Node) (v w : ℤ) → scaled e regs ≡ scaled d loads → scaled e es ≡ scaled d fs
    → IsExactly f d regs x es n v → IsExactly f e loads x fs n w → e *ℤ v ≡ d *ℤ w
node_one f d e regs loads x es fs Input v w p q h g = rw (h, g) (swapped d e x)
node_one f d e regs loads x es fs (Reg r) v w p q h g = rw (h, g) (at_same d e regs loads r p)
node_one f d e regs loads x es fs (MulConst c i) v w p q h g =
    rw (h, g) (sym (swapped e c (at es i)) ∙ ap (λ t. c *ℤ t) (at_same d e es fs i q) ∙ swapped d c (at fs i))
node_one f d e regs loads x es fs (Round i) v w p q h g = quotient_one (pos (2 ^ f.frac_bits)) d e v w (power_up f.frac_bits) (rw (h, g) (at_same d e es fs i q))
node_one f d e regs loads x es fs (Add i j) v w p q h g =
    rw (h, g, add_spread e (at es i) (at es j), add_spread d (at fs i) (at fs j), at_same d e es fs i q, at_same d e es fs j q) refl
node_one f d e regs loads x es fs (Sub i j) v w p q h g =
    rw (h, g, sub_spread e (at es i) (at es j), sub_spread d (at fs i) (at fs j), at_same d e es fs i q, at_same d e es fs j q) refl
node_one f d e regs loads x es fs (Fit i) v w p q h g = rw (h, g) (at_same d e es fs i q)
node_one f d e regs loads x es fs (Scale i) v w p q h g =
    let t = pos (2 ^ f.frac_bits) in
    rw (h, g) (sym (swapped e t (at es i)) ∙ ap (λ u. t *ℤ u) (at_same d e es fs i q) ∙ swapped d t (at fs i))

nodes_one : (f : Format) (d e : ℤ) (regs loads : List ℤ) (x : ℤ) (ns : List Node) (es fs all others : List ℤ) → scaled e regs ≡ scaled d loads → scaled e es ≡ scaled d fs
    → AreExactly f d regs x es ns all → AreExactly f e loads x fs ns others → scaled e all ≡ scaled d others
nodes_one f d e regs loads x [] es fs [] [] p q h g = refl
nodes_one f d e regs loads x [] es fs [] (w ∷ others) p q h g = absurd g
nodes_one f d e regs loads x [] es fs (v ∷ all) others p q h g = absurd h
nodes_one f d e regs loads x (n ∷ ns) es fs [] others p q h g = absurd h
nodes_one f d e regs loads x (n ∷ ns) es fs (v ∷ all) [] p q h g = absurd g
nodes_one f d e regs loads x (n ∷ ns) es fs (v ∷ all) (w ∷ others) p q h g =
    let same = node_one f d e regs loads x es fs n v w p q h.0 g.0 in
    let more : scaled e (es ++ v ∷ []) ≡ scaled d (fs ++ w ∷ []) = map_push (λ (u : ℤ). e *ℤ u) es v ∙ rw (q, same) (sym (map_push (λ (u : ℤ). d *ℤ u) fs w)) in
    rw same (ap (λ (xs : List ℤ). (d *ℤ w) ∷ xs) (nodes_one f d e regs loads x ns (es ++ v ∷ []) (fs ++ w ∷ []) all others p more h.1 g.1))

runs_one : (net : Net) (d e : ℤ) (regs loads xs : List ℤ) (samples others : List (List ℤ)) → scaled e regs ≡ scaled d loads → RunsExactly net d regs xs samples → RunsExactly net e loads xs others
    → map (scaled e) samples ≡ map (scaled d) others
runs_one net d e regs loads [] [] [] p h g = refl
runs_one net d e regs loads [] [] (fs ∷ others) p h g = absurd g
runs_one net d e regs loads [] (es ∷ samples) others p h g = absurd h
runs_one net d e regs loads (x ∷ xs) [] others p h g = absurd h
runs_one net d e regs loads (x ∷ xs) (es ∷ samples) [] p h g = absurd g
runs_one net d e regs loads (x ∷ xs) (es ∷ samples) (fs ∷ others) p h g =
    let same = nodes_one net.format d e regs loads x net.nodes [] [] es fs p refl h.0 g.0 in
    let next : scaled e (map (at es) net.next) ≡ scaled d (map (at fs) net.next) = scaled_loads e es net.next ∙ rw same (sym (scaled_loads d fs net.next)) in
    rw same (ap (λ (xs : List (List ℤ)). scaled d fs ∷ xs) (runs_one net d e (map (at es) net.next) (map (at fs) net.next) xs samples others next h.1 g.1))

pub runs_are_one : RunsAreOne
runs_are_one net xs d e samples others h g =
    let n = length net.next in
    runs_one net d e (zeros n) (zeros n) xs samples others (scaled_zeros e n ∙ sym (scaled_zeros d n)) h g
