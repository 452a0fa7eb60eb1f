-- The nodes of a line give its exact value, whichever way it is summed.
use Rattle.std.proofs.Common.{◌≡◌, ℕ, ◌^◌, Bool, true, false, List, [], ◌∷◌, length, map, refl, ap, ◌∙◌, arith}
use Rattle.std.proofs.Math.IntN.{ℤ, pos, ◌+ℤ◌, ◌-ℤ◌, ◌*ℤ◌}
use Rattle.std.proofs.lemmas.Int.{ints}
use Rattle.dsv_algebra.proofs.Normaliser.{ring, env, var, num, plus, times, minus}
use Rattle.dsv_netlist.specs.declared.node.Node.{Node}
use Rattle.dsv_netlist.specs.declared.node.Node.TheVariants.{MulConst, Round, Fit}
use Rattle.dsv_quantiser.specs.QuantisedView.{QuantisedView}
use Rattle.dsv_meaning.specs.declared.summands.Summand.{Summand}
use Rattle.dsv_meaning.specs.declared.summands.Summand.TheVariants.{Times, Alone}
use Rattle.dsv_meaning.specs.Lines.{exact_summand, total}
use Rattle.dsv_realise.specs.Making.{Made, made_at, put, with_product, sum_node, with_sum, with_next, with_summands, exact_node, is_away, first_exact_node, with_first_exact, with_next_exact, with_exact_summands, with_rounded, with_line, line_nodes}
use Rattle.dsv_realise.proofs.LineNodes.{in_words}
use Rattle.dsv_realise.proofs.Samples.{joint}
use Rattle.dsv_roundoff.specs.Written.{IsLine}
use Rattle.dsv_roundoff.proofs.ExactSamples.{ExactSample, value_of, Holds, AllHold, hold_front, hold_last}

-- the number 1 in words
abbrev pub one_in : ExactSample → ℤ
one_in s = pos (2 ^ s.format.frac_bits)

-- the older nodes hold, and the value at the place times 2^frac_bits is this
pub record HoldsAt (s : ExactSample) (old : List Node) (m : Made) (v : ℤ) : Type 0 where
  pub before : AllHold s 0 old
  pub value : one_in s *ℤ value_of s m.place ≡ v

joined : (s : ExactSample) (k : ℕ) (away : Bool) (i j : ℕ) → Holds s k (sum_node away i j) → value_of s k ≡ joint away (value_of s i) (value_of s j)
joined s k true i j h = h
joined s k false i j h = h

-- ---- numbers
ended : (v : ℤ) → v ≡ v +ℤ pos 0
ended v = omega (arith, ints)

lead : (p a u t v : ℤ) → p *ℤ a ≡ u → v ≡ p *ℤ a +ℤ t → v ≡ u +ℤ t
lead p a u t v h g = omega (arith, ints)

added_on : (p a b u t v : ℤ) → p *ℤ b ≡ p *ℤ a +ℤ u → v ≡ p *ℤ b +ℤ t → v ≡ p *ℤ a +ℤ (u +ℤ t)
added_on p a b u t v h g = omega (arith, ints)

taken_away : (p a b u : ℤ) → p *ℤ b ≡ u → p *ℤ (a -ℤ b) ≡ p *ℤ a +ℤ (pos 0 -ℤ u)
taken_away p a b u h = ring (env (p ∷ a ∷ b ∷ [])) (times (var 0) (plus (var 1) (minus (var 2)))) (plus (times (var 0) (var 1)) (plus (num (pos 0)) (minus (times (var 0) (var 2))))) refl ∙ ap (λ (w : ℤ). p *ℤ a +ℤ (pos 0 -ℤ w)) h

put_on : (p a b u : ℤ) → p *ℤ b ≡ u → p *ℤ (a +ℤ b) ≡ p *ℤ a +ℤ u
put_on p a b u h = ring (env (p ∷ a ∷ b ∷ [])) (times (var 0) (plus (var 1) (var 2))) (plus (times (var 0) (var 1)) (times (var 0) (var 2))) refl ∙ ap (λ (w : ℤ). p *ℤ a +ℤ w) h

-- ---- summed in words
product_holds : (s : ExactSample) (ns : List Node) (c : ℤ) (i : ℕ) → AllHold s 0 (with_product ns c i).nodes → HoldsAt s ns (with_product ns c i) (c *ℤ value_of s i)
product_holds s ns c i h =
    let a = put ns (MulConst c i) in
    let b = put a (Round (length ns)) in
    let hb = hold_front s 0 b (Fit (length a) ∷ []) h in
    let ha = hold_front s 0 a (Round (length ns) ∷ []) hb in
    record {
      before = hold_front s 0 ns (MulConst c i ∷ []) ha;
      value = ap (λ (v : ℤ). one_in s *ℤ v) (hold_last s b (Fit (length a)) h) ∙ hold_last s a (Round (length ns)) hb ∙ hold_last s ns (MulConst c i) ha;
    }

sum_holds : (s : ExactSample) (ns : List Node) (away : Bool) (i j : ℕ) → AllHold s 0 (with_sum away ns i j).nodes → AllHold s 0 ns × (value_of s (with_sum away ns i j).place ≡ joint away (value_of s i) (value_of s j))
sum_holds s ns away i j h =
    let a = put ns (sum_node away i j) in
    let ha = hold_front s 0 a (Fit (length ns) ∷ []) h in (
      hold_front s 0 ns (sum_node away i j ∷ []) ha,
      hold_last s a (Fit (length ns)) h ∙ joined s (length ns) away i j (hold_last s ns (sum_node away i j) ha),
    )

next_holds : (s : ExactSample) (m : Made) (t : Summand ℕ) → AllHold s 0 (with_next m t).nodes
    → HoldsAt s m.nodes (with_next m t) (one_in s *ℤ value_of s m.place +ℤ exact_summand s.format (in_words s.values t))
next_holds s m (Times true c i) h =
    let u = with_product m.nodes c i in
    let g = sum_holds s u.nodes true m.place u.place h in
    let k = product_holds s m.nodes c i g.0 in
    record { before = k.before; value = ap (λ (v : ℤ). one_in s *ℤ v) g.1 ∙ taken_away (one_in s) (value_of s m.place) (value_of s u.place) (c *ℤ value_of s i) k.value }
next_holds s m (Times false c i) h =
    let u = with_product m.nodes c i in
    let g = sum_holds s u.nodes false m.place u.place h in
    let k = product_holds s m.nodes c i g.0 in
    record { before = k.before; value = ap (λ (v : ℤ). one_in s *ℤ v) g.1 ∙ put_on (one_in s) (value_of s m.place) (value_of s u.place) (c *ℤ value_of s i) k.value }
next_holds s m (Alone i) h =
    let g = sum_holds s m.nodes false m.place i h in
    record { before = g.0; value = ap (λ (v : ℤ). one_in s *ℤ v) g.1 ∙ put_on (one_in s) (value_of s m.place) (value_of s i) (one_in s *ℤ value_of s i) refl }

summands_hold : (s : ExactSample) (m : Made) (ts : List (Summand ℕ)) → AllHold s 0 (with_summands m ts).nodes
    → HoldsAt s m.nodes (with_summands m ts) (one_in s *ℤ value_of s m.place +ℤ total s.format (map (in_words s.values) ts))
summands_hold s m [] h = record { before = h; value = ended (one_in s *ℤ value_of s m.place) }
summands_hold s m (t ∷ ts) h =
    let g = summands_hold s (with_next m t) ts h in
    let k = next_holds s m t g.before in
    record {
      before = k.before;
      value = added_on (one_in s) (value_of s m.place) (value_of s (with_next m t).place) (exact_summand s.format (in_words s.values t)) (total s.format (map (in_words s.values) ts)) (one_in s *ℤ value_of s (with_summands (with_next m t) ts).place) k.value g.value;
    }

-- ---- summed in a wide accumulator
less : (v w u : ℤ) → w ≡ u → v -ℤ w ≡ v +ℤ (pos 0 -ℤ u)
less v w u e = omega (arith, ints)

joined_summand : (s : ExactSample) (t : Summand ℕ) (i j k : ℕ) → Holds s j (exact_node t) → value_of s k ≡ joint (is_away t) (value_of s i) (value_of s j) → value_of s k ≡ value_of s i +ℤ exact_summand s.format (in_words s.values t)
joined_summand s (Times true c of) i j k g e = e ∙ less (value_of s i) (value_of s j) (c *ℤ value_of s of) g
joined_summand s (Times false c of) i j k g e = e ∙ ap (λ (u : ℤ). value_of s i +ℤ u) g
joined_summand s (Alone of) i j k g e = e ∙ ap (λ (u : ℤ). value_of s i +ℤ u) g

next_exact_holds : (s : ExactSample) (m : Made) (t : Summand ℕ) → AllHold s 0 (with_next_exact m t).nodes
    → AllHold s 0 m.nodes × (value_of s (with_next_exact m t).place ≡ value_of s m.place +ℤ exact_summand s.format (in_words s.values t))
next_exact_holds s m t h =
    let a = put m.nodes (exact_node t) in
    let n = sum_node (is_away t) m.place (length m.nodes) in
    let ha = hold_front s 0 a (n ∷ []) h in (
      hold_front s 0 m.nodes (exact_node t ∷ []) ha,
      joined_summand s t m.place (length m.nodes) (length a) (hold_last s m.nodes (exact_node t) ha) (joined s (length a) (is_away t) m.place (length m.nodes) (hold_last s a n h)),
    )

summed_on : (a b u t v : ℤ) → b ≡ a +ℤ u → v ≡ b +ℤ t → v ≡ a +ℤ (u +ℤ t)
summed_on a b u t v h g = omega (arith, ints)

exact_summands_hold : (s : ExactSample) (m : Made) (ts : List (Summand ℕ)) → AllHold s 0 (with_exact_summands m ts).nodes
    → AllHold s 0 m.nodes × (value_of s (with_exact_summands m ts).place ≡ value_of s m.place +ℤ total s.format (map (in_words s.values) ts))
exact_summands_hold s m [] h = (h, ended (value_of s m.place))
exact_summands_hold s m (t ∷ ts) h =
    let g = exact_summands_hold s (with_next_exact m t) ts h in
    let k = next_exact_holds s m t g.0 in (
      k.0,
      summed_on (value_of s m.place) (value_of s (with_next_exact m t).place) (exact_summand s.format (in_words s.values t)) (total s.format (map (in_words s.values) ts)) (value_of s (with_exact_summands (with_next_exact m t) ts).place) k.1 g.1,
    )

-- the total, whose first summand is as it is in the total
wide_holds : (s : ExactSample) (ns : List Node) (t : Summand ℕ) (ts : List (Summand ℕ)) → (Holds s (length ns) (first_exact_node t) → value_of s (length ns) ≡ exact_summand s.format (in_words s.values t))
    → AllHold s 0 (with_rounded (with_exact_summands (with_first_exact ns t) ts)).nodes
    → HoldsAt s ns (with_rounded (with_exact_summands (with_first_exact ns t) ts)) (total s.format (map (in_words s.values) (t ∷ ts)))
wide_holds s ns t ts first h =
    let m = with_exact_summands (with_first_exact ns t) ts in
    let a = put m.nodes (Round m.place) in
    let ha = hold_front s 0 a (Fit (length m.nodes) ∷ []) h in
    let g = exact_summands_hold s (with_first_exact ns t) ts (hold_front s 0 m.nodes (Round m.place ∷ []) ha) in
    record {
      before = hold_front s 0 ns (first_exact_node t ∷ []) g.0;
      value = ap (λ (v : ℤ). one_in s *ℤ v) (hold_last s a (Fit (length m.nodes)) h) ∙ hold_last s m.nodes (Round m.place) ha ∙ g.1
          ∙ ap (λ (v : ℤ). v +ℤ total s.format (map (in_words s.values) ts)) (first (hold_last s ns (first_exact_node t) g.0));
    }

-- ---- both
-- a line begins with a product that is added, or it is a word alone, or one before a product
abbrev pub IsProper : {A : Type 0} → List (Summand A) → Type 0
IsProper [] = ⊥
IsProper (Times true c w ∷ ts) = ⊥
IsProper (Times false c w ∷ ts) = Unit {0}
IsProper (Alone w ∷ []) = Unit {0}
IsProper (Alone w ∷ Times away c v ∷ ts) = Unit {0}
IsProper (Alone w ∷ Alone v ∷ ts) = ⊥

-- what the nodes of a line say: those before hold, and the value is the line's
pub record HoldsLine (s : ExactSample) (old : List Node) (m : Made) (line : List (Summand ℤ)) : Type 0 where
  pub before : AllHold s 0 old
  pub is : IsLine s.format line (value_of s m.place)

with_line_holds : (wide : Bool) (s : ExactSample) (ns : List Node) (ts : List (Summand ℕ)) → IsProper ts → AllHold s 0 (with_line wide ns ts).nodes → HoldsLine s ns (with_line wide ns ts) (map (in_words s.values) ts)
with_line_holds wide s ns [] p h = absurd p
with_line_holds wide s ns (Times true c i ∷ ts) p h = absurd p
with_line_holds wide s ns (Alone i ∷ Alone j ∷ ts) p h = absurd p
with_line_holds true s ns (Times false c i ∷ ts) p h =
    let g = wide_holds s ns (Times false c i) ts (λ k. k) h in
    record { before = g.before; is = g.value }
with_line_holds false s ns (Times false c i ∷ ts) p h =
    let m = with_product ns c i in
    let g = summands_hold s m ts h in
    let k = product_holds s ns c i g.before in
    record { before = k.before; is = lead (one_in s) (value_of s m.place) (c *ℤ value_of s i) (total s.format (map (in_words s.values) ts)) (one_in s *ℤ value_of s (with_summands m ts).place) k.value g.value }
with_line_holds true s ns (Alone i ∷ []) p h = record { before = h; is = ended (one_in s *ℤ value_of s i) }
with_line_holds false s ns (Alone i ∷ []) p h = record { before = h; is = ended (one_in s *ℤ value_of s i) }
with_line_holds true s ns (Alone i ∷ Times away c j ∷ ts) p h =
    let g = wide_holds s ns (Alone i) (Times away c j ∷ ts) (λ k. k) h in
    record { before = g.before; is = g.value }
with_line_holds false s ns (Alone i ∷ Times away c j ∷ ts) p h =
    let g = summands_hold s (made_at ns i) (Times away c j ∷ ts) h in
    record { before = g.before; is = g.value }

pub line_holds : (q : QuantisedView) (s : ExactSample) (ns : List Node) (ts : List (Summand ℕ)) → IsProper ts → AllHold s 0 (line_nodes q ns ts).nodes → HoldsLine s ns (line_nodes q ns ts) (map (in_words s.values) ts)
line_holds q s ns ts p h = with_line_holds q.wide s ns ts p h
