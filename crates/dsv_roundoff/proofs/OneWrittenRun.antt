-- Over all denominators the exact runs of the written equations have the same outputs.
use Rattle.std.proofs.Common.{◌≡◌, ℕ, ◌+◌, ◌^◌, Bool, true, false, List, [], ◌∷◌, ◌++◌, take, drop, map, refl, sym, ap, ◌∙◌}
use Rattle.std.proofs.Math.IntN.{ℤ, pos, ◌-ℤ◌, ◌*ℤ◌}
use Rattle.std.proofs.lemmas.List.{map-append, take-map, drop-map}
use Rattle.dsv_algebra.proofs.Normaliser.{ring, env, var, num, plus, times, minus}
use Rattle.dsv_word.specs.declared.format.Format.{Format}
use Rattle.dsv_names.specs.declared.realisation.Realisation.{Realisation}
use Rattle.dsv_names.specs.declared.realisation.Realisation.TheVariants.{Dfi, Dfii, Tdfii, Ddfi, Ddfii, Tddfii}
use Rattle.dsv_quantiser.specs.QuantisedView.{QuantisedView}
use Rattle.dsv_system.specs.Systems.{zeros}
use Rattle.dsv_meaning.specs.declared.summands.Summand.{Summand}
use Rattle.dsv_meaning.specs.declared.summands.Summand.TheVariants.{Times, Alone}
use Rattle.dsv_meaning.specs.Lines.{summands, exact_summand, total}
use Rattle.dsv_meaning.specs.Equations.{Past, order, ago, latest, feedback, first_alone, forward_summands, feedback_summands, transposed_output, transposed_line, delta_line, start_as}
use Rattle.dsv_meaning.specs.Systems.{equations_of}
use Rattle.dsv_linear.proofs.Numbers.{times_none}
use Rattle.dsv_roundoff.specs.Written.{IsLine, AreLines, delta_lines, transposed_lines, IsSampleAs, RunsFrom}
use Rattle.dsv_roundoff.specs.Laws.{WrittenRunsAreOne, scaled}
use Rattle.dsv_roundoff.proofs.Scaling.{scaled_at, scaled_zeros, add_spread, swapped, power_up, quotient_one}

-- ---- summands over a denominator so many times as great
abbrev scaled_summand : ℤ → Summand ℤ → Summand ℤ
scaled_summand s (Times away c w) = Times away c (s *ℤ w)
scaled_summand s (Alone w) = Alone (s *ℤ w)

abbrev scaled_line : ℤ → List (Summand ℤ) → List (Summand ℤ)
scaled_line s line = map (scaled_summand s) line

away_scaled : (s c w : ℤ) → s *ℤ (pos 0 -ℤ c *ℤ w) ≡ pos 0 -ℤ c *ℤ (s *ℤ w)
away_scaled s c w = ring (env (s ∷ c ∷ w ∷ [])) (times (var 0) (plus (num (pos 0)) (minus (times (var 1) (var 2))))) (plus (num (pos 0)) (minus (times (var 1) (times (var 0) (var 2))))) refl

summand_scaled : (f : Format) (s : ℤ) (t : Summand ℤ) → s *ℤ exact_summand f t ≡ exact_summand f (scaled_summand s t)
summand_scaled f s (Times true c w) = away_scaled s c w
summand_scaled f s (Times false c w) = sym (swapped s c w)
summand_scaled f s (Alone w) = sym (swapped s (pos (2 ^ f.frac_bits)) w)

total_scaled : (f : Format) (s : ℤ) (line : List (Summand ℤ)) → s *ℤ total f line ≡ total f (scaled_line s line)
total_scaled f s [] = times_none s
total_scaled f s (t ∷ ts) = add_spread s (exact_summand f t) (total f ts) ∙ rw (summand_scaled f s t, total_scaled f s ts) refl

-- lines that are the same over denominators that are so many times as great have the same values
line_one : (f : Format) (d e : ℤ) (line other : List (Summand ℤ)) (v w : ℤ) → scaled_line e line ≡ scaled_line d other → IsLine f line v → IsLine f other w → e *ℤ v ≡ d *ℤ w
line_one f d e line other v w p h g =
    let one = pos (2 ^ f.frac_bits) in
    quotient_one one d e v w (power_up f.frac_bits)
    (ap (λ u. e *ℤ u) h ∙ total_scaled f e line ∙ ap (total f) p ∙ sym (total_scaled f d other) ∙ ap (λ u. d *ℤ u) (sym g))

abbrev first_of : List (List (Summand ℤ)) → List (Summand ℤ)
first_of [] = []
first_of (l ∷ ls) = l

lines_one : (f : Format) (d e : ℤ) (lines others : List (List (Summand ℤ))) (vs ws : List ℤ) → map (scaled_line e) lines ≡ map (scaled_line d) others → AreLines f lines vs → AreLines f others ws → scaled e vs ≡ scaled d ws
lines_one f d e [] [] [] [] p h g = refl
lines_one f d e [] [] [] (w ∷ ws) p h g = absurd g
lines_one f d e [] [] (v ∷ vs) ws p h g = absurd h
lines_one f d e [] (m ∷ others) vs ws p h g = absurd cc
lines_one f d e (l ∷ lines) [] vs ws p h g = absurd cc
lines_one f d e (l ∷ lines) (m ∷ others) [] ws p h g = absurd h
lines_one f d e (l ∷ lines) (m ∷ others) (v ∷ vs) [] p h g = absurd g
lines_one f d e (l ∷ lines) (m ∷ others) (v ∷ vs) (w ∷ ws) p h g =
    let first = line_one f d e l m v w (ap first_of p) h.0 g.0 in
    rw first (ap (λ (us : List ℤ). (d *ℤ w) ∷ us) (lines_one f d e lines others vs ws (ap (drop 1) p) h.1 g.1))

-- ---- the lines of equations
ago_scaled : (s : ℤ) (away : Bool) (cs ws : List ℤ) (k : ℕ) → scaled_line s (summands away cs (ago ws) k) ≡ summands away cs (ago (scaled s ws)) k
ago_scaled s away [] ws k = refl
ago_scaled s away (c ∷ cs) ws k = rw (scaled_at s ws k) (ap (λ (ts : List (Summand ℤ)). Times away c (s *ℤ ago ws k) ∷ ts) (ago_scaled s away cs ws (k + 1)))

same_scaled : (s : ℤ) (away : Bool) (cs : List ℤ) (x : ℤ) (k : ℕ) → scaled_line s (summands away cs (λ (i : ℕ). x) k) ≡ summands away cs (λ (i : ℕ). s *ℤ x) k
same_scaled s away [] x k = refl
same_scaled s away (c ∷ cs) x k = ap (λ (ts : List (Summand ℤ)). Times away c (s *ℤ x) ∷ ts) (same_scaled s away cs x (k + 1))

alone_scaled : (s : ℤ) (ws : List ℤ) → scaled_line s (first_alone ws) ≡ first_alone (scaled s ws)
alone_scaled s [] = refl
alone_scaled s (w ∷ ws) = refl

first_scaled : (s : ℤ) (q : QuantisedView) (xs ys : List ℤ) → scaled_line s (forward_summands q (ago xs) ++ feedback_summands q (ago ys) 0) ≡ forward_summands q (ago (scaled s xs)) ++ feedback_summands q (ago (scaled s ys)) 0
first_scaled s q xs ys = map-append (scaled_summand s) (forward_summands q (ago xs)) (feedback_summands q (ago ys) 0) ∙ rw (ago_scaled s false q.b xs 0, ago_scaled s true (feedback q) ys 0) refl

output_scaled : (s : ℤ) (q : QuantisedView) (x : ℤ) (ws : List ℤ) → scaled_line s (transposed_output q x ws) ≡ transposed_output q (s *ℤ x) (scaled s ws)
output_scaled s q x ws = map-append (scaled_summand s) (summands false (take 1 q.b) (λ (i : ℕ). x) 0) (first_alone ws) ∙ rw (same_scaled s false (take 1 q.b) x 0, alone_scaled s ws) refl

delta_scaled : (s : ℤ) (q : QuantisedView) (ws vs : List ℤ) → map (scaled_line s) (delta_lines q ws vs) ≡ delta_lines q (scaled s ws) (scaled s vs)
delta_scaled s q [] vs = refl
delta_scaled s q (w ∷ ws) [] = refl
delta_scaled s q (w ∷ ws) (v ∷ vs) = ap (λ ls. delta_line q (s *ℤ w) (s *ℤ v) ∷ ls) (delta_scaled s q ws vs)

transposed_scaled : (s x y : ℤ) (bs cs ws : List ℤ) → map (scaled_line s) (transposed_lines x y bs cs ws) ≡ transposed_lines (s *ℤ x) (s *ℤ y) bs cs (scaled s ws)
transposed_scaled s x y [] cs ws = refl
transposed_scaled s x y (b ∷ bs) [] ws = refl
transposed_scaled s x y (b ∷ bs) (a ∷ cs) ws = rw (drop-map (λ (v : ℤ). s *ℤ v) 1 ws, ← alone_scaled s (drop 1 ws)) (ap (λ ls. scaled_line s (transposed_line b a x y (drop 1 ws)) ∷ ls) (transposed_scaled s x y bs cs (drop 1 ws)))

-- ---- pasts
latest_scaled : (s : ℤ) (chains : List (List ℤ)) → latest (map (scaled s) chains) ≡ scaled s (latest chains)
latest_scaled s [] = refl
latest_scaled s (c ∷ chains) = refl

taken_same : (d e : ℤ) (n : ℕ) (ws : List ℤ) → scaled e ws ≡ scaled d ws → scaled e (take n ws) ≡ scaled d (take n ws)
taken_same d e n ws h = sym (take-map (λ (v : ℤ). e *ℤ v) n ws) ∙ ap (take n) h ∙ take-map (λ (v : ℤ). d *ℤ v) n ws

dropped_same : (d e : ℤ) (n : ℕ) (ws : List ℤ) → scaled e ws ≡ scaled d ws → scaled e (drop n ws) ≡ scaled d (drop n ws)
dropped_same d e n ws h = sym (drop-map (λ (v : ℤ). e *ℤ v) n ws) ∙ ap (drop n) h ∙ drop-map (λ (v : ℤ). d *ℤ v) n ws

-- the same pasts over two denominators
pub record AreSame (d e : ℤ) (p r : Past) : Type 0 where
  pub signal : scaled e p.signal ≡ scaled d r.signal
  pub outputs : scaled e p.outputs ≡ scaled d r.outputs
  pub chain : map (scaled e) p.chain ≡ map (scaled d) r.chain
  pub output_chain : map (scaled e) p.output_chain ≡ map (scaled d) r.output_chain

consed : {A : Type 0} → (a b : A) (xs ys : List A) → a ≡ b → xs ≡ ys → a ∷ xs ≡ b ∷ ys
consed a b xs ys h g = rw (h, g) refl

latest_same : (d e : ℤ) (cs ds : List (List ℤ)) → map (scaled e) cs ≡ map (scaled d) ds → scaled e (latest cs) ≡ scaled d (latest ds)
latest_same d e cs ds h = sym (latest_scaled e cs) ∙ ap latest h ∙ latest_scaled d ds

first_same : (d e : ℤ) (q : QuantisedView) (xs us ys vs : List ℤ) → scaled e xs ≡ scaled d us → scaled e ys ≡ scaled d vs
    → scaled_line e (forward_summands q (ago xs) ++ feedback_summands q (ago ys) 0) ≡ scaled_line d (forward_summands q (ago us) ++ feedback_summands q (ago vs) 0)
first_same d e q xs us ys vs h g = first_scaled e q xs ys ∙ ap (λ (ws : List ℤ). forward_summands q (ago ws) ++ feedback_summands q (ago (scaled e ys)) 0) h ∙ ap (λ (ws : List ℤ). forward_summands q (ago (scaled d us)) ++ feedback_summands q (ago ws) 0) g ∙ sym (first_scaled d q us vs)

state_same : (d e : ℤ) (q : QuantisedView) (x u : ℤ) (ys vs : List ℤ) → e *ℤ x ≡ d *ℤ u → scaled e ys ≡ scaled d vs
    → scaled_line e (Alone x ∷ feedback_summands q (ago ys) 0) ≡ scaled_line d (Alone u ∷ feedback_summands q (ago vs) 0)
state_same d e q x u ys vs h g =
    consed (Alone (e *ℤ x)) (Alone (d *ℤ u)) (scaled_line e (feedback_summands q (ago ys) 0)) (scaled_line d (feedback_summands q (ago vs) 0)) (ap (λ (w : ℤ). Alone w) h)
    (ago_scaled e true (feedback q) ys 0 ∙ ap (λ (ws : List ℤ). feedback_summands q (ago ws) 0) g ∙ sym (ago_scaled d true (feedback q) vs 0))

forward_same : (d e : ℤ) (q : QuantisedView) (xs us : List ℤ) → scaled e xs ≡ scaled d us → scaled_line e (forward_summands q (ago xs)) ≡ scaled_line d (forward_summands q (ago us))
forward_same d e q xs us h = ago_scaled e false q.b xs 0 ∙ ap (λ (ws : List ℤ). forward_summands q (ago ws)) h ∙ sym (ago_scaled d false q.b us 0)

output_same : (d e : ℤ) (q : QuantisedView) (x u : ℤ) (ws vs : List ℤ) → e *ℤ x ≡ d *ℤ u → scaled e ws ≡ scaled d vs → scaled_line e (transposed_output q x ws) ≡ scaled_line d (transposed_output q u vs)
output_same d e q x u ws vs h g = output_scaled e q x ws ∙ ap (λ (a : ℤ). transposed_output q a (scaled e ws)) h ∙ ap (transposed_output q (d *ℤ u)) g ∙ sym (output_scaled d q u vs)

delta_same : (d e : ℤ) (q : QuantisedView) (ws us vs ts : List ℤ) → scaled e ws ≡ scaled d us → scaled e vs ≡ scaled d ts → map (scaled_line e) (delta_lines q ws vs) ≡ map (scaled_line d) (delta_lines q us ts)
delta_same d e q ws us vs ts h g = delta_scaled e q ws vs ∙ ap (λ (as_ : List ℤ). delta_lines q as_ (scaled e vs)) h ∙ ap (delta_lines q (scaled d us)) g ∙ sym (delta_scaled d q us ts)

transposed_same : (d e : ℤ) (x u y z : ℤ) (bs cs ws vs : List ℤ) → e *ℤ x ≡ d *ℤ u → e *ℤ y ≡ d *ℤ z → scaled e ws ≡ scaled d vs → map (scaled_line e) (transposed_lines x y bs cs ws) ≡ map (scaled_line d) (transposed_lines u z bs cs vs)
transposed_same d e x u y z bs cs ws vs h g k =
    transposed_scaled e x y bs cs ws ∙ ap (λ (a : ℤ). transposed_lines a (e *ℤ y) bs cs (scaled e ws)) h ∙ ap (λ (a : ℤ). transposed_lines (d *ℤ u) a bs cs (scaled e ws)) g
    ∙ ap (transposed_lines (d *ℤ u) (d *ℤ z) bs cs) k ∙ sym (transposed_scaled d u z bs cs vs)

-- ---- one sample
pub record IsOne (d e y z : ℤ) (next other : Past) : Type 0 where
  pub output : e *ℤ y ≡ d *ℤ z
  pub pasts : AreSame d e next other

-- from the same pasts, at the same input
abbrev SamplesAreOne : Realisation → Type 0
SamplesAreOne k = (q : QuantisedView) (d e : ℤ) (p r : Past) (x u y z : ℤ) (next other : Past) → AreSame d e p r → e *ℤ x ≡ d *ℤ u → IsSampleAs k q p x y next → IsSampleAs k q r u z other → IsOne d e y z next other

same_after : (d e : ℤ) (p r next other : Past) → next ≡ p → other ≡ r → AreSame d e p r → AreSame d e next other
same_after d e p r next other h g s = rw (h, g) s

dfi_one : SamplesAreOne Dfi
dfi_one q d e p r x u y z next other s i h g =
    let inputs = consed (e *ℤ x) (d *ℤ u) (scaled e p.signal) (scaled d r.signal) i s.signal in
    let output = line_one q.format d e (forward_summands q (ago (x ∷ p.signal)) ++ feedback_summands q (ago p.outputs) 0) (forward_summands q (ago (u ∷ r.signal)) ++ feedback_summands q (ago r.outputs) 0) y z
    (first_same d e q (x ∷ p.signal) (u ∷ r.signal) p.outputs r.outputs inputs s.outputs) h.0 g.0 in
    record {
      output = output;
      pasts = same_after d e (record p { signal = x ∷ p.signal; outputs = y ∷ p.outputs }) (record r { signal = u ∷ r.signal; outputs = z ∷ r.outputs }) next other h.1 g.1 (record {
        signal = inputs;
        outputs = consed (e *ℤ y) (d *ℤ z) (scaled e p.outputs) (scaled d r.outputs) output s.outputs;
        chain = s.chain;
        output_chain = s.output_chain;
      });
    }

dfii_one : SamplesAreOne Dfii
dfii_one q d e p r x u y z next other s i h g =
    let v = h.0 in
    let w = g.0 in
    let state = line_one q.format d e (Alone x ∷ feedback_summands q (ago p.signal) 0) (Alone u ∷ feedback_summands q (ago r.signal) 0) v w (state_same d e q x u p.signal r.signal i s.signal) h.1 g.1 in
    let states = consed (e *ℤ v) (d *ℤ w) (scaled e p.signal) (scaled d r.signal) state s.signal in
    record {
      output = line_one q.format d e (forward_summands q (ago (v ∷ p.signal))) (forward_summands q (ago (w ∷ r.signal))) y z (forward_same d e q (v ∷ p.signal) (w ∷ r.signal) states) h.2 g.2;
      pasts = same_after d e (record p { signal = v ∷ p.signal }) (record r { signal = w ∷ r.signal }) next other h.3 g.3 (record { signal = states; outputs = s.outputs; chain = s.chain; output_chain = s.output_chain });
    }

-- a chain more
same_chain : (d e : ℤ) (p r next other : Past) (vs ws : List ℤ) → AreSame d e p r → scaled e vs ≡ scaled d ws → next ≡ record p { chain = vs ∷ p.chain } → other ≡ record r { chain = ws ∷ r.chain } → AreSame d e next other
same_chain d e p r next other vs ws s c h g =
    same_after d e (record p { chain = vs ∷ p.chain }) (record r { chain = ws ∷ r.chain }) next other h g (record {
      signal = s.signal;
      outputs = s.outputs;
      chain = consed (scaled e vs) (scaled d ws) (map (scaled e) p.chain) (map (scaled d) r.chain) c s.chain;
      output_chain = s.output_chain;
    })

tdfii_one : SamplesAreOne Tdfii
tdfii_one q d e p r x u y z next other s i h g =
    let vs = latest p.chain in
    let ws = latest r.chain in
    let old = latest_same d e p.chain r.chain s.chain in
    let output = line_one q.format d e (transposed_output q x vs) (transposed_output q u ws) y z (output_same d e q x u vs ws i old) h.1 g.1 in
    let bs = drop 1 q.b in
    let cs = feedback q in
    let new = lines_one q.format d e (transposed_lines x y bs cs vs) (transposed_lines u z bs cs ws) h.0 g.0 (transposed_same d e x u y z bs cs vs ws i output old) h.2 g.2 in
    record { output = output; pasts = same_chain d e p r next other h.0 g.0 s new h.3 g.3 }

tddfii_one : SamplesAreOne Tddfii
tddfii_one q d e p r x u y z next other s i h g =
    let vs = latest p.chain in
    let ws = latest r.chain in
    let old = latest_same d e p.chain r.chain s.chain in
    let output = line_one q.format d e (transposed_output q x vs) (transposed_output q u ws) y z (output_same d e q x u vs ws i old) h.2 g.2 in
    let bs = drop 1 q.b in
    let cs = feedback q in
    let changes = lines_one q.format d e (transposed_lines x y bs cs vs) (transposed_lines u z bs cs ws) h.0 g.0 (transposed_same d e x u y z bs cs vs ws i output old) h.3 g.3 in
    let new = lines_one q.format d e (delta_lines q vs h.0) (delta_lines q ws g.0) h.1 g.1 (delta_same d e q vs ws h.0 g.0 old changes) h.4 g.4 in
    record { output = output; pasts = same_chain d e p r next other h.1 g.1 s new h.5 g.5 }

ddfii_one : SamplesAreOne Ddfii
ddfii_one q d e p r x u y z next other s i h g =
    let vs = latest p.chain in
    let ws = latest r.chain in
    let old = latest_same d e p.chain r.chain s.chain in
    let v = h.0 in
    let w = g.0 in
    let state = line_one q.format d e (Alone x ∷ feedback_summands q (ago vs) 0) (Alone u ∷ feedback_summands q (ago ws) 0) v w (state_same d e q x u vs ws i old) h.2 g.2 in
    let states = consed (e *ℤ v) (d *ℤ w) (scaled e vs) (scaled d ws) state old in
    let new = lines_one q.format d e (delta_lines q vs (v ∷ vs)) (delta_lines q ws (w ∷ ws)) h.1 g.1 (delta_same d e q vs ws (v ∷ vs) (w ∷ ws) old states) h.4 g.4 in
    record {
      output = line_one q.format d e (forward_summands q (ago (v ∷ vs))) (forward_summands q (ago (w ∷ ws))) y z (forward_same d e q (v ∷ vs) (w ∷ ws) states) h.3 g.3;
      pasts = same_chain d e p r next other h.1 g.1 s new h.5 g.5;
    }

ddfi_one : SamplesAreOne Ddfi
ddfi_one q d e p r x u y z next other s i h g =
    let vs = latest p.chain in
    let ws = latest r.chain in
    let os = latest p.output_chain in
    let ts = latest r.output_chain in
    let old = latest_same d e p.chain r.chain s.chain in
    let older = latest_same d e p.output_chain r.output_chain s.output_chain in
    let inputs = consed (e *ℤ x) (d *ℤ u) (scaled e vs) (scaled d ws) i old in
    let output = line_one q.format d e (forward_summands q (ago (x ∷ vs)) ++ feedback_summands q (ago os) 0) (forward_summands q (ago (u ∷ ws)) ++ feedback_summands q (ago ts) 0) y z (first_same d e q (x ∷ vs) (u ∷ ws) os ts inputs older) h.2 g.2 in
    let outputs = consed (e *ℤ y) (d *ℤ z) (scaled e os) (scaled d ts) output older in
    let new = lines_one q.format d e (delta_lines q vs (x ∷ vs)) (delta_lines q ws (u ∷ ws)) h.0 g.0 (delta_same d e q vs ws (x ∷ vs) (u ∷ ws) old inputs) h.3 g.3 in
    let newer = lines_one q.format d e (delta_lines q os (y ∷ os)) (delta_lines q ts (z ∷ ts)) h.1 g.1 (delta_same d e q os ts (y ∷ os) (z ∷ ts) older outputs) h.4 g.4 in
    record {
      output = output;
      pasts = same_after d e (record p { chain = h.0 ∷ p.chain; output_chain = h.1 ∷ p.output_chain }) (record r { chain = g.0 ∷ r.chain; output_chain = g.1 ∷ r.output_chain }) next other h.5 g.5 (record {
        signal = s.signal;
        outputs = s.outputs;
        chain = consed (scaled e h.0) (scaled d g.0) (map (scaled e) p.chain) (map (scaled d) r.chain) new s.chain;
        output_chain = consed (scaled e h.1) (scaled d g.1) (map (scaled e) p.output_chain) (map (scaled d) r.output_chain) newer s.output_chain;
      });
    }

samples_one : (k : Realisation) → SamplesAreOne k
samples_one Dfi = dfi_one
samples_one Dfii = dfii_one
samples_one Tdfii = tdfii_one
samples_one Ddfi = ddfi_one
samples_one Ddfii = ddfii_one
samples_one Tddfii = tddfii_one

-- ---- runs
runs_one : (q : QuantisedView) (d e : ℤ) (p r : Past) (xs ys zs : List ℤ) → AreSame d e p r → RunsFrom q d p xs ys → RunsFrom q e r xs zs → scaled e ys ≡ scaled d zs
runs_one q d e p r [] [] [] s h g = refl
runs_one q d e p r [] [] (z ∷ zs) s h g = absurd g
runs_one q d e p r [] (y ∷ ys) zs s h g = absurd h
runs_one q d e p r (x ∷ xs) [] zs s h g = absurd h
runs_one q d e p r (x ∷ xs) (y ∷ ys) [] s h g = absurd g
runs_one q d e p r (x ∷ xs) (y ∷ ys) (z ∷ zs) s h g =
    let one = samples_one q.realisation q d e p r (d *ℤ x) (e *ℤ x) y z h.0 g.0 s (swapped d e x) h.1 g.1 in
    consed (e *ℤ y) (d *ℤ z) (scaled e ys) (scaled d zs) one.output (runs_one q d e h.0 g.0 xs ys zs one.pasts h.2 g.2)

-- the start is the same over all denominators where its registers are
start_same : (k : Realisation) (n : ℕ) (d e : ℤ) (ws : List ℤ) → scaled e ws ≡ scaled d ws → AreSame d e (start_as k n ws) (start_as k n ws)
start_same Dfi n d e ws h = record { signal = taken_same d e n ws h; outputs = dropped_same d e n ws h; chain = refl; output_chain = refl }
start_same Dfii n d e ws h = record { signal = h; outputs = refl; chain = refl; output_chain = refl }
start_same Tdfii n d e ws h = record { signal = refl; outputs = refl; chain = ap (λ (us : List ℤ). us ∷ []) h; output_chain = refl }
start_same Ddfi n d e ws h = record { signal = refl; outputs = refl; chain = ap (λ (us : List ℤ). us ∷ []) (taken_same d e n ws h); output_chain = ap (λ (us : List ℤ). us ∷ []) (dropped_same d e n ws h) }
start_same Ddfii n d e ws h = record { signal = refl; outputs = refl; chain = ap (λ (us : List ℤ). us ∷ []) h; output_chain = refl }
start_same Tddfii n d e ws h = record { signal = refl; outputs = refl; chain = ap (λ (us : List ℤ). us ∷ []) h; output_chain = refl }

pub written_runs_one : WrittenRunsAreOne
written_runs_one q xs d e ys others h g =
    let ws = zeros (equations_of q).many in
    let start = (equations_of q).start ws in
    let quiet : scaled e ws ≡ scaled d ws = scaled_zeros e (equations_of q).many ∙ sym (scaled_zeros d (equations_of q).many) in
    runs_one q d e start start xs ys others (start_same q.realisation (order q) d e ws quiet) h g
