-- Registers that are symbols of their own.
use Rattle.std.proofs.Common.{◌≡◌, ℕ, zero, suc, ◌<◌, ◌≤◌, ◌≢◌, inl, inr, List, [], ◌∷◌, ◌++◌, length, refl, sym, subst, ap, ◌∙◌, arith, length-append}
use Rattle.std.proofs.Math.IntN.{ℤ, pos, ◌+ℤ◌, ◌*ℤ◌}
use Rattle.std.proofs.lemmas.Int.{ints}
use Rattle.std.proofs.lemmas.Bool.{cases_lt}
use Rattle.std.proofs.lemmas.List.{get_or_append_left, get_or_push, get_or_past, length_push, length-replicate, append_assoc}
use lib.Signed.{◌<ℤ◌, ◌≤ℤ◌}
use Rattle.dsv_algebra.proofs.Normaliser.{ring, env, var, num, plus, times}
use Rattle.dsv_algebra.proofs.Sums.{sum_one}
use Rattle.dsv_algebra.specs.Vectors.{sum_to}
use Rattle.dsv_system.specs.Systems.{zeros}
use Rattle.dsv_netlist.specs.Nodes.{at}
use Rattle.dsv_linear.specs.declared.range.Range.{Range}
use Rattle.dsv_linear.specs.Forms.{scale, range_at, unit}
use Rattle.dsv_linear.specs.Meaning.{LiesIn}
use Rattle.dsv_linear.proofs.Meanings.{replicated}
use Rattle.dsv_network.specs.declared.signal.Signal.{Signal}
use Rattle.dsv_network.specs.declared.signal.Signal.TheVariants.{Outer, Register, Product, Sum, Difference, Near, Checked, Shown}
use Rattle.dsv_network.specs.declared.network.Network.{Network}
use Rattle.dsv_network.specs.declared.pass.Pass.{Pass}
use Rattle.dsv_network.specs.declared.walk.Walk.{Walk}
use Rattle.dsv_network.specs.Samples.{begun}
use Rattle.dsv_network.specs.Gains.{symbol_registers, none_range, first_ranges, sample_symbols, start_pass}
use Rattle.dsv_network.specs.Runs.{AreIn}
use Rattle.dsv_network.proofs.Walks.{form_of}
use Rattle.dsv_network.proofs.Solutions.{after}
use Rattle.dsv_network.proofs.Walking.{symbols_in, AreSummed, AreTaken}
use Rattle.dsv_network.proofs.Passes.{pass_after, Stands}

-- ---- a symbol's form
unit_long : (j : ℕ) → length (unit j) ≡ suc j
unit_long j = let l = length_push (zeros j) (pos scale) in let m = length-replicate j (pos 0) in omega arith

unit_last : (j : ℕ) → at (unit j) j ≡ pos scale
unit_last j = get_or_push (zeros j) (pos scale) (pos 0) j (length-replicate j (pos 0))

unit_none : (j i : ℕ) → i ≢ j → at (unit j) i ≡ pos 0
unit_none j i p = elim (cases_lt i j) [
  | inl q ↦ get_or_append_left (zeros j) (pos scale ∷ []) (pos 0) i (let m = length-replicate j (pos 0) in omega arith) ∙ replicated j i (pos 0) (pos 0) q
  | inr q ↦ get_or_past (unit j) i (pos 0) (let l = unit_long j in let o : j < i = omega (arith, p) in omega arith)
]

-- ---- registers
registers_long : (n : ℕ) → length (symbol_registers n) ≡ n
registers_long zero = refl
registers_long (suc n) = let l = length_push (symbol_registers n) (unit n) in let m = registers_long n in omega (arith, l, m)

register_at : (n i : ℕ) → i < n → form_of (symbol_registers n) i ≡ unit i
register_at zero i p = absurd (omega arith)
register_at (suc n) i p =
    let l = registers_long n in
    elim (cases_lt i n) [
      | inl q ↦ get_or_append_left (symbol_registers n) (unit n ∷ []) [] i (omega (arith, l, q)) ∙ register_at n i q
      | inr q ↦ (let same : n ≡ i = omega (arith, p, q) in get_or_push (symbol_registers n) (unit n) [] i (l ∙ same) ∙ ap unit same)
    ]

register_none : (n r j : ℕ) → n ≤ j → at (form_of (symbol_registers n) r) j ≡ pos 0
register_none n r j l = elim (cases_lt r n) [
  | inl p ↦ ap (λ (f : List ℤ). at f j) (register_at n r p) ∙ get_or_past (unit r) j (pos 0) (let m = unit_long r in omega (arith, l, m, p))
  | inr p ↦ ap (λ (f : List ℤ). at f j) (get_or_past (symbol_registers n) r [] (let m = registers_long n in omega (arith, m, p)))
]

alone : (s v : ℤ) → s *ℤ pos 1 *ℤ v ≡ pos 0 +ℤ s *ℤ v
alone s v = ring (env (s ∷ v ∷ [])) (times (times (var 0) (num (pos 1))) (var 1)) (plus (num (pos 0)) (times (var 0) (var 1))) refl

no_more : (c u : ℤ) → c ≡ pos 0 → pos 0 +ℤ c *ℤ u ≡ pos 0
no_more c u e = rw e (ring (env (u ∷ [])) (plus (num (pos 0)) (times (num (pos 0)) (var 0))) (num (pos 0)) refl)

symbol_means : (n m r : ℕ) (us : ℕ → ℤ) → r < n → n ≤ m → pos scale *ℤ pos 1 *ℤ us r ≡ sum_to m (λ j. sum_to 1 (λ a. at (form_of (symbol_registers n) r) j *ℤ us j))
symbol_means n m r us p q =
    let f = form_of (symbol_registers n) r in
    let same = register_at n r p in
    sym (sum_one m (λ j. sum_to 1 (λ a. at f j *ℤ us j)) r (omega (arith, p, q)) (λ j h k. no_more (at f j) (us j) (ap (λ (g : List ℤ). at g j) same ∙ unit_none r j k))
    ∙ ap (λ c. pos 0 +ℤ c *ℤ us r) (ap (λ (g : List ℤ). at g r) same ∙ unit_last r)
    ∙ sym (alone (pos scale) (us r)))

pub once : (v : ℤ) → pos 1 *ℤ v ≡ v
once v = ring (env (v ∷ [])) (times (num (pos 1)) (var 0)) (var 0) refl

pub in_long : (over : ℤ) (starts : List Range) (vs : List ℤ) → AreIn over starts vs → length vs ≡ length starts
in_long over [] [] h = refl
in_long over [] (v ∷ vs) h = absurd h
in_long over (r ∷ starts) [] h = absurd h
in_long over (r ∷ starts) (v ∷ vs) h = ap suc (in_long over starts vs h.1)

in_at : (over : ℤ) (starts : List Range) (vs : List ℤ) (j : ℕ) → AreIn over starts vs → j < length starts → LiesIn over (range_at starts j) (at vs j)
in_at over [] vs j h l = absurd (omega arith)
in_at over (r ∷ starts) [] j h l = absurd h
in_at over (r ∷ starts) (v ∷ vs) zero h l = h.0
in_at over (r ∷ starts) (v ∷ vs) (suc j) h l = in_at over starts vs j h.1 (omega arith)

-- ---- the symbols of a sample
first_long : (node : Signal) → length (first_ranges node) ≡ symbols_in (node ∷ [])
first_long (Outer r) = refl
first_long (Register r) = refl
first_long (Product c i) = refl
first_long (Sum i j) = refl
first_long (Difference i j) = refl
first_long (Near near) = refl
first_long (Checked i) = refl
first_long (Shown i) = refl

sample_long : (ns : List Signal) → length (sample_symbols ns) ≡ symbols_in ns
sample_long [] = refl
sample_long (node ∷ ns) =
    let l = length-append (first_ranges node) (sample_symbols ns) in
    let f = first_long node in
    let s = sample_long ns in
    omega (arith, l, f, s)

symbol_takes : (own r : Range) → r ≡ own → (r.low ≤ℤ own.low) × (own.high ≤ℤ r.high)
symbol_takes own r e = rw e (omega (arith, ints), omega (arith, ints))

here_is : (rs : List Range) (r : Range) (rest : List Range) → range_at (rs ++ r ∷ rest) (length rs) ≡ r
here_is [] r rest = refl
here_is (q ∷ rs) r rest = here_is rs r rest

further_taken : (rs : List Range) (r : Range) (ns : List Signal) → AreTaken ((rs ++ r ∷ []) ++ sample_symbols ns) (length (rs ++ r ∷ [])) ns → AreTaken (rs ++ r ∷ sample_symbols ns) (suc (length rs)) ns
further_taken rs r ns t =
    let rest = sample_symbols ns in
    let long : length (rs ++ r ∷ []) ≡ suc (length rs) = let l = length_push rs r in omega (arith, l) in
    subst (λ (k : ℕ). AreTaken (rs ++ r ∷ rest) k ns) long (subst (λ (all : List Range). AreTaken all (length (rs ++ r ∷ [])) ns) (append_assoc rs (r ∷ []) rest) t)

-- their ranges stand after those of the registers
sample_taken : (rs : List Range) (ns : List Signal) → AreTaken (rs ++ sample_symbols ns) (length rs) ns
sample_taken rs [] = tt
sample_taken rs (Outer r ∷ ns) = (symbol_takes r (range_at (rs ++ r ∷ sample_symbols ns) (length rs)) (here_is rs r (sample_symbols ns)), further_taken rs r ns (sample_taken (rs ++ r ∷ []) ns))
sample_taken rs (Near near ∷ ns) = (tt, further_taken rs none_range ns (sample_taken (rs ++ none_range ∷ []) ns))
sample_taken rs (Register r ∷ ns) = (tt, sample_taken rs ns)
sample_taken rs (Product c i ∷ ns) = (tt, sample_taken rs ns)
sample_taken rs (Sum i j ∷ ns) = (tt, sample_taken rs ns)
sample_taken rs (Difference i j ∷ ns) = (tt, sample_taken rs ns)
sample_taken rs (Checked i ∷ ns) = (tt, sample_taken rs ns)
sample_taken rs (Shown i ∷ ns) = (tt, sample_taken rs ns)

-- ---- before the first sample
-- the sums over no sample
sums_none : (n m : ℕ) (ps : ℕ → Pass) (ws : ℕ → Walk) (i : ℕ) (ns : List Signal) → AreSummed n m 0 ps ws [] i ns
sums_none n m ps ws i [] = tt
sums_none n m ps ws i (Outer r ∷ ns) = (tt, sums_none n m ps (after ps ws (Outer r)) (suc i) ns)
sums_none n m ps ws i (Register r ∷ ns) = (tt, sums_none n m ps (after ps ws (Register r)) (suc i) ns)
sums_none n m ps ws i (Product c k ∷ ns) = (tt, sums_none n m ps (after ps ws (Product c k)) (suc i) ns)
sums_none n m ps ws i (Sum h k ∷ ns) = (tt, sums_none n m ps (after ps ws (Sum h k)) (suc i) ns)
sums_none n m ps ws i (Difference h k ∷ ns) = (tt, sums_none n m ps (after ps ws (Difference h k)) (suc i) ns)
sums_none n m ps ws i (Near near ∷ ns) = (λ j l p. refl, sums_none n m ps (after ps ws (Near near)) (suc i) ns)
sums_none n m ps ws i (Checked k ∷ ns) = ((λ j l p. refl, λ j l p. refl), sums_none n m ps (after ps ws (Checked k)) (suc i) ns)
sums_none n m ps ws i (Shown k ∷ ns) = ((λ j l p. refl, λ j l p. refl), sums_none n m ps (after ps ws (Shown k)) (suc i) ns)

at_first : (P : ℕ → Type 0) → P 0 → (a : ℕ) → a ≤ 0 → P a
at_first P p a l = let same : 0 ≡ a = omega (arith, l) in subst P same p

-- registers in their ranges are those of their symbols, of which those are 0 whose registers are
pub registers_stand : (count : ℕ) (net : Network) (over : ℤ) (starts : List Range) (words : List ℤ) → pos 0 <ℤ over → AreIn over starts words → length starts ≡ length net.next → count ≤ length net.next → ((j : ℕ) → j < count → at words j ≡ pos 0)
    → Stands count net over (start_pass net starts) words
registers_stand count net over starts words o lie long few none =
    let first = start_pass net starts in
    let n = length net.next in
    let brought = sample_symbols net.nodes in
    let m = length (starts ++ brought) in
    let sum = length-append starts brought in
    let more = sample_long net.nodes in
    let many : length words ≡ length net.next = in_long over starts words lie ∙ long in
    record {
      first = first;
      n = n;
      m = m;
      t = 0;
      pass_is = refl;
      ages = record {
        count = at_first (λ a. (pass_after net first a).count ≡ n) refl;
        long = at_first (λ a. length (pass_after net first a).ranges ≡ m) refl;
        format = at_first (λ a. (pass_after net first a).format ≡ net.format) refl;
        first = refl;
        later = λ a l. absurd (omega (arith, l));
        none = register_none n;
      };
      solution = record {
        k = pos 1;
        base = over;
        us = λ a j. at words j;
        positive = omega (arith, ints);
        whole = sym (once over);
        above = o;
        none = λ a j l. none j l;
        past = λ a j l h. absurd (omega (arith, l));
        start = λ j l. subst (λ (s : Range). LiesIn over s (at words j)) (sym (get_or_append_left starts brought none_range j (omega (arith, l, long)))) (in_at over starts words j lie (omega (arith, l, long)));
        lies = λ a j l p q h. elim h [ inl g ↦ absurd (omega (arith, l, g)) | inr g ↦ absurd (omega (arith, p, g)) ];
        many = registers_long n ∙ sym many;
        loaded = λ i l. symbol_means n m i (at words) (omega (arith, l, many)) (omega (arith, sum, long));
        stand = λ i l. absurd (omega (arith, l));
      };
      is_over = o;
      less = few;
      room = omega (arith, sum, long, more);
      takes = subst (λ (k : ℕ). AreTaken (starts ++ brought) k net.nodes) long (sample_taken starts net.nodes);
      sums = sums_none n m (pass_after net first) (λ a. begun (pass_after net first a)) 0 net.nodes;
      made = λ a l. absurd (omega (arith, l));
    }
