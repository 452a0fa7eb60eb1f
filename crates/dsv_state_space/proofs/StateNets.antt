-- The nodes of a state-space controller are a netlist.
use Rattle.std.proofs.Common.{◌≡◌, ℕ, suc, ◌+◌, ◌*◌, ◌<◌, ◌≤◌, true, false, List, [], ◌∷◌, length, sym, ap, subst, arith, add-one}
use Rattle.std.specs.List.{All}
use Rattle.std.proofs.Math.IntN.{ℤ}
use Rattle.std.proofs.Math.Nat.{suc-mul}
use Rattle.std.proofs.lemmas.Nat.{mul-le}
use Rattle.std.proofs.lemmas.List.Elements.{All-head, All-tail, All-weaker}
use Rattle.dsv_word.specs.declared.format.Format.{Format}
use Rattle.dsv_word.specs.Words.{IsWord}
use Rattle.dsv_netlist.specs.declared.node.Node.{Node}
use Rattle.dsv_netlist.specs.Nodes.{Net}
use Rattle.dsv_netlist.specs.Conditions.{names_word, ReadsBelow, IsNetlist}
use Rattle.dsv_netlist.specs.Counts.{counts_of}
use Rattle.dsv_realise.specs.Making.{Chained, no_places, with_place}
use Rattle.dsv_realise.specs.Netlists.{sources}
use Rattle.dsv_realise.proofs.Growing.{AreSound, HasCounts, IsSmall, Grown}
use Rattle.dsv_realise.proofs.GrowingLines.{AreFit, narrow_grows, summands_fit, products_in-summands}
use Rattle.dsv_realise.proofs.GrowingChains.{GrownChain, chain_begins, chain_grows, rechained}
use Rattle.dsv_realise.proofs.LineNodes.{length-summands}
use Rattle.dsv_realise.proofs.Conditions.{sources_named, sources_sound, sources_count, all_named, small_word}
use Rattle.dsv_state_space.specs.StateView.{StateView, AreWords, IsStateView, states}
use Rattle.dsv_state_space.specs.Equations.{state_summands, state_products}
use Rattle.dsv_state_space.specs.Netlists.{with_state_line, output_of, with_states, states_of, net_of_state}

-- a row of so many small words
record IsMildRow (n : ℕ) (row : List ℤ) : Type 0 where
  places : length row ≡ n
  small : All IsSmall row

mild_row : (f : Format) (n : ℕ) (row : List ℤ) → AreWords f n row → IsMildRow n row
mild_row f n row h = record { places = h.many; small = All-weaker (IsWord f) IsSmall (small_word f) row h.each }

-- nodes that keep the input and the states of so many registers
abbrev HasSources : ℕ → List Node → Type 0
HasSources n ns = (i : ℕ) → i < n + 1 → names_word ns i ≡ true

-- a line has a product more than there are states, and as many sums
line_grows : (f : Format) (n : ℕ) (ns : List Node) (p s : ℕ) (b : ℤ) (row : List ℤ) → AreSound f n ns → HasCounts n ns p s → HasSources n ns → IsSmall b → IsMildRow n row
    → Grown f n ns (with_state_line ns b row) (p + (n + 1)) (s + n)
line_grows f n ns p s b row h u k sb mild =
    let ts = state_summands b row 0 (λ i. i) 1 in
    let fit : AreFit ns ts = ((sb, k 0 (omega arith)), summands_fit ns false row (λ i. i) 1 mild.small (λ i l. k (1 + i) (omega (arith, mild.places)))) in
    narrow_grows f n ns p s (p + (n + 1)) (s + n) ts h u fit
    (omega (arith, products_in-summands false row (λ (i : ℕ). i) 1, mild.places))
    (omega (arith, length-summands false row (λ (i : ℕ). i) 1, mild.places)) (omega arith)

states_grow : (f : Format) (n : ℕ) (old : List Node) (bs : List ℤ) (rows : List (List ℤ)) (c : Chained) (p s m : ℕ) → GrownChain f n old c p s m → HasSources n old → All IsSmall bs → All (IsMildRow n) rows → length rows ≡ length bs
    → GrownChain f n old (with_states bs rows c) (p + length bs * (n + 1)) (s + length bs * n) (m + length bs)
states_grow f n old (b ∷ bs) (row ∷ rows) c p s m g k sb mild l =
    let made = with_state_line c.nodes b row in
    let h = line_grows f n c.nodes p s b row g.sound g.counts (λ i e. g.keeps i (k i e)) (All-head IsSmall b bs sb) (All-head (IsMildRow n) row rows mild) in
    let more = chain_grows f n old c p s (p + (n + 1)) (s + n) m made g h in
    rechained f n old (with_states bs rows (with_place c made)) (p + (n + 1) + length bs * (n + 1)) (s + n + length bs * n) (m + 1 + length bs)
    (p + suc (length bs) * (n + 1)) (s + suc (length bs) * n) (m + suc (length bs)) (omega (arith, suc-mul (length bs) (n + 1))) (omega (arith, suc-mul (length bs) n)) (omega arith)
    (states_grow f n old bs rows (with_place c made) (p + (n + 1)) (s + n) (m + 1) more k (All-tail IsSmall b bs sb) (All-tail (IsMildRow n) row rows mild) (omega arith))
states_grow f n old [] rows c p s m g k sb mild l = rechained f n old c p s m (p + 0 * (n + 1)) (s + 0 * n) (m + 0) (omega arith) (omega arith) (omega arith) g
states_grow f n old (b ∷ bs) [] c p s m g k sb mild l = absurd (omega arith)

-- what a state-space controller's netlist is
pub record IsBuilt (s : StateView) (net : Net) : Type 0 where
  pub netlist : IsNetlist net
  pub products : (counts_of net).products ≡ state_products s
  pub many : length net.next ≡ states s

squared : (n : ℕ) → (n + 1) + n * (n + 1) ≡ (n + 1) * (n + 1)
squared n = omega (arith, suc-mul n (n + 1), ap (λ (k : ℕ). k * (n + 1)) (add-one n))

pub net_built : (s : StateView) → IsStateView s → IsBuilt s (net_of_state s)
net_built s h =
    let f = s.format in
    let n = states s in
    let ns = sources n in
    let word = small_word f in
    let output = line_grows f n ns 0 0 s.d s.c (sources_sound f n) (sources_count n) (λ i e. sources_named n i e) (word s.d h.d_word) (mild_row f n s.c h.c_words) in
    let y = output_of s in
    let p1 = n + 1 in
    let chain = states_grow f n y.nodes s.b s.a (no_places y.nodes) (0 + p1) (0 + n) 0 (chain_begins f n y.nodes (0 + p1) (0 + n) output.sound output.counts) (λ i e. output.keeps i (sources_named n i e))
    (All-weaker (IsWord f) IsSmall word s.b h.b_words.each) (All-weaker (AreWords f n) (IsMildRow n) (mild_row f n) s.a h.a_words) h.rows in
    let wide : n * (n + 1) ≤ 8 * 9 = mul-le n (n + 1) 8 9 h.few (omega (arith, h.few)) in
    let high : n * n ≤ 8 * 8 = mul-le n n 8 8 h.few h.few in
    let all = states_of s in
    let many : length all.places ≡ n = omega (arith, chain.many) in
    record {
      netlist = record {
        few_nodes = omega (arith, chain.counts.nodes, wide, high, h.few);
        few_registers = omega (arith, many, h.few);
        few_exact = omega (arith, chain.counts.fits, wide, high, h.few);
        feed_forward = omega arith;
        backwards = chain.sound.backwards;
        registers = subst (λ (j : ℕ). All (ReadsBelow j) all.nodes) (sym many) chain.sound.registers;
        output = chain.keeps y.place output.place;
        next = all_named all.nodes all.places chain.named;
        bounded = chain.sound.bounded;
      };
      products = omega (arith, chain.counts.products, squared n);
      many = many;
    }
