-- The netlist of sections in series, and of one section more.
use Rattle.std.proofs.Common.{◌≡◌, ℕ, ◌+◌, ◌*◌, ◌<◌, ◌≤◌, true, List, [], ◌∷◌, ◌++◌, length, get_or, take, map, refl, sym, subst, ap, ◌∙◌, arith}
use Rattle.std.specs.Prelude.{count_by}
use Rattle.std.proofs.Math.IntN.{ℤ}
use Rattle.std.proofs.lemmas.List.{length-map, length-take-le, take-append-drop, take_all, take_more, nil_from_length, length_push, map_push}
use Rattle.std.proofs.lemmas.List.Elements.{All-nil, All-cons, All-head, All-tail, All-get_or}
use Rattle.dsv_word.specs.declared.format.Format.{Format}
use Rattle.dsv_names.specs.declared.realisation.Realisation.{Realisation}
use Rattle.dsv_names.specs.declared.realisation.Realisation.TheVariants.{Dfi}
use Rattle.dsv_quantiser.specs.QuantisedView.{QuantisedView}
use Rattle.dsv_netlist.specs.declared.node.Node.{Node}
use Rattle.dsv_netlist.specs.declared.node.Node.TheVariants.{Input}
use Rattle.dsv_netlist.specs.declared.netlist.OpCounts.{OpCounts}
use Rattle.dsv_netlist.specs.Limits.{bound_limit}
use Rattle.dsv_netlist.specs.Nodes.{Net, at, sample_of}
use Rattle.dsv_netlist.specs.Bounds.{word_bound}
use Rattle.dsv_netlist.specs.Systems.{system_of, runs_of}
use Rattle.dsv_netlist.specs.Conditions.{ReadsBelow, names_word, is_fit, IsNetlist}
use Rattle.dsv_netlist.specs.Counts.{is_product, counts_of}
use Rattle.dsv_meaning.specs.Equations.{Past, order, registers_of, products_of, sums_of}
use Rattle.dsv_meaning.specs.Systems.{equations_of}
use Rattle.dsv_realise.specs.Netlists.{net_of}
use Rattle.dsv_realise.specs.Running.{counts_as}
use Rattle.dsv_realise.proofs.Growing.{word_small}
use Rattle.dsv_system.proofs.Agreeing.{agree_back}
use Rattle.dsv_cascade.specs.Cascades.{CascadeView, sections_of}
use Rattle.dsv_cascade.specs.Netlists.{moved, joined, joined_all, wire}
use Rattle.dsv_cascade.specs.Sections.{Fits, IsCascade}
use Rattle.dsv_cascade.specs.Sizes.{sections_products}
use Rattle.dsv_cascade.proofs.JoinedNets.{HasRoom, is_fit-moved, count_by-joined, length-joined_next, length-joined_nodes, joined_netlist}
use Rattle.dsv_cascade.proofs.JoinedSteps.{step_of-joined}
use Rattle.dsv_cascade.proofs.MovedNodes.{HasOneInput}
use Rattle.dsv_cascade.proofs.Series.{series, series_alike, maps_alike, alike_through}
use Rattle.dsv_cascade.proofs.SectionNodes.{AreBuilt, net_built}
use Rattle.dsv_cascade.proofs.SectionProducts.{sections_products-push}
use Rattle.dsv_cascade.proofs.SectionSystems.{sections_system, sections_push}
use Rattle.dsv_system.specs.Systems.{behaviour_of, Agree}

-- ---- no section
wire_netlist : (f : Format) → IsNetlist (wire f)
wire_netlist f = record {
  few_nodes = omega arith;
  few_registers = omega arith;
  few_exact = omega arith;
  feed_forward = omega arith;
  backwards = (tt, tt);
  registers = All-cons (ReadsBelow 0) Input [] tt (All-nil (ReadsBelow 0));
  output = refl;
  next = All-nil (λ k. names_word (wire f).nodes k ≡ true);
  bounded = All-cons (λ bound. bound < bound_limit) (word_bound f) [] (omega (arith, word_small f)) (All-nil (λ bound. bound < bound_limit));
}

wire_alike : (f : Format) → Agree (runs_of (wire f)) (behaviour_of (sections_system f []))
wire_alike f = maps_alike (List ℤ) (List Past) (system_of (wire f)) (sections_system f []) (λ words. []) (λ words. words ≡ []) (record {
  many = refl;
  forward = refl;
  format = refl;
  start = λ words l. refl;
  begins = λ words l. nil_from_length words l;
  sample = λ words x e. refl;
  stays = λ words x e. refl;
  registers = λ words e. sym e;
})

-- ---- two netlists
joined_alike : (a b : Net) → IsNetlist a → b.format ≡ a.format → HasOneInput b.nodes → Agree (runs_of (joined a b)) (behaviour_of (series (system_of a) (system_of b)))
joined_alike a b h e o =
    let both = series (system_of a) (system_of b) in
    agree_back (behaviour_of both) (runs_of (joined a b))
    (maps_alike (List ℤ × List ℤ) (List ℤ) both (system_of (joined a b)) (λ p. p.0 ++ p.1) (λ p. length p.0 ≡ length a.next) (record {
      many = sym (length-joined_next a b);
      forward = refl;
      format = refl;
      start = λ words l. sym (take-append-drop (length a.next) words);
      begins = λ words l. length-take-le (length a.next) words (omega (arith, l, length-joined_next a b));
      sample = λ p x l. step_of-joined a b p.0 p.1 x h e o l;
      stays = λ p x l. length-map a.next (at (sample_of a.format p.0 x a.nodes).values);
      registers = λ p l. refl;
    }))

-- ---- sections
-- what is known of a section's netlist
pub record IsSectionNet (q : QuantisedView) (net : Net) : Type 0 where
  pub made : net ≡ net_of q
  pub netlist : IsNetlist net
  pub counts : counts_of net ≡ counts_as q.realisation (order q)
  pub runs : Agree (runs_of net) (behaviour_of (equations_of q))

-- how great a section is
record IsShort (net : Net) : Type 0 where
  input : HasOneInput net.nodes
  nodes : length net.nodes ≤ 48
  registers : length net.next ≤ 4
  exact : count_by is_fit net.nodes ≤ 17

few_operations : (k : Realisation) (n : ℕ) → n ≤ 2 → (registers_of k n ≤ 4) × (products_of k n ≤ 9) × (sums_of k n ≤ 8)
few_operations Dfi n h = (omega arith, omega arith, omega arith)
few_operations k n h = (omega arith, omega arith, omega arith)

section_short : (q : QuantisedView) (net : Net) → order q ≤ 2 → IsSectionNet q net → IsShort net
section_short q net small s =
    let k = q.realisation in
    let few = few_operations k (order q) small in
    let built : AreBuilt (registers_of k (order q)) net.nodes = rw s.made (net_built k q) in
    let products = ap (λ (c : OpCounts). c.products) s.counts in
    let sums = ap (λ (c : OpCounts). c.sums) s.counts in
    let moves = ap (λ (c : OpCounts). c.moves) s.counts in
    record {
      input = built.input;
      nodes = omega (arith, few.0, few.1, few.2, built.nodes, products, sums);
      registers = omega (arith, few.0, moves);
      exact = omega (arith, few.1, few.2, built.fits, products, sums);
    }

-- the netlist of these sections in series, in this format: each has at most 47 nodes after the input, 4 registers and 17 exact values
pub record IsSeriesNet (f : Format) (qs : List QuantisedView) (net : Net) : Type 0 where
  pub made : net ≡ joined_all (wire f) (map net_of qs)
  pub netlist : IsNetlist net
  pub format : net.format ≡ f
  pub nodes : length net.nodes ≤ 1 + 47 * length qs
  pub registers : length net.next ≤ 4 * length qs
  pub exact : count_by is_fit net.nodes ≤ 17 * length qs
  pub products : count_by is_product net.nodes ≡ sections_products qs
  pub runs : Agree (runs_of net) (behaviour_of (sections_system f qs))

wire_series : (f : Format) → IsSeriesNet f [] (wire f)
wire_series f = record {
  made = refl;
  netlist = wire_netlist f;
  format = refl;
  nodes = omega arith;
  registers = omega arith;
  exact = omega arith;
  products = refl;
  runs = wire_alike f;
}

joined_all-push : (net : Net) (nets : List Net) (last : Net) → joined_all net (nets ++ last ∷ []) ≡ joined (joined_all net nets) last
joined_all-push net [] last = refl
joined_all-push net (second ∷ others) last = joined_all-push (joined net second) others last

is_product-moved : (a : Net) (n : Node) → is_product (moved a n) ≡ is_product n
is_product-moved a Input = refl
is_product-moved a node = refl

-- a section more
series_push : (f : Format) (qs : List QuantisedView) (q : QuantisedView) (net section : Net) → IsSeriesNet f qs net → IsSectionNet q section → length qs < 8 → order q ≤ 2 → q.format ≡ f → IsSeriesNet f (qs ++ q ∷ []) (joined net section)
series_push f qs q net section n s few small same =
    let short = section_short q section small s in
    let l = length_push qs q in
    let format : section.format ≡ net.format = s.runs.format ∙ same ∙ sym n.format in
    let room : HasRoom net section = record {
      nodes = omega (arith, n.nodes, short.nodes);
      registers = omega (arith, n.registers, short.registers);
      exact = omega (arith, n.exact, short.exact);
    } in
    let both = series (sections_system f qs) (equations_of q) in
    record {
      made = rw (map_push net_of qs q, joined_all-push (wire f) (map net_of qs) (net_of q), ← n.made, ← s.made) refl;
      netlist = joined_netlist net section n.netlist s.netlist format short.input room;
      format = n.format;
      nodes = omega (arith, n.nodes, short.nodes, length-joined_nodes net section short.input);
      registers = omega (arith, n.registers, short.registers, length-joined_next net section);
      exact = omega (arith, n.exact, short.exact, count_by-joined is_fit net section (is_fit-moved net) refl short.input);
      products = count_by-joined is_product net section (is_product-moved net) refl short.input ∙ rw (n.products, ap (λ (c : OpCounts). c.products) s.counts) (sym (sections_products-push qs q));
      runs = alike_through (List ℤ) (List Past × Past) (List Past) (system_of (joined net section)) both (sections_system f (qs ++ q ∷ []))
          (alike_through (List ℤ) (List ℤ × List ℤ) (List Past × Past) (system_of (joined net section)) (series (system_of net) (system_of section)) both
          (joined_alike net section n.netlist format short.input)
          (series_alike (List ℤ) (List Past) (List ℤ) Past (system_of net) (sections_system f qs) (system_of section) (equations_of q) n.runs s.runs))
          (sections_push f qs q);
    }

-- ---- the sections of a cascade
-- section 0 alone
pub first_series : (c : CascadeView) (q : QuantisedView) (f : Format) (net section : Net) → IsCascade c → q ≡ c.first → f ≡ q.format → net ≡ wire f → IsSectionNet q section
    → IsSeriesNet c.first.format (c.first ∷ []) (joined net section)
first_series c q f net section h e g w s =
    let k = c.first.format in
    let small = (All-head (Fits c.first) c.first c.later h.fit).small in
    let same : net ≡ wire k = w ∙ ap wire (g ∙ ap (λ (r : QuantisedView). r.format) e) in
    rw same (series_push k [] c.first (wire k) section (wire_series k) (subst (λ (r : QuantisedView). IsSectionNet r section) e s) (omega arith) small refl)

-- one of the later sections more
pub later_series : (c : CascadeView) (later : List QuantisedView) (i : ℕ) (q : QuantisedView) (net section : Net) → IsCascade c → later ≡ c.later → i < length later → q ≡ get_or later i q
    → IsSeriesNet c.first.format (c.first ∷ take i c.later) net → IsSectionNet q section → IsSeriesNet c.first.format (c.first ∷ take (i + 1) c.later) (joined net section)
later_series c later i q net section h same l e n s =
    let k = c.first.format in
    let inside : i < length c.later = omega (arith, ap length same) in
    let here : q ≡ get_or c.later i q = e ∙ ap (λ (qs : List QuantisedView). get_or qs i q) same in
    let fits : Fits c.first q = subst (Fits c.first) (sym here) (All-get_or (Fits c.first) c.later i q inside (All-tail (Fits c.first) c.first c.later h.fit)) in
    let longer : take (i + 1) c.later ≡ take i c.later ++ q ∷ [] = take_more c.later i q inside ∙ ap (λ (r : QuantisedView). take i c.later ++ r ∷ []) (sym here) in
    let few : length (c.first ∷ take i c.later) < 8 = omega (arith, h.few, length-take-le i c.later (omega arith)) in
    subst (λ (qs : List QuantisedView). IsSeriesNet k (c.first ∷ qs) (joined net section)) (sym longer) (series_push k (c.first ∷ take i c.later) q net section n s few fits.small fits.alike.format)

-- all of them
pub all_series : (c : CascadeView) (i : ℕ) (net : Net) → length c.later ≤ i → IsSeriesNet c.first.format (c.first ∷ take i c.later) net → IsSeriesNet c.first.format (sections_of c) net
all_series c i net l n = subst (λ (qs : List QuantisedView). IsSeriesNet c.first.format (c.first ∷ qs) net) (take_all i c.later l) n
