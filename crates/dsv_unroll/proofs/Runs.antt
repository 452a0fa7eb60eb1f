-- Runs: the bit after them says whether a value of some sample was no word.
use Rattle.std.proofs.Common.{◌≡◌, ℕ, suc, ◌+◌, ◌<◌, Bool, true, false, ◌||◌, List, [], ◌∷◌, ◌++◌, refl, arith, ap, sym, subst, ◌∙◌, length, map}
use Rattle.std.specs.Prelude.{slice_index, IsTrue}
use Rattle.std.specs.List.{All, list_any}
use Rattle.std.proofs.Math.IntN.{ℤ, pos}
use Rattle.std.proofs.lemmas.List.{length-map, get_or-map}
use Rattle.std.proofs.lemmas.List.Folds.{list_any-append}
use Rattle.std.proofs.lemmas.List.Elements.{All-get_or, All-head, All-tail, All-map, All-weaker}
use Rattle.dsv_word.specs.declared.format.Format.{Format}
use Rattle.dsv_word.specs.Words.{width, IsWord}
use Rattle.dsv_netlist.specs.declared.node.Node.{Node}
use Rattle.dsv_netlist.specs.declared.node.Node.TheVariants as node
use Rattle.dsv_netlist.specs.Nodes.{Net, Sample, at, node_exact, after_node, sample_from, sample_of, step_of}
use Rattle.dsv_netlist.specs.Conditions.{IsNetlist, names_word}
use Rattle.dsv_netlist.specs.Law.{AreWords}
use Rattle.dsv_netlist.proofs.Runs.{net_word, from-length}
use Rattle.dsv_term.specs.declared.node.TermId.{TermId}
use Rattle.dsv_term.specs.Terms.{KeepsTerms, width_of, word_of}
use Rattle.dsv_term.specs.TermsView.{TermsView}
use Rattle.dsv_term.specs.Word.{bit_of}
use Rattle.dsv_term.proofs.Made.{KeepsTerms-both}
use Rattle.dsv_term.proofs.Building.{KeepsTerms-self}
use Rattle.dsv_unroll.specs.declared.rules.FitRule.TheVariants as fit_rule
use Rattle.dsv_unroll.specs.Goals.{sample_terms, RunTerms, with_sample, run_from}
use Rattle.dsv_unroll.specs.Ready.{IsValue, AreRunReady, AreAllValues}
use Rattle.dsv_unroll.specs.Rules.{term_at}
use Rattle.dsv_unroll.proofs.FitTerms.{is_outside}
use Rattle.dsv_unroll.proofs.Follows.{Means, means_later, node_overflow}
use Rattle.dsv_unroll.proofs.Samples.{overflow_from, sample_follows}
use Rattle.dsv_unroll.proofs.SampleSteps.{ready_first, ready_rest, next_below}

-- ---- the bit of a sample
abbrev pub any_outside : Format → List ℤ → Bool
any_outside f es = list_any (is_outside (width f)) es

or_assoc : (a b c : Bool) → ((a || b) || c) ≡ (a || (b || c))
or_assoc true b c = refl
or_assoc false b c = refl

or_none : (a : Bool) → (a || false) ≡ a
or_none true = refl
or_none false = refl

pub overflow_exact : (f : Format) (vals : List ℤ) (n : Node) → node_overflow fit_rule.Tested (width f) vals n ≡ any_outside f (node_exact vals n)
overflow_exact f vals node.Input = refl
overflow_exact f vals (node.Reg k) = refl
overflow_exact f vals (node.MulConst c i) = refl
overflow_exact f vals (node.Round i) = refl
overflow_exact f vals (node.Add i j) = refl
overflow_exact f vals (node.Sub i j) = refl
overflow_exact f vals (node.Fit i) = sym (or_none (is_outside (width f) (at vals i)))
overflow_exact f vals (node.Scale i) = refl

overflows_exact : (f : Format) (rs : List ℤ) (x : ℤ) (b : Bool) (ns : List Node) (s : Sample) → overflow_from fit_rule.Tested f rs x (b || any_outside f s.exact) ns s ≡ (b || any_outside f (sample_from f rs x ns s).exact)
overflows_exact f rs x b [] s = refl
overflows_exact f rs x b (n ∷ ns) s =
    let e : ((b || any_outside f s.exact) || node_overflow fit_rule.Tested (width f) s.values n) ≡ (b || any_outside f (s.exact ++ node_exact s.values n)) =
    or_assoc b (any_outside f s.exact) (node_overflow fit_rule.Tested (width f) s.values n)
    ∙ ap (λ (c : Bool). b || c) (ap (λ (c : Bool). any_outside f s.exact || c) (overflow_exact f s.values n) ∙ sym (list_any-append (is_outside (width f)) s.exact (node_exact s.values n))) in
    ap (λ (c : Bool). overflow_from fit_rule.Tested f rs x c ns (after_node f rs x s n)) e ∙ overflows_exact f rs x b ns (after_node f rs x s n)

sample_overflow : (net : Net) (rs : List ℤ) (x : ℤ) (b : Bool) → overflow_from fit_rule.Tested net.format rs x b net.nodes (record { values = []; exact = [] }) ≡ (b || any_outside net.format (step_of net rs x).exact)
sample_overflow net rs x b =
    ap (λ (c : Bool). overflow_from fit_rule.Tested net.format rs x c net.nodes (record { values = []; exact = [] })) (sym (or_none b))
    ∙ overflows_exact net.format rs x b net.nodes (record { values = []; exact = [] })

-- ---- the registers after a sample
pub registers_words : (net : Net) (rs : List ℤ) (x : ℤ) → IsNetlist net → AreWords net rs x → All (IsWord net.format) (step_of net rs x).past
registers_words net rs x h w =
    All-map (IsWord net.format) (at (sample_of net.format rs x net.nodes).values) net.next
    (All-weaker (λ k. IsTrue (names_word net.nodes k)) (λ k. IsWord net.format (at (sample_of net.format rs x net.nodes).values k)) (λ k t. net_word net rs x k h w t) net.next h.next)

-- terms that spell the registers' words
pub record RegistersMean (t : TermsView) (values : List ℕ) (registers : List TermId) (rs : List ℤ) : Type 0 where
  pub each : (k : ℕ) → k < length registers → Means t values (term_at registers k) (at rs k)

pub loaded_mean : (net : Net) (t : TermsView) (values : List ℕ) (ids : List TermId) (vals : List ℤ) → IsNetlist net → length ids ≡ length net.nodes → ((i : ℕ) → i < length ids → Means t values (term_at ids i) (at vals i))
    → RegistersMean t values (map (term_at ids) net.next) (map (at vals) net.next)
loaded_mean net t values ids vals h c m =
    record {
      each = λ k p.
          let q : k < length net.next = omega (arith, length-map net.next (term_at ids)) in
          let j = slice_index net.next k in
          let b : j < length ids = All-get_or (λ (i : ℕ). i < length ids) net.next k 0 q (next_below net (length ids) h c) in
          let e : term_at (map (term_at ids) net.next) k ≡ term_at ids j = get_or-map (term_at ids) net.next k 0 (record { 0 = 0 }) q in
          let g : at (map (at vals) net.next) k ≡ at vals j = get_or-map (at vals) net.next k 0 (pos 0) q in
          rw (e, g) (m j b);
    }

-- the terms of the registers after a sample stand
pub loaded_stand : (net : Net) (t : TermsView) (ids : List TermId) → IsNetlist net → length ids ≡ length net.nodes → ((i : ℕ) → i < length ids → IsValue t (term_at ids i)) → AreAllValues t (map (term_at ids) net.next)
loaded_stand net t ids h c m =
    record {
      stand = λ k p.
          let q : k < length net.next = omega (arith, length-map net.next (term_at ids)) in
          let j = slice_index net.next k in
          let b : j < length ids = All-get_or (λ (i : ℕ). i < length ids) net.next k 0 q (next_below net (length ids) h c) in
          let e : term_at (map (term_at ids) net.next) k ≡ term_at ids j = get_or-map (term_at ids) net.next k 0 (record { 0 = 0 }) q in
          subst (IsValue t) (sym e) (m j b);
    }

-- ---- runs
-- the inputs' terms spell the inputs
pub record InputsMean (f : Format) (t : TermsView) (values : List ℕ) (inputs : List TermId) (xs : List ℤ) : Type 0 where
  pub count : length inputs ≡ length xs
  pub each : (i : ℕ) → i < length inputs → Means t values (term_at inputs i) (at xs i)
  pub words : All (IsWord f) xs

-- whether an exact value of some sample is no word
abbrev pub breaks_from : Net → Bool → List ℤ → List ℤ → Bool
breaks_from net b rs [] = b
breaks_from net b rs (x ∷ xs) = breaks_from net (b || any_outside net.format (step_of net rs x).exact) (step_of net rs x).past xs

pub record RunFollows (net : Net) (values : List ℕ) (t : TermsView) (r : RunTerms) (b : Bool) : Type 0 where
  pub overflows : word_of r.terms values r.overflowed ≡ bit_of b
  pub stands : r.overflowed.0 < length r.terms.nodes
  pub bit : width_of r.terms r.overflowed ≡ 1
  pub kept : KeepsTerms t r.terms
  pub inputs : r.terms.inputs ≡ t.inputs
  pub ready : AreRunReady net r.registers [] r.terms r.overflowed

-- what stands after one sample
pub record AfterSample (net : Net) (values : List ℕ) (t : TermsView) (r : RunTerms) (xs : List TermId) (zs : List ℤ) (rs : List ℤ) (b : Bool) : Type 0 where
  pub ready : AreRunReady net r.registers xs r.terms r.overflowed
  pub overflows : word_of r.terms values r.overflowed ≡ bit_of b
  pub registers : b ≡ false → RegistersMean r.terms values r.registers rs
  pub inputs : InputsMean net.format r.terms values xs zs
  pub kept : KeepsTerms t r.terms
  pub same : r.terms.inputs ≡ t.inputs

pub after_sample : (net : Net) (values : List ℕ) (r : RunTerms) (x : TermId) (xs : List TermId) (z : ℤ) (zs : List ℤ) (rs : List ℤ) (b : Bool) → IsNetlist net → AreWords net rs z → AreRunReady net r.registers (x ∷ xs) r.terms r.overflowed
    → word_of r.terms values r.overflowed ≡ bit_of b → (b ≡ false → RegistersMean r.terms values r.registers rs) → InputsMean net.format r.terms values (x ∷ xs) (z ∷ zs)
    → AfterSample net values r.terms (with_sample net r x) xs zs (step_of net rs z).past (b || any_outside net.format (step_of net rs z).exact)
after_sample net values r x xs z zs rs b h w ready g m i =
    let f = sample_follows fit_rule.Tested values net rs z r.registers x r.terms r.overflowed b h w (ready_first net r.registers x xs r.terms r.overflowed ready) g (λ e. (m e).each) (i.each 0 (omega arith)) in
    let s = sample_terms fit_rule.Tested net r.registers x r.terms r.overflowed in
    let vals = (sample_of net.format rs z net.nodes).values in
    let e = sample_overflow net rs z b in
    let c : length s.ids ≡ length net.nodes = f.follows.count ∙ sample_length net rs z in
    record {
      ready = ready_rest net r.registers x xs r.terms s.terms r.overflowed s.overflowed s.ids (map (term_at s.ids) net.next) h ready f.kept f.ready c refl;
      overflows = f.follows.overflows ∙ ap bit_of e;
      registers = λ q. loaded_mean net s.terms values s.ids vals h c (f.follows.nodes (e ∙ q));
      inputs = record {
        count = omega (arith, i.count);
        each = λ k p. means_later r.terms s.terms values (term_at xs k) (at zs k) f.kept (ready.inputs_stand (suc k) (omega arith)).stands (i.each (suc k) (omega arith));
        words = All-tail (IsWord net.format) z zs i.words;
      };
      kept = f.kept;
      same = f.inputs;
    }
  where
    sample_length : (net : Net) (rs : List ℤ) (z : ℤ) → length (sample_of net.format rs z net.nodes).values ≡ length net.nodes
    sample_length net rs z = from-length net.format rs z net.nodes (record { values = []; exact = [] }) ∙ (let e : 0 + length net.nodes ≡ length net.nodes = omega arith in e)

pub run_follows : (net : Net) (values : List ℕ) (xs : List TermId) (zs : List ℤ) (r : RunTerms) (rs : List ℤ) (b : Bool) → IsNetlist net → length rs ≡ length net.next → All (IsWord net.format) rs → AreRunReady net r.registers xs r.terms r.overflowed
    → word_of r.terms values r.overflowed ≡ bit_of b → (b ≡ false → RegistersMean r.terms values r.registers rs) → InputsMean net.format r.terms values xs zs
    → RunFollows net values r.terms (run_from net xs r) (breaks_from net b rs zs)
run_follows net values [] [] r rs b h c w ready g m i = record { overflows = g; stands = ready.overflowed_stands; bit = ready.overflowed_bit; kept = KeepsTerms-self r.terms; inputs = refl; ready = ready }
run_follows net values [] (z ∷ zs) r rs b h c w ready g m i = absurd (let k = i.count in omega arith)
run_follows net values (x ∷ xs) [] r rs b h c w ready g m i = absurd (let k = i.count in omega arith)
run_follows net values (x ∷ xs) (z ∷ zs) r rs b h c w ready g m i =
    let words : AreWords net rs z = record { many = c; words = w; input = All-head (IsWord net.format) z zs i.words } in
    let a = after_sample net values r x xs z zs rs b h words ready g m i in
    let more = run_follows net values xs zs (with_sample net r x) (step_of net rs z).past (b || any_outside net.format (step_of net rs z).exact) h
    (length-map net.next (at (sample_of net.format rs z net.nodes).values)) (registers_words net rs z h words) a.ready a.overflows a.registers a.inputs in
    record { overflows = more.overflows; stands = more.stands; bit = more.bit; kept = KeepsTerms-both r.terms _ _ a.kept more.kept; inputs = more.inputs ∙ a.same; ready = more.ready }
