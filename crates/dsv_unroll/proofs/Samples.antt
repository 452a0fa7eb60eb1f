-- Whole samples: their terms spell their values, and a bit says whether a value was no word.
use Rattle.std.proofs.Common.{◌≡◌, ℕ, zero, suc, ◌+◌, ◌<◌, ◌^◌, ◌≤◌, Bool, true, false, ◌||◌, inl, inr, List, [], ◌∷◌, ◌++◌, refl, arith, ap, sym, subst, ◌∙◌, length}
use Rattle.std.specs.Prelude.{slice_index_or}
use Rattle.std.specs.List.{All}
use Rattle.std.specs.Int.RustNames.{unsigned_abs}
use Rattle.std.proofs.Math.IntN.{ℤ, pos}
use Rattle.std.proofs.lemmas.List.{get_or_append_left, get_or_push, length_push}
use Rattle.std.proofs.lemmas.List.Elements.{All-head, All-tail}
use Rattle.std.proofs.lemmas.Bool.{cases_lt}
use Rattle.dsv_word.specs.declared.format.Format.{Format}
use Rattle.dsv_word.specs.Words.{width}
use Rattle.dsv_netlist.specs.declared.node.Node.{Node}
use Rattle.dsv_netlist.specs.declared.node.Node.TheVariants as node
use Rattle.dsv_netlist.specs.Nodes.{Net, Sample, at, node_value, after_node, sample_from, sample_of}
use Rattle.dsv_netlist.specs.Conditions.{IsNetlist, AllNameBack, ReadsBelow}
use Rattle.dsv_netlist.specs.Law.{AreWords}
use Rattle.dsv_netlist.proofs.Runs.{from_keeps, values_bounded}
use Rattle.dsv_term.specs.declared.node.TermId.{TermId}
use Rattle.dsv_term.specs.Terms.{KeepsTerms, word_of}
use Rattle.dsv_term.specs.TermsView.{TermsView}
use Rattle.dsv_term.specs.Word.{bit_of}
use Rattle.dsv_term.proofs.Made.{KeepsTerms-both}
use Rattle.dsv_term.proofs.Building.{KeepsTerms-self}
use Rattle.dsv_unroll.specs.declared.rules.FitRule.{FitRule}
use Rattle.dsv_unroll.specs.Goals.{SampleTerms, with_node_term, nodes_from, sample_terms}
use Rattle.dsv_unroll.specs.Ready.{AreReady}
use Rattle.dsv_unroll.specs.Rules.{Unrolled, is_whole, term_at, bound_at, node_term}
use Rattle.dsv_unroll.proofs.Rounding.{IsTimes, whole_value}
use Rattle.dsv_unroll.proofs.NodeTerms.{NodeAdds, node_adds, ready_with}
use Rattle.dsv_unroll.proofs.Follows.{Means, means_later, Follows, NodeMeans, NodeKnown, node_overflow, node_means}

-- ---- what is known of a sample's values
-- a node that is a multiple of 2^f has such a value in a sample
whole_at : (f : Format) (rs : List ℤ) (x : ℤ) (ns : List Node) (s : Sample) (i : ℕ) → is_whole f.frac_bits (slice_index_or ns i node.Input) ≡ true → IsTimes (at (sample_from f rs x ns s).values (length s.values + i)) (2 ^ f.frac_bits)
whole_at f rs x [] s i e = absurd cc
whole_at f rs x (n ∷ ns) s zero e =
    let v = node_value f rs x s.values n in
    let l : length s.values ≡ length s.values + 0 = omega arith in
    let a : at (sample_from f rs x (n ∷ ns) s).values (length s.values + 0) ≡ v = from_keeps f rs x ns (after_node f rs x s n) (length s.values + 0) (omega (arith, length_push s.values v)) ∙ get_or_push s.values v (pos 0) (length s.values + 0) l in
    subst (λ (z : ℤ). IsTimes z (2 ^ f.frac_bits)) (sym a) (whole_value f rs x s.values n e)
whole_at f rs x (n ∷ ns) s (suc i) e =
    let v = node_value f rs x s.values n in
    let l : length (s.values ++ v ∷ []) + i ≡ length s.values + suc i = omega (arith, length_push s.values v) in
    subst (λ (j : ℕ). IsTimes (at (sample_from f rs x (n ∷ ns) s).values j) (2 ^ f.frac_bits)) l (whole_at f rs x ns (after_node f rs x s n) i e)

-- the values so far are those of the whole sample
pub sample_known : (net : Net) (rs : List ℤ) (x : ℤ) (n : Node) (ns : List Node) (s : Sample) → IsNetlist net → AreWords net rs x → sample_from net.format rs x (n ∷ ns) s ≡ sample_of net.format rs x net.nodes → length s.values < length net.nodes
    → NodeKnown net s.values (node_value net.format rs x s.values n) n
sample_known net rs x n ns s h w e l =
    let f = net.format in
    let v = node_value f rs x s.values n in
    let all = sample_of f rs x net.nodes in
    let here : at all.values (length s.values) ≡ v = ap (λ (q : Sample). at q.values (length s.values)) (sym e) ∙ (from_keeps f rs x ns (after_node f rs x s n) (length s.values) (omega (arith, length_push s.values v)) ∙ get_or_push s.values v (pos 0) (length s.values) refl) in
    let old : (i : ℕ) → i < length s.values → at all.values i ≡ at s.values i = λ i p. ap (λ (q : Sample). at q.values i) (sym e) ∙ from_keeps f rs x (n ∷ ns) s i p in
    record {
      size = subst (λ (z : ℤ). unsigned_abs z ≤ bound_at net (length s.values)) here (values_bounded net rs x h w (length s.values) l);
      sizes = λ i p. subst (λ (z : ℤ). unsigned_abs z ≤ bound_at net i) (old i p) (values_bounded net rs x h w i (omega arith));
      wholes = λ i p q.
          let z : 0 + i ≡ i = omega arith in
          let m = whole_at f rs x net.nodes (record { values = []; exact = [] }) i q in
          subst (λ (y : ℤ). IsTimes y (2 ^ f.frac_bits)) (ap (at all.values) z ∙ old i p) m;
    }

-- ---- node after node
-- the truth of the bit after these nodes
abbrev pub overflow_from : FitRule → Format → List ℤ → ℤ → Bool → List Node → Sample → Bool
overflow_from rule f rs x b [] s = b
overflow_from rule f rs x b (n ∷ ns) s = overflow_from rule f rs x (b || node_overflow rule (width f) s.values n) ns (after_node f rs x s n)

pub record SampleFollows (rule : FitRule) (values : List ℕ) (net : Net) (rs : List ℤ) (x : ℤ) (registers : List TermId) (input : TermId) (t : TermsView) (s : SampleTerms) (vals : List ℤ) (b : Bool) : Type 0 where
  pub ready : AreReady net registers input s.terms s.ids s.overflowed
  pub follows : Follows values rs x registers input s.terms s.ids s.overflowed vals b
  pub kept : KeepsTerms t s.terms
  pub inputs : s.terms.inputs ≡ t.inputs

pub follows_with : (values : List ℕ) (net : Net) (rs : List ℤ) (x : ℤ) (registers : List TermId) (input : TermId) (t : TermsView) (ids : List TermId) (overflowed : TermId) (u : Unrolled) (vals : List ℤ) (v : ℤ) (b now : Bool) → AreReady net registers input t ids overflowed
    → Follows values rs x registers input t ids overflowed vals b → NodeAdds t u → NodeMeans values u v b now → Follows values rs x registers input u.terms (ids ++ u.id ∷ []) u.overflowed (vals ++ v ∷ []) now
follows_with values net rs x registers input t ids overflowed u vals v b now r f a m =
    record {
      count = length_push ids u.id ∙ (ap (λ (k : ℕ). k + 1) f.count ∙ sym (length_push vals v));
      overflows = m.overflows;
      nodes = λ e i p. elim (cases_lt i (length ids)) [
        | inl less ↦ (let c = f.count in rw (get_or_append_left ids (u.id ∷ []) (record { 0 = 0 }) i less, get_or_append_left vals (v ∷ []) (pos 0) i (omega arith)) (means_later t u.terms values (term_at ids i) (at vals i) a.kept (r.nodes i less).stands (f.nodes (m.before e) i less)))
        | inr more ↦ (let k : length ids ≡ i = omega (arith, length_push ids u.id) in let c = f.count in rw (get_or_push ids u.id (record { 0 = 0 }) i k, get_or_push vals v (pos 0) i (sym c ∙ k)) (m.value e))
      ];
      registers_mean = λ e k p. means_later t u.terms values (term_at registers k) (at rs k) a.kept (r.registers_stand k p).stands (f.registers_mean (m.before e) k p);
      input_means = means_later t u.terms values input x a.kept r.input.stands f.input_means;
    }

pub nodes_follow : (rule : FitRule) (values : List ℕ) (net : Net) (rs : List ℤ) (x : ℤ) (registers : List TermId) (input : TermId) (ns : List Node) (s : SampleTerms) (q : Sample) (b : Bool) → IsNetlist net → AreWords net rs x
    → sample_from net.format rs x ns q ≡ sample_of net.format rs x net.nodes → length s.ids + length ns ≡ length net.nodes → AllNameBack (length s.ids) ns → All (ReadsBelow (length registers)) ns
    → AreReady net registers input s.terms s.ids s.overflowed → Follows values rs x registers input s.terms s.ids s.overflowed q.values b
    → SampleFollows rule values net rs x registers input s.terms (nodes_from rule net registers input ns s) (sample_from net.format rs x ns q).values (overflow_from rule net.format rs x b ns q)
nodes_follow rule values net rs x registers input [] s q b h w e l bk rd r f = record { ready = r; follows = f; kept = KeepsTerms-self s.terms; inputs = refl }
nodes_follow rule values net rs x registers input (n ∷ ns) s q b h w e l bk rd r f =
    let u = node_term rule net registers input s.terms s.ids s.overflowed n in
    let v = node_value net.format rs x q.values n in
    let c = f.count in
    let here : length s.ids < length net.nodes = omega arith in
    let reads = All-head (ReadsBelow (length registers)) n ns rd in
    let a = node_adds rule net registers input s.terms s.ids s.overflowed n h r here bk.0 reads in
    let k = sample_known net rs x n ns q h w e (omega arith) in
    let m = node_means rule values net rs x registers input s.terms s.ids s.overflowed q.values b n h r f here bk.0 reads k in
    let now = b || node_overflow rule (width net.format) q.values n in
    let more : length (s.ids ++ u.id ∷ []) ≡ length s.ids + 1 = length_push s.ids u.id in
    let rest = nodes_follow rule values net rs x registers input ns (with_node_term rule net registers input s n) (after_node net.format rs x q n) now h w e (omega arith)
    (subst (λ (j : ℕ). AllNameBack j ns) (sym more) bk.1) (All-tail (ReadsBelow (length registers)) n ns rd)
    (ready_with net registers input s.terms s.ids s.overflowed u r a) (follows_with values net rs x registers input s.terms s.ids s.overflowed u q.values v b now r f a m) in
    record { ready = rest.ready; follows = rest.follows; kept = KeepsTerms-both s.terms u.terms _ a.kept rest.kept; inputs = rest.inputs ∙ a.inputs }

-- ---- a whole sample
pub empty_follows : (values : List ℕ) (rs : List ℤ) (x : ℤ) (registers : List TermId) (input : TermId) (t : TermsView) (overflowed : TermId) (b : Bool) → word_of t values overflowed ≡ bit_of b
    → (b ≡ false → (k : ℕ) → k < length registers → Means t values (term_at registers k) (at rs k)) → Means t values input x → Follows values rs x registers input t [] overflowed [] b
empty_follows values rs x registers input t overflowed b w m i = record { count = refl; overflows = w; nodes = λ e i p. absurd (omega arith); registers_mean = m; input_means = i }

pub sample_follows : (rule : FitRule) (values : List ℕ) (net : Net) (rs : List ℤ) (x : ℤ) (registers : List TermId) (input : TermId) (t : TermsView) (overflowed : TermId) (b : Bool) → IsNetlist net → AreWords net rs x
    → AreReady net registers input t [] overflowed → word_of t values overflowed ≡ bit_of b → (b ≡ false → (k : ℕ) → k < length registers → Means t values (term_at registers k) (at rs k)) → Means t values input x
    → SampleFollows rule values net rs x registers input t (sample_terms rule net registers input t overflowed) (sample_of net.format rs x net.nodes).values (overflow_from rule net.format rs x b net.nodes (record { values = []; exact = [] }))
unfolding sample_terms
sample_follows rule values net rs x registers input t overflowed b h w r g m i =
    nodes_follow rule values net rs x registers input net.nodes (record { terms = t; ids = []; overflowed = overflowed }) (record { values = []; exact = [] }) b h w refl (omega arith) h.backwards (rw r.count h.registers) r
    (empty_follows values rs x registers input t overflowed b g m i)
