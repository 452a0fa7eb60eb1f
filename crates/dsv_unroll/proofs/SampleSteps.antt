-- One node more of a sample, and one register more after it, as the loops have them.
use Rattle.std.proofs.Common.{◌≡◌, ℕ, zero, suc, ◌+◌, ◌-◌, ◌<◌, List, [], ◌∷◌, ◌++◌, Option, Some, arith, rules, ap, sym, subst, ◌∙◌, length, get_or, drop, take, map}
use Rattle.std.specs.Prelude.{slice_get, slice_index, IsTrue}
use Rattle.std.specs.List.{All}
use Rattle.std.proofs.Math.IntN.{ℤ}
use Rattle.std.proofs.lemmas.List.{drop_more, length_push, take_more, map_push, length-map, get_or-map, append_assoc}
use Rattle.std.proofs.lemmas.List.Elements.{All-weaker, All-get_or}
use Rattle.dsv_netlist.specs.declared.node.Node.{Node}
use Rattle.dsv_netlist.specs.declared.node.Node.TheVariants as node
use Rattle.dsv_netlist.specs.Nodes.{Net}
use Rattle.dsv_netlist.specs.Conditions.{IsNetlist, NamesBelow, ReadsBelow, names_word}
use Rattle.dsv_netlist.proofs.Naming.{names_word-below}
use Rattle.dsv_netlist.proofs.NodePlaces.{names-at, reads-at}
use Rattle.dsv_term.specs.declared.node.TermId.{TermId}
use Rattle.dsv_term.specs.Terms.{KeepsTerms}
use Rattle.dsv_term.specs.TermsView.{TermsView}
use Rattle.dsv_term.proofs.Made.{KeepsTerms-both}
use Rattle.dsv_unroll.specs.declared.fitting.TestedTerm.{TestedTerm}
use Rattle.dsv_unroll.specs.declared.rules.FitRule.{FitRule}
use Rattle.dsv_unroll.specs.Goals.{SampleTerms, nodes_from, tests_from, RunTerms, run_from, run_tests, sample_terms, sample_tests, InputTerms, inputs_from, with_input, conjunction_from}
use Rattle.dsv_term.specs.declared.node.TermNode.TheVariants.{And}
use Rattle.dsv_term.specs.Building.{Built, built_of, with_node}
use Rattle.dsv_unroll.specs.declared.rules.FitRule.TheVariants as fit_rule
use Rattle.dsv_unroll.specs.Ready.{IsValue, AreReady, AreRunReady, AreBits, fit_tests}
use Rattle.dsv_unroll.proofs.RuleTerms.{value_later}
use Rattle.dsv_unroll.specs.Rules.{Unrolled, node_term, node_tests, term_at}
use Rattle.dsv_unroll.proofs.NodeTerms.{NodeAdds, node_adds, ready_with}

pub got : {A : Type 0} (xs : List A) (i : ℕ) (d a : A) → slice_get xs i ≡ Some a → get_or xs i d ≡ a
got [] i d a e = absurd cc
got (x ∷ xs) zero d a e = cc
got (x ∷ xs) (suc i) d a e = got xs i d a e

-- what a node needs
pub record IsNamed (net : Net) (registers ids : List TermId) (n : Node) : Type 0 where
  pub backwards : NamesBelow (length ids) n
  pub reads : ReadsBelow (length registers) n

pub named : (net : Net) (registers ids : List TermId) (i : ℕ) (n : Node) → IsNetlist net → length ids ≡ i → length registers ≡ length net.next → slice_get net.nodes i ≡ Some n → IsNamed net registers ids n
named net registers ids i n h c r e =
    let z : 0 + i ≡ length ids = omega arith in
    record {
      backwards = subst (λ (k : ℕ). NamesBelow k n) z (names-at 0 net.nodes i n h.backwards e);
      reads = subst (λ (k : ℕ). ReadsBelow k n) (sym r) (reads-at (length net.next) net.nodes i n h.registers e);
    }

pub record IsStep (rule : FitRule) (net : Net) (registers : List TermId) (x : TermId) (first : TermsView) (i : ℕ) (t : TermsView) (ids : List TermId) (overflowed : TermId) (start : SampleTerms) : Type 0 where
  pub count : length ids ≡ i
  pub ready : AreReady net registers x t ids overflowed
  pub kept : KeepsTerms first t
  pub same : nodes_from rule net registers x (drop i net.nodes) (record { terms = t; ids = ids; overflowed = overflowed }) ≡ start

pub node_step : (rule : FitRule) (net : Net) (registers : List TermId) (x : TermId) (first : TermsView) (i : ℕ) (t : TermsView) (ids : List TermId) (overflowed : TermId) (start : SampleTerms) (n : Node) (u : Unrolled) (seen now : List TermId)
    → IsNetlist net → i < length net.nodes → slice_get net.nodes i ≡ Some n → IsStep rule net registers x first i t ids overflowed start
    → seen ≡ ids → u ≡ node_term rule net registers x t seen overflowed n → now ≡ ids ++ u.id ∷ [] → IsStep rule net registers x first (i + 1) u.terms now u.overflowed start
node_step rule net registers x first i t ids overflowed start n u seen now h l e s g b p =
    let b2 : u ≡ node_term rule net registers x t ids overflowed n = b ∙ ap (λ (js : List TermId). node_term rule net registers x t js overflowed n) g in
    let k = named net registers ids i n h s.count s.ready.count e in
    let c = s.count in
    let d : drop i net.nodes ≡ n ∷ drop (i + 1) net.nodes = drop_more net.nodes i node.Input l ∙ ap (λ (m : Node). m ∷ drop (i + 1) net.nodes) (got net.nodes i node.Input n e) in
    let q : SampleTerms = record { terms = t; ids = ids; overflowed = overflowed } in
    let same : nodes_from rule net registers x (n ∷ drop (i + 1) net.nodes) q ≡ start = ap (λ (ns : List Node). nodes_from rule net registers x ns q) (sym d) ∙ s.same in
    let a = subst (NodeAdds t) (sym b2) (node_adds rule net registers x t ids overflowed n h s.ready (omega arith) k.backwards k.reads) in
    record {
      count = ap length p ∙ (length_push ids u.id ∙ ap (λ (m : ℕ). m + 1) c);
      ready = subst (λ (js : List TermId). AreReady net registers x u.terms js u.overflowed) (sym p) (ready_with net registers x t ids overflowed u s.ready a);
      kept = KeepsTerms-both first t u.terms s.kept a.kept;
      same = ap (λ (js : List TermId). nodes_from rule net registers x (drop (i + 1) net.nodes) (record { terms = u.terms; ids = js; overflowed = u.overflowed })) p
          ∙ (ap (λ (v : Unrolled). nodes_from rule net registers x (drop (i + 1) net.nodes) (record { terms = v.terms; ids = ids ++ v.id ∷ []; overflowed = v.overflowed })) b2 ∙ same);
    }

pub next_step : (ids : List TermId) (next : List ℕ) (k j : ℕ) (old now : List TermId) (id : TermId) → k < length next → slice_get next k ≡ Some j → old ≡ map (term_at ids) (take k next) → id ≡ term_at ids j → now ≡ old ++ id ∷ [] → now ≡ map (term_at ids) (take (k + 1) next)
next_step ids next k j old now id l e o i n =
    let t : take (k + 1) next ≡ take k next ++ j ∷ [] = take_more next k 0 l ∙ ap (λ (m : ℕ). take k next ++ m ∷ []) (got next k 0 j e) in
    n ∙ (rw (o, i) (sym (map_push (term_at ids) (take k next) j)) ∙ ap (map (term_at ids)) (sym t))

-- ---- after a sample
pub next_below : (net : Net) (m : ℕ) → IsNetlist net → m ≡ length net.nodes → All (λ k. k < m) net.next
next_below net m h e = All-weaker (λ k. IsTrue (names_word net.nodes k)) (λ k. k < m) below net.next h.next
  where
    below : (k : ℕ) → IsTrue (names_word net.nodes k) → k < m
    below k t = let b = names_word-below net.nodes k (search rules) in omega arith

pub ready_first : (net : Net) (registers : List TermId) (x : TermId) (xs : List TermId) (t : TermsView) (overflowed : TermId) → AreRunReady net registers (x ∷ xs) t overflowed → AreReady net registers x t [] overflowed
ready_first net registers x xs t overflowed r =
    record {
      sound = r.sound;
      nodes = λ i p. absurd (omega arith);
      count = r.count;
      registers_stand = r.registers_stand;
      input = r.inputs_stand 0 (omega arith);
      overflowed_stands = r.overflowed_stands;
      overflowed_bit = r.overflowed_bit;
    }

pub ready_rest : (net : Net) (registers : List TermId) (x : TermId) (xs : List TermId) (t u : TermsView) (overflowed now : TermId) (ids next : List TermId) → IsNetlist net → AreRunReady net registers (x ∷ xs) t overflowed → KeepsTerms t u
    → AreReady net registers x u ids now → length ids ≡ length net.nodes → next ≡ map (term_at ids) net.next → AreRunReady net next xs u now
ready_rest net registers x xs t u overflowed now ids next h r k a c e =
    record {
      sound = a.sound;
      count = ap length e ∙ length-map net.next (term_at ids);
      registers_stand = λ j p.
          let q : j < length net.next = omega (arith, ap length e, length-map net.next (term_at ids)) in
          let b : slice_index net.next j < length ids = All-get_or (λ (i : ℕ). i < length ids) net.next j 0 q (next_below net (length ids) h c) in
          let w : term_at next j ≡ term_at ids (slice_index net.next j) = ap (λ (ns : List TermId). term_at ns j) e ∙ get_or-map (term_at ids) net.next j 0 (record { 0 = 0 }) q in
          subst (IsValue u) (sym w) (a.nodes (slice_index net.next j) b);
      inputs_stand = λ i p. value_later t u (term_at xs i) k (r.inputs_stand (suc i) (omega arith));
      overflowed_stands = a.overflowed_stands;
      overflowed_bit = a.overflowed_bit;
    }

pub record IsRunStep (net : Net) (xs : List TermId) (t : TermsView) (registers : List TermId) (overflowed : TermId) (start : RunTerms) : Type 0 where
  pub ready : AreRunReady net registers xs t overflowed
  pub same : run_from net xs (record { terms = t; registers = registers; overflowed = overflowed }) ≡ start

pub run_step : (net : Net) (xs : List TermId) (i : ℕ) (x : TermId) (t : TermsView) (registers seen : List TermId) (overflowed : TermId) (start : RunTerms) (s : SampleTerms) (shown next : List TermId)
    → IsNetlist net → i < length xs → x ≡ term_at xs i → IsRunStep net (drop i xs) t registers overflowed start → seen ≡ registers → s ≡ sample_terms fit_rule.Tested net seen x t overflowed
    → KeepsTerms t s.terms → AreReady net seen x s.terms s.ids s.overflowed → length s.ids ≡ length net.nodes → shown ≡ s.ids → next ≡ map (term_at shown) net.next
    → IsRunStep net (drop (i + 1) xs) s.terms next s.overflowed start
run_step net xs i x t registers seen overflowed start s shown next h l e r g b k a c v n =
    let d : drop i xs ≡ x ∷ drop (i + 1) xs = drop_more xs i (record { 0 = 0 }) l ∙ ap (λ (y : TermId). y ∷ drop (i + 1) xs) (sym e) in
    let rd = subst (λ (ys : List TermId). AreRunReady net registers ys t overflowed) d r.ready in
    let n2 : next ≡ map (term_at s.ids) net.next = n ∙ ap (λ (js : List TermId). map (term_at js) net.next) v in
    let b2 : s ≡ sample_terms fit_rule.Tested net registers x t overflowed = b ∙ ap (λ (js : List TermId). sample_terms fit_rule.Tested net js x t overflowed) g in
    let a2 = subst (λ (js : List TermId). AreReady net js x s.terms s.ids s.overflowed) g a in
    let q : RunTerms = record { terms = t; registers = registers; overflowed = overflowed } in
    let same : run_from net (x ∷ drop (i + 1) xs) q ≡ start = ap (λ (ys : List TermId). run_from net ys q) (sym d) ∙ r.same in
    record {
      ready = ready_rest net registers x (drop (i + 1) xs) t s.terms overflowed s.overflowed s.ids next h rd k a2 c n2;
      same = ap (λ (js : List TermId). run_from net (drop (i + 1) xs) (record { terms = s.terms; registers = js; overflowed = s.overflowed })) n2
          ∙ (ap (λ (w : SampleTerms). run_from net (drop (i + 1) xs) (record { terms = w.terms; registers = map (term_at w.ids) net.next; overflowed = w.overflowed })) b2 ∙ same);
    }

pub run_ready : (net : Net) (xs : List TermId) (i : ℕ) (x : TermId) (t : TermsView) (registers seen : List TermId) (overflowed : TermId) (start : RunTerms) → i < length xs → x ≡ term_at xs i → IsRunStep net (drop i xs) t registers overflowed start → seen ≡ registers
    → AreReady net seen x t [] overflowed
run_ready net xs i x t registers seen overflowed start l e r g =
    let d : drop i xs ≡ x ∷ drop (i + 1) xs = drop_more xs i (record { 0 = 0 }) l ∙ ap (λ (y : TermId). y ∷ drop (i + 1) xs) (sym e) in
    subst (λ (js : List TermId). AreReady net js x t [] overflowed) (sym g) (ready_first net registers x (drop (i + 1) xs) t overflowed (subst (λ (ys : List TermId). AreRunReady net registers ys t overflowed) d r.ready))

pub input_step : (n : ℕ) (low high : ℤ) (samples i : ℕ) (s now start : InputTerms) → i < samples → inputs_from n low high (samples - i) s ≡ start → now ≡ with_input n low high s → inputs_from n low high (samples - (i + 1)) now ≡ start
input_step n low high samples i s now start l h e =
    let k : samples - i ≡ suc (samples - (i + 1)) = omega arith in
    rw e (ap (λ (m : ℕ). inputs_from n low high m s) (sym k) ∙ h)

pub bits_later : (t u : TermsView) (bits : List TermId) → KeepsTerms t u → AreBits t bits → AreBits u bits
bits_later t u bits k h = record { stand = λ i p. let b = h.stand i p in record { stands = k.longer (term_at bits i) b.stands; width = k.widths (term_at bits i) b.stands ∙ b.width } }

pub joined_step : (tests : List TermId) (i : ℕ) (t u : TermsView) (all now : TermId) (start : Built) → i < length tests → conjunction_from (built_of t all) (drop i tests) ≡ start → built_of u now ≡ with_node t (And all (term_at tests i))
    → conjunction_from (built_of u now) (drop (i + 1) tests) ≡ start
joined_step tests i t u all now start l h b =
    let d = drop_more tests i (record { 0 = 0 }) l in
    ap (λ (q : Built). conjunction_from q (drop (i + 1) tests)) b ∙ (ap (conjunction_from (built_of t all)) (sym d) ∙ h)

-- ---- tests of exact values
pub entry_step : (rule : FitRule) (net : Net) (registers : List TermId) (x : TermId) (i : ℕ) (t : TermsView) (ids : List TermId) (overflowed : TermId) (start : List (Option TestedTerm)) (n : Node) (u : Unrolled) (seen now : List TermId)
    (old new : List (Option TestedTerm)) (entry : Option TestedTerm) → i < length net.nodes → slice_get net.nodes i ≡ Some n → seen ≡ ids → u ≡ node_term rule net registers x t seen overflowed n → now ≡ ids ++ u.id ∷ []
    → old ++ tests_from rule net registers x (drop i net.nodes) (record { terms = t; ids = ids; overflowed = overflowed }) ≡ start → fit_tests n entry ≡ node_tests rule net.format t seen n → new ≡ old ++ fit_tests n entry
    → new ++ tests_from rule net registers x (drop (i + 1) net.nodes) (record { terms = u.terms; ids = now; overflowed = u.overflowed }) ≡ start
entry_step rule net registers x i t ids overflowed start n u seen now old new entry l e g b p h m a =
    let q : SampleTerms = record { terms = t; ids = ids; overflowed = overflowed } in
    let tests : List TermId → List (Option TestedTerm) = λ js. node_tests rule net.format t js n in
    let rest : List TermId → Unrolled → List (Option TestedTerm) = λ js v. tests_from rule net registers x (drop (i + 1) net.nodes) (record { terms = v.terms; ids = js; overflowed = v.overflowed }) in
    let made = node_term rule net registers x t ids overflowed n in
    let b2 : u ≡ made = b ∙ ap (λ (js : List TermId). node_term rule net registers x t js overflowed n) g in
    let a2 : new ≡ old ++ tests ids = a ∙ ap (λ (ys : List (Option TestedTerm)). old ++ ys) (m ∙ ap tests g) in
    let d : drop i net.nodes ≡ n ∷ drop (i + 1) net.nodes = drop_more net.nodes i node.Input l ∙ ap (λ (o : Node). o ∷ drop (i + 1) net.nodes) (got net.nodes i node.Input n e) in
    ap (λ (js : List TermId). new ++ rest js u) p
    ∙ (ap (λ (v : Unrolled). new ++ rest (ids ++ v.id ∷ []) v) b2
    ∙ (ap (λ (ys : List (Option TestedTerm)). ys ++ rest (ids ++ made.id ∷ []) made) a2
    ∙ (append_assoc old (tests ids) (rest (ids ++ made.id ∷ []) made)
    ∙ (ap (λ (ns : List Node). old ++ tests_from rule net registers x ns q) (sym d) ∙ h))))

pub tests_step : (net : Net) (xs : List TermId) (i : ℕ) (x : TermId) (t : TermsView) (registers seen : List TermId) (overflowed : TermId) (start : List (Option TestedTerm)) (s : SampleTerms) (shown next : List TermId) (old new more : List (Option TestedTerm))
    → i < length xs → x ≡ term_at xs i → old ++ run_tests net (drop i xs) (record { terms = t; registers = registers; overflowed = overflowed }) ≡ start → seen ≡ registers → s ≡ sample_terms fit_rule.Tested net seen x t overflowed
    → shown ≡ s.ids → next ≡ map (term_at shown) net.next → more ≡ sample_tests fit_rule.Tested net seen x t overflowed → new ≡ old ++ more
    → new ++ run_tests net (drop (i + 1) xs) (record { terms = s.terms; registers = next; overflowed = s.overflowed }) ≡ start
tests_step net xs i x t registers seen overflowed start s shown next old new more l e h g b v n m a =
    let q : RunTerms = record { terms = t; registers = registers; overflowed = overflowed } in
    let tests : List TermId → List (Option TestedTerm) = λ js. sample_tests fit_rule.Tested net js x t overflowed in
    let rest : List TermId → SampleTerms → List (Option TestedTerm) = λ js w. run_tests net (drop (i + 1) xs) (record { terms = w.terms; registers = js; overflowed = w.overflowed }) in
    let made = sample_terms fit_rule.Tested net registers x t overflowed in
    let d : drop i xs ≡ x ∷ drop (i + 1) xs = drop_more xs i (record { 0 = 0 }) l ∙ ap (λ (y : TermId). y ∷ drop (i + 1) xs) (sym e) in
    let n2 : next ≡ map (term_at s.ids) net.next = n ∙ ap (λ (js : List TermId). map (term_at js) net.next) v in
    let b2 : s ≡ made = b ∙ ap (λ (js : List TermId). sample_terms fit_rule.Tested net js x t overflowed) g in
    let a2 : new ≡ old ++ tests registers = a ∙ ap (λ (ys : List (Option TestedTerm)). old ++ ys) (m ∙ ap tests g) in
    ap (λ (js : List TermId). new ++ rest js s) n2
    ∙ (ap (λ (w : SampleTerms). new ++ rest (map (term_at w.ids) net.next) w) b2
    ∙ (ap (λ (ys : List (Option TestedTerm)). ys ++ rest (map (term_at made.ids) net.next) made) a2
    ∙ (append_assoc old (tests registers) (rest (map (term_at made.ids) net.next) made)
    ∙ (ap (λ (ys : List TermId). old ++ run_tests net ys q) (sym d) ∙ h))))
