-- The tests of a run's fitted values: which exact value each has, and that its bits say whether that is a word.
use Rattle.std.proofs.Common.{◌≡◌, ℕ, ◌+◌, ◌<◌, ◌≤◌, Bool, true, false, not, ◌||◌, Option, None, Some, List, [], ◌∷◌, ◌++◌, refl, arith, ap, sym, subst, ◌∙◌, length}
use Rattle.std.specs.Prelude.{nat_lt, if◌then◌else◌}
use Rattle.std.specs.List.{All, list_any}
use Rattle.std.proofs.Math.IntN.{ℤ}
use Rattle.std.proofs.lemmas.Bool.Decides.{nat_tests}
use Rattle.std.proofs.lemmas.List.{length-map, length_push, append-nil, append_assoc}
use Rattle.std.proofs.lemmas.List.Elements.{All-nil, All-cons, All-head, All-tail, All-append, All-weaker}
use Rattle.dsv_word.specs.declared.format.Format.{Format}
use Rattle.dsv_word.specs.Words.{width, IsWord}
use Rattle.dsv_system.specs.Runs.{rows_from}
use Rattle.dsv_linear.specs.Facts.{exact_values}
use Rattle.dsv_netlist.specs.declared.node.Node.{Node}
use Rattle.dsv_netlist.specs.declared.node.Node.TheVariants as node
use Rattle.dsv_netlist.specs.Nodes.{Net, Sample, at, node_value, node_exact, after_node, sample_from, sample_of, step_of}
use Rattle.dsv_netlist.specs.Conditions.{IsNetlist, NamesBelow, AllNameBack, ReadsBelow}
use Rattle.dsv_netlist.specs.Law.{AreWords}
use Rattle.dsv_term.specs.declared.node.TermId.{TermId}
use Rattle.dsv_term.specs.declared.node.TermNode.TheVariants.{Or}
use Rattle.dsv_term.specs.Building.{built_of, with_node}
use Rattle.dsv_term.specs.Growth.{AreSound}
use Rattle.dsv_term.specs.Terms.{KeepsTerms, width_of, word_of}
use Rattle.dsv_term.specs.TermsView.{TermsView}
use Rattle.dsv_term.specs.Word.{bit_of}
use Rattle.dsv_term.proofs.Made.{KeepsTerms-both}
use Rattle.dsv_term.proofs.Building.{later, or_gives}
use Rattle.dsv_term.proofs.Complement.{wider_spelled}
use Rattle.dsv_unroll.specs.declared.fitting.TestedTerm.{TestedTerm}
use Rattle.dsv_unroll.specs.declared.rules.FitRule.TheVariants as fit_rule
use Rattle.dsv_unroll.specs.Goals.{SampleTerms, with_node_term, nodes_from, tests_from, sample_terms, sample_tests, RunTerms, with_sample, run_from, run_tests}
use Rattle.dsv_unroll.specs.Ready.{IsValue, AreReady, AreRunReady, IsTruth, IsEntry}
use Rattle.dsv_unroll.specs.Rules.{unrolled_of, cut_terms, cut_term, node_tests, node_term, term_at}
use Rattle.dsv_unroll.proofs.RuleTerms.{value_later}
use Rattle.dsv_unroll.proofs.FitTerms.{is_outside, spelled_inside, cut_gives}
use Rattle.dsv_unroll.proofs.NodeTerms.{width_some, node_adds, ready_with}
use Rattle.dsv_unroll.proofs.Follows.{Means, means_later, Follows, node_overflow, node_means}
use Rattle.dsv_unroll.proofs.SampleSteps.{ready_first}
use Rattle.dsv_unroll.proofs.Samples.{sample_known, follows_with, nodes_follow, empty_follows}
use Rattle.dsv_unroll.proofs.Runs.{overflow_exact, any_outside, registers_words, RegistersMean, InputsMean, after_sample, run_follows}
use Rattle.dsv_unroll.proofs.InputTests.{bits_kept}

-- ---- what stands
pub truth_later : (t u : TermsView) (id : TermId) → KeepsTerms t u → IsTruth t id → IsTruth u id
truth_later t u id k h = record { bit = bits_kept t u id 1 k h.bit; truth = h.truth; word = λ values. k.words values id h.bit.stands ∙ h.word values }

pub entry_later : (t u : TermsView) → KeepsTerms t u → (x : Option TestedTerm) → IsEntry t x → IsEntry u x
entry_later t u k None h = tt
entry_later t u k (Some x) h = record { value = value_later t u x.value k h.value; is_word = truth_later t u x.is_word k h.is_word; outside = truth_later t u x.outside k h.outside }

pub entries_later : (t u : TermsView) (xs : List (Option TestedTerm)) → KeepsTerms t u → All (IsEntry t) xs → All (IsEntry u) xs
entries_later t u xs k h = All-weaker (IsEntry t) (IsEntry u) (entry_later t u k) xs h

-- ---- what is said
-- the tested term spells the value in more bits than words have, and its bits say whether that is a word
pub record Says (t : TermsView) (values : List ℕ) (n : ℕ) (x : TestedTerm) (e : ℤ) : Type 0 where
  pub wide : n ≤ width_of t x.value
  pub value : Means t values x.value e
  pub is_word : word_of t values x.is_word ≡ bit_of (not (is_outside n e))
  pub outside : word_of t values x.outside ≡ bit_of (is_outside n e)

-- a value without a test is a word
abbrev pub EntrySays : TermsView → List ℕ → ℕ → Option TestedTerm → ℤ → Type 0
EntrySays t values n None e = is_outside n e ≡ false
EntrySays t values n (Some x) e = Says t values n x e

-- each entry says this of its value while all values before are words
abbrev pub EntriesSay : TermsView → List ℕ → ℕ → List (Option TestedTerm) → List ℤ → Type 0
EntriesSay t values n [] [] = Unit {0}
EntriesSay t values n [] (e ∷ es) = ⊥
EntriesSay t values n (x ∷ xs) [] = ⊥
EntriesSay t values n (x ∷ xs) (e ∷ es) = EntrySays t values n x e × (is_outside n e ≡ false → EntriesSay t values n xs es)

entry_says_later : (t u : TermsView) (values : List ℕ) (n : ℕ) → KeepsTerms t u → (x : Option TestedTerm) (e : ℤ) → IsEntry t x → EntrySays t values n x e → EntrySays u values n x e
entry_says_later t u values n k None e h s = s
entry_says_later t u values n k (Some x) e h s =
    record {
      wide = let w = k.widths x.value h.value.stands in omega (arith, w, s.wide);
      value = means_later t u values x.value e k h.value.stands s.value;
      is_word = k.words values x.is_word h.is_word.bit.stands ∙ s.is_word;
      outside = k.words values x.outside h.outside.bit.stands ∙ s.outside;
    }

pub entries_say_later : (t u : TermsView) (values : List ℕ) (n : ℕ) → KeepsTerms t u → (xs : List (Option TestedTerm)) (es : List ℤ) → All (IsEntry t) xs → EntriesSay t values n xs es → EntriesSay u values n xs es
entries_say_later t u values n k [] [] h s = tt
entries_say_later t u values n k [] (e ∷ es) h s = s
entries_say_later t u values n k (x ∷ xs) [] h s = s
entries_say_later t u values n k (x ∷ xs) (e ∷ es) h s =
    (entry_says_later t u values n k x e (All-head (IsEntry t) x xs h) s.0, λ o. entries_say_later t u values n k xs es (All-tail (IsEntry t) x xs h) (s.1 o))

entries_say_both : (t : TermsView) (values : List ℕ) (n : ℕ) (xs ys : List (Option TestedTerm)) (es ds : List ℤ) → EntriesSay t values n xs es → (list_any (is_outside n) es ≡ false → EntriesSay t values n ys ds) → EntriesSay t values n (xs ++ ys) (es ++ ds)
entries_say_both t values n [] ys [] ds s r = r refl
entries_say_both t values n [] ys (e ∷ es) ds s r = absurd s
entries_say_both t values n (x ∷ xs) ys [] ds s r = absurd s
entries_say_both t values n (x ∷ xs) ys (e ∷ es) ds s r = (s.0, λ o. entries_say_both t values n xs ys es ds (s.1 o) (λ p. r (rw o p)))

-- ---- both
pub record TestsHold (t : TermsView) (values : List ℕ) (n : ℕ) (xs : List (Option TestedTerm)) (es : List ℤ) (b : Bool) : Type 0 where
  pub stand : All (IsEntry t) xs
  pub say : b ≡ false → EntriesSay t values n xs es

pub tests_later : (t u : TermsView) (values : List ℕ) (n : ℕ) (xs : List (Option TestedTerm)) (es : List ℤ) (b : Bool) → KeepsTerms t u → TestsHold t values n xs es b → TestsHold u values n xs es b
tests_later t u values n xs es b k h =
    record { stand = entries_later t u xs k h.stand; say = λ q. entries_say_later t u values n k xs es h.stand (h.say q) }

none_before : (b c : Bool) → b ≡ false → c ≡ false → (b || c) ≡ false
none_before b c p q = rw p q

tests_both : (t u : TermsView) (values : List ℕ) (n : ℕ) (xs ys : List (Option TestedTerm)) (es ds : List ℤ) (b : Bool) → KeepsTerms t u → TestsHold t values n xs es b → TestsHold u values n ys ds (b || list_any (is_outside n) es) → TestsHold u values n (xs ++ ys) (es ++ ds) b
tests_both t u values n xs ys es ds b k h r =
    let g = tests_later t u values n xs es b k h in
    record {
      stand = All-append (IsEntry u) xs ys g.stand r.stand;
      say = λ q. entries_say_both u values n xs ys es ds (g.say q) (λ o. r.say (none_before b (list_any (is_outside n) es) q o));
    }

none_hold : (t : TermsView) (values : List ℕ) (n : ℕ) (b : Bool) → TestsHold t values n [] [] b
none_hold t values n b = record { stand = All-nil (IsEntry t); say = λ q. tt }

-- ---- a node
fit_holds : (values : List ℕ) (t : TermsView) (f : Format) (of overflowed : TermId) (b q : Bool) (z : ℤ) → nat_lt (width f) (width_of t of) ≡ q → AreSound t → IsValue t of → overflowed.0 < length t.nodes → width_of t overflowed ≡ 1 → (b ≡ false → Means t values of z)
    → TestsHold (if q then cut_term t (width f) of overflowed else unrolled_of (built_of t of) overflowed).terms values (width f) ((if q then (let cut = cut_terms t (width f) of in Some cut.tested) else None) ∷ []) (z ∷ []) b
fit_holds values t f of overflowed b true z e s v bs bw m =
    let n = width f in
    let l : n < width_of t of = grind (arith, nat_tests) in
    let c = cut_terms t n of in
    let g = cut_gives t of n s v (width_some f) l in
    let lb = later t c.terms overflowed g.kept bs in
    let u = with_node c.terms (Or overflowed c.tested.outside) in
    let k = (or_gives c.terms overflowed c.tested.outside g.sound lb.stands g.outside_bit.stands (lb.width ∙ (bw ∙ sym g.outside_bit.width))).adds.kept in
    let both = KeepsTerms-both t c.terms u.terms g.kept k in
    let stand : IsEntry c.terms (Some c.tested) = record {
      value = value_later t c.terms of g.kept v;
      is_word = record { bit = g.is_word_bit; truth = g.truth; word = g.is_word_truth };
      outside = record { bit = g.outside_bit; truth = λ vs. not (g.truth vs); word = g.outside_truth };
    } in
    record {
      stand = All-cons (IsEntry u.terms) (Some c.tested) [] (entry_later c.terms u.terms k (Some c.tested) stand) (All-nil (IsEntry u.terms));
      say = λ q.
          let p = m q in
          let here : Says u.terms values n c.tested z = record {
            wide = let w = both.widths of v.stands in omega (arith, l, w);
            value = means_later t u.terms values of z both v.stands p;
            is_word = k.words values c.tested.is_word g.is_word_bit.stands ∙ g.is_word values z p.spells;
            outside = k.words values c.tested.outside g.outside_bit.stands ∙ g.outside values z p.spells;
          } in
          (here, λ o. tt);
    }
fit_holds values t f of overflowed b false z e s v bs bw m =
    let l : width_of t of ≤ width f = grind (arith, nat_tests) in
    record {
      stand = All-cons (IsEntry t) None [] tt (All-nil (IsEntry t));
      say = λ q. (spelled_inside (width f) z (wider_spelled (width_of t of) (width f) z l (m q).spells.fits), λ o. tt);
    }

node_holds : (values : List ℕ) (net : Net) (regs : List ℤ) (x : ℤ) (registers : List TermId) (input : TermId) (t : TermsView) (ids : List TermId) (overflowed : TermId) (vals : List ℤ) (b : Bool) (n : Node) → AreReady net registers input t ids overflowed
    → Follows values regs x registers input t ids overflowed vals b → NamesBelow (length ids) n
    → TestsHold (node_term fit_rule.Tested net registers input t ids overflowed n).terms values (width net.format) (node_tests fit_rule.Tested net.format t ids n) (node_exact vals n) b
node_holds values net regs x registers input t ids overflowed vals b node.Input r f l = none_hold _ values (width net.format) b
node_holds values net regs x registers input t ids overflowed vals b (node.Reg i) r f l = none_hold _ values (width net.format) b
node_holds values net regs x registers input t ids overflowed vals b (node.MulConst c i) r f l = none_hold _ values (width net.format) b
node_holds values net regs x registers input t ids overflowed vals b (node.Round i) r f l = none_hold _ values (width net.format) b
node_holds values net regs x registers input t ids overflowed vals b (node.Add i j) r f l = none_hold _ values (width net.format) b
node_holds values net regs x registers input t ids overflowed vals b (node.Sub i j) r f l = none_hold _ values (width net.format) b
node_holds values net regs x registers input t ids overflowed vals b (node.Scale i) r f l = none_hold _ values (width net.format) b
node_holds values net regs x registers input t ids overflowed vals b (node.Fit i) r f l =
    fit_holds values t net.format (term_at ids i) overflowed b (nat_lt (width net.format) (width_of t (term_at ids i))) (at vals i) refl r.sound (r.nodes i l) r.overflowed_stands r.overflowed_bit (λ q. f.nodes q i l)

-- ---- a sample
-- the exact values of these nodes
abbrev exact_from : Format → List ℤ → ℤ → List Node → Sample → List ℤ
exact_from f rs x [] s = []
exact_from f rs x (n ∷ ns) s = node_exact s.values n ++ exact_from f rs x ns (after_node f rs x s n)

exact_from-all : (f : Format) (rs : List ℤ) (x : ℤ) (ns : List Node) (s : Sample) → (sample_from f rs x ns s).exact ≡ s.exact ++ exact_from f rs x ns s
exact_from-all f rs x [] s = sym (append-nil s.exact)
exact_from-all f rs x (n ∷ ns) s = exact_from-all f rs x ns (after_node f rs x s n) ∙ append_assoc s.exact (node_exact s.values n) (exact_from f rs x ns (after_node f rs x s n))

nodes_hold : (values : List ℕ) (net : Net) (rs : List ℤ) (x : ℤ) (registers : List TermId) (input : TermId) (ns : List Node) (s : SampleTerms) (q : Sample) (b : Bool) → IsNetlist net → AreWords net rs x
    → sample_from net.format rs x ns q ≡ sample_of net.format rs x net.nodes → length s.ids + length ns ≡ length net.nodes → AllNameBack (length s.ids) ns → All (ReadsBelow (length registers)) ns
    → AreReady net registers input s.terms s.ids s.overflowed → Follows values rs x registers input s.terms s.ids s.overflowed q.values b
    → TestsHold (nodes_from fit_rule.Tested net registers input ns s).terms values (width net.format) (tests_from fit_rule.Tested net registers input ns s) (exact_from net.format rs x ns q) b
nodes_hold values net rs x registers input [] s q b h w e l bk rd r f = none_hold s.terms values (width net.format) b
nodes_hold values net rs x registers input (n ∷ ns) s q b h w e l bk rd r f =
    let u = node_term fit_rule.Tested net registers input s.terms s.ids s.overflowed n in
    let v = node_value net.format rs x q.values n in
    let c = f.count in
    let here : length s.ids < length net.nodes = omega arith in
    let reads = All-head (ReadsBelow (length registers)) n ns rd in
    let a = node_adds fit_rule.Tested net registers input s.terms s.ids s.overflowed n h r here bk.0 reads in
    let k = sample_known net rs x n ns q h w e (omega arith) in
    let m = node_means fit_rule.Tested values net rs x registers input s.terms s.ids s.overflowed q.values b n h r f here bk.0 reads k in
    let now = b || node_overflow fit_rule.Tested (width net.format) q.values n in
    let more : length (s.ids ++ u.id ∷ []) ≡ length s.ids + 1 = length_push s.ids u.id in
    let next = with_node_term fit_rule.Tested net registers input s n in
    let back = subst (λ (j : ℕ). AllNameBack j ns) (sym more) bk.1 in
    let tail = All-tail (ReadsBelow (length registers)) n ns rd in
    let ready = ready_with net registers input s.terms s.ids s.overflowed u r a in
    let follow = follows_with values net rs x registers input s.terms s.ids s.overflowed u q.values v b now r f a m in
    let kept = (nodes_follow fit_rule.Tested values net rs x registers input ns next (after_node net.format rs x q n) now h w e (omega arith) back tail ready follow).kept in
    let rest = nodes_hold values net rs x registers input ns next (after_node net.format rs x q n) now h w e (omega arith) back tail ready follow in
    let one = node_holds values net rs x registers input s.terms s.ids s.overflowed q.values b n r f bk.0 in
    let all = nodes_from fit_rule.Tested net registers input ns next in
    let same : now ≡ (b || list_any (is_outside (width net.format)) (node_exact q.values n)) = ap (λ (d : Bool). b || d) (overflow_exact net.format q.values n) in
    tests_both u.terms all.terms values (width net.format) (node_tests fit_rule.Tested net.format s.terms s.ids n) (tests_from fit_rule.Tested net registers input ns next) (node_exact q.values n) (exact_from net.format rs x ns (after_node net.format rs x q n)) b kept one
    (subst (TestsHold all.terms values (width net.format) (tests_from fit_rule.Tested net registers input ns next) (exact_from net.format rs x ns (after_node net.format rs x q n))) same rest)

sample_holds : (values : List ℕ) (net : Net) (rs : List ℤ) (x : ℤ) (registers : List TermId) (input : TermId) (t : TermsView) (overflowed : TermId) (b : Bool) → IsNetlist net → AreWords net rs x
    → AreReady net registers input t [] overflowed → word_of t values overflowed ≡ bit_of b → (b ≡ false → (k : ℕ) → k < length registers → Means t values (term_at registers k) (at rs k)) → Means t values input x
    → TestsHold (sample_terms fit_rule.Tested net registers input t overflowed).terms values (width net.format) (sample_tests fit_rule.Tested net registers input t overflowed) (step_of net rs x).exact b
unfolding sample_terms sample_tests
sample_holds values net rs x registers input t overflowed b h w r g m i =
    let first : SampleTerms = record { terms = t; ids = []; overflowed = overflowed } in
    let none : Sample = record { values = []; exact = [] } in
    let a = nodes_hold values net rs x registers input net.nodes first none b h w refl (omega arith) h.backwards (rw r.count h.registers) r (empty_follows values rs x registers input t overflowed b g m i) in
    subst (λ (es : List ℤ). TestsHold (nodes_from fit_rule.Tested net registers input net.nodes first).terms values (width net.format) (tests_from fit_rule.Tested net registers input net.nodes first) es b) (sym (exact_from-all net.format rs x net.nodes none)) a

-- ---- a run
pub run_holds : (net : Net) (values : List ℕ) (xs : List TermId) (zs : List ℤ) (r : RunTerms) (rs : List ℤ) (b : Bool) → IsNetlist net → length rs ≡ length net.next → All (IsWord net.format) rs → AreRunReady net r.registers xs r.terms r.overflowed
    → word_of r.terms values r.overflowed ≡ bit_of b → (b ≡ false → RegistersMean r.terms values r.registers rs) → InputsMean net.format r.terms values xs zs
    → TestsHold (run_from net xs r).terms values (width net.format) (run_tests net xs r) (exact_values (rows_from (step_of net) rs zs)) b
run_holds net values [] [] r rs b h c w ready g m i = none_hold r.terms values (width net.format) b
run_holds net values [] (z ∷ zs) r rs b h c w ready g m i = absurd (let k = i.count in omega arith)
run_holds net values (x ∷ xs) [] r rs b h c w ready g m i = absurd (let k = i.count in omega arith)
run_holds net values (x ∷ xs) (z ∷ zs) r rs b h c w ready g m i =
    let words : AreWords net rs z = record { many = c; words = w; input = All-head (IsWord net.format) z zs i.words } in
    let a = after_sample net values r x xs z zs rs b h words ready g m i in
    let s = sample_holds values net rs z r.registers x r.terms r.overflowed b h words (ready_first net r.registers x xs r.terms r.overflowed ready) g (λ e. (m e).each) (i.each 0 (omega arith)) in
    let next = with_sample net r x in
    let past = (step_of net rs z).past in
    let many : length past ≡ length net.next = length-map net.next (at (sample_of net.format rs z net.nodes).values) in
    let now = b || any_outside net.format (step_of net rs z).exact in
    let later_words = registers_words net rs z h words in
    let kept = (run_follows net values xs zs next past now h many later_words a.ready a.overflows a.registers a.inputs).kept in
    let rest = run_holds net values xs zs next past now h many later_words a.ready a.overflows a.registers a.inputs in
    tests_both next.terms (run_from net xs next).terms values (width net.format) (sample_tests fit_rule.Tested net r.registers x r.terms r.overflowed) (run_tests net xs next) (step_of net rs z).exact (exact_values (rows_from (step_of net) past zs)) b kept s rest
