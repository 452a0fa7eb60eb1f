-- Runs out of a candidate's set, and starts whose sample breaks.
use Rattle.std.proofs.Common.{◌≡◌, ℕ, ◌+◌, ◌<◌, ◌≤◌, inl, inr, List, [], ◌∷◌, ◌++◌, ◌∙◌, ap, sym, subst, length, take, drop, get_or, min, arith, below_more}
use Rattle.std.specs.Prelude.{◌≤ℤ◌, slice_get}
use Rattle.std.specs.List.{All}
use Rattle.std.proofs.Math.IntN.{ℤ, pos}
use Rattle.std.proofs.lemmas.Bool.{cases_lt}
use Rattle.std.proofs.lemmas.List.{length-map, length-replicate, length-take, take_more, take_min, get_or-drop}
use Rattle.std.proofs.lemmas.List.Elements.{All-nil, All-cons, All-head, All-take}
use Rattle.dsv_word.specs.declared.format.Format.{Format}
use Rattle.dsv_word.specs.Words.{IsWord}
use Rattle.dsv_bounded.specs.Questions.{AreRegisters}
use Rattle.dsv_bounded.proofs.Questions.{words_in_range}
use Rattle.dsv_bounded.proofs.WordValues.{zeros_are_words}
use Rattle.dsv_meaning.specs.Equations.{Past}
use Rattle.dsv_system.specs.OutsideValues.{IsFirstOutside}
use Rattle.dsv_meaning.specs.Systems.{equations_of}
use Rattle.dsv_netlist.specs.Nodes.{Net, at, sample_of, step_of}
use Rattle.dsv_netlist.specs.Systems.{system_of, runs_of}
use Rattle.dsv_quantiser.specs.QuantisedView.{QuantisedView, IsQuantisedView}
use Rattle.dsv_system.specs.Breaks.{IsInside}
use Rattle.dsv_system.specs.Runs.{SampleRow, row_at}
use Rattle.dsv_system.specs.Systems.{rows, registers_after, zeros, AreInRange, behaviour_of, Agree}
use Rattle.dsv_system.proofs.Words.{no_break}
use Rattle.dsv_template.specs.declared.candidate.Candidate.{Candidate}
use Rattle.dsv_template.specs.declared.verdict.SetPart.TheVariants as part
use Rattle.dsv_template.specs.declared.verdict.Why.{Why}
use Rattle.dsv_template.specs.declared.verdict.Why.TheVariants as why
use Rattle.dsv_template.specs.Candidates.{IsInSet}
use Rattle.dsv_template.specs.Kept.{LeavesEarly, BreaksFrom}
use Rattle.dsv_invariant.specs.Breaking.{DoLeave, DoBreak, IsUnsafeSample, IsFoundAt}
use Rattle.dsv_invariant.specs.Causes.{IsUnsafe}
use Rattle.dsv_invariant.proofs.Alike.{zero_registers}
use Rattle.dsv_system.proofs.RunLemmas.{past-append}

-- ---- a run so far
-- The registers are those after i of the inputs, and before each of these they were in the set.
pub record IsOnWay (net : Net) (c : Candidate) (start inputs : List ℤ) (i : ℕ) (registers : List ℤ) : Type 0 where
  pub stands : AreRegisters net registers
  pub same : registers ≡ registers_after (system_of net) start (take i inputs)
  pub inside : (n : ℕ) → n < i → IsInSet c (registers_after (system_of net) start (take n inputs))

pub zero_stands : (net : Net) (rs : List ℤ) (n : ℕ) → n ≡ length net.next → rs ≡ zeros n → AreRegisters net rs
zero_stands net rs n e z = record { many = ap length z ∙ (length-replicate n (pos 0) ∙ e); words = zeros_are_words net.format rs n z }

pub way_more : (net : Net) (c : Candidate) (start inputs : List ℤ) (i : ℕ) (rs new : List ℤ) → i < length inputs → IsOnWay net c start inputs i rs → IsInSet c rs → All (IsWord net.format) new
    → new ≡ (step_of net rs (get_or inputs i (pos 0))).past → IsOnWay net c start inputs (i + 1) new
way_more net c start inputs i rs new l w here words e =
    let x = get_or inputs i (pos 0) in
    let after : registers_after (system_of net) start (take i inputs ++ x ∷ []) ≡ (step_of net rs x).past =
    past-append (step_of net) start (take i inputs) (x ∷ []) ∙ ap (λ (old : List ℤ). (step_of net old x).past) (sym w.same) in
    record {
      stands = record { many = ap length e ∙ length-map net.next (at (sample_of net.format rs x net.nodes).values); words = words };
      same = e ∙ (sym after ∙ ap (λ (xs : List ℤ). registers_after (system_of net) start xs) (sym (take_more inputs i (pos 0) l)));
      inside = below_more (λ n. IsInSet c (registers_after (system_of net) start (take n inputs))) i w.inside (subst (IsInSet c) w.same here);
    }

pub way_out : (net : Net) (c : Candidate) (start inputs : List ℤ) (i : ℕ) (rs : List ℤ) → IsOnWay net c start inputs i rs → (IsInSet c rs → ⊥) → IsInSet c (registers_after (system_of net) start (take i inputs)) → ⊥
way_out net c start inputs i rs w outside h = outside (subst (IsInSet c) (sym w.same) h)

pub way_ends : (net : Net) (c : Candidate) (start inputs : List ℤ) (i : ℕ) (rs : List ℤ) → IsOnWay net c start inputs i rs → length inputs ≤ i → IsInSet c rs
    → (n : ℕ) → n ≤ length inputs → IsInSet c (registers_after (system_of net) start (take n inputs))
way_ends net c start inputs i rs w l here n m = elim (cases_lt n i) [
  | inl before ↦ w.inside n before
  | inr end ↦ subst (λ (k : ℕ). IsInSet c (registers_after (system_of net) start (take k inputs))) (let e : i ≡ n = omega arith in e) (subst (IsInSet c) w.same here)
]

-- the registers can't be in the set all along where some of the inputs lead out of it
pub way_leaves : (net : Net) (c : Candidate) (inputs : List ℤ) → (n : ℕ) × DoLeave net c (take n inputs)
    → ((n : ℕ) → n ≤ length inputs → IsInSet c (registers_after (system_of net) (zeros (length net.next)) (take n inputs))) → ⊥
way_leaves net c inputs h inside =
    let n = h.0 in
    h.1 (subst (λ (xs : List ℤ). IsInSet c (registers_after (system_of net) (zeros (length net.next)) xs)) (take_min n inputs) (inside (min n (length inputs)) (omega arith)))

-- ---- too early
pub early_leaves : (q : QuantisedView) (net : Net) (c : Candidate) (inputs : List ℤ) → Agree (runs_of net) (behaviour_of (equations_of q)) → DoBreak q c part.Base inputs → (n : ℕ) × DoLeave net c (take n inputs)
early_leaves q net c inputs run b =
    let m = system_of net in
    let n = b.1.0 in
    (n, λ h. b.1.1.outside (subst (IsInSet c) (zero_registers (List ℤ) Past m (equations_of q) (take n inputs) run) h))

pub early_stands : (q : QuantisedView) (net : Net) (c : Candidate) (inputs until : List ℤ) → Agree (runs_of net) (behaviour_of (equations_of q)) → DoBreak q c part.Base inputs → length inputs < c.depth
    → (n : ℕ) × (until ≡ take n inputs) → DoLeave net c until → LeavesEarly Past (equations_of q) q.xlo q.xhi c until
early_stands q net c inputs until run b few first leaves =
    let m = system_of net in
    let n = first.0 in
    record {
      in_range = subst (AreInRange q.xlo q.xhi) (sym first.1) (All-take (λ x. (q.xlo ≤ℤ x) × (x ≤ℤ q.xhi)) n inputs b.0);
      few = omega (arith, ap length first.1, length-take n inputs);
      outside = λ i. leaves (subst (IsInSet c) (sym (zero_registers (List ℤ) Past m (equations_of q) until run)) i);
    }

-- ---- a start and an input
-- The start holds words of the netlist, the input is one, and the sample breaks.
pub record IsBrokenStart (q : QuantisedView) (net : Net) (c : Candidate) (start : List ℤ) (input : ℤ) : Type 0 where
  pub registers : AreRegisters net start
  pub word : IsWord net.format input
  pub breaks : BreaksFrom Past (equations_of q) q.xlo q.xhi c start input

pub broken_start : (q : QuantisedView) (net : Net) (c : Candidate) (words : List ℤ) (k : ℕ) → Agree (runs_of net) (behaviour_of (equations_of q)) → IsQuantisedView q → DoBreak q c part.Safe words
    → k ≡ length net.next → IsBrokenStart q net c (take k words) (get_or words k (pos 0))
broken_start q net c words k run f b e =
    let m = equations_of q in
    let R : ℤ → Type 0 = λ z. (q.xlo ≤ℤ z) × (z ≤ℤ q.xhi) in
    let start = take k words in
    let input = get_or words k (pos 0) in
    let x = b.0 in
    let n : k ≡ m.many = e ∙ run.many in
    let back : drop k words ≡ x ∷ [] = ap (λ (i : ℕ). drop i words) n ∙ b.1 in
    let same : x ≡ input = ap (λ (ys : List ℤ). get_or ys 0 (pos 0)) (sym back) ∙ (get_or-drop k words 0 (pos 0) ∙ ap (λ (i : ℕ). get_or words i (pos 0)) (let z : k + 0 ≡ k = omega arith in z)) in
    let from : BreaksFrom Past m q.xlo q.xhi c start input
    = subst (λ (z : ℤ). BreaksFrom Past m q.xlo q.xhi c start z) same (subst (λ (i : ℕ). BreaksFrom Past m q.xlo q.xhi c (take i words) x) (sym n) b.2) in
    let one = All-cons R input [] (from.at_least, from.at_most) (All-nil R) in
    let word = All-head (IsWord q.format) input [] (words_in_range q (input ∷ []) f one) in
    record {
      registers = record { many = from.state.many ∙ sym run.many; words = subst (λ (h : Format). All (IsWord h) start) (sym run.format) from.state.words };
      word = subst (λ (h : Format). IsWord h input) (sym run.format) word;
      breaks = from;
    }

pub unsafe_stands : (q : QuantisedView) (net : Net) (c : Candidate) (start : List ℤ) (input : ℤ) (value : ℕ) (exact : ℤ) → Agree (runs_of net) (behaviour_of (equations_of q)) → IsBrokenStart q net c start input
    → IsFirstOutside net.format (step_of net start input).exact value exact → IsUnsafe q c start input value exact
unsafe_stands q net c start input value exact run b o =
    let from = b.breaks in
    record {
      state = from.state;
      inside = from.inside;
      at_least = from.at_least;
      at_most = from.at_most;
      first = record {
        before = All-nil (IsInside q.format);
        row = row_at (step_of net start input) input;
        here = ap (λ (rs : List SampleRow). slice_get rs 0) (sym (run.rows start (input ∷ []) from.state.many));
        words = subst (λ (h : Format). All (IsWord h) (take value (step_of net start input).exact)) run.format o.words;
        first = o.first;
        outside = λ w. o.outside (subst (λ (h : Format). IsWord h exact) (sym run.format) w);
      };
    }

pub unsafe_found : (q : QuantisedView) (net : Net) (c : Candidate) (start : List ℤ) (input : ℤ) (conflicts : ℕ) (found : Why) → Agree (runs_of net) (behaviour_of (equations_of q)) → IsBrokenStart q net c start input
    → IsUnsafeSample net start input found → IsFoundAt q conflicts c part.Safe found
unsafe_found q net c start input conflicts (why.Unsafe given x value exact) run b u = λ before.
    let stands = unsafe_stands q net c start input value exact run b u.2 in
    (before, subst (λ (s : List ℤ). IsUnsafe q c s x value exact) (sym u.0) (subst (λ (z : ℤ). IsUnsafe q c start z value exact) (sym u.1) stands))
unsafe_found q net c start input conflicts (why.Good logs) run b u = absurd u
unsafe_found q net c start input conflicts (why.Base inputs) run b u = absurd u
unsafe_found q net c start input conflicts (why.Leaves given inputs) run b u = absurd u
unsafe_found q net c start input conflicts (why.Spent part log) run b u = absurd u
unsafe_found q net c start input conflicts why.BadShape run b u = absurd u

-- some exact value of the sample is no word
pub not_safe : (q : QuantisedView) (net : Net) (c : Candidate) (start : List ℤ) (input : ℤ) → Agree (runs_of net) (behaviour_of (equations_of q)) → IsBrokenStart q net c start input
    → All (IsWord net.format) (step_of net start input).exact → ⊥
not_safe q net c start input run b words =
    let e = equations_of q in
    let inside : IsInside q.format (row_at (step_of net start input) input) = subst (λ (h : Format). All (IsWord h) (step_of net start input).exact) run.format words in
    let all = All-cons (IsInside q.format) (row_at (step_of net start input) input) [] inside (All-nil (IsInside q.format)) in
    no_break q.format (rows e start (input ∷ [])) (subst (All (IsInside q.format)) (run.rows start (input ∷ []) b.breaks.state.many) all) b.breaks.broken
