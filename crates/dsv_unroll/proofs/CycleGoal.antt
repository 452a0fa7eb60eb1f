-- The root of the cycle goal is 1 exactly where the start has a cycle.
use Rattle.std.proofs.Common.{◌≡◌, ◌≢◌, ℕ, zero, suc, ◌+◌, ◌-◌, ◌^◌, ◌<◌, Bool, true, false, not, inl, inr, List, [], ◌∷◌, ◌++◌, refl, arith, ap, sym, subst, ◌∙◌, length, length-append, replicate, take}
use Rattle.std.specs.Prelude.{slice_index, slice_index_or}
use Rattle.std.specs.List.{All, Contains, list_any}
use Rattle.std.specs.Ordering.{int_eq}
use Rattle.std.proofs.Math.IntN.{ℤ, pos}
use Rattle.std.proofs.lemmas.Nat.{pow_pos}
use Rattle.std.proofs.lemmas.Bool.{cases_lt}
use Rattle.std.proofs.lemmas.List.{length-replicate, get_or-replicate, get_or_append_left, get_or_push, length_push, append-nil, append_assoc, take_at}
use Rattle.std.proofs.lemmas.List.Elements.{All-replicate, All-push}
use Rattle.std.proofs.lemmas.List.Folds.{list_any_at}
use Rattle.dsv_word.specs.declared.format.Format.{Format}
use Rattle.dsv_word.specs.Words.{width, IsWord}
use Rattle.dsv_word.proofs.Meanings.{zero_word}
use Rattle.dsv_system.specs.Runs.{SampleRow, rows_from}
use Rattle.dsv_system.specs.Systems.{zeros}
use Rattle.dsv_netlist.specs.Nodes.{Net, at, step_of}
use Rattle.dsv_netlist.specs.Conditions.{IsNetlist}
use Rattle.dsv_term.specs.declared.node.TermId.{TermId}
use Rattle.dsv_term.specs.declared.node.TermNode.TheVariants.{Constant}
use Rattle.dsv_term.specs.Building.{Built, built_of, with_node, with_new_input}
use Rattle.dsv_term.specs.Growth.{AreSound}
use Rattle.dsv_term.specs.Terms.{KeepsTerms, AreValues, word_of, HasBits}
use Rattle.dsv_term.specs.TermsView.{TermsView, no_terms}
use Rattle.dsv_term.specs.Word.{bit_of}
use Rattle.dsv_term.proofs.Made.{KeepsTerms-both}
use Rattle.dsv_term.proofs.Building.{KeepsTerms-self, new_input_gives, constant_gives}
use Rattle.dsv_term.proofs.Complement.{spelled, signed_reads}
use Rattle.dsv_unroll.specs.CycleGoals.{CycleTerms, StartTerms, starts_from, cycle_of}
use Rattle.dsv_unroll.specs.Ready.{IsValue, AreAllValues, AreCycleReady}
use Rattle.dsv_unroll.specs.Rules.{term_at}
use Rattle.dsv_unroll.specs.Words.{cycle_start, Tells, HasCycle}
use Rattle.dsv_unroll.proofs.RuleTerms.{Spells, value_later}
use Rattle.dsv_unroll.proofs.Follows.{Means, means_later}
use Rattle.dsv_unroll.proofs.NodeTerms.{width_small, all_more}
use Rattle.dsv_unroll.proofs.InputTests.{bits_kept, word_at, words_at}
use Rattle.dsv_unroll.proofs.Breaking.{none_sound, word_width, word_spelled, words_map, words_at-length, zero_bit_spelled, tells_by, same_items}
use Rattle.dsv_unroll.proofs.CycleTerms.{AllMean, mean_later, equal_true, equal_from}
use Rattle.dsv_unroll.proofs.Cycling.{finds_from, is_sound, IsFound, found_is, is_found}
use Rattle.dsv_unroll.proofs.CycleRuns.{CycleStands, cycles_stand}

-- ---- the start words
pub record StartsStand (f : Format) (values : List ℕ) (first : TermsView) (s : StartTerms) (zs : List ℤ) : Type 0 where
  pub sound : AreSound s.terms
  pub kept : KeepsTerms first s.terms
  pub stand : AreAllValues s.terms s.ids
  pub mean : AllMean s.terms values s.ids zs
  pub words : All (IsWord f) zs
  pub widths : (i : ℕ) → i < length s.terms.inputs → slice_index s.terms.inputs i ≡ width f

mean_push : (t : TermsView) (values : List ℕ) (ids : List TermId) (zs : List ℤ) (id : TermId) (z : ℤ) → AllMean t values ids zs → Means t values id z → AllMean t values (ids ++ id ∷ []) (zs ++ z ∷ [])
mean_push t values ids zs id z m h =
    record {
      count = length_push ids id ∙ (ap (λ (k : ℕ). k + 1) m.count ∙ sym (length_push zs z));
      each = λ i p. elim (cases_lt i (length ids)) [
        | inl less ↦ (let c = m.count in rw (get_or_append_left ids (id ∷ []) (record { 0 = 0 }) i less, get_or_append_left zs (z ∷ []) (pos 0) i (omega arith)) (m.each i less))
        | inr more ↦ (let e : length ids ≡ i = omega (arith, length_push ids id) in rw (get_or_push ids id (record { 0 = 0 }) i e, get_or_push zs z (pos 0) i (sym m.count ∙ e)) h)
      ];
    }

start_stands : (f : Format) (values : List ℕ) (first : TermsView) (s : StartTerms) (zs : List ℤ) → slice_index values (length s.terms.inputs) < 2 ^ width f → StartsStand f values first s zs
    → StartsStand f values first (let x = with_new_input s.terms (width f) in record { terms = x.terms; ids = s.ids ++ x.id ∷ [] }) (zs ++ word_at (width f) values (length s.terms.inputs) ∷ [])
start_stands f values first s zs l h =
    let n = width f in
    let j = length s.terms.inputs in
    let z = word_at n values j in
    let w = word_width f in
    let r = signed_reads n (slice_index values j) w.some l in
    let x = with_new_input s.terms n in
    let g = new_input_gives s.terms n h.sound w in
    let xw : word_of x.terms values x.id ≡ spelled n z = g.word values ∙ ap (λ (m : ℕ). record { width = n; number = m }) (sym r.same) in
    let means : Means x.terms values x.id z = record { spells = subst (λ (b : ℕ). Spells x.terms values x.id b z) (sym g.width) (record { word = xw; fits = r.fits }) } in
    let value : IsValue x.terms x.id = record { stands = g.stands; narrow = let e = g.width in let b = width_small f in omega arith } in
    record {
      sound = g.sound;
      kept = KeepsTerms-both first s.terms x.terms h.kept g.kept;
      stand = record { stand = all_more (IsValue x.terms) s.ids x.id (λ i p. value_later s.terms x.terms (term_at s.ids i) g.kept (h.stand.stand i p)) value };
      mean = mean_push x.terms values s.ids zs x.id z (mean_later s.terms x.terms values s.ids zs g.kept h.stand h.mean) means;
      words = All-push (IsWord f) zs z h.words (word_spelled f z r.fits);
      widths = λ i p. ap (λ (is : List ℕ). slice_index is i) g.inputs ∙ elim (cases_lt i j) [
        | inl less ↦ get_or_append_left s.terms.inputs (n ∷ []) 0 i less ∙ h.widths i less
        | inr more ↦ get_or_push s.terms.inputs n 0 i (omega (arith, ap length g.inputs, length_push s.terms.inputs n))
      ];
    }

pub record StartsDone (f : Format) (values : List ℕ) (first : TermsView) (s : StartTerms) (zs : List ℤ) (count : ℕ) : Type 0 where
  pub stands : StartsStand f values first s zs
  pub inputs : length s.terms.inputs ≡ count

pub starts_stand : (f : Format) (values : List ℕ) (first : TermsView) (k : ℕ) (s : StartTerms) (zs : List ℤ) → ((j : ℕ) → j < length s.terms.inputs + k → slice_index values j < 2 ^ width f) → StartsStand f values first s zs
    → StartsDone f values first (starts_from (width f) k s) (zs ++ words_at (width f) values (length s.terms.inputs) k) (length s.terms.inputs + k)
starts_stand f values first zero s zs l h = record { stands = subst (StartsStand f values first s) (sym (append-nil zs)) h; inputs = omega arith }
starts_stand f values first (suc k) s zs l h =
    let n = width f in
    let j = length s.terms.inputs in
    let x = with_new_input s.terms n in
    let g = new_input_gives s.terms n h.sound (word_width f) in
    let next : StartTerms = record { terms = x.terms; ids = s.ids ++ x.id ∷ [] } in
    let c : length x.terms.inputs ≡ j + 1 = ap length g.inputs ∙ length_push s.terms.inputs n in
    let z = word_at n values j in
    let rest = starts_stand f values first k next (zs ++ z ∷ []) (λ m p. l m (omega arith)) (start_stands f values first s zs (l j (omega arith)) h) in
    let e : (zs ++ z ∷ []) ++ words_at n values (j + 1) k ≡ zs ++ (z ∷ words_at n values (j + 1) k) = append_assoc zs (z ∷ []) (words_at n values (j + 1) k) in
    let shifted = subst (λ (m : ℕ). StartsDone f values first (starts_from n k next) ((zs ++ z ∷ []) ++ words_at n values m k) (m + k)) c rest in
    let same = subst (λ (ys : List ℤ). StartsDone f values first (starts_from n k next) ys (j + 1 + k)) e shifted in
    subst (λ (m : ℕ). StartsDone f values first (starts_from n k next) (zs ++ (z ∷ words_at n values (j + 1) k)) m) (let o : j + 1 + k ≡ j + suc k = omega arith in o) same

-- ---- a cycle
sound_row : (rs : List SampleRow) → list_any is_sound rs ≡ true → (r : SampleRow) × Contains rs r × (r.y ≢ pos 0)
sound_row [] h = absurd cc
sound_row (r ∷ rs) h = sound_by r rs (int_eq r.y (pos 0)) refl h (sound_row rs)
  where
    sound_by : (r : SampleRow) (rs : List SampleRow) (q : Bool) → int_eq r.y (pos 0) ≡ q → list_any is_sound (r ∷ rs) ≡ true → (list_any is_sound rs ≡ true → (d : SampleRow) × Contains rs d × (d.y ≢ pos 0)) → (d : SampleRow) × Contains (r ∷ rs) d × (d.y ≢ pos 0)
    sound_by r rs false e h rest = (r, (0, omega arith, refl), λ z. (let c : false ≡ true = sym e ∙ equal_true r.y (pos 0) z in cc))
    sound_by r rs true e h rest =
        let d = rest (rw e at h) in
        let c = d.1 in
        (d.0, (suc c.0, (let l = c.1 in omega arith), c.2), d.2)

not_zero : (z : ℤ) → z ≢ pos 0 → not (int_eq z (pos 0)) ≡ true
not_zero z h = by (int_eq z (pos 0)) refl
  where
    by : (q : Bool) → int_eq z (pos 0) ≡ q → not q ≡ true
    by true e = absurd (h (equal_from z (pos 0) e))
    by false e = refl

row_sound : (rs : List SampleRow) (r : SampleRow) (k : ℕ) → k < length rs → slice_index_or rs k r ≡ r → r.y ≢ pos 0 → list_any is_sound rs ≡ true
row_sound rs r k l e n = list_any_at is_sound rs k r l (rw e (not_zero r.y n))

found_cycles : (net : Net) (ss : List ℤ) (periods p : ℕ) → length ss ≡ length net.next → All (λ w. w ≡ pos 0) (take net.feed_forward ss) → All (IsWord net.format) ss → IsFound net ss periods p → HasCycle net ss periods
found_cycles net ss periods p n q w h =
    (p, h.some, h.most, record { many = n; quiet = q; words = w; returns = record { some = h.some; back = h.cycle.back }; sounding = sound_row (rows_from (step_of net) ss (zeros p)) h.cycle.sound })

cycles_found : (net : Net) (ss : List ℤ) (periods : ℕ) → HasCycle net ss periods → (p : ℕ) × IsFound net ss periods p
cycles_found net ss periods h =
    let c = h.3 in
    let s = c.sounding in
    (h.0, record { some = h.1; most = h.2; cycle = record { back = c.returns.back; sound = row_sound (rows_from (step_of net) ss (zeros h.0)) s.0 s.1.0 s.1.1 s.1.2 s.2 } })

-- ---- the goal
-- the words that the run starts with
abbrev pub start_words : Net → List ℕ → List ℤ
start_words net values = zeros net.feed_forward ++ words_at (width net.format) values 0 (length net.next - net.feed_forward)

pub record CycleGoalStands (net : Net) (periods : ℕ) (values : List ℕ) (g : Built) : Type 0 where
  pub bit : HasBits g.terms g.id 1
  pub word : word_of g.terms values g.id ≡ bit_of (finds_from net (start_words net values) periods 1 periods (start_words net values) false false)
  pub words : All (IsWord net.format) (start_words net values)
  pub inputs : g.terms.inputs ≡ replicate (length net.next - net.feed_forward) (width net.format)

pub zero_bit_starts : (f : Format) (values : List ℕ) (forward : ℕ) → let u = with_node no_terms (Constant 1 0) in StartsStand f values u.terms (record { terms = u.terms; ids = replicate forward u.id }) (zeros forward)
zero_bit_starts f values forward =
    let u = with_node no_terms (Constant 1 0) in
    let g = constant_gives no_terms 1 0 none_sound (record { some = omega arith; narrow = omega arith }) (omega arith) in
    let value : IsValue u.terms u.id = record { stands = g.adds.stands; narrow = let e = g.adds.width in omega (arith, e) } in
    let zero_bit : Means u.terms values u.id (pos 0) = record { spells = subst (λ (w : ℕ). Spells u.terms values u.id w (pos 0)) (sym g.adds.width) (record { word = g.word values; fits = zero_bit_spelled }) } in
    let at_k : (j : ℕ) → j < length (replicate forward u.id) → term_at (replicate forward u.id) j ≡ u.id = λ j p. get_or-replicate forward j u.id (record { 0 = 0 }) (omega (arith, length-replicate forward u.id)) in
    let zero_k : (j : ℕ) → j < length (replicate forward u.id) → at (zeros forward) j ≡ pos 0 = λ j p. get_or-replicate forward j (pos 0) (pos 0) (omega (arith, length-replicate forward u.id)) in
    record {
      sound = g.adds.sound;
      kept = KeepsTerms-self u.terms;
      stand = record { stand = λ j p. subst (IsValue u.terms) (sym (at_k j p)) value };
      mean = record { count = length-replicate forward u.id ∙ sym (length-replicate forward (pos 0)); each = λ j p. rw (at_k j p, zero_k j p) zero_bit };
      words = All-replicate (IsWord f) forward (pos 0) (zero_word f);
      widths = λ j p. absurd (let e = ap length g.adds.inputs in omega arith);
    }

-- the run at its start
pub record CycleStarts (net : Net) (values : List ℕ) (u : Built) (s : StartTerms) : Type 0 where
  pub stands : CycleStands s.terms.inputs net values s.ids (start_words net values) u.id (record { terms = s.terms; registers = s.ids; sounding = u.id; found = u.id }) (start_words net values) false false
  pub inputs : s.terms.inputs ≡ replicate (length net.next - net.feed_forward) (width net.format)

pub cycle_starts : (net : Net) (values : List ℕ) → IsNetlist net → ((j : ℕ) → j < length net.next - net.feed_forward → slice_index values j < 2 ^ width net.format)
    → let u = with_node no_terms (Constant 1 0) in CycleStarts net values u (starts_from (width net.format) (length net.next - net.feed_forward) (record { terms = u.terms; ids = replicate net.feed_forward u.id }))
cycle_starts net values h l =
    let f = net.format in
    let n = width f in
    let m = length net.next - net.feed_forward in
    let u = with_node no_terms (Constant 1 0) in
    let g = constant_gives no_terms 1 0 none_sound (record { some = omega arith; narrow = omega arith }) (omega arith) in
    let zero : length u.terms.inputs ≡ 0 = ap length g.adds.inputs in
    let s0 : StartTerms = record { terms = u.terms; ids = replicate net.feed_forward u.id } in
    let first = starts_stand f values u.terms m s0 (zeros net.feed_forward) (λ j p. l j (omega arith)) (zero_bit_starts f values net.feed_forward) in
    let s = starts_from n m s0 in
    let ss = start_words net values in
    let none_more : 0 + m ≡ m = omega arith in
    let d0 : StartsDone f values u.terms s ss (0 + m) = subst (λ (k : ℕ). StartsDone f values u.terms s (zeros net.feed_forward ++ words_at n values k m) (k + m)) zero first in
    let d : StartsDone f values u.terms s ss m = subst (λ (k : ℕ). StartsDone f values u.terms s ss k) none_more d0 in
    let st = d.stands in
    let nb : HasBits s.terms u.id 1 = bits_kept u.terms s.terms u.id 1 st.kept (record { stands = g.adds.stands; width = g.adds.width }) in
    let nw : word_of s.terms values u.id ≡ bit_of false = st.kept.words values u.id g.adds.stands ∙ g.word values in
    let zero_bit : Means u.terms values u.id (pos 0) = record { spells = subst (λ (w : ℕ). Spells u.terms values u.id w (pos 0)) (sym g.adds.width) (record { word = g.word values; fits = zero_bit_spelled }) } in
    let ff = h.feed_forward in
    let long : length ss ≡ length net.next = omega (arith, length-append (zeros net.feed_forward) (words_at n values 0 m), length-replicate net.feed_forward (pos 0), words_at-length n values 0 m) in
    let start : CycleTerms = record { terms = s.terms; registers = s.ids; sounding = u.id; found = u.id } in
    let c : CycleStands s.terms.inputs net values s.ids ss u.id start ss false false = record {
      inputs = refl;
      sound = st.sound;
      registers_stand = st.stand;
      starts_stand = st.stand;
      zero_has_bit = nb;
      sounding_bit = nb;
      found_bit = nb;
      registers_mean = st.mean;
      starts_mean = st.mean;
      zero_bit_word = nw;
      zero_bit_means = means_later u.terms s.terms values u.id (pos 0) st.kept g.adds.stands zero_bit;
      sounding_word = nw;
      found_word = nw;
      count = long;
      words = st.words;
    } in
    record { stands = c; inputs = same_items n s.terms.inputs m d.inputs st.widths }

pub cycle_goal_stands : (net : Net) (periods : ℕ) (values : List ℕ) → IsNetlist net → ((j : ℕ) → j < length net.next - net.feed_forward → slice_index values j < 2 ^ width net.format) → CycleGoalStands net periods values (cycle_of net periods)
unfolding cycle_of
cycle_goal_stands net periods values h l =
    let u = with_node no_terms (Constant 1 0) in
    let s = starts_from (width net.format) (length net.next - net.feed_forward) (record { terms = u.terms; ids = replicate net.feed_forward u.id }) in
    let ss = start_words net values in
    let start : CycleTerms = record { terms = s.terms; registers = s.ids; sounding = u.id; found = u.id } in
    let c = cycle_starts net values h l in
    let e = cycles_stand s.terms.inputs net values s.ids ss u.id periods 1 periods start ss false false h c.stands in
    record { bit = e.bit; word = e.word; words = c.stands.words; inputs = e.inputs ∙ c.inputs }

-- ---- as the code has it
pub record AreCycleStarts (net : Net) (zero_bit : TermId) (s : StartTerms) : Type 0 where
  pub ready : AreCycleReady net s.terms zero_bit s.ids zero_bit zero_bit
  pub stand : AreAllValues s.terms s.ids
  pub count : length s.ids ≡ length net.next

pub cycle_started : (net : Net) (first t : TermsView) (zero_bit : TermId) (s : StartTerms) → IsNetlist net → first ≡ no_terms → built_of t zero_bit ≡ with_node first (Constant 1 0)
    → s ≡ starts_from (width net.format) (length net.next - net.feed_forward) (record { terms = t; ids = replicate net.feed_forward zero_bit }) → AreCycleStarts net zero_bit s
cycle_started net first t zero_bit s h z e g =
    let u = with_node no_terms (Constant 1 0) in
    let from : Built → StartTerms = λ b. starts_from (width net.format) (length net.next - net.feed_forward) (record { terms = b.terms; ids = replicate net.feed_forward b.id }) in
    let c = (cycle_starts net [] h (λ j p. pow_pos (width net.format))).stands in
    let count : length (from u).ids ≡ length net.next = c.registers_mean.count ∙ c.count in
    let one : AreCycleStarts net u.id (from u) = record {
      ready = record { sound = c.sound; registers_stand = c.registers_stand; count = count; zero_has_bit = c.zero_has_bit; sounding_bit = c.sounding_bit; found_bit = c.found_bit };
      stand = c.registers_stand;
      count = count;
    } in
    let made : built_of t zero_bit ≡ u = e ∙ ap (λ (v : TermsView). with_node v (Constant 1 0)) z in
    let two = subst (λ (b : Built). AreCycleStarts net b.id (from b)) (sym made) one in
    subst (AreCycleStarts net zero_bit) (sym g) two

forward_quiet : (m : ℕ) (zs : List ℤ) → All (λ w. w ≡ pos 0) (take m (zeros m ++ zs))
forward_quiet m zs = rw (take_at (zeros m) zs m (length-replicate m (pos 0))) (All-replicate (λ w. w ≡ pos 0) m (pos 0) refl)

pub cycle_tells : (net : Net) (periods : ℕ) (values : List ℕ) → IsNetlist net → AreValues (cycle_of net periods).terms.inputs values
    → Tells (word_of (cycle_of net periods).terms values (cycle_of net periods).id) (HasCycle net (cycle_start net values) periods)
cycle_tells net periods values h v =
    let f = net.format in
    let n = width f in
    let m = length net.next - net.feed_forward in
    let none = cycle_goal_stands net periods [] h (λ j p. pow_pos n) in
    let is = (cycle_of net periods).terms.inputs in
    let many : length is ≡ m = ap length none.inputs ∙ length-replicate m n in
    let c : length values ≡ m = v.count ∙ many in
    let wide : (j : ℕ) → j < m → slice_index is j ≡ n = λ j p. ap (λ (xs : List ℕ). slice_index xs j) none.inputs ∙ get_or-replicate m j n 0 p in
    let fit : (j : ℕ) → j < m → slice_index values j < 2 ^ n = λ j p. subst (λ (w : ℕ). slice_index values j < 2 ^ w) (wide j p) (v.fit j (omega arith)) in
    let g = cycle_goal_stands net periods values h fit in
    let ss = start_words net values in
    let ff = h.feed_forward in
    let long : length ss ≡ length net.next = omega (arith, length-append (zeros net.feed_forward) (words_at n values 0 m), length-replicate net.feed_forward (pos 0), words_at-length n values 0 m) in
    let e : ss ≡ cycle_start net values = ap (λ (ws : List ℤ). zeros net.feed_forward ++ ws) (ap (words_at n values 0) (sym c) ∙ words_map f values values 0 (λ i p. ap (slice_index values) (let z : i ≡ 0 + i = omega arith in z))) in
    let quiet = forward_quiet net.feed_forward (words_at n values 0 m) in
    subst (λ (ys : List ℤ). Tells (word_of (cycle_of net periods).terms values (cycle_of net periods).id) (HasCycle net ys periods)) e
    (tells_by (word_of (cycle_of net periods).terms values (cycle_of net periods).id) (HasCycle net ss periods) (finds_from net ss periods 1 periods ss false false) g.word
    (λ q. let p = found_is net ss periods long q in found_cycles net ss periods p.0 long quiet g.words p.1)
    (λ q. let p = cycles_found net ss periods q in is_found net ss periods p.0 p.1))

pub cycle_inputs : (net : Net) (periods : ℕ) → IsNetlist net → (cycle_of net periods).terms.inputs ≡ replicate (length net.next - net.feed_forward) (width net.format)
cycle_inputs net periods h = (cycle_goal_stands net periods [] h (λ j p. pow_pos (width net.format))).inputs

pub made_cycle_tells : (net : Net) (periods : ℕ) (t : TermsView) (root : TermId) (values : List ℕ) → built_of t root ≡ cycle_of net periods → IsNetlist net → AreValues t.inputs values → Tells (word_of t values root) (HasCycle net (cycle_start net values) periods)
made_cycle_tells net periods t root values e h v =
    let w = subst (λ (g : Built). AreValues g.terms.inputs values) e v in
    subst (λ (g : Built). Tells (word_of g.terms values g.id) (HasCycle net (cycle_start net values) periods)) (sym e) (cycle_tells net periods values h w)

pub made_cycle_inputs : (net : Net) (periods : ℕ) (t : TermsView) (root : TermId) → built_of t root ≡ cycle_of net periods → IsNetlist net → t.inputs ≡ replicate (length net.next - net.feed_forward) (width net.format)
made_cycle_inputs net periods t root e h = ap (λ (g : Built). g.terms.inputs) e ∙ cycle_inputs net periods h
