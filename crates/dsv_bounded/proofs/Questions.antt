-- Goals ask what their makers say of the values, and what values have is so of inputs and starts.
use Rattle.std.proofs.Common.{◌≡◌, ℕ, ◌<◌, ◌≤◌, true, List, [], ◌∷◌, ◌++◌, refl, arith, ap, sym, subst, ◌∙◌, length, take, drop}
use Rattle.std.specs.Prelude.{◌≢◌, ◌↔◌, ◌≤ℤ◌, slice_index}
use Rattle.std.specs.List.{All}
use Rattle.std.proofs.Math.IntN.{ℤ, pos}
use Rattle.std.proofs.lemmas.Int.{ints}
use Rattle.std.proofs.lemmas.List.{length-map, length-drop, length-take, take-append-drop}
use Rattle.std.proofs.lemmas.List.Elements.{All-weaker, All-drop, All-head, All-tail}
use Rattle.dsv_word.specs.declared.format.Format.{Format}
use Rattle.dsv_word.specs.Words.{width, IsWord}
use Rattle.dsv_quantiser.specs.QuantisedView.{QuantisedView, IsQuantisedView}
use Rattle.dsv_system.specs.Breaks.{Breaks}
use Rattle.dsv_system.specs.Cycles.{Cycles}
use Rattle.dsv_system.specs.Systems.{zeros, AreInRange}
use Rattle.dsv_netlist.specs.Nodes.{Net}
use Rattle.dsv_term.specs.declared.node.TermId.{TermId}
use Rattle.dsv_term.specs.declared.word.Word.{Word}
use Rattle.dsv_term.specs.Terms.{AreTerms, AreValues, word_of, words_of, width_of}
use Rattle.dsv_term.specs.TermsView.{TermsView}
use Rattle.dsv_term.specs.TermNode.{node_word}
use Rattle.dsv_term.specs.Word.{bit_of}
use Rattle.dsv_term.proofs.Entries.{length-entries}
use Rattle.dsv_term.proofs.Words.{words_of_nodes, known}
use Rattle.dsv_unroll.specs.Words.{spelled_words, cycle_start, Tells}
use Rattle.dsv_hints.specs.Searches.{IfNever}
use Rattle.dsv_hints.specs.declared.search.Searched.{Searched}
use Rattle.dsv_hints.specs.declared.search.Searched.TheVariants.{Never, Happens, Spent}
use Rattle.dsv_bounded.specs.Questions.{Asks, NoneHave, SomeHave, input_widths, DoBreak, free_registers, DoCycle}
use Rattle.dsv_bounded.proofs.Agreeing.{breaks_within_agree, cycles_within_agree}
use Rattle.dsv_bounded.proofs.WordValues.{values_for, words_of_values, values_fit, count_of_words}
use Rattle.dsv_netlist.specs.Systems.{runs_of}
use Rattle.dsv_bounded.specs.Verdicts.{BreaksWithinBy, CyclesWithinBy}

-- ---- goals
-- a term's word is as wide as the term
word-width : (t : TermsView) (values : List ℕ) (id : TermId) → AreTerms t → AreValues t.inputs values → id.0 < length t.nodes → (word_of t values id).width ≡ width_of t id
word-width t values id h v l =
    let all = words_of_nodes t.inputs values t.nodes [] h.inputs v (λ k d p. absurd (omega arith)) h.lawful in
    let n = length-entries (node_word t.inputs values) t.nodes [] in
    let k = known (words_of t values) id all.words (omega (arith, length-map (words_of t values) (λ (w : Word). w.width))) in
    k.width ∙ ap (λ (ws : List ℕ). slice_index ws id.0) all.widths

word_with : ℕ → ℕ → Word
word_with width number = record { width = width; number = number }

one_bit : (w : Word) → w.width ≡ 1 → w.number ≡ 1 → w ≡ bit_of true
unfolding word_with
one_bit w p q = ap (λ (k : ℕ). word_with k w.number) p ∙ ap (λ (k : ℕ). word_with 1 k) q

pub asks_from : (t : TermsView) (root : TermId) (widths : List ℕ) (R P : List ℕ → Type 0) → AreTerms t → root.0 < length t.nodes → width_of t root ≡ 1 → t.inputs ≡ widths
    → ((values : List ℕ) → AreValues t.inputs values → Tells (word_of t values root) (R values)) → ((values : List ℕ) → R values → P values) → ((values : List ℕ) → P values → R values) → Asks t root widths P
asks_from t root widths R P terms stands one e tells f g = record {
  inputs = e;
  holds = λ values a n.
      let b = subst (λ (is : List ℕ). AreValues is values) (sym e) a in
      f values ((tells values b).only (one_bit (word_of t values root) (word-width t values root terms b stands ∙ one) n));
  shows = λ values a p.
      let b = subst (λ (is : List ℕ). AreValues is values) (sym e) a in
      ap (λ (w : Word). w.number) ((tells values b).one (g values p));
}

-- What values of these widths have is so of something, and the other way round.
pub record Means (widths : List ℕ) (P : List ℕ → Type 0) (W : Type 0) : Type 0 where
  pub given : (values : List ℕ) → AreValues widths values → P values → W
  pub found : W → SomeHave widths P

pub told_by : (S : Type 0) (t : TermsView) (root : TermId) (widths : List ℕ) (P : List ℕ → Type 0) → Asks t root widths P
    → (S ↔ ((values : List ℕ) × AreValues t.inputs values × ((word_of t values root).number ≡ 1))) → (S ↔ SomeHave widths P)
told_by S t root widths P a s = (
  (λ x.
      let h = s.0 x in
      let b = subst (λ (is : List ℕ). AreValues is h.0) a.inputs h.1 in
      (h.0, b, a.holds h.0 b h.2)),
  (λ h. s.1 (h.0, subst (λ (is : List ℕ). AreValues is h.0) (sym a.inputs) h.1, a.shows h.0 h.1 h.2)),
)

pub never_by : (t : TermsView) (root : TermId) (widths : List ℕ) (P : List ℕ → Type 0) → Asks t root widths P
    → ((values : List ℕ) → AreValues t.inputs values → (word_of t values root).number ≢ 1) → NoneHave widths P
never_by t root widths P a n = λ values b p. n values (subst (λ (is : List ℕ). AreValues is values) (sym a.inputs) b) (a.shows values b p)

pub told_as : (S W : Type 0) (widths : List ℕ) (P : List ℕ → Type 0) → Means widths P W → (S ↔ SomeHave widths P) → (S ↔ W)
told_as S W widths P m s = ((λ x. let h = s.0 x in m.given h.0 h.1 h.2), (λ w. s.1 (m.found w)))

-- what tells the one tells the other
pub told_through : (S W V : Type 0) → (S ↔ W) → (W ↔ V) → (S ↔ V)
told_through S W V s w = ((λ x. w.0 (s.0 x)), (λ v. s.1 (w.1 v)))

pub never_as : {T : Type 0} (W : Type 0) (widths : List ℕ) (P : List ℕ → Type 0) (r : Searched T) → Means widths P W → IfNever (λ log. NoneHave widths P) r → IfNever (λ log. W → ⊥) r
never_as W widths P (Never log) m n = λ w. let h = m.found w in n h.0 h.1 h.2
never_as W widths P (Happens found) m n = tt
never_as W widths P (Spent log) m n = tt

-- ---- overflow
range_words : (f : Format) (low high : ℤ) (zs : List ℤ) → IsWord f low → IsWord f high → AreInRange low high zs → All (IsWord f) zs
range_words f low high zs l k h =
    All-weaker (λ (x : ℤ). (low ≤ℤ x) × (x ≤ℤ high)) (IsWord f)
    (λ x b. let first = b.0 in let last = b.1 in let least = l.low in let greatest = k.high in record { low = omega (arith, ints); high = omega (arith, ints) }) zs h

pub words_in_range : (q : QuantisedView) (zs : List ℤ) → IsQuantisedView q → AreInRange q.xlo q.xhi zs → All (IsWord q.format) zs
words_in_range q zs f h =
    let low = f.low in
    let order = f.order in
    let high = f.high in
    range_words q.format q.xlo q.xhi zs (record { low = low; high = omega (arith, ints) }) (record { low = omega (arith, ints); high = high }) h

pub breaks_mean : (net : Net) (low high : ℤ) (samples : ℕ) → IsWord net.format low → IsWord net.format high
    → Means (input_widths net samples) (DoBreak net low high) (BreaksWithinBy (runs_of net) low high samples)
breaks_mean net low high samples l k = record {
  given = λ values a b. (spelled_words net.format values, count_of_words net.format values samples a, b);
  found = λ h.
      let zs = h.0 in
      let b = h.2 in
      let e = words_of_values net.format zs (range_words net.format low high zs l k b.in_range) in
      (values_for net.format zs, values_fit net.format zs samples h.1, subst (λ (xs : List ℤ). Breaks (runs_of net) low high xs) (sym e) b);
}

-- ---- cycles
all_zeros : (zs : List ℤ) → All (λ (w : ℤ). w ≡ pos 0) zs → zs ≡ zeros (length zs)
all_zeros [] h = refl
all_zeros (z ∷ zs) h =
    ap (λ (y : ℤ). y ∷ zs) (All-head (λ (w : ℤ). w ≡ pos 0) z zs h) ∙ ap (λ (ys : List ℤ). pos 0 ∷ ys) (all_zeros zs (All-tail (λ (w : ℤ). w ≡ pos 0) z zs h))

-- a start begins with zeros
start-split : (k : ℕ) (zs : List ℤ) → k ≤ length zs → All (λ (w : ℤ). w ≡ pos 0) (take k zs) → zeros k ++ drop k zs ≡ zs
start-split k zs l h =
    let e : length (take k zs) ≡ k = omega (arith, length-take k zs) in
    let z : take k zs ≡ zeros k = all_zeros (take k zs) h ∙ ap zeros e in
    ap (λ (ys : List ℤ). ys ++ drop k zs) (sym z) ∙ take-append-drop k zs

pub cycles_mean : (net : Net) (periods : ℕ) → net.feed_forward ≤ length net.next → Means (input_widths net (free_registers net)) (DoCycle net periods) (CyclesWithinBy (runs_of net) periods)
cycles_mean net periods below = record {
  given = λ values a h. (cycle_start net values, h.0, h.1, h.2, h.3);
  found = λ h.
      let zs = h.0 in
      let c = h.4 in
      let k = net.feed_forward in
      let l : k ≤ length zs = omega (arith, c.many, below) in
      let free = drop k zs in
      let words : All (IsWord net.format) free = All-drop (IsWord net.format) k zs c.words in
      let e : cycle_start net (values_for net.format free) ≡ zs = ap (λ (ys : List ℤ). zeros k ++ ys) (words_of_values net.format free words) ∙ start-split k zs l c.quiet in (
        values_for net.format free,
        values_fit net.format free (free_registers net) (omega (arith, length-drop k zs, c.many)),
        (h.1, h.2, h.3, subst (λ (ys : List ℤ). Cycles (runs_of net) ys h.1) (sym e) c),
      );
}
