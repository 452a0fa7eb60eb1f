-- A gain is the ranges of a pass.
use Rattle.std.proofs.Common.{◌≡◌, ℕ, zero, suc, ◌+◌, ◌<◌, ◌≤◌, inl, inr, ◌⊎◌, Bool, true, false, arith, zero-add, List, length, refl, sym, subst, ap, ◌∙◌}
use Rattle.std.specs.Prelude.{Option, Some, None, IfSome}
use Rattle.dsv_linear.specs.declared.range.Range.{Range}
use Rattle.dsv_linear.specs.Forms.{◌>>=◌}
use Rattle.dsv_network.specs.declared.signal.Signal.{Signal}
use Rattle.dsv_network.specs.declared.network.Network.{Network}
use Rattle.dsv_network.specs.declared.pass.Pass.{Pass}
use Rattle.dsv_network.specs.declared.outlook.Gain.{Gain}
use Rattle.dsv_network.specs.declared.outlook.Outlook.{Outlook}
use Rattle.dsv_network.specs.declared.outlook.Outlook.TheVariants as outlook
use Rattle.dsv_network.specs.declared.ends.Ends.{Ends}
use Rattle.dsv_network.specs.declared.ends.Ends.TheVariants as shown
use Rattle.dsv_network.specs.declared.search.Search.{Search}
use Rattle.dsv_network.specs.Samples.{ranges_in, pass_ends, after_pass}
use Rattle.dsv_network.specs.Gains.{hulls, hulls_after, has_settled, best_or, gain_at, search, step_turn, run_turn, turn_outlook, gain_from, start_pass, first_search, gain_of}
use Rattle.dsv_network.specs.Laws.{GainsHold, IsWithin, GainsAreWithin}
use Rattle.dsv_network.proofs.SampleRanges.{pass_words, run_ends}
use Rattle.dsv_network.proofs.Holding.{IsPassed, HoldAlways, passed_hold, hold_always}

-- ---- what the search finds
none_some : (gain : Gain) → None ≡ Some gain → ⊥
none_some gain e = cc

some_same : (g gain : Gain) → Some g ≡ Some gain → g ≡ gain
some_same g gain e = cc

-- the best so far is the gain, where the other answer is none
best_cases : (other : Outlook) (best : Option Gain) (gain : Gain) → (other ≡ outlook.Safe gain → ⊥) → best_or other best ≡ outlook.Safe gain → best ≡ Some gain
best_cases other None gain n h = absurd (n h)
best_cases other (Some g) gain n h = let same : g ≡ gain = cc in ap (λ (x : Gain). Some x) same

-- the pass has ranges of words after so many samples, for runs from registers of zeros, where the
-- start's symbols are 0, and after any words in the registers
record Finds (net : Network) (pass : Pass) (seen : Option (List Range)) (gain : Gain) : Type 0 where
  samples : ℕ
  shown : IsPassed net samples pass seen gain.ranges

-- one sample before
later : (net : Network) (pass : Pass) (seen : Option (List Range)) (now : List Range) (gain : Gain) → pass_words (length net.next) net.nodes pass ≡ Some now
    → Finds net (after_pass net.nodes net.next pass) (Some (hulls_after seen now)) gain → Finds net pass seen gain
later net pass seen now gain e h = record {
  samples = suc h.samples;
  shown = record {
    all = h.shown.all;
    last = h.shown.last;
    run_is = ap (λ (o : Option (List Range)). o >>= λ rs. run_ends (length net.next) net h.samples (after_pass net.nodes net.next pass) (Some (hulls_after seen rs))) e ∙ h.shown.run_is;
    step_is = h.shown.step_is;
    ranges_are = h.shown.ranges_are;
  };
}

ranges_at : (sample : ℕ) (best : Option Gain) (ranges : List Range) → (gain_at sample best ranges).ranges ≡ ranges
ranges_at sample None ranges = refl
ranges_at sample (Some gain) ranges = refl

-- the gain of this sample
here : (net : Network) (pass : Pass) (seen : Option (List Range)) (now last : List Range) (sample : ℕ) (best : Option Gain) (gain : Gain) → pass_words (length net.next) net.nodes pass ≡ Some now → pass_words 0 net.nodes pass ≡ Some last
    → gain_at sample best (hulls (hulls_after seen now) last) ≡ gain → Finds net pass seen gain
here net pass seen now last sample best gain e p h = record {
  samples = 0;
  shown = record {
    all = hulls_after seen now;
    last = last;
    run_is = ap (λ (o : Option (List Range)). o >>= λ rs. Some (hulls_after seen rs)) e;
    step_is = p;
    ranges_are = sym (ranges_at sample best (hulls (hulls_after seen now) last)) ∙ ap (λ (x : Gain). x.ranges) h;
  };
}

-- it was the best so far, or is found from here on
abbrev FindsOr : Network → Pass → Option (List Range) → Option Gain → Gain → Type 0
FindsOr net pass seen best gain = (best ≡ Some gain) ⊎ Finds net pass seen gain

pub same_gain : (g gain : Gain) → outlook.Safe g ≡ outlook.Safe gain → g ≡ gain
same_gain g gain e = cc

step_finds : (net : Network) (settled : Bool) (sample : ℕ) (next : Search → Outlook) (pass : Pass) (seen : Option (List Range)) (now : List Range) (best : Option Gain) (e : Ends) (gain : Gain) → pass_words (length net.next) net.nodes pass ≡ Some now
    → pass_ends 0 net.nodes pass ≡ e → ((s : Search) → next s ≡ outlook.Safe gain → FindsOr net s.pass s.seen s.best gain)
    → turn_outlook next (step_turn settled sample (after_pass net.nodes net.next pass) (hulls_after seen now) best e) ≡ outlook.Safe gain → FindsOr net pass seen best gain
step_finds net settled sample next pass seen now best (shown.Leaves value) gain e p rest h =
    elim (rest (search (after_pass net.nodes net.next pass) (hulls_after seen now) best) h) [
      | inl q ↦ inl q
      | inr f ↦ inr (later net pass seen now gain e f)
    ]
step_finds net true sample next pass seen now best (shown.Words last) gain e p rest h = inr (here net pass seen now last sample best gain e (ap ranges_in p) (same_gain (gain_at sample best (hulls (hulls_after seen now) last)) gain h))
step_finds net false sample next pass seen now best (shown.Words last) gain e p rest h =
    let new = gain_at sample best (hulls (hulls_after seen now) last) in
    elim (rest (search (after_pass net.nodes net.next pass) (hulls_after seen now) (Some new)) h) [
      | inl q ↦ inr (here net pass seen now last sample best gain e (ap ranges_in p) (some_same new gain q))
      | inr f ↦ inr (later net pass seen now gain e f)
    ]

run_finds : (net : Network) (sample : ℕ) (next : Search → Outlook) (s : Search) (e : Ends) (gain : Gain) → pass_ends (length net.next) net.nodes s.pass ≡ e → ((l : Search) → next l ≡ outlook.Safe gain → FindsOr net l.pass l.seen l.best gain)
    → turn_outlook next (run_turn sample s.seen s.best (λ seen. step_turn (has_settled net.nodes (after_pass net.nodes net.next s.pass)) sample (after_pass net.nodes net.next s.pass) seen s.best (pass_ends 0 net.nodes s.pass)) e) ≡ outlook.Safe gain
    → FindsOr net s.pass s.seen s.best gain
run_finds net sample next s (shown.Leaves value) gain p rest h = inl (best_cases (outlook.Leaves sample value) s.best gain (λ q. absurd cc) h)
run_finds net sample next s (shown.Words now) gain p rest h =
    step_finds net (has_settled net.nodes (after_pass net.nodes net.next s.pass)) sample next s.pass s.seen now s.best (pass_ends 0 net.nodes s.pass) gain (ap ranges_in p) refl rest h

finds : (net : Network) (left sample : ℕ) (s : Search) (gain : Gain) → gain_from net.nodes net.next left sample s ≡ outlook.Safe gain → FindsOr net s.pass s.seen s.best gain
finds net zero sample s gain h = inl (best_cases outlook.Deep s.best gain (λ q. absurd cc) h)
finds net (suc left) sample s gain h = run_finds net sample (gain_from net.nodes net.next left (suc sample)) s (pass_ends (length net.next) net.nodes s.pass) gain refl (λ l q. finds net left (suc sample) l gain q) h

-- ---- the law
gain_passed : (net : Network) (starts : List Range) (limit : ℕ) (gain : Gain) → gain_of net starts limit ≡ outlook.Safe gain → Finds net (start_pass net starts) None gain
unfolding gain_of
gain_passed net starts limit gain e =
    elim (finds net limit 0 (first_search net starts) gain e) [
      | inl q ↦ absurd (none_some gain q)
      | inr d ↦ d
    ]

pub gain_holds : (net : Network) (starts : List Range) (limit : ℕ) (gain : Gain) → gain_of net starts limit ≡ outlook.Safe gain → HoldAlways net starts gain.ranges
gain_holds net starts limit gain e =
    let d = gain_passed net starts limit gain e in
    passed_hold net starts d.samples gain.ranges d.shown

pub gains_hold : GainsHold
gains_hold net starts limit gain e = hold_always net starts gain.ranges (gain_holds net starts limit gain e)

-- ---- the samples of a gain
gain_within : (sample : ℕ) (best : Option Gain) (ranges : List Range) → IfSome best (IsWithin sample) → IsWithin (suc sample) (gain_at sample best ranges)
gain_within sample None ranges b = (omega arith, omega arith)
gain_within sample (Some gain) ranges b = (omega arith, omega arith)

within_more : (m n : ℕ) (gain : Gain) → m ≤ n → IsWithin m gain → IsWithin n gain
within_more m n gain l w = (w.0, omega arith)

some_within : (m n : ℕ) (best : Option Gain) → m ≤ n → IfSome best (IsWithin m) → IfSome best (IsWithin n)
some_within m n None l w = tt
some_within m n (Some g) l w = within_more m n g l w

best_within : (m n : ℕ) (best : Option Gain) (gain : Gain) → m ≤ n → IfSome best (IsWithin m) → best ≡ Some gain → IsWithin n gain
best_within m n None gain l w e = absurd (none_some gain e)
best_within m n (Some g) gain l w e = subst (IsWithin n) (some_same g gain e) (within_more m n g l w)

step_within : (settled : Bool) (sample n : ℕ) (next : Search → Outlook) (pass : Pass) (seen : List Range) (best : Option Gain) (e : Ends) (gain : Gain) → sample < n → IfSome best (IsWithin sample)
    → ((s : Search) → IfSome s.best (IsWithin (suc sample)) → next s ≡ outlook.Safe gain → IsWithin n gain) → turn_outlook next (step_turn settled sample pass seen best e) ≡ outlook.Safe gain → IsWithin n gain
step_within settled sample n next pass seen best (shown.Leaves value) gain l b rest h = rest (search pass seen best) (some_within sample (suc sample) best (omega arith) b) h
step_within true sample n next pass seen best (shown.Words last) gain l b rest h =
    let new = gain_at sample best (hulls seen last) in
    subst (IsWithin n) (same_gain new gain h) (within_more (suc sample) n new l (gain_within sample best (hulls seen last) b))
step_within false sample n next pass seen best (shown.Words last) gain l b rest h =
    rest (search pass seen (Some (gain_at sample best (hulls seen last)))) (gain_within sample best (hulls seen last) b) h

run_within : (nodes : List Signal) (next : List ℕ) (sample n : ℕ) (after : Search → Outlook) (s : Search) (e : Ends) (gain : Gain) → sample < n → IfSome s.best (IsWithin sample)
    → ((l : Search) → IfSome l.best (IsWithin (suc sample)) → after l ≡ outlook.Safe gain → IsWithin n gain)
    → turn_outlook after (run_turn sample s.seen s.best (λ seen. step_turn (has_settled nodes (after_pass nodes next s.pass)) sample (after_pass nodes next s.pass) seen s.best (pass_ends 0 nodes s.pass)) e) ≡ outlook.Safe gain → IsWithin n gain
run_within nodes next sample n after s (shown.Leaves value) gain l b rest h = best_within sample n s.best gain (omega arith) b (best_cases (outlook.Leaves sample value) s.best gain (λ q. absurd cc) h)
run_within nodes next sample n after s (shown.Words now) gain l b rest h =
    step_within (has_settled nodes (after_pass nodes next s.pass)) sample n after (after_pass nodes next s.pass) (hulls_after s.seen now) s.best (pass_ends 0 nodes s.pass) gain l b rest h

within_from : (nodes : List Signal) (next : List ℕ) (left sample n : ℕ) (s : Search) (gain : Gain) → sample + left ≡ n → IfSome s.best (IsWithin sample) → gain_from nodes next left sample s ≡ outlook.Safe gain → IsWithin n gain
within_from nodes next zero sample n s gain e b h = best_within sample n s.best gain (omega arith) b (best_cases outlook.Deep s.best gain (λ q. absurd cc) h)
within_from nodes next (suc left) sample n s gain e b h =
    run_within nodes next sample n (gain_from nodes next left (suc sample)) s (pass_ends (length next) nodes s.pass) gain (omega arith) b (λ l c q. within_from nodes next left (suc sample) n l gain (omega arith) c q) h

pub gains_within : GainsAreWithin
unfolding gain_of
gains_within net starts limit gain e = within_from net.nodes net.next limit 0 limit (first_search net starts) gain (zero-add limit) tt e
