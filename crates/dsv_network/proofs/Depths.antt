-- A gain is found again by as many samples as its depth, and one more.
use Rattle.std.proofs.Common.{◌≡◌, ℕ, zero, suc, ◌+◌, ◌≤◌, Bool, true, false, arith, List, length, refl, ap}
use Rattle.std.specs.Prelude.{Option, Some, None}
use Rattle.dsv_network.specs.declared.signal.Signal.{Signal}
use Rattle.dsv_linear.specs.declared.range.Range.{Range}
use Rattle.dsv_network.specs.declared.pass.Pass.{Pass}
use Rattle.dsv_network.specs.declared.outlook.Gain.{Gain}
use Rattle.dsv_network.specs.declared.outlook.Outlook.{Outlook}
use Rattle.dsv_network.specs.declared.outlook.Outlook.TheVariants as outlook
use Rattle.dsv_network.specs.declared.ends.Ends.{Ends}
use Rattle.dsv_network.specs.declared.ends.Ends.TheVariants as shown
use Rattle.dsv_network.specs.declared.search.Search.{Search}
use Rattle.dsv_network.specs.Samples.{pass_ends, after_pass}
use Rattle.dsv_network.specs.Gains.{hulls, hulls_after, has_settled, best_or, gain_at, search, step_turn, run_turn, turn_outlook, gain_from, start_pass, gain_of}
use Rattle.dsv_network.specs.Laws.{GainsAreFoundAgain}
use Rattle.dsv_network.proofs.Finds.{same_gain}

-- ---- how deep
-- a gain has the depth of the best so far, or one from this sample on
abbrev pub DepthFrom : ℕ → Option Gain → Gain → Type 0
DepthFrom sample None gain = sample ≤ gain.depth
DepthFrom sample (Some best) gain = best.depth ≡ gain.depth

best_deep : (other : Outlook) (sample : ℕ) (best : Option Gain) (gain : Gain) → (other ≡ outlook.Safe gain → ⊥) → best_or other best ≡ outlook.Safe gain → DepthFrom sample best gain
best_deep other sample None gain n h = absurd (n h)
best_deep other sample (Some g) gain n h = ap (λ (x : Gain). x.depth) (same_gain g gain h)

gain_deep : (sample : ℕ) (best : Option Gain) (ranges : List Range) (gain : Gain) → gain_at sample best ranges ≡ gain → DepthFrom sample best gain
gain_deep sample None ranges gain e = let f : sample ≡ gain.depth = ap (λ (x : Gain). x.depth) e in omega (arith, f)
gain_deep sample (Some g) ranges gain e = ap (λ (x : Gain). x.depth) e

kept_deep : (sample : ℕ) (best : Option Gain) (ranges : List Range) (gain : Gain) → DepthFrom (suc sample) (Some (gain_at sample best ranges)) gain → DepthFrom sample best gain
kept_deep sample None ranges gain e = omega (arith, e)
kept_deep sample (Some g) ranges gain e = e

later_deep : (sample : ℕ) (best : Option Gain) (gain : Gain) → DepthFrom (suc sample) best gain → DepthFrom sample best gain
later_deep sample None gain h = omega (arith, h)
later_deep sample (Some g) gain h = h

step_deep : (settled : Bool) (sample : ℕ) (next : Search → Outlook) (pass : Pass) (seen : List Range) (best : Option Gain) (e : Ends) (gain : Gain)
    → ((s : Search) → next s ≡ outlook.Safe gain → DepthFrom (suc sample) s.best gain) → turn_outlook next (step_turn settled sample pass seen best e) ≡ outlook.Safe gain → DepthFrom sample best gain
step_deep settled sample next pass seen best (shown.Leaves value) gain rest h = later_deep sample best gain (rest (search pass seen best) h)
step_deep true sample next pass seen best (shown.Words last) gain rest h = gain_deep sample best (hulls seen last) gain (same_gain (gain_at sample best (hulls seen last)) gain h)
step_deep false sample next pass seen best (shown.Words last) gain rest h =
    kept_deep sample best (hulls seen last) gain (rest (search pass seen (Some (gain_at sample best (hulls seen last)))) h)

run_deep : (nodes : List Signal) (next : List ℕ) (sample : ℕ) (after : Search → Outlook) (s : Search) (e : Ends) (gain : Gain) → ((l : Search) → after l ≡ outlook.Safe gain → DepthFrom (suc sample) l.best gain)
    → turn_outlook after (run_turn sample s.seen s.best (λ seen. step_turn (has_settled nodes (after_pass nodes next s.pass)) sample (after_pass nodes next s.pass) seen s.best (pass_ends 0 nodes s.pass)) e) ≡ outlook.Safe gain → DepthFrom sample s.best gain
run_deep nodes next sample after s (shown.Leaves value) gain rest h = best_deep (outlook.Leaves sample value) sample s.best gain (λ q. absurd cc) h
run_deep nodes next sample after s (shown.Words now) gain rest h =
    step_deep (has_settled nodes (after_pass nodes next s.pass)) sample after (after_pass nodes next s.pass) (hulls_after s.seen now) s.best (pass_ends 0 nodes s.pass) gain rest h

pub deep_from : (nodes : List Signal) (next : List ℕ) (left sample : ℕ) (s : Search) (gain : Gain) → gain_from nodes next left sample s ≡ outlook.Safe gain → DepthFrom sample s.best gain
deep_from nodes next zero sample s gain h = best_deep outlook.Deep sample s.best gain (λ q. absurd cc) h
deep_from nodes next (suc left) sample s gain h =
    run_deep nodes next sample (gain_from nodes next left (suc sample)) s (pass_ends (length next) nodes s.pass) gain (λ l q. deep_from nodes next left (suc sample) l gain q) h

-- ---- found again
abbrev pub IsSafe : Outlook → Type 0
IsSafe found = (g : Gain) × (found ≡ outlook.Safe g)

-- before anything was found
abbrev pub unfound : Pass → Option (List Range) → Search
unfound pass seen = record { pass = pass; seen = seen; best = None }

step_again : (settled : Bool) (sample : ℕ) (next short : Search → Outlook) (pass : Pass) (seen : List Range) (e : Ends) (gain : Gain)
    → ((s : Search) → next s ≡ outlook.Safe gain → DepthFrom (suc sample) s.best gain)
    → ((s : Search) → sample ≡ gain.depth → short s ≡ best_or outlook.Deep s.best)
    → (next (unfound pass (Some seen)) ≡ outlook.Safe gain → IsSafe (short (unfound pass (Some seen))))
    → turn_outlook next (step_turn settled sample pass seen None e) ≡ outlook.Safe gain → IsSafe (turn_outlook short (step_turn settled sample pass seen None e))
step_again settled sample next short pass seen (shown.Leaves value) gain deep last rest h = rest h
step_again true sample next short pass seen (shown.Words ranges) gain deep last rest h = (gain_at sample None (hulls seen ranges), refl)
step_again false sample next short pass seen (shown.Words ranges) gain deep last rest h =
    let new = gain_at sample None (hulls seen ranges) in
    let s = search pass seen (Some new) in
    (new, last s (deep s h))

pub no_leaving : (sample value : ℕ) (gain : Gain) → outlook.Leaves sample value ≡ outlook.Safe gain → ⊥
no_leaving sample value gain h = cc

pub not_deep : (gain : Gain) → outlook.Deep ≡ outlook.Safe gain → ⊥
not_deep gain h = cc

run_again : (nodes : List Signal) (next : List ℕ) (sample : ℕ) (after short : Search → Outlook) (pass : Pass) (seen : Option (List Range)) (e : Ends) (gain : Gain)
    → ((s : Search) → after s ≡ outlook.Safe gain → DepthFrom (suc sample) s.best gain)
    → ((s : Search) → sample ≡ gain.depth → short s ≡ best_or outlook.Deep s.best)
    → ((pass : Pass) (seen : List Range) → after (unfound pass (Some seen)) ≡ outlook.Safe gain → IsSafe (short (unfound pass (Some seen))))
    → turn_outlook after (run_turn sample seen None (λ all. step_turn (has_settled nodes (after_pass nodes next pass)) sample (after_pass nodes next pass) all None (pass_ends 0 nodes pass)) e) ≡ outlook.Safe gain
    → IsSafe (turn_outlook short (run_turn sample seen None (λ all. step_turn (has_settled nodes (after_pass nodes next pass)) sample (after_pass nodes next pass) all None (pass_ends 0 nodes pass)) e))
run_again nodes next sample after short pass seen (shown.Leaves value) gain deep last rest h = absurd (no_leaving sample value gain h)
run_again nodes next sample after short pass seen (shown.Words now) gain deep last rest h =
    step_again (has_settled nodes (after_pass nodes next pass)) sample after short (after_pass nodes next pass) (hulls_after seen now) (pass_ends 0 nodes pass) gain deep last
    (rest (after_pass nodes next pass) (hulls_after seen now)) h

-- no sample is left where the depth is reached
last_of : (nodes : List Signal) (next : List ℕ) (sample k : ℕ) (gain : Gain) (s : Search) → gain.depth + 1 ≡ sample + suc k → sample ≡ gain.depth → gain_from nodes next k (suc sample) s ≡ best_or outlook.Deep s.best
last_of nodes next sample zero gain s e f = refl
last_of nodes next sample (suc k) gain s e f = absurd (omega (arith, e, f))

again_from : (nodes : List Signal) (next : List ℕ) (left sample k : ℕ) (pass : Pass) (seen : Option (List Range)) (gain : Gain) → gain.depth + 1 ≡ sample + k
    → gain_from nodes next left sample (unfound pass seen) ≡ outlook.Safe gain → IsSafe (gain_from nodes next k sample (unfound pass seen))
again_from nodes next zero sample k pass seen gain e h = absurd (not_deep gain h)
again_from nodes next (suc left) sample zero pass seen gain e h =
    let d : sample ≤ gain.depth = deep_from nodes next (suc left) sample (unfound pass seen) gain h in absurd (omega (arith, d, e))
again_from nodes next (suc left) sample (suc k) pass seen gain e h =
    run_again nodes next sample (gain_from nodes next left (suc sample)) (gain_from nodes next k (suc sample)) pass seen (pass_ends (length next) nodes pass) gain
    (λ s q. deep_from nodes next left (suc sample) s gain q) (λ s f. last_of nodes next sample k gain s e f)
    (λ p all q. again_from nodes next left (suc sample) k p (Some all) gain (omega (arith, e)) q) h

pub found_again : GainsAreFoundAgain
unfolding gain_of
found_again net starts limit gain h =
    again_from net.nodes net.next limit 0 (suc gain.depth) (start_pass net starts) None gain (omega arith) h
