-- The sample that comes as many samples as the depth after any registers in their starts.
use Rattle.std.proofs.Common.{◌≡◌, ℕ, zero, suc, ◌+◌, Bool, true, false, arith, List, [], length, refl, subst, ap}
use Rattle.std.specs.Prelude.{Option, Some, None}
use Rattle.dsv_linear.specs.declared.range.Range.{Range}
use Rattle.dsv_network.specs.declared.network.Network.{Network}
use Rattle.dsv_network.specs.declared.pass.Pass.{Pass}
use Rattle.dsv_network.specs.declared.outlook.Gain.{Gain}
use Rattle.dsv_network.specs.declared.outlook.Outlook.{Outlook}
use Rattle.dsv_network.specs.declared.outlook.Outlook.TheVariants as outlook
use Rattle.dsv_network.specs.declared.ends.Ends.{Ends}
use Rattle.dsv_network.specs.declared.ends.Ends.TheVariants as shown
use Rattle.dsv_network.specs.declared.search.Search.{Search}
use Rattle.dsv_network.specs.Samples.{ranges_in, pass_ends, after_pass}
use Rattle.dsv_network.specs.Gains.{hulls, hulls_after, has_settled, gain_at, search, step_turn, run_turn, turn_outlook, gain_from, start_pass, gain_of}
use Rattle.dsv_network.specs.Runs.{shown_in}
use Rattle.dsv_network.specs.Laws.{AreFit, DepthsForgetStarts}
use Rattle.dsv_network.proofs.Values.{lie_fits}
use Rattle.dsv_network.proofs.SampleRanges.{later_words}
use Rattle.dsv_network.proofs.Passes.{not_below, next_has}
use Rattle.dsv_network.proofs.Symbols.{registers_stand}
use Rattle.dsv_network.proofs.Finds.{same_gain}
use Rattle.dsv_network.proofs.Depths.{DepthFrom, unfound, deep_from, no_leaving, not_deep}

-- ---- what the search shows at the depth
-- after so many samples more, from any words in the registers, the ranges are those of words
record ShowsAt (net : Network) (pass : Pass) (sample : ℕ) (gain : Gain) : Type 0 where
  after : ℕ
  last : List Range
  deep : sample + after ≡ gain.depth
  shows : later_words 0 net after pass ≡ Some last

later_shows : (net : Network) (pass : Pass) (sample : ℕ) (gain : Gain) → ShowsAt net (after_pass net.nodes net.next pass) (suc sample) gain → ShowsAt net pass sample gain
later_shows net pass sample gain h = record { after = suc h.after; last = h.last; deep = let d = h.deep in omega (arith, d); shows = h.shows }

here_shows : (net : Network) (pass : Pass) (sample : ℕ) (gain : Gain) (last : List Range) → pass_ends 0 net.nodes pass ≡ shown.Words last → sample ≡ gain.depth → ShowsAt net pass sample gain
here_shows net pass sample gain last p e = record { after = 0; last = last; deep = omega (arith, e); shows = ap ranges_in p }

step_shows : (net : Network) (settled : Bool) (sample : ℕ) (next : Search → Outlook) (pass : Pass) (seen : List Range) (e : Ends) (gain : Gain) → pass_ends 0 net.nodes pass ≡ e
    → ((s : Search) → next s ≡ outlook.Safe gain → DepthFrom (suc sample) s.best gain)
    → ((p : Pass) (all : List Range) → next (unfound p (Some all)) ≡ outlook.Safe gain → ShowsAt net p (suc sample) gain)
    → turn_outlook next (step_turn settled sample (after_pass net.nodes net.next pass) seen None e) ≡ outlook.Safe gain → ShowsAt net pass sample gain
step_shows net settled sample next pass seen (shown.Leaves value) gain p deep rest h = later_shows net pass sample gain (rest (after_pass net.nodes net.next pass) seen h)
step_shows net true sample next pass seen (shown.Words last) gain p deep rest h =
    here_shows net pass sample gain last p (ap (λ (x : Gain). x.depth) (same_gain (gain_at sample None (hulls seen last)) gain h))
step_shows net false sample next pass seen (shown.Words last) gain p deep rest h =
    here_shows net pass sample gain last p (deep (search (after_pass net.nodes net.next pass) seen (Some (gain_at sample None (hulls seen last)))) h)

run_shows : (net : Network) (sample : ℕ) (next : Search → Outlook) (pass : Pass) (seen : Option (List Range)) (e : Ends) (gain : Gain)
    → ((s : Search) → next s ≡ outlook.Safe gain → DepthFrom (suc sample) s.best gain)
    → ((p : Pass) (all : List Range) → next (unfound p (Some all)) ≡ outlook.Safe gain → ShowsAt net p (suc sample) gain)
    → turn_outlook next (run_turn sample seen None (λ all. step_turn (has_settled net.nodes (after_pass net.nodes net.next pass)) sample (after_pass net.nodes net.next pass) all None (pass_ends 0 net.nodes pass)) e) ≡ outlook.Safe gain
    → ShowsAt net pass sample gain
run_shows net sample next pass seen (shown.Leaves value) gain deep rest h = absurd (no_leaving sample value gain h)
run_shows net sample next pass seen (shown.Words now) gain deep rest h =
    step_shows net (has_settled net.nodes (after_pass net.nodes net.next pass)) sample next pass (hulls_after seen now) (pass_ends 0 net.nodes pass) gain refl deep rest h

shows_from : (net : Network) (left sample : ℕ) (pass : Pass) (seen : Option (List Range)) (gain : Gain) → gain_from net.nodes net.next left sample (unfound pass seen) ≡ outlook.Safe gain → ShowsAt net pass sample gain
shows_from net zero sample pass seen gain h = absurd (not_deep gain h)
shows_from net (suc left) sample pass seen gain h =
    run_shows net sample (gain_from net.nodes net.next left (suc sample)) pass seen (pass_ends (length net.next) net.nodes pass) gain
    (λ s q. deep_from net.nodes net.next left (suc sample) s gain q) (λ p all q. shows_from net left (suc sample) p (Some all) gain q) h

depth_shows : (net : Network) (starts : List Range) (limit : ℕ) (gain : Gain) → gain_of net starts limit ≡ outlook.Safe gain → (last : List Range) × (later_words 0 net gain.depth (start_pass net starts) ≡ Some last)
unfolding gain_of
depth_shows net starts limit gain h =
    let s = shows_from net limit 0 (start_pass net starts) None gain h in
    let d = s.deep in
    let same : s.after ≡ gain.depth = omega (arith, d) in
    (s.last, subst (λ (n : ℕ). later_words 0 net n (start_pass net starts) ≡ Some s.last) same s.shows)

-- ---- the law
pub depths_forget : DepthsForgetStarts
depths_forget net starts limit gain e long over o registers samples inside given fit =
    let s = depth_shows net starts limit gain e in
    let up = not_below over o in
    next_has 0 net over (AreFit net over) gain.depth samples (start_pass net starts) registers s.0 (λ values q. q) (λ values q. lie_fits over net.format s.0 (shown_in [] net.nodes values) up q) s.1 given
    (registers_stand 0 net over starts registers o inside long (omega arith) (λ j l. absurd (omega arith))) fit
