-- The exact run of a controller's netlist is that of the written equations.
use Rattle.std.proofs.Common.{◌≡◌, ℕ, List, [], ◌∷◌, length, map, subst}
use Rattle.std.proofs.Math.IntN.{ℤ, pos}
use Rattle.std.proofs.lemmas.List.{length-replicate}
use Rattle.dsv_word.specs.declared.format.Format.{Format}
use Rattle.dsv_quantiser.specs.QuantisedView.{QuantisedView, IsQuantisedView}
use Rattle.dsv_system.specs.Systems.{zeros}
use Rattle.dsv_netlist.specs.Nodes.{at}
use Rattle.dsv_meaning.specs.Equations.{order, Past, registers_as}
use Rattle.dsv_meaning.specs.Systems.{equations_of}
use Rattle.dsv_realise.specs.Netlists.{net_of}
use Rattle.dsv_realise.proofs.Conditions.{net_realised}
use Rattle.dsv_realise.proofs.Runs.{runs_alike, start_has}
use Rattle.dsv_realise.proofs.Sources.{sized}
use Rattle.dsv_realise.proofs.Steps.{HasRegisters}
use Rattle.dsv_roundoff.specs.Exact.{AreExactly, RunsExactly}
use Rattle.dsv_roundoff.specs.Written.{RunsFrom}
use Rattle.dsv_roundoff.specs.Laws.{ExactRunsAreWritten, outputs_of}
use Rattle.dsv_roundoff.proofs.ExactSamples.{AllHold, sample_with, sample_holds}
use Rattle.dsv_roundoff.proofs.ExactSteps.{IsWrittenAs, writes_as}

sample_written : (q : QuantisedView) (d : ℤ) (p : Past) (x : ℤ) (vs : List ℤ) → IsQuantisedView q → HasRegisters q.realisation (order q) p → AreExactly (net_of q).format d (registers_as q.realisation (order q) p) x [] (net_of q).nodes vs
    → IsWrittenAs q.realisation q d p x vs
sample_written q d p x vs z h a =
    let rs = registers_as q.realisation (order q) p in
    let all = sample_holds (net_of q).format d rs x (net_of q).nodes vs (net_realised q z).netlist.backwards a in
    writes_as q.realisation q d p x vs (sized q z) h (subst (λ (f : Format). AllHold (sample_with f d rs x vs) 0 (net_of q).nodes) (runs_alike q z).format all)

run_written : (q : QuantisedView) (d : ℤ) (p : Past) (rs xs : List ℤ) (samples : List (List ℤ)) → IsQuantisedView q → HasRegisters q.realisation (order q) p → rs ≡ registers_as q.realisation (order q) p → RunsExactly (net_of q) d rs xs samples
    → RunsFrom q d p xs (outputs_of (net_of q) samples)
run_written q d p rs [] [] z h e a = tt
run_written q d p rs [] (vs ∷ samples) z h e a = absurd a
run_written q d p rs (x ∷ xs) [] z h e a = absurd a
run_written q d p rs (x ∷ xs) (vs ∷ samples) z h e a =
    let here = subst (λ (us : List ℤ). AreExactly (net_of q).format d us x [] (net_of q).nodes vs) e a.0 in
    let g = sample_written q d p x vs z h here in
    (g.next, g.sample, run_written q d g.next (map (at vs) (net_of q).next) xs samples z g.good g.after a.1)

-- ---- the start

pub exact_runs_written : ExactRunsAreWritten
exact_runs_written q z xs d samples a =
    let same = runs_alike q z in
    let start = zeros (equations_of q).many in
    let many : length (net_of q).next ≡ (equations_of q).many = same.many in
    let long : length start ≡ (equations_of q).many = length-replicate (equations_of q).many (pos 0) in
    let rs : start ≡ registers_as q.realisation (order q) ((equations_of q).start start) = same.registers start [] long in
    run_written q d ((equations_of q).start start) start xs samples z (start_has q.realisation (order q) start long) rs
    (subst (λ (n : ℕ). RunsExactly (net_of q) d (zeros n) xs samples) many a)
