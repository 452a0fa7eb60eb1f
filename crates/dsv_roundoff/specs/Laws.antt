-- What is true of exact runs, of netlists and of the written equations. A run over 0 says nothing:
-- the denominators that laws give are positive.
use Rattle.std.specs.Prelude.{◌≡◌, List, length, map, ℤ, pos, ◌*ℤ◌, ◌<ℤ◌}
use Rattle.std.specs.List.{All}
use Rattle.dsv_quantiser.specs.QuantisedView.{QuantisedView, IsQuantisedView}
use Rattle.dsv_system.specs.Breaks.{IsInside}
use Rattle.dsv_system.specs.Runs.{SampleRow}
use Rattle.dsv_system.specs.Systems.{rows, zeros}
use Rattle.dsv_meaning.specs.Systems.{equations_of, outputs_over}
use Rattle.dsv_netlist.specs.Nodes.{Net, at}
use Rattle.dsv_netlist.specs.Systems.{system_of}
use Rattle.dsv_realise.specs.Netlists.{net_of}
use Rattle.dsv_roundoff.specs.Exact.{RunsExactly}
use Rattle.dsv_roundoff.specs.Differences.{RunsApart, differences, run_differences}
use Rattle.dsv_roundoff.specs.Written.{RunsAsWritten}

-- over any inputs there is an exact run from registers of zeros, over some denominator
abbrev pub RunsExist : Type 0
RunsExist = (net : Net) (xs : List ℤ) → (d : ℤ) × (samples : List (List ℤ)) × (pos 0 <ℤ d)
    × RunsExactly net d (zeros (length net.next)) xs samples

-- numbers, each times this
abbrev pub scaled : ℤ → List ℤ → List ℤ
scaled s values = map (λ v. s *ℤ v) values

-- over all denominators the exact runs have the same values
abbrev pub RunsAreOne : Type 0
RunsAreOne = (net : Net) (xs : List ℤ) (d e : ℤ) (samples others : List (List ℤ))
    → RunsExactly net d (zeros (length net.next)) xs samples
    → RunsExactly net e (zeros (length net.next)) xs others
    → map (scaled e) samples ≡ map (scaled d) others

-- where all exact values of a run from registers of zeros are words, its differences from the exact
-- run are 0 in the registers and obey the linear step
abbrev pub DifferencesObeyTheStep : Type 0
DifferencesObeyTheStep = (net : Net) (xs : List ℤ)
    → All (IsInside net.format) (rows (system_of net) (zeros (length net.next)) xs)
    → (d : ℤ) (samples : List (List ℤ)) → RunsExactly net d (zeros (length net.next)) xs samples
    → RunsApart net d (zeros (length net.next))
    (run_differences net d (zeros (length net.next)) xs samples)

-- the values of the output's node
abbrev pub outputs_of : Net → List (List ℤ) → List ℤ
outputs_of net samples = map (λ values. at values net.output) samples

-- at the output's node the differences are those of the outputs from the exact run's
abbrev pub OutputsDiffer : Type 0
OutputsDiffer = (net : Net) (xs : List ℤ) (d : ℤ) (samples : List (List ℤ))
    → RunsExactly net d (zeros (length net.next)) xs samples
    → outputs_of net (run_differences net d (zeros (length net.next)) xs samples)
    ≡ differences d (map (λ (r : SampleRow). r.y)
    (rows (system_of net) (zeros (length net.next)) xs)) (outputs_of net samples)

-- the exact run of a controller's netlist has the outputs of that of the written equations
abbrev pub ExactRunsAreWritten : Type 0
ExactRunsAreWritten = (q : QuantisedView) → IsQuantisedView q
    → (xs : List ℤ) (d : ℤ) (samples : List (List ℤ))
    → RunsExactly (net_of q) d (zeros (length (net_of q).next)) xs samples
    → RunsAsWritten q d xs (outputs_of (net_of q) samples)

-- over all denominators the exact runs of the written equations have the same outputs
abbrev pub WrittenRunsAreOne : Type 0
WrittenRunsAreOne = (q : QuantisedView) (xs : List ℤ) (d e : ℤ) (ys others : List ℤ)
    → RunsAsWritten q d xs ys → RunsAsWritten q e xs others → scaled e ys ≡ scaled d others

-- over any inputs there is an exact run of the written equations, over some denominator
abbrev pub WrittenRunsExist : Type 0
WrittenRunsExist = (q : QuantisedView) → IsQuantisedView q → (xs : List ℤ)
    → (d : ℤ) × (ys : List ℤ) × (pos 0 <ℤ d) × RunsAsWritten q d xs ys

-- and the outputs of each of them are those of an exact run of the controller's netlist
abbrev pub WrittenRunsAreExact : Type 0
WrittenRunsAreExact = (q : QuantisedView) → IsQuantisedView q
    → (xs : List ℤ) (d : ℤ) (ys : List ℤ) → RunsAsWritten q d xs ys
    → (e : ℤ) × (samples : List (List ℤ)) × (pos 0 <ℤ e)
    × RunsExactly (net_of q) e (zeros (length (net_of q).next)) xs samples
    × (scaled e ys ≡ scaled d (outputs_of (net_of q) samples))

-- What rounding does to the outputs of a controller over these inputs, where these over d are the
-- outputs of the exact run: they differ by what the linear step of its netlist gives, from
-- differences of 0 in the registers.
pub record StepGives (q : QuantisedView) (xs : List ℤ) (d : ℤ) (ys : List ℤ) : Type 0 where
  pub scale : ℤ
  pub samples : List (List ℤ)
  pub positive : pos 0 <ℤ scale
  pub apart : RunsApart (net_of q) scale (zeros (length (net_of q).next)) samples
  pub outputs : scaled d (outputs_of (net_of q) samples)
      ≡ scaled scale (differences d (outputs_over q (zeros (equations_of q).many) xs) ys)

-- where all exact values of a controller's run from registers of zeros are words, its outputs
-- differ so from those of the exact run of the written equations
abbrev pub ControllersRunApart : Type 0
ControllersRunApart = (q : QuantisedView) → IsQuantisedView q → (xs : List ℤ)
    → All (IsInside q.format) (rows (equations_of q) (zeros (equations_of q).many) xs)
    → (d : ℤ) (ys : List ℤ) → RunsAsWritten q d xs ys → StepGives q xs d ys
