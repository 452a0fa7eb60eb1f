-- Cycles that were replayed, and those of systems that run alike.
use Rattle.std.proofs.Common.{◌≡◌, ℕ, List, arith, sym, map}
use Rattle.std.proofs.Math.IntN.{ℤ}
use Rattle.dsv_netlist.specs.Nodes.{Net}
use Rattle.dsv_netlist.specs.Systems.{system_of, runs_of}
use Rattle.dsv_meaning.specs.declared.replays.Cycle.{Cycle}
use Rattle.dsv_system.specs.Cycles.{Cycles, IsLeastPeriod, IsSounding}
use Rattle.dsv_system.specs.Runs.{SampleRow}
use Rattle.dsv_system.specs.Systems.{rows, zeros}
use Rattle.dsv_bounded.proofs.Agreeing.{cycle_agree}
use Rattle.dsv_bounded.specs.Questions.{IsStart}
use Rattle.dsv_bounded.specs.Verdicts.{IsCycleBy}

pub cycle_stands : (net : Net) (start ys : List ℤ) (period : ℕ) → IsStart net start → IsLeastPeriod (runs_of net) start period → IsSounding (runs_of net) start period
    → ys ≡ map (λ (r : SampleRow). r.y) (rows (system_of net) start (zeros period)) → IsCycleBy (runs_of net) period (record { start = start; period = period; outputs = ys })
cycle_stands net start ys period i l s e = record {
  cycles = record { many = i.many; quiet = i.quiet; words = i.words; returns = l.returns; sounding = s };
  least = l;
  within = omega arith;
  gives = sym e;
}

pub is_start : (net : Net) (start : List ℤ) (p : ℕ) → Cycles (runs_of net) start p → IsStart net start
is_start net start p c = record { many = c.many; quiet = c.quiet; words = c.words }
