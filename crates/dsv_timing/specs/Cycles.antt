-- What a sample takes, and the time that it has.
use Rattle.std.specs.Prelude.{◌≡◌, ℕ, ◌+◌, ◌*◌, pos, ◌*ℤ◌, ◌≤ℤ◌}
use Rattle.dsv_fraction.specs.Ratio.{Ratio}
use Rattle.dsv_netlist.specs.declared.netlist.OpCounts.{OpCounts}
use Rattle.dsv_reader.specs.Controllers.{ControllerView}
use Rattle.dsv_reader.specs.declared.costs.Costs.{Costs}
use Rattle.dsv_timing.specs.declared.work.TimingReport.{TimingReport}

-- Each product is multiplied and rounded, each sum is added, the result of each operation is fitted
-- into a word, and each register is loaded; a sample has a cost of its own.
abbrev pub cycles_of : OpCounts → Costs → ℕ
cycles_of counts costs = costs.sample
    + costs.mul * counts.products + costs.round * counts.products
    + costs.add * counts.sums + costs.fit * (counts.products + counts.sums)
    + costs.moves * counts.moves

-- cycles / clock is at most the time between two samples
abbrev pub IsInTime : ℕ → ℕ → Ratio → Type 0
IsInTime cycles clock time = pos (cycles * time.den) ≤ℤ (pos clock *ℤ time.num)

-- These counts of operations, the cycles that they cost, and the clock and the time between two
-- samples as the controller's file gives them.
pub record IsTimingOf (c : ControllerView) (operations : OpCounts) (report : TimingReport) : Type 0
  where
    pub counts : report.counts ≡ operations
    pub cycles : report.cycles ≡ cycles_of report.counts c.costs
    pub clock : report.clock ≡ c.clock
    pub sample_time : report.sample_time ≡ c.sample_time

-- the cycles are done within the time between two samples
abbrev pub IsOnTime : TimingReport → Type 0
IsOnTime report = IsInTime report.cycles report.clock report.sample_time
