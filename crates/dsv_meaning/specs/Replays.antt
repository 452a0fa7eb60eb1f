-- What a replay of a run answers.
use Rattle.std.specs.Prelude.{ℕ, Bool, ℤ}
use Rattle.dsv_meaning.specs.declared.replays.OverflowReplay.{OverflowReplay}
use Rattle.dsv_meaning.specs.declared.replays.OverflowReplay.TheVariants as overflow
use Rattle.dsv_meaning.specs.declared.replays.CycleReplay.{CycleReplay}
use Rattle.dsv_meaning.specs.declared.replays.CycleReplay.TheVariants as cycle

-- where an exact value is no word, this is true of the sample, the value's number and the value
abbrev pub IfBreaks : OverflowReplay → (ℕ → ℕ → ℤ → Type 0) → Type 0
IfBreaks (overflow.Breaks sample value exact) P = P sample value exact
IfBreaks overflow.Clean P = Unit {0}

abbrev pub IfUnbroken : OverflowReplay → Type 0 → Type 0
IfUnbroken (overflow.Breaks sample value exact) P = Unit {0}
IfUnbroken overflow.Clean P = P

-- where the start comes back, this is true of the period and of whether an output isn't 0
abbrev pub IfReturns : CycleReplay → (ℕ → Bool → Type 0) → Type 0
IfReturns (cycle.Returns period sounding) P = P period sounding
IfReturns cycle.Clean P = Unit {0}

abbrev pub IfGone : CycleReplay → Type 0 → Type 0
IfGone (cycle.Returns period sounding) P = Unit {0}
IfGone cycle.Clean P = P
