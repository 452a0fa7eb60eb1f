-- Questions about a subject's runs: whether a property happens within so many samples.
use Rattle.std.specs.Prelude.{ℕ, ◌*◌, ◌^◌, ◌≤◌}
use Rattle.dsv_cnf.specs.FormulaView.{FormulaView}
use Rattle.dsv_meaning.specs.declared.replays.Cycle.{Cycle}
use Rattle.dsv_names.specs.declared.property.RunProperty.{RunProperty}
use Rattle.dsv_names.specs.declared.property.RunProperty.TheVariants as run
use Rattle.dsv_realise.specs.SubjectView.{SubjectView}
use Rattle.dsv_unroll.specs.Goals.{most_size}
use Rattle.dsv_word.specs.Words.{width}
use Rattle.dsv_bounded.specs.Formulas.{net_overflow_formula_of, net_cycle_formula_of}
use Rattle.dsv_bounded.specs.Verdicts.{BreaksWithinBy, CyclesWithinBy, IsCycleBy}

-- some list of so many inputs in range breaks it
abbrev pub BreaksWithin : SubjectView → ℕ → Type 0
BreaksWithin s samples = BreaksWithinBy s.runs s.low s.high samples

-- the formula of that
abbrev pub overflow_formula_of : SubjectView → ℕ → FormulaView
overflow_formula_of s samples = net_overflow_formula_of s.net s.low s.high samples

-- some start has a limit cycle of a period up to this
abbrev pub CyclesWithin : SubjectView → ℕ → Type 0
CyclesWithin s periods = CyclesWithinBy s.runs periods

-- the start has a limit cycle of this period, which is its least and at most so many samples, and
-- these are the outputs of one period
abbrev pub IsCycle : SubjectView → ℕ → Cycle → Type 0
IsCycle s periods cycle = IsCycleBy s.runs periods cycle

-- the formula of a limit cycle of a period up to this
abbrev pub cycle_formula_of : SubjectView → ℕ → FormulaView
cycle_formula_of s periods = net_cycle_formula_of s.net periods

-- The property happens within so many samples: some list of so many inputs in range overflows, or
-- some start has a limit cycle of a period up to that.
abbrev pub Happens : RunProperty → SubjectView → ℕ → Type 0
Happens run.Overflow s samples = BreaksWithin s samples
Happens run.LimitCycle s samples = CyclesWithin s samples

-- the formula of the question whether it happens
abbrev pub question_formula : RunProperty → SubjectView → ℕ → FormulaView
question_formula run.Overflow s samples = overflow_formula_of s samples
question_formula run.LimitCycle s samples = cycle_formula_of s samples

-- how great a job over so many samples is: samples times products times the square of a word's bits
abbrev pub job_size_of : SubjectView → ℕ → ℕ
job_size_of s samples = samples * s.products * width s.runs.format ^ 2

-- the question is no larger than what is asked of formulas
abbrev pub IsWithin : SubjectView → ℕ → Type 0
IsWithin s samples = job_size_of s samples ≤ most_size
