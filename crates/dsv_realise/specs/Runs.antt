-- What a run of a subject says.
use Rattle.std.specs.Prelude.{◌≡◌, ℕ, List, ℤ}
use Rattle.std.specs.List.{All}
use Rattle.dsv_word.specs.Words.{IsWord}
use Rattle.dsv_meaning.specs.Traces.{IsTraceBy}
use Rattle.dsv_meaning.specs.declared.replays.Trace.{Trace}
use Rattle.dsv_system.specs.Runs.{SampleRow}
use Rattle.dsv_system.specs.Systems.{zeros}
use Rattle.dsv_realise.specs.SubjectView.{SubjectView}

-- the rows over these inputs from registers of zeros
abbrev pub rows_of : SubjectView → List ℤ → List SampleRow
rows_of a inputs = a.runs.rows (zeros a.runs.many) inputs

-- the trace replays, with at most so many samples
abbrev pub IsTrace : SubjectView → ℕ → Trace → Type 0
IsTrace a samples trace = IsTraceBy a.runs a.low a.high samples trace

-- All inputs are words of the format, and these are the rows of the subject's equations over them,
-- from registers of zeros.
pub record IsRunOver (s : SubjectView) (inputs : List ℤ) (found : List SampleRow) : Type 0 where
  pub inputs_are_words : All (IsWord s.runs.format) inputs
  pub rows : found ≡ rows_of s inputs
