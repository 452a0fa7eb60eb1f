-- What is found of a state-space controller by the table of its polynomial.
use Rattle.dsv_algebra.specs.Vectors.{matrix_of}
use Rattle.dsv_state_space.specs.StateForms.{one_of}
use Rattle.dsv_state_space.specs.StateView.{StateView, states}
use Rattle.dsv_system_table.specs.SystemFindings.{IsSystemFinding}
use Rattle.dsv_table.specs.declared.finding.TableFinding.{TableFinding}

-- The finding is that of the controller's states without input: with A in words a step is A divided
-- by the word of 1.
abbrev pub IsStateFinding : StateView → TableFinding → Type 0
IsStateFinding s = IsSystemFinding (states s) (one_of s) (matrix_of s.a)
