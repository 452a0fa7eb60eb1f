-- The steps of a log, one after another.
use Rattle.std.proofs.Common.{ℕ, List, Result}
use Rattle.dsv_hints.specs.declared.step.Step.{Step}
use Rattle.dsv_lines.specs.Readings.{Reading}
use Rattle.dsv_lines.specs.Pieces.{LinesLeft}
use Rattle.dsv_certfile.specs.Steps.{steps_from}
use Rattle.dsv_certfile.specs.declared.fault.TextRefusal.{TextRefusal}

-- the steps of what is left
abbrev pub steps_left : List ℕ → List Step → LinesLeft → Result (Reading (List Step)) TextRefusal
steps_left word steps ls = steps_from word steps ls.number ls.lines
