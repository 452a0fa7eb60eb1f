use Rattle.std.proofs.Common.{◌≡◌}
use Rattle.dsv_certfile.specs.Keywords.{keyword_text}
use Rattle.dsv_certfile.specs.Steps.{log_in}
use Rattle.dsv_lines.proofs.LineCounts.{line_count}
use Rattle.dsv_certfile.proofs.StepLemmas.{steps_left}
use Rattle.dsv_certfile.proofs.steps.read_log.Given as goal

abbrev pub invariant-steps : goal.invariant-steps
invariant-steps l = steps_left (keyword_text l.word) l.log l.lines ≡ log_in l.word l.fn.lines

abbrev pub decreases-steps : goal.decreases-steps
decreases-steps l = line_count l.lines.lines
