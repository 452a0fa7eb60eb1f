use Rattle.dsv_lines.proofs.LineCounts.{fewer_lines}
use Rattle.dsv_certfile.proofs.steps.read_log.Goals as goal

pub steps-smaller : goal.steps-smaller
steps-smaller c = fewer_lines c.steps.lines c.next_line.new.lines c.in_ok-line.line.text.now c.in_ok-line.line.number c.in_ok-line.ensures.0
