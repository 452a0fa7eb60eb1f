use Rattle.std.proofs.Common.{◌≡◌, suc, ◌-◌, sym, ap, ◌∙◌, Err, rules, arith}
use Rattle.dsv_certfile.specs.Answers.{cert_refusal}
use Rattle.dsv_certfile.specs.Bodies.{range_in, lines_from}
use Rattle.dsv_certfile.proofs.BodyLemmas.{one_line, bad_line}
use Rattle.dsv_certfile.proofs.roundoff_reader.read_ranges.Goals as goal

pub returns-in_err-read_range : goal.returns-in_err-read_range
returns-in_err-read_range c =
    let l = c.loop-left in
    let why = c.in_err-read_range.field-0.0 in
    let more : l.left ≡ suc (l.left - 1) = omega (arith, c.loop-left-test.true) in
    let e : c.from_residual.result ≡ Err (cert_refusal why) = search rules in
    rw e (sym l.invariant ∙ bad_line range_in l.left (l.left - 1) l.ranges l.lines why more c.in_err-read_range.ensures)

pub loop-left-preserved : goal.loop-left-preserved
loop-left-preserved c =
    let l = c.loop-left in
    let x = c.in_ok-read_range.field-0 in
    let more : l.left ≡ suc (l.left - 1) = omega (arith, c.loop-left-test.true) in
    ap (λ xs. lines_from range_in (l.left - 1) xs c.read_range.new.lines) c.in_ok-push.ensures.ok
    ∙ sym (one_line range_in l.left (l.left - 1) l.ranges l.lines c.read_range.new.lines x more c.in_ok-read_range.ensures)
    ∙ l.invariant
