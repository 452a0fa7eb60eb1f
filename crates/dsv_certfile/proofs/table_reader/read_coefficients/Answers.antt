use Rattle.std.proofs.Common.{◌≡◌, [], suc, ◌-◌, sym, ap, ◌∙◌, Err, rules, arith}
use Rattle.dsv_certfile.specs.Bodies.{coefficient_in, lines_from}
use Rattle.dsv_certfile.proofs.BodyLemmas.{one_line, bad_lines, refuses_as}
use Rattle.dsv_certfile.proofs.table_reader.read_coefficients.Goals as goal

pub returns-in_err-read_coefficient : goal.returns-in_err-read_coefficient
returns-in_err-read_coefficient c =
    let l = c.loop-left in
    let why = c.in_err-read_coefficient.field-0.0 in
    let more : l.left ≡ suc (l.left - 1) = omega (arith, c.loop-left-test.true) in
    let e : c.from_residual.result ≡ Err why = search rules in
    rw e (refuses_as why (lines_from coefficient_in l.left l.coefficients l.lines) (lines_from coefficient_in c.args.count [] c.args.lines.now) l.invariant
    (bad_lines coefficient_in l.left (l.left - 1) l.coefficients l.lines why more c.in_err-read_coefficient.ensures))

pub loop-left-preserved : goal.loop-left-preserved
loop-left-preserved c =
    let l = c.loop-left in
    let x = c.in_ok-read_coefficient.field-0 in
    let more : l.left ≡ suc (l.left - 1) = omega (arith, c.loop-left-test.true) in
    ap (λ xs. lines_from coefficient_in (l.left - 1) xs c.read_coefficient.new.lines) c.in_ok-push.ensures.ok
    ∙ sym (one_line coefficient_in l.left (l.left - 1) l.coefficients l.lines c.read_coefficient.new.lines x more c.in_ok-read_coefficient.ensures)
    ∙ l.invariant
