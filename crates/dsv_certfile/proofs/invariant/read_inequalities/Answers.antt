use Rattle.std.proofs.Common.{◌≡◌, suc, ◌-◌, [], ◌∷◌, length, length-append, sym, ap, ◌∙◌, Err, rules, arith}
use Rattle.dsv_certfile.specs.Bodies.{inequality_in, lines_from}
use Rattle.dsv_certfile.proofs.BodyLemmas.{one_line, bad_line}
use Rattle.dsv_certfile.proofs.invariant.read_inequalities.Goals as goal

pub returns-in_err-read_inequality : goal.returns-in_err-read_inequality
returns-in_err-read_inequality c =
    let l = c.loop-left in
    let why = c.in_err-read_inequality.field-0.0 in
    let more : l.left ≡ suc (l.left - 1) = omega (arith, c.loop-left-test.true) in
    let e : c.from_residual.result ≡ Err why = search rules in
    rw e (sym l.invariant.rest ∙ bad_line inequality_in l.left (l.left - 1) l.inequalities.items l.lines why more c.in_err-read_inequality.ensures)

pub loop-left-preserved : goal.loop-left-preserved
loop-left-preserved c =
    let l = c.loop-left in
    let x = c.in_ok-read_inequality.field-0 in
    let more : l.left ≡ suc (l.left - 1) = omega (arith, c.loop-left-test.true) in
    record {
      few = omega (arith, ap length c.push.ensures.items, length-append l.inequalities.items (x ∷ []), l.invariant.few, more);
      rest = ap (λ xs. lines_from inequality_in (l.left - 1) xs c.read_inequality.new.lines) c.push.ensures.items
          ∙ sym (one_line inequality_in l.left (l.left - 1) l.inequalities.items l.lines c.read_inequality.new.lines x more c.in_ok-read_inequality.ensures)
          ∙ l.invariant.rest;
    }
