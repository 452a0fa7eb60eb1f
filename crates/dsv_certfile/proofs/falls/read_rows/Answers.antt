use Rattle.std.proofs.Common.{◌≡◌, suc, ◌-◌, [], ◌∷◌, length, length-append, sym, ap, ◌∙◌, Err, rules, arith}
use Rattle.dsv_certfile.specs.Bodies.{numbers_of, lines_from}
use Rattle.dsv_certfile.proofs.BodyLemmas.{one_line, bad_line}
use Rattle.dsv_certfile.proofs.falls.read_rows.Goals as goal

pub returns-in_err-next_numbers-clause-answer : goal.returns-in_err-next_numbers-clause-answer
returns-in_err-next_numbers-clause-answer c =
    let l = c.loop-left in
    let places = c.args.places.now in
    let why = c.in_err-next_numbers.field-0.0 in
    let more : l.left ≡ suc (l.left - 1) = omega (arith, c.loop-left-test.true) in
    let e : c.from_residual.result ≡ Err why = search rules in
    rw e (sym l.invariant.rest ∙ bad_line (numbers_of places) l.left (l.left - 1) l.rows l.lines why more c.in_err-next_numbers.ensures.answer)

pub loop-left-preserved : goal.loop-left-preserved
loop-left-preserved c =
    let l = c.loop-left in
    let places = c.args.places.now in
    let x = c.in_ok-next_numbers.field-0 in
    let more : l.left ≡ suc (l.left - 1) = omega (arith, c.loop-left-test.true) in
    record {
      few = omega (arith, ap length c.push.ensures, length-append l.rows (x ∷ []), l.invariant.few, more);
      rest = ap (λ xs. lines_from (numbers_of places) (l.left - 1) xs c.next_numbers.new.lines) c.push.ensures
          ∙ sym (one_line (numbers_of places) l.left (l.left - 1) l.rows l.lines c.next_numbers.new.lines x more c.in_ok-next_numbers.ensures.answer)
          ∙ l.invariant.rest;
    }
