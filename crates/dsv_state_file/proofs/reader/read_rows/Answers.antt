use Rattle.std.proofs.Common.{◌≡◌, suc, ◌-◌, [], ◌∷◌, length, length-append, sym, ap, ◌∙◌, Err, rules, arith}
use Rattle.dsv_state_file.specs.Reading.{rows_from}
use Rattle.dsv_state_file.proofs.Stages.{row_more, row_bad}
use Rattle.dsv_state_file.proofs.reader.read_rows.Goals as goal

pub returns-in_err-next_vector : goal.returns-in_err-next_vector
returns-in_err-next_vector c =
    let l = c.loop-left in
    let why = c.in_err-next_vector.field-0.0 in
    let more : l.left ≡ suc (l.left - 1) = omega (arith, c.loop-left-test.true) in
    let e : c.from_residual.result ≡ Err why = search rules in
    rw e (sym l.invariant.rest ∙ row_bad c.args.states l.left (l.left - 1) l.grid l.lines why more c.in_err-next_vector.ensures.answer)

pub loop-left-preserved : goal.loop-left-preserved
loop-left-preserved c =
    let l = c.loop-left in
    let x = c.in_ok-next_vector.field-0 in
    let more : l.left ≡ suc (l.left - 1) = omega (arith, c.loop-left-test.true) in
    record {
      few = omega (arith, ap length c.push.ensures, length-append l.grid (x ∷ []), l.invariant.few, more);
      rest = ap (λ xs. rows_from c.args.states (l.left - 1) xs c.next_vector.new.lines) c.push.ensures
          ∙ sym (row_more c.args.states l.left (l.left - 1) l.grid l.lines c.next_vector.new.lines x more c.in_ok-next_vector.ensures.answer)
          ∙ l.invariant.rest;
    }
