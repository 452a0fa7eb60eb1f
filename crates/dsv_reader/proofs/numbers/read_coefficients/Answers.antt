use Rattle.std.proofs.Common.{[], ◌∷◌, ◌+◌, sym, ap, ◌∙◌, length-append}
use Rattle.dsv_reader.proofs.NumberLemmas.{coefficient_read, coefficient_refused}
use Rattle.dsv_reader.proofs.numbers.read_coefficients.Goals as goal

pub returns-in-Err : goal.returns-in-Err
returns-in-Err c =
    let l = c.loop-token in
    coefficient_refused c.args.bytes.now c.args.numbers.now l.token-index _ l.list c.in-Err.refusal c.loop-token-test.true
    (sym c.decimal_at.ensures ∙ c.in-Err.is) ∙ l.invariant.same

pub loop-token-preserved : goal.loop-token-preserved
loop-token-preserved c =
    let l = c.loop-token in
    record {
      places = rw c.push.ensures (length-append l.list (c.in-Ok.coefficient ∷ []) ∙ ap (λ n. n + 1) l.invariant.places);
      same = rw c.push.ensures (coefficient_read c.args.bytes.now c.args.numbers.now l.token-index _ l.list c.in-Ok.coefficient
          c.loop-token-test.true (sym c.decimal_at.ensures ∙ c.in-Ok.is) ∙ l.invariant.same);
    }
