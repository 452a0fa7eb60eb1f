use Rattle.std.proofs.Common.{◌≡◌, ◌≤◌, length, map, Err, sym, ◌∙◌, rules}
use Rattle.dsv_state_space.proofs.StateWords.{rows_after-none, rows_step, rows_stop, rows_end, meant_more, meant_all}
use Rattle.dsv_state_space.proofs.quantisation.rows_words.Goals as goal

pub returns-in_err-lane_words-clause-value : goal.returns-in_err-lane_words-clause-value
returns-in_err-lane_words-clause-value c =
    let why = c.in_err-lane_words.field-0.0 in
    let gone : c.from_residual.result ≡ Err why = search rules in
    let given = rw c.as_slice.ensures.value at c.lane_words.ensures.value in
    rw gone
    (sym (rows_after-none c.args.format 0 (map (λ row. row.items) c.args.rows.now)) ∙ sym c.loop-i.invariant.same
    ∙ rows_stop (λ row. row.items) c.args.format c.args.rows.now c.loop-i.i c.index-rows-i.result c.loop-i.words.items why c.lane_words.result (search rules) c.index-rows-i.is given c.in_err-lane_words.was)

pub loop-i-preserved : goal.loop-i-preserved
loop-i-preserved c =
    let w = c.in_ok-lane_words.field-0 in
    let i = c.loop-i.i in
    let rows = c.args.rows.now in
    let row = c.index-rows-i.result in
    let given = rw c.as_slice.ensures.value at c.lane_words.ensures.value in
    let word = rw c.as_slice.ensures.value at c.in_ok-lane_words.ensures.meaning in
    let now = c.loop-i.invariant in
    rw c.push.ensures.items
    (record {
      same = rows_step (λ row. row.items) c.args.format rows i row c.loop-i.words.items w c.lane_words.result (search rules) c.index-rows-i.is given c.in_ok-lane_words.was ∙ now.same;
      places = search rules;
      meant = meant_more (λ row. row.items) c.args.format rows i row c.loop-i.words.items w (search rules) c.index-rows-i.is now.meant word;
    })

pub returns-clause-value : goal.returns-clause-value
returns-clause-value c =
    let over : length c.args.rows.now ≤ c.loop-i.i = search rules in
    sym (rows_after-none c.args.format 0 (map (λ row. row.items) c.args.rows.now)) ∙ sym c.loop-i.invariant.same
    ∙ rows_end (λ row. row.items) c.args.format c.args.rows.now c.loop-i.i c.loop-i.words.items over

pub returns-clause-meaning : goal.returns-clause-meaning
returns-clause-meaning c =
    let over : length c.args.rows.now ≤ c.loop-i.i = search rules in
    meant_all (λ row. row.items) c.args.format c.args.rows.now c.loop-i.i c.loop-i.words.items over c.loop-i.invariant.meant
