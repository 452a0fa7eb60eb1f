use Rattle.std.proofs.Common.{arith, sym, ◌∙◌}
use Rattle.dsv_cnf.proofs.ReadingLemmas.{word-short}
use Rattle.dsv_cnf.proofs.reader.word_end.Goals as goal

pub returns-then-end-bytes-clause-end : goal.returns-then-end-bytes-clause-end
returns-then-end-bytes-clause-end c =
    let l = c.loop-byte in
    sym (word-short c.args.word.now c.args.bytes.now l.byte-index l.end (omega arith) (omega arith)) ∙ l.invariant.rest
