use Rattle.std.proofs.Common.{arith, sym, ◌∙◌}
use Rattle.dsv_cnf.proofs.ReadingLemmas.{more-text, more-blank}
use Rattle.dsv_cnf.proofs.reader.read_clauses.Goals.{then-is_blank+in_ok-take, else-is_blank}
use Rattle.dsv_cnf.proofs.reader.read_clauses.Goals as goal

pub loop-i-preserved : goal.loop-i-preserved
loop-i-preserved c =
    let l = c.loop-i in
    let bytes = c.args.bytes.now in
    elim c.if-is_blank.branch [
      | then-is_blank+in_ok-take w ↦
          rw (w.start-is, w.reading-is)
          record {
            order = omega arith;
            rest = more-blank bytes l.start l.i 0 l.reading w.take.new.self l.invariant.order c.loop-i-test.true (sym c.is_blank.ensures ∙ w.if-is_blank.true) w.in_ok-take.ensures.ok ∙ l.invariant.rest;
          }
      | else-is_blank w ↦
          rw (w.start-is, w.reading-is)
          record {
            order = omega arith;
            rest = more-text bytes l.start l.i 0 l.reading l.invariant.order c.loop-i-test.true (sym c.is_blank.ensures ∙ w.if-is_blank.false) ∙ l.invariant.rest;
          }
    ]
