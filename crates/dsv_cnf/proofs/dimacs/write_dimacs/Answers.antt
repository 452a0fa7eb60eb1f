use Rattle.std.proofs.Common.{length, arith}
use Rattle.std.specs.List.{flat_map}
use Rattle.dsv_base.proofs.TakingLemmas.{writes_err, cut_more}
use Rattle.dsv_base.proofs.ListWrites.{wrote_item, cut_item}
use Rattle.dsv_cnf.proofs.PieceLemmas.{got}
use Rattle.dsv_cnf.proofs.RoundTrip.{reads-back}
use Rattle.dsv_cnf.specs.Dimacs.{clause_text, header_text}
use Rattle.dsv_cnf.proofs.dimacs.write_dimacs.Goals as goal

pub returns-in_err-put_line-clause-writes : goal.returns-in_err-put_line-clause-writes
returns-in_err-put_line-clause-writes g c =
    let header = rw (c.vars.ensures.value, c.len.ensures) at c.in_err-put_line.ensures.cut in
    writes_err c.from_residual.ensures.0 (cut_more (flat_map clause_text c.args.formula.now.clauses) header)

pub returns-in_err-put_clause-clause-writes : goal.returns-in_err-put_clause-clause-writes
returns-in_err-put_clause-clause-writes g c =
    let f = c.args.formula.now in
    let clause = c.clause.result.now in
    let p = got f.clauses c.loop-i.i clause clause c.clause.ensures.at in
    let cut = c.in_err-put_clause.ensures.cut in
    writes_err c.from_residual-in_err-put_clause.ensures.0
    (cut_item clause_text (header_text f.vars (length f.clauses)) f.clauses c.loop-i.i clause p.0 c.loop-i.invariant (rw p.1 cut))

pub returns-in_err-put_line-clause-reads_back : goal.returns-in_err-put_line-clause-reads_back
returns-in_err-put_line-clause-reads_back g c = reads-back c.args.formula.now (rw c.vars.ensures.value at c.vars.ensures.small) (omega arith) c.vars.ensures.over

pub returns-in_err-put_clause-clause-reads_back : goal.returns-in_err-put_clause-clause-reads_back
returns-in_err-put_clause-clause-reads_back g c = reads-back c.args.formula.now (rw c.vars.ensures.value at c.vars.ensures.small) (omega arith) c.vars.ensures.over

pub returns-clause-reads_back : goal.returns-clause-reads_back
returns-clause-reads_back g c = reads-back c.args.formula.now (rw c.vars.ensures.value at c.vars.ensures.small) (omega arith) c.vars.ensures.over

pub loop-i-preserved : goal.loop-i-preserved
loop-i-preserved g c =
    let f = c.args.formula.now in
    let clause = c.clause.result.now in
    let p = got f.clauses c.loop-i.i clause clause c.clause.ensures.at in
    let whole = c.in_ok-put_clause.ensures.whole in
    wrote_item clause_text (header_text f.vars (length f.clauses)) f.clauses c.loop-i.i clause p.0 c.loop-i.invariant (rw p.1 whole)
