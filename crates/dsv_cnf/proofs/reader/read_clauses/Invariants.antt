use Rattle.std.proofs.Common.{◌≡◌, ◌≤◌, [], drop}
use Rattle.std.specs.Prelude.{slice_range}
use Rattle.dsv_cnf.specs.Reading.{clauses_from}
use Rattle.dsv_cnf.proofs.reader.read_clauses.Given as goal

abbrev pub invariant-loop-i : goal.invariant-loop-i
invariant-loop-i l =
    record {
      order : l.start ≤ l.i;
      rest : clauses_from (drop l.i l.bytes) (slice_range l.bytes l.start l.i) l.start l.reading ≡ clauses_from (drop l.from l.bytes) [] l.from l.fn.reading;
    }
