use Rattle.std.proofs.Common.{◌≡◌, ◌≤◌, drop}
use Rattle.dsv_cnf.specs.Reading.{digits_end, number_end}
use Rattle.dsv_cnf.proofs.reader.number_end.Given as goal

abbrev pub invariant-loop-i : goal.invariant-loop-i
invariant-loop-i l =
    record {
      small : l.value ≤ l.limit;
      rest : digits_end l.limit l.at l.value (drop l.i l.bytes) l.i ≡ number_end l.limit (drop l.at l.bytes) l.at;
    }
