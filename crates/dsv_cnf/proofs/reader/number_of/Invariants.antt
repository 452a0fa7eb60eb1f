use Rattle.std.proofs.Common.{◌≡◌, ◌≤◌, drop}
use Rattle.dsv_cnf.specs.Reading.{digits_from, number_of}
use Rattle.dsv_cnf.proofs.reader.number_of.Given as goal

abbrev pub invariant-loop-byte : goal.invariant-loop-byte
invariant-loop-byte l =
    record {
      small : l.value ≤ l.limit;
      rest : digits_from l.limit l.value (drop l.byte-index l.text) ≡ number_of l.limit l.text;
    }
