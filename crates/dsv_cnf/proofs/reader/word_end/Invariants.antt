use Rattle.std.proofs.Common.{◌≡◌, ◌≤◌, drop, length}
use Rattle.dsv_cnf.specs.Reading.{word_end}
use Rattle.dsv_cnf.proofs.reader.word_end.Given as goal

abbrev pub invariant-loop-byte : goal.invariant-loop-byte
invariant-loop-byte l =
    record {
      inside : l.end ≤ length l.bytes;
      rest : word_end (drop l.byte-index l.word) (drop l.end l.bytes) l.end ≡ word_end l.word (drop l.at l.bytes) l.at;
    }
