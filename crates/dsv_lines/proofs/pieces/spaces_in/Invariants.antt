use Rattle.std.proofs.Common.{◌≡◌, ◌+◌, ◌≤◌, length, drop}
use Rattle.dsv_lines.specs.Pieces.{pieces_of}
use Rattle.dsv_lines.proofs.pieces.spaces_in.Given as goal

abbrev pub invariant-loop-byte : goal.invariant-loop-byte
invariant-loop-byte l = record {
  few : l.spaces ≤ l.byte-index;
  rest : l.spaces + length (pieces_of (drop l.byte-index l.line)) ≡ length (pieces_of l.line);
}
