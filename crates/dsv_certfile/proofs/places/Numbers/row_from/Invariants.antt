use Rattle.std.proofs.Common.{◌≡◌, ℕ, ◌+◌, ◌<◌, length, get_or}
use Rattle.std.proofs.Math.IntN.{pos}
use Rattle.dsv_certfile.proofs.places.Numbers.row_from.Given as goal

abbrev pub invariant-loop-j : goal.invariant-loop-j
invariant-loop-j l = record {
  long : length l.row ≡ 8;
  same : (k : ℕ) → k < l.j → get_or l.row k (pos 0) ≡ get_or l.self (l.place + k) (pos 0);
}
