use Rattle.std.proofs.Common.{◌≡◌, ◌≤◌, length, drop}
use Rattle.dsv_certfile.specs.Places.{line_numbers}
use Rattle.dsv_certfile.proofs.PlaceLemmas.{walked}
use Rattle.dsv_certfile.proofs.places.numbers_at.Given as goal

abbrev pub invariant-loop-place : goal.invariant-loop-place
invariant-loop-place l = record {
  few : length l.numbers ≤ l.place-index;
  rest : walked l.has_words l.numbers (drop l.place-index l.places) l.pieces ≡ line_numbers l.places l.fn.pieces;
}
