use Rattle.std.proofs.Common.{◌≡◌, [], length, map, take, drop}
use Rattle.dsv_state_space.specs.Meaning.{AreRowsOf}
use Rattle.dsv_state_space.proofs.StateWords.{rows_after}
use Rattle.dsv_state_space.proofs.quantisation.rows_words.Given as goal

abbrev pub invariant-loop-i : goal.invariant-loop-i
invariant-loop-i l = record {
  same : rows_after l.format l.i (map (λ row. row.items) (drop l.i l.rows)) l.words.items ≡ rows_after l.format 0 (map (λ row. row.items) l.rows) [];
  places : length l.words.items ≡ l.i;
  meant : AreRowsOf l.format (map (λ row. row.items) (take l.i l.rows)) l.words.items;
}
