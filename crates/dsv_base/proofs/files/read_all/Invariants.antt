use Rattle.std.proofs.Common.{◌≡◌, ◌≤◌, length, take, IfSome}
use Rattle.dsv_base.specs.Counts.{RoseBy}
use Rattle.dsv_base.proofs.files.read_all.Given as goal

abbrev pub invariant-loop-turn : goal.invariant-loop-turn
invariant-loop-turn g l = record {
  within : l.got ≤ l.limit;
  turns : l.turn ≤ l.got;
  size : length l.bytes ≡ l.got;
  held : (g.F.Files.seen l.files).held ≡ (g.F.Files.seen l.fn.files).held;
  front : IfSome ((g.F.Files.seen l.fn.files).held l.name) (λ file. (l.bytes ≡ take l.got file) × (l.got ≤ length file));
  came : RoseBy l.got (g.F.Files.seen l.fn.files).came (g.F.Files.seen l.files).came;
  faults : (g.F.Files.seen l.fn.files).faults ≤ (g.F.Files.seen l.files).faults;
  blamed : (g.F.Files.seen l.files).blamed ≡ (g.F.Files.seen l.fn.files).blamed;
}
