use Rattle.std.proofs.Common.{◌≡◌, drop}
use Rattle.dsv_gain.specs.Boxes.{is_kept}
use Rattle.dsv_gain.proofs.boxes.Known.is_kept.Given as goal

abbrev pub invariant-loop-j : goal.invariant-loop-j
invariant-loop-j l = is_kept l.format l.self.input l.self.registers.now l.self.fitted.now l.nodes (drop l.j l.next) (drop l.j l.self.registers.now)
    ≡ is_kept l.format l.self.input l.self.registers.now l.self.fitted.now l.nodes l.next l.self.registers.now
