use Rattle.dsv_bounded.specs.Questions.{AreRegisters}
use Rattle.dsv_bounded.proofs.transients.drive.Given as goal

abbrev pub invariant-loop : goal.invariant-loop
invariant-loop l = AreRegisters l.net l.registers
