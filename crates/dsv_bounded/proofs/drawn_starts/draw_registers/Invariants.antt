use Rattle.dsv_bounded.specs.Questions.{AreRegisters}
use Rattle.dsv_bounded.proofs.drawn_starts.draw_registers.Given as goal

abbrev pub invariant-loop-place : goal.invariant-loop-place
invariant-loop-place l = AreRegisters l.net l.registers
