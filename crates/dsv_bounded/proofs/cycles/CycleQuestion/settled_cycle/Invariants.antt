use Rattle.dsv_bounded.specs.Questions.{AreRegisters}
use Rattle.dsv_bounded.proofs.cycles.CycleQuestion.settled_cycle.Given as goal

abbrev pub invariant-loop-samples : goal.invariant-loop-samples
invariant-loop-samples l = AreRegisters l.self.subject.now.net.now l.registers
