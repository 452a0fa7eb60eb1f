use Rattle.dsv_solver.proofs.Adding.{AllEmpty}
use Rattle.dsv_solver.proofs.watches.Watches.new.Given as goal

abbrev pub invariant-loop : goal.invariant-loop
invariant-loop l = AllEmpty l.counter l.lists.items
