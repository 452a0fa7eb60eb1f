use Rattle.std.proofs.Common.{arith}
use Rattle.dsv_term.specs.Building.{Built, built_of}
use Rattle.dsv_unroll.specs.CycleGoals.{returned_from}
use Rattle.dsv_unroll.proofs.CycleTerms.{return_step}
use Rattle.dsv_unroll.proofs.cycle.returned_terms.Goals as goal

pub loop-k-preserved : goal.loop-k-preserved
loop-k-preserved c =
    let l = c.loop-k in
    let i = l.invariant in
    let end : Built = returned_from (built_of c.args.terms.now c.args.first) c.args.registers.now c.args.starts.now in
    let s = return_step c.args.terms.now l.terms c.same_term.new.terms c.and.new.self l.all c.in_ok-same.same c.in_ok-all.all c.args.registers.now c.args.starts.now l.k end (omega arith) (omega (arith, c.requires.count))
    (record { sound = i.sound; bit = i.bit; registers_stand = i.registers; starts_stand = i.starts; kept = i.kept; same = i.same }) c.in_ok-same.ensures.built c.in_ok-same.ensures.adds c.in_ok-all.ensures.made.built in
    record { sound = s.sound; bit = s.bit; registers = s.registers_stand; starts = s.starts_stand; kept = s.kept; same = s.same }
