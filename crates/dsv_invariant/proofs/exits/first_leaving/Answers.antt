use Rattle.std.proofs.Common.{◌≡◌, ℕ, refl, subst, length, take, get_or, arith, rules, SFits}
use Rattle.std.specs.Int.{w64}
use Rattle.std.proofs.Math.IntN.{pos}
use Rattle.std.proofs.lemmas.Int.{to_z-of_z}
use Rattle.dsv_netlist.specs.Systems.{system_of}
use Rattle.dsv_system.specs.Systems.{registers_after}
use Rattle.dsv_template.specs.Candidates.{IsInSet}
use Rattle.dsv_invariant.proofs.BrokenRuns.{way_more, way_out, way_ends}
use Rattle.dsv_invariant.proofs.exits.first_leaving.Goals as goal

pub loop-i-preserved : goal.loop-i-preserved
loop-i-preserved c =
    let a = c.args in
    let x = get_or a.inputs.now c.loop-i.i (pos 0) in
    let fits : SFits w64 x = search rules in
    let new = rw (to_z-of_z w64 x fits) at c.step.ensures.registers in
    way_more a.net.now a.candidate.now a.registers.now a.inputs.now c.loop-i.i c.loop-i.registers c.step.new.regs (omega arith) c.loop-i.invariant (c.if-not-is_inside.ensures.inside refl) c.step.ensures.words new

pub returns-then-is_inside-clause-none : goal.returns-then-is_inside-clause-none
returns-then-is_inside-clause-none c =
    let a = c.args in
    way_ends a.net.now a.candidate.now a.registers.now a.inputs.now c.loop-i.i c.loop-i.registers c.loop-i.invariant (omega arith) (c.if-is_inside.ensures.inside refl)

pub returns-else-is_inside-clause-outside : goal.returns-else-is_inside-clause-outside
returns-else-is_inside-clause-outside c =
    let a = c.args in
    let end : c.loop-i.i ≡ length a.inputs.now = omega arith in
    subst (λ (k : ℕ). IsInSet a.candidate.now (registers_after (system_of a.net.now) a.registers.now (take k a.inputs.now)) → ⊥) end
    (way_out a.net.now a.candidate.now a.registers.now a.inputs.now c.loop-i.i c.loop-i.registers c.loop-i.invariant (c.if-is_inside.ensures.outside refl))
