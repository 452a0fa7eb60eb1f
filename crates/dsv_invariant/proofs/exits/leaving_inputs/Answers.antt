use Rattle.std.proofs.Common.{◌≡◌, ◌∙◌, ℕ, ◌≤◌, List, ap, subst, length, take}
use Rattle.std.proofs.Math.IntN.{ℤ}
use Rattle.dsv_netlist.specs.Systems.{system_of}
use Rattle.dsv_system.specs.Systems.{registers_after, zeros}
use Rattle.dsv_template.specs.Candidates.{IsInSet}
use Rattle.dsv_invariant.proofs.BrokenRuns.{zero_stands, way_leaves}
use Rattle.dsv_invariant.proofs.exits.leaving_inputs.Goals as goal

pub first_leaving-requires-clause-registers : goal.first_leaving-requires-clause-registers
first_leaving-requires-clause-registers c =
    zero_stands c.args.net.now c.as_mut_slice.result.now c.registers.result c.registers.ensures (c.as_mut_slice.ensures.value ∙ (c.into_vec-registers.ensures ∙ c.in_ok-zero_words.ensures))

pub unreachable-requires : goal.unreachable-requires
unreachable-requires c =
    let a = c.args in
    let zero : c.as_mut_slice.result.now ≡ zeros (length a.net.now.next) = c.as_mut_slice.ensures.value ∙ (c.into_vec-registers.ensures ∙ (c.in_ok-zero_words.ensures ∙ ap zeros c.registers.ensures)) in
    let none = rw c.in-None.is at c.first_leaving.ensures.none in
    way_leaves a.net.now a.candidate.now a.inputs.now c.requires.leaves
    (subst (λ (rs : List ℤ). (n : ℕ) → n ≤ length a.inputs.now → IsInSet a.candidate.now (registers_after (system_of a.net.now) rs (take n a.inputs.now))) zero none)
