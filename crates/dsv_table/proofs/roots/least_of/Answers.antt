use Rattle.std.proofs.Common.{◌≡◌, ◌++◌, ◌∷◌, [], rules}
use Rattle.dsv_table.specs.Search.{raised_least}
use Rattle.dsv_table.proofs.RootSizes.{step_taken}
use Rattle.dsv_table.proofs.roots.least_of.Goals as goal

pub loop-step-preserved : goal.loop-step-preserved
loop-step-preserved c =
    let cs = c.args.coefficients.now in
    let left = c.loop-step.left.items in
    let rest = c.pop.new.self.items in
    let least = c.loop-step.least in
    let step = c.in-Some.step in
    let e : left ≡ rest ++ step ∷ [] = search rules in
    let r : c.in_ok-least-2.least ≡ raised_least least step cs = c.in_ok-least-2.ensures in
    let k = step_taken cs left rest least step c.in_ok-least-2.least c.loop-step.invariant.powers c.loop-step.invariant.bracket e r in
    record { powers = k.0; bracket = k.1 }
