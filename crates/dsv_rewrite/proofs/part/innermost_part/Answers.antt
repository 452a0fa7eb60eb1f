use Rattle.std.proofs.Common.{◌≡◌, ◌-◌, ℕ, Some, None, arith, ap, sym, ◌∙◌}
use Rattle.dsv_rewrite.specs.Parts.{innermost_part}
use Rattle.dsv_rewrite.proofs.PartRules.{inner_part_same}
use Rattle.dsv_rewrite.proofs.PartSteps.{step_in}
use Rattle.dsv_rewrite.proofs.part.innermost_part.Goals as goal

pub loop-step-init : goal.loop-step-init
loop-step-init c = record {
  part = c.requires.part;
  rest = ap (λ (n : ℕ). innermost_part n c.args.terms.now c.args.part) (omega arith);
}

pub inner_part-requires-clause-part : goal.inner_part-requires-clause-part
inner_part-requires-clause-part c = c.loop-step.invariant.part

pub returns-in-None-clause-inner : goal.returns-in-None-clause-inner
returns-in-None-clause-inner c =
    sym (step_in c.args.part.of.0 c.loop-step.step c.args.terms.now c.loop-step.inner None c.loop-step-test.true (sym c.in-None.is ∙ c.inner_part.ensures)) ∙ c.loop-step.invariant.rest

pub returns-in-None-clause-part : goal.returns-in-None-clause-part
returns-in-None-clause-part c = c.loop-step.invariant.part

pub loop-step-preserved : goal.loop-step-preserved
loop-step-preserved c =
    let t = c.args.terms.now in
    let p = c.loop-step.inner in
    let q = c.in-Some.next in
    record {
      part = (inner_part_same t p q c.requires.sound c.loop-step.invariant.part (sym c.inner_part.ensures ∙ c.in-Some.is)).part;
      rest = sym (step_in c.args.part.of.0 c.loop-step.step t p (Some q) c.loop-step-test.true (sym c.in-Some.is ∙ c.inner_part.ensures)) ∙ c.loop-step.invariant.rest;
    }

pub returns-clause-inner : goal.returns-clause-inner
returns-clause-inner c =
    let f = c.loop-step-test.false in
    let z : 0 ≡ c.args.part.of.0 - c.loop-step.step = omega arith in
    ap (λ (n : ℕ). innermost_part n c.args.terms.now c.loop-step.inner) z ∙ c.loop-step.invariant.rest

pub returns-clause-part : goal.returns-clause-part
returns-clause-part c = c.loop-step.invariant.part
