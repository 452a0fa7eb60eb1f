use Rattle.std.proofs.Common.{rules, of_calls}
use Rattle.dsv_invariant.specs.Sets.{IsNotGood}
use Rattle.dsv_cli.proofs.Asked.{suffix, causes, blocks}
use Rattle.dsv_cli.proofs.sets.asked_sets.Goals as goal

pub returns-in_err-candidate-clause-suffix : goal.returns-in_err-candidate-clause-suffix
returns-in_err-candidate-clause-suffix g c = suffix (λ b. b.ptr) (λ b a r h. search (rules, of_calls)) _ _ _ c.first_accepted.ensures

pub returns-in-Some-clause-suffix : goal.returns-in-Some-clause-suffix
returns-in-Some-clause-suffix g c = suffix (λ b. b.ptr) (λ b a r h. search (rules, of_calls)) _ _ _ c.first_accepted.ensures

pub returns-in-None-clause-causes : goal.returns-in-None-clause-causes
returns-in-None-clause-causes g c =
    let came = rw c.in-None.is at c.in_ok-candidate.ensures in
    record { within = c.requires; causes = causes (IsNotGood c.args.asking.now.subject.now c.args.budget.now.conflicts) (λ b a k h. search (rules, of_calls)) came.0 }

pub returns-in-None-clause-blocks : goal.returns-in-None-clause-blocks
returns-in-None-clause-blocks g c =
    let came = rw c.in-None.is at c.in_ok-candidate.ensures in
    rw (← c.shape_of-shape.ensures.value)
    (blocks (λ b. (goal.InvariantProposer-dyn g (b.vtable, b.value)).to_come b.value c.shape_of-shape.result) (λ a. a.0) (λ k. k.candidate) (λ b a t h. search (rules, of_calls)) came.0)
