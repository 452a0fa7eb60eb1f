use Rattle.std.proofs.Common.{rules, of_calls}
use Rattle.dsv_lyapunov.specs.Answers.{offer_in}
use Rattle.dsv_lyapunov.specs.Kept.{IsRefused}
use Rattle.dsv_cli.proofs.Asked.{suffix, causes, blocks, none_sure, AreRefused-from_all}
use Rattle.dsv_cli.proofs.forms.asked_answer.Goals as goal

pub returns-in_err-found-clause-suffix : goal.returns-in_err-found-clause-suffix
returns-in_err-found-clause-suffix g c = suffix (λ b. b.ptr) (λ b a r h. search (rules, of_calls)) _ _ _ c.first_accepted.ensures

pub returns-in-Some-clause-suffix : goal.returns-in-Some-clause-suffix
returns-in-Some-clause-suffix g c = suffix (λ b. b.ptr) (λ b a r h. search (rules, of_calls)) _ _ _ c.first_accepted.ensures

pub returns-in-None-clause-causes : goal.returns-in-None-clause-causes
returns-in-None-clause-causes g c =
    let came = rw c.in-None.is at c.in_ok-found.ensures in
    AreRefused-from_all c.args.poly.now _ (causes (IsRefused c.args.poly.now) (λ b a k h. search (rules, of_calls)) came.0)

pub returns-in-None-clause-blocks : goal.returns-in-None-clause-blocks
returns-in-None-clause-blocks g c =
    let came = rw c.in-None.is at c.in_ok-found.ensures in
    blocks (λ b. (goal.FormProposer-dyn g (b.vtable, b.value)).to_come b.value c.args.poly.now) offer_in (λ k. k.offer) (λ b a t h. search (rules, of_calls)) came.0

pub returns-in-None-clause-sure : goal.returns-in-None-clause-sure
returns-in-None-clause-sure g c =
    let came = rw c.in-None.is at c.in_ok-found.ensures in
    none_sure (λ b. (goal.FormProposer-dyn g (b.vtable, b.value)).sure b.value c.args.poly.now) (λ b a t h n s. search (rules, of_calls)) came.0 tt
