use Rattle.std.proofs.Common.{Some, sym, ap, drop, arith}
use Rattle.std.specs.List.{slice_get}
use Rattle.dsv_lyapunov.proofs.Offers.{none_left, first_left}
use Rattle.dsv_lyapunov.proofs.sum_proposer.SumProposerFormProposer.propose.Goals as goal

pub returns-in-Some-clause-told : goal.returns-in-Some-clause-told
returns-in-Some-clause-told c =
    sym (ap (λ offers. slice_get offers 0) (first_left c.args.poly.now c.args.self.now.look c.in-Some.found (omega arith) c.in-Some.ensures.exact))

pub returns-in-Some-clause-left : goal.returns-in-Some-clause-left
returns-in-Some-clause-left c =
    sym (ap (λ offers. Some (drop 1 offers)) (first_left c.args.poly.now c.args.self.now.look c.in-Some.found (omega arith) c.in-Some.ensures.exact))

pub returns-in-None-clause-told : goal.returns-in-None-clause-told
returns-in-None-clause-told c = sym (ap (λ offers. slice_get offers 0) (none_left c.args.poly.now c.args.self.now.look c.in-None.ensures.exact))

pub returns-in-None-clause-left : goal.returns-in-None-clause-left
returns-in-None-clause-left c = sym (ap (λ offers. Some (drop 1 offers)) (none_left c.args.poly.now c.args.self.now.look c.in-None.ensures.exact))
