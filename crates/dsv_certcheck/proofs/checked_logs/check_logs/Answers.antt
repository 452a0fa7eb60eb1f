use Rattle.std.proofs.Common.{subst}
use Rattle.std.specs.Prelude.{OnOk}
use Rattle.dsv_invariant.specs.Causes.{Holds}
use Rattle.dsv_quantiser.specs.QuantisedView.{QuantisedView}
use Rattle.dsv_template.specs.declared.verdict.SetPart.TheVariants as part
use Rattle.dsv_certcheck.proofs.checked_logs.check_logs.Goals as goal

pub check_sentences-requires : goal.check_sentences-requires
check_sentences-requires c = rw c.in_ok-asking.ensures c.requires

pub returns-clause-found : goal.returns-clause-found
returns-clause-found c = rw c.in_ok-asking.ensures at c.check_sentences.ensures.found

pub returns-clause-base : goal.returns-clause-base
returns-clause-base c = rw c.in_ok-asking.ensures at c.check_sentences.ensures.base

pub returns-clause-step : goal.returns-clause-step
returns-clause-step c = rw c.in_ok-asking.ensures at c.check_sentences.ensures.step

pub returns-clause-safe : goal.returns-clause-safe
returns-clause-safe c =
    subst (λ (q : QuantisedView). OnOk c.check_sentences.result (Holds q c.args.candidate.now part.Safe)) c.in_ok-asking.ensures c.check_sentences.ensures.safe
