use Rattle.std.proofs.Common.{rules, ◌≡◌, ◌≤◌, length, take, ap, ◌∙◌, refl, ◌+◌}
use Rattle.std.specs.Prelude.{Ok, Err}
use Rattle.std.proofs.lemmas.List.{take_all}
use Rattle.dsv_quantiser.specs.Modes.{BecomesWords}
use Rattle.dsv_cli.proofs.CascadeRows.{later_refused}
use Rattle.dsv_files.proofs.Pairwise.{pairs_more, pairs_long}
use Rattle.dsv_cli.proofs.cascade_words.quantise_later.Goals as goal

pub returns-in_err-quantised-clause-refused : goal.returns-in_err-quantised-clause-refused
returns-in_err-quantised-clause-refused c =
    let i = c.loop-i.i in
    let why = c.in_err-quantised.field-0.0 in
    let is : c.from_residual.result ≡ Err why = search rules in
    let refused = c.in_err-quantised.ensures.refused in
    let next : i + 1 ≡ i + 1 = refl in
    rw is (later_refused c.args.design c.args.controllers.now i (i + 1) c.index-controllers-i.result c.loop-i.sections.items refused.0 why next c.loop-i-test.true c.index-controllers-i.is c.loop-i.invariant refused.1 refused.2)

pub loop-i-preserved : goal.loop-i-preserved
loop-i-preserved c =
    rw c.in_ok-push_item.ensures (pairs_more (λ c' q. BecomesWords c' c.args.design (Ok q)) c.args.controllers.now c.loop-i.sections.items c.loop-i.i c.index-controllers-i.result c.in_ok-quantised.quantised
    c.loop-i-test.true c.index-controllers-i.is c.loop-i.invariant c.in_ok-quantised.ensures.words)

pub returns-clause-many : goal.returns-clause-many
returns-clause-many c =
    let all : length c.args.controllers.now ≤ c.loop-i.i = search rules in
    pairs_long (λ c' q. BecomesWords c' c.args.design (Ok q)) (take c.loop-i.i c.args.controllers.now) c.loop-i.sections.items c.loop-i.invariant ∙ ap length (take_all c.loop-i.i c.args.controllers.now all)
