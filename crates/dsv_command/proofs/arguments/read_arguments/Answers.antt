use Rattle.std.proofs.Common.{◌∙◌, sym}
use Rattle.clap.specs.Words.{app_of}
use Rattle.dsv_command.proofs.CommandLemmas.{matches_tell, refusal_is, simple_and_free}
use Rattle.dsv_command.proofs.arguments.read_arguments.Goals as goal

pub invariant_of-result : goal.invariant_of-result
invariant_of-result c =
    let app = app_of c.in_ok-command.field-0 in
    let made = c.in_ok-command.ensures in
    (matches_tell app made c.args.arguments.now c.in-Ok.matches (c.in-Ok.ensures.kinds (simple_and_free app made c.args.arguments.now)) c.in-Ok.ensures.matches).told

pub returns-in-Ok : goal.returns-in-Ok
returns-in-Ok c =
    let app = app_of c.in_ok-command.field-0 in
    let made = c.in_ok-command.ensures in
    (matches_tell app made c.args.arguments.now c.in-Ok.matches (c.in-Ok.ensures.kinds (simple_and_free app made c.args.arguments.now)) c.in-Ok.ensures.matches).parts

pub returns : goal.returns
returns c =
    let app = app_of c.in_ok-command.field-0 in
    let made = c.in_ok-command.ensures in
    sym (refusal_is app made c.args.arguments.now c.in-Err.error (c.in-Err.ensures.kinds (simple_and_free app made c.args.arguments.now)) (λ memory.
    let same = rw (c.kind.ensures ∙ memory) at c.eq.ensures in
    cc (same, c.if-eq.false)))
