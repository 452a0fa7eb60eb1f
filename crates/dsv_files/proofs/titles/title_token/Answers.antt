use Rattle.std.proofs.Common.{◌∙◌, sym}
use Rattle.dsv_files.proofs.TitleTokens.{title_here, title_later, depth_grows}
use Rattle.dsv_files.proofs.titles.title_token.Goals as goal

pub returns-then-is_title : goal.returns-then-is_title
returns-then-is_title c =
    let l = c.loop-token in
    sym (l.invariant.0 ∙ title_here l.depth l.named c.args.tokens.now l.token-index _ c.loop-token-test.true (sym c.is_title.ensures ∙ c.if-is_title.true))

pub loop-token-preserved : goal.loop-token-preserved
loop-token-preserved c =
    let l = c.loop-token in
    rw (c.is_system-named.ensures, c.depth_after-depth.ensures)
    (l.invariant.0 ∙ title_later l.depth l.named c.args.tokens.now l.token-index _ c.loop-token-test.true (sym c.is_title.ensures ∙ c.if-is_title.false), depth_grows l.depth l.token-index _ l.invariant.1)
