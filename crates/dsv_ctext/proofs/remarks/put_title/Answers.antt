use Rattle.std.proofs.Common.{◌++◌}
use Rattle.std.specs.Prelude.{codes}
use Rattle.dsv_base.proofs.TakingLemmas.{writes_after, writes_cut}
use Rattle.dsv_ctext.specs.Comments.{origin_text, title_modes, title_words}
use Rattle.dsv_ctext.proofs.remarks.put_title.Goals as goal

pub returns-in_err-put_all : goal.returns-in_err-put_all
returns-in_err-put_all g c = writes_cut {x = (codes "/* ")} ((origin_text c.args.remarks.now.origin) ++ ((title_modes c.args.remarks.now) ++ ((title_words c.args.remarks.now.format)))) c.from_residual.ensures.0 c.in_err-put_all.ensures.cut

pub returns-in_err-put_origin : goal.returns-in_err-put_origin
returns-in_err-put_origin g c = writes_after {x = (codes "/* ")} {y = (origin_text c.args.remarks.now.origin) ++ ((title_modes c.args.remarks.now) ++ ((title_words c.args.remarks.now.format)))} c.in_ok-put_all.ensures.whole (writes_cut {x = (origin_text c.args.remarks.now.origin)} ((title_modes c.args.remarks.now) ++ ((title_words c.args.remarks.now.format))) c.from_residual-in_err-put_origin.ensures.0 c.in_err-put_origin.ensures.cut)

pub returns-in_err-put_modes : goal.returns-in_err-put_modes
returns-in_err-put_modes g c = writes_after {x = (codes "/* ")} {y = (origin_text c.args.remarks.now.origin) ++ ((title_modes c.args.remarks.now) ++ ((title_words c.args.remarks.now.format)))} c.in_ok-put_all.ensures.whole (writes_after {x = (origin_text c.args.remarks.now.origin)} {y = (title_modes c.args.remarks.now) ++ ((title_words c.args.remarks.now.format))} c.in_ok-put_origin.ensures.whole (writes_cut {x = (title_modes c.args.remarks.now)} ((title_words c.args.remarks.now.format)) c.from_residual-in_err-put_modes.ensures.0 c.in_err-put_modes.ensures.cut))

pub returns : goal.returns
returns g c = writes_after {x = (codes "/* ")} {y = (origin_text c.args.remarks.now.origin) ++ ((title_modes c.args.remarks.now) ++ ((title_words c.args.remarks.now.format)))} c.in_ok-put_all.ensures.whole (writes_after {x = (origin_text c.args.remarks.now.origin)} {y = (title_modes c.args.remarks.now) ++ ((title_words c.args.remarks.now.format))} c.in_ok-put_origin.ensures.whole (writes_after {x = (title_modes c.args.remarks.now)} {y = (title_words c.args.remarks.now.format)} c.in_ok-put_modes.ensures.whole (c.put_words.ensures)))
