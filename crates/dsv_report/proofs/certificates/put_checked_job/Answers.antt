use Rattle.std.proofs.Common.{◌++◌}
use Rattle.dsv_base.proofs.TakingLemmas.{writes_after, writes_cut}
use Rattle.dsv_report.specs.Certificates.{size_line, accepted}
use Rattle.dsv_report.specs.Lines.{property_text, realisation_text}
use Rattle.dsv_report.proofs.certificates.put_checked_job.Goals as goal

pub returns-in_err-put_all : goal.returns-in_err-put_all
unfolding accepted
returns-in_err-put_all g c =
    let job = c.args.job.now in
    writes_cut (property_text job.property ++ (realisation_text job.design.realisation ++ size_line job.size)) c.from_residual.ensures.0 c.in_err-put_all.ensures.cut

pub returns-in_err-put_property : goal.returns-in_err-put_property
unfolding accepted
returns-in_err-put_property g c =
    let job = c.args.job.now in
    writes_after c.in_ok-put_all.ensures.whole
    (writes_cut (realisation_text job.design.realisation ++ size_line job.size) c.from_residual-in_err-put_property.ensures.0 c.in_err-put_property.ensures.cut)

pub returns-in_err-put_realisation : goal.returns-in_err-put_realisation
unfolding accepted
returns-in_err-put_realisation g c =
    writes_after c.in_ok-put_all.ensures.whole (writes_after c.in_ok-put_property.ensures.whole
    (writes_cut (size_line c.args.job.now.size) c.from_residual-in_err-put_realisation.ensures.0 c.in_err-put_realisation.ensures.cut))

pub returns : goal.returns
unfolding accepted
returns g c =
    writes_after c.in_ok-put_all.ensures.whole (writes_after c.in_ok-put_property.ensures.whole (writes_after c.in_ok-put_realisation.ensures.whole c.put_size.ensures))
