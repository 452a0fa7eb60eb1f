use Rattle.std.proofs.Common.{◌≡◌, List, ℕ, [], ◌∷◌, ◌++◌, codes}
use Rattle.dsv_base.specs.Text.{spaced_text}
use Rattle.dsv_base.proofs.TakingLemmas.{writes_after, writes_cut}
use Rattle.dsv_names.specs.Properties.{property_name}
use Rattle.dsv_names.specs.Realisations.{realisation_name}
use Rattle.dsv_names.specs.Roundings.{rounding_name}
use Rattle.dsv_names.specs.OverflowModes.{overflow_mode_name}
use Rattle.dsv_lines.specs.Texts.{piece_text, line_text}
use Rattle.dsv_certfile.specs.Texts.{job_line, size_pieces}
use Rattle.dsv_certfile.specs.declared.job.CertifiedJob.{CertifiedJob}
use Rattle.dsv_certfile.proofs.LineTexts.{spaced, writes_as, four-text}
use Rattle.dsv_certfile.proofs.writer.put_job.Goals as goal

abbrev names : CertifiedJob → List ℕ
names job = spaced_text piece_text (property_name job.property) ++ spaced_text piece_text (realisation_name job.design.realisation)

abbrev modes : CertifiedJob → List ℕ
modes job = spaced_text piece_text (rounding_name job.design.rounding) ++ spaced_text piece_text (overflow_mode_name job.design.overflow)

text : (job : CertifiedJob) → codes "job" ++ (names job ++ (modes job ++ (spaced (size_pieces job.size) ++ 10 ∷ []))) ≡ line_text (job_line job)
text job = four-text (codes "job") (property_name job.property) (realisation_name job.design.realisation) (rounding_name job.design.rounding) (overflow_mode_name job.design.overflow) (size_pieces job.size)

pub returns-in_err-put_all : goal.returns-in_err-put_all
returns-in_err-put_all g c =
    let job = c.args.job.now in
    writes_as (text job) (writes_cut (names job ++ (modes job ++ (spaced (size_pieces job.size) ++ 10 ∷ []))) c.from_residual.ensures.0 c.in_err-put_all.ensures.cut)

pub returns-in_err-put_names : goal.returns-in_err-put_names
returns-in_err-put_names g c =
    let job = c.args.job.now in
    writes_as (text job) (writes_after c.in_ok-put_all.ensures.whole
    (writes_cut (modes job ++ (spaced (size_pieces job.size) ++ 10 ∷ [])) c.from_residual-in_err-put_names.ensures.0 c.in_err-put_names.ensures.cut))

pub returns-in_err-put_modes : goal.returns-in_err-put_modes
returns-in_err-put_modes g c =
    let job = c.args.job.now in
    writes_as (text job) (writes_after c.in_ok-put_all.ensures.whole (writes_after c.in_ok-put_names.ensures.whole
    (writes_cut (spaced (size_pieces job.size) ++ 10 ∷ []) c.from_residual-in_err-put_modes.ensures.0 c.in_err-put_modes.ensures.cut)))

pub returns-in_err-put_size : goal.returns-in_err-put_size
returns-in_err-put_size g c =
    let job = c.args.job.now in
    writes_as (text job) (writes_after c.in_ok-put_all.ensures.whole (writes_after c.in_ok-put_names.ensures.whole
    (writes_after c.in_ok-put_modes.ensures.whole (writes_cut (10 ∷ []) c.from_residual-in_err-put_size.ensures.0 c.in_err-put_size.ensures.cut))))

pub returns : goal.returns
returns g c =
    let job = c.args.job.now in
    writes_as (text job) (writes_after c.in_ok-put_all.ensures.whole (writes_after c.in_ok-put_names.ensures.whole
    (writes_after c.in_ok-put_modes.ensures.whole (writes_after c.in_ok-put_size.ensures.whole c.put_all-2.ensures))))
