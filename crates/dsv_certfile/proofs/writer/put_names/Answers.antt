use Rattle.dsv_base.specs.Text.{spaced_text}
use Rattle.dsv_base.proofs.TakingLemmas.{writes_after, writes_cut}
use Rattle.dsv_names.specs.Realisations.{realisation_name}
use Rattle.dsv_lines.specs.Texts.{piece_text}
use Rattle.dsv_certfile.proofs.writer.put_names.Goals as goal

pub returns-in_err-put_name : goal.returns-in_err-put_name
returns-in_err-put_name g c = writes_cut (spaced_text piece_text (realisation_name c.args.job.now.design.realisation)) c.from_residual.ensures.0 c.in_err-put_name.ensures.cut

pub returns : goal.returns
returns g c = writes_after c.in_ok-put_name.ensures.whole c.put_name-2.ensures
