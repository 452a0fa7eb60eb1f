use Rattle.std.proofs.Common.{length, map}
use Rattle.dsv_base.proofs.TakingLemmas.{writes_after, writes_cut}
use Rattle.dsv_c.specs.Programs.{program_of}
use Rattle.dsv_system.specs.RowViews.{row_of}
use Rattle.dsv_ctext.specs.UnitTexts.{labels_of, unit_text}
use Rattle.dsv_code.specs.Code.{test_of, code_bytes}
use Rattle.dsv_code.proofs.code.put_code.Goals as goal

pub returns-in_err-put_program : goal.returns-in_err-put_program
unfolding code_bytes
returns-in_err-put_program g c = writes_cut {x = (unit_text (labels_of c.args.labels.now.prefix.now c.args.labels.now.members.now c.args.labels.now.remarks) (length c.args.net.now.next) (program_of c.args.net.now))} ((test_of c.args.net.now.format c.args.labels.now.prefix.now (map row_of c.args.rows.now))) c.from_residual.ensures.0 c.in_err-put_program.ensures.cut

pub returns : goal.returns
unfolding code_bytes
returns g c = writes_after {x = (unit_text (labels_of c.args.labels.now.prefix.now c.args.labels.now.members.now c.args.labels.now.remarks) (length c.args.net.now.next) (program_of c.args.net.now))} {y = (test_of c.args.net.now.format c.args.labels.now.prefix.now (map row_of c.args.rows.now))} c.in_ok-put_program.ensures.whole (c.put_net_test.ensures)
