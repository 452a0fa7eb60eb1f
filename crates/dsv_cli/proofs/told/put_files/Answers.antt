use Rattle.std.proofs.Common.{[], arith}
use Rattle.dsv_base.proofs.ListWrites.{cut_item}
use Rattle.dsv_base.proofs.TakingLemmas.{writes_err}
use Rattle.dsv_cli.specs.Told.{file_line}
use Rattle.dsv_cli.proofs.told.put_files.Goals as goal

pub returns-in_err-put_file : goal.returns-in_err-put_file
returns-in_err-put_file g c =
    writes_err c.from_residual.ensures.0 (cut_item file_line [] c.args.digests.now c.loop-file.file-index c.file-item.result (omega arith) c.loop-file.invariant (rw c.file-item.is at c.in_err-put_file.ensures.cut))
