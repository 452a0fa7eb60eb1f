use Rattle.std.proofs.Common.{rules}
use Rattle.dsv_files.proofs.FileBytes.{long_unread}
use Rattle.dsv_files.proofs.file_bytes.read_bytes.Goals as goal

pub returns-in-Err-TooLong-clause-unread : goal.returns-in-Err-TooLong-clause-unread
returns-in-Err-TooLong-clause-unread g c =
    long_unread (g.F.Files.seen c.args.files.now) (g.F.Files.seen c.read_all.new.files) c.args.name.now c.args.which c.too_long_stop.result c.too_long_stop.ensures (search rules) (search rules)
