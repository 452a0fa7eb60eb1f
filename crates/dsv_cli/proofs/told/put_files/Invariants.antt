use Rattle.std.proofs.Common.{take}
use Rattle.std.specs.List.{flat_map}
use Rattle.dsv_base.specs.Taking.{Wrote}
use Rattle.dsv_cli.specs.Told.{file_line}
use Rattle.dsv_cli.proofs.told.put_files.Given as goal

abbrev pub invariant-loop-file : goal.invariant-loop-file
invariant-loop-file g l = Wrote (g.K.Sink.seen l.fn.sink) (g.K.Sink.seen l.sink) (flat_map file_line (take l.file-index l.digests))
