use Rattle.std.proofs.Common.{arith}
use Rattle.std.proofs.lemmas.Str.Pattern.{strip_prefix_char}
use Rattle.dsv_command.proofs.MarkLemmas.{plain_alone}
use Rattle.dsv_command.proofs.marks.shape_of.Goals as goal

pub returns-in-None : goal.returns-in-None
returns-in-None c = plain_alone c.args.argument.now (rw c.in-None.is at (strip_prefix_char 45 c.args.argument.now c.strip_prefix.result c.strip_prefix.ensures.cases (omega arith)))
