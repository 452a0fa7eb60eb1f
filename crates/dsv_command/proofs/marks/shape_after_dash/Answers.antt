use Rattle.std.proofs.Common.{rules, arith}
use Rattle.std.proofs.lemmas.Str.Pattern.{strip_prefix_char}
use Rattle.dsv_command.proofs.MarkLemmas.{dashed_alone}
use Rattle.dsv_command.proofs.marks.shape_after_dash.Goals as goal

pub returns-in-None-2 : goal.returns-in-None-2
returns-in-None-2 c =
    dashed_alone c.args.rest.now (search rules) (rw c.in-None-2.is at (strip_prefix_char 45 c.args.rest.now c.strip_prefix.result c.strip_prefix.ensures.cases (omega arith)))
