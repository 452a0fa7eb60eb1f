use Rattle.std.proofs.Common.{rules, ◌≡◌, length}
use Rattle.std.specs.List.{position_or_len}
use Rattle.dsv_command.specs.Shapes.{is_equals}
use Rattle.dsv_command.proofs.MarkLemmas.{long_alone}
use Rattle.dsv_command.proofs.marks.shape_after_dashes.Goals as goal

pub returns-in-None : goal.returns-in-None
returns-in-None c =
    let last : position_or_len is_equals c.args.name.now ≡ length c.args.name.now = search rules in
    long_alone c.args.name.now (search rules) last
