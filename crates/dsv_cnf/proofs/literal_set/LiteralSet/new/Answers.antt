use Rattle.std.proofs.Common.{List, Bool, ◌*◌, ap}
use Rattle.dsv_cnf.specs.LiteralSet.{SetView}
use Rattle.dsv_cnf.proofs.SetLemmas.{set-fresh}
use Rattle.dsv_cnf.proofs.literal_set.LiteralSet.new.Goals as goal

pub returns : goal.returns
returns c =
    let seen : List Bool → SetView = λ marks. record { vars = c.args.vars; marks = marks } in
    ap seen (set-fresh c.in_ok-vec.field-0.items (2 * c.args.vars) (c.in_ok-vec.ensures.items_if_clones_equal (λ y h. h)))
