use Rattle.std.proofs.Common.{◌≡◌, ap, subst}
use Rattle.std.specs.Prelude.{IfOk}
use Rattle.dsv_meaning.specs.Equations.{forward_summands}
use Rattle.dsv_realise.specs.Making.{Made, line_nodes}
use Rattle.dsv_realise.specs.Netlists.{newest_at, second_form}
use Rattle.dsv_realise.proofs.forms.second_form.Goals as goal

pub returns-clause-made : goal.returns-clause-made
returns-clause-made c =
    let q = c.args.quantised.now in
    let e : line_nodes q c.args.nodes.now.items (forward_summands q (newest_at c.args.state)) ≡ second_form q = ap (λ (m : Made). line_nodes q m.nodes (forward_summands q (newest_at m.place))) c.requires.begun in
    subst (λ (m : Made). IfOk c.line.result (λ place. record { nodes = c.line.new.nodes.items; place = place } ≡ m)) e (rw c.forward_summands.ensures.value at c.line.ensures.made)
