-- Serves private contracts: what a netlist is put together from.
use Rattle.std.specs.Prelude.{ℕ, Bool, true, not, List, [], ◌∷◌}
use Rattle.dsv_names.specs.declared.realisation.Realisation.{Realisation}
use Rattle.dsv_quantiser.specs.QuantisedView.{QuantisedView}
use Rattle.dsv_netlist.specs.Nodes.{Net}
use Rattle.dsv_realise.specs.declared.parts.BuiltLine.{BuiltLine}
use Rattle.dsv_realise.specs.declared.parts.Parts.{Parts}
use Rattle.dsv_meaning.specs.declared.summands.Summand.{Summand}
use Rattle.dsv_realise.specs.Making.{Made, is_away}
use Rattle.dsv_realise.specs.Netlists.{net_with}

-- the most nodes after a netlist's first line, after its second, and before the new words of its
-- registers; and the most nodes that the input and the registers take
abbrev pub most_line_nodes : ℕ
most_line_nodes = 200

abbrev pub most_second_line_nodes : ℕ
most_second_line_nodes = 300

abbrev pub most_state_nodes : ℕ
most_state_nodes = 400

abbrev pub most_source_nodes : ℕ
most_source_nodes = 100

abbrev pub line_made : BuiltLine → Made
line_made form = record { nodes = form.nodes.items; place = form.place }

abbrev pub parts_as : Realisation → QuantisedView → Parts → Net
parts_as realisation q p = net_with q realisation p.nodes.items p.next.items p.output

-- the first summand isn't taken away
abbrev pub begins_added : List (Summand ℕ) → Bool
begins_added [] = true
begins_added (t ∷ ts) = not (is_away t)
