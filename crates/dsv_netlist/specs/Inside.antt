-- Serves private contracts: a netlist's fields, as its view and invariant see them.
use Rattle.std.specs.Prelude.{◌≡◌, length, take}
use Rattle.dsv_netlist.specs.declared.netlist.Netlist.TheInside.{Inside}
use Rattle.dsv_netlist.specs.Nodes.{Net, net_from}
use Rattle.dsv_netlist.specs.Bounds.{bounds_of}
use Rattle.dsv_netlist.specs.Conditions.{IsNetlist}

abbrev pub view_of : Inside → Net
view_of inside = net_from inside.nodes.items inside.next.items inside.output inside.feed_forward
    inside.format

-- the fields are a netlist's, and the bounds are its nodes'
pub record IsInside (inside : Inside) : Type 0 where
  pub netlist : IsNetlist (view_of inside)
  pub bounds : take (length inside.nodes.items) inside.bounds
      ≡ bounds_of inside.format inside.nodes.items
