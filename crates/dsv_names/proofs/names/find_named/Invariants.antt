use Rattle.std.proofs.Common.{◌≡◌, drop}
use Rattle.dsv_names.specs.Names.{value_named}
use Rattle.dsv_names.proofs.names.find_named.Given as goal

-- what is found among the values that are left is found among all
abbrev pub invariant-loop-value : goal.invariant-loop-value
invariant-loop-value g l = value_named g.N.Named.name_of (drop l.value-index l.value-items) l.text ≡ value_named g.N.Named.name_of g.N.Named.all_values l.text
