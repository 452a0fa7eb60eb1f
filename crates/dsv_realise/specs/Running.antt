-- How many operations the netlists of the realisations take.
use Rattle.std.specs.Prelude.{ℕ}
use Rattle.dsv_names.specs.declared.realisation.Realisation.{Realisation}
use Rattle.dsv_netlist.specs.declared.netlist.OpCounts.{OpCounts}
use Rattle.dsv_meaning.specs.Equations.{registers_of, products_of, sums_of}

-- the table's counts of a realisation
abbrev pub counts_as : Realisation → ℕ → OpCounts
counts_as realisation n =
    record {
      products = products_of realisation n;
      sums = sums_of realisation n;
      moves = registers_of realisation n;
    }
