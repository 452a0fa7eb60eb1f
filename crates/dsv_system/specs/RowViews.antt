-- Rows as contracts see them.
use Rattle.dsv_system.specs.declared.rows.Row.{Row}
use Rattle.dsv_system.specs.Runs.{SampleRow}

abbrev pub row_of : Row → SampleRow
row_of r = record { x = r.x; y = r.y; exact = r.exact.items }
