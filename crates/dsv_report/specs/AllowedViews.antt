-- Scaffolding: what contracts see of the table of allowed values.
use Rattle.std.specs.Prelude.{ℕ, List, map}
use Rattle.dsv_report.specs.declared.reasons.OptionValues.{OptionValues}

abbrev pub allowed_view : List OptionValues → List (List ℕ × List ℕ)
allowed_view = map (λ allowed. (allowed.option.now, allowed.values.now))
