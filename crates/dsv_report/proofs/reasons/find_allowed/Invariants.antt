use Rattle.std.proofs.Common.{◌≡◌, drop}
use Rattle.std.specs.Map.{lookup}
use Rattle.std.specs.Str.{bytes_eq}
use Rattle.dsv_report.specs.AllowedViews.{allowed_view}
use Rattle.dsv_report.proofs.reasons.find_allowed.Given as goal

abbrev pub invariant-loop-allowed : goal.invariant-loop-allowed
invariant-loop-allowed l = lookup (bytes_eq l.name) (allowed_view (drop l.allowed-index l.table)) ≡ lookup (bytes_eq l.name) (allowed_view l.table)
