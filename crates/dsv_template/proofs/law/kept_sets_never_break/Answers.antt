use Rattle.std.specs.Prelude.{List, ℤ}
use Rattle.dsv_template.proofs.KeptSets.{kept_never_breaks}
use Rattle.dsv_template.proofs.law.kept_sets_never_break.Goals as goal

pub returns : goal.returns
returns c = kept_never_breaks (List ℤ)
