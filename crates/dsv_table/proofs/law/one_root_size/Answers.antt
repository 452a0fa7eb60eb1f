use Rattle.dsv_table.proofs.RootSizes.{one_root_size, root_sizes_are_shown}
use Rattle.dsv_table.proofs.law.one_root_size.Goals as goal

pub returns-clause-one : goal.returns-clause-one
returns-clause-one c = one_root_size

pub returns-clause-shown : goal.returns-clause-shown
returns-clause-shown c = root_sizes_are_shown
