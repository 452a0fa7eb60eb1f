use Rattle.std.proofs.Common.{arith}
use Rattle.std.proofs.lemmas.Map.Text.{text_keys}
use Rattle.dsv_base.proofs.mem_files.MemFiles.hold.Goals as goal

pub returns-clause-ok : goal.returns-clause-ok
returns-clause-ok c = record { now = grind (arith, text_keys); others = λ other apart. grind (arith, text_keys) }
