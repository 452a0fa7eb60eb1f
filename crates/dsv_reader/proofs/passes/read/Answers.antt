use Rattle.dsv_reader.proofs.TextLaws.{gives_text}
use Rattle.dsv_reader.proofs.passes.read.Goals as goal

pub returns-clause-text : goal.returns-clause-text
returns-clause-text c = gives_text c.args.bytes.now c.read_passes.result c.read_passes.ensures
