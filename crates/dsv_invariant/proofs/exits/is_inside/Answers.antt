use Rattle.dsv_invariant.proofs.SomeWords.{some_words}
use Rattle.dsv_invariant.proofs.exits.is_inside.Goals as goal

pub contains-requires-clause-words : goal.contains-requires-clause-words
contains-requires-clause-words c = some_words c.args.net.now.format c.args.registers.now c.requires.registers.words
