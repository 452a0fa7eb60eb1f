use Rattle.dsv_state_space.proofs.StateWords.{words_meant}
use Rattle.dsv_state_space.proofs.quantisation.lane_words.Goals as goal

pub returns-in-Ok-clause-meaning : goal.returns-in-Ok-clause-meaning
returns-in-Ok-clause-meaning c = rw c.new.ensures (words_meant c.args.format c.args.numbers.now c.in-Ok.words.items c.in-Ok.ensures.meaning)
