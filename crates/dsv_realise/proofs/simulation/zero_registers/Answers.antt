use Rattle.std.proofs.Common.{◌≡◌, replicate, pos, rules}
use Rattle.std.proofs.lemmas.List.Elements.{All-replicate}
use Rattle.dsv_word.specs.Words.{IsWord}
use Rattle.dsv_realise.proofs.Rows.{zero_word}
use Rattle.dsv_realise.proofs.simulation.zero_registers.Goals as goal

pub returns-clause-words : goal.returns-clause-words
returns-clause-words c =
    let words : c.in_ok-vec.field-0.items ≡ replicate c.registers.result (pos 0) = search rules in
    rw words (All-replicate (IsWord c.args.net.now.format) c.registers.result (pos 0) (zero_word c.args.net.now.format))
