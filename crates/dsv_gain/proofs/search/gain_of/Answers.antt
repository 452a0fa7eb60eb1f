use Rattle.dsv_gain.proofs.GainLaws.{gain_is, made_holds, holds_safe, made_within}
use Rattle.dsv_gain.proofs.search.gain_of.Goals as goal

pub returns-clause-made : goal.returns-clause-made
returns-clause-made c =
    let s = c.args.subject.now in
    gain_is s.net.now s.low s.high c.args.limit c.in_ok-found.found c.with_narrowed.result c.in_ok-found.ensures c.with_narrowed.ensures

pub returns-clause-holds : goal.returns-clause-holds
returns-clause-holds c =
    let s = c.args.subject.now in
    made_holds s.net.now s.low s.high c.args.limit c.with_narrowed.result c.len-count.ensures.netlist s.low_word s.high_word (returns-clause-made c)

pub returns-clause-safe : goal.returns-clause-safe
returns-clause-safe c =
    let s = c.args.subject.now in
    holds_safe s.net.now s.low s.high c.with_narrowed.result (returns-clause-holds c)

pub returns-clause-within : goal.returns-clause-within
returns-clause-within c =
    let s = c.args.subject.now in
    made_within s.net.now s.low s.high c.args.limit c.with_narrowed.result (returns-clause-made c)
