use Rattle.dsv_template.proofs.Membership.{entry_read, entry_bounds}
use Rattle.dsv_template.proofs.candidate.entry.Goals as goal

pub returns-clause-value : goal.returns-clause-value
returns-clause-value c =
    entry_read c.args.coefficient.now c.args.register.now c.from.result c.from-2.result c.requires.small c.requires.word c.from.ensures c.from-2.ensures

pub returns-clause-least : goal.returns-clause-least
returns-clause-least c =
    let z = c.args.coefficient.now in
    let r = c.args.register.now in
    rw (entry_read z r c.from.result c.from-2.result c.requires.small c.requires.word c.from.ensures c.from-2.ensures) (entry_bounds z r c.requires.small c.requires.word).0

pub returns-clause-greatest : goal.returns-clause-greatest
returns-clause-greatest c =
    let z = c.args.coefficient.now in
    let r = c.args.register.now in
    rw (entry_read z r c.from.result c.from-2.result c.requires.small c.requires.word c.from.ensures c.from-2.ensures) (entry_bounds z r c.requires.small c.requires.word).1
