use Rattle.std.proofs.Common.{arith}
use Rattle.std.proofs.lemmas.Nat.{pow_pos}
use Rattle.dsv_term.proofs.Building.{stands-width}
use Rattle.dsv_rewrite.proofs.CopyRules.{shift_stands}
use Rattle.dsv_rewrite.proofs.digits.shifted_term.Goals as goal

pub part_term-requires-clause-narrow : goal.part_term-requires-clause-narrow
part_term-requires-clause-narrow c =
    let r = c.requires in
    omega (arith, r.wide, (stands-width c.args.terms.now c.args.a r.sound r.stands).narrow)

pub constant_term-requires : goal.constant_term-requires
constant_term-requires c =
    let r = c.requires in
    let w = stands-width c.args.terms.now c.args.a r.sound r.stands in
    let f = c.if-shift-eq0.false in
    record { lawful = record { some = omega arith; narrow = omega (arith, r.wide, r.inside, w.narrow) }; fits = pow_pos c.args.shift }

pub joined_term-requires-clause-sound : goal.joined_term-requires-clause-sound
joined_term-requires-clause-sound c =
    let r = c.requires in
    let f = c.if-shift-eq0.false in
    (shift_stands c.args.terms.now c.part_term.new.terms c.constant_term.new.terms c.args.a c.in_ok-low.low c.in_ok-zeros.zeros c.args.width c.args.shift r.sound r.stands r.wide (omega arith) r.inside c.in_ok-low.ensures c.in_ok-zeros.ensures).sound

pub joined_term-requires-clause-first : goal.joined_term-requires-clause-first
joined_term-requires-clause-first c =
    let r = c.requires in
    let f = c.if-shift-eq0.false in
    (shift_stands c.args.terms.now c.part_term.new.terms c.constant_term.new.terms c.args.a c.in_ok-low.low c.in_ok-zeros.zeros c.args.width c.args.shift r.sound r.stands r.wide (omega arith) r.inside c.in_ok-low.ensures c.in_ok-zeros.ensures).first

pub joined_term-requires-clause-second : goal.joined_term-requires-clause-second
joined_term-requires-clause-second c =
    let r = c.requires in
    let f = c.if-shift-eq0.false in
    (shift_stands c.args.terms.now c.part_term.new.terms c.constant_term.new.terms c.args.a c.in_ok-low.low c.in_ok-zeros.zeros c.args.width c.args.shift r.sound r.stands r.wide (omega arith) r.inside c.in_ok-low.ensures c.in_ok-zeros.ensures).second

pub joined_term-requires-clause-narrow : goal.joined_term-requires-clause-narrow
joined_term-requires-clause-narrow c =
    let r = c.requires in
    let f = c.if-shift-eq0.false in
    (shift_stands c.args.terms.now c.part_term.new.terms c.constant_term.new.terms c.args.a c.in_ok-low.low c.in_ok-zeros.zeros c.args.width c.args.shift r.sound r.stands r.wide (omega arith) r.inside c.in_ok-low.ensures c.in_ok-zeros.ensures).narrow
