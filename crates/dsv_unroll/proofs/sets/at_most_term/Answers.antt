use Rattle.std.proofs.Common.{◌≡◌, arith, rules}
use Rattle.std.specs.Prelude.{max}
use Rattle.std.specs.Int.RustNames.{unsigned_abs}
use Rattle.dsv_algebra.proofs.Casts.{casts}
use Rattle.dsv_term.specs.Terms.{width_of}
use Rattle.dsv_unroll.specs.Rules.{width_for}
use Rattle.dsv_unroll.proofs.SetTerms.{bound_width}
use Rattle.dsv_unroll.proofs.sets.at_most_term.Goals as goal

pub widened_term-requires-clause-narrow : goal.widened_term-requires-clause-narrow
widened_term-requires-clause-narrow c =
    let e : c.max-bits.result ≡ max (width_of c.args.terms.now c.args.id) (width_for (unsigned_abs c.args.bound.now)) = search (rules, casts) in
    let w = bound_width c.args.terms.now c.args.id c.args.bound.now c.requires.sound c.requires.value c.requires.small in
    omega (arith, e, w.narrow)

pub of_signed-word-requires : goal.of_signed-word-requires
of_signed-word-requires c =
    let e : c.max-bits.result ≡ max (width_of c.args.terms.now c.args.id) (width_for (unsigned_abs c.args.bound.now)) = search (rules, casts) in
    let w = bound_width c.args.terms.now c.args.id c.args.bound.now c.requires.sound c.requires.value c.requires.small in
    record { some = omega (arith, e, w.some); narrow = omega (arith, e, w.narrow) }

pub constant-requires-clause-width : goal.constant-requires-clause-width
constant-requires-clause-width c =
    let e : c.max-bits.result ≡ max (width_of c.args.terms.now c.args.id) (width_for (unsigned_abs c.args.bound.now)) = search (rules, casts) in
    let w = bound_width c.args.terms.now c.args.id c.args.bound.now c.requires.sound c.requires.value c.requires.small in
    record { some = omega (arith, e, w.some); narrow = omega (arith, e, w.narrow) }
