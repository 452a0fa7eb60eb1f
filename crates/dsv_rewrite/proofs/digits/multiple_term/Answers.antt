use Rattle.std.proofs.Common.{◌≡◌, rules, arith, ap, sym, ◌∙◌, ℕ, ℤ, FitsSigned, w64, to_z}
use Rattle.std.specs.Int.{w128}
use Rattle.std.proofs.lemmas.Int.{ints, to_z-of_z}
use Rattle.dsv_term.specs.Terms.{width_of}
use Rattle.dsv_rewrite.specs.declared.digits.Digit.{Digit}
use Rattle.dsv_rewrite.specs.Digits.{lowest_digit, with_digit, above_digit}
use Rattle.dsv_rewrite.specs.Ready.{copies_of, multiple_of, IsSmall}
use Rattle.dsv_rewrite.proofs.MultipleRules.{IsMultiple, multiple_start, multiple_step, multiple_end}
use Rattle.dsv_rewrite.proofs.digits.multiple_term.Goals as goal

pub loop-shift-init : goal.loop-shift-init
loop-shift-init c =
    let t = c.args.terms.now in
    let f : FitsSigned w64 c.args.coeff = search rules in
    let g : FitsSigned w128 c.from-rest.result = search rules in
    let e : c.from-rest.result ≡ c.args.coeff = search rules in
    let b = f.sfits in
    let small : IsSmall c.args.coeff = record { low = omega (arith, ints, b); high = omega (arith, ints, b) } in
    rw (to_z-of_z w64 c.args.coeff f, to_z-of_z w128 c.from-rest.result g, e)
    (multiple_start t c.args.a c.args.coeff c.width-width.result c.requires.sound small)

pub loop-shift-preserved : goal.loop-shift-preserved
loop-shift-preserved c =
    let l = c.loop-shift in
    let rest : ℤ = to_z w128 l.rest-bits in
    let t = c.args.terms.now in
    let a = c.args.a in
    let m = multiple_of l.terms (copies_of l.copies) in
    let now = multiple_of c.with_digit.new.terms (copies_of c.in_ok-copies.copies) in
    let f : FitsSigned w64 c.args.coeff = search rules in
    let g : FitsSigned w128 c.above_digit-rest.result = search rules in
    let i : IsMultiple t a c.args.coeff c.width-width.result m rest l.shift = rw (to_z-of_z w64 c.args.coeff f) at l.invariant in
    let k : width_of l.terms a ≡ c.width-width.result = i.counted.counts.kept.widths a c.requires.stands ∙ sym c.width-width.ensures.width in
    let d : c.lowest_digit.result ≡ lowest_digit rest = search rules in
    let n : c.above_digit-rest.result ≡ above_digit rest = search rules in
    rw (to_z-of_z w64 c.args.coeff f, to_z-of_z w128 c.above_digit-rest.result g)
    (multiple_step t a c.args.coeff c.width-width.result m now rest c.above_digit-rest.result l.shift c.requires.stands c.width-width.ensures.width c.loop-shift-test.true
    i (c.in_ok-copies.ensures ∙ (ap (λ (q : Digit). with_digit q (width_of l.terms a) l.shift a m) d ∙ ap (λ (w : ℕ). with_digit (lowest_digit rest) w l.shift a m) k)) n)

pub returns : goal.returns
returns c =
    let l = c.loop-shift in
    let rest : ℤ = to_z w128 l.rest-bits in
    let m = multiple_of l.terms (copies_of l.copies) in
    let f : FitsSigned w64 c.args.coeff = search rules in
    let i : IsMultiple c.args.terms.now c.args.a c.args.coeff c.width-width.result m rest l.shift = rw (to_z-of_z w64 c.args.coeff f) at l.invariant in
    let e = multiple_end c.args.terms.now c.args.a c.args.coeff c.width-width.result m rest l.shift c.width-width.ensures.width c.loop-shift-test.false i in
    rw (← e) c.copies_term.ensures
