use Rattle.std.proofs.Common.{◌≡◌, ◌<◌, length, Result, Err, sym, ap, ◌∙◌, arith, rules}
use Rattle.dsv_ellipsoid.specs.declared.refusal.EllipsoidRefusal.{EllipsoidRefusal}
use Rattle.dsv_ellipsoid.specs.declared.intervals.Walk.{Walk}
use Rattle.dsv_ellipsoid.specs.Walks.{refusal_then}
use Rattle.dsv_ellipsoid.proofs.WalkLemmas.{product_passes, product_stops}
use Rattle.dsv_ellipsoid.proofs.intervals.walk_products.Goals as goal

pub returns-in_err-now-clause-walked : goal.returns-in_err-now-clause-walked
returns-in_err-now-clause-walked c rest =
    let e = c.in_err-now.field-0.0 in
    let f = c.args.format.now in
    let inside : c.loop-i.i < length c.args.coeffs.now = omega arith in
    let gone : ◌≡◌ {A = Result Walk EllipsoidRefusal} c.from_residual.result (Err e) = search rules in
    c.loop-i.invariant.same rest
    ∙ product_stops f c.args.away c.args.coeffs.now c.loop-i.i c.args.numbers.now c.loop-i.now e c.walk_with.result inside c.in_err-now.was c.walk_with.ensures.refusal rest
    ∙ sym (ap (λ r. refusal_then f r rest) gone)

pub loop-i-preserved : goal.loop-i-preserved
loop-i-preserved c =
    let f = c.args.format.now in
    let inside : c.loop-i.i < length c.args.coeffs.now = omega arith in
    let v = c.in_ok-now.now in
    record {
      same = λ rest. c.loop-i.invariant.same rest
          ∙ product_passes f c.args.away c.args.coeffs.now c.loop-i.i c.args.numbers.now c.loop-i.now v c.walk_with.result inside c.in_ok-now.was c.walk_with.ensures.refusal c.in_ok-now.ensures.next rest;
      small = c.in_ok-now.ensures.small;
      count = (let e = ap (λ (w : Walk). w.value) c.in_ok-now.ensures.next in let h = c.loop-i.invariant.count in omega (arith, e, h));
    }
