use Rattle.std.proofs.Common.{◌≡◌, ◌≢◌, ℕ, ◌-◌, ◌<◌, Bool, true, ℤ, length, Some, below_more, get_or-set_other, get_or-set_same, length-set, sym, ap, arith, rules, ◌∙◌}
use Rattle.std.specs.Prelude.{is_none}
use Rattle.std.proofs.lemmas.Int.{to_z-of_z}
use mir.Syntax.{w128}
use mir.Val.{SFits}
use Rattle.dsv_algebra.specs.Vectors.{vector_of}
use Rattle.dsv_forms.proofs.Places.{any_true, any_false}
use Rattle.dsv_ellipsoid.specs.Sums.{sum_of, places_of}
use Rattle.dsv_ellipsoid.proofs.entries.form_row.Goals as goal

pub returns-in_err-entry-clause-wide : goal.returns-in_err-entry-clause-wide
returns-in_err-entry-clause-wide c =
    let d = length c.args.c.now - 1 in
    let wide : ℕ → Bool = λ j. is_none (sum_of c.args.kind d (vector_of c.args.c.now) c.args.offer.now c.args.i j) in
    let gone : is_none c.from_residual.result ≡ true = search rules in
    let inside : c.loop-j.j < places_of c.args.kind d = rw c.places_of-j-end.ensures at c.loop-j-test.true in
    gone ∙ sym (any_true wide (places_of c.args.kind d) c.loop-j.j inside (ap is_none (sym c.entry.ensures ∙ c.in_err-entry.was)))

pub loop-j-preserved : goal.loop-j-preserved
loop-j-preserved c =
    let x : ℤ = c.get.result in
    let j = c.loop-j.j in
    let fits : SFits w128 x = search rules in
    let long = c.loop-j.invariant.size in
    let few : j < 8 = search rules in
    let inside : j < length c.loop-j.row = omega (arith, long, few) in
    let own = sym c.entry.ensures ∙ c.in_ok-entry.was ∙ ap Some (sym c.get.ensures) in
    rw (to_z-of_z w128 x fits) (record {
      size = length-set c.loop-j.row j x ∙ long;
      entries = below_more _ _ (λ k h. let apart : k ≢ j = omega arith in rw get_or-set_other (c.loop-j.invariant.entries k h)) (rw get_or-set_same own);
      after = λ k h. let apart : k ≢ j = omega arith in rw get_or-set_other (c.loop-j.invariant.after k (omega arith));
    })

pub returns-clause-wide : goal.returns-clause-wide
returns-clause-wide c =
    let d = length c.args.c.now - 1 in
    let wide : ℕ → Bool = λ j. is_none (sum_of c.args.kind d (vector_of c.args.c.now) c.args.offer.now c.args.i j) in
    let n : c.places_of-j-end.result ≡ places_of c.args.kind d = c.places_of-j-end.ensures in
    sym (any_false wide (places_of c.args.kind d) (λ k h. ap is_none (c.loop-j.invariant.entries k (omega (arith, n, h)))))
