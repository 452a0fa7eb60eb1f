use Rattle.std.proofs.Common.{◌≡◌, ℕ, ◌-◌, ◌<◌, Bool, true, length, sym, ap, arith, rules, ◌∙◌}
use Rattle.std.specs.Prelude.{is_none}
use Rattle.std.specs.List.{list_any}
use Rattle.dsv_algebra.specs.Vectors.{vector_of}
use Rattle.dsv_forms.specs.Refusals.{places}
use Rattle.dsv_forms.proofs.Places.{any_true, any_false}
use Rattle.dsv_ellipsoid.specs.Sums.{sum_of, places_of}
use Rattle.dsv_ellipsoid.proofs.entries.tested_form.Goals as goal

pub returns-in_err-rows-clause-wide : goal.returns-in_err-rows-clause-wide
returns-in_err-rows-clause-wide c =
    let d = length c.args.c.now - 1 in
    let n = places_of c.args.kind d in
    let wide : ℕ → Bool = λ i. list_any (λ j. is_none (sum_of c.args.kind d (vector_of c.args.c.now) c.args.offer.now i j)) (places n) in
    let gone : is_none c.from_residual.result ≡ true = search rules in
    let inside : c.loop-i.i < n = rw c.places_of-d.ensures at c.loop-i-test.true in
    gone ∙ sym (any_true wide n c.loop-i.i inside (sym c.form_row.ensures.wide ∙ ap is_none c.in_err-rows.was))

pub returns-clause-wide : goal.returns-clause-wide
returns-clause-wide c =
    let d = length c.args.c.now - 1 in
    let n = places_of c.args.kind d in
    let entry : ℕ → ℕ → Bool = λ i j. is_none (sum_of c.args.kind d (vector_of c.args.c.now) c.args.offer.now i j) in
    let wide : ℕ → Bool = λ i. list_any (entry i) (places n) in
    let e : c.places_of-d.result ≡ n = c.places_of-d.ensures in
    sym (any_false wide n (λ i h. any_false (entry i) n (λ j g. ap is_none (c.loop-i.invariant.entries i j (omega (arith, e, h)) g))))
