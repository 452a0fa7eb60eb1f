use Rattle.std.proofs.Common.{◌≡◌, ℕ, ◌+◌, ◌-◌, length, inl, inr, refl, arith, rules, sym, ap, subst, ◌∙◌}
use Rattle.std.specs.Prelude.{Some}
use Rattle.std.proofs.Math.IntN.{ℤ}
use Rattle.dsv_algebra.specs.Narrow.{narrow_of}
use Rattle.dsv_linear.specs.Forms.{total, factor_term}
use Rattle.dsv_linear.proofs.Entries.{total_more, total_stop, total_passed}
use Rattle.dsv_linear.proofs.Rests.{factor_sum-drop, total_none}
use Rattle.dsv_linear.proofs.extremes.factor_sum.Goals as goal

pub loop-j-init : goal.loop-j-init
loop-j-init c = record {
  sum = total_none (λ i. factor_term c.args.factor c.args.ranges.now c.args.form.now (c.args.from + i)) (c.args.from - c.args.from) c.from-sum.result (omega arith) (search rules);
  place = inl refl;
}

pub loop-j-preserved : goal.loop-j-preserved
loop-j-preserved c =
    let j = c.loop-j.j in
    let from = c.args.from in
    let f : ℕ → ℤ = λ i. factor_term c.args.factor c.args.ranges.now c.args.form.now (from + i) in
    let place : j ≡ from + (j - from) = omega arith in
    let next : j - from + 1 ≡ j + 1 - from = omega arith in
    record {
      sum = subst (λ (n : ℕ). total n f ≡ Some c.in_ok-sum.sum) next
          (total_more f (j - from) c.loop-j.sum c.in_ok-term.term c.in_ok-sum.sum c.loop-j.invariant.sum
          (sym c.in_ok-term.was ∙ c.factor_term.ensures ∙ ap (λ i. narrow_of (factor_term c.args.factor c.args.ranges.now c.args.form.now i)) place) (sym c.in_ok-sum.was ∙ c.checked_add.ensures));
      place = inr (omega arith);
    }

pub returns-in_err-term : goal.returns-in_err-term
returns-in_err-term c =
    let j = c.loop-j.j in
    let from = c.args.from in
    let f : ℕ → ℤ = λ i. factor_term c.args.factor c.args.ranges.now c.args.form.now (from + i) in
    let place : j ≡ from + (j - from) = omega arith in
    c.from_residual.ensures
    ∙ total_stop f (j - from) (length c.args.ranges.now - from) c.loop-j.sum (omega arith) c.loop-j.invariant.sum
    (sym c.in_err-term.was ∙ c.factor_term.ensures ∙ ap (λ i. narrow_of (factor_term c.args.factor c.args.ranges.now c.args.form.now i)) place)
    ∙ sym (factor_sum-drop c.args.factor from c.args.ranges.now c.args.form.now)

pub returns-in_err-sum : goal.returns-in_err-sum
returns-in_err-sum c =
    let j = c.loop-j.j in
    let from = c.args.from in
    let f : ℕ → ℤ = λ i. factor_term c.args.factor c.args.ranges.now c.args.form.now (from + i) in
    let place : j ≡ from + (j - from) = omega arith in
    c.from_residual-in_err-sum.ensures
    ∙ total_passed f (j - from) (length c.args.ranges.now - from) c.loop-j.sum c.in_ok-term.term (omega arith) c.loop-j.invariant.sum
    (sym c.in_ok-term.was ∙ c.factor_term.ensures ∙ ap (λ i. narrow_of (factor_term c.args.factor c.args.ranges.now c.args.form.now i)) place) (sym c.in_err-sum.was ∙ c.checked_add.ensures)
    ∙ sym (factor_sum-drop c.args.factor from c.args.ranges.now c.args.form.now)

pub returns : goal.returns
returns c =
    let from = c.args.from in
    let f : ℕ → ℤ = λ i. factor_term c.args.factor c.args.ranges.now c.args.form.now (from + i) in
    let place : c.loop-j.j - from ≡ length c.args.ranges.now - from = elim c.loop-j.invariant.place [ inl e ↦ omega arith | inr e ↦ omega arith ] in
    sym c.loop-j.invariant.sum ∙ ap (λ n. total n f) place ∙ sym (factor_sum-drop c.args.factor from c.args.ranges.now c.args.form.now)
