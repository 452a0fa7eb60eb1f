use Rattle.std.proofs.Common.{◌≡◌, true, false, sym, ◌∙◌}
use Rattle.dsv_cnf.specs.Literal.{negation}
use Rattle.dsv_trail.specs.Places.{falsifies}
use Rattle.dsv_trail.proofs.PlaceLemmas.{false-value, open-of, open-value, set-of-false, true-value}
use Rattle.dsv_trail.proofs.trail.Trail.value.Goals as goal

pub returns-then-is_false-clause-value : goal.returns-then-is_false-clause-value
returns-then-is_false-clause-value c =
    let m = c.self.inside.marks in
    rw (← c.self.view_is) (sym (false-value m.vars m.marks c.args.lit c.is_false.ensures.whole (sym c.is_false.ensures.value ∙ c.if-is_false.true)))

pub returns-then-is_false-clause-set : goal.returns-then-is_false-clause-set
returns-then-is_false-clause-set c h =
    let m = c.self.inside.marks in
    rw (← c.self.view_is) (set-of-false m.vars m.marks c.args.lit c.is_false.ensures.whole (sym c.is_false.ensures.value ∙ c.if-is_false.true))

pub returns-then-is_false-2-clause-value : goal.returns-then-is_false-2-clause-value
returns-then-is_false-2-clause-value c =
    let m = c.self.inside.marks in
    let f : falsifies m.marks (negation c.args.lit) ≡ true = rw (← c.negation.ensures) (sym c.is_false-else-is_false.ensures.value ∙ c.if-is_false-2.true) in
    rw (← c.self.view_is) (sym (true-value m.vars m.marks c.args.lit c.is_false.ensures.whole f))

pub returns-then-is_false-2-clause-set : goal.returns-then-is_false-2-clause-set
returns-then-is_false-2-clause-set c h =
    let m = c.self.inside.marks in
    let f : falsifies m.marks (negation c.args.lit) ≡ true = rw (← c.negation.ensures) (sym c.is_false-else-is_false.ensures.value ∙ c.if-is_false-2.true) in
    rw (← c.self.view_is) (set-of-false m.vars m.marks (negation c.args.lit) c.is_false.ensures.whole f)

pub returns-else-is_false-2-clause-value : goal.returns-else-is_false-2-clause-value
returns-else-is_false-2-clause-value c =
    let m = c.self.inside.marks in
    let f : falsifies m.marks (negation c.args.lit) ≡ false = rw (← c.negation.ensures) (sym c.is_false-else-is_false.ensures.value ∙ c.if-is_false-2.false) in
    rw (← c.self.view_is) (sym (open-value m.marks c.args.lit (open-of m.marks c.args.lit (sym c.is_false.ensures.value ∙ c.if-is_false.false) f)))

pub returns-else-is_false-2-clause-free : goal.returns-else-is_false-2-clause-free
returns-else-is_false-2-clause-free c h =
    let m = c.self.inside.marks in
    let f : falsifies m.marks (negation c.args.lit) ≡ false = rw (← c.negation.ensures) (sym c.is_false-else-is_false.ensures.value ∙ c.if-is_false-2.false) in
    rw (← c.self.view_is) (open-of m.marks c.args.lit (sym c.is_false.ensures.value ∙ c.if-is_false.false) f)
