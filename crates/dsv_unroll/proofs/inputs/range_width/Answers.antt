use Rattle.std.proofs.Common.{rules, ◌≡◌, ℕ, sym, subst}
use Rattle.std.specs.Prelude.{◌≤ℤ◌}
use Rattle.dsv_term.specs.Word.{IsWidth}
use Rattle.dsv_unroll.specs.Goals.{range_width}
use Rattle.dsv_unroll.specs.Ready.{IsLeastWidth}
use Rattle.dsv_unroll.proofs.ValueTerms.{width_for-width, range_width-least}
use Rattle.dsv_unroll.proofs.inputs.range_width.Goals as goal

pub returns-clause-width : goal.returns-clause-width
returns-clause-width c = subst IsWidth (sym c.width_for.ensures) (width_for-width c.into.result (search rules))

pub returns-clause-least : goal.returns-clause-least
returns-clause-least c =
    let low = c.args.low in
    let high = c.args.high in
    let e : c.width_for.result ≡ range_width low high = search rules in
    let w = subst IsWidth (sym c.width_for.ensures) (width_for-width c.into.result (search rules)) in
    subst (λ (bits : ℕ). low ≤ℤ high → IsLeastWidth bits low high) (sym e) (range_width-least low high (subst IsWidth e w))
