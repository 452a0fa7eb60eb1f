use Rattle.std.proofs.Common.{◌≡◌, ◌<◌, ◌≤◌, length, drop, take, map, get_or, set, ap, ◌∙◌, rules, arith}
use Rattle.std.proofs.Math.Seq.{take-length}
use Rattle.dsv_forms.specs.Padded.{row_of, matrix_with}
use Rattle.dsv_forms.proofs.Filling.{matrix_step}
use Rattle.dsv_certfile.proofs.falls.Rows.matrix_from.Goals as goal

pub loop-i-preserved : goal.loop-i-preserved
loop-i-preserved c =
    let rows = c.args.self.now in
    let i = c.loop-i.i in
    let row = c.row-item.result in
    let items : c.as_slice-row-items.result.now ≡ rows = c.as_slice-row-items.ensures.value ∙ c.self.view_is in
    let inside : i < length rows = omega (arith, ap length items, c.loop-i-test.true) in
    let held : length c.self.inside.held.items ≤ 8 = search rules in
    let few : length rows ≤ 8 = omega (arith, held, ap length c.self.view_is) in
    let at : row ≡ get_or rows i row = c.row-item.is ∙ ap (λ xs. get_or xs i row) items in
    let entry : c.row_from.result ≡ row_of (drop c.args.place (get_or rows i row)) = c.row_from.ensures ∙ ap (λ r. row_of (drop c.args.place r)) at in
    let so_far : c.loop-i.rows ≡ matrix_with (map (drop c.args.place) (take i rows)) = c.loop-i.invariant in
    ap (λ m. set m i c.row_from.result) so_far ∙ ap (set (matrix_with (map (drop c.args.place) (take i rows))) i) entry
    ∙ matrix_step (drop c.args.place) rows i row inside few

pub returns : goal.returns
returns c =
    let rows = c.args.self.now in
    let items : c.as_slice-row-items.result.now ≡ rows = c.as_slice-row-items.ensures.value ∙ c.self.view_is in
    let all : c.loop-i.i ≡ length rows = omega (arith, ap length items, c.loop-i-test.false) in
    let so_far : c.loop-i.rows ≡ matrix_with (map (drop c.args.place) (take c.loop-i.i rows)) = c.loop-i.invariant in
    so_far ∙ ap (λ n. matrix_with (map (drop c.args.place) (take n rows))) all ∙ ap (λ rs. matrix_with (map (drop c.args.place) rs)) (take-length rows)
