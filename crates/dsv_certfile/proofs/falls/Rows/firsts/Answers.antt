use Rattle.std.proofs.Common.{◌≡◌, ◌<◌, ◌≤◌, List, [], ◌∷◌, ◌++◌, length, take, map, get_or, sym, ap, ◌∙◌, rules, arith}
use Rattle.std.proofs.Math.IntN.{ℤ, pos}
use Rattle.std.proofs.Math.Seq.{take-length}
use Rattle.std.proofs.lemmas.Int.{to_z-of_z}
use Rattle.std.proofs.lemmas.List.{map_more, length-map, length-take}
use mir.Syntax.{w128}
use mir.Val.{SFits}
use Rattle.dsv_forms.specs.Padded.{row_of}
use Rattle.dsv_certfile.proofs.falls.Rows.firsts.Goals as goal

abbrev first_of : List ℤ → ℤ
first_of row = get_or row 0 (pos 0)

pub loop-row-preserved : goal.loop-row-preserved
loop-row-preserved c =
    let rows = c.args.self.now in
    let i = c.loop-row.row-index in
    let row = c.row-item.result in
    let x = c.at-first.result in
    let items : c.as_slice-row-items.result.now ≡ rows = c.as_slice-row-items.ensures.value ∙ c.self.view_is in
    let inside : i < length rows = omega (arith, ap length items, c.loop-row-test.true) in
    let fits : SFits w128 x = search rules in
    let pushed = simp to_z-of_z at c.push.ensures in
    let so_far : c.loop-row.firsts ≡ map first_of (take i rows) = c.loop-row.invariant in
    let value : x ≡ first_of (get_or rows i row) = c.at-first.ensures ∙ ap first_of (c.row-item.is ∙ ap (λ xs. get_or xs i row) items) in
    pushed ∙ ap (λ t. t ++ x ∷ []) so_far ∙ ap (λ y. map first_of (take i rows) ++ y ∷ []) value ∙ sym (map_more first_of rows i row inside)

pub push-requires : goal.push-requires
push-requires c =
    let rows = c.args.self.now in
    let i = c.loop-row.row-index in
    let items : c.as_slice-row-items.result.now ≡ rows = c.as_slice-row-items.ensures.value ∙ c.self.view_is in
    let held : length c.self.inside.held.items ≤ 8 = search rules in
    let so_far : c.loop-row.firsts ≡ map first_of (take i rows) = c.loop-row.invariant in
    omega (arith, ap length so_far, length-map (take i rows) first_of, length-take i rows, ap length items, held, ap length c.self.view_is)

pub returns : goal.returns
returns c =
    let rows = c.args.self.now in
    let items : c.as_slice-row-items.result.now ≡ rows = c.as_slice-row-items.ensures.value ∙ c.self.view_is in
    let all : c.loop-row.row-index ≡ length rows = omega (arith, ap length items, c.loop-row-test.false, c.loop-row.auto.row-index-end) in
    let so_far : c.loop-row.firsts ≡ map first_of (take c.loop-row.row-index rows) = c.loop-row.invariant in
    c.row_from.ensures ∙ ap row_of (so_far ∙ ap (λ n. map first_of (take n rows)) all ∙ ap (map first_of) (take-length rows))
