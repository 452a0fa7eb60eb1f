use Rattle.std.proofs.Common.{◌≡◌, get_or, set, take, map, ◌∙◌, ap, arith}
use Rattle.std.proofs.Math.IntN.{pos, neg_ℤ, ◌*ℤ◌}
use Rattle.std.proofs.lemmas.List.{get_or_read}
use Rattle.dsv_forms.specs.Padded.{row_of, matrix_with}
use Rattle.dsv_forms.proofs.Filling.{matrix_step}
use Rattle.dsv_closed_forms.proofs.root.negative_square.Goals as goal

pub loop-i-preserved : goal.loop-i-preserved
loop-i-preserved c =
    let q = c.args.q.now in
    let i = c.loop-i.i in
    let read : c.index-q-i.result ≡ get_or q i (pos 0) = get_or_read q i c.index-q-i.result (omega (arith, c.loop-i-test.true)) c.index-q-i.is (pos 0) in
    let row : c.negative_products.result ≡ row_of (map (λ b. neg_ℤ (get_or q i (pos 0) *ℤ b)) q) = c.negative_products.ensures ∙ ap (λ a. row_of (map (λ b. neg_ℤ (a *ℤ b)) q)) read in
    ap (λ rows. set rows i c.negative_products.result) c.loop-i.invariant
    ∙ ap (λ r. set (matrix_with (map (λ a. map (λ b. neg_ℤ (a *ℤ b)) q) (take i q))) i r) row
    ∙ matrix_step (λ a. map (λ b. neg_ℤ (a *ℤ b)) q) q i (pos 0) (omega (arith, c.loop-i-test.true)) c.requires.few
