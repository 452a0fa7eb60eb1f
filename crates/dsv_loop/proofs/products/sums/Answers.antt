use Rattle.std.proofs.Common.{◌≡◌, ap, ◌∙◌, arith, pos}
use Rattle.std.proofs.Math.IntN.{◌+ℤ◌}
use Rattle.std.proofs.lemmas.List.{get_or_default}
use Rattle.dsv_algebra.specs.Vectors.{vector_of}
use Rattle.dsv_loop.proofs.Signals.{next_place}
use Rattle.dsv_loop.proofs.products.sums.Goals as goal

pub loop-k-preserved : goal.loop-k-preserved
loop-k-preserved c =
    let l = c.loop-k in
    let fs = c.args.fs.now in
    let gs = c.args.gs.now in
    let read : c.index-fs-k.result ≡ vector_of fs l.k = c.index-fs-k.is ∙ get_or_default fs l.k c.index-fs-k.result (pos 0) (omega arith) in
    next_place (λ k. vector_of fs k +ℤ vector_of gs k) l.k l.sums c.push.new.self c.in_ok-sum_at.field-0 l.invariant (c.in_ok-sum_at.ensures ∙ ap (λ z. z +ℤ vector_of gs l.k) read) c.in_ok-push.ensures.ok
