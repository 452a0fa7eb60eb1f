use Rattle.dsv_loop.specs.Loops.{product_at}
use Rattle.dsv_loop.proofs.Signals.{next_place}
use Rattle.dsv_loop.proofs.products.product.Goals as goal

pub loop-k-preserved : goal.loop-k-preserved
loop-k-preserved c =
    let l = c.loop-k in
    next_place (product_at c.args.fs.now c.args.gs.now) l.k l.product c.push.new.self c.in_ok-product_at.field-0 l.invariant c.in_ok-product_at.ensures c.in_ok-push.ensures.ok
