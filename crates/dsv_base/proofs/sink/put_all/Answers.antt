use Rattle.std.proofs.Common.{◌++◌, take, arith, append_assoc}
use Rattle.std.proofs.lemmas.Grind.{common_steps}
use Rattle.std.proofs.lemmas.List.{take-append-drop}
use Rattle.dsv_base.proofs.TakingLemmas.{Grew-more}
use Rattle.dsv_base.proofs.sink.put_all.Goals as goal

pub loop-rest-preserved : goal.loop-rest-preserved
loop-rest-preserved g c =
    let i = c.loop-rest.invariant in
    let n = c.in_ok-count.count in
    let rest = c.loop-rest.rest.now in
    (i.0 ++ take n rest, Grew-more i.1 c.in_ok-count.ensures.taken, grind (arith, common_steps, append_assoc, take-append-drop), omega arith)
