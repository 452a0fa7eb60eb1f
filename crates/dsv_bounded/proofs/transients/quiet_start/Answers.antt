use Rattle.std.proofs.Common.{◌∙◌, ◌++◌, List, ap, drop}
use Rattle.std.proofs.Math.IntN.{ℤ}
use Rattle.dsv_bounded.proofs.StartLemmas.{start_stands}
use Rattle.dsv_bounded.proofs.transients.quiet_start.Goals as goal

pub returns : goal.returns
returns c =
    let net = c.args.net.now in
    let rs = c.args.registers.now in
    let k = c.feed_forward-forward.result in
    let all = c.in_ok-extend_from_slice.ensures.ok ∙ (ap (λ (xs : List ℤ). c.in_ok-start.start ++ xs) c.split_at.ensures.back ∙ ap (λ (xs : List ℤ). xs ++ drop k rs) c.in_ok-start.ensures) in
    start_stands net rs c.extend_from_slice.new.self c.len-count.ensures.netlist.feed_forward c.requires (rw c.feed_forward-forward.ensures at all)
