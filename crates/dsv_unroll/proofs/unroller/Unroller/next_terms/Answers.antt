use Rattle.std.proofs.Common.{◌≡◌, ℕ, ◌<◌, length, get_or, refl, subst, arith}
use Rattle.std.proofs.lemmas.List.Elements.{All-get_or}
use Rattle.std.proofs.lemmas.Option.{slice_get-get_or}
use Rattle.dsv_unroll.specs.Rules.{term_at}
use Rattle.dsv_unroll.proofs.SampleSteps.{next_step}
use Rattle.dsv_unroll.proofs.unroller.Unroller.next_terms.Goals as goal

pub loop-k-preserved : goal.loop-k-preserved
loop-k-preserved c =
    let l = c.loop-k in
    next_step c.args.ids.now c.args.self.now.net.now.next l.k c.next-id.result l.registers.items c.push.new.self.items (term_at c.args.ids.now c.next-id.result) (omega arith) c.next-id.ensures l.invariant refl c.in_ok-push.ensures.items

pub bounds-ids-id : goal.bounds-ids-id
bounds-ids-id c =
    let next = c.args.self.now.net.now.next in
    let k = c.loop-k.k in
    let e = slice_get-get_or next k 0 (omega arith) in
    let same : get_or next k 0 ≡ c.next-id.result = (let s = c.next-id.ensures in cc) in
    subst (λ (j : ℕ). j < length c.args.ids.now) same (All-get_or (λ (j : ℕ). j < length c.args.ids.now) next k 0 (omega arith) c.requires)
