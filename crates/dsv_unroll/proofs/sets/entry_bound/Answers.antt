use Rattle.std.proofs.Common.{◌≡◌, ℕ, ◌*◌, ◌^◌, ◌≤◌, rules, sym, subst}
use Rattle.dsv_algebra.proofs.Casts.{casts}
use Rattle.dsv_word.specs.Words.{width}
use Rattle.dsv_unroll.specs.SetGoals.{entry_bound}
use Rattle.dsv_unroll.proofs.SetSums.{entry_bound-small}
use Rattle.dsv_unroll.proofs.sets.entry_bound.Goals as goal

pub returns-clause-small : goal.returns-clause-small
returns-clause-small c =
    let e : c.from.result * c.pow.result ≡ entry_bound (width c.args.format.now) c.args.coefficient.now = search (rules, casts) in
    subst (λ (k : ℕ). k ≤ 2 ^ 71) (sym e) (entry_bound-small c.args.format.now c.args.coefficient.now c.requires)
