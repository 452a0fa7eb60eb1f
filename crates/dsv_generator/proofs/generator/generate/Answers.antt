use Rattle.std.proofs.Common.{◌≡◌, ◌+◌, subst, sym, refl, rules, List}
use Rattle.dsv_tally.specs.declared.tally.SpentLog.{SpentLog}
use Rattle.dsv_tally.specs.declared.tally.Tally.{Tally}
use Rattle.dsv_generator.specs.Tallies.{IsTally, none, with_finding}
use Rattle.dsv_generator.proofs.Sums.{adds_up, tally_below}
use Rattle.dsv_generator.proofs.Turns.{next_before, one_more}
use Rattle.dsv_generator.proofs.generator.generate.Goals as goal

pub loop-index-init : goal.loop-index-init
loop-index-init c =
    record { state = refl; tally = rw (c.empty_tally-tally.ensures, c.new-spent.ensures) none }

pub with_finding-tally-requires : goal.with_finding-tally-requires
with_finding-tally-requires c =
    let l = c.loop-index in
    tally_below c.args.seed l.index 4294967295 l.tally l.spent l.invariant.tally (search rules)

pub loop-index-preserved : goal.loop-index-preserved
loop-index-preserved c =
    let l = c.loop-index in
    let s = c.states_after-states in
    let r = s.result in
    let e = s.ensures in
    let f = c.in_ok-finding.finding in
    let P : Tally → List SpentLog → Type 0 = λ t logs. IsTally c.args.seed (l.index + 1) t logs in
    let counted = one_more c.args.seed l.index l.state r.first r.second r.third r.fourth l.invariant.state e.first e.second e.third e.fourth l.tally l.spent
    c.quantised_from-quantised.result f l.invariant.tally c.quantised_from-quantised.ensures.becomes c.in_ok-finding.ensures in
    record {
      state = next_before c.args.seed l.index l.state r.first r.second r.third r.fourth l.invariant.state e.first e.second e.third e.fourth;
      tally = subst (λ t. P t c.keep_log.new.logs) (sym c.with_finding-tally.ensures) (subst (λ logs. P (with_finding f l.tally) logs) (sym c.in_ok-keep_log.ensures) counted);
    }

pub returns : goal.returns
returns c =
    let l = c.loop-index in
    let all : l.index ≡ c.args.count = search rules in
    let tally = subst (λ n. IsTally c.args.seed n l.tally l.spent) all l.invariant.tally in
    record { same_seed = refl; tally = tally; adds_up = adds_up c.args.seed c.args.count l.tally l.spent tally }
