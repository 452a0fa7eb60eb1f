use Rattle.std.proofs.Common.{arith, refl, None}
use Rattle.std.specs.Prelude.{slice_index_or}
use Rattle.std.proofs.lemmas.List.Elements.{All-get_or}
use Rattle.dsv_unroll.specs.Beside.{known_with}
use Rattle.dsv_unroll.specs.FactTests.{FactTerms, facts_from}
use Rattle.dsv_unroll.specs.Ready.{IsEntry}
use Rattle.dsv_unroll.proofs.FactTerms.{fact_step}
use Rattle.dsv_unroll.proofs.facts.fact_tests.Goals as goal

pub loop-i-preserved : goal.loop-i-preserved
loop-i-preserved c =
    let l = c.loop-i in
    let i = l.invariant in
    let first = c.args.terms.now in
    let facts = c.args.facts.now in
    let entries = c.args.tested.now in
    let k = known_with l.terms l.known in
    let now = known_with c.put_entry.new.terms c.put_entry.new.known in
    let end : FactTerms = facts_from c.args.is_long (known_with first c.args.before) facts entries in
    let s = fact_step c.args.is_long first l.i facts entries k now end c.fact_at-fact.result (slice_index_or entries l.i None) (omega arith) c.fact_at-fact.ensures refl c.in_ok-put_entry.ensures.built
    (record { known = i.known; tested = i.tested; kept = i.kept; same = i.same }) in
    record { known = s.known; tested = s.tested; kept = s.kept; same = s.same }

pub put_entry-requires-clause-known : goal.put_entry-requires-clause-known
put_entry-requires-clause-known c = c.loop-i.invariant.known

pub put_entry-requires-clause-entry : goal.put_entry-requires-clause-entry
put_entry-requires-clause-entry c = All-get_or (IsEntry c.loop-i.terms) c.args.tested.now c.loop-i.i None (omega arith) c.loop-i.invariant.tested.stand
