use Rattle.std.proofs.Common.{rules}
use Rattle.dsv_term.specs.Building.{Built, built_of}
use Rattle.dsv_unroll.specs.Goals.{conjunction_from}
use Rattle.dsv_unroll.proofs.SampleSteps.{bits_later, joined_step}
use Rattle.dsv_unroll.proofs.lists.conjunction.Goals as goal

pub loop-test-preserved : goal.loop-test-preserved
loop-test-preserved c =
    let l = c.loop-test in
    let m = c.in_ok-all.ensures.made in
    let start : Built = conjunction_from (built_of c.args.terms.now c.args.first) c.args.tests.now in
    record {
      first = record { stands = m.stands; width = search rules };
      tests = bits_later l.terms c.and.new.self c.args.tests.now m.kept l.invariant.tests;
      same = joined_step c.args.tests.now l.test-index l.terms c.and.new.self l.all c.in_ok-all.all start c.loop-test-test.true l.invariant.same m.built;
    }
