use Rattle.std.proofs.Common.{to_z, of_z, w64, ap, sym, subst, ◌∙◌}
use Rattle.dsv_unroll.specs.Beside.{known_with}
use Rattle.dsv_unroll.specs.FactTests.{FactTerms, with_test}
use Rattle.dsv_unroll.specs.Ready.{AreKnown, IsTest}
use Rattle.dsv_unroll.proofs.SampleSteps.{bits_later}
use Rattle.dsv_unroll.proofs.TestedTerms.{truth_later}
use Rattle.dsv_unroll.proofs.FactTerms.{within_adds, ranged_known}
use Rattle.dsv_unroll.proofs.facts.put_range_test.Goals as goal

pub put_test-requires-clause-known : goal.put_test-requires-clause-known
put_test-requires-clause-known c =
    let t = c.args.terms.now in
    let u = c.within_test.new.terms in
    let known = c.requires.known in
    let a = within_adds t u (to_z w64 (of_z w64 c.args.low)) (to_z w64 (of_z w64 c.args.high)) c.args.tested.value c.in_ok-test.test known.sound c.requires.tested.value c.in_ok-test.ensures in
    record { sound = a.sound; bit = truth_later t u c.args.known.now.overflowed a.kept known.bit; bits = bits_later t u c.args.known.now.tests.items a.kept known.bits }

pub put_test-requires-clause-test : goal.put_test-requires-clause-test
put_test-requires-clause-test c =
    let a = within_adds c.args.terms.now c.within_test.new.terms (to_z w64 (of_z w64 c.args.low)) (to_z w64 (of_z w64 c.args.high)) c.args.tested.value c.in_ok-test.test c.requires.known.sound c.requires.tested.value c.in_ok-test.ensures in
    record { stands = a.stands; width = a.width }

pub returns-clause-known : goal.returns-clause-known
returns-clause-known c =
    let k = known_with c.args.terms.now c.args.known.now in
    let e = c.in_ok-put_test.ensures.built ∙ ap (with_test k) c.in_ok-test.ensures in
    subst (λ (r : FactTerms). AreKnown r.terms r.overflowed r.tests) (sym e)
    (ranged_known k (to_z w64 (of_z w64 c.args.low)) (to_z w64 (of_z w64 c.args.high)) c.args.tested c.requires.known c.requires.tested).0

pub returns-clause-tested : goal.returns-clause-tested
returns-clause-tested c =
    let k = known_with c.args.terms.now c.args.known.now in
    let e = c.in_ok-put_test.ensures.built ∙ ap (with_test k) c.in_ok-test.ensures in
    subst (λ (r : FactTerms). IsTest r.terms c.args.tested) (sym e)
    (ranged_known k (to_z w64 (of_z w64 c.args.low)) (to_z w64 (of_z w64 c.args.high)) c.args.tested c.requires.known c.requires.tested).1
