use Rattle.std.proofs.Common.{◌≡◌, ◌∙◌, ap, sym, SFits, rules}
use Rattle.std.specs.Int.{w64, w128}
use Rattle.std.proofs.lemmas.Int.{to_z-of_z}
use Rattle.std.proofs.lemmas.Result.{IfOk-weaker}
use Rattle.dsv_term.specs.declared.node.TermNode.TheVariants.{And}
use Rattle.dsv_term.specs.declared.word.Word.{Word}
use Rattle.dsv_term.specs.Building.{built_of}
use Rattle.dsv_term.specs.Terms.{Makes}
use Rattle.dsv_term.specs.Word.{residue}
use Rattle.dsv_unroll.specs.FactTests.{within_test}
use Rattle.dsv_unroll.proofs.Chains.{within_made}
use Rattle.dsv_unroll.proofs.facts.within_test.Goals as goal

pub sle-requires-clause-first : goal.sle-requires-clause-first
sle-requires-clause-first c =
    c.in_ok-greatest.ensures.made.kept.longer c.in_ok-least.least c.in_ok-least.ensures.made.stands

pub sle-requires-clause-second : goal.sle-requires-clause-second
sle-requires-clause-second c =
    c.in_ok-greatest.ensures.made.kept.longer c.args.value (c.in_ok-least.ensures.made.kept.longer c.args.value c.requires.stands)

pub sle-requires-clause-alike : goal.sle-requires-clause-alike
sle-requires-clause-alike c =
    let a = c.in_ok-least.ensures.made in
    let b = c.in_ok-greatest.ensures.made in
    let v = c.args.value in
    let h = a.kept.longer v c.requires.stands in
    b.kept.widths c.in_ok-least.least a.stands ∙ (a.width ∙ (c.width-bits.ensures.width ∙ sym (b.kept.widths v h ∙ a.kept.widths v c.requires.stands)))

pub sle-requires-2-clause-first : goal.sle-requires-2-clause-first
sle-requires-2-clause-first c =
    let v = c.args.value in
    c.in_ok-above.ensures.made.kept.longer v (c.in_ok-greatest.ensures.made.kept.longer v (c.in_ok-least.ensures.made.kept.longer v c.requires.stands))

pub sle-requires-2-clause-second : goal.sle-requires-2-clause-second
sle-requires-2-clause-second c =
    c.in_ok-above.ensures.made.kept.longer c.in_ok-greatest.greatest c.in_ok-greatest.ensures.made.stands

pub sle-requires-2-clause-alike : goal.sle-requires-2-clause-alike
sle-requires-2-clause-alike c =
    let a = c.in_ok-least.ensures.made in
    let b = c.in_ok-greatest.ensures.made in
    let d = c.in_ok-above.ensures.made in
    let v = c.args.value in
    let h = a.kept.longer v c.requires.stands in
    let same = d.kept.widths v (b.kept.longer v h) ∙ (b.kept.widths v h ∙ a.kept.widths v c.requires.stands) in
    same ∙ sym (d.kept.widths c.in_ok-greatest.greatest b.stands ∙ (b.width ∙ c.width-bits.ensures.width))

pub and-requires-clause-first : goal.and-requires-clause-first
and-requires-clause-first c =
    c.in_ok-below.ensures.made.kept.longer c.in_ok-above.above c.in_ok-above.ensures.made.stands

pub and-requires-clause-second : goal.and-requires-clause-second
and-requires-clause-second c = c.in_ok-below.ensures.made.stands

pub and-requires-clause-alike : goal.and-requires-clause-alike
and-requires-clause-alike c =
    let d = c.in_ok-above.ensures.made in
    let e = c.in_ok-below.ensures.made in
    e.kept.widths c.in_ok-above.above d.stands ∙ (d.width ∙ sym e.width)

pub returns : goal.returns
returns c =
    let t = c.args.terms.now in
    let bits = c.width-bits.result in
    let first : SFits w128 c.into.result = search rules in
    let second : SFits w128 c.into-2.result = search rules in
    let l = ap (λ (q : Word). q.number) c.of_signed-low.ensures ∙ ap (residue bits) (to_z-of_z w128 c.into.result first ∙ (c.into.ensures ∙ to_z-of_z w64 c.args.low c.ranges.low)) in
    let h = ap (λ (q : Word). q.number) c.of_signed-high.ensures ∙ ap (residue bits) (to_z-of_z w128 c.into-2.result second ∙ (c.into-2.ensures ∙ to_z-of_z w64 c.args.high c.ranges.high)) in
    let e = within_made t c.constant.new.self c.constant-2.new.self c.sle.new.self c.sle-2.new.self bits c.of_signed-low.result.number c.of_signed-high.result.number c.args.low c.args.high c.args.value
    c.in_ok-least.least c.in_ok-greatest.greatest c.in_ok-above.above c.in_ok-below.below c.width-bits.ensures.width l h
    c.in_ok-least.ensures.made.built c.in_ok-greatest.ensures.made.built c.in_ok-above.ensures.made.built c.in_ok-below.ensures.made.built in
    let node = And c.in_ok-above.above c.in_ok-below.below in
    IfOk-weaker c.and.result (λ test. Makes c.sle-2.new.self c.and.new.self node test) (λ test. built_of c.and.new.self test ≡ within_test t c.args.low c.args.high c.args.value) (λ test m. m.built ∙ e) c.and.ensures.made
