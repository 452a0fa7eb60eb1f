use Rattle.std.proofs.Common.{◌∙◌, ap, sym, Some}
use Rattle.dsv_term.specs.declared.node.TermId.{TermId}
use Rattle.dsv_term.specs.declared.node.TermNode.TheVariants.{Or}
use Rattle.dsv_term.specs.Building.{Built, with_node}
use Rattle.dsv_unroll.specs.Rules.{CutTerms, Unrolled}
use Rattle.dsv_unroll.proofs.Chains.{cut_made}
use Rattle.dsv_unroll.proofs.fitting.cut_term.Goals as goal

pub eq-requires-clause-first : goal.eq-requires-clause-first
eq-requires-clause-first c = c.in_ok-back.ensures.made.stands

pub eq-requires-clause-second : goal.eq-requires-clause-second
eq-requires-clause-second c =
    c.in_ok-back.ensures.made.kept.longer c.args.of (c.in_ok-id.ensures.made.kept.longer c.args.of c.requires.value.stands)

pub eq-requires-clause-alike : goal.eq-requires-clause-alike
eq-requires-clause-alike c =
    let a = c.in_ok-id.ensures.made.kept in
    let b = c.in_ok-back.ensures.made in
    let of = c.args.of in
    let stands = c.requires.value.stands in
    b.width ∙ (c.width-width.ensures.width ∙ sym (b.kept.widths of (a.longer of stands) ∙ a.widths of stands))

pub or-requires-clause-first : goal.or-requires-clause-first
or-requires-clause-first c =
    let bit = c.args.overflowed in
    c.in_ok-outside.ensures.made.kept.longer bit (c.in_ok-is_word.ensures.made.kept.longer bit (c.in_ok-back.ensures.made.kept.longer bit (c.in_ok-id.ensures.made.kept.longer bit c.requires.stands)))

pub or-requires-clause-second : goal.or-requires-clause-second
or-requires-clause-second c = c.in_ok-outside.ensures.made.stands

pub or-requires-clause-alike : goal.or-requires-clause-alike
or-requires-clause-alike c =
    let a = c.in_ok-id.ensures.made.kept in
    let b = c.in_ok-back.ensures.made.kept in
    let d = c.in_ok-is_word.ensures.made in
    let e = c.in_ok-outside.ensures.made in
    let bit = c.args.overflowed in
    let h = a.longer bit c.requires.stands in
    let i = b.longer bit h in
    e.kept.widths bit (d.kept.longer bit i) ∙ (d.kept.widths bit i ∙ (b.widths bit h ∙ (a.widths bit c.requires.stands ∙ (c.requires.bit ∙ sym (e.width ∙ d.width)))))

pub returns-clause-tested : goal.returns-clause-tested
returns-clause-tested c =
    ap (λ (k : CutTerms). Some k.tested) (cut_made c.args.terms.now c.extract.new.self c.sext.new.self c.eq.new.self c.not.new.self c.args.bits c.width-width.result c.args.of c.in_ok-id.id c.in_ok-back.back c.in_ok-is_word.is_word c.in_ok-outside.outside
    c.width-width.ensures.width c.in_ok-id.ensures.made.built c.in_ok-back.ensures.made.built c.in_ok-is_word.ensures.made.built c.in_ok-outside.ensures.made.built)

-- the bit that is 1 where a value so far was no word, after the test of this value
abbrev with_bit : TermId → CutTerms → Unrolled
with_bit overflowed k = let either = with_node k.terms (Or overflowed k.tested.outside) in record { terms = either.terms; id = k.word; overflowed = either.id }

pub returns-clause-built : goal.returns-clause-built
returns-clause-built c =
    let cut = cut_made c.args.terms.now c.extract.new.self c.sext.new.self c.eq.new.self c.not.new.self c.args.bits c.width-width.result c.args.of c.in_ok-id.id c.in_ok-back.back c.in_ok-is_word.is_word c.in_ok-outside.outside
    c.width-width.ensures.width c.in_ok-id.ensures.made.built c.in_ok-back.ensures.made.built c.in_ok-is_word.ensures.made.built c.in_ok-outside.ensures.made.built in
    ap (λ (v : Built). let u : Unrolled = record { terms = v.terms; id = c.in_ok-id.id; overflowed = v.id } in u) c.in_ok-overflowed.ensures.made.built ∙ ap (with_bit c.args.overflowed) cut
