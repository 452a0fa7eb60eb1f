use Rattle.std.proofs.Common.{◌∙◌, inl, inr}
use Rattle.dsv_fraction.proofs.Order.{other_wholes, one_rest, both_rests}
use Rattle.dsv_fraction.proofs.compare.+compare_ratios.Goals as goal
use Rattle.dsv_fraction.proofs.compare.+compare_ratios.Goals.{then-rest-eq0-via-then-rest-eq0, then-rest-eq0-via-else-rest-eq0+then-left-eq0}

pub returns-then-whole-other : goal.returns-then-whole-other
returns-then-whole-other t c = c.cmp.ensures ∙ other_wholes c.args.a c.args.b c.args.c c.args.d c.requires.first c.requires.second c.if-whole-other.true

pub returns-then-rest-eq0 : goal.returns-then-rest-eq0
returns-then-rest-eq0 t c = c.cmp-then-rest-eq0.ensures ∙ one_rest c.args.a c.args.b c.args.c c.args.d c.requires.first c.requires.second c.if-whole-other.false
    (elim c.then-rest-eq0.branch [ then-rest-eq0-via-then-rest-eq0 w ↦ inl w.if-rest-eq0.true | then-rest-eq0-via-else-rest-eq0+then-left-eq0 w ↦ inr w.if-left-eq0.true ])

pub returns : goal.returns
returns t c = c.compare_ratios.ensures ∙ both_rests c.args.a c.args.b c.args.c c.args.d c.if-whole-other.false
