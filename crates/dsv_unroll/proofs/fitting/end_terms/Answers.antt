use Rattle.std.proofs.Common.{◌∙◌, sym}
use Rattle.dsv_unroll.proofs.Chains.{ends_made}
use Rattle.dsv_unroll.proofs.fitting.end_terms.Goals as goal

pub slt-requires-clause-first : goal.slt-requires-clause-first
slt-requires-clause-first c =
    c.in_ok-greatest.ensures.made.kept.longer c.args.of (c.in_ok-least.ensures.made.kept.longer c.args.of c.requires.stands)

pub slt-requires-clause-second : goal.slt-requires-clause-second
slt-requires-clause-second c =
    c.in_ok-greatest.ensures.made.kept.longer c.in_ok-least.least c.in_ok-least.ensures.made.stands

pub slt-requires-clause-alike : goal.slt-requires-clause-alike
slt-requires-clause-alike c =
    let a = c.in_ok-least.ensures.made in
    let b = c.in_ok-greatest.ensures.made in
    let of = c.args.of in
    b.kept.widths of (a.kept.longer of c.requires.stands) ∙ (a.kept.widths of c.requires.stands ∙ (c.requires.wide ∙ sym (b.kept.widths c.in_ok-least.least a.stands ∙ a.width)))

pub slt-requires-2-clause-first : goal.slt-requires-2-clause-first
slt-requires-2-clause-first c =
    c.in_ok-below.ensures.made.kept.longer c.in_ok-greatest.greatest c.in_ok-greatest.ensures.made.stands

pub slt-requires-2-clause-second : goal.slt-requires-2-clause-second
slt-requires-2-clause-second c =
    let of = c.args.of in
    c.in_ok-below.ensures.made.kept.longer of (c.in_ok-greatest.ensures.made.kept.longer of (c.in_ok-least.ensures.made.kept.longer of c.requires.stands))

pub slt-requires-2-clause-alike : goal.slt-requires-2-clause-alike
slt-requires-2-clause-alike c =
    let a = c.in_ok-least.ensures.made in
    let b = c.in_ok-greatest.ensures.made in
    let d = c.in_ok-below.ensures.made in
    let of = c.args.of in
    let h = a.kept.longer of c.requires.stands in
    d.kept.widths c.in_ok-greatest.greatest b.stands ∙ (b.width ∙ sym (d.kept.widths of (b.kept.longer of h) ∙ (b.kept.widths of h ∙ (a.kept.widths of c.requires.stands ∙ c.requires.wide))))

pub returns-clause-built : goal.returns-clause-built
returns-clause-built c =
    ends_made c.args.terms.now c.constant.new.self c.constant-2.new.self c.slt.new.self c.slt-2.new.self c.args.bits c.args.low c.args.high c.args.of c.in_ok-least.least c.in_ok-greatest.greatest c.in_ok-below.below c.in_ok-above.above
    c.in_ok-least.ensures.made.built c.in_ok-greatest.ensures.made.built c.in_ok-below.ensures.made.built c.in_ok-above.ensures.made.built

pub returns-clause-of : goal.returns-clause-of
returns-clause-of c =
    let a = c.in_ok-least.ensures.made in
    let b = c.in_ok-greatest.ensures.made in
    let d = c.in_ok-below.ensures.made in
    let e = c.in_ok-above.ensures.made in
    let of = c.args.of in
    let h = a.kept.longer of c.requires.stands in
    let i = b.kept.longer of h in
    let j = d.kept.longer of i in
    record { stands = e.kept.longer of j; width = e.kept.widths of j ∙ (d.kept.widths of i ∙ (b.kept.widths of h ∙ (a.kept.widths of c.requires.stands ∙ c.requires.wide))) }

pub returns-clause-least : goal.returns-clause-least
returns-clause-least c =
    let a = c.in_ok-least.ensures.made in
    let b = c.in_ok-greatest.ensures.made in
    let d = c.in_ok-below.ensures.made in
    let e = c.in_ok-above.ensures.made in
    let least = c.in_ok-least.least in
    let i = b.kept.longer least a.stands in
    let j = d.kept.longer least i in
    record { stands = e.kept.longer least j; width = e.kept.widths least j ∙ (d.kept.widths least i ∙ (b.kept.widths least a.stands ∙ a.width)) }

pub returns-clause-greatest : goal.returns-clause-greatest
returns-clause-greatest c =
    let b = c.in_ok-greatest.ensures.made in
    let d = c.in_ok-below.ensures.made in
    let e = c.in_ok-above.ensures.made in
    let greatest = c.in_ok-greatest.greatest in
    let j = d.kept.longer greatest b.stands in
    record { stands = e.kept.longer greatest j; width = e.kept.widths greatest j ∙ (d.kept.widths greatest b.stands ∙ b.width) }

pub returns-clause-below : goal.returns-clause-below
returns-clause-below c =
    let d = c.in_ok-below.ensures.made in
    let e = c.in_ok-above.ensures.made in
    let below = c.in_ok-below.below in
    record { stands = e.kept.longer below d.stands; width = e.kept.widths below d.stands ∙ d.width }

pub returns-clause-above : goal.returns-clause-above
returns-clause-above c =
    let e = c.in_ok-above.ensures.made in
    record { stands = e.stands; width = e.width }
