use Rattle.std.proofs.Common.{arith, ap, length, []}
use Rattle.std.proofs.lemmas.List.{get_or_read}
use Rattle.dsv_term.specs.TermNode.{node_width}
use Rattle.dsv_term.specs.TermsView.{TermsView}
use Rattle.dsv_term.proofs.Entries.{length-entries}
use Rattle.dsv_term.proofs.Words.{AreWidths}
use Rattle.dsv_term.proofs.terms.Terms.width.Goals as goal

pub index-requires : goal.index-requires
index-requires c =
    let t = c.self.inside in
    omega (arith, ap (λ (v : TermsView). length v.nodes) c.self.view_is, ap length c.self.invariant.widths, length-entries (node_width t.inputs.items) t.nodes.keys [], t.widths.ok.0)

pub returns-clause-width : goal.returns-clause-width
returns-clause-width c =
    let t = c.self.inside in
    rw (← c.self.view_is, ← c.self.invariant.widths)
    (get_or_read t.widths.items c.args.id.0 _ (omega (arith, ap (λ (v : TermsView). length v.nodes) c.self.view_is, ap length c.self.invariant.widths, length-entries (node_width t.inputs.items) t.nodes.keys [], t.widths.ok.0)) c.index.ensures 0)

pub returns-clause-lawful : goal.returns-clause-lawful
returns-clause-lawful c =
    let t = c.self.inside in
    let i = c.self.invariant in
    let all = AreWidths t.inputs.items t.nodes.keys [] i.terms.inputs (λ k d h. absurd (omega arith)) i.terms.lawful in
    rw c.index.ensures (rw (← i.widths) at all c.args.id.0 c.index.result.now (omega (arith, ap length i.widths, ap (λ (v : TermsView). length v.nodes) c.self.view_is, length-entries (node_width t.inputs.items) t.nodes.keys [])))
