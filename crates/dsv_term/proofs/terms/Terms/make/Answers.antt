use Rattle.std.proofs.Common.{arith, ap, not, ◌≡◌, ◌+◌, ◌<◌, ◌^◌, [], sym, ◌∙◌, length}
use Rattle.dsv_term.specs.TermNode.{node_width, IsLawful}
use Rattle.dsv_term.specs.Terms.{widths_of}
use Rattle.dsv_term.specs.TermsInside.{view_of}
use Rattle.dsv_term.specs.TermsView.{TermsView}
use Rattle.dsv_term.proofs.Entries.{entries-push}
use Rattle.dsv_term.proofs.Made.{IsAdded, made_seen, added, not_both}
use Rattle.dsv_term.proofs.terms.Terms.make.Goals.{then-not-contains+in_ok-accept_more, else-not-contains}
use Rattle.dsv_term.proofs.terms.Terms.make.Goals as goal

pub invariant_of-self-then-added : goal.invariant_of-self-then-added
invariant_of-self-then-added c =
    let t : TermsView = view_of c.self.inside in
    let i = c.self.invariant in
    let l : IsLawful t.inputs (widths_of t) c.args.node = rw (← c.self.view_is) at c.requires.lawful in
    let w : c.args.width ≡ node_width t.inputs (widths_of t) c.args.node = rw (← c.self.view_is) at c.requires.width in
    let few : length t.nodes + 1 < 2 ^ 31 = elim c.if-not-contains.branch [
      | then-not-contains+in_ok-accept_more b ↦ omega (arith, b.in_ok-accept_more.ensures.few, b.len.ensures.len)
      | else-not-contains b ↦ absurd (not_both c.contains.result c.in-Ok.added c.if-added.true (c.in-Ok.ensures.added ∙ ap not (sym c.contains.ensures)) b.if-not-contains.false)
    ] in
    let a : IsAdded t c.insert_full.new.self.keys c.args.node = added t c.insert_full.new.self.keys c.args.node c.in-Ok.added i.terms l few c.in-Ok.ensures.added c.if-added.true c.in-Ok.ensures.keys in
    record {
      terms = a.terms;
      widths = c.in_ok-push.ensures.items ∙ rw (a.pushed, i.widths, w) (sym (entries-push (node_width t.inputs) t.nodes c.args.node []));
      few_inputs = i.few_inputs;
    }

pub returns-then-added-clause-made : goal.returns-then-added-clause-made
returns-then-added-clause-made c =
    (made_seen (view_of c.self.inside) c.args.self.now c.insert_full.new.self.keys c.args.node (record { 0 = c.in-Ok.index }) c.self.view_is c.self.invariant.terms c.requires.lawful c.in-Ok.ensures.keys c.in-Ok.ensures.index).makes

pub returns-then-added-clause-value : goal.returns-then-added-clause-value
returns-then-added-clause-value c =
    (made_seen (view_of c.self.inside) c.args.self.now c.insert_full.new.self.keys c.args.node (record { 0 = c.in-Ok.index }) c.self.view_is c.self.invariant.terms c.requires.lawful c.in-Ok.ensures.keys c.in-Ok.ensures.index).word

pub returns-else-added-clause-made : goal.returns-else-added-clause-made
returns-else-added-clause-made c =
    (made_seen (view_of c.self.inside) c.args.self.now c.insert_full.new.self.keys c.args.node (record { 0 = c.in-Ok.index }) c.self.view_is c.self.invariant.terms c.requires.lawful c.in-Ok.ensures.keys c.in-Ok.ensures.index).makes

pub returns-else-added-clause-value : goal.returns-else-added-clause-value
returns-else-added-clause-value c =
    (made_seen (view_of c.self.inside) c.args.self.now c.insert_full.new.self.keys c.args.node (record { 0 = c.in-Ok.index }) c.self.view_is c.self.invariant.terms c.requires.lawful c.in-Ok.ensures.keys c.in-Ok.ensures.index).word
