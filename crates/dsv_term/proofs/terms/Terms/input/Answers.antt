use Rattle.std.proofs.Common.{◌≡◌, ◌∙◌, ap, sym, arith, length}
use Rattle.std.proofs.lemmas.List.{length_push}
use Rattle.dsv_term.specs.Terms.{widths_of}
use Rattle.dsv_term.specs.TermsInside.{view_of}
use Rattle.dsv_term.specs.TermsView.{TermsView}
use Rattle.dsv_term.proofs.Inputs.{with_input, TakesInput, takes_input, makes_input, IsBack, back}
use Rattle.dsv_term.proofs.terms.Terms.input.Goals as goal

pub invariant_of-self-2 : goal.invariant_of-self-2
invariant_of-self-2 c =
    let t : TermsView = view_of c.self.inside in
    let i = c.self.invariant in
    let pushed = c.in_ok-push.ensures.items in
    let more : TakesInput t (with_input t c.args.width) = takes_input t c.args.width i.terms c.requires in
    record {
      terms = rw pushed more.terms;
      widths = i.widths ∙ rw pushed (sym more.widths);
      few_inputs = omega (arith, ap length pushed, length_push t.inputs c.args.width, c.in_ok-accept_more.ensures.few, c.len.ensures);
    }

pub invariant_of-self-in-Err : goal.invariant_of-self-in-Err
invariant_of-self-in-Err c =
    let t : TermsView = view_of c.self.inside in
    let u : TermsView = view_of c.self-2.inside in
    let i = c.self.invariant in
    let pushed = c.in_ok-push.ensures.items in
    let unmade : u ≡ with_input t c.args.width = c.self-2.view_is ∙ (c.in-Err.ensures.err ∙ ap (λ is. record { inputs = is; nodes = t.nodes }) pushed) in
    let b : IsBack t u c.pop.new.self.items c.self-2.inside.widths.items =
    back t u c.args.width _ c.pop.new.self.items c.self-2.inside.widths.items i.terms c.requires unmade (omega (arith, c.self-2.inside.inputs.ok.0)) c.pop.ensures.rest c.self-2.invariant.widths in
    record {
      terms = rw b.terms i.terms;
      widths = b.widths ∙ ap widths_of (sym b.terms);
      few_inputs = omega (arith, ap (λ (v : TermsView). length v.inputs) b.terms, i.few_inputs);
    }

pub returns-in-Ok-clause-made : goal.returns-in-Ok-clause-made
returns-in-Ok-clause-made c =
    let t : TermsView = view_of c.self.inside in
    let pushed = c.in_ok-push.ensures.items in
    let number : c.len-number.result ≡ length t.inputs = omega (arith, c.len-number.ensures, c.self.inside.inputs.ok.0) in
    rw (← c.self.view_is) (makes_input t c.make.new.self c.args.width c.in-Ok.id c.self.invariant.terms c.requires (rw (number, pushed) at c.in-Ok.ensures.made))
