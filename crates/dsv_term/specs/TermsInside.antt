use Rattle.std.specs.Prelude.{◌≡◌, ◌<◌, ◌^◌, length}
use Rattle.dsv_term.specs.Terms.{AreTerms, widths_of}
use Rattle.dsv_term.specs.TermsView.{TermsView}
use Rattle.dsv_term.specs.declared.terms.Terms.TheInside.{Inside}

abbrev pub view_of : Inside → TermsView
view_of t = record { inputs = t.inputs.items; nodes = t.nodes.keys }

pub record IsTerms (t : Inside) : Type 0 where
  pub terms : AreTerms (view_of t)
  pub widths : t.widths.items ≡ widths_of (view_of t)
  pub few_inputs : length t.inputs.items < 2 ^ 31
