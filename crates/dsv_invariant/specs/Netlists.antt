-- Serves private contracts: the netlist of a controller.
use Rattle.std.specs.Prelude.{◌≡◌, ℕ, List, replicate}
use Rattle.dsv_meaning.specs.Systems.{equations_of}
use Rattle.dsv_netlist.specs.Nodes.{Net}
use Rattle.dsv_netlist.specs.Systems.{runs_of}
use Rattle.dsv_quantiser.specs.QuantisedView.{QuantisedView, IsQuantisedView}
use Rattle.dsv_realise.specs.Netlists.{net_of}
use Rattle.dsv_system.specs.Systems.{Agree, behaviour_of}
use Rattle.dsv_word.specs.Words.{width}

-- The netlist is the controller's, and runs as its written equations do.
pub record Realises (q : QuantisedView) (net : Net) : Type 0 where
  pub same : net ≡ net_of q
  pub runs : Agree (runs_of net) (behaviour_of (equations_of q))
  pub quantised : IsQuantisedView q

-- so many words of the controller's format
abbrev pub word_widths : QuantisedView → ℕ → List ℕ
word_widths q n = replicate n (width q.format)
