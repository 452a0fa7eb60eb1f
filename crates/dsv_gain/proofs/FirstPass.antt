-- The first pass, as the code finds it.
use Rattle.std.proofs.Common.{◌≡◌, ℕ, List, ◌∙◌, ap}
use Rattle.std.specs.Prelude.{Result, Ok, Err, IfOk}
use Rattle.std.proofs.Math.IntN.{ℤ}
use Rattle.dsv_base.specs.declared.NoMemory.{NoMemory}
use Rattle.dsv_netlist.specs.Nodes.{Net}
use Rattle.dsv_linear.specs.declared.range.Range.{Range}
use Rattle.dsv_network.specs.declared.network.Network.{Network}
use Rattle.dsv_network.specs.declared.outlook.Outlook.{Outlook}
use Rattle.dsv_network.specs.Gains as networks
use Rattle.dsv_gain.specs.Gains.{register_symbols, words_network, first_gain}

pub first_is : (net : Net) (low high : ℤ) (limit : ℕ) (network : Network) (starts : List Range) (o : Result Outlook NoMemory) → network ≡ words_network net low high → starts ≡ register_symbols net low high
    → IfOk o (λ g. g ≡ networks.gain_of network starts limit) → IfOk o (λ g. g ≡ first_gain net low high limit)
unfolding first_gain
first_is net low high limit network starts (Err e) n s h = h
first_is net low high limit network starts (Ok g) n s h = h ∙ ap (λ m. networks.gain_of m starts limit) n ∙ ap (λ t. networks.gain_of (words_network net low high) t limit) s
