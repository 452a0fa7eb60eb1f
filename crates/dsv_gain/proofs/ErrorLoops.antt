-- What a box and a depth show, as the code finds it.
use Rattle.std.proofs.Common.{◌≡◌, List, map, refl, ap, ◌∙◌}
use Rattle.std.specs.Prelude.{Option, Some, None}
use Rattle.dsv_netlist.specs.Nodes.{Net}
use Rattle.dsv_linear.specs.declared.range.Range.{Range}
use Rattle.dsv_linear.specs.Forms.{◌>>=◌}
use Rattle.dsv_roundoff.specs.declared.offers.RoundoffOffer.{RoundoffOffer}
use Rattle.dsv_network.specs.declared.network.Network.{Network}
use Rattle.dsv_network.specs.Gains.{ranges_of}
use Rattle.dsv_gain.specs.Gains.{symbol_of_range}
use Rattle.dsv_gain.specs.Errors.{range_from, differences_network, kept_range, error_of}

pub shown_of : (net : Net) (offer : RoundoffOffer) (network : Network) (starts ranges list : List Range) (out : Option Range) → network ≡ differences_network net → starts ≡ map symbol_of_range (map range_from offer.ranges)
    → Some ranges ≡ ranges_of network starts offer.depth → list ≡ map range_from offer.ranges → out ≡ kept_range net list ranges → out ≡ error_of net offer
unfolding error_of
shown_of net offer network starts ranges list out n s e l o =
    o ∙ ap (λ box. kept_range net box ranges) l
    ∙ ap (λ r. r >>= kept_range net (map range_from offer.ranges)) (e ∙ rw (n, s) refl)

pub nothing_of : (net : Net) (offer : RoundoffOffer) (network : Network) (starts : List Range) → network ≡ differences_network net → starts ≡ map symbol_of_range (map range_from offer.ranges) → None ≡ ranges_of network starts offer.depth → None ≡ error_of net offer
unfolding error_of
nothing_of net offer network starts n s e = ap (λ r. r >>= kept_range net (map range_from offer.ranges)) (e ∙ rw (n, s) refl)
