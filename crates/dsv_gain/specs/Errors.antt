-- How far the values of a netlist's runs in words are from those of its exact run, for ever.
--
-- The differences obey the netlist's own step without input, and each rounding brings an error. So
-- the forms of the gain bound them, from registers whose differences lie in a box: if after so many
-- samples, with all errors since, they lie in it again, then they do in every sample.
use Rattle.std.specs.Prelude.{ℕ, if◌then◌else◌, List, map, Option, None}
use Rattle.dsv_netlist.specs.Nodes.{Net}
use Rattle.dsv_linear.specs.declared.range.Range.{Range}
use Rattle.dsv_linear.specs.Forms.{◌>>=◌, range}
use Rattle.dsv_roundoff.specs.declared.offers.WordRange.{WordRange}
use Rattle.dsv_roundoff.specs.declared.offers.RoundoffOffer.{RoundoffOffer}
use Rattle.dsv_network.specs.declared.network.Network.{Network}
use Rattle.dsv_network.specs.Gains.{none_range, ranges_of}
use Rattle.dsv_gain.specs.declared.networks.Quantity.TheVariants as quantity
use Rattle.dsv_gain.specs.Networks.{network_of}
use Rattle.dsv_gain.specs.Gains.{symbol_of_range}
use Rattle.dsv_gain.specs.Boxes.{range_in, is_kept}

abbrev pub range_from : WordRange → Range
range_from w = range w.low w.high

-- ---- from registers whose differences lie in a box
-- the network of differences, of which an input has none
abbrev pub differences_network : Net → Network
differences_network net = network_of net quantity.Differences (symbol_of_range none_range)

-- the ranges of what is fitted, of runs from registers without differences up to a sample, and of
-- that sample after any differences in the box
abbrev pub differences_at : Net → List Range → ℕ → Option (List Range)
differences_at net box depth = ranges_of (differences_network net) (map symbol_of_range box) depth

-- the range of the output's difference, where the box is kept
abbrev pub kept_range : Net → List Range → List Range → Option Range
kept_range net box ranges =
    if is_kept net.format none_range box ranges net.nodes net.next box
    then range_in none_range box ranges net.nodes net.output else None

abbrev pub box_range : Net → List Range → ℕ → Option Range
box_range net box depth = differences_at net box depth >>= kept_range net box

-- What an offer shows of the output's difference, in words: a range that holds it in every sample
-- of every run, or nothing.
unfoldable pub error_of : Net → RoundoffOffer → Option Range
error_of net offer = box_range net (map range_from offer.ranges) offer.depth
