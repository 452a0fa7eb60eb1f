-- Ranges that don't grow with the words.
--
-- The first pass starts from registers that are any words, so what is left of them when it settles,
-- and what the errors of rounding them come to, grows with the words. But once exact values have
-- ranges, registers have too: a pass from those shows ranges that are narrower, and so on.
use Rattle.std.specs.Prelude.{ℕ, zero, suc, Bool, false, ◌||◌, if◌then◌else◌, int_lt}
use Rattle.std.specs.Prelude.{List, [], ◌∷◌, length, replicate, Option, Some, None}
use Rattle.std.specs.Prelude.{ℤ, pos, ◌-ℤ◌, ◌*ℤ◌}
use Rattle.dsv_algebra.specs.Narrow.{narrow_of}
use Rattle.dsv_netlist.specs.declared.node.Node.{Node}
use Rattle.dsv_netlist.specs.Nodes.{Net}
use Rattle.dsv_linear.specs.declared.range.Range.{Range}
use Rattle.dsv_linear.specs.Forms.{◌>>=◌, range, scaled_range}
use Rattle.dsv_network.specs.declared.outlook.Outlook.{Outlook}
use Rattle.dsv_network.specs.declared.outlook.Outlook.TheVariants as outlook
use Rattle.dsv_network.specs.Gains as network
use Rattle.dsv_network.specs.Gains.{pairwise, hulls, none_range}
use Rattle.dsv_gain.specs.Gains.{words_network, first_gain}
use Rattle.dsv_gain.specs.Boxes.{range_in, is_kept}

-- ---- what registers hold
-- what is made of each, where something is of all of them
abbrev pub all_of : {X Y : Type 0} → (X → Option Y) → List X → Option (List Y)
all_of make [] = Some []
all_of make (x ∷ xs) = make x >>= λ y. all_of make xs >>= λ ys. Some (y ∷ ys)

-- the least box that holds this one and what registers are loaded with from it
abbrev pub held_after : Range → List Node → List ℕ → List Range → List Range → Option (List Range)
held_after input nodes next ranges box =
    all_of (range_in input box ranges nodes) next >>= λ loaded. Some (hulls box loaded)

-- the same so many times
abbrev pub held_in :
    ℕ → Range → List Node → List ℕ → List Range → List Range → Option (List Range)
held_in zero input nodes next ranges box = Some box
held_in (suc n) input nodes next ranges box =
    held_after input nodes next ranges box >>= held_in n input nodes next ranges

-- What registers hold in runs from zeros, where these are the ranges of the input and of all that
-- is fitted: 0, and what they are loaded with, also from one another.
abbrev pub starts_of : Net → Range → List Range → Option (List Range)
starts_of net input ranges = held_in (length net.next) input net.nodes net.next ranges
    (replicate (length net.next) none_range)

-- ---- a pass from there
-- the ranges of what is found from the box, where these keep it
abbrev pub kept_ranges : Net → Range → List Range → Outlook → Option (List Range)
kept_ranges net input box (outlook.Safe gain) =
    if is_kept net.format input box gain.ranges net.nodes net.next box then Some gain.ranges
    else None
kept_ranges net input box (outlook.Leaves sample value) = None
kept_ranges net input box outlook.Deep = None

abbrev pub box_ranges : Net → ℤ → ℤ → ℕ → List Range → Option (List Range)
box_ranges net low high limit box = all_of scaled_range box >>= λ symbols.
    kept_ranges net (range low high) box
    (network.gain_of (words_network net low high) symbols limit)

-- ---- narrower ranges
-- the numbers that both hold
abbrev pub meet : Range → Range → Range
meet r s = range (if int_lt r.low s.low then s.low else r.low)
    (if int_lt s.high r.high then s.high else r.high)

abbrev pub meets : List Range → List Range → List Range
meets = pairwise meet

abbrev pub times_width : ℕ → Range → Option ℤ
times_width n r = narrow_of (r.high -ℤ r.low) >>= λ width. narrow_of (pos n *ℤ width)

-- the one number is less than the other, and both are known
abbrev pub is_known_less : Option ℤ → Option ℤ → Bool
is_known_less None w = false
is_known_less (Some v) None = false
is_known_less (Some v) (Some w) = int_lt v w

-- the other range is narrower by more than a sixteenth
abbrev pub is_narrower : Range → Range → Bool
is_narrower r s = is_known_less (times_width 16 s) (times_width 15 r)

-- one of the others is
abbrev pub are_narrower : List Range → List Range → Bool
are_narrower [] others = false
are_narrower (r ∷ ranges) [] = false
are_narrower (r ∷ ranges) (s ∷ others) = is_narrower r s || are_narrower ranges others

-- what is known by both, where that is so much more
abbrev pub more_known : List Range → List Range → Option (List Range)
more_known ranges found =
    if are_narrower ranges (meets ranges found) then Some (meets ranges found) else None

-- the ranges after one pass more, from what registers hold by those before
abbrev pub narrower_ranges : Net → ℤ → ℤ → ℕ → List Range → Option (List Range)
narrower_ranges net low high limit ranges = starts_of net (range low high) ranges >>= λ box.
    box_ranges net low high limit box >>= more_known ranges

abbrev pub or_else : List Range → (List Range → List Range) → Option (List Range) → List Range
or_else ranges next None = ranges
or_else ranges next (Some narrower) = next narrower

-- after at most so many passes; one that shows not so much more is the last
abbrev pub narrowed : ℕ → Net → ℤ → ℤ → ℕ → List Range → List Range
narrowed zero net low high limit ranges = ranges
narrowed (suc n) net low high limit ranges =
    or_else ranges (narrowed n net low high limit) (narrower_ranges net low high limit ranges)

abbrev pub most_passes : ℕ
most_passes = 8

-- its depth and the sample that it settled in stay those of the first pass
abbrev pub with_narrowed : Net → ℤ → ℤ → ℕ → Outlook → Outlook
with_narrowed net low high limit (outlook.Safe gain) = outlook.Safe (record {
  depth = gain.depth;
  settled = gain.settled;
  ranges = narrowed most_passes net low high limit gain.ranges;
})
with_narrowed net low high limit (outlook.Leaves sample value) = outlook.Leaves sample value
with_narrowed net low high limit outlook.Deep = outlook.Deep

-- What the samples below the limit show of runs of any length: the gain of the first pass, with
-- its ranges narrowed.
unfoldable pub gain_of : Net → ℤ → ℤ → ℕ → Outlook
gain_of net low high limit =
    with_narrowed net low high limit (first_gain net low high limit)
