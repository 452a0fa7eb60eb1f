-- Boxes: a range for each register, and when a sample keeps them.
--
-- The ranges of what a sample fits and those of its registers say what each register is loaded
-- with. Where the box holds that again, and 0, it holds the registers of every run from zeros.
use Rattle.std.specs.Prelude.{ℕ, zero, suc, Bool, true, false, not, ◌&&◌, if◌then◌else◌, int_lt}
use Rattle.std.specs.Prelude.{List, [], ◌∷◌, length, drop, Option, Some, None, nat_lt}
use Rattle.dsv_word.specs.declared.format.Format.{Format}
use Rattle.dsv_netlist.specs.declared.node.Node.{Node}
use Rattle.dsv_netlist.specs.declared.node.Node.TheVariants.{Input, Reg, MulConst}
use Rattle.dsv_netlist.specs.declared.node.Node.TheVariants.{Round, Add, Sub, Fit, Scale}
use Rattle.dsv_netlist.specs.Conditions.{is_fit}
use Rattle.dsv_linear.specs.declared.range.Range.{Range}
use Rattle.dsv_linear.specs.Forms.{range_at}
use Rattle.dsv_linear.specs.Known.{are_words}
use Rattle.dsv_network.specs.Gains.{none_range}

-- ---- what nodes give
-- the range of this number, where there is one
abbrev pub range_of : List Range → ℕ → Option Range
range_of ranges i = if nat_lt i (length ranges) then Some (range_at ranges i) else None

-- the range of a node that gives words, where these are those of the input, of the registers, and
-- of what it and the nodes after it fit
abbrev pub node_range : Range → List Range → List Range → Node → Option Range
node_range input box ranges Input = Some input
node_range input box ranges (Reg register) = range_of box register
node_range input box ranges (MulConst coeff of) = None
node_range input box ranges (Round of) = None
node_range input box ranges (Add left right) = None
node_range input box ranges (Sub left right) = None
node_range input box ranges (Fit of) = range_of ranges 0
node_range input box ranges (Scale of) = None

-- the same of the node of this number
abbrev pub range_in : Range → List Range → List Range → List Node → ℕ → Option Range
range_in input box ranges [] i = None
range_in input box ranges (node ∷ nodes) zero = node_range input box ranges node
range_in input box ranges (node ∷ nodes) (suc i) =
    range_in input box (if is_fit node then drop 1 ranges else ranges) nodes i

-- how many of the first so many nodes fit their values
abbrev pub fits_before : List Node → ℕ → ℕ
fits_before [] i = 0
fits_before (node ∷ nodes) zero = 0
fits_before (node ∷ nodes) (suc i) =
    if is_fit node then suc (fits_before nodes i) else fits_before nodes i

-- ---- the box again
-- every number of the one is in the other
abbrev pub is_inside : Range → Range → Bool
is_inside r s = not (int_lt r.low s.low) && not (int_lt s.high r.high)

abbrev pub is_known_inside : Option Range → Range → Bool
is_known_inside None s = false
is_known_inside (Some r) s = is_inside r s

-- a register's range in the box has words as its ends, and holds 0 and what the register is loaded
-- with, from the node of this number
abbrev pub holds_loaded : Format → Range → List Range → List Range → List Node → ℕ → Range → Bool
holds_loaded format input box ranges nodes i r = are_words format r && is_inside none_range r
    && is_known_inside (range_in input box ranges nodes i) r

-- each register has such a range
abbrev pub is_kept :
    Format → Range → List Range → List Range → List Node → List ℕ → List Range → Bool
is_kept format input box ranges nodes [] [] = true
is_kept format input box ranges nodes [] (r ∷ rest) = false
is_kept format input box ranges nodes (i ∷ next) [] = false
is_kept format input box ranges nodes (i ∷ next) (r ∷ rest) =
    holds_loaded format input box ranges nodes i r
    && is_kept format input box ranges nodes next rest
