-- What rounding does to a netlist's values: the linear step that the differences of a run in words
-- from the exact run obey, with one error for each rounded product and no input.
use Rattle.std.specs.Prelude.{◌≡◌, ℕ, ◌^◌, Bool, true, false, ◌&&◌, if◌then◌else◌}
use Rattle.std.specs.Prelude.{List, [], ◌∷◌, ◌++◌, map, slice_index_or}
use Rattle.std.specs.Prelude.{ℤ, pos, ◌+ℤ◌, ◌-ℤ◌, ◌*ℤ◌}
use Rattle.std.specs.Int.{int_rem_euclid}
use Rattle.std.specs.Ordering.{int_eq}
use Rattle.dsv_word.specs.declared.format.Format.{Format}
use Rattle.dsv_netlist.specs.declared.node.Node.{Node}
use Rattle.dsv_netlist.specs.declared.node.Node.TheVariants.{Input, Reg, MulConst}
use Rattle.dsv_netlist.specs.declared.node.Node.TheVariants.{Round, Add, Sub, Fit, Scale}
use Rattle.dsv_netlist.specs.Nodes.{Net, at, sample_of, step_of}
use Rattle.dsv_linear.specs.Facts.{Between}
use Rattle.dsv_linear.specs.Forms.{range}
use Rattle.dsv_linear.specs.Known.{error_range}
use Rattle.dsv_linear.specs.declared.range.Range.{Range}

-- ---- values that need no rounding
-- it says so of the node of this number, where there is one
abbrev pub holds_at : List Bool → ℕ → Bool
holds_at says of = slice_index_or says of false

-- a node gives a multiple of 2^frac_bits whatever the words are, where these say it of the nodes
-- before it: the product with such a coefficient, a word scaled, and sums of these
abbrev pub is_multiple : Format → List Bool → Node → Bool
is_multiple format before Input = false
is_multiple format before (Reg register) = false
is_multiple format before (MulConst coeff of) =
    int_eq (int_rem_euclid coeff (pos (2 ^ format.frac_bits))) (pos 0)
is_multiple format before (Round of) = false
is_multiple format before (Add left right) = holds_at before left && holds_at before right
is_multiple format before (Sub left right) = holds_at before left && holds_at before right
is_multiple format before (Fit of) = false
is_multiple format before (Scale of) = true

-- the same of each of these nodes, after those before
abbrev pub multiples_after : Format → List Bool → List Node → List Bool
multiples_after format before [] = before
multiples_after format before (node ∷ nodes) =
    multiples_after format (before ++ is_multiple format before node ∷ []) nodes

-- which nodes of a sample give multiples of 2^frac_bits in every run
abbrev pub multiples_of : Format → List Node → List Bool
multiples_of format nodes = multiples_after format [] nodes

-- the errors of the rounding of the value of this number: a multiple has none
abbrev pub errors_at : Format → List Bool → ℕ → Range
errors_at format multiples of = if holds_at multiples of then range (pos 0) (pos 0)
    else error_range format.rounding format.frac_bits

-- ---- the step
-- w over d is v over d divided by 2^frac_bits, but for one of these errors
pub record HasError (format : Format) (errors : Range) (d v w : ℤ) : Type 0 where
  pub error : ℤ
  pub between : Between errors.low errors.high error
  pub is : pos (2 ^ format.frac_bits) *ℤ w -ℤ v ≡ d *ℤ error

-- w over d is a node's difference, where these over d are those of the registers and of the nodes
-- before it, and these nodes give multiples of 2^frac_bits
abbrev pub IsDifference : Format → List Bool → ℤ → List ℤ → List ℤ → Node → ℤ → Type 0
IsDifference format multiples d registers values Input w = w ≡ pos 0
IsDifference format multiples d registers values (Reg register) w = w ≡ at registers register
IsDifference format multiples d registers values (MulConst coeff of) w = w ≡ coeff *ℤ at values of
IsDifference format multiples d registers values (Round of) w =
    HasError format (errors_at format multiples of) d (at values of) w
IsDifference format multiples d registers values (Add left right) w =
    w ≡ at values left +ℤ at values right
IsDifference format multiples d registers values (Sub left right) w =
    w ≡ at values left -ℤ at values right
IsDifference format multiples d registers values (Fit of) w = w ≡ at values of
IsDifference format multiples d registers values (Scale of) w =
    w ≡ pos (2 ^ format.frac_bits) *ℤ at values of

-- these are the nodes' differences, one after another, after those before
abbrev pub AreDifferences :
    Format → List Bool → ℤ → List ℤ → List ℤ → List Node → List ℤ → Type 0
AreDifferences format multiples d registers before [] [] = Unit {0}
AreDifferences format multiples d registers before [] (w ∷ values) = ⊥
AreDifferences format multiples d registers before (node ∷ nodes) [] = ⊥
AreDifferences format multiples d registers before (node ∷ nodes) (w ∷ values) =
    IsDifference format multiples d registers before node w
    × AreDifferences format multiples d registers (before ++ w ∷ []) nodes values

-- the differences in each sample, from these of the registers on
abbrev pub RunsApart : Net → ℤ → List ℤ → List (List ℤ) → Type 0
RunsApart net d registers [] = Unit {0}
RunsApart net d registers (values ∷ samples) =
    AreDifferences net.format (multiples_of net.format net.nodes) d registers [] net.nodes values
    × RunsApart net d (map (at values) net.next) samples

-- ---- of a run and its exact run
-- the words v less the numbers e over d, over d
abbrev pub differences : ℤ → List ℤ → List ℤ → List ℤ
differences d (v ∷ words) (e ∷ exact) = (d *ℤ v -ℤ e) ∷ differences d words exact
differences d _ _ = []

-- the same in each sample of a run, from these words in the registers, over these inputs
abbrev pub run_differences : Net → ℤ → List ℤ → List ℤ → List (List ℤ) → List (List ℤ)
run_differences net d words (x ∷ xs) (exact ∷ samples) =
    differences d (sample_of net.format words x net.nodes).values exact
    ∷ run_differences net d (step_of net words x).past xs samples
run_differences net d words _ _ = []
