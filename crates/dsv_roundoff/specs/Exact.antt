-- A netlist's exact run: over fractions, without rounding and without fitting.
--
-- Its values are whole numbers over a denominator, the same in all samples. Not each denominator
-- will do, since a rounded product has an exact quotient in its place.
use Rattle.std.specs.Prelude.{◌≡◌, ◌^◌, List, [], ◌∷◌, ◌++◌, map}
use Rattle.std.specs.Prelude.{ℤ, pos, ◌+ℤ◌, ◌-ℤ◌, ◌*ℤ◌}
use Rattle.dsv_word.specs.declared.format.Format.{Format}
use Rattle.dsv_netlist.specs.declared.node.Node.{Node}
use Rattle.dsv_netlist.specs.declared.node.Node.TheVariants.{Input, Reg, MulConst}
use Rattle.dsv_netlist.specs.declared.node.Node.TheVariants.{Round, Add, Sub, Fit, Scale}
use Rattle.dsv_netlist.specs.Nodes.{Net, at}

-- e over d is what a node gives exactly, where these over d are the registers and the values of the
-- nodes before it, and x is the input
abbrev pub IsExactly : Format → ℤ → List ℤ → ℤ → List ℤ → Node → ℤ → Type 0
IsExactly format d registers x values Input e = e ≡ d *ℤ x
IsExactly format d registers x values (Reg register) e = e ≡ at registers register
IsExactly format d registers x values (MulConst coeff of) e = e ≡ coeff *ℤ at values of
IsExactly format d registers x values (Round of) e = pos (2 ^ format.frac_bits) *ℤ e ≡ at values of
IsExactly format d registers x values (Add left right) e = e ≡ at values left +ℤ at values right
IsExactly format d registers x values (Sub left right) e = e ≡ at values left -ℤ at values right
IsExactly format d registers x values (Fit of) e = e ≡ at values of
IsExactly format d registers x values (Scale of) e = e ≡ pos (2 ^ format.frac_bits) *ℤ at values of

-- these are what the nodes give, one after another, after the values before
abbrev pub AreExactly : Format → ℤ → List ℤ → ℤ → List ℤ → List Node → List ℤ → Type 0
AreExactly format d registers x before [] [] = Unit {0}
AreExactly format d registers x before [] (e ∷ values) = ⊥
AreExactly format d registers x before (node ∷ nodes) [] = ⊥
AreExactly format d registers x before (node ∷ nodes) (e ∷ values) =
    IsExactly format d registers x before node e
    × AreExactly format d registers x (before ++ e ∷ []) nodes values

-- The exact run from these registers over these inputs: what the nodes give in each sample.
abbrev pub RunsExactly : Net → ℤ → List ℤ → List ℤ → List (List ℤ) → Type 0
RunsExactly net d registers [] [] = Unit {0}
RunsExactly net d registers [] (values ∷ samples) = ⊥
RunsExactly net d registers (x ∷ xs) [] = ⊥
RunsExactly net d registers (x ∷ xs) (values ∷ samples) =
    AreExactly net.format d registers x [] net.nodes values
    × RunsExactly net d (map (at values) net.next) xs samples
