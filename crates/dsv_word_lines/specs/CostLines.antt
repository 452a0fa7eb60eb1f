-- The line of what a controller's file says that its hardware costs.
use Rattle.std.specs.Prelude.{ℕ, List, [], ◌∷◌, codes, decimal}
use Rattle.std.specs.List.{concat}
use Rattle.dsv_reader.specs.declared.costs.Costs.{Costs}

-- the cycles of the parts of a sample, by the names that a file gives them
abbrev pub cost_line : Costs → List ℕ
cost_line costs = concat (codes "cost_sample " ∷ decimal costs.sample
    ∷ codes " cost_mul " ∷ decimal costs.mul ∷ codes " cost_add " ∷ decimal costs.add
    ∷ codes " cost_round " ∷ decimal costs.round ∷ codes " cost_fit " ∷ decimal costs.fit
    ∷ codes " cost_moves " ∷ decimal costs.moves ∷ codes "\n" ∷ [])
