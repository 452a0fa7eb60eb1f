-- Sums of the prefixes of a list.
use Rattle.std.specs.Prelude.{List, [], ◌∷◌, ℤ, ◌+ℤ◌}

-- what a carry and the numbers up to each place add up to
abbrev pub running_sums : ℤ → List ℤ → List ℤ
running_sums carry [] = []
running_sums carry (n ∷ ns) = (carry +ℤ n) ∷ running_sums (carry +ℤ n) ns
