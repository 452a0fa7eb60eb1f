-- Serves private contracts: summands whose totals are small.
use Rattle.std.specs.Prelude.{◌≤◌, ◌^◌, ℤ}
use Rattle.std.specs.Int.RustNames.{unsigned_abs}
use Rattle.dsv_meaning.specs.declared.summands.Summand.{Summand}
use Rattle.dsv_meaning.specs.declared.summands.Summand.TheVariants.{Times, Alone}

-- no greater in size than a word can be
abbrev pub IsSmallNumber : ℤ → Type 0
IsSmallNumber c = unsigned_abs c ≤ 2 ^ 48

-- so is the coefficient
abbrev pub IsSmall : Summand ℤ → Type 0
IsSmall (Times away coeff w) = IsSmallNumber coeff
IsSmall (Alone w) = Unit {0}
