-- How many bits sizes take together.
use Rattle.std.proofs.Common.{◌*◌, ◌≤◌, List, [], ◌∷◌, length, arith}
use Rattle.std.proofs.Math.IntN.{ℤ}
use Rattle.dsv_template.specs.Candidates.{bit_length, bit_lengths}

bit_length-small : (z : ℤ) → bit_length z ≤ 64
bit_length-small z = omega arith

pub bit_lengths-small : (cs : List ℤ) → bit_lengths cs ≤ 64 * length cs
bit_lengths-small [] = omega arith
bit_lengths-small (c ∷ cs) = let first = bit_length-small c in let rest = bit_lengths-small cs in omega arith

pub ruleset lengths = (bit_lengths-small)
