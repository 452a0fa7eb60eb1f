-- The words of each format are words of some format.
use Rattle.std.proofs.Common.{◌-◌, ◌^◌, ◌<◌, ◌≤◌, List, arith}
use Rattle.std.specs.List.{All}
use Rattle.std.proofs.Math.IntN.{ℤ}
use Rattle.std.proofs.Math.Nat.{pow-le-pow_right}
use Rattle.std.proofs.lemmas.Int.{ints}
use Rattle.std.proofs.lemmas.List.Elements.{All-weaker}
use Rattle.dsv_word.specs.declared.format.Format.{Format}
use Rattle.dsv_word.specs.Words.{width, IsWord}
use Rattle.dsv_template.specs.Candidates.{IsSomeWord}

some_word : (f : Format) (v : ℤ) → IsWord f v → IsSomeWord v
some_word f v w =
    let few : width f - 1 ≤ 47 = omega (arith, f.lawful) in
    let two : 0 < 2 = omega arith in
    let small : 2 ^ (width f - 1) ≤ 2 ^ 47 = pow-le-pow_right two few in
    let low = w.low in
    let high = w.high in
    record { low = omega (arith, ints); high = omega (arith, ints) }

pub some_words : (f : Format) (vs : List ℤ) → All (IsWord f) vs → All IsSomeWord vs
some_words f vs h = All-weaker (IsWord f) IsSomeWord (some_word f) vs h
