-- All coefficients in z of a list of words in the delta operator.
use Rattle.std.proofs.Common.{◌≡◌, ℕ, ◌-◌, List, length, pos, subst}
use Rattle.std.proofs.Math.IntN.{ℤ}
use Rattle.std.proofs.lemmas.List.FromFn.{fill_by_all}
use Rattle.dsv_algebra.specs.Vectors.{vector_of}
use Rattle.dsv_delta.specs.ZCoefficients.{Dyadic, scaled, z_coefficient}
use Rattle.dsv_delta.proofs.Alternating.{IsPart}
use Rattle.dsv_loop.specs.Loops.{expanded}

pub whole_part : (d : Dyadic) (ws xs : List ℤ) (j : ℕ) → j ≡ length ws → IsPart (scaled d (length ws - 1) (vector_of ws)) j xs → xs ≡ expanded d ws
whole_part d ws xs j e p =
    let E = scaled d (length ws - 1) (vector_of ws) in
    let P : ℕ → Type 0 = λ k. IsPart E k xs in
    let all : IsPart E (length ws) xs = subst P e p in
    fill_by_all (z_coefficient (length ws - 1) E) xs (length ws) (pos 0) all.places all.values
