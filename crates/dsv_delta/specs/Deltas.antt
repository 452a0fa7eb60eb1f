-- Coefficients in the delta operator: those of the powers of (z - 1) / delta.
use Rattle.std.specs.Prelude.{ℕ, zero, suc, ◌-◌, ◌*◌, ◌/◌, ◌^◌, ◌&&◌}
use Rattle.std.specs.Prelude.{nat_lt, if◌then◌else◌, List, [], ◌∷◌, ◌++◌}
use Rattle.std.specs.Prelude.{length, Result, Ok, Err, ℤ, pos, ◌*ℤ◌}
use Rattle.std.specs.Int.RustNames.{unsigned_abs}
use Rattle.dsv_text.specs.Stages.{◌>>=◌}
use Rattle.dsv_algebra.specs.Narrow.{narrow_limit}
use Rattle.dsv_algebra.specs.Vectors.{Vector, vector_of}
use Rattle.dsv_fraction.specs.Ratio.{Ratio}
use Rattle.dsv_algebra.specs.Gcd.{gcd}
use Rattle.dsv_text.specs.Stages.{and_then}
use Rattle.dsv_fraction.specs.Arithmetic.{in_lowest_terms, bounded_ratio}
use Rattle.dsv_fraction.specs.declared.fraction.TooWide.{TooWide}
use Rattle.dsv_names.specs.declared.list_name.ListName.{ListName}
use Rattle.dsv_names.specs.declared.list_name.ListName.TheVariants as list
use Rattle.dsv_delta.specs.declared.refusal.DeltaWide.{DeltaWide}
use Rattle.dsv_delta.specs.Binomials.{binomial_sum, weight}

-- ---- over one denominator
-- the least common multiple
abbrev pub lcm : ℕ → ℕ → ℕ
lcm a b = a * (b / gcd a b)

-- the least common multiple of a number and of the denominators
abbrev pub common_from : ℕ → List Ratio → ℕ
common_from l [] = l
common_from l (q ∷ qs) = common_from (lcm l q.den) qs

abbrev pub common : List Ratio → ℕ
common qs = common_from 1 qs

-- the numerators over a common denominator
abbrev pub numerators : ℕ → List Ratio → List ℤ
numerators l [] = []
numerators l (q ∷ qs) = (q.num *ℤ pos (l / q.den)) ∷ numerators l qs

-- ---- one coefficient
-- s / l over delta^t
abbrev pub over_power : Ratio → ℤ → ℕ → ℕ → Ratio
over_power delta s l t = in_lowest_terms (s *ℤ pos (delta.den ^ t)) (l * unsigned_abs delta.num ^ t)

-- s / l over delta^t, where no part passes 2^127 with any power from 0 to t
abbrev pub bounded_over_power : Ratio → ℤ → ℕ → ℕ → Result Ratio TooWide
bounded_over_power delta s l zero = bounded_ratio (over_power delta s l 0)
bounded_over_power delta s l (suc t) =
    and_then (bounded_over_power delta s l t) (λ r. bounded_ratio (over_power delta s l (suc t)))

abbrev pub or_wide : ListName → ℕ → Result Ratio TooWide → Result Ratio DeltaWide
or_wide name i (Ok r) = Ok r
or_wide name i (Err e) = Err (record { list = name; index = i })

-- ---- all of them
-- further coefficients after those that the list has so far, made of the sums over l
abbrev pub coefficients_from : ListName → Ratio → ℕ → Vector → ℕ → List Ratio
    → Result (List Ratio) DeltaWide
coefficients_from name delta l sums zero out = Ok out
coefficients_from name delta l sums (suc count) out =
    or_wide name (length out) (bounded_over_power delta (sums (length out)) l (length out))
    >>= λ r. coefficients_from name delta l sums count (out ++ r ∷ [])

-- the list's coefficients in the delta operator: number j is the sum of q_i C(N - i, N - j) over i
-- ≤ j, over delta^j
abbrev pub delta_list : ListName → Ratio → List Ratio → Result (List Ratio) DeltaWide
delta_list name delta qs =
    let l = common qs in
    let ns = numerators l qs in
    let sums = binomial_sum (length qs - 1) (vector_of ns) in
    if nat_lt l narrow_limit && nat_lt (weight ns) narrow_limit
    then coefficients_from name delta l sums (length qs) []
    else Err (record { list = name; index = 0 })

-- both lists of a transfer function
pub record Lists : Type 0 where
  pub b : List Ratio
  pub a : List Ratio

abbrev pub delta_lists : List Ratio → List Ratio → Ratio → Result Lists DeltaWide
delta_lists b a delta = delta_list list.B delta b >>= λ beta. delta_list list.A delta a
    >>= λ alpha. Ok (record { b = beta; a = alpha })
