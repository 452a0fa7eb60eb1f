-- The polynomial in z that a list of coefficients in the delta operator stands for.
--
-- The list w_0 to w_N stands for the sum of w_j ((z - 1) / delta)^(N-j). With delta = o / p this
-- is, times o^N, the sum of e_j (z - 1)^(N-j), where e_j = w_j o^j p^(N-j) is whole.
use Rattle.std.specs.Prelude.{ℕ, zero, suc, ◌-◌, ◌*◌, ◌/◌}
use Rattle.std.specs.Prelude.{◌%◌, ◌^◌, ◌==◌, nat_le, Bool}
use Rattle.std.specs.Prelude.{if◌then◌else◌, List, length, map, Option, Some, None, Result, Ok, Err}
use Rattle.std.specs.Prelude.{ℤ, pos, ◌*ℤ◌, neg_ℤ}
use Rattle.std.specs.List.{range_with_len}
use Rattle.std.specs.Int.RustNames.{unsigned_abs}
use Rattle.dsv_algebra.specs.Vectors.{Vector, vector_of, sum_to}
use Rattle.dsv_delta.specs.declared.refusal.PolyWide.{PolyWide}
use Rattle.dsv_delta.specs.Binomials.{choose}

-- the greatest size of a coefficient in the delta operator
abbrev pub greatest_word : ℕ
greatest_word = 2 ^ 47

-- the least size that a number e_j may not have
abbrev pub scaled_limit : ℕ
scaled_limit = 2 ^ 110

-- a fraction whose denominator is a power of two
pub record Dyadic : Type 0 where
  pub numerator : ℕ
  pub denominator : ℕ

-- n / 2^f without common twos: the numerator is odd, or the denominator 1
abbrev pub dyadic : ℕ → ℕ → Dyadic
dyadic n zero = record { numerator = n; denominator = 1 }
dyadic n (suc f) =
    if n % 2 == 0 then dyadic (n / 2) f else record { numerator = n; denominator = 2 ^ suc f }

-- e_j = w_j o^j p^(N-j)
abbrev pub scaled : Dyadic → ℕ → Vector → ℕ → ℤ
scaled delta order words j =
    words j *ℤ pos (delta.numerator ^ j * delta.denominator ^ (order - j))

abbrev pub is_too_wide : ℤ → Bool
is_too_wide z = nat_le scaled_limit (unsigned_abs z)

-- the least of the first n places whose number is too wide
abbrev pub first_wide : Vector → ℕ → Option ℕ
first_wide e zero = None
first_wide e (suc n) =
    elim (first_wide e n) [ Some j ↦ Some j | None ↦ (if is_too_wide (e n) then Some n else None) ]

-- (-1)^k z
abbrev pub alternating : ℕ → ℤ → ℤ
alternating zero z = z
alternating (suc k) z = neg_ℤ (alternating k z)

-- (-1)^k C(n, k)
abbrev pub signed_choose : ℕ → ℕ → ℤ
signed_choose n k = alternating k (pos (choose n k))

-- the coefficient number i of the sum of e_j (z - 1)^(N-j), the leading one being number 0: the sum
-- of e_j (-1)^(i-j) C(N - j, i - j) over j ≤ i
abbrev pub z_coefficient : ℕ → Vector → ℕ → ℤ
z_coefficient order e i = sum_to (suc i) (λ j. e j *ℤ signed_choose (order - j) (i - j))

-- all of them with this delta, or the least index of an e_j that is too wide
abbrev pub expansion : Dyadic → List ℤ → Result (List ℤ) PolyWide
expansion delta words =
    let order = length words - 1 in
    let e = scaled delta order (vector_of words) in
    elim (first_wide e (length words)) [
      | Some j ↦ Err (record { index = j })
      | None ↦ Ok (map (z_coefficient order e) (range_with_len 0 (length words)))
    ]

-- those of a list of words with delta / 2^f
abbrev pub z_coefficients : List ℤ → ℕ → ℕ → Result (List ℤ) PolyWide
z_coefficients words delta f = expansion (dyadic delta f) words
