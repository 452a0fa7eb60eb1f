-- Exact arithmetic on fractions, refused where a part passes 2^127.
use Rattle.std.specs.Prelude.{ℕ, suc, ◌*◌, ◌/◌, Bool, true, false, ◌&&◌, nat_lt, Result}
use Rattle.std.specs.Prelude.{Ok, Err, if◌then◌else◌, ℤ, pos, negsuc, ◌*ℤ◌, ◌+ℤ◌, neg_ℤ}
use Rattle.std.specs.Int.RustNames.{unsigned_abs}
use Rattle.std.specs.declared.cmp.Ordering.{Ordering}
use Rattle.std.specs.Ordering.{int_cmp}
use Rattle.dsv_text.specs.Stages.{and_then}
use Rattle.dsv_fraction.specs.Ratio.{Ratio, part_limit}
use Rattle.dsv_algebra.specs.Gcd.{gcd}
use Rattle.dsv_fraction.specs.declared.fraction.TooWide.{TooWide}

-- the number of that size, negative or not
abbrev pub with_sign : Bool → ℕ → ℤ
with_sign true n = neg_ℤ (pos n)
with_sign false n = pos n

abbrev pub is_negative : ℤ → Bool
is_negative (pos n) = false
is_negative (negsuc n) = true

-- n / d in lowest terms
abbrev pub in_lowest_terms : ℤ → ℕ → Ratio
in_lowest_terms n d = let g = gcd (unsigned_abs n) d in
    record { num = with_sign (is_negative n) (unsigned_abs n / g); den = d / g }

-- n / d in lowest terms, for a divisor of either sign
abbrev pub over : ℤ → ℤ → Ratio
over n (pos d) = in_lowest_terms n d
over n (negsuc d) = in_lowest_terms (neg_ℤ n) (suc d)

abbrev pub times : Ratio → Ratio → Ratio
times r s = in_lowest_terms (r.num *ℤ s.num) (r.den * s.den)

abbrev pub quotient : Ratio → Ratio → Ratio
quotient r s = over (r.num *ℤ pos s.den) (pos r.den *ℤ s.num)

abbrev pub opposite : Ratio → Ratio
opposite r = record { num = neg_ℤ r.num; den = r.den }

-- how r stands to s: the order of the cross products
abbrev pub order_between : Ratio → Ratio → Ordering
order_between r s = int_cmp (r.num *ℤ pos s.den) (s.num *ℤ pos r.den)

-- ---- refusals
abbrev pub too_wide : TooWide
too_wide = record {}

-- neither part passes 2^127
abbrev pub is_bounded : Ratio → Bool
is_bounded r = nat_lt (unsigned_abs r.num) part_limit && nat_lt r.den part_limit

-- the fraction, where neither part passes 2^127
abbrev pub bounded_ratio : Ratio → Result Ratio TooWide
bounded_ratio r = if is_bounded r then Ok r else Err too_wide

-- the whole number, where it doesn't pass 2^127
abbrev pub bounded_whole : ℤ → Result ℤ TooWide
bounded_whole z = if nat_lt (unsigned_abs z) part_limit then Ok z else Err too_wide

abbrev pub bounded_size : ℕ → Result ℕ TooWide
bounded_size n = if nat_lt n part_limit then Ok n else Err too_wide

-- a/b + c/d with g = gcd b d: each of b (d/g), a (d/g), c (b/g) and the sum of the last two is
-- tested
abbrev pub sum_of : Ratio → Ratio → Result Ratio TooWide
sum_of r s =
    let g = gcd r.den s.den in
    and_then (bounded_size (r.den * (s.den / g))) (λ den.
    and_then (bounded_whole (r.num *ℤ pos (s.den / g))) (λ left.
    and_then (bounded_whole (s.num *ℤ pos (r.den / g))) (λ right.
    and_then (bounded_whole (left +ℤ right)) (λ total. Ok (in_lowest_terms total den)))))

abbrev pub difference_of : Ratio → Ratio → Result Ratio TooWide
difference_of r s = sum_of r (opposite s)
