-- A list's coefficients by the steps of the conversion.
use Rattle.std.proofs.Common.{◌≡◌, ℕ, ◌-◌, ◌^◌, ◌<◌, ◌&&◌, List, [], length, take, drop, get_or, sym, ap, ◌∙◌, arith, nat_lt, if◌then◌else◌, true, Some, Err}
use Rattle.std.proofs.Math.IntN.{ℤ, pos}
use Rattle.std.proofs.Math.Seq.{take-length}
use Rattle.std.proofs.lemmas.List.{take-append-le}
use Rattle.std.specs.List.{refill}
use Rattle.std.specs.Int.RustNames.{unsigned_abs}
use Rattle.dsv_algebra.specs.Narrow.{narrow_of}
use Rattle.dsv_algebra.specs.Vectors.{vector_of}
use Rattle.dsv_fraction.specs.Ratio.{Ratio}
use Rattle.dsv_names.specs.declared.list_name.ListName.{ListName}
use Rattle.dsv_delta.specs.Binomials.{binomial_sum, weight}
use Rattle.dsv_delta.specs.Deltas.{common, numerators, coefficients_from, delta_list}
use Rattle.dsv_delta.proofs.Multiples.{some_small}
use Rattle.dsv_delta.proofs.Heavy.{length-numerators}
use Rattle.dsv_delta.proofs.Overs.{same_coefficients}

both_below : (m n k : ℕ) → m < k → n < k → (nat_lt m k && nat_lt n k) ≡ true
both_below m n k p q = grind arith

pub list_given : (name : ListName) (delta : Ratio) (qs : List Ratio) (l : ℤ) (ns sums : List ℤ) → Some l ≡ narrow_of (pos (common qs))
    → ns ≡ numerators (unsigned_abs l) qs → weight ns < 2 ^ 126 → length sums ≡ length ns
    → ((j : ℕ) → j < length ns → get_or sums j (pos 0) ≡ binomial_sum (length ns - 1) (vector_of ns) j)
    → coefficients_from name delta (unsigned_abs l) (vector_of sums) (length sums) [] ≡ delta_list name delta qs
list_given name delta qs l ns sums e is light long same =
    let small = some_small (common qs) l (sym e) in
    let size : unsigned_abs l ≡ common qs = ap unsigned_abs small.0 in
    let made : ns ≡ numerators (common qs) qs = is ∙ ap (λ k. numerators k qs) size in
    let places : length ns ≡ length qs = ap length made ∙ length-numerators (common qs) qs in
    ap (λ k. coefficients_from name delta k (vector_of sums) (length sums) []) size
    ∙ ap (λ n. coefficients_from name delta (common qs) (vector_of sums) n []) (long ∙ places)
    ∙ same_coefficients name delta (common qs) (vector_of sums) (binomial_sum (length qs - 1) (vector_of (numerators (common qs) qs))) (length qs) []
    (λ j h. same j (omega arith) ∙ ap (λ n. binomial_sum (n - 1) (vector_of ns) j) places ∙ ap (λ (xs : List ℤ). binomial_sum (length qs - 1) (vector_of xs) j) made)
    ∙ ap (λ t. if t then coefficients_from name delta (common qs) (binomial_sum (length qs - 1) (vector_of (numerators (common qs) qs))) (length qs) []
    else Err (record { list = name; index = 0 })) (sym (both_below (common qs) (weight (numerators (common qs) qs)) (2 ^ 126) small.1 (omega (arith, light, ap weight made))))

-- a list that is written over whole
pub refill_all : (n : ℕ) (xs ws : List ℤ) → n ≡ length xs → length ws ≡ length xs → refill n xs ws ≡ ws
refill_all n xs ws e h =
    let same : n ≡ length ws = omega arith in
    take-append-le n ws (drop (length ws) xs) (omega arith) ∙ ap (λ k. take k ws) same ∙ take-length ws
