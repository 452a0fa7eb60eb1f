-- A list that begins with 1 does so in the delta operator.
use Rattle.std.proofs.Common.{◌≡◌, ℕ, zero, suc, ◌-◌, ◌*◌, ◌^◌, ◌<◌, ◌≤◌, Bool, true, false, List, [], ◌∷◌, ◌++◌, length, get_or, refl, sym, ap, ◌∙◌, arith, length-append, Result, Ok, Err}
use Rattle.std.specs.Prelude.{◌&&◌, nat_lt, if◌then◌else◌}
use Rattle.std.specs.List.{All}
use Rattle.std.proofs.Math.IntN.{ℤ, pos, ◌*ℤ◌}
use Rattle.std.proofs.lemmas.Int.{ints}
use Rattle.std.proofs.lemmas.List.{get_or_append_left}
use Rattle.std.proofs.lemmas.List.Elements.{All-head, All-tail}
use native.Mathlib.Numerals.{unary_clauses}
use Rattle.dsv_text.specs.Stages.{◌>>=◌}
use Rattle.dsv_algebra.specs.Vectors.{Vector, vector_of}
use Rattle.dsv_fraction.specs.Ratio.{Ratio, zero as nought, one}
use Rattle.dsv_algebra.specs.Gcd.{gcd}
use Rattle.dsv_fraction.specs.Arithmetic.{in_lowest_terms, bounded_ratio}
use Rattle.dsv_fraction.proofs.Powers.{lowest_same}
use Rattle.dsv_names.specs.declared.list_name.ListName.{ListName}
use Rattle.dsv_names.specs.declared.list_name.ListName.TheVariants as list
use Rattle.dsv_delta.specs.Binomials.{binomial_sum, weight}
use Rattle.dsv_delta.specs.Deltas.{Lists, lcm, common, common_from, numerators, over_power, bounded_over_power, or_wide, coefficients_from, delta_list}
use Rattle.dsv_delta.specs.declared.refusal.DeltaWide.{DeltaWide}
use Rattle.dsv_delta.proofs.Multiples.{lcm_grows}
use Rattle.dsv_delta.proofs.Table.{choose_all}
use Rattle.dsv_quantiser.specs.Leading.{ConvertedLeadingIsOne}

abbrev items_of : Result (List Ratio) DeltaWide → List Ratio
items_of (Ok rs) = rs
items_of (Err e) = []

abbrev a_of : Result Lists DeltaWide → List Ratio
a_of (Ok lists) = lists.a
a_of (Err e) = []

-- ---- what the list begins with stays
begins : (name : ListName) (delta : Ratio) (l : ℕ) (sums : Vector) (count : ℕ) (out rs : List Ratio) → 1 ≤ length out → coefficients_from name delta l sums count out ≡ Ok rs
    → get_or rs 0 nought ≡ get_or out 0 nought
begins name delta l sums zero out rs some e = ap (λ xs. get_or xs 0 nought) (sym (ap items_of e))
begins name delta l sums (suc n) out rs some e =
    next (or_wide name (length out) (bounded_over_power delta (sums (length out)) l (length out)))
    (λ r h. begins name delta l sums n (out ++ r ∷ []) rs (omega (arith, length-append out (r ∷ []))) h ∙ get_or_append_left out (r ∷ []) nought 0 some) e
  where
    next : (o : Result Ratio DeltaWide) → ((r : Ratio) → coefficients_from name delta l sums n (out ++ r ∷ []) ≡ Ok rs → get_or rs 0 nought ≡ get_or out 0 nought)
        → (o >>= λ r. coefficients_from name delta l sums n (out ++ r ∷ [])) ≡ Ok rs → get_or rs 0 nought ≡ get_or out 0 nought
    next (Ok r) more e = more r e
    next (Err x) more e = absurd cc

-- ---- the first coefficient

one_reduced : in_lowest_terms (pos 1) 1 ≡ one
unfolding gcd
one_reduced = refl

over_itself : (delta : Ratio) (s : ℤ) (l : ℕ) → 0 < l → s ≡ pos l → over_power delta s l 0 ≡ one
over_itself delta s l some e =
    simp unary_clauses (lowest_same (s *ℤ pos 1) (pos 1) (l * 1) 1 (omega arith) (omega arith) (rw e (omega (arith, ints))) ∙ one_reduced)

first_sum : (order l : ℕ) (q : Ratio) (qs : List Ratio) → q ≡ one → binomial_sum order (vector_of (numerators l (q ∷ qs))) 0 ≡ pos l
first_sum order l q qs e = rw (e, choose_all (order - 0)) (omega (arith, ints))

common_positive : (l : ℕ) (qs : List Ratio) → 0 < l → All (λ (q : Ratio). 0 < q.den) qs → 0 < common_from l qs
common_positive l [] some all = some
common_positive l (q ∷ qs) some all =
    let least = lcm_grows l q.den some (All-head (λ (q : Ratio). 0 < q.den) q qs all) in
    common_positive (lcm l q.den) qs (omega (arith, least)) (All-tail (λ (q : Ratio). 0 < q.den) q qs all)

-- ---- the list
list_begins : (name : ListName) (delta : Ratio) (qs rs : List Ratio) → All (λ (q : Ratio). 0 < q.den) qs → 1 ≤ length qs → get_or qs 0 nought ≡ one → delta_list name delta qs ≡ Ok rs
    → get_or rs 0 nought ≡ one
list_begins name delta [] rs all some is e = absurd (omega arith)
list_begins name delta (q ∷ qs) rs all some is e =
    by_test (nat_lt (common (q ∷ qs)) (2 ^ 126) && nat_lt (weight (numerators (common (q ∷ qs)) (q ∷ qs))) (2 ^ 126)) e
  where
    l : ℕ
    l = common (q ∷ qs)

    sums : Vector
    sums = binomial_sum (length (q ∷ qs) - 1) (vector_of (numerators l (q ∷ qs)))

    made : or_wide name 0 (bounded_over_power delta (sums 0) l 0) ≡ Ok one
    made = ap (λ r. or_wide name 0 (bounded_ratio r)) (over_itself delta (sums 0) l (common_positive 1 (q ∷ qs) (omega arith) all) (first_sum (length (q ∷ qs) - 1) l q qs is))

    by_test : (t : Bool) → (if t then coefficients_from name delta l sums (length (q ∷ qs)) [] else Err (record { list = name; index = 0 })) ≡ Ok rs → get_or rs 0 nought ≡ one
    by_test true e = begins name delta l sums (length qs) (one ∷ []) rs (omega arith) (sym (ap (λ o. o >>= λ r. coefficients_from name delta l sums (length qs) (r ∷ [])) made) ∙ e)
    by_test false e = absurd cc

pub leading_is_one : ConvertedLeadingIsOne
leading_is_one b a delta lists all some is e = of_b (delta_list list.B delta b) e
  where
    of_a : (beta : List Ratio) (o : Result (List Ratio) DeltaWide) → o ≡ delta_list list.A delta a → (o >>= λ alpha. Ok (record { b = beta; a = alpha })) ≡ Ok lists → get_or lists.a 0 nought ≡ one
    of_a beta (Ok alpha) given e = ap (λ xs. get_or xs 0 nought) (sym (ap a_of e)) ∙ list_begins list.A delta a alpha all some is (sym given)
    of_a beta (Err x) given e = absurd cc

    of_b : (o : Result (List Ratio) DeltaWide) → (o >>= λ beta. delta_list list.A delta a >>= λ alpha. Ok (record { b = beta; a = alpha })) ≡ Ok lists → get_or lists.a 0 nought ≡ one
    of_b (Ok beta) e = of_a beta (delta_list list.A delta a) refl e
    of_b (Err x) e = absurd cc
