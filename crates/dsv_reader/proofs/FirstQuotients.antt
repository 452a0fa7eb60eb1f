-- The leading coefficient, and that it is 1 where it is divided by itself.
use Rattle.std.proofs.Common.{◌≡◌, ◌≢◌, ℕ, zero, suc, ◌*◌, ◌<◌, List, [], ◌∷◌, ◌++◌, refl, sym, ap, ◌∙◌, arith}
use Rattle.std.proofs.Math.IntN.{ℤ, pos, negsuc, ◌*ℤ◌, *ℤ_comm}
use Rattle.std.proofs.lemmas.Int.{unsigned_abs-mul}
use Rattle.std.specs.Int.RustNames.{unsigned_abs}
use Rattle.std.specs.Prelude.{Result, Ok, Err, slice_index_or}
use Rattle.std.specs.Int.{IsGcd}
use Rattle.dsv_fraction.specs.Ratio.{Ratio, one}
use Rattle.dsv_algebra.specs.Gcd.{gcd}
use Rattle.dsv_fraction.specs.Arithmetic.{in_lowest_terms, over, quotient, bounded_ratio}
use Rattle.dsv_algebra.proofs.Gcds.{gcd-is}
use Rattle.dsv_fraction.proofs.Lowest.{lowest_parts}
use Rattle.dsv_token.specs.declared.refusal.FileRefusal.{FileRefusal}
use Rattle.dsv_text.specs.Stages.{◌>>=◌}
use Rattle.dsv_reader.specs.declared.numbers.Coefficient.{Coefficient}
use Rattle.dsv_fraction.specs.Ratio as ratio
use Rattle.dsv_reader.specs.Reading.{BeginsWith, by_quotient, divided_from, divided_list, values_in}

one_gcd : IsGcd 1 1 1
unfolding gcd
one_gcd = gcd-is 1 1

self_lowest : (n : ℕ) → in_lowest_terms (pos (suc n)) (suc n) ≡ one
self_lowest n =
    let p = lowest_parts (suc n) (suc n) 1 1 (omega arith) one_gcd (omega arith) in
    rw (p.0) refl

self_over : (z : ℤ) → z ≢ pos 0 → over z z ≡ one
self_over (pos zero) h = absurd (h refl)
self_over (pos (suc n)) h = self_lowest n
self_over (negsuc n) h = self_lowest n

apart : (z : ℤ) (d : ℕ) → z ≢ pos 0 → 0 < d → (z *ℤ pos d) ≢ pos 0
apart (pos zero) d h p e = h refl
apart (pos (suc n)) d h p e = let f : suc n * d ≡ 0 = sym (unsigned_abs-mul (pos (suc n)) (pos d)) ∙ ap unsigned_abs e in absurd (omega arith)
apart (negsuc n) d h p e = let f : suc n * d ≡ 0 = sym (unsigned_abs-mul (negsuc n) (pos d)) ∙ ap unsigned_abs e in absurd (omega arith)

self_quotient : (q : Ratio) → q.num ≢ pos 0 → 0 < q.den → quotient q q ≡ one
self_quotient q h p =
    ap (over (q.num *ℤ pos q.den)) (*ℤ_comm (pos q.den) q.num) ∙ self_over (q.num *ℤ pos q.den) (apart q.num q.den h p)

-- ---- the first quotient stays first
kept_by : (a0 : Ratio) (cs : List Coefficient) (q : Ratio) (out qs : List Ratio) (r : Result Ratio FileRefusal) →
    ((o : List Ratio) → divided_from a0 cs (q ∷ o) ≡ Ok qs → slice_index_or qs 0 ratio.zero ≡ q) →
    (r >>= λ x. divided_from a0 cs (q ∷ out ++ x ∷ [])) ≡ Ok qs → slice_index_or qs 0 ratio.zero ≡ q
kept_by a0 cs q out qs (Ok x) ih e = ih (out ++ x ∷ []) e
kept_by a0 cs q out qs (Err f) ih e = absurd (cc)

first_kept : (a0 : Ratio) (cs : List Coefficient) (q : Ratio) (out qs : List Ratio) → divided_from a0 cs (q ∷ out) ≡ Ok qs → slice_index_or qs 0 ratio.zero ≡ q
first_kept a0 [] q out qs e = let f : qs ≡ q ∷ out = cc in ap (λ xs. slice_index_or xs 0 ratio.zero) f
first_kept a0 (c ∷ cs) q out qs e = kept_by a0 cs q out qs (by_quotient c.at (bounded_ratio (quotient c.value a0))) (λ o. first_kept a0 cs q o qs) e

pub divided_first : (a0 : Ratio) (cs : List Coefficient) (qs : List Ratio) → a0.num ≢ pos 0 → 0 < a0.den → BeginsWith a0 cs → divided_list a0 cs ≡ Ok qs → slice_index_or qs 0 ratio.zero ≡ one
divided_first a0 [] qs h p b e = absurd b
divided_first a0 (c ∷ cs) qs h p b e =
    let f : quotient c.value a0 ≡ one = ap (λ v. quotient v a0) b ∙ self_quotient a0 h p in
    first_kept a0 cs one [] qs (sym (ap (λ x. by_quotient c.at (bounded_ratio x) >>= λ q. divided_from a0 cs (q ∷ [])) f) ∙ e)

-- the first value is the leading coefficient
pub value_first : (q : Ratio) (cs : List Coefficient) → q.num ≢ pos 0 → BeginsWith q cs → (slice_index_or (values_in cs) 0 ratio.zero).num ≢ pos 0
value_first q [] h b = absurd b
value_first q (c ∷ cs) h b = λ e. h (ap (λ (r : Ratio). r.num) (sym b) ∙ e)
