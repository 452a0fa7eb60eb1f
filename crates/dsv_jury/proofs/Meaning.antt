-- The verdict of the recursion is the one that the relation on rows allows.
use Rattle.std.proofs.Common.{◌≡◌, ◌↔◌, ℕ, zero, suc, ◌+◌, ◌-◌, ◌*◌, ◌/◌, ◌<◌, Bool, true, false, List, [], ◌∷◌, length, inl, inr, refl, sym, ap, ◌∙◌, arith, subst}
use Rattle.std.proofs.Math.IntN.{ℤ, pos, negsuc, neg_ℤ, ◌*ℤ◌}
use Rattle.std.specs.Int.{◌∣◌}
use Rattle.std.specs.Int.RustNames.{unsigned_abs, int_div}
use Rattle.std.proofs.lemmas.Int.{ints, unsigned_abs-mul}
use Rattle.std.proofs.lemmas.Nat.Gcd.{dvd_antisymm, dvd-zero}
use Rattle.std.proofs.Math.Nat.{mul-div_cancel', mul-div_cancel_left, dvd-mul_right}
use Rattle.std.proofs.lemmas.List.{ext_get_or, get_or-map}
use Rattle.dsv_algebra.specs.Vectors.{vector_of}
use Rattle.dsv_jury.specs.CommonFactor.{common_factor}
use Rattle.dsv_jury.specs.Jury.{last_leads, cross_difference, cross_differences, row_after, is_wide, verdict_from, jury_of}
use Rattle.dsv_jury.specs.Rows.{IsNext, IsVerdictFrom, IsJury}
use Rattle.dsv_jury.specs.declared.verdict.Jury.{Jury}
use Rattle.dsv_jury.proofs.Factors.{factor_divides, factor_greatest}
use Rattle.dsv_jury.proofs.Verdicts.{length-row_after, length-cross_differences, values_at, differences_have_factor, not_inside_step, wide_step, next_step}

times_negative : (f q : ℕ) → pos f *ℤ neg_ℤ (pos q) ≡ neg_ℤ (pos (f * q))
times_negative f zero = omega (arith, ints)
times_negative f (suc q) = omega (arith, ints)

-- a factor times the quotient by it
times_quotient : (x : ℤ) (f : ℕ) → f ∣ unsigned_abs x → pos f *ℤ int_div x (pos f) ≡ x
times_quotient (pos n) f h = ap pos (mul-div_cancel' f h)
times_quotient (negsuc n) f h = times_negative f (suc n / f) ∙ ap (λ t. neg_ℤ (pos t)) (mul-div_cancel' f h)

-- one quotient by a positive factor
one_quotient : (f : ℕ) (x y : ℤ) → 0 < f → pos f *ℤ x ≡ pos f *ℤ y → x ≡ y
one_quotient f (pos a) (pos b) p e =
    let g : f * a ≡ f * b = omega (arith, ints) in
    ap pos (sym (mul-div_cancel_left a p) ∙ ap (λ t. t / f) g ∙ mul-div_cancel_left b p)
one_quotient (suc f) (pos a) (negsuc b) p e = absurd (omega (arith, ints))
one_quotient (suc f) (negsuc a) (pos b) p e = absurd (omega (arith, ints))
one_quotient f (negsuc a) (negsuc b) p e =
    let g : f * suc a ≡ f * suc b = omega (arith, ints) in
    let h : suc a ≡ suc b = sym (mul-div_cancel_left (suc a) p) ∙ ap (λ t. t / f) g ∙ mul-div_cancel_left (suc b) p in
    omega (arith, ints)
one_quotient zero (pos a) (negsuc b) p e = absurd (omega arith)
one_quotient zero (negsuc a) (pos b) p e = absurd (omega arith)

difference_at : (d : ℕ) (row : List ℤ) (i : ℕ) → i < d → vector_of (cross_differences d row) i ≡ cross_difference d (vector_of row) i
difference_at d row i h = values_at (cross_difference d (vector_of row)) d i h

divides_all : (xs : List ℤ) (k d : ℕ) → length xs ≡ d → ((i : ℕ) → i < d → k ∣ unsigned_abs (vector_of xs i)) → (i : ℕ) → k ∣ unsigned_abs (vector_of xs i)
divides_all [] k d e h i = dvd-zero k
divides_all (x ∷ xs) k d e h zero = h 0 (omega arith)
divides_all (x ∷ xs) k d e h (suc i) = divides_all xs k (d - 1) (omega arith) (λ j p. h (suc j) (omega arith)) i

pub row_after-is : (d : ℕ) (row : List ℤ) → 0 < d → last_leads d (vector_of row) ≡ false → IsNext d row (row_after d row)
row_after-is d row p h =
    let xs = cross_differences d row in
    let f = common_factor xs in
    let long = length-cross_differences d row in record {
      factor = f;
      positive = differences_have_factor d row xs 0 h refl (omega arith);
      places = length-row_after d row;
      same = λ i q.
          ap (λ z. pos f *ℤ z) (get_or-map (λ (x : ℤ). int_div x (pos f)) xs i (pos 0) (pos 0) (omega arith))
          ∙ times_quotient (vector_of xs i) f (factor_divides 0 xs i) ∙ difference_at d row i q;
      greatest = λ k g. factor_greatest 0 xs k (dvd-zero k) (divides_all xs k d long (λ i q. subst (λ z. k ∣ unsigned_abs z) (sym (difference_at d row i q)) (g i q)));
    }

factor_of : (d : ℕ) (row next : List ℤ) (n : IsNext d row next) (i : ℕ) → i < d → n.factor ∣ unsigned_abs (cross_difference d (vector_of row) i)
factor_of d row next n i p =
    let e = ap unsigned_abs (sym (n.same i p)) ∙ unsigned_abs-mul (pos n.factor) (vector_of next i) in
    subst (λ z. n.factor ∣ z) (sym e) (dvd-mul_right n.factor (unsigned_abs (vector_of next i)))

-- a row has one next row
pub one_next : (d : ℕ) (row a b : List ℤ) → IsNext d row a → IsNext d row b → a ≡ b
one_next d row a b m n =
    let e : m.factor ≡ n.factor = dvd_antisymm (n.greatest m.factor (factor_of d row a m)) (m.greatest n.factor (factor_of d row b n)) in
    let s = m.places in let t = n.places in
    ext_get_or (pos 0) a b (s ∙ sym t)
    (λ i p. one_quotient m.factor (vector_of a i) (vector_of b i) m.positive
    (m.same i (omega arith) ∙ sym (n.same i (omega arith)) ∙ ap (λ f. pos f *ℤ vector_of b i) (sym e)))

verdict_cases : (t w : Bool) (d n : ℕ) (row : List ℤ) → last_leads (suc d) (vector_of row) ≡ t → is_wide (row_after (suc d) row) ≡ w
    → ((next : List ℤ) → IsVerdictFrom d (n + 1) next (verdict_from d (n + 1) next))
    → IsVerdictFrom (suc d) n row (verdict_from (suc d) n row)
verdict_cases true w d n row h k ih = inl (h, not_inside_step d n row h)
verdict_cases false true d n row h k ih = inr (h, row_after (suc d) row, row_after-is (suc d) row (omega arith) h, inl (k, wide_step d n row h k))
verdict_cases false false d n row h k ih =
    let next = row_after (suc d) row in
    inr (h, next, row_after-is (suc d) row (omega arith) h, inr (k, subst (λ v. IsVerdictFrom d (n + 1) next v) (sym (next_step d n row h k)) (ih next)))

verdict_is : (d n : ℕ) (row : List ℤ) → IsVerdictFrom d n row (verdict_from d n row)
verdict_is zero n row = refl
verdict_is (suc d) n row =
    verdict_cases (last_leads (suc d) (vector_of row)) (is_wide (row_after (suc d) row)) d n row refl refl (λ next. verdict_is d (n + 1) next)

verdict_only : (d n : ℕ) (row : List ℤ) (v : Jury) → IsVerdictFrom d n row v → v ≡ verdict_from d n row
verdict_only zero n row v h = h
verdict_only (suc d) n row v (inl h) = h.1 ∙ sym (not_inside_step d n row h.0)
verdict_only (suc d) n row v (inr h) =
    let same : h.1 ≡ row_after (suc d) row = one_next (suc d) row h.1 (row_after (suc d) row) h.2 (row_after-is (suc d) row (omega arith) h.0) in
    elim h.3 [
      | inl a ↦ a.1 ∙ sym (wide_step d n row h.0 (ap is_wide (sym same) ∙ a.0))
      | inr b ↦ verdict_only d (n + 1) h.1 v b.1 ∙ ap (verdict_from d (n + 1)) same ∙ sym (next_step d n row h.0 (ap is_wide (sym same) ∙ b.0))
    ]

-- the verdict of a polynomial is the one that the relation allows
pub one_verdict : (c : List ℤ) (v : Jury) → IsJury c v ↔ (v ≡ jury_of c)
one_verdict c v = (verdict_only (length c - 1) 0 c v, λ e. subst (λ w. IsJury c w) (sym e) (verdict_is (length c - 1) 0 c))
