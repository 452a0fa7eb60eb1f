-- Quotients by powers of delta.
use Rattle.std.proofs.Common.{◌≡◌, ℕ, zero, suc, ◌+◌, ◌*◌, ◌^◌, ◌<◌, ◌≤◌, ◌⊎◌, inl, inr, List, [], ◌∷◌, ◌++◌, length, refl, sym, ap, ◌∙◌, arith, add-one, length-append, Result, Ok, Err, IsErr}
use Rattle.std.proofs.Math.IntN.{ℤ, pos, negsuc, ◌*ℤ◌}
use Rattle.std.proofs.Math.Nat.{pow-suc, pow-zero}
use Rattle.std.proofs.lemmas.Int.{ints}
use Rattle.std.specs.Int.RustNames.{unsigned_abs}
use lib.Signed.{◌<ℤ◌}
use Rattle.dsv_algebra.specs.Vectors.{Vector}
use Rattle.dsv_algebra.proofs.Normaliser.{ring, env, var, num, times as product}
use Rattle.dsv_fraction.specs.Ratio.{Ratio}
use Rattle.dsv_text.specs.Stages.{and_then}
use Rattle.dsv_fraction.specs.Arithmetic.{in_lowest_terms, over, quotient, bounded_ratio}
use Rattle.dsv_fraction.specs.declared.fraction.TooWide.{TooWide}
use Rattle.dsv_fraction.proofs.Gcds.{positive_product}
use Rattle.dsv_fraction.proofs.Powers.{lowest_same, lowest_positive}
use Rattle.dsv_fraction.proofs.Values.{lowest_exact, narrowed_only}
use Rattle.dsv_names.specs.declared.list_name.ListName.{ListName}
use Rattle.dsv_delta.specs.declared.refusal.DeltaWide.{DeltaWide}
use Rattle.dsv_text.specs.Stages.{◌>>=◌}
use Rattle.dsv_delta.specs.Deltas.{over_power, bounded_over_power, or_wide, coefficients_from}

pub first_power : (delta : Ratio) (s l : ℤ) → pos 0 <ℤ l → over s l ≡ over_power delta s (unsigned_abs l) 0
first_power delta s (pos l) h =
    let a : delta.den ^ 0 ≡ 1 = pow-zero delta.den in
    let b : l * unsigned_abs delta.num ^ 0 ≡ l = omega (arith, ap (λ k. l * k) (pow-zero (unsigned_abs delta.num))) in
    let c : s *ℤ pos (delta.den ^ 0) ≡ s = ap (λ k. s *ℤ pos k) a ∙ ring (env (s ∷ [])) (product (var 0) (num (pos 1))) (var 0) refl in
    sym (ap (λ (z : ℤ). in_lowest_terms z (l * unsigned_abs delta.num ^ 0)) c ∙ ap (in_lowest_terms s) b)
first_power delta s (negsuc l) h = absurd h.lt

crossed : (x s : ℤ) (l m n d e f : ℕ) → x *ℤ pos (l * n) ≡ (s *ℤ pos e) *ℤ pos f → (x *ℤ pos d) *ℤ pos (l * (n * m)) ≡ (s *ℤ pos (e * d)) *ℤ pos (f * m)
crossed x s l m n d e f h =
    ring (env (x ∷ pos d ∷ pos l ∷ pos n ∷ pos m ∷ [])) (product (product (var 0) (var 1)) (product (var 2) (product (var 3) (var 4)))) (product (product (var 1) (var 4)) (product (var 0) (product (var 2) (var 3)))) refl
    ∙ ap (λ z. pos d *ℤ pos m *ℤ z) h
    ∙ ring (env (s ∷ pos d ∷ pos e ∷ pos f ∷ pos m ∷ [])) (product (product (var 1) (var 4)) (product (product (var 0) (var 2)) (var 3))) (product (product (var 0) (product (var 2) (var 1))) (product (var 3) (var 4))) refl

power_positive : (m t : ℕ) → 0 < m → 0 < m ^ t
power_positive m zero h = omega (arith, pow-zero m)
power_positive m (suc t) h = rw (pow-suc m t) (positive_product (m ^ t) m (power_positive m t h) h)

next_at : (s : ℤ) (l m d t : ℕ) → 0 < l → 0 < m
    → in_lowest_terms ((in_lowest_terms (s *ℤ pos (d ^ t)) (l * m ^ t)).num *ℤ pos d) ((in_lowest_terms (s *ℤ pos (d ^ t)) (l * m ^ t)).den * m) ≡ in_lowest_terms (s *ℤ pos (d ^ suc t)) (l * m ^ suc t)
next_at s l m d t h p =
    let r = in_lowest_terms (s *ℤ pos (d ^ t)) (l * m ^ t) in
    let old : 0 < l * m ^ t = positive_product l (m ^ t) h (power_positive m t p) in
    let new : 0 < l * m ^ suc t = positive_product l (m ^ suc t) h (power_positive m (suc t) p) in
    lowest_same (r.num *ℤ pos d) (s *ℤ pos (d ^ suc t)) (r.den * m) (l * m ^ suc t) (positive_product r.den m (lowest_positive (s *ℤ pos (d ^ t)) (l * m ^ t) old) p) new
    (ap (λ k. (r.num *ℤ pos d) *ℤ pos (l * k)) (pow-suc m t)
    ∙ crossed r.num s l m (m ^ t) d (d ^ t) r.den (lowest_exact (s *ℤ pos (d ^ t)) (l * m ^ t) old)
    ∙ ap (λ k. (s *ℤ pos k) *ℤ pos (r.den * m)) (sym (pow-suc d t)))

over_product : (x : ℤ) (e : ℕ) (z : ℤ) → pos 0 <ℤ z → over x (pos e *ℤ z) ≡ in_lowest_terms x (e * unsigned_abs z)
over_product x e (pos m) h = refl
over_product x e (negsuc m) h = absurd h.lt

pub next_power : (delta : Ratio) (s : ℤ) (l t : ℕ) → 0 < l → pos 0 <ℤ delta.num → quotient (over_power delta s l t) delta ≡ over_power delta s l (suc t)
next_power delta s l t h p =
    let r = over_power delta s l t in
    over_product (r.num *ℤ pos delta.den) r.den delta.num p ∙ next_at s l (unsigned_abs delta.num) delta.den t h (omega (arith, ints))

pub err_is : (o : Result Ratio TooWide) (e : TooWide) → IsErr o → o ≡ Err e
err_is (Ok r) e h = absurd cc
err_is (Err x) e h = refl

later : (t n : ℕ) → t ≤ suc n → (t ≤ n) ⊎ (t ≡ suc n)
later t n h = grind arith

-- a power that is too wide makes each one after it too wide
pub stays_wide : (delta : Ratio) (s : ℤ) (l t n : ℕ) (e : TooWide) → t ≤ n → bounded_over_power delta s l t ≡ Err e → bounded_over_power delta s l n ≡ Err e
stays_wide delta s l t zero e h is = let z : t ≡ 0 = omega arith in ap (bounded_over_power delta s l) (sym z) ∙ is
stays_wide delta s l t (suc n) e h is =
    elim (later t n h) [
      | inl less ↦ ap (λ o. and_then o (λ r. bounded_ratio (over_power delta s l (suc n)))) (stays_wide delta s l t n e less is)
      | inr same ↦ ap (bounded_over_power delta s l) (sym same) ∙ is
    ]

after_same : (o : Result Ratio DeltaWide) (f g : Ratio → Result (List Ratio) DeltaWide) → ((r : Ratio) → f r ≡ g r) → (o >>= f) ≡ (o >>= g)
after_same (Ok r) f g same = same r
after_same (Err e) f g same = refl

-- sums that are the same give the same coefficients
pub same_coefficients : (name : ListName) (delta : Ratio) (l : ℕ) (f g : Vector) (count : ℕ) (out : List Ratio)
    → ((j : ℕ) → j < length out + count → f j ≡ g j) → coefficients_from name delta l f count out ≡ coefficients_from name delta l g count out
same_coefficients name delta l f g zero out same = refl
same_coefficients name delta l f g (suc count) out same =
    ap (λ s. or_wide name (length out) (bounded_over_power delta s l (length out)) >>= λ r. coefficients_from name delta l f count (out ++ r ∷ [])) (same (length out) (omega arith))
    ∙ after_same (or_wide name (length out) (bounded_over_power delta (g (length out)) l (length out)))
    (λ r. coefficients_from name delta l f count (out ++ r ∷ [])) (λ r. coefficients_from name delta l g count (out ++ r ∷ []))
    (λ r. same_coefficients name delta l f g count (out ++ r ∷ []) (λ j h. same j (omega (arith, length-append out (r ∷ [])))))

-- one sum more
pub next_coefficient : (name : ListName) (delta : Ratio) (l : ℕ) (sums : Vector) (total count n : ℕ) (out : List Ratio) (s : ℤ) (r : Ratio)
    → total ≡ suc count → n ≡ length out → s ≡ sums n → bounded_over_power delta s l n ≡ Ok r
    → coefficients_from name delta l sums count (out ++ r ∷ []) ≡ coefficients_from name delta l sums total out
next_coefficient name delta l sums total count n out s r more at is made =
    sym (ap (λ k. coefficients_from name delta l sums k out) more
    ∙ ap (λ o. or_wide name (length out) o >>= λ q. coefficients_from name delta l sums count (out ++ q ∷ []))
    (ap (λ k. bounded_over_power delta (sums k) l k) (sym at) ∙ ap (λ z. bounded_over_power delta z l n) (sym is) ∙ made))

pub wide_coefficient : (name : ListName) (delta : Ratio) (l : ℕ) (sums : Vector) (total count n : ℕ) (out : List Ratio) (s : ℤ) (e : TooWide)
    → total ≡ suc count → n ≡ length out → s ≡ sums n → bounded_over_power delta s l n ≡ Err e
    → coefficients_from name delta l sums total out ≡ Err (record { list = name; index = n })
wide_coefficient name delta l sums total count n out s e more at is made =
    ap (λ k. coefficients_from name delta l sums k out) more
    ∙ ap (λ o. or_wide name (length out) o >>= λ q. coefficients_from name delta l sums count (out ++ q ∷ []))
    (ap (λ k. bounded_over_power delta (sums k) l k) (sym at) ∙ ap (λ z. bounded_over_power delta z l n) (sym is) ∙ made)
    ∙ ap (λ k. Err (record { list = name; index = k })) (sym at)

pub first_wide : (delta : Ratio) (s l : ℤ) (n : ℕ) (o r : Result Ratio TooWide) (e : TooWide) → pos 0 <ℤ l → o ≡ bounded_ratio (over s l) → o ≡ Err e → IsErr r
    → r ≡ bounded_over_power delta s (unsigned_abs l) n
first_wide delta s l n o r e h made is wrong =
    err_is r e wrong ∙ sym (stays_wide delta s (unsigned_abs l) 0 n e (omega arith) (sym (ap bounded_ratio (first_power delta s l h)) ∙ sym made ∙ is))

-- ---- turns of the division
pub record IsPower (delta : Ratio) (s : ℤ) (l t : ℕ) (r : Ratio) : Type 0 where
  pub is : r ≡ over_power delta s l t
  pub fine : bounded_over_power delta s l t ≡ Ok r

pub first_given : (delta : Ratio) (s l : ℤ) (o : Result Ratio TooWide) (r : Ratio) → pos 0 <ℤ l → o ≡ bounded_ratio (over s l) → o ≡ Ok r → IsPower delta s (unsigned_abs l) 0 r
first_given delta s l o r h made is =
    let first = first_power delta s l h in
    record {
      is = narrowed_only (over s l) r (sym is ∙ made) ∙ first;
      fine = sym (ap bounded_ratio first) ∙ sym made ∙ is;
    }

next_is : (delta : Ratio) (s : ℤ) (l t : ℕ) (q : Ratio) (o : Result Ratio TooWide) → 0 < l → pos 0 <ℤ delta.num → IsPower delta s l t q → o ≡ bounded_ratio (quotient q delta)
    → bounded_over_power delta s l (t + 1) ≡ o
next_is delta s l t q o h p old made =
    ap (bounded_over_power delta s l) (add-one t)
    ∙ ap (λ m. and_then m (λ r. bounded_ratio (over_power delta s l (suc t)))) old.fine
    ∙ ap bounded_ratio (sym (next_power delta s l t h p)) ∙ ap (λ (x : Ratio). bounded_ratio (quotient x delta)) (sym old.is) ∙ sym made

pub next_given : (delta : Ratio) (s : ℤ) (l t : ℕ) (q : Ratio) (o : Result Ratio TooWide) (r : Ratio) → 0 < l → pos 0 <ℤ delta.num → IsPower delta s l t q
    → o ≡ bounded_ratio (quotient q delta) → o ≡ Ok r → IsPower delta s l (t + 1) r
next_given delta s l t q o r h p old made is = record {
  is = narrowed_only (quotient q delta) r (sym is ∙ made) ∙ ap (λ (x : Ratio). quotient x delta) old.is ∙ next_power delta s l t h p ∙ ap (over_power delta s l) (sym (add-one t));
  fine = next_is delta s l t q o h p old made ∙ is;
}

pub next_wide : (delta : Ratio) (s : ℤ) (l t n : ℕ) (q : Ratio) (o r : Result Ratio TooWide) (e : TooWide) → 0 < l → pos 0 <ℤ delta.num → IsPower delta s l t q
    → o ≡ bounded_ratio (quotient q delta) → o ≡ Err e → t + 1 ≤ n → IsErr r → r ≡ bounded_over_power delta s l n
next_wide delta s l t n q o r e h p old made is less wrong =
    err_is r e wrong ∙ sym (stays_wide delta s l (t + 1) n e less (next_is delta s l t q o h p old made ∙ is))
