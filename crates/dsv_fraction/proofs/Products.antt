-- Products of fractions whose common factors are cancelled crosswise.
use Rattle.std.proofs.Common.{◌≡◌, ℕ, ◌*◌, ◌^◌, ◌≤◌, Bool, refl, sym, ap, ◌∙◌, arith}
use Rattle.std.specs.Int.{IsGcd, ◌∣◌}
use Rattle.std.specs.Prelude.{Result, Err}
use Rattle.std.proofs.lemmas.Nat.Gcd.{IsGcd-swap}
use Rattle.dsv_fraction.specs.Arithmetic.{with_sign, in_lowest_terms, times, bounded_ratio, too_wide}
use Rattle.dsv_fraction.specs.Parts.{AreCoprime, Cancels, ArePartsOf, differ}
use Rattle.dsv_fraction.specs.Ratio.{Ratio}
use Rattle.dsv_fraction.specs.declared.fraction.TooWide.{TooWide}
use Rattle.dsv_fraction.proofs.Gcds.{coprime_part, coprime_product, positive_product}
use Rattle.dsv_fraction.proofs.Signed.{size_signed, signed_mul}
use Rattle.dsv_fraction.proofs.Lowest.{is_lowest}

apart : (a b x y : ℕ) → IsGcd a b 1 → x ∣ a → y ∣ b → IsGcd x y 1
apart a b x y g p q = IsGcd-swap y x 1 (coprime_part b x y (IsGcd-swap x b 1 (coprime_part a b x g p)) q)

pub times_parts : {r s : Ratio} {p q : Bool} {a b c d : ℕ} → ArePartsOf r p a b → ArePartsOf s q c d
    → times r s ≡ in_lowest_terms (with_sign (differ p q) (a * c)) (b * d)
times_parts {r} {s} {p} {q} {a} {b} {c} {d} f g = rw (f.same_num, f.same_den, g.same_num, g.same_den, signed_mul p q a c) refl

-- of a/b and c/d, where a/d is x/y and c/b is u/v: the product x u / (v y) is in lowest terms
pub product_coprime : {a b c d x y u v : ℕ} → AreCoprime a b → AreCoprime c d → Cancels a d x y → Cancels c b u v → AreCoprime (x * u) (v * y)
product_coprime {a} {b} {c} {d} {x} {y} {u} {v} g h f s =
    let xv : IsGcd v x 1 = IsGcd-swap x v 1 (apart a b x v g.coprime f.divides_num s.divides_den) in
    let xy : IsGcd y x 1 = IsGcd-swap x y 1 f.coprime in
    let uv : IsGcd v u 1 = IsGcd-swap u v 1 s.coprime in
    let uy : IsGcd y u 1 = IsGcd-swap u y 1 (apart c d u y h.coprime s.divides_num f.divides_den) in
    record {
      positive = positive_product v y s.positive f.positive;
      coprime = coprime_product x u (v * y) (IsGcd-swap (v * y) x 1 (coprime_product v y x xv xy)) (IsGcd-swap (v * y) u 1 (coprime_product v y u uv uy));
    }

product_same : {a b c d x y u v : ℕ} → Cancels a d x y → Cancels c b u v → (x * u) * (b * d) ≡ (a * c) * (v * y)
product_same {a} {b} {c} {d} {x} {y} {u} {v} f s =
    let p : x * d ≡ a * y = f.same in
    let q : u * b ≡ c * v = s.same in
    let r : (x * d) * (u * b) ≡ (a * y) * (c * v) = ap (λ t. t * (u * b)) p ∙ ap (λ t. a * y * t) q in
    omega arith

product_lowest : (e : Bool) (a b c d x y u v : ℕ) → AreCoprime a b → AreCoprime c d → Cancels a d x y → Cancels c b u v
    → in_lowest_terms (with_sign e (a * c)) (b * d) ≡ record { num = with_sign e (x * u); den = v * y }
product_lowest e a b c d x y u v g h f s =
    is_lowest e (a * c) (b * d) (x * u) (v * y) (positive_product b d g.positive h.positive) ((product_coprime g h f s).coprime) (product_same f s)

wide_num : (e : Bool) (n d : ℕ) → 2 ^ 127 ≤ n → bounded_ratio (record { num = with_sign e n; den = d }) ≡ Err too_wide
wide_num e n d h = rw (size_signed e n) (grind arith)

wide_den : (e : Bool) (n d : ℕ) → 2 ^ 127 ≤ d → bounded_ratio (record { num = with_sign e n; den = d }) ≡ Err too_wide
wide_den e n d h = grind arith

-- what the product's three ends say
pub refused_num : (e : Bool) {a b c d x y u v : ℕ} → AreCoprime a b → AreCoprime c d → Cancels a d x y → Cancels c b u v
    → 2 ^ 127 ≤ x * u → Err too_wide ≡ bounded_ratio (in_lowest_terms (with_sign e (a * c)) (b * d))
refused_num e {a} {b} {c} {d} {x} {y} {u} {v} g h f s w =
    sym (ap bounded_ratio (product_lowest e a b c d x y u v g h f s) ∙ wide_num e (x * u) (v * y) w)

pub refused_den : (e : Bool) {a b c d x y u v : ℕ} → AreCoprime a b → AreCoprime c d → Cancels a d x y → Cancels c b u v
    → 2 ^ 127 ≤ v * y → Err too_wide ≡ bounded_ratio (in_lowest_terms (with_sign e (a * c)) (b * d))
refused_den e {a} {b} {c} {d} {x} {y} {u} {v} g h f s w =
    sym (ap bounded_ratio (product_lowest e a b c d x y u v g h f s) ∙ wide_den e (x * u) (v * y) w)

pub given : (e : Bool) {a b c d x y u v m n : ℕ} {t : Result Ratio TooWide} → AreCoprime a b → AreCoprime c d → Cancels a d x y → Cancels c b u v
    → m ≡ x * u → n ≡ v * y → t ≡ bounded_ratio (record { num = with_sign e m; den = n }) → t ≡ bounded_ratio (in_lowest_terms (with_sign e (a * c)) (b * d))
given e {a} {b} {c} {d} {x} {y} {u} {v} {m} {n} {t} g h f s i j l =
    l ∙ ap (λ k. bounded_ratio (record { num = with_sign e k; den = n })) i ∙ ap (λ k. bounded_ratio (record { num = with_sign e (x * u); den = k })) j
    ∙ sym (ap bounded_ratio (product_lowest e a b c d x y u v g h f s))
