-- What each rule adds, and which number its term spells.
use Rattle.std.proofs.Common.{◌≡◌, ℕ, zero, suc, ◌+◌, ◌-◌, ◌*◌, ◌^◌, ◌<◌, ◌≤◌, Bool, true, false, List, [], ◌∷◌, inl, inr, refl, arith, ap, sym, subst, ◌∙◌, length}
use Rattle.std.specs.Prelude.{◌==◌, max, min, if◌then◌else◌}
use Rattle.std.specs.Int.Count.{count_leading_zeros}
use Rattle.std.specs.Int.RustNames.{unsigned_abs}
use Rattle.std.proofs.Math.IntN.{ℤ, pos, ◌+ℤ◌, ◌-ℤ◌, ◌*ℤ◌, pos-*ℤ-pos}
use Rattle.std.proofs.Math.Nat.{le-max_left, le-max_right, pow-le-pow_right}
use Rattle.std.proofs.lemmas.Int.{ints, unsigned_abs-mul}
use Rattle.std.proofs.lemmas.Nat.{pow-add, pow_pos, mul-le, leading_length}
use Rattle.std.proofs.lemmas.Bool.{eqb-true, cases_lt}
use Rattle.dsv_algebra.proofs.Normaliser.{ring, env, var, plus, times, minus}
use Rattle.dsv_algebra.proofs.Signs.{mul_not_negative, mul_positive}
use Rattle.dsv_netlist.proofs.Sizes.{size_within, within_size}
use Rattle.dsv_term.specs.Limits.{max_width}
use Rattle.dsv_term.specs.declared.node.TermId.{TermId}
use Rattle.dsv_term.specs.declared.node.TermNode.TheVariants.{Add, Sub, MulConst, Sext}
use Rattle.dsv_term.specs.declared.word.Word.{Word}
use Rattle.dsv_term.specs.Building.{Built, built_of, with_node}
use Rattle.dsv_term.specs.Growth.{AreSound, Adds}
use Rattle.dsv_term.specs.Terms.{KeepsTerms, width_of, word_of}
use Rattle.dsv_term.specs.TermsView.{TermsView}
use Rattle.dsv_term.specs.Word.{sum_of, difference_of, product_of, extended_of}
use Rattle.dsv_term.proofs.Building.{Adds-both, Adds-none, Adds-width, later, stands-width, sum_gives, difference_gives, product_gives, extension_gives}
use Rattle.dsv_term.proofs.Complement.{IsSpelled, spelled, wider_spelled, extended-spelled, sum-spelled, difference-spelled, product-spelled}
use Rattle.dsv_unroll.specs.Ready.{IsValue}
use Rattle.dsv_unroll.specs.Rules.{width_for, widened_term, product_width, product_term, scaled_width, scaled_term, sum_width, sum_term, difference_term}

-- the term spells the number in so many bits
pub record Spells (t : TermsView) (values : List ℕ) (id : TermId) (bits : ℕ) (z : ℤ) : Type 0 where
  pub word : word_of t values id ≡ spelled bits z
  pub fits : IsSpelled bits z

pub value_later : (t u : TermsView) (id : TermId) → KeepsTerms t u → IsValue t id → IsValue u id
value_later t u id k h = record { stands = k.longer id h.stands; narrow = let e = k.widths id h.stands in omega (arith, e, h.narrow) }

pub spells_later : (t u : TermsView) (values : List ℕ) (id : TermId) (bits : ℕ) (z : ℤ) → KeepsTerms t u → id.0 < length t.nodes → Spells t values id bits z → Spells u values id bits z
spells_later t u values id bits z k h s = record { word = k.words values id h ∙ s.word; fits = s.fits }

-- ---- widths
pub record IsRoom (bound bits : ℕ) : Type 0 where
  pub some : 1 ≤ bits
  pub enough : bound < 2 ^ (bits - 1)

room_by : (bound clz m : ℕ) → clz + m ≡ 128 → bound < 2 ^ m → IsRoom bound (129 - clz)
room_by bound clz m e h = let d : 129 - clz - 1 ≡ m = omega arith in record { some = omega arith; enough = subst (λ (k : ℕ). bound < 2 ^ k) (sym d) h }

pub width_for-room : (bound : ℕ) → bound < 2 ^ 128 → IsRoom bound (width_for bound)
width_for-room bound h = let l = leading_length 128 bound h in room_by bound (count_leading_zeros 128 bound) l.0 l.1 l.2

-- a bound below a power of two takes no more bits than that has
width_least_by : (m k bound clz : ℕ) → clz + m ≡ 128 → 2 ^ m ≤ 2 * bound + 1 → bound < 2 ^ k → 129 - clz ≤ k + 1
width_least_by m k bound clz e h l = elim (cases_lt k m) [
  | inl less ↦ absurd (let p = powers (k + 1) m (omega arith) in let q : 2 ^ (k + 1) ≡ 2 ^ k * 2 = pow-add 2 k 1 in omega arith)
  | inr more ↦ omega arith
]
  where
    powers : (i j : ℕ) → i ≤ j → 2 ^ i ≤ 2 ^ j
    powers i j h = pow-le-pow_right (omega arith) h

pub width_for-least : (bound k : ℕ) → k ≤ 128 → bound < 2 ^ k → width_for bound ≤ k + 1
width_for-least bound k s h =
    let p : 2 ^ k ≤ 2 ^ 128 = pow-le-pow_right (omega arith) s in
    let l = leading_length 128 bound (omega arith) in
    width_least_by l.0 k bound (count_leading_zeros 128 bound) l.1 l.3 h

-- a number of at most this size
pub fits_size : (bound bits : ℕ) (z : ℤ) → bound < 2 ^ (bits - 1) → unsigned_abs z ≤ bound → IsSpelled bits z
fits_size bound bits z h k = let w = size_within bound z k in record { low = omega (arith, ints, w.low); high = omega (arith, ints, w.high) }

-- ---- widening
pub record Widens (t : TermsView) (b : Built) (id : TermId) (bits : ℕ) : Type 0 where
  pub adds : Adds t b.terms b.id bits
  pub spells : (values : List ℕ) (z : ℤ) → Spells t values id (width_of t id) z → Spells b.terms values b.id bits z

widened_by : (t : TermsView) (id : TermId) (bits : ℕ) (q : Bool) → (width_of t id == bits) ≡ q → AreSound t → id.0 < length t.nodes → width_of t id ≤ bits → bits ≤ max_width
    → Widens t (if q then built_of t id else with_node t (Sext id bits)) id bits
widened_by t id bits true e s h w n =
    let k : width_of t id ≡ bits = eqb-true (width_of t id) bits e in
    record { adds = Adds-none t id bits s h k; spells = λ values z p. subst (λ (v : ℕ). Spells t values id v z) k p }
widened_by t id bits false e s h w n =
    let g = extension_gives t id bits s h w n in
    let p = (stands-width t id s h).some in
    record {
      adds = g.adds;
      spells = λ values z m. record {
        word = g.word values ∙ (ap (extended_of bits) m.word ∙ extended-spelled (width_of t id) bits z p m.fits);
        fits = wider_spelled (width_of t id) bits z w m.fits;
      };
    }

pub widened : (t : TermsView) (id : TermId) (bits : ℕ) → AreSound t → id.0 < length t.nodes → width_of t id ≤ bits → bits ≤ max_width → Widens t (widened_term t id bits) id bits
widened t id bits s h w n = widened_by t id bits (width_of t id == bits) refl s h w n

-- ---- products and sums
pub room_wider : (bound bits : ℕ) → bound < 2 ^ 128 → width_for bound ≤ bits → bound < 2 ^ (bits - 1)
room_wider bound bits h l =
    let r = width_for-room bound h in
    let p : 2 ^ (width_for bound - 1) ≤ 2 ^ (bits - 1) = pow-le-pow_right (omega arith) (omega (arith, r.some)) in
    omega (arith, r.enough)

pub max_narrow : (a b k : ℕ) → a ≤ k → b ≤ k → max a b ≤ k
max_narrow a b k h l = omega arith

bound_large : (bound k : ℕ) → k ≤ 128 → bound < 2 ^ k → bound < 2 ^ 128
bound_large bound k s h = let p : 2 ^ k ≤ 2 ^ 128 = pow-le-pow_right (omega arith) s in omega arith

-- a number that fits in so many bits, and has this bound, fits in the lesser width of both
abbrev pub lesser_width : ℕ → ℕ → ℕ → ℕ
lesser_width bits more w = max bits (min more w)

lesser_narrow : (bits more w k : ℕ) → bits ≤ k → w ≤ k → lesser_width bits more w ≤ k
lesser_narrow bits more w k h l = omega arith

pub lesser_fits : (bits more bound : ℕ) (x : ℤ) → bits ≤ more → bound < 2 ^ 128 → IsSpelled more x → unsigned_abs x ≤ bound → IsSpelled (lesser_width bits more (width_for bound)) x
lesser_fits bits more bound x b l h k = elim (cases_lt (width_for bound) more) [
  | inl less ↦ fits_size bound (lesser_width bits more (width_for bound)) x (room_wider bound (lesser_width bits more (width_for bound)) l (omega arith)) k
  | inr wide ↦ let e : more ≡ lesser_width bits more (width_for bound) = omega arith in subst (λ (w : ℕ). IsSpelled w x) e h
]

-- a product has at most as many bits more as the constant has
scaled_size : (c m s p : ℕ) → c < m → s ≤ p → 1 ≤ p → c * s < m * p
scaled_size c m s p h k l =
    let a : c * s ≤ c * p = mul-le c s c p (omega arith) k in
    let b : (c + 1) * p ≤ m * p = mul-le (c + 1) p m p (omega arith) (omega arith) in
    let d : (c + 1) * p ≡ c * p + p = mul_suc c p in
    omega (arith, a, b, d)
  where
    mul_suc : (n q : ℕ) → (n + 1) * q ≡ n * q + q
    mul_suc n q = grind (arith)

product_spelled : (w bound : ℕ) (coeff z : ℤ) → 1 ≤ w → bound < 2 ^ 128 → unsigned_abs (coeff *ℤ z) ≤ bound → IsSpelled w z
    → IsSpelled (w + width_for (min (unsigned_abs coeff) bound) - 1) (coeff *ℤ z)
product_spelled w bound coeff z s l h k =
    let c = unsigned_abs coeff in
    let d = min c bound in
    let r = width_for-room d (omega arith) in
    let bits = w + width_for d - 1 in
    let e : bits - 1 ≡ (width_for d - 1) + (w - 1) = omega (arith, r.some) in
    let p : 2 ^ (bits - 1) ≡ 2 ^ (width_for d - 1) * 2 ^ (w - 1) = ap (λ (i : ℕ). 2 ^ i) e ∙ pow-add 2 (width_for d - 1) (w - 1) in
    let m = unsigned_abs-mul coeff z in
    let one : 1 ≤ 2 ^ (w - 1) = pow_pos (w - 1) in
    let small : unsigned_abs z ≤ 2 ^ (w - 1) = within_size (2 ^ (w - 1)) z (record { low = k.low; high = omega (arith, ints, k.high) }) in
    elim (cases_lt bound c) [
      | inl large ↦ fits_size 0 bits (coeff *ℤ z) (pow_pos (bits - 1)) (no_size c (unsigned_abs z) (unsigned_abs (coeff *ℤ z)) bound m h large)
      | inr within ↦
          let same : d ≡ c = omega arith in
          let q = scaled_size c (2 ^ (width_for d - 1)) (unsigned_abs z) (2 ^ (w - 1)) (subst (λ (n : ℕ). n < 2 ^ (width_for d - 1)) same r.enough) small one in
          fits_size (unsigned_abs (coeff *ℤ z)) bits (coeff *ℤ z) (omega (arith, p, m, q)) (omega arith)
    ]
  where
    no_size : (c s x bound : ℕ) → x ≡ c * s → x ≤ bound → bound < c → x ≤ 0
    no_size c zero x bound e h l = omega (arith, e)
    no_size c (suc s) x bound e h l = absurd (let f : c * suc s ≡ c * s + c = grind (arith) in omega (arith, e, f))

pub record Multiplies (t : TermsView) (bound : ℕ) (coeff : ℤ) (of : TermId) (bits : ℕ) (b : Built) : Type 0 where
  pub adds : Adds t b.terms b.id bits
  pub spells : (values : List ℕ) (z : ℤ) → Spells t values of (width_of t of) z → unsigned_abs (coeff *ℤ z) ≤ bound → Spells b.terms values b.id bits (coeff *ℤ z)

multiplied : (t : TermsView) (bound : ℕ) (coeff : ℤ) (of : TermId) (bits : ℕ) → AreSound t → IsValue t of → width_of t of ≤ bits → bits ≤ max_width
    → ((z : ℤ) → IsSpelled (width_of t of) z → unsigned_abs (coeff *ℤ z) ≤ bound → IsSpelled bits (coeff *ℤ z))
    → Multiplies t bound coeff of bits (let a = widened_term t of bits in with_node a.terms (MulConst a.id coeff))
multiplied t bound coeff of bits s v w n r =
    let a = widened_term t of bits in
    let wd = widened t of bits s v.stands w n in
    let g = product_gives a.terms a.id coeff wd.adds.sound wd.adds.stands in
    let b = with_node a.terms (MulConst a.id coeff) in
    record {
      adds = Adds-width t b.terms b.id (width_of a.terms a.id) bits (Adds-both t a.terms b.terms a.id b.id bits (width_of a.terms a.id) wd.adds g.adds) wd.adds.width;
      spells = λ values z m k. record {
        word = g.word values ∙ (ap (product_of coeff) (wd.spells values z m).word ∙ product-spelled bits coeff z);
        fits = r z m.fits k;
      };
    }

pub product_narrow : (t : TermsView) (bound : ℕ) (coeff : ℤ) (of : TermId) → IsValue t of → bound < 2 ^ 126 → product_width t bound coeff of ≤ 127
product_narrow t bound coeff of v l =
    let w = width_of t of in
    lesser_narrow w (w + width_for (min (unsigned_abs coeff) bound) - 1) (width_for bound) 127 v.narrow (width_for-least bound 126 (omega arith) l)

pub product_made : (t : TermsView) (bound : ℕ) (coeff : ℤ) (of : TermId) → AreSound t → IsValue t of → bound < 2 ^ 126
    → Multiplies t bound coeff of (product_width t bound coeff of) (product_term t bound coeff of)
product_made t bound coeff of s v l =
    let w = width_of t of in
    let some = (stands-width t of s v.stands).some in
    let d = min (unsigned_abs coeff) bound in
    let more = w + width_for d - 1 in
    let m = product_narrow t bound coeff of v l in
    let large = bound_large bound 126 (omega arith) l in
    let r = width_for-room d (omega arith) in
    multiplied t bound coeff of (product_width t bound coeff of) s v (le-max_left w (min more (width_for bound))) (omega arith)
    (λ z h k. lesser_fits w more bound (coeff *ℤ z) (omega (arith, r.some)) large (product_spelled w bound coeff z some large k h) k)

-- f bits more suffice for a term times 2^f
scaled_spelled : (w f : ℕ) (z : ℤ) → 1 ≤ w → IsSpelled w z → IsSpelled (w + f) (pos (2 ^ f) *ℤ z)
scaled_spelled w f z s h =
    let k = pos (2 ^ f) in
    let p = pos (2 ^ (w - 1)) in
    let i : w + f - 1 ≡ f + (w - 1) = omega arith in
    let e : 2 ^ (w + f - 1) ≡ 2 ^ f * 2 ^ (w - 1) = ap (λ (j : ℕ). 2 ^ j) i ∙ pow-add 2 f (w - 1) in
    let m : k *ℤ p ≡ pos (2 ^ (w + f - 1)) = pos-*ℤ-pos (2 ^ f) (2 ^ (w - 1)) ∙ ap pos (sym e) in
    let some : 0 < 2 ^ f = pow_pos f in
    let a = mul_not_negative k (z +ℤ p) (omega (arith, ints)) (omega (arith, ints, h.low)) in
    let b = mul_positive k (p -ℤ z) (omega (arith, ints)) (omega (arith, ints, h.high)) in
    let c : k *ℤ (z +ℤ p) ≡ k *ℤ z +ℤ k *ℤ p = ring (env (k ∷ z ∷ p ∷ [])) (times (var 0) (plus (var 1) (var 2))) (plus (times (var 0) (var 1)) (times (var 0) (var 2))) refl in
    let d : k *ℤ (p -ℤ z) ≡ k *ℤ p -ℤ k *ℤ z = ring (env (k ∷ z ∷ p ∷ [])) (times (var 0) (plus (var 2) (minus (var 1)))) (plus (times (var 0) (var 2)) (minus (times (var 0) (var 1)))) refl in
    record { low = omega (arith, ints, a, c, m); high = omega (arith, ints, b, d, m) }

pub scaled_narrow : (t : TermsView) (bound f : ℕ) (of : TermId) → IsValue t of → bound < 2 ^ 126 → scaled_width t bound f of ≤ 127
scaled_narrow t bound f of v l =
    let w = width_of t of in
    lesser_narrow w (w + f) (width_for bound) 127 v.narrow (width_for-least bound 126 (omega arith) l)

pub scaled_made : (t : TermsView) (bound f : ℕ) (of : TermId) → AreSound t → IsValue t of → bound < 2 ^ 126
    → Multiplies t bound (pos (2 ^ f)) of (scaled_width t bound f of) (scaled_term t bound f of)
scaled_made t bound f of s v l =
    let w = width_of t of in
    let m = scaled_narrow t bound f of v l in
    multiplied t bound (pos (2 ^ f)) of (scaled_width t bound f of) s v (le-max_left w (min (w + f) (width_for bound))) (omega arith)
    (λ z h k. lesser_fits w (w + f) bound (pos (2 ^ f) *ℤ z) (omega arith) (bound_large bound 126 (omega arith) l) (scaled_spelled w f z (stands-width t of s v.stands).some h) k)

-- two terms in so many bits
pub record WidensBoth (t : TermsView) (left right : TermId) (bits : ℕ) (a b : Built) : Type 0 where
  pub left_adds : Adds t b.terms a.id bits
  pub right_adds : Adds t b.terms b.id bits
  pub left_spells : (values : List ℕ) (z : ℤ) → Spells t values left (width_of t left) z → Spells b.terms values a.id bits z
  pub right_spells : (values : List ℕ) (z : ℤ) → Spells t values right (width_of t right) z → Spells b.terms values b.id bits z

pub both_widened : (t : TermsView) (left right : TermId) (bits : ℕ) → AreSound t → IsValue t left → IsValue t right → width_of t left ≤ bits → width_of t right ≤ bits → bits ≤ max_width
    → WidensBoth t left right bits (widened_term t left bits) (widened_term (widened_term t left bits).terms right bits)
both_widened t left right bits s v u w x n =
    let a = widened_term t left bits in
    let wa = widened t left bits s v.stands w n in
    let r = later t a.terms right wa.adds.kept u.stands in
    let b = widened_term a.terms right bits in
    let wb = widened a.terms right bits wa.adds.sound r.stands (omega (arith, r.width)) n in
    let l = later a.terms b.terms a.id wb.adds.kept wa.adds.stands in
    let both = Adds-both t a.terms b.terms a.id b.id bits bits wa.adds wb.adds in
    record {
      left_adds = record { sound = both.sound; inputs = both.inputs; kept = both.kept; stands = l.stands; width = l.width ∙ wa.adds.width };
      right_adds = both;
      left_spells = λ values z p. spells_later a.terms b.terms values a.id bits z wb.adds.kept wa.adds.stands (wa.spells values z p);
      right_spells = λ values z p. wb.spells values z (subst (λ (k : ℕ). Spells a.terms values right k z) (sym r.width) (spells_later t a.terms values right (width_of t right) z wa.adds.kept u.stands p));
    }

pub record Combines (t : TermsView) (bound : ℕ) (left right : TermId) (bits : ℕ) (op : ℤ → ℤ → ℤ) (b : Built) : Type 0 where
  pub adds : Adds t b.terms b.id bits
  pub spells : (values : List ℕ) (y z : ℤ) → Spells t values left (width_of t left) y → Spells t values right (width_of t right) z → unsigned_abs (op y z) ≤ bound → Spells b.terms values b.id bits (op y z)

added : (t : TermsView) (bound : ℕ) (left right : TermId) (bits : ℕ) → AreSound t → IsValue t left → IsValue t right → width_of t left ≤ bits → width_of t right ≤ bits → bits ≤ max_width
    → ((y z : ℤ) → IsSpelled (width_of t left) y → IsSpelled (width_of t right) z → unsigned_abs (y +ℤ z) ≤ bound → IsSpelled bits (y +ℤ z))
    → Combines t bound left right bits (λ y z. y +ℤ z) (let a = widened_term t left bits in let b = widened_term a.terms right bits in with_node b.terms (Add a.id b.id))
added t bound left right bits s v u w x n r =
    let a = widened_term t left bits in
    let b = widened_term a.terms right bits in
    let m = both_widened t left right bits s v u w x n in
    let g = sum_gives b.terms a.id b.id m.right_adds.sound m.left_adds.stands m.right_adds.stands (m.left_adds.width ∙ sym m.right_adds.width) in
    let c = with_node b.terms (Add a.id b.id) in
    record {
      adds = Adds-width t c.terms c.id (width_of b.terms a.id) bits (Adds-both t b.terms c.terms b.id c.id bits (width_of b.terms a.id) m.right_adds g.adds) m.left_adds.width;
      spells = λ values y z p q k. record {
        word = g.word values ∙ (ap (λ (i : Word). sum_of i (word_of b.terms values b.id)) (m.left_spells values y p).word
            ∙ (ap (sum_of (spelled bits y)) (m.right_spells values z q).word ∙ sum-spelled bits y z));
        fits = r y z p.fits q.fits k;
      };
    }

subtracted : (t : TermsView) (bound : ℕ) (left right : TermId) (bits : ℕ) → AreSound t → IsValue t left → IsValue t right → width_of t left ≤ bits → width_of t right ≤ bits → bits ≤ max_width
    → ((y z : ℤ) → IsSpelled (width_of t left) y → IsSpelled (width_of t right) z → unsigned_abs (y -ℤ z) ≤ bound → IsSpelled bits (y -ℤ z))
    → Combines t bound left right bits (λ y z. y -ℤ z) (let a = widened_term t left bits in let b = widened_term a.terms right bits in with_node b.terms (Sub a.id b.id))
subtracted t bound left right bits s v u w x n r =
    let a = widened_term t left bits in
    let b = widened_term a.terms right bits in
    let m = both_widened t left right bits s v u w x n in
    let g = difference_gives b.terms a.id b.id m.right_adds.sound m.left_adds.stands m.right_adds.stands (m.left_adds.width ∙ sym m.right_adds.width) in
    let c = with_node b.terms (Sub a.id b.id) in
    record {
      adds = Adds-width t c.terms c.id (width_of b.terms a.id) bits (Adds-both t b.terms c.terms b.id c.id bits (width_of b.terms a.id) m.right_adds g.adds) m.left_adds.width;
      spells = λ values y z p q k. record {
        word = g.word values ∙ (ap (λ (i : Word). difference_of i (word_of b.terms values b.id)) (m.left_spells values y p).word
            ∙ (ap (difference_of (spelled bits y)) (m.right_spells values z q).word ∙ difference-spelled bits y z));
        fits = r y z p.fits q.fits k;
      };
    }

-- one bit more than two numbers have suffices for their sum and their difference
one_more : (m : ℕ) → 1 ≤ m → 2 ^ (m + 1 - 1) ≡ 2 ^ (m - 1) + 2 ^ (m - 1)
one_more m h =
    let e : m + 1 - 1 ≡ 1 + (m - 1) = omega arith in
    let d : 2 ^ (m + 1 - 1) ≡ 2 * 2 ^ (m - 1) = ap (λ (i : ℕ). 2 ^ i) e ∙ pow-add 2 1 (m - 1) in
    omega (arith, d)

sum_spelled : (m : ℕ) (y z : ℤ) → 1 ≤ m → IsSpelled m y → IsSpelled m z → IsSpelled (m + 1) (y +ℤ z)
sum_spelled m y z s h k = let p = one_more m s in record { low = omega (arith, ints, p, h.low, k.low); high = omega (arith, ints, p, h.high, k.high) }

difference_spelled : (m : ℕ) (y z : ℤ) → 1 ≤ m → IsSpelled m y → IsSpelled m z → IsSpelled (m + 1) (y -ℤ z)
difference_spelled m y z s h k =
    let p = one_more m s in record { low = omega (arith, ints, p, h.low, h.high, k.low, k.high); high = omega (arith, ints, p, h.low, h.high, k.low, k.high) }

pub sum_narrow : (t : TermsView) (bound : ℕ) (left right : TermId) → IsValue t left → IsValue t right → bound < 2 ^ 126 → sum_width t bound left right ≤ 127
sum_narrow t bound left right v u l =
    let w = width_for-least bound 126 (omega arith) l in
    let m = max_narrow (width_of t left) (width_of t right) 127 v.narrow u.narrow in
    let bits = max (width_of t left) (width_of t right) in
    lesser_narrow bits (bits + 1) (width_for bound) 127 m w

left_within : (a b c : ℕ) → a ≤ lesser_width (max a b) (max a b + 1) c
left_within a b c = omega arith

right_within : (a b c : ℕ) → b ≤ lesser_width (max a b) (max a b + 1) c
right_within a b c = omega arith

pub sum_made : (t : TermsView) (bound : ℕ) (left right : TermId) → AreSound t → IsValue t left → IsValue t right → bound < 2 ^ 126
    → Combines t bound left right (sum_width t bound left right) (λ y z. y +ℤ z) (sum_term t bound left right)
sum_made t bound left right s v u l =
    let a = width_of t left in
    let b = width_of t right in
    let some = (stands-width t left s v.stands).some in
    let m = sum_narrow t bound left right v u l in
    added t bound left right (sum_width t bound left right) s v u (left_within a b (width_for bound)) (right_within a b (width_for bound)) (omega arith)
    (λ y z h k. lesser_fits (max a b) (max a b + 1) bound (y +ℤ z) (omega arith) (bound_large bound 126 (omega arith) l)
    (sum_spelled (max a b) y z (omega arith) (wider_spelled a (max a b) y (le-max_left a b) h) (wider_spelled b (max a b) z (le-max_right a b) k)))

pub difference_made : (t : TermsView) (bound : ℕ) (left right : TermId) → AreSound t → IsValue t left → IsValue t right → bound < 2 ^ 126
    → Combines t bound left right (sum_width t bound left right) (λ y z. y -ℤ z) (difference_term t bound left right)
difference_made t bound left right s v u l =
    let a = width_of t left in
    let b = width_of t right in
    let some = (stands-width t left s v.stands).some in
    let m = sum_narrow t bound left right v u l in
    subtracted t bound left right (sum_width t bound left right) s v u (left_within a b (width_for bound)) (right_within a b (width_for bound)) (omega arith)
    (λ y z h k. lesser_fits (max a b) (max a b + 1) bound (y -ℤ z) (omega arith) (bound_large bound 126 (omega arith) l)
    (difference_spelled (max a b) y z (omega arith) (wider_spelled a (max a b) y (le-max_left a b) h) (wider_spelled b (max a b) z (le-max_right a b) k)))
