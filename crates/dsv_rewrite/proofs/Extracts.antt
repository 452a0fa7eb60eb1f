-- Bits of bits: extracts of extracts, of joined words and of sign extensions.
use Rattle.std.proofs.Common.{◌≡◌, ℕ, ◌+◌, ◌-◌, ◌*◌, ◌/◌, ◌%◌, ◌^◌, ◌<◌, ◌≤◌, inl, inr, refl, arith, ap, sym, subst, ◌∙◌, min}
use Rattle.std.proofs.Math.IntN.{ℤ, pos, negsuc}
use Rattle.std.proofs.Math.Nat.{div-one, pow-le-pow_right}
use Rattle.std.proofs.lemmas.Int.{ints}
use Rattle.std.proofs.lemmas.Nat.{pow_pos, pow-add, mod_below, div-add-mod', mod-mul-add, div-mul-add, shr-shr}
use Rattle.std.proofs.lemmas.Bool.{cases_lt}
use Rattle.dsv_algebra.specs.Floor.{floor_of}
use Rattle.dsv_term.specs.declared.word.Word.{Word}
use Rattle.dsv_term.specs.Word.{IsWord, signed_of, joined_of, extended_of, extract_of}
use Rattle.dsv_term.proofs.Complement.{IsSpelled, spelled, signed_reads, wider_spelled, extended-spelled, low-spelled, shift-spelled, floor_spelled}
use Rattle.dsv_rewrite.proofs.Laws.{word_eq, small}

-- ---- the bits of the lowest bits
row : (q a b c r w : ℕ) → w ≡ a * (b * c) → q * w + r ≡ q * c * b * a + r
row q a b c r w s = rw s (omega arith)

joined_rows : (p a k j r : ℕ) → r ≡ k * a + j → p * a + r ≡ (p + k) * a + j
joined_rows p a k j r e = omega arith

inner_by : (n q r a b c w : ℕ) → w ≡ a * (b * c) → n ≡ q * w + r → 0 < a → 0 < b → r / a % b ≡ n / a % b
inner_by n q r a b c w s e ha hb =
    let d = div-add-mod' r a in
    let split : n ≡ (q * c * b + r / a) * a + r % a = e ∙ (row q a b c r w s ∙ joined_rows (q * c * b) a (r / a) (r % a) r (sym d)) in
    let quotient : n / a ≡ q * c * b + r / a = ap (λ (m : ℕ). m / a) split ∙ div-mul-add (q * c * b + r / a) a (r % a) (mod_below r a ha) in
    let d2 = div-add-mod' (r / a) b in
    let split2 : q * c * b + r / a ≡ (q * c + r / a / b) * b + r / a % b = joined_rows (q * c) b (r / a / b) (r / a % b) (r / a) (sym d2) in
    sym (ap (λ (m : ℕ). m % b) quotient ∙ (ap (λ (m : ℕ). m % b) split2 ∙ mod-mul-add (q * c + r / a / b) b (r / a % b) (mod_below (r / a) b hb)))

-- the bits from `low` on of the lowest `w` bits are those of the number, where they lie inside
pub inner_bits : (n w low count : ℕ) → low + count ≤ w → n % 2 ^ w / 2 ^ low % 2 ^ count ≡ n / 2 ^ low % 2 ^ count
inner_bits n w low count h =
    let rest = w - (low + count) in
    let e : w ≡ low + (count + rest) = omega arith in
    let s : 2 ^ w ≡ 2 ^ low * (2 ^ count * 2 ^ rest) = ap (λ (k : ℕ). 2 ^ k) e ∙ (pow-add 2 low (count + rest) ∙ ap (λ (k : ℕ). 2 ^ low * k) (pow-add 2 count rest)) in
    inner_by n (n / 2 ^ w) (n % 2 ^ w) (2 ^ low) (2 ^ count) (2 ^ rest) (2 ^ w) s (sym (div-add-mod' n (2 ^ w))) (pow_pos low) (pow_pos count)

-- ---- of an extract
pub extract-extract : (high low top bottom : ℕ) (x : Word) → low ≤ high → bottom ≤ top → high < top + 1 - bottom
    → extract_of high low (extract_of top bottom x) ≡ extract_of (high + bottom) (low + bottom) x
extract-extract high low top bottom x o p i =
    let n = x.number in
    let count = high + 1 - low in
    let w : count ≡ high + bottom + 1 - (low + bottom) = omega arith in
    let e = inner_bits (n / 2 ^ bottom) (top + 1 - bottom) low count (omega arith) in
    let f : n / 2 ^ bottom / 2 ^ low ≡ n / 2 ^ (low + bottom) = shr-shr n bottom low ∙ ap (λ (k : ℕ). n / 2 ^ k) (omega arith) in
    word_eq (extract_of high low (extract_of top bottom x)) (extract_of (high + bottom) (low + bottom) x) w
    (e ∙ (ap (λ (m : ℕ). m % 2 ^ count) f ∙ ap (λ (k : ℕ). n / 2 ^ (low + bottom) % 2 ^ k) w))

-- ---- of joined words
pub extract-lower : (high low : ℕ) (a b : Word) → low ≤ high → high < b.width → IsWord b → extract_of high low (joined_of a b) ≡ extract_of high low b
extract-lower high low a b o i h =
    let n = a.number * 2 ^ b.width + b.number in
    let count = high + 1 - low in
    let e = inner_bits n b.width low count (omega arith) in
    let r : n % 2 ^ b.width ≡ b.number = mod-mul-add a.number (2 ^ b.width) b.number h.fits in
    word_eq (extract_of high low (joined_of a b)) (extract_of high low b) refl
    (sym (ap (λ (m : ℕ). m / 2 ^ low % 2 ^ count) (sym r) ∙ e))

pub extract-upper : (high low : ℕ) (a b : Word) → low ≤ high → b.width ≤ low → IsWord b → extract_of high low (joined_of a b) ≡ extract_of (high - b.width) (low - b.width) a
extract-upper high low a b o i h =
    let n = a.number * 2 ^ b.width + b.number in
    let count = high + 1 - low in
    let w : count ≡ high - b.width + 1 - (low - b.width) = omega arith in
    let z : low ≡ b.width + (low - b.width) = omega arith in
    let q : n / 2 ^ low ≡ a.number / 2 ^ (low - b.width) =
    ap (λ (k : ℕ). n / 2 ^ k) z ∙ (sym (shr-shr n b.width (low - b.width)) ∙ ap (λ (m : ℕ). m / 2 ^ (low - b.width)) (div-mul-add a.number (2 ^ b.width) b.number h.fits)) in
    word_eq (extract_of high low (joined_of a b)) (extract_of (high - b.width) (low - b.width) a) w
    (ap (λ (m : ℕ). m % 2 ^ count) q ∙ ap (λ (k : ℕ). a.number / 2 ^ (low - b.width) % 2 ^ k) w)

-- ---- of a sign extension
-- the bits of a number that is spelled in enough bits are its floor's
pub floor_bits : (high low w : ℕ) (z : ℤ) → low ≤ high → high < w → IsSpelled w z → extract_of high low (spelled w z) ≡ spelled (high + 1 - low) (floor_of z (2 ^ low))
floor_bits high low w z o i h =
    let count = high + 1 - low in
    let v = w - low in
    let e : v + low ≡ w = omega arith in
    let spelled_there : IsSpelled (v + low) z = subst (λ (k : ℕ). IsSpelled k z) (sym e) h in
    let f = shift-spelled v low z (omega arith) spelled_there in
    let g : extract_of (w - 1) low (spelled w z) ≡ spelled v (floor_of z (2 ^ low)) = subst (λ (k : ℕ). extract_of (k - 1) low (spelled k z) ≡ spelled v (floor_of z (2 ^ low))) e f in
    let x = extract-extract (count - 1) 0 (w - 1) low (spelled w z) (omega arith) (omega arith) (omega arith) in
    let a : count - 1 + low ≡ high = omega arith in
    let y : extract_of (count - 1 + low) (0 + low) (spelled w z) ≡ extract_of high low (spelled w z) =
    ap (λ (k : ℕ). extract_of k (0 + low) (spelled w z)) a ∙ ap (λ (k : ℕ). extract_of high k (spelled w z)) (omega arith) in
    sym y ∙ (sym x ∙ (ap (extract_of (count - 1) 0) g ∙ low-spelled count v (floor_of z (2 ^ low)) (omega arith) (omega arith)))

-- where only the sign is left, the floors are the same
shift_all : (n k : ℕ) → n < 2 ^ k → n / 2 ^ k ≡ 0
shift_all n k h = grind (arith, h)

power_up : (j k : ℕ) → j ≤ k → 2 ^ j ≤ 2 ^ k
power_up j k h = pow-le-pow_right (omega arith) h

sign_floor : (v low : ℕ) (z : ℤ) → 1 ≤ v → v - 1 ≤ low → IsSpelled v z → floor_of z (2 ^ low) ≡ floor_of z (2 ^ (v - 1))
sign_floor v low (pos n) p l h =
    let s : n < 2 ^ (v - 1) = omega (arith, ints, h.high) in
    let u = power_up (v - 1) low l in
    let a = shift_all n low (omega arith) in
    let b = shift_all n (v - 1) s in
    ap pos (a ∙ sym b)
sign_floor v low (negsuc n) p l h =
    let s : n < 2 ^ (v - 1) = omega (arith, ints, h.low) in
    let u = power_up (v - 1) low l in
    let a = shift_all n low (omega arith) in
    let b = shift_all n (v - 1) s in
    ap negsuc (a ∙ sym b)

-- a word is what spells its number
pub spelled_word : (x : Word) → IsWord x → x ≡ spelled x.width (signed_of x)
spelled_word x h = word_eq x (spelled x.width (signed_of x)) refl (sym (signed_reads x.width x.number h.lawful.some h.fits).same)

-- a word extended to its own width
pub extended-same : (x : Word) → IsWord x → extended_of x.width x ≡ x
extended-same x h = sym (spelled_word x h)

-- bits of an extended word are bits of the word, or copies of its sign
extended_bits_by : (width high low w : ℕ) (x : Word) → IsWord x → x.width ≤ w → low ≤ high → high < w
    → extended_of width (extract_of (min high (x.width - 1)) (min low (x.width - 1)) x) ≡ extended_of width (extract_of high low (extended_of w x))
extended_bits_by width high low w x k n o i =
    let v = x.width in
    let z = signed_of x in
    let p = k.lawful.some in
    let s : IsSpelled v z = (signed_reads v x.number p k.fits).fits in
    let r : extract_of high low (extended_of w x) ≡ spelled (high + 1 - low) (floor_of z (2 ^ low)) = floor_bits high low w z o i (wider_spelled v w z n s) in
    let back : x ≡ spelled v z = spelled_word x k in
    elim (cases_lt high v) [
      | inl inside ↦
          let a : min high (v - 1) ≡ high = omega arith in
          let b : min low (v - 1) ≡ low = omega arith in
          let f = floor_bits high low v z o inside s in
          rw (a, b) (ap (extended_of width) (ap (extract_of high low) back ∙ (f ∙ sym r)))
      | inr above ↦ elim (cases_lt low v) [
        | inl crossing ↦
            let a : min high (v - 1) ≡ v - 1 = omega arith in
            let b : min low (v - 1) ≡ low = omega arith in
            let d : v - 1 + 1 - low ≡ v - low = omega arith in
            let f = floor_bits (v - 1) low v z (omega arith) (omega arith) s in
            let fl : IsSpelled (v - low) (floor_of z (2 ^ low)) = floor_spelled (v - low) low z (omega arith) (subst (λ (j : ℕ). IsSpelled j z) (let q : v ≡ v - low + low = omega arith in q) s) in
            let left : extended_of width (extract_of (v - 1) low x) ≡ spelled width (floor_of z (2 ^ low)) =
            ap (extended_of width) (ap (extract_of (v - 1) low) back ∙ (f ∙ ap (λ (j : ℕ). spelled j (floor_of z (2 ^ low))) d)) ∙ extended-spelled (v - low) width (floor_of z (2 ^ low)) (omega arith) fl in
            let right : extended_of width (extract_of high low (extended_of w x)) ≡ spelled width (floor_of z (2 ^ low)) =
            ap (extended_of width) r ∙ extended-spelled (high + 1 - low) width (floor_of z (2 ^ low)) (omega arith) (wider_spelled (v - low) (high + 1 - low) (floor_of z (2 ^ low)) (omega arith) fl) in
            rw (a, b) (left ∙ sym right)
        | inr beyond ↦
            let a : min high (v - 1) ≡ v - 1 = omega arith in
            let b : min low (v - 1) ≡ v - 1 = omega arith in
            let d : v - 1 + 1 - (v - 1) ≡ 1 = omega arith in
            let f = floor_bits (v - 1) (v - 1) v z (omega arith) (omega arith) s in
            let fl : IsSpelled 1 (floor_of z (2 ^ (v - 1))) = floor_spelled 1 (v - 1) z (omega arith) (subst (λ (j : ℕ). IsSpelled j z) (let q : v ≡ 1 + (v - 1) = omega arith in q) s) in
            let same = sign_floor v low z p (omega arith) s in
            let left : extended_of width (extract_of (v - 1) (v - 1) x) ≡ spelled width (floor_of z (2 ^ (v - 1))) =
            ap (extended_of width) (ap (extract_of (v - 1) (v - 1)) back ∙ (f ∙ ap (λ (j : ℕ). spelled j (floor_of z (2 ^ (v - 1)))) d)) ∙ extended-spelled 1 width (floor_of z (2 ^ (v - 1))) (omega arith) fl in
            let right : extended_of width (extract_of high low (extended_of w x)) ≡ spelled width (floor_of z (2 ^ (v - 1))) =
            ap (extended_of width) (r ∙ ap (spelled (high + 1 - low)) same) ∙ extended-spelled (high + 1 - low) width (floor_of z (2 ^ (v - 1))) (omega arith) (wider_spelled 1 (high + 1 - low) (floor_of z (2 ^ (v - 1))) (omega arith) fl) in
            rw (a, b) (left ∙ sym right)
      ]
    ]

pub extract-extended : (width high low w : ℕ) (x : Word) → IsWord x → x.width ≤ w → low ≤ high → high < w
    → extended_of width (extract_of (min high (x.width - 1)) (min low (x.width - 1)) x) ≡ extended_of width (extract_of high low (extended_of w x))
extract-extended width high low w x k n o i = extended_bits_by width high low w x k n o i

-- all bits
pub extract-all : (x : Word) → IsWord x → x ≡ extract_of (x.width - 1) 0 x
extract-all x h =
    let w : x.width ≡ x.width - 1 + 1 - 0 = let p = h.lawful.some in omega arith in
    let d : x.number / 2 ^ 0 ≡ x.number = div-one x.number in
    word_eq x (extract_of (x.width - 1) 0 x) w
    (sym (ap (λ (m : ℕ). m % 2 ^ (x.width - 1 + 1 - 0)) d ∙ (ap (λ (k : ℕ). x.number % 2 ^ k) (sym w) ∙ small x.number (2 ^ x.width) h.fits)))
