-- Boxes: the bits of a shape's words, and the next of the boxes.
use Rattle.std.proofs.Common.{◌≡◌, FitsSigned, w64, ℕ, zero, suc, ◌+◌, ◌-◌, ◌*◌, ◌^◌, ◌<◌, ◌≤◌, inl, inr, List, [], Some, Bool, true, false, refl, sym, ap, ◌∙◌, drop, length, get_or, slice_get, length-drop, add-zero, arith}
use Rattle.std.proofs.Math.IntN.{ℤ, pos, neg_ℤ, ◌-ℤ◌}
use Rattle.std.specs.Prelude.{◌≤ℤ◌, int_lt, if◌then◌else◌}
use Rattle.std.proofs.lemmas.Bool.{cases_lt}
use Rattle.std.proofs.lemmas.Int.{ints}
use Rattle.std.proofs.Math.Nat.{pow-le-pow_right}
use Rattle.std.specs.Int.Count.{count_leading_zeros}
use Rattle.std.specs.Int.RustNames.{unsigned_abs}
use Rattle.std.proofs.lemmas.Nat.{pow-add, pow_pos, leading_length}
use Rattle.std.proofs.lemmas.List.{drop-drop, get_or-drop, drop_all}
use Rattle.std.proofs.lemmas.List.FromFn.{get_or-map-range_with_len, length-map-range_with_len}
use Rattle.std.proofs.lemmas.Option.{slice_get_read}
use Rattle.dsv_word.specs.Words.{hi}
use Rattle.dsv_template.specs.declared.shape.Shape.{Shape}
use Rattle.dsv_template.specs.Candidates.{bit_length}
use Rattle.dsv_template.specs.Shapes.{IsLawful}
use Rattle.dsv_template.specs.Boxes.{bits_of, sizes_of, or_less, box_at, boxes, boxes_from}

-- ---- bits
size_of_greatest : (a : ℕ) → 1 ≤ a → unsigned_abs (pos a -ℤ pos 1) + 1 ≡ a
size_of_greatest zero h = absurd (omega arith)
size_of_greatest (suc b) h =
    let e : pos (suc b) -ℤ pos 1 ≡ pos b = omega (arith, ints) in
    let f : unsigned_abs (pos (suc b) -ℤ pos 1) ≡ b = ap unsigned_abs e in
    omega arith

pub powers : (i j : ℕ) → i ≤ j → 2 ^ i ≤ 2 ^ j
powers i j h = pow-le-pow_right (omega arith) h

-- a number one below a power of two takes as many bits
length_by : (k a m : ℕ) → a + 1 ≡ 2 ^ k → a < 2 ^ m → 2 ^ m ≤ 2 * a + 1 → m ≡ k
length_by k a m e less more = elim (cases_lt m k) [
  | inl below ↦ absurd (let p = powers (m + 1) k (omega arith) in let q : 2 ^ (m + 1) ≡ 2 ^ m * 2 = pow-add 2 m 1 in omega arith)
  | inr above ↦ elim (cases_lt k m) [
    | inl over ↦ absurd (let p = powers (k + 1) m (omega arith) in let q : 2 ^ (k + 1) ≡ 2 ^ k * 2 = pow-add 2 k 1 in omega arith)
    | inr same ↦ omega arith
  ]
]

bit_length-by : (k clz m : ℕ) → clz + m ≡ 64 → m ≡ k → 64 - clz ≡ k
bit_length-by k clz m e f = omega arith

bit_length-greatest : (n : ℕ) → n ≤ 48 → bit_length (hi n) ≡ n - 1
bit_length-greatest n h =
    let a = unsigned_abs (hi n) in
    let e : a + 1 ≡ 2 ^ (n - 1) = size_of_greatest (2 ^ (n - 1)) (pow_pos (n - 1)) in
    let wide : 2 ^ (n - 1) ≤ 2 ^ 64 = powers (n - 1) 64 (omega arith) in
    let l = leading_length 64 a (omega arith) in
    bit_length-by (n - 1) (count_leading_zeros 64 a) l.0 l.1 (length_by (n - 1) a l.0 e l.2 l.3)

pub bits_of-lawful : (shape : Shape) → IsLawful shape → (2 ≤ bits_of shape) × (bits_of shape ≤ 48)
bits_of-lawful shape h =
    let e : bit_length shape.hi ≡ h.bits - 1 = ap bit_length h.greatest ∙ bit_length-greatest h.bits h.narrow in
    let w = h.wide in let n = h.narrow in
    (omega arith, omega arith)

-- ---- the range of the inputs
or_less-fits : (z : ℤ) (b : Bool) → int_lt z (pos 0) ≡ b → neg_ℤ (pos (2 ^ 47)) ≤ℤ z → FitsSigned w64 (if b then z else pos 0) × FitsSigned w64 (pos 0 -ℤ (if b then z else pos 0))
or_less-fits z true e h = (omega (arith, ints), omega (arith, ints))
or_less-fits z false e h = (omega (arith, ints), omega (arith, ints))

pub inputs_fit : (shape : Shape) → IsLawful shape → FitsSigned w64 (or_less shape.xlo) × FitsSigned w64 (pos 0 -ℤ or_less shape.xlo)
inputs_fit shape h =
    let small : 2 ^ (h.bits - 1) ≤ 2 ^ 47 = powers (h.bits - 1) 47 (let n = h.narrow in omega arith) in
    let least = h.least in let low = h.low in
    or_less-fits shape.xlo (int_lt shape.xlo (pos 0)) refl (omega (arith, ints))

-- ---- the next of the boxes
slice_get-at_drop : {X : Type 0} (xs : List X) (p : ℕ) (x : X) → p < length xs → get_or xs p x ≡ x → slice_get (drop p xs) 0 ≡ Some x
slice_get-at_drop xs p x h e =
    let n : length (drop p xs) ≡ length xs - p = length-drop p xs in
    slice_get_read (drop p xs) (length xs - p) 0 x (sym n) (omega arith) (sym (get_or-drop p xs 0 x ∙ rw add-zero e))

pub boxes_from-first : (shape : Shape) (finished : Bool) (place : ℕ) → finished ≡ false → place < 4 * sizes_of shape
    → slice_get (boxes_from finished place shape) 0 ≡ Some (box_at shape place)
boxes_from-first shape finished place f h =
    let n : length (boxes shape) ≡ 4 * sizes_of shape = length-map-range_with_len (box_at shape) 0 (4 * sizes_of shape) in
    rw f (slice_get-at_drop (boxes shape) place (box_at shape place) (omega arith)
    (get_or-map-range_with_len (box_at shape) 0 (4 * sizes_of shape) place place (box_at shape place) h (omega arith)))

-- there is none after the last
pub boxes_from-none : (shape : Shape) (finished : Bool) (place : ℕ) → 4 * sizes_of shape ≤ place → boxes_from finished place shape ≡ []
boxes_from-none shape true place h = refl
boxes_from-none shape false place h =
    let n : length (boxes shape) ≡ 4 * sizes_of shape = length-map-range_with_len (box_at shape) 0 (4 * sizes_of shape) in
    drop_all place (boxes shape) (omega arith)

pub boxes_from-rest : (shape : Shape) (finished : Bool) (place : ℕ) → finished ≡ false
    → boxes_from finished (place + 1) shape ≡ drop 1 (boxes_from finished place shape)
boxes_from-rest shape finished place f = rw f (sym (drop-drop 1 place (boxes shape)))
