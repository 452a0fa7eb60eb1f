-- What the helper functions return.
use Rattle.std.proofs.Common.{◌≡◌, ℕ, ◌+◌, ◌-◌, ◌^◌, ◌==◌, ◌<◌, ◌≤◌, Bool, true, false, List, [], ◌∷◌, refl, sym, ap, subst, ◌∙◌, arith}
use Rattle.std.specs.Prelude.{Option, Some, nat_lt, slice_get}
use Rattle.std.specs.Int.{int_rem_euclid}
use Rattle.std.specs.Int.RustNames.{unsigned_abs}
use Rattle.std.proofs.Math.IntN.{ℤ, pos, ◌+ℤ◌, ◌-ℤ◌}
use Rattle.std.proofs.Math.Nat.{pow-le-pow_right}
use Rattle.std.proofs.lemmas.Int.{ints, by_lt_z}
use Rattle.std.proofs.lemmas.Nat.{pow_pos}
use lib.Signed.{◌<ℤ◌, ◌≤ℤ◌}
use Rattle.dsv_algebra.specs.Floor.{floor_of}
use Rattle.dsv_names.specs.declared.rounding.Rounding.{Rounding}
use Rattle.dsv_names.specs.declared.rounding.Rounding.TheVariants as rounding
use Rattle.dsv_names.specs.declared.overflow_mode.OverflowMode.{OverflowMode}
use Rattle.dsv_names.specs.declared.overflow_mode.OverflowMode.TheVariants as overflow_mode
use Rattle.dsv_word.specs.declared.format.Format.{Format}
use Rattle.dsv_word.specs.Words.{width, lo, hi, fit, wrapped_word, saturated_word, IsWord}
use Rattle.dsv_word.specs.Quotients.{whole_shift}
use Rattle.dsv_netlist.specs.Bounds.{word_bound}
use Rattle.dsv_netlist.proofs.Sizes.{shifted_size, fit_is_word, sum_size, difference_size, within_size, word_size}
use Rattle.dsv_c.specs.declared.c_type.CType.{CType}
use Rattle.dsv_c.specs.declared.c_type.CType.TheVariants.{Int, Int32, Int64}
use Rattle.dsv_c.specs.Syntax.{Expr, Constant, Local, Cast, Plus, Minus, Over, Mask, Flip, Choice, Declaration, Function}
use Rattle.dsv_c.specs.Meaning.{CValue, c_value, bits, limit, wider_type, in_type, constant, conversion, on_both, quotient, quotient_by, low_bits, bit_flip, has_bits, flip, choice, Scope, scope, Calls, value_of, no_calls, with_local, after_declarations, call_result}
use Rattle.dsv_c.specs.Programs.{word_type, headroom, addend_code, floor_code, rounded_code, fitted_value, fitted_code}
use Rattle.dsv_c.proofs.HeldNumbers.{int_lt-true, int_lt-false, nat_lt-true, IsHeld, held_is, size_held, left_wider, wider_bits, limit_bits, bits_some, power_order, constant_is, then_is, converted_is, operation_is}
use Rattle.dsv_word.proofs.Floors.{rest_within}
use Rattle.dsv_word.proofs.Meanings.{halves}
use Rattle.dsv_c.proofs.Floors.{whole_part, quotient_multiple, ceiling_as_floor, floor_by_one, wrapped_by_turn, rest_turns}

-- ---- operations
masked_is : (t : CType) (n : ℕ) (v : ℤ) → limit Int32 ≤ limit t → n < bits t → low_bits t n v ≡ Some (c_value t (int_rem_euclid v (pos (2 ^ n))))
masked_is Int n v h k = absurd (omega arith)
masked_is Int32 n v h k = rw (nat_lt-true n 32 k) refl
masked_is Int64 n v h k = rw (nat_lt-true n 64 k) refl

mask_is : (s : Scope) (e : Expr) (t : CType) (n : ℕ) (v : ℤ) → value_of no_calls s e ≡ Some (c_value t v) → limit Int32 ≤ limit t → n < bits t
    → value_of no_calls s (Mask e n) ≡ Some (c_value t (int_rem_euclid v (pos (2 ^ n))))
mask_is s e t n v p h k = then_is (λ u. low_bits u.type n u.number) (value_of no_calls s e) (c_value t v) p ∙ masked_is t n v h k

over_is : (s : Scope) (e : Expr) (t : CType) (k : ℕ) (v : ℤ) → value_of no_calls s e ≡ Some (c_value t v) → k + 1 < bits t
    → value_of no_calls s (Over e k) ≡ Some (c_value t (quotient v (2 ^ k)))
over_is s e t k v p h = then_is (quotient_by k) (value_of no_calls s e) (c_value t v) p ∙ rw (nat_lt-true (k + 1) (bits t) h) refl

flipped_is : (t : CType) (k : ℕ) (v : ℤ) → k + 1 < bits t → has_bits k v ≡ true → flip k (c_value t v) ≡ Some (c_value t (bit_flip k v))
flipped_is t k v h r = rw (nat_lt-true (k + 1) (bits t) h, r) refl

flip_is : (s : Scope) (e : Expr) (t : CType) (k : ℕ) (v : ℤ) → value_of no_calls s e ≡ Some (c_value t v) → k + 1 < bits t → has_bits k v ≡ true
    → value_of no_calls s (Flip e k) ≡ Some (c_value t (bit_flip k v))
flip_is s e t k v p h r = then_is (flip k) (value_of no_calls s e) (c_value t v) p ∙ flipped_is t k v h r

chosen_yes : (a b c d : Option CValue) (u v w : CValue) → a ≡ Some u → b ≡ Some v → c ≡ Some w → u.number <ℤ v.number → on_both (choice c d) a b ≡ Some w
chosen_yes a b c d u v w p q r h = rw (p, q, int_lt-true u.number v.number h) r

chosen_no : (a b c d : Option CValue) (u v w : CValue) → a ≡ Some u → b ≡ Some v → d ≡ Some w → v.number ≤ℤ u.number → on_both (choice c d) a b ≡ Some w
chosen_no a b c d u v w p q r h = rw (p, q, int_lt-false u.number v.number h) r

-- ---- the floor
floor_size : (v : ℤ) (f b : ℕ) → unsigned_abs v ≤ b → unsigned_abs (floor_of v (2 ^ f)) ≤ b
floor_size v f b h = shifted_size rounding.Floor f v b h

whole_size : (v : ℤ) (d : ℕ) → 0 < d → unsigned_abs (v -ℤ int_rem_euclid v (pos d)) ≤ unsigned_abs v + d
whole_size v d p =
    let r = rest_within v d p in
    rw r.1 (difference_size v (pos r.0) (unsigned_abs v) d (omega arith) (omega (arith, r.2)))

pub floor_is : (s : Scope) (k f : ℕ) (t : CType) (v : ℤ) → slice_get s.locals k ≡ Some (c_value t v) → limit Int32 ≤ limit t → unsigned_abs v + 2 ^ f < limit t → f + 1 < bits t
    → value_of no_calls s (floor_code k f) ≡ Some (c_value (wider_type t t) (floor_of v (2 ^ f)))
floor_is s k f t v p w h l =
    let d = 2 ^ f in
    let some = pow_pos f in
    let rest = mask_is s (Local k) t f v p w (omega arith) in
    let size = whole_size v d some in
    let less = operation_is (λ a b. a -ℤ b) (value_of no_calls s (Local k)) (value_of no_calls s (Mask (Local k) f)) t t v (int_rem_euclid v (pos d)) p rest
    (size_held (wider_type t t) (v -ℤ int_rem_euclid v (pos d)) (omega (arith, size, left_wider t t))) in
    let part = whole_part v d some in
    let bits_more : bits t ≤ bits (wider_type t t) = wider_bits t in
    over_is s (Minus (Local k) (Mask (Local k) f)) (wider_type t t) f (v -ℤ int_rem_euclid v (pos d)) less (omega arith)
    ∙ ap (λ z. Some (c_value (wider_type t t) z)) (ap (λ z. quotient z d) part ∙ quotient_multiple (floor_of v d) d some)

-- ---- functions
pub returned_is : (fn : Function) (v : ℤ) (parameter : CValue) (s : Scope) (w : CValue) → in_type fn.parameter v ≡ Some parameter
    → after_declarations no_calls fn.locals (scope (parameter ∷ []) []) ≡ Some s → conversion fn.result (value_of no_calls s fn.value) ≡ Some w → call_result fn v ≡ Some w
returned_is fn v parameter s w p q r = rw (p, q) r

pub declared_one : (calls : Calls) (d : Declaration) (ds : List Declaration) (s : Scope) (v : CValue) → conversion d.type (value_of calls s d.value) ≡ Some v
    → after_declarations calls (d ∷ ds) s ≡ after_declarations calls ds (with_local s v)
declared_one calls d ds s v p = then_is (λ u. after_declarations calls ds (with_local s u)) (conversion d.type (value_of calls s d.value)) v p

-- ---- sizes of formats
pub word_bound_small : (f : Format) → word_bound f ≤ 2 ^ 47
word_bound_small f = let h : width f - 1 ≤ 47 = omega (arith, f.lawful) in pow-le-pow_right (omega arith) h

pub unit_small : (f : Format) → 2 ^ f.frac_bits ≤ word_bound f
unit_small f = let h : f.frac_bits ≤ width f - 1 = omega (arith, f.lawful) in pow-le-pow_right (omega arith) h

pub headroom_is : (f : Format) → word_bound f + word_bound f ≡ headroom f
headroom_is f = let two = halves (width f) (omega (arith, f.lawful)) in omega arith

-- a type with room for the greatest word has more bits than words
pub width_below : (f : Format) (t : CType) → word_bound f < limit t → width f < bits t
width_below f t h =
    let e : 2 ^ (width f - 1) < 2 ^ (bits t - 1) = rw (← limit_bits t) h in
    omega (arith, power_order (width f - 1) (bits t - 1) e, bits_some t, f.lawful)

-- ---- what is added before rounding
record Added (r : Rounding) (f : ℕ) (t : CType) (v : ℤ) : Type 0 where
  sum : ℤ
  gives : conversion t (value_of no_calls (scope (c_value t v ∷ []) []) (addend_code r f)) ≡ Some (c_value t sum)
  whole : floor_of sum (2 ^ f) ≡ whole_shift r f v
  small : unsigned_abs sum + 2 ^ f < limit t

plus_constant : (t : CType) (v : ℤ) (c : ℕ) → unsigned_abs v + c < limit t → c < limit Int64
    → value_of no_calls (scope (c_value t v ∷ []) []) (Plus (Local 0) (Constant (pos c))) ≡ Some (c_value (wider_type t Int) (v +ℤ pos c))
plus_constant t v c h k =
    let s = sum_size v (pos c) (unsigned_abs v) c (omega arith) (omega arith) in
    operation_is (λ u w. u +ℤ w) (Some (c_value t v)) (constant (pos c)) t Int v (pos c) refl (constant_is (pos c) k)
    (size_held (wider_type t Int) (v +ℤ pos c) (omega (arith, s, left_wider t Int)))

added_local : (t : CType) (v : ℤ) → unsigned_abs v < limit t → conversion t (value_of no_calls (scope (c_value t v ∷ []) []) (Local 0)) ≡ Some (c_value t v)
added_local t v h = converted_is t t v (Some (c_value t v)) refl (size_held t v h)

added_constant : (t : CType) (v : ℤ) (c : ℕ) → unsigned_abs v + c < limit t → c < limit Int64
    → conversion t (value_of no_calls (scope (c_value t v ∷ []) []) (Plus (Local 0) (Constant (pos c)))) ≡ Some (c_value t (v +ℤ pos c))
added_constant t v c h k =
    let s = sum_size v (pos c) (unsigned_abs v) c (omega arith) (omega arith) in
    converted_is t (wider_type t Int) (v +ℤ pos c) (value_of no_calls (scope (c_value t v ∷ []) []) (Plus (Local 0) (Constant (pos c))))
    (plus_constant t v c h k) (size_held t (v +ℤ pos c) (omega (arith, s)))

half_below : (f : ℕ) → 2 ^ (f - 1) ≤ 2 ^ f
half_below f = let h : f - 1 ≤ f = omega arith in pow-le-pow_right (omega arith) h

added_nearest : (none : Bool) (f b : ℕ) (t : CType) (v : ℤ) → (f == 0) ≡ none → 2 ^ f + 2 ^ f ≤ b → b < limit Int64 → unsigned_abs v + b < limit t → Added rounding.Nearest f t v
added_nearest true f b t v e u k h =
    let z : f ≡ 0 = grind arith in
    record {
      sum = v;
      gives = rw e (added_local t v (omega arith));
      whole = rw (e, z) (floor_by_one v);
      small = omega arith;
    }
added_nearest false f b t v e u k h =
    let s = sum_size v (pos (2 ^ (f - 1))) (unsigned_abs v) (2 ^ (f - 1)) (omega arith) (omega arith) in
    let x = half_below f in
    record {
      sum = v +ℤ pos (2 ^ (f - 1));
      gives = rw e (added_constant t v (2 ^ (f - 1)) (omega arith) (omega arith));
      whole = rw e refl;
      small = omega (arith, s);
    }

added : (r : Rounding) (f b : ℕ) (t : CType) (v : ℤ) → 2 ^ f + 2 ^ f ≤ b → b < limit Int64 → unsigned_abs v + b < limit t → Added r f t v
added rounding.Floor f b t v u k h = record { sum = v; gives = added_local t v (omega arith); whole = refl; small = omega arith }
added rounding.Ceil f b t v u k h =
    let s = sum_size v (pos (2 ^ f - 1)) (unsigned_abs v) (2 ^ f - 1) (omega arith) (omega arith) in
    record {
      sum = v +ℤ pos (2 ^ f - 1);
      gives = added_constant t v (2 ^ f - 1) (omega arith) (omega arith);
      whole = ceiling_as_floor v (2 ^ f) (pow_pos f);
      small = omega (arith, s);
    }
added rounding.Nearest f b t v u k h = added_nearest (f == 0) f b t v refl u k h

pub rounded_returns : (f : Format) (t : CType) (v : ℤ) → limit Int32 ≤ limit t → unsigned_abs v + headroom f < limit t
    → call_result (rounded_code f t) v ≡ Some (c_value t (whole_shift f.rounding f.frac_bits v))
rounded_returns f t v wide h =
    let n = f.frac_bits in
    let some = word_bound_small f in
    let unit = unit_small f in
    let room = headroom_is f in
    let a = added f.rounding n (headroom f) t v (omega arith) (omega arith) h in
    let d : Declaration = record { type = t; value = addend_code f.rounding n } in
    let s = scope (c_value t v ∷ c_value t a.sum ∷ []) [] in
    let below : width f < bits t = width_below f t (omega arith) in
    let w = floor_is s 1 n t a.sum refl wide a.small (omega (arith, f.lawful)) in
    let size = floor_size a.sum n (unsigned_abs a.sum) (omega arith) in
    let last = converted_is t (wider_type t t) (floor_of a.sum (2 ^ n)) (value_of no_calls s (floor_code 1 n)) w (size_held t (floor_of a.sum (2 ^ n)) (omega (arith, a.small))) in
    returned_is (rounded_code f t) v (c_value t v) s (c_value t (whole_shift f.rounding n v)) (held_is t v (size_held t v (omega arith)))
    (declared_one no_calls d [] (scope (c_value t v ∷ []) []) (c_value t a.sum) a.gives) (last ∙ ap (λ z. Some (c_value t z)) a.whole)

-- ---- words
pub word_held : (f : Format) (w : ℤ) → IsWord f w → IsHeld (word_type f) w
word_held f w h = word_held_by (nat_lt (width f) 33) refl
  where
    word_held_by : (b : Bool) → nat_lt (width f) 33 ≡ b → IsHeld (word_type f) w
    word_held_by true e =
        let l : width f < 33 = grind arith in
        let m : width f - 1 ≤ 31 = omega (arith, f.lawful) in
        let p : 2 ^ (width f - 1) ≤ 2 ^ 31 = pow-le-pow_right (omega arith) m in
        rw e (record { low = omega (arith, ints, h.low); high = omega (arith, ints, h.high) })
    word_held_by false e =
        let p = word_bound_small f in
        rw e (record { low = omega (arith, ints, h.low); high = omega (arith, ints, h.high) })

pub wrap_returns : (f : Format) (t : CType) (v : ℤ) → f.overflow ≡ overflow_mode.Wrap → limit Int32 ≤ limit t → unsigned_abs v + headroom f < limit t
    → conversion (word_type f) (value_of no_calls (scope (c_value t v ∷ []) []) (fitted_value overflow_mode.Wrap (width f))) ≡ Some (c_value (word_type f) (wrapped_word (width f) v))
wrap_returns f t v o wide h =
    let n = width f in
    let some : 1 ≤ n = omega (arith, f.lawful) in
    let c = 2 ^ (n - 1) in
    let s = scope (c_value t v ∷ []) [] in
    let k : CType = Int in
    let small = word_bound_small f in
    let room = headroom_is f in
    let below : n < bits t = width_below f t (omega arith) in
    let r = int_rem_euclid v (pos (2 ^ n)) in
    let rest = mask_is s (Local 0) t n v refl wide below in
    let turn = flip_is s (Mask (Local 0) n) t (n - 1) r rest (omega arith) (rest_turns n v some) in
    let back = wrapped_by_turn n v some in
    let word : IsWord f (wrapped_word n v) = subst (λ (m : OverflowMode). IsWord f (fit m n v)) o (fit_is_word f v) in
    let size = word_size f (wrapped_word n v) word in
    let fits : IsHeld (wider_type t k) (bit_flip (n - 1) r -ℤ pos c) = rw back (size_held (wider_type t k) (wrapped_word n v) (omega (arith, size, left_wider t k))) in
    let less = operation_is (λ u w. u -ℤ w) (value_of no_calls s (Flip (Mask (Local 0) n) (n - 1))) (constant (pos c)) t k (bit_flip (n - 1) r) (pos c) turn (constant_is (pos c) (omega arith)) fits in
    converted_is (word_type f) (wider_type t k) (wrapped_word n v) (value_of no_calls s (fitted_value overflow_mode.Wrap n))
    (less ∙ ap (λ z. Some (c_value (wider_type t k) z)) back) (word_held f (wrapped_word n v) word)

-- ---- the ends
pub low_size : (n : ℕ) → unsigned_abs (lo n) ≤ 2 ^ (n - 1)
low_size n = within_size (2 ^ (n - 1)) (lo n) (record { low = omega (arith, ints); high = omega (arith, ints) })

pub high_size : (n : ℕ) → unsigned_abs (hi n) ≤ 2 ^ (n - 1)
high_size n = let p = pow_pos (n - 1) in within_size (2 ^ (n - 1)) (hi n) (record { low = omega (arith, ints); high = omega (arith, ints) })

-- the arms of a saturating choice
saturated_low : (n : ℕ) (v : ℤ) → v <ℤ lo n → saturated_word n v ≡ lo n
saturated_low n v h = rw (int_lt-true v (lo n) h) refl

saturated_high : (n : ℕ) (v : ℤ) → lo n ≤ℤ v → hi n <ℤ v → saturated_word n v ≡ hi n
saturated_high n v h k = rw (int_lt-false v (lo n) h, int_lt-true (hi n) v k) refl

saturated_inside : (n : ℕ) (v : ℤ) → lo n ≤ℤ v → v ≤ℤ hi n → saturated_word n v ≡ v
saturated_inside n v h k = rw (int_lt-false v (lo n) h, int_lt-false (hi n) v k) refl

-- the value of the choice, of some type
record Clamped (t : CType) (n : ℕ) (v : ℤ) : Type 0 where
  type : CType
  gives : value_of no_calls (scope (c_value t v ∷ []) []) (fitted_value overflow_mode.Saturate n) ≡ Some (c_value type (saturated_word n v))

clamped : (t : CType) (n : ℕ) (v : ℤ) → 2 ^ (n - 1) < limit Int64 → Clamped t n v
clamped t n v h =
    let s = scope (c_value t v ∷ []) [] in
    let low = constant_is (lo n) (omega (arith, low_size n)) in
    let high = constant_is (hi n) (omega (arith, high_size n)) in
    let inner = value_of no_calls s (Choice (Constant (hi n)) (Local 0) (Constant (hi n)) (Local 0)) in
    by_lt_z v (lo n)
    (λ less. record {
      type = Int;
      gives = chosen_yes (Some (c_value t v)) (constant (lo n)) (constant (lo n)) inner (c_value t v) (c_value Int (lo n)) (c_value Int (lo n)) refl low low less
          ∙ ap (λ z. Some (c_value Int z)) (sym (saturated_low n v less));
    })
    (λ not_low. by_lt_z (hi n) v
    (λ more. record {
      type = Int;
      gives = chosen_no (Some (c_value t v)) (constant (lo n)) (constant (lo n)) inner (c_value t v) (c_value Int (lo n)) (c_value Int (hi n)) refl low
          (chosen_yes (constant (hi n)) (Some (c_value t v)) (constant (hi n)) (Some (c_value t v)) (c_value Int (hi n)) (c_value t v) (c_value Int (hi n)) high refl high more) not_low
          ∙ ap (λ z. Some (c_value Int z)) (sym (saturated_high n v not_low more));
    })
    (λ not_high. record {
      type = t;
      gives = chosen_no (Some (c_value t v)) (constant (lo n)) (constant (lo n)) inner (c_value t v) (c_value Int (lo n)) (c_value t v) refl low
          (chosen_no (constant (hi n)) (Some (c_value t v)) (constant (hi n)) (Some (c_value t v)) (c_value Int (hi n)) (c_value t v) (c_value t v) high refl refl not_high) not_low
          ∙ ap (λ z. Some (c_value t z)) (sym (saturated_inside n v not_low not_high));
    }))

saturate_returns : (f : Format) (t : CType) (v : ℤ) → f.overflow ≡ overflow_mode.Saturate
    → conversion (word_type f) (value_of no_calls (scope (c_value t v ∷ []) []) (fitted_value overflow_mode.Saturate (width f))) ≡ Some (c_value (word_type f) (saturated_word (width f) v))
saturate_returns f t v o =
    let n = width f in
    let some = word_bound_small f in
    let c = clamped t n v (omega arith) in
    let word : IsWord f (saturated_word n v) = subst (λ (m : OverflowMode). IsWord f (fit m n v)) o (fit_is_word f v) in
    converted_is (word_type f) c.type (saturated_word n v) (value_of no_calls (scope (c_value t v ∷ []) []) (fitted_value overflow_mode.Saturate n)) c.gives (word_held f (saturated_word n v) word)

fitted_by : (o : OverflowMode) (f : Format) (t : CType) (v : ℤ) → f.overflow ≡ o → limit Int32 ≤ limit t → unsigned_abs v + headroom f < limit t
    → conversion (word_type f) (value_of no_calls (scope (c_value t v ∷ []) []) (fitted_value o (width f))) ≡ Some (c_value (word_type f) (fit o (width f) v))
fitted_by overflow_mode.Wrap f t v e wide h = wrap_returns f t v e wide h
fitted_by overflow_mode.Saturate f t v e wide h = saturate_returns f t v e

pub fitted_returns : (f : Format) (t : CType) (v : ℤ) → limit Int32 ≤ limit t → unsigned_abs v + headroom f < limit t
    → call_result (fitted_code f t) v ≡ Some (c_value (word_type f) (fit f.overflow (width f) v))
fitted_returns f t v wide h =
    let w = fit f.overflow (width f) v in
    let s = scope (c_value t v ∷ []) [] in
    let value = fitted_by f.overflow f t v refl wide h in
    returned_is (fitted_code f t) v (c_value t v) s (c_value (word_type f) w) (held_is t v (size_held t v (omega arith))) refl
    (converted_is (word_type f) (word_type f) w (value_of no_calls s (Cast (word_type f) (fitted_value f.overflow (width f)))) value (word_held f w (fit_is_word f v)))
