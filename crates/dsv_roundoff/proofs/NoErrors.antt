-- Multiples of 2^frac_bits are rounded without an error.
use Rattle.std.proofs.Common.{◌≡◌, ℕ, zero, suc, ◌^◌, ◌==◌, ◌+◌, ◌-◌, ◌<◌, ◌≤◌, inl, inr, Bool, true, false, if◌then◌else◌, List, [], ◌∷◌, ◌++◌, length, get_or, take, refl, sym, subst, ap, ◌∙◌, arith, rules}
use Rattle.std.proofs.Math.IntN.{ℤ, pos, negsuc, ◌+ℤ◌, ◌-ℤ◌, ◌*ℤ◌, neg_ℤ}
use Rattle.std.proofs.Math.Nat.{pow-suc}
use Rattle.std.proofs.lemmas.Nat.{pow_pos}
use Rattle.std.proofs.lemmas.Int.{ints}
use Rattle.std.proofs.lemmas.Bool.{cases_lt}
use Rattle.std.proofs.lemmas.List.{get_or_append_left, get_or_push, get_or_past, length_push, take_more}
use Rattle.std.specs.Int.{int_rem_euclid}
use Rattle.std.specs.Ordering.{int_eq}
use lib.Signed.{◌<ℤ◌}
use Rattle.dsv_algebra.specs.Floor.{floor_of}
use Rattle.dsv_algebra.proofs.Normaliser.{ring, env, var, num, plus, times, minus}
use Rattle.dsv_algebra.proofs.Booleans.{and_left, and_right}
use Rattle.dsv_names.specs.declared.rounding.Rounding.{Rounding}
use Rattle.dsv_names.specs.declared.rounding.Rounding.TheVariants as rounding
use Rattle.dsv_word.specs.declared.format.Format.{Format}
use Rattle.dsv_word.specs.Quotients.{whole_shift}
use Rattle.dsv_word.proofs.Floors.{parted}
use Rattle.dsv_netlist.specs.declared.node.Node.{Node}
use Rattle.dsv_netlist.specs.declared.node.Node.TheVariants.{Input, Reg, MulConst, Round, Add, Sub, Fit, Scale}
use Rattle.dsv_netlist.specs.Nodes.{at, node_value}
use Rattle.dsv_linear.specs.Facts.{Between}
use Rattle.dsv_linear.specs.Forms.{range}
use Rattle.dsv_linear.specs.Known.{error_range}
use Rattle.dsv_linear.proofs.Words.{errors_lie}
use Rattle.dsv_roundoff.specs.Differences.{holds_at, is_multiple, multiples_after, errors_at}

-- ---- the error of a multiple
-- both ends are less than d in size
record AreSmall (d first last : ℤ) : Type 0 where
  low : neg_ℤ d <ℤ first
  high : last <ℤ d

near_small : (f : ℕ) → AreSmall (pos (2 ^ f)) (error_range rounding.Nearest f).low (error_range rounding.Nearest f).high
near_small zero = record { low = omega (arith, ints); high = omega (arith, ints) }
near_small (suc f) =
    let e : (suc f == 0) ≡ false = search rules in
    let g : suc f - 1 ≡ f = omega arith in
    let p = pow_pos f in
    let two = pow-suc 2 f in
    rw (e, g) (record { low = omega (arith, ints); high = omega (arith, ints) })

errors_small : (r : Rounding) (f : ℕ) → AreSmall (pos (2 ^ f)) (error_range r f).low (error_range r f).high
errors_small rounding.Floor f = let p = pow_pos f in record { low = omega (arith, ints); high = omega (arith, ints) }
errors_small rounding.Ceil f = let p = pow_pos f in record { low = omega (arith, ints); high = omega (arith, ints) }
errors_small rounding.Nearest f = near_small f

-- a multiple of d that is less than d in size is 0
pub none_between : (d : ℕ) (t : ℤ) → neg_ℤ (pos d) <ℤ (pos d *ℤ t) → (pos d *ℤ t) <ℤ pos d → pos d *ℤ t ≡ pos 0
none_between d (pos zero) p q = omega (arith, ints)
none_between d (pos (suc t)) p q = absurd (omega (arith, ints))
none_between d (negsuc t) p q = absurd (omega (arith, ints))

spread : (d w q : ℤ) → d *ℤ w -ℤ d *ℤ q ≡ d *ℤ (w -ℤ q)
spread d w q = ring (env (d ∷ w ∷ q ∷ [])) (plus (times (var 0) (var 1)) (minus (times (var 0) (var 2)))) (times (var 0) (plus (var 1) (minus (var 2)))) refl

no_error : (r : Rounding) (f : ℕ) (v q : ℤ) → v ≡ pos (2 ^ f) *ℤ q → pos (2 ^ f) *ℤ whole_shift r f v -ℤ v ≡ pos 0
no_error r f v q e =
    let w = whole_shift r f v in
    let d = pos (2 ^ f) in
    let h = errors_lie r f v in
    let s = errors_small r f in
    let g : d *ℤ w -ℤ v ≡ d *ℤ (w -ℤ q) = ap (λ x. d *ℤ w -ℤ x) e ∙ spread d w q in
    g ∙ none_between (2 ^ f) (w -ℤ q) (omega (arith, ints, g, h.least, s.low)) (omega (arith, ints, g, h.most, s.high))

-- ---- which values are multiples
abbrev pub IsMultiple : Format → ℤ → Type 0
IsMultiple f v = (q : ℤ) × (v ≡ pos (2 ^ f.frac_bits) *ℤ q)

-- each value of which it is said is one
abbrev pub AreMultiples : Format → List Bool → List ℤ → Type 0
AreMultiples f says vs = (i : ℕ) → holds_at says i ≡ true → IsMultiple f (at vs i)

is_zero : (z : ℤ) → int_eq z (pos 0) ≡ true → z ≡ pos 0
is_zero z e = search rules

product_is : (f : Format) (c v : ℤ) → int_rem_euclid c (pos (2 ^ f.frac_bits)) ≡ pos 0 → IsMultiple f (c *ℤ v)
product_is f c v z =
    let d = pos (2 ^ f.frac_bits) in
    let k = floor_of c (2 ^ f.frac_bits) in
    let e : c ≡ k *ℤ d = let p = parted c (2 ^ f.frac_bits) (pow_pos f.frac_bits) in omega (arith, ints, p, z) in
    (k *ℤ v, ap (λ x. x *ℤ v) e ∙ ring (env (k ∷ d ∷ v ∷ [])) (times (times (var 0) (var 1)) (var 2)) (times (var 1) (times (var 0) (var 2))) refl)

sum_is : (f : Format) (v w : ℤ) → IsMultiple f v → IsMultiple f w → IsMultiple f (v +ℤ w)
sum_is f v w p q =
    let d = pos (2 ^ f.frac_bits) in
    (p.0 +ℤ q.0, rw (p.1, q.1) (ring (env (d ∷ p.0 ∷ q.0 ∷ [])) (plus (times (var 0) (var 1)) (times (var 0) (var 2))) (times (var 0) (plus (var 1) (var 2))) refl))

difference_is : (f : Format) (v w : ℤ) → IsMultiple f v → IsMultiple f w → IsMultiple f (v -ℤ w)
difference_is f v w p q =
    let d = pos (2 ^ f.frac_bits) in
    (p.0 -ℤ q.0, rw (p.1, q.1) (spread d p.0 q.0))

node_is : (f : Format) (words : List ℤ) (x : ℤ) (says : List Bool) (vs : List ℤ) (n : Node) → AreMultiples f says vs → is_multiple f says n ≡ true → IsMultiple f (node_value f words x vs n)
node_is f words x says vs Input m e = absurd cc
node_is f words x says vs (Reg r) m e = absurd cc
node_is f words x says vs (MulConst c i) m e = product_is f c (at vs i) (is_zero (int_rem_euclid c (pos (2 ^ f.frac_bits))) e)
node_is f words x says vs (Round i) m e = absurd cc
node_is f words x says vs (Add i j) m e =
    sum_is f (at vs i) (at vs j) (m i (and_left (holds_at says i) (holds_at says j) e)) (m j (and_right (holds_at says i) (holds_at says j) e))
node_is f words x says vs (Sub i j) m e =
    difference_is f (at vs i) (at vs j) (m i (and_left (holds_at says i) (holds_at says j) e)) (m j (and_right (holds_at says i) (holds_at says j) e))
node_is f words x says vs (Fit i) m e = absurd cc
node_is f words x says vs (Scale i) m e = (at vs i, refl)

-- ---- node after node
none_said : (says : List Bool) (i : ℕ) → length says ≤ i → holds_at says i ≡ false
none_said says i l = get_or_past says i false l

pub multiples_more : (f : Format) (words : List ℤ) (x : ℤ) (says : List Bool) (vs : List ℤ) (n : Node) → length says ≡ length vs → AreMultiples f says vs
    → AreMultiples f (says ++ is_multiple f says n ∷ []) (vs ++ node_value f words x vs n ∷ [])
multiples_more f words x says vs n l m i e =
    let b = is_multiple f says n in
    let v = node_value f words x vs n in
    elim (cases_lt i (length says)) [
      | inl p ↦ subst (IsMultiple f) (sym (get_or_append_left vs (v ∷ []) (pos 0) i (omega (arith, p, l)))) (m i (sym (get_or_append_left says (b ∷ []) false i p) ∙ e))
      | inr p ↦ elim (cases_lt (length says) i) [
        | inl q ↦ absurd (let none = none_said (says ++ b ∷ []) i (let g = length_push says b in omega (arith, g, q)) in cc)
        | inr q ↦ (let here : length says ≡ i = omega (arith, p, q) in
            subst (IsMultiple f) (sym (get_or_push vs v (pos 0) i (sym l ∙ here))) (node_is f words x says vs n m (sym (get_or_push says b false i here) ∙ e)))
      ]
    ]

said_before : (f : Format) (says : List Bool) (ns : List Node) (i : ℕ) → i < length says → holds_at (multiples_after f says ns) i ≡ holds_at says i
said_before f says [] i l = refl
said_before f says (n ∷ ns) i l =
    let b = is_multiple f says n in
    said_before f (says ++ b ∷ []) ns i (let g = length_push says b in omega (arith, g, l)) ∙ get_or_append_left says (b ∷ []) false i l

zero_is : (f : Format) → IsMultiple f (pos 0)
zero_is f = (pos 0, (let d = pos (2 ^ f.frac_bits) in ring (env (d ∷ [])) (num (pos 0)) (times (var 0) (num (pos 0))) refl))

-- what is said of all nodes is true of the values so far
pub multiples_so_far : (f : Format) (says : List Bool) (vs : List ℤ) (ns : List Node) → length says ≡ length vs → AreMultiples f says vs → AreMultiples f (multiples_after f says ns) vs
multiples_so_far f says vs ns l m i e = elim (cases_lt i (length says)) [
  | inl p ↦ m i (sym (said_before f says ns i p) ∙ e)
  | inr p ↦ subst (IsMultiple f) (sym (get_or_past vs i (pos 0) (omega (arith, l, p)))) (zero_is f)
]

-- ---- the errors of values
error_cases : (b : Bool) (f : Format) (says : List Bool) (vs : List ℤ) (i : ℕ) → holds_at says i ≡ b → AreMultiples f says vs
    → Between (if b then range (pos 0) (pos 0) else error_range f.rounding f.frac_bits).low (if b then range (pos 0) (pos 0) else error_range f.rounding f.frac_bits).high
    (pos (2 ^ f.frac_bits) *ℤ whole_shift f.rounding f.frac_bits (at vs i) -ℤ at vs i)
error_cases true f says vs i e m =
    let q = m i e in
    let z = no_error f.rounding f.frac_bits (at vs i) q.0 q.1 in
    record { least = omega (arith, ints, z); most = omega (arith, ints, z) }
error_cases false f says vs i e m = errors_lie f.rounding f.frac_bits (at vs i)

pub error_lies : (f : Format) (says : List Bool) (vs : List ℤ) (i : ℕ) → AreMultiples f says vs
    → Between (errors_at f says i).low (errors_at f says i).high (pos (2 ^ f.frac_bits) *ℤ whole_shift f.rounding f.frac_bits (at vs i) -ℤ at vs i)
error_lies f says vs i m = error_cases (holds_at says i) f says vs i refl m

-- ---- the loop
joined : (f : Format) (says : List Bool) (ns : List Node) (n : Node) → multiples_after f says (ns ++ n ∷ []) ≡ multiples_after f says ns ++ is_multiple f (multiples_after f says ns) n ∷ []
joined f says [] n = refl
joined f says (m ∷ ns) n = joined f (says ++ is_multiple f says m ∷ []) ns n

pub multiples_next : (f : Format) (nodes : List Node) (d : Node) (i : ℕ) (says now : List Bool) (b : Bool) → i < length nodes → says ≡ multiples_after f [] (take i nodes) → b ≡ is_multiple f says (get_or nodes i d)
    → now ≡ says ++ b ∷ [] → now ≡ multiples_after f [] (take (i + 1) nodes)
multiples_next f nodes d i says now b l s e h =
    h ∙ rw (e, s) (sym (joined f [] (take i nodes) (get_or nodes i d))) ∙ ap (multiples_after f []) (sym (take_more nodes i d l))
