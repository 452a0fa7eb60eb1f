-- A sample's walk over its nodes: forms, and what the values are that have them.
use Rattle.std.proofs.Common.{◌≡◌, ℕ, suc, ◌<◌, Bool, true, false, if◌then◌else◌, List, [], ◌∷◌, length, get_or, refl, sym, ap, ◌∙◌, arith}
use Rattle.std.specs.Prelude.{Option, Some, None, nat_lt}
use Rattle.std.proofs.Math.IntN.{ℤ, pos, negsuc, ◌+ℤ◌, ◌-ℤ◌, ◌*ℤ◌}
use Rattle.std.proofs.lemmas.Int.{ints}
use Rattle.std.proofs.lemmas.List.{length_push}
use Rattle.std.proofs.lemmas.Bool.{ltb-true}
use Rattle.dsv_algebra.proofs.Normaliser.{ring, env, var, plus, times}
use Rattle.dsv_netlist.specs.Nodes.{at}
use Rattle.dsv_network.specs.declared.signal.Signal.{Signal}
use Rattle.dsv_linear.specs.declared.range.Range.{Range}
use Rattle.dsv_linear.specs.Forms.{◌>>=◌, scale, sums, differences, products, longer}
use Rattle.dsv_linear.proofs.Numbers.{some_of, times_none}
use Rattle.dsv_linear.proofs.Meanings.{entries_are, entry_at, past, longer_left, longer_right, stretched}
use Rattle.dsv_network.specs.declared.weights.Weights.{Weights}
use Rattle.dsv_network.specs.declared.pass.Pass.{Pass}
use Rattle.dsv_network.specs.declared.walk.Walk.{Walk}
use Rattle.dsv_network.specs.Samples.{form_at, node_form, node_weights, node_ranges, own_after, own_limit, walk_with, with_node, after_node}
use Rattle.dsv_network.proofs.Masses.{mass, mass_same, mass_add, mass_scale, placed, placed_before}
use Rattle.dsv_network.proofs.Bounds.{turned}

-- the form of this number, that of 0 where there is none
abbrev pub form_of : List (List ℤ) → ℕ → List ℤ
form_of forms i = get_or forms i []

-- ---- a node that was walked over
pub record IsStep (pass : Pass) (walk : Walk) (n : Signal) (next : Walk) : Type 0 where
  pub form : List ℤ
  pub weights : Weights
  pub ranges : List Range
  pub form_is : node_form pass walk n ≡ Some form
  pub weights_are : node_weights pass walk n ≡ Some weights
  pub ranges_are : node_ranges walk.ranges walk.own weights n ≡ Some ranges
  pub same : next ≡ walk_with walk form weights ranges (own_after walk.own n)

limit_cases : (b : Bool) (o : Option Walk) (next : Walk) → (if b then o else None) ≡ Some next → o ≡ Some next
limit_cases true o next e = e
limit_cases false o next e = absurd cc

pub step_is : (pass : Pass) (walk : Walk) (n : Signal) (next : Walk) → after_node pass walk n ≡ Some next → IsStep pass walk n next
step_is pass walk n next e =
    let inside = limit_cases (nat_lt walk.own own_limit) (with_node pass walk n) next e in
    let one = some_of (node_form pass walk n) (λ form. node_weights pass walk n >>= λ w. node_ranges walk.ranges walk.own w n >>= λ ranges. Some (walk_with walk form w ranges (own_after walk.own n))) next inside in
    let two = some_of (node_weights pass walk n) (λ w. node_ranges walk.ranges walk.own w n >>= λ ranges. Some (walk_with walk one.0 w ranges (own_after walk.own n))) next one.2 in
    let three = some_of (node_ranges walk.ranges walk.own two.0 n) (λ ranges. Some (walk_with walk one.0 two.0 ranges (own_after walk.own n))) next two.2 in
    let last : Some (walk_with walk one.0 two.0 three.0 (own_after walk.own n)) ≡ Some next = three.2 in
    record { form = one.0; weights = two.0; ranges = three.0; form_is = one.1; weights_are = two.1; ranges_are = three.1; same = cc }

pub weights_long : (pass : Pass) (walk next : Walk) (n : Signal) → IsStep pass walk n next → length next.weights ≡ suc (length walk.weights)
weights_long pass walk next n s = let e = ap (λ (w : Walk). length w.weights) s.same in let g = length_push walk.weights s.weights in omega (arith, e, g)

-- the walk, where there is one
abbrev pub walk_or : Walk → Option Walk → Walk
walk_or other None = other
walk_or other (Some walk) = walk

pub walk_or_is : (other : Walk) (o : Option Walk) (walk : Walk) → o ≡ Some walk → o ≡ Some (walk_or other o)
walk_or_is other None walk e = absurd cc
walk_or_is other (Some w) walk e = refl

-- ---- forms that are known
pub record IsForm (forms : List (List ℤ)) (i : ℕ) (form : List ℤ) : Type 0 where
  pub inside : i < length forms
  pub same : form ≡ form_of forms i

form_cases : (b : Bool) (forms : List (List ℤ)) (i : ℕ) (form : List ℤ) → nat_lt i (length forms) ≡ b → (if b then Some (form_of forms i) else None) ≡ Some form → IsForm forms i form
form_cases true forms i form p e = record { inside = ltb-true i (length forms) p; same = cc }
form_cases false forms i form p e = absurd cc

pub form_is : (forms : List (List ℤ)) (i : ℕ) (form : List ℤ) → form_at forms i ≡ Some form → IsForm forms i form
form_is forms i form e = form_cases (nat_lt i (length forms)) forms i form refl e

-- coefficient by coefficient
pub sums_at : (left right h : List ℤ) → sums left right ≡ Some h → (j : ℕ) → at h j ≡ at left j +ℤ at right j
sums_at left right h e =
    let count = longer (length left) (length right) in
    let p = longer_left (length left) (length right) in
    let q = longer_right (length left) (length right) in
    entry_at count (λ j. at left j +ℤ at right j) h (entries_are count (λ j. at left j +ℤ at right j) h e) (λ j r. rw (past left count j p r, past right count j q r) refl)

pub differences_at : (left right h : List ℤ) → differences left right ≡ Some h → (j : ℕ) → at h j ≡ at left j -ℤ at right j
differences_at left right h e =
    let count = longer (length left) (length right) in
    let p = longer_left (length left) (length right) in
    let q = longer_right (length left) (length right) in
    entry_at count (λ j. at left j -ℤ at right j) h (entries_are count (λ j. at left j -ℤ at right j) h e) (λ j r. rw (past left count j p r, past right count j q r) refl)

pub products_at : (c : ℤ) (form h : List ℤ) → products c form ≡ Some h → (j : ℕ) → at h j ≡ c *ℤ at form j
products_at c form h e =
    entry_at (length form) (λ j. c *ℤ at form j) h (entries_are (length form) (λ j. c *ℤ at form j) h e) (λ j r. ap (λ t. c *ℤ t) (past form (length form) j (omega arith) r) ∙ times_none c)

-- ---- forms of a value in each sample, and what they mean
abbrev pub coefficients : (ℕ → List (List ℤ)) → ℕ → ℕ → ℕ → ℤ
coefficients forms i a j = at (form_of (forms a) i) j

-- over the symbols of the samples up to this one, the newest first, which are these over k, a value
-- with these coefficients is v
abbrev pub Means : ℕ → ℕ → ℤ → (ℕ → ℕ → ℤ) → (ℕ → ℕ → ℤ) → ℤ → Type 0
Means m t k us c v = pos scale *ℤ k *ℤ v ≡ mass m (suc t) c us

pub means_same : (m t : ℕ) (k : ℤ) (us c d : ℕ → ℕ → ℤ) (v : ℤ) → ((a j : ℕ) → a < suc t → j < m → d a j ≡ c a j) → Means m t k us c v → Means m t k us d v
means_same m t k us c d v h e = e ∙ sym (mass_same m (suc t) d c us h)

add_grouped : (c v w : ℤ) → c *ℤ (v +ℤ w) ≡ c *ℤ v +ℤ c *ℤ w
add_grouped c v w = ring (env (c ∷ v ∷ w ∷ [])) (times (var 0) (plus (var 1) (var 2))) (plus (times (var 0) (var 1)) (times (var 0) (var 2))) refl

pub means_add : (m t : ℕ) (k : ℤ) (us c d h : ℕ → ℕ → ℤ) (v w : ℤ) → ((a j : ℕ) → a < suc t → j < m → h a j ≡ c a j +ℤ d a j) → Means m t k us c v → Means m t k us d w → Means m t k us h (v +ℤ w)
means_add m t k us c d h v w e p q = means_same m t k us (λ a j. c a j +ℤ d a j) h (v +ℤ w) e (add_grouped (pos scale *ℤ k) v w ∙ rw (p, q) (sym (mass_add m (suc t) c d us)))

sub_spread : (x y : ℤ) → x -ℤ y ≡ x +ℤ negsuc 0 *ℤ y
sub_spread x y = omega (arith, ints)

pub means_times : (m t : ℕ) (k : ℤ) (us : ℕ → ℕ → ℤ) (x : ℤ) (c h : ℕ → ℕ → ℤ) (v : ℤ) → ((a j : ℕ) → a < suc t → j < m → h a j ≡ x *ℤ c a j) → Means m t k us c v → Means m t k us h (x *ℤ v)
means_times m t k us x c h v e p = means_same m t k us (λ a j. x *ℤ c a j) h (x *ℤ v) e (turned x (pos scale *ℤ k) v ∙ ap (λ y. x *ℤ y) p ∙ sym (mass_scale m (suc t) x c us))

pub means_sub : (m t : ℕ) (k : ℤ) (us c d h : ℕ → ℕ → ℤ) (v w : ℤ) → ((a j : ℕ) → a < suc t → j < m → h a j ≡ c a j -ℤ d a j) → Means m t k us c v → Means m t k us d w → Means m t k us h (v -ℤ w)
means_sub m t k us c d h v w e p q =
    rw (sub_spread v w) (means_add m t k us c (λ a j. negsuc 0 *ℤ d a j) h v (negsuc 0 *ℤ w) (λ a j l r. e a j l r ∙ sub_spread (c a j) (d a j)) p
    (means_times m t k us (negsuc 0) d (λ a j. negsuc 0 *ℤ d a j) w (λ a j l r. refl) q))

-- a symbol more, of which it has none
pub means_grown : (m t own : ℕ) (k s u : ℤ) (us c : ℕ → ℕ → ℤ) (v : ℤ) → c 0 own ≡ pos 0 → Means m t k us c v → Means m t (k *ℤ s) (placed s own us u) c v
means_grown m t own k s u us c v z e = stretched (pos scale) k s v ∙ ap (λ y. s *ℤ y) e ∙ sym (placed_before m (suc t) own s u c us z)
