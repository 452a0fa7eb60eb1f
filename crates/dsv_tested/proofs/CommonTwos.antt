-- Lists whose common powers of two are taken out.
use Rattle.std.proofs.Common.{◌≡◌, ◌≢◌, ℕ, zero, suc, ◌*◌, ◌^◌, ◌<◌, ◌≤◌, ◌&&◌, Bool, true, false, List, [], ◌∷◌, map, refl, sym, ap, ◌∙◌, arith}
use Rattle.std.proofs.Math.IntN.{ℤ, pos, negsuc, ◌*ℤ◌}
use Rattle.std.proofs.Math.Nat.{pow-suc}
use Rattle.std.proofs.lemmas.Bool.{and_parts}
use Rattle.std.specs.Int.RustNames.{unsigned_abs}
use Rattle.std.specs.List.{Any}
use Rattle.dsv_algebra.proofs.Normaliser.{ring, env, var, num, times}
use Rattle.dsv_algebra.proofs.Ring.{assoc}
use Rattle.dsv_tested.specs.Lead.{lead_size}
use Rattle.dsv_tested.specs.Reduced.{IsOdd, IsReduced}
use Rattle.dsv_tested.specs.Tested.{are_even, halved_within, without_common_twos}
use Rattle.dsv_tested.proofs.Evens.{is_even, half, even_twice, half_size, odd_is}

-- one turn of the halving
pub halved_turn : (n : ℕ) (cs : List ℤ) → are_even cs ≡ true → halved_within (suc n) cs ≡ halved_within n (map half cs)
halved_turn n cs e = rw e refl

pub halved_end : (n : ℕ) (cs : List ℤ) → are_even cs ≡ false → halved_within n cs ≡ cs
halved_end zero cs e = refl
halved_end (suc n) cs e = rw e refl

-- ---- enough turns
lead_even : (c : ℤ) (cs : List ℤ) → are_even (c ∷ cs) ≡ true → unsigned_abs c ≡ 2 * unsigned_abs (half c)
lead_even c cs e = half_size c (and_parts (is_even c) (are_even cs) e).0

enough_case : (b : Bool) (n m : ℕ) (c : ℤ) (cs : List ℤ) → are_even (c ∷ cs) ≡ b
    → (are_even (c ∷ cs) ≡ true → halved_within n (map half (c ∷ cs)) ≡ halved_within m (map half (c ∷ cs)))
    → halved_within (suc n) (c ∷ cs) ≡ halved_within (suc m) (c ∷ cs)
enough_case true n m c cs e h = halved_turn n (c ∷ cs) e ∙ h e ∙ sym (halved_turn m (c ∷ cs) e)
enough_case false n m c cs e h = halved_end (suc n) (c ∷ cs) e ∙ sym (halved_end (suc m) (c ∷ cs) e)

-- the result is the same for every number of turns from the size of the first number on
enough : (n m : ℕ) (c : ℤ) (cs : List ℤ) → 0 < unsigned_abs c → unsigned_abs c ≤ n → unsigned_abs c ≤ m → halved_within n (c ∷ cs) ≡ halved_within m (c ∷ cs)
enough zero m c cs h i j = absurd (omega arith)
enough (suc n) zero c cs h i j = absurd (omega arith)
enough (suc n) (suc m) c cs h i j =
    enough_case (are_even (c ∷ cs)) n m c cs refl
    (λ e. let s = lead_even c cs e in enough n m (half c) (map half cs) (omega arith) (omega arith) (omega arith))

fewer_turns : (n : ℕ) (c : ℤ) (cs : List ℤ) → unsigned_abs c ≡ n → 0 < n → are_even (c ∷ cs) ≡ true
    → halved_within (unsigned_abs (half c)) (map half (c ∷ cs)) ≡ halved_within n (c ∷ cs)
fewer_turns zero c cs is h e = absurd (omega arith)
fewer_turns (suc n) c cs is h e =
    let s = lead_even c cs e in
    enough (unsigned_abs (half c)) n (half c) (map half cs) (omega arith) (omega arith) (omega arith) ∙ sym (halved_turn n (c ∷ cs) e)

-- the halves of even numbers have the same powers of two taken out
pub halves_same : (cs : List ℤ) → 0 < lead_size cs → are_even cs ≡ true → without_common_twos (map half cs) ≡ without_common_twos cs
halves_same [] h e = absurd (omega arith)
halves_same (c ∷ cs) h e = fewer_turns (unsigned_abs c) c cs refl h e

pub halves_lead : (cs : List ℤ) → are_even cs ≡ true → lead_size cs ≡ 2 * lead_size (map half cs)
halves_lead [] e = refl
halves_lead (c ∷ cs) e = lead_even c cs e

pub odd_same : (cs : List ℤ) → are_even cs ≡ false → without_common_twos cs ≡ cs
odd_same [] e = refl
odd_same (c ∷ cs) e = halved_end (unsigned_abs c) (c ∷ cs) e

-- ---- what is taken out
abbrev multiples : ℕ → List ℤ → List ℤ
multiples p = map (λ y. pos (2 ^ p) *ℤ y)

one_times : (ys : List ℤ) → ys ≡ multiples 0 ys
one_times [] = refl
one_times (y ∷ ys) =
    let first : pos (2 ^ 0) *ℤ y ≡ y = ring (env (y ∷ [])) (times (num (pos 1)) (var 0)) (var 0) refl in
    let others = one_times ys in cc

double_first : (p : ℕ) (y : ℤ) → pos (2 ^ suc p) *ℤ y ≡ pos 2 *ℤ (pos (2 ^ p) *ℤ y)
double_first p y =
    let power : 2 ^ suc p ≡ 2 * 2 ^ p = let e = pow-suc 2 p in omega arith in
    ap (λ n. pos n *ℤ y) power ∙ assoc (pos 2) (pos (2 ^ p)) y

doubles_first : (p : ℕ) (ys : List ℤ) → multiples (suc p) ys ≡ map (λ y. pos 2 *ℤ y) (multiples p ys)
doubles_first p [] = refl
doubles_first p (y ∷ ys) = rw (double_first p y, doubles_first p ys) refl

twice_halves : (cs : List ℤ) → are_even cs ≡ true → cs ≡ map (λ y. pos 2 *ℤ y) (map half cs)
twice_halves [] e = refl
twice_halves (c ∷ cs) e =
    let parts = and_parts (is_even c) (are_even cs) e in
    let first = even_twice c parts.0 in
    let others = twice_halves cs parts.1 in cc

some_odd_case : (b : Bool) (c : ℤ) (cs : List ℤ) → is_even c ≡ b → (b && are_even cs) ≡ false → (are_even cs ≡ false → Any IsOdd cs) → Any IsOdd (c ∷ cs)
some_odd_case true c cs f e h = let a = h e in (suc a.0, a.1, omega (arith, a.2), a.3, a.4)
some_odd_case false c cs f e h = (0, c, omega arith, refl, odd_is c f)

some_odd : (cs : List ℤ) → are_even cs ≡ false → Any IsOdd cs
some_odd [] e = absurd cc
some_odd (c ∷ cs) e = some_odd_case (is_even c) c cs refl e (some_odd cs)

reduced_case : (b : Bool) (n : ℕ) (c : ℤ) (cs : List ℤ) → are_even (c ∷ cs) ≡ b
    → (are_even (c ∷ cs) ≡ true → IsReduced (map half (c ∷ cs)) (halved_within n (map half (c ∷ cs))))
    → IsReduced (c ∷ cs) (halved_within (suc n) (c ∷ cs))
reduced_case true n c cs e h =
    let ys = halved_within n (map half (c ∷ cs)) in
    let r = h e in
    rw (halved_turn n (c ∷ cs) e) (record {
      power = suc r.power;
      same = twice_halves (c ∷ cs) e ∙ ap (map (λ y. pos 2 *ℤ y)) r.same ∙ sym (doubles_first r.power ys);
      odd = r.odd;
    })
reduced_case false n c cs e h =
    rw (halved_end (suc n) (c ∷ cs) e) (record { power = 0; same = one_times (c ∷ cs); odd = some_odd (c ∷ cs) e })

reduced_within : (n : ℕ) (c : ℤ) (cs : List ℤ) → 0 < unsigned_abs c → unsigned_abs c ≤ n → IsReduced (c ∷ cs) (halved_within n (c ∷ cs))
reduced_within zero c cs h i = absurd (omega arith)
reduced_within (suc n) c cs h i =
    reduced_case (are_even (c ∷ cs)) n c cs refl
    (λ e. let s = lead_even c cs e in reduced_within n (half c) (map half cs) (omega arith) (omega arith))

not_zero_size : (c : ℤ) → c ≢ pos 0 → 0 < unsigned_abs c
not_zero_size (pos zero) h = absurd (h refl)
not_zero_size (pos (suc n)) h = omega arith
not_zero_size (negsuc n) h = omega arith

-- a list whose first number isn't 0 is a power of two times what is left of it, of which a number
-- is odd
pub common_twos_reduced : (c : ℤ) (cs : List ℤ) → c ≢ pos 0 → IsReduced (c ∷ cs) (without_common_twos (c ∷ cs))
common_twos_reduced c cs h = reduced_within (unsigned_abs c) c cs (not_zero_size c h) (omega arith)
