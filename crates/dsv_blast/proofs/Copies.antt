-- A product by a constant as a sum of shifted copies.
use Rattle.std.proofs.Common.{◌≡◌, ℕ, zero, suc, ◌+◌, ◌*◌, ◌/◌, ◌%◌, ◌^◌, ◌<◌, ◌≤◌, Bool, true, false, List, [], ◌∷◌, ◌++◌, refl, arith, ap, sym, ◌∙◌, length, drop, replicate, length-append, length-drop}
use Rattle.std.specs.Prelude.{◌==◌}
use Rattle.std.proofs.Math.Nat.{div-add-mod, mod-eq_of_lt, add-mul-mod_self_right}
use Rattle.std.proofs.Math.Seq.{drop-append_seam}
use Rattle.std.proofs.lemmas.Nat.{div-add-mod'}
use Rattle.std.proofs.lemmas.List.{length-map, length-replicate, take-map, length-take-le}
use Rattle.std.proofs.lemmas.List.Elements.{All-take, All-drop}
use Rattle.dsv_cnf.specs.Literal.{Literal, literal_value}
use Rattle.dsv_cnf.specs.Formula.{IsOver}
use Rattle.dsv_blast.specs.CircuitView.{CircuitView}
use Rattle.dsv_blast.specs.Gates.{zero_of}
use Rattle.dsv_blast.specs.Words.{bits_value, bit, number_of, added_if, sum_built, after_zeros, shifted_copy, multiple_from, multiple_built}
use Rattle.dsv_blast.proofs.Growth.{over-more, IsCircuit, grows-same, grows-both, value-zero}
use Rattle.dsv_blast.proofs.Bits.{add_bits, bit-odd, two_pow, number-sum, number-take, number-zeros, number-small}
use Rattle.dsv_blast.proofs.WordValues.{GivesNumber, add-gives, bits-replicate, over-append, over-replicate}

over_none : (n : ℕ) → IsOver n []
over_none n = λ k d p. absurd (omega arith)

pub length-bits : (v : ℕ → Bool) (ls : List Literal) → length (bits_value v ls) ≡ length ls
length-bits v ls = length-map ls (literal_value v)

pub bits-small : (v : ℕ → Bool) (ls : List Literal) → number_of (bits_value v ls) < 2 ^ length ls
bits-small v ls = let e = length-bits v ls in rw e at (number-small (bits_value v ls))

pub sum-gives : (c : CircuitView) (la lb : List Literal) → length lb ≡ length la → IsCircuit c → IsOver c.formula.vars la → IsOver c.formula.vars lb
    → GivesNumber c (sum_built c la lb) (length la) (λ v. (number_of (bits_value v la) + number_of (bits_value v lb)) % 2 ^ length la)
sum-gives c la lb e s p q =
    let g = add-gives la lb (zero_of c) c [] e s s.stands p q (over_none c.formula.vars) in
    record {
      grows = g.grows;
      over = g.over;
      wide = g.wide ∙ omega arith;
      says = λ v h.
          let zero_bit = value-zero c v (s.fixed v (g.grows.less v h)) in
          let same : length (bits_value v lb) ≡ length (bits_value v la) = omega (arith, length-bits v la, length-bits v lb) in
          ap number_of (g.says v h) ∙ (ap (λ k. number_of (add_bits (bits_value v la) (bits_value v lb) k)) zero_bit ∙ (number-sum (bits_value v la) (bits_value v lb) same
          ∙ ap (λ n. (number_of (bits_value v la) + number_of (bits_value v lb)) % 2 ^ n) (length-bits v la)));
    }

added_if-gives : (t : Bool) (copy : List Literal) (c : CircuitView) (sum : List Literal) → length copy ≡ length sum → IsCircuit c → IsOver c.formula.vars copy → IsOver c.formula.vars sum
    → GivesNumber c (added_if t copy c sum) (length sum) (λ v. (number_of (bits_value v sum) + bit t * number_of (bits_value v copy)) % 2 ^ length sum)
added_if-gives true copy c sum e s p q =
    let g = sum-gives c sum copy e s q p in
    record { grows = g.grows; over = g.over; wide = g.wide; says = λ v h. g.says v h ∙ ap (λ n. (number_of (bits_value v sum) + n) % 2 ^ length sum) (omega arith) }
added_if-gives false copy c sum e s p q =
    record {
      grows = grows-same c s;
      over = q;
      wide = refl;
      says = λ v h.
          let z : number_of (bits_value v sum) + 0 * number_of (bits_value v copy) ≡ number_of (bits_value v sum) = omega arith in
          rw z (sym (mod-eq_of_lt (bits-small v sum)));
    }

-- one copy added, and then the rest
one_more : (s b v n w : ℕ) → b + 2 * n ≡ b + 2 * n → ((s + b * (v % w)) % w + n * (2 * v)) % w ≡ (s + (b + 2 * n) * v) % w
one_more s b v n w _ =
    let d = div-add-mod' v w in
    let x = s + b * (v % w) in
    let f = div-add-mod' x w in
    let e : s + (b + 2 * n) * v ≡ (x % w + n * (2 * v)) + (x / w + b * (v / w)) * w = put s b v n w (v / w) (v % w) (x / w) (x % w) d f in
    sym (ap (λ t. t % w) e ∙ add-mul-mod_self_right (x % w + n * (2 * v)) (x / w + b * (v / w)) w)
  where
    put : (s b v n w q r t u : ℕ) → q * w + r ≡ v → t * w + u ≡ s + b * r → s + (b + 2 * n) * v ≡ (u + n * (2 * v)) + (t + b * q) * w
    put s b v n w q r t u e f = let g : b * v ≡ b * q * w + b * r = rw (← e) (omega arith) in omega arith

-- the bits from a place on are twice those from the next place on, below this place
pub record AreShifted (place : ℕ) (ls : List Literal) (one : Literal) : Type 0 where
  pub twice : (p : ℕ) → p < place → (v : ℕ → Bool) → literal_value v one ≡ true → number_of (bits_value v (drop p ls)) ≡ 2 * number_of (bits_value v (drop (suc p) ls))

copy-number : (v : ℕ → Bool) (w p : ℕ) (ls : List Literal) → p + w ≤ length ls → number_of (bits_value v (shifted_copy w p ls)) ≡ number_of (bits_value v (drop p ls)) % 2 ^ w
copy-number v w p ls h =
    let l : w ≤ length (bits_value v (drop p ls)) = omega (arith, length-bits v (drop p ls), length-drop p ls) in
    ap number_of (sym (take-map (literal_value v) w (drop p ls))) ∙ number-take (bits_value v (drop p ls)) w l

pub multiple_from-gives : (w place n : ℕ) (ls : List Literal) (c : CircuitView) (sum : List Literal) → length sum ≡ w → place + w ≤ length ls → n < 2 ^ place
    → AreShifted place ls c.one → IsCircuit c → IsOver c.formula.vars ls → IsOver c.formula.vars sum
    → GivesNumber c (multiple_from w place n ls c sum) w (λ v. (number_of (bits_value v sum) + n * number_of (bits_value v (drop place ls))) % 2 ^ w)
multiple_from-gives w zero n ls c sum e l b t s p q =
    let z : n ≡ 0 = omega arith in
    record {
      grows = grows-same c s;
      over = q;
      wide = e;
      says = λ v h.
          let small : number_of (bits_value v sum) < 2 ^ w = rw e at (bits-small v sum) in
          let same : number_of (bits_value v sum) + n * number_of (bits_value v ls) ≡ number_of (bits_value v sum) = rw z (omega arith) in
          rw same (sym (mod-eq_of_lt small));
    }
multiple_from-gives w (suc place) n ls c sum e l b t s p q =
    let copy = shifted_copy w (suc place) ls in
    let P : Literal → Type 0 = λ m. m.var < c.formula.vars in
    let wide : length copy ≡ length sum = omega (arith, length-take-le w (drop (suc place) ls), length-drop (suc place) ls) in
    let g = added_if-gives (n % 2 == 1) copy c sum wide s (All-take P w (drop (suc place) ls) (All-drop P (suc place) ls p)) q in
    let next = added_if (n % 2 == 1) copy c sum in
    let d = next.circuit in
    let half : n / 2 < 2 ^ place = omega (arith, two_pow place, div-add-mod n 2) in
    let shifted : AreShifted place ls d.one = record { twice = λ i k v o. t.twice i (omega arith) v (ap (literal_value v) (sym g.grows.constant) ∙ o) } in
    let ih = multiple_from-gives w place (n / 2) ls d next.bits (g.wide ∙ e) (omega arith) half shifted g.grows.sound (over-more c.formula.vars d.formula.vars ls g.grows.longer p) g.over in
    record {
      grows = grows-both c d (multiple_from w place (n / 2) ls d next.bits).circuit g.grows ih.grows;
      over = ih.over;
      wide = ih.wide;
      says = λ v h.
          let k = ih.grows.less v h in
          let o = s.fixed v (g.grows.less v k) in
          let here = number_of (bits_value v (drop (suc place) ls)) in
          let all = number_of (bits_value v sum) in
          let two : number_of (bits_value v (drop place ls)) ≡ 2 * here = t.twice place (omega arith) v o in
          let added : number_of (bits_value v next.bits) ≡ (all + n % 2 * (here % 2 ^ w)) % 2 ^ w =
          g.says v k ∙ rw (e, bit-odd n, copy-number v w (suc place) ls (omega arith)) refl in
          let whole : n % 2 + 2 * (n / 2) ≡ n = omega (arith, div-add-mod n 2) in
          ih.says v h ∙ rw (added, two) (one_more all (n % 2) here (n / 2) (2 ^ w) refl ∙ ap (λ m. (all + m * here) % 2 ^ w) whole);
    }

-- ---- all copies

drop-zeros : (w p : ℕ) (z : Literal) (ls : List Literal) → p < w → drop p (replicate w z ++ ls) ≡ z ∷ drop (suc p) (replicate w z ++ ls)
drop-zeros zero p z ls h = absurd (omega arith)
drop-zeros (suc w) zero z ls h = refl
drop-zeros (suc w) (suc p) z ls h = drop-zeros w p z ls (omega arith)

after_zeros-shifted : (c : CircuitView) (ls : List Literal) → AreShifted (length ls) (after_zeros (zero_of c) ls) c.one
after_zeros-shifted c ls = record {
  twice = λ p h v o.
      let e = drop-zeros (length ls) p (zero_of c) ls h in
      ap (λ ms. number_of (bits_value v ms)) e ∙ rw (value-zero c v o) (omega arith);
}

drop-all : (ls : List Literal) (z : Literal) → drop (length ls) (after_zeros z ls) ≡ ls
drop-all ls z = ap (λ n. drop n (after_zeros z ls)) (sym (length-replicate (length ls) z)) ∙ drop-append_seam (replicate (length ls) z) ls

pub multiple-gives : (c : CircuitView) (n : ℕ) (ls : List Literal) → n < 2 ^ length ls → IsCircuit c → IsOver c.formula.vars ls
    → GivesNumber c (multiple_built c n ls) (length ls) (λ v. (n * number_of (bits_value v ls)) % 2 ^ length ls)
multiple-gives c n ls b s p =
    let w = length ls in
    let z = zero_of c in
    let longer = after_zeros z ls in
    let zeros = replicate w z in
    let enough : w + w ≤ length longer = omega (arith, length-append (replicate w z) ls, length-replicate w z) in
    let g = multiple_from-gives w w n longer c zeros (length-replicate w z) enough b (after_zeros-shifted c ls) s (over-append c.formula.vars zeros ls (over-replicate c.formula.vars w z s.stands) p) (over-replicate c.formula.vars w z s.stands) in
    record {
      grows = g.grows;
      over = g.over;
      wide = g.wide;
      says = λ v h.
          let o = value-zero c v (s.fixed v (g.grows.less v h)) in
          let none : number_of (bits_value v zeros) ≡ 0 = ap number_of (bits-replicate v w z ∙ ap (replicate w) o) ∙ number-zeros w in
          g.says v h ∙ rw (none, drop-all ls z) (ap (λ m. m % 2 ^ w) (omega arith));
    }
