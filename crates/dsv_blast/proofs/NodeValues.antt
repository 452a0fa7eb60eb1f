-- What each node's bits spell.
use Rattle.std.proofs.Common.{◌≡◌, ℕ, zero, suc, ◌+◌, ◌-◌, ◌*◌, ◌/◌, ◌%◌, ◌^◌, ◌<◌, ◌≤◌, Bool, true, false, not, ◌&&◌, ◌||◌, cond, List, [], ◌∷◌, ◌++◌, refl, arith, ap, sym, subst, ◌∙◌, length, map, take, drop, replicate, get_or, length-append, length-drop, bit_and, bit_or, ℤ, pos, neg_ℤ, ◌-ℤ◌, ◌*ℤ◌}
use Rattle.std.specs.Prelude.{◌==◌, nat_lt, int_lt, int_le, slice_index, slice_range, slice_index_or, All}
use Rattle.std.proofs.Math.Nat.{mod-eq_of_lt}
use Rattle.std.proofs.lemmas.List.{length-map, length-replicate, drop-map, take-map, length-take-le, get_or-map}
use Rattle.std.proofs.lemmas.List.Elements.{All-take, All-drop, All-nil, All-cons}
use Rattle.dsv_cnf.specs.Literal.{Literal, negation, literal_value}
use Rattle.dsv_cnf.specs.Formula.{Satisfies, IsOver, AreOver}
use Rattle.dsv_term.specs.declared.node.TermId.{TermId}
use Rattle.dsv_term.specs.declared.node.TermNode.{TermNode}
use Rattle.dsv_term.specs.declared.node.TermNode.TheVariants.{Input, Constant, Add, Sub, Slt, Sle, Ult, Eq, And, Or, Concat, Neg, Not, MulConst, Sext, Extract, Ite}
use Rattle.dsv_term.specs.declared.word.Word.{Word}
use Rattle.dsv_term.specs.Word.{IsWidth, residue, signed_of}
use Rattle.dsv_term.specs.TermNode.{node_word, node_width, IsLawful, AreAlike}
use Rattle.dsv_term.proofs.Words.{residue_fits}
use Rattle.dsv_blast.specs.CircuitView.{CircuitView, Wired, Built}
use Rattle.dsv_blast.specs.Gates.{zero_of, negated, and_wired, or_wired}
use Rattle.dsv_blast.specs.Words.{bits_value, bit, number_of, built, built_bit, zip_from, constant_bits, negations, sign_turned, sign_of, extended, same_from, difference_built, at_least_wired, multiple_built, choice_from}
use Rattle.dsv_blast.specs.Blast.{bits_at, bits_word, node_built, input_values}
use Rattle.dsv_blast.proofs.Growth.{IsCircuit, Grows, grows-same, GivesBit, value-zero}
use Rattle.dsv_blast.proofs.GateValues.{and-gives, or-gives, negated-gives}
use Rattle.dsv_blast.proofs.Bits.{add_bits, carry_bits, carry-less, same-number, choice-bits, number-and, number-or, number-not, number-append, number-take, number-drop, number-zeros}
use Rattle.dsv_blast.proofs.Signs.{number-subtract, number-negate, number-extended, IsTurned, number-turned, less-turned, at_most-turned, residue_product}
use Rattle.dsv_blast.proofs.WordValues.{GivesNumber, zip-gives, choice_from-gives, add-gives, carry-gives, same-gives, number-constant, length-constant, bits-append, bits-negations, bits-replicate, over-append, over-replicate, over-negations, over-constant}
use Rattle.dsv_blast.proofs.Copies.{length-bits, sum-gives, multiple-gives}

-- Literals over a circuit that spell this word.
pub record GivesWord (c : CircuitView) (r : Built) (w : ℕ) (word : (ℕ → Bool) → Word) : Type 0 where
  pub grows : Grows c r.circuit
  pub over : IsOver r.circuit.formula.vars r.bits
  pub wide : length r.bits ≡ w
  pub says : (v : ℕ → Bool) → Satisfies v r.circuit.formula.clauses → bits_word v r.bits ≡ word v

word-is : (w m n k : ℕ) → w ≡ m → n ≡ k → let a : Word = record { width = w; number = n } in let b : Word = record { width = m; number = k } in a ≡ b
word-is w m n k e f = rw (e, f)

as_word : (c : CircuitView) (r : Built) (w k : ℕ) (number : (ℕ → Bool) → ℕ) (word : (ℕ → Bool) → Word) → GivesNumber c r w number → w ≡ k → ((v : ℕ → Bool) → word v ≡ record { width = w; number = number v }) → GivesWord c r k word
as_word c r w k number word g e f = record {
  grows = g.grows;
  over = g.over;
  wide = g.wide ∙ e;
  says = λ v h. word-is (length r.bits) w (number_of (bits_value v r.bits)) (number v) g.wide (g.says v h) ∙ sym (f v);
}

-- bits that need no gate
no_gates : (c : CircuitView) (ls : List Literal) (w : ℕ) (number : (ℕ → Bool) → ℕ) → IsCircuit c → IsOver c.formula.vars ls → length ls ≡ w → ((v : ℕ → Bool) → literal_value v c.one ≡ true → number_of (bits_value v ls) ≡ number v) → GivesNumber c (built c ls) w number
no_gates c ls w number s o e f = record { grows = grows-same c s; over = o; wide = e; says = λ v h. f v (s.fixed v h) }

over_one : (n : ℕ) (l : Literal) → l.var < n → IsOver n (l ∷ [])
over_one n l h = All-cons (λ (q : Literal). q.var < n) l [] h (All-nil (λ (q : Literal). q.var < n))

number_one : (b : Bool) → bit b + 2 * 0 ≡ cond b 1 0
number_one true = refl
number_one false = refl

-- one bit
one_bit : (c : CircuitView) (r : Wired) (value : (ℕ → Bool) → Bool) → GivesBit c r value → GivesNumber c (built_bit r) 1 (λ v. cond (value v) 1 0)
one_bit c r value g = record {
  grows = g.grows;
  over = over_one r.circuit.formula.vars r.bit g.over;
  wide = refl;
  says = λ v h. number_one (literal_value v r.bit) ∙ ap (λ b. cond b 1 0) (g.says v h);
}

-- ---- the kinds of nodes

none_over : (n : ℕ) → IsOver n []
none_over n = All-nil (λ (q : Literal). q.var < n)

same_length : (v : ℕ → Bool) (la lb : List Literal) → length lb ≡ length la → length (bits_value v lb) ≡ length (bits_value v la)
same_length v la lb e = omega (arith, length-bits v la, length-bits v lb)

difference-gives : (c : CircuitView) (la lb : List Literal) → length lb ≡ length la → IsCircuit c → IsOver c.formula.vars la → IsOver c.formula.vars lb
    → GivesNumber c (difference_built c la lb) (length la) (λ v. number_of (add_bits (bits_value v la) (map not (bits_value v lb)) true))
difference-gives c la lb e s p q =
    let g = add-gives la (negations lb) c.one c [] (length-map lb negation ∙ e) s s.stands p (over-negations c.formula.vars lb q) (none_over c.formula.vars) in
    record {
      grows = g.grows;
      over = g.over;
      wide = g.wide ∙ omega arith;
      says = λ v h.
          let one = s.fixed v (g.grows.less v h) in
          ap number_of (g.says v h) ∙ rw (one, bits-negations v lb) refl;
    }

sub-gives : (c : CircuitView) (la lb : List Literal) → length lb ≡ length la → IsCircuit c → IsOver c.formula.vars la → IsOver c.formula.vars lb
    → GivesNumber c (difference_built c la lb) (length la) (λ v. residue (length la) (pos (number_of (bits_value v la)) -ℤ pos (number_of (bits_value v lb))))
sub-gives c la lb e s p q =
    let g = difference-gives c la lb e s p q in
    record {
      grows = g.grows;
      over = g.over;
      wide = g.wide;
      says = λ v h. g.says v h ∙ (number-subtract (bits_value v la) (bits_value v lb) (same_length v la lb e)
          ∙ ap (λ w. residue w (pos (number_of (bits_value v la)) -ℤ pos (number_of (bits_value v lb)))) (length-bits v la));
    }

neg-gives : (c : CircuitView) (la : List Literal) → IsCircuit c → IsOver c.formula.vars la
    → GivesNumber c (difference_built c (replicate (length la) (zero_of c)) la) (length la) (λ v. residue (length la) (neg_ℤ (pos (number_of (bits_value v la)))))
neg-gives c la s p =
    let zeros = replicate (length la) (zero_of c) in
    let e : length zeros ≡ length la = length-replicate (length la) (zero_of c) in
    let g = difference-gives c zeros la (sym e) s (over-replicate c.formula.vars (length la) (zero_of c) s.stands) p in
    record {
      grows = g.grows;
      over = g.over;
      wide = g.wide ∙ e;
      says = λ v h.
          let zero_bit = value-zero c v (s.fixed v (g.grows.less v h)) in
          let none : number_of (bits_value v zeros) ≡ 0 = ap number_of (bits-replicate v (length la) (zero_of c) ∙ ap (replicate (length la)) zero_bit) ∙ number-zeros (length la) in
          g.says v h ∙ (number-negate (bits_value v zeros) (bits_value v la) (same_length v zeros la (sym e)) none
          ∙ ap (λ w. residue w (neg_ℤ (pos (number_of (bits_value v la))))) (length-bits v zeros ∙ e));
    }

at_least-gives : (c : CircuitView) (la lb : List Literal) → length lb ≡ length la → IsCircuit c → IsOver c.formula.vars la → IsOver c.formula.vars lb
    → GivesBit c (at_least_wired c la lb) (λ v. carry_bits (bits_value v la) (map not (bits_value v lb)) true)
at_least-gives c la lb e s p q =
    let g = carry-gives la (negations lb) c.one c (length-map lb negation ∙ e) s s.stands p (over-negations c.formula.vars lb q) in
    record { grows = g.grows; over = g.over; says = λ v h. let one = s.fixed v (g.grows.less v h) in g.says v h ∙ rw (one, bits-negations v lb) refl }

less-gives : (c : CircuitView) (la lb : List Literal) → length lb ≡ length la → IsCircuit c → IsOver c.formula.vars la → IsOver c.formula.vars lb
    → GivesNumber c (built_bit (negated (at_least_wired c la lb))) 1 (λ v. cond (nat_lt (number_of (bits_value v la)) (number_of (bits_value v lb))) 1 0)
less-gives c la lb e s p q =
    let g = one_bit c _ _ (negated-gives c (at_least_wired c la lb) _ (at_least-gives c la lb e s p q)) in
    record { grows = g.grows; over = g.over; wide = g.wide; says = λ v h. g.says v h ∙ ap (λ b. cond b 1 0) (carry-less (bits_value v la) (bits_value v lb) (same_length v la lb e)) }

not_twice : (b : Bool) → b ≡ not (not b)
not_twice true = refl
not_twice false = refl

not_less-gives : (c : CircuitView) (la lb : List Literal) → length lb ≡ length la → IsCircuit c → IsOver c.formula.vars la → IsOver c.formula.vars lb
    → GivesNumber c (built_bit (at_least_wired c la lb)) 1 (λ v. cond (not (nat_lt (number_of (bits_value v la)) (number_of (bits_value v lb)))) 1 0)
not_less-gives c la lb e s p q =
    let g = one_bit c _ _ (at_least-gives c la lb e s p q) in
    record { grows = g.grows; over = g.over; wide = g.wide; says = λ v h. g.says v h ∙ ap (λ b. cond b 1 0) (not_twice (carry_bits (bits_value v la) (map not (bits_value v lb)) true) ∙ ap not (carry-less (bits_value v la) (bits_value v lb) (same_length v la lb e))) }

-- ---- signs

bits-turned : (v : ℕ → Bool) (ls : List Literal) → bits_value v (sign_turned ls) ≡ take (length ls - 1) (bits_value v ls) ++ map not (drop (length ls - 1) (bits_value v ls))
bits-turned v ls =
    bits-append v (take (length ls - 1) ls) (negations (drop (length ls - 1) ls))
    ∙ rw (bits-negations v (drop (length ls - 1) ls), take-map (literal_value v) (length ls - 1) ls, drop-map (literal_value v) (length ls - 1) ls) refl

pub length-turned : (ls : List Literal) → length (sign_turned ls) ≡ length ls
length-turned ls = omega (arith, length-append (take (length ls - 1) ls) (negations (drop (length ls - 1) ls)), length-take-le (length ls - 1) ls, length-map (drop (length ls - 1) ls) negation, length-drop (length ls - 1) ls)

pub over-turned : (n : ℕ) (ls : List Literal) → IsOver n ls → IsOver n (sign_turned ls)
over-turned n ls h =
    let P : Literal → Type 0 = λ l. l.var < n in
    over-append n (take (length ls - 1) ls) (negations (drop (length ls - 1) ls)) (All-take P (length ls - 1) ls h) (over-negations n (drop (length ls - 1) ls) (All-drop P (length ls - 1) ls h))

turned : (v : ℕ → Bool) (ls : List Literal) → 1 ≤ length ls → IsTurned (length ls - 1) (number_of (bits_value v ls)) (number_of (bits_value v (sign_turned ls)))
turned v ls h = rw (bits-turned v ls) (number-turned (bits_value v ls) (length ls - 1) (omega (arith, length-bits v ls)))

turned_like : (v : ℕ → Bool) (la lb : List Literal) → length lb ≡ length la → 1 ≤ length la → IsTurned (length la - 1) (number_of (bits_value v lb)) (number_of (bits_value v (sign_turned lb)))
turned_like v la lb e h = ap_at (length lb - 1) (length la - 1) (omega arith) (turned v lb (omega arith))
  where
    ap_at : (m n : ℕ) → m ≡ n → IsTurned m (number_of (bits_value v lb)) (number_of (bits_value v (sign_turned lb))) → IsTurned n (number_of (bits_value v lb)) (number_of (bits_value v (sign_turned lb)))
    ap_at m n e t = subst (λ (k : ℕ). IsTurned k (number_of (bits_value v lb)) (number_of (bits_value v (sign_turned lb)))) e t

signed-is : (v : ℕ → Bool) (ls : List Literal) (w : ℕ) → length ls ≡ w → 1 ≤ w → signed_of (bits_word v ls) ≡ signed_of (record { width = w - 1 + 1; number = number_of (bits_value v ls) })
signed-is v ls w e h = let f : length ls ≡ w - 1 + 1 = omega arith in ap (λ k. signed_of (record { width = k; number = number_of (bits_value v ls) })) f

slt-gives : (c : CircuitView) (la lb : List Literal) → length lb ≡ length la → 1 ≤ length la → IsCircuit c → IsOver c.formula.vars la → IsOver c.formula.vars lb
    → GivesNumber c (built_bit (negated (at_least_wired c (sign_turned la) (sign_turned lb)))) 1 (λ v. cond (int_lt (signed_of (bits_word v la)) (signed_of (bits_word v lb))) 1 0)
slt-gives c la lb e m s p q =
    let g = less-gives c (sign_turned la) (sign_turned lb) (length-turned lb ∙ (e ∙ sym (length-turned la))) s (over-turned c.formula.vars la p) (over-turned c.formula.vars lb q) in
    record {
      grows = g.grows;
      over = g.over;
      wide = g.wide;
      says = λ v h. g.says v h ∙ ap (λ b. cond b 1 0) (sym (rw (signed-is v la (length la) refl m, signed-is v lb (length la) e m)
          (less-turned (length la - 1) (number_of (bits_value v la)) (number_of (bits_value v lb)) (number_of (bits_value v (sign_turned la))) (number_of (bits_value v (sign_turned lb))) (turned v la m) (turned_like v la lb e m))));
    }

sle-gives : (c : CircuitView) (la lb : List Literal) → length lb ≡ length la → 1 ≤ length la → IsCircuit c → IsOver c.formula.vars la → IsOver c.formula.vars lb
    → GivesNumber c (built_bit (at_least_wired c (sign_turned lb) (sign_turned la))) 1 (λ v. cond (int_le (signed_of (bits_word v la)) (signed_of (bits_word v lb))) 1 0)
sle-gives c la lb e m s p q =
    let g = not_less-gives c (sign_turned lb) (sign_turned la) (length-turned la ∙ (sym e ∙ sym (length-turned lb))) s (over-turned c.formula.vars lb q) (over-turned c.formula.vars la p) in
    record {
      grows = g.grows;
      over = g.over;
      wide = g.wide;
      says = λ v h. g.says v h ∙ ap (λ b. cond b 1 0) (sym (rw (signed-is v la (length la) refl m, signed-is v lb (length la) e m)
          (at_most-turned (length la - 1) (number_of (bits_value v la)) (number_of (bits_value v lb)) (number_of (bits_value v (sign_turned la))) (number_of (bits_value v (sign_turned lb))) (turned v la m) (turned_like v la lb e m))));
    }

eq-gives : (c : CircuitView) (la lb : List Literal) → length lb ≡ length la → IsCircuit c → IsOver c.formula.vars la → IsOver c.formula.vars lb
    → GivesNumber c (built_bit (same_from la lb c.one c)) 1 (λ v. cond (number_of (bits_value v la) == number_of (bits_value v lb)) 1 0)
eq-gives c la lb e s p q =
    let b = same-gives la lb c.one c e s s.stands p q in
    let g = one_bit c _ _ b in
    record {
      grows = g.grows;
      over = g.over;
      wide = g.wide;
      says = λ v h.
          let one = s.fixed v (g.grows.less v h) in
          g.says v h ∙ ap (λ t. cond t 1 0) (same-number (bits_value v la) (bits_value v lb) (literal_value v c.one) (same_length v la lb e) ∙ rw one refl);
    }

and_of-gives : (c : CircuitView) (la lb : List Literal) → length lb ≡ length la → IsCircuit c → IsOver c.formula.vars la → IsOver c.formula.vars lb
    → GivesNumber c (zip_from and_wired la lb c []) (length la) (λ v. bit_and (number_of (bits_value v la)) (number_of (bits_value v lb)))
and_of-gives c la lb e s p q =
    let g = zip-gives and_wired (λ x y. x && y) (λ d a b t x y. and-gives d a b t x y) la lb c [] e s p q (none_over c.formula.vars) in
    record { grows = g.grows; over = g.over; wide = g.wide ∙ omega arith; says = λ v h. ap number_of (g.says v h) ∙ number-and (bits_value v la) (bits_value v lb) (same_length v la lb e) }

or_of-gives : (c : CircuitView) (la lb : List Literal) → length lb ≡ length la → IsCircuit c → IsOver c.formula.vars la → IsOver c.formula.vars lb
    → GivesNumber c (zip_from or_wired la lb c []) (length la) (λ v. bit_or (number_of (bits_value v la)) (number_of (bits_value v lb)))
or_of-gives c la lb e s p q =
    let g = zip-gives or_wired (λ x y. x || y) (λ d a b t x y. or-gives d a b t x y) la lb c [] e s p q (none_over c.formula.vars) in
    record { grows = g.grows; over = g.over; wide = g.wide ∙ omega arith; says = λ v h. ap number_of (g.says v h) ∙ number-or (bits_value v la) (bits_value v lb) (same_length v la lb e) }

not-gives : (c : CircuitView) (la : List Literal) → IsCircuit c → IsOver c.formula.vars la
    → GivesNumber c (built c (negations la)) (length la) (λ v. 2 ^ length la - 1 - number_of (bits_value v la))
not-gives c la s p = no_gates c (negations la) (length la) _ s (over-negations c.formula.vars la p) (length-map la negation)
    (λ v o. ap number_of (bits-negations v la) ∙ (let n = number-not (bits_value v la) in let e : 2 ^ length (bits_value v la) ≡ 2 ^ length la = ap (λ k. 2 ^ k) (length-bits v la) in omega arith))

constant-gives : (c : CircuitView) (w n : ℕ) → n < 2 ^ w → IsCircuit c → GivesNumber c (built c (constant_bits c.one w n)) w (λ v. n)
constant-gives c w n h s = no_gates c (constant_bits c.one w n) w (λ v. n) s (over-constant c.formula.vars c.one w n s.stands) (length-constant c.one w n) (λ v o. number-constant v c.one w n o ∙ mod-eq_of_lt h)

concat-gives : (c : CircuitView) (la lb : List Literal) → IsCircuit c → IsOver c.formula.vars la → IsOver c.formula.vars lb
    → GivesNumber c (built c (lb ++ la)) (length la + length lb) (λ v. number_of (bits_value v la) * 2 ^ length lb + number_of (bits_value v lb))
concat-gives c la lb s p q = no_gates c (lb ++ la) (length la + length lb) _ s (over-append c.formula.vars lb la q p) (omega (arith, length-append lb la))
    (λ v o. ap number_of (bits-append v lb la) ∙ (number-append (bits_value v lb) (bits_value v la) ∙ rw (length-bits v lb) (omega arith)))

sext-gives : (c : CircuitView) (la : List Literal) (w : ℕ) → 1 ≤ length la → length la ≤ w → IsCircuit c → IsOver c.formula.vars la
    → GivesNumber c (built c (extended (zero_of c) w la)) w (λ v. residue w (signed_of (bits_word v la)))
sext-gives c la w m le s p =
    let n = length la - 1 in
    let top = sign_of (zero_of c) la in
    let inside : n < length la = omega arith in
    let stands : top.var < c.formula.vars = p n (zero_of c) inside in
    no_gates c (extended (zero_of c) w la) w _ s (over-append c.formula.vars la (replicate (w - length la) top) p (over-replicate c.formula.vars (w - length la) top stands))
    (omega (arith, length-append la (replicate (w - length la) top), length-replicate (w - length la) top))
    (λ v o.
    let l = length-bits v la in
    let sign : literal_value v top ≡ get_or (bits_value v la) n false = sym (get_or-map (literal_value v) la n (zero_of c) false inside) in
    ap number_of (bits-append v la (replicate (w - length la) top) ∙ ap (λ bs. bits_value v la ++ bs) (bits-replicate v (w - length la) top ∙ ap (replicate (w - length la)) sign))
    ∙ (ap (λ k. number_of (bits_value v la ++ replicate (w - k) (get_or (bits_value v la) n false))) (sym l)
    ∙ (number-extended (bits_value v la) n w false (omega arith) (omega arith) ∙ ap (residue w) (sym (signed-is v la (length la) refl m)))))

extract-gives : (c : CircuitView) (la : List Literal) (high low : ℕ) → low ≤ high → high < length la → IsCircuit c → IsOver c.formula.vars la
    → GivesNumber c (built c (slice_range la low (high + 1))) (high + 1 - low) (λ v. number_of (bits_value v la) / 2 ^ low % 2 ^ (high + 1 - low))
extract-gives c la high low le lt s p =
    let P : Literal → Type 0 = λ l. l.var < c.formula.vars in
    no_gates c (slice_range la low (high + 1)) (high + 1 - low) _ s (All-take P (high + 1 - low) (drop low la) (All-drop P low la p))
    (length-take-le (high + 1 - low) (drop low la) (omega (arith, length-drop low la)))
    (λ v o.
    let n = high + 1 - low in
    let l = length-bits v la in
    ap number_of (sym (take-map (literal_value v) n (drop low la)) ∙ ap (take n) (sym (drop-map (literal_value v) low la)))
    ∙ (number-take (drop low (bits_value v la)) n (omega (arith, length-drop low (bits_value v la)))
    ∙ ap (λ k. k % 2 ^ n) (number-drop (bits_value v la) low (omega arith))))

pub product-gives : (c : CircuitView) (la : List Literal) (coeff : ℤ) → IsCircuit c → IsOver c.formula.vars la
    → GivesNumber c (multiple_built c (residue (length la) coeff) la) (length la) (λ v. residue (length la) (coeff *ℤ pos (number_of (bits_value v la))))
product-gives c la coeff s p =
    let g = multiple-gives c (residue (length la) coeff) la (residue_fits (length la) coeff) s p in
    record { grows = g.grows; over = g.over; wide = g.wide; says = λ v h. g.says v h ∙ sym (residue_product (length la) coeff (number_of (bits_value v la))) }

-- a word of one bit
truth_of : (v : ℕ → Bool) (ls : List Literal) (l : Literal) → length ls ≡ 1 → (number_of (bits_value v ls) == 1) ≡ literal_value v (slice_index_or ls 0 l)
truth_of v [] l e = absurd (omega arith)
truth_of v (k ∷ []) l e = by (literal_value v k)
  where
    by : (b : Bool) → (bit b + 2 * 0 == 1) ≡ b
    by true = refl
    by false = refl
truth_of v (k ∷ m ∷ ls) l e = absurd (omega arith)

number-choice : (b : Bool) (xs ys : List Bool) → number_of (cond b xs ys) ≡ cond b (number_of xs) (number_of ys)
number-choice true xs ys = refl
number-choice false xs ys = refl

ite-gives : (c : CircuitView) (lk la lb : List Literal) → length lk ≡ 1 → length lb ≡ length la → IsCircuit c → IsOver c.formula.vars lk → IsOver c.formula.vars la → IsOver c.formula.vars lb
    → GivesNumber c (choice_from (slice_index_or lk 0 (zero_of c)) la lb c []) (length la) (λ v. cond (number_of (bits_value v lk) == 1) (number_of (bits_value v la)) (number_of (bits_value v lb)))
ite-gives c lk la lb one e s r p q =
    let k = slice_index_or lk 0 (zero_of c) in
    let g = choice_from-gives k la lb c [] e s (r 0 (zero_of c) (omega arith)) p q (none_over c.formula.vars) in
    record {
      grows = g.grows;
      over = g.over;
      wide = g.wide ∙ omega arith;
      says = λ v h. ap number_of (g.says v h ∙ choice-bits (literal_value v k) (bits_value v la) (bits_value v lb) (same_length v la lb e))
          ∙ (number-choice (literal_value v k) (bits_value v la) (bits_value v lb) ∙ ap (λ b. cond b (number_of (bits_value v la)) (number_of (bits_value v lb))) (sym (truth_of v lk (zero_of c) one)));
    }

choice_is : (b : Bool) (v : ℕ → Bool) (la lb : List Literal) → length lb ≡ length la → let w : Word = record { width = length la; number = cond b (number_of (bits_value v la)) (number_of (bits_value v lb)) } in cond b (bits_word v la) (bits_word v lb) ≡ w
choice_is true v la lb e = refl
choice_is false v la lb e = word-is (length lb) (length la) (number_of (bits_value v lb)) (number_of (bits_value v lb)) e refl

-- ---- all kinds

pub word-at : (v : ℕ → Bool) (bits : List (List Literal)) (i : ℕ) → get_or (map (bits_word v) bits) i (record { width = 0; number = 0 }) ≡ bits_word v (bits_at bits i)
word-at v [] i = refl
word-at v (b ∷ bs) zero = refl
word-at v (b ∷ bs) (suc i) = word-at v bs i

pub width-at : (bits : List (List Literal)) (i : ℕ) → slice_index (map length bits) i ≡ length (bits_at bits i)
width-at [] i = refl
width-at (b ∷ bs) zero = refl
width-at (b ∷ bs) (suc i) = width-at bs i

pub value-at : (v : ℕ → Bool) (places : List (List Literal)) (i : ℕ) → slice_index (input_values places v) i ≡ number_of (bits_value v (bits_at places i))
value-at v [] i = refl
value-at v (b ∷ bs) zero = refl
value-at v (b ∷ bs) (suc i) = value-at v bs i

pub over-at : (n : ℕ) (bits : List (List Literal)) (i : ℕ) → AreOver n bits → IsOver n (bits_at bits i)
over-at n [] i h = none_over n
over-at n (b ∷ bs) zero h = h.0
over-at n (b ∷ bs) (suc i) h = over-at n bs i h.1

-- Earlier nodes over a circuit, and the inputs.
pub record AreBits (inputs : List ℕ) (places bits : List (List Literal)) (c : CircuitView) : Type 0 where
  pub sound : IsCircuit c
  pub placed : AreOver c.formula.vars places
  pub over : AreOver c.formula.vars bits
  pub like : map length places ≡ inputs
  pub widths : All IsWidth (map length bits)

alike : (bits : List (List Literal)) (a b : TermId) → AreAlike (map length bits) a b → length (bits_at bits b.0) ≡ length (bits_at bits a.0)
alike bits a b h = sym (width-at bits b.0) ∙ (sym h.same ∙ width-at bits a.0)

some_bits : (bits : List (List Literal)) (i : ℕ) → All IsWidth (map length bits) → i < length (map length bits) → 1 ≤ length (bits_at bits i)
some_bits bits i h lt = let w = h i 0 lt in let e = width-at bits i in omega (arith, w.some)

abbrev words : List (List Literal) → (ℕ → Bool) → List Word
words bits v = map (bits_word v) bits

pub node-gives : (inputs : List ℕ) (places bits : List (List Literal)) (c : CircuitView) (n : TermNode) → AreBits inputs places bits c → IsLawful inputs (map length bits) n
    → GivesWord c (node_built places bits c n) (node_width inputs (map length bits) n) (λ v. node_word inputs (input_values places v) (map (bits_word v) bits) n)
node-gives inputs places bits c (Input k) h f =
    let la = bits_at places k in
    let e : slice_index inputs k ≡ length la = ap (λ ws. slice_index ws k) (sym h.like) ∙ width-at places k in
    as_word c _ _ _ _ _ (no_gates c la (length la) (λ v. number_of (bits_value v la)) h.sound (over-at c.formula.vars places k h.placed) refl (λ v o. refl)) (sym e)
    (λ v. word-is (slice_index inputs k) (length la) (slice_index (input_values places v) k) (number_of (bits_value v la)) e (value-at v places k))
node-gives inputs places bits c (Constant w x) h f = as_word c _ _ _ _ _ (constant-gives c w x f.fits h.sound) refl (λ v. refl)
node-gives inputs places bits c (Add a b) h f =
    let la = bits_at bits a.0 in
    let lb = bits_at bits b.0 in
    as_word c _ _ _ _ _ (sum-gives c la lb (alike bits a b f) h.sound (over-at c.formula.vars bits a.0 h.over) (over-at c.formula.vars bits b.0 h.over)) (sym (width-at bits a.0))
    (λ v. rw (word-at v bits a.0, word-at v bits b.0) refl)
node-gives inputs places bits c (Sub a b) h f =
    let la = bits_at bits a.0 in
    let lb = bits_at bits b.0 in
    as_word c _ _ _ _ _ (sub-gives c la lb (alike bits a b f) h.sound (over-at c.formula.vars bits a.0 h.over) (over-at c.formula.vars bits b.0 h.over)) (sym (width-at bits a.0))
    (λ v. rw (word-at v bits a.0, word-at v bits b.0) refl)
node-gives inputs places bits c (Slt a b) h f =
    let la = bits_at bits a.0 in
    let lb = bits_at bits b.0 in
    as_word c _ _ _ _ _ (slt-gives c la lb (alike bits a b f) (some_bits bits a.0 h.widths f.first) h.sound (over-at c.formula.vars bits a.0 h.over) (over-at c.formula.vars bits b.0 h.over)) refl
    (λ v. rw (word-at v bits a.0, word-at v bits b.0) refl)
node-gives inputs places bits c (Sle a b) h f =
    let la = bits_at bits a.0 in
    let lb = bits_at bits b.0 in
    as_word c _ _ _ _ _ (sle-gives c la lb (alike bits a b f) (some_bits bits a.0 h.widths f.first) h.sound (over-at c.formula.vars bits a.0 h.over) (over-at c.formula.vars bits b.0 h.over)) refl
    (λ v. rw (word-at v bits a.0, word-at v bits b.0) refl)
node-gives inputs places bits c (Ult a b) h f =
    let la = bits_at bits a.0 in
    let lb = bits_at bits b.0 in
    as_word c _ _ _ _ _ (less-gives c la lb (alike bits a b f) h.sound (over-at c.formula.vars bits a.0 h.over) (over-at c.formula.vars bits b.0 h.over)) refl
    (λ v. rw (word-at v bits a.0, word-at v bits b.0) refl)
node-gives inputs places bits c (Eq a b) h f =
    let la = bits_at bits a.0 in
    let lb = bits_at bits b.0 in
    as_word c _ _ _ _ _ (eq-gives c la lb (alike bits a b f) h.sound (over-at c.formula.vars bits a.0 h.over) (over-at c.formula.vars bits b.0 h.over)) refl
    (λ v. rw (word-at v bits a.0, word-at v bits b.0) refl)
node-gives inputs places bits c (And a b) h f =
    let la = bits_at bits a.0 in
    let lb = bits_at bits b.0 in
    as_word c _ _ _ _ _ (and_of-gives c la lb (alike bits a b f) h.sound (over-at c.formula.vars bits a.0 h.over) (over-at c.formula.vars bits b.0 h.over)) (sym (width-at bits a.0))
    (λ v. rw (word-at v bits a.0, word-at v bits b.0) refl)
node-gives inputs places bits c (Or a b) h f =
    let la = bits_at bits a.0 in
    let lb = bits_at bits b.0 in
    as_word c _ _ _ _ _ (or_of-gives c la lb (alike bits a b f) h.sound (over-at c.formula.vars bits a.0 h.over) (over-at c.formula.vars bits b.0 h.over)) (sym (width-at bits a.0))
    (λ v. rw (word-at v bits a.0, word-at v bits b.0) refl)
node-gives inputs places bits c (Concat a b) h f =
    let la = bits_at bits a.0 in
    let lb = bits_at bits b.0 in
    as_word c _ _ _ _ _ (concat-gives c la lb h.sound (over-at c.formula.vars bits a.0 h.over) (over-at c.formula.vars bits b.0 h.over)) (rw (width-at bits a.0, width-at bits b.0) refl)
    (λ v. rw (word-at v bits a.0, word-at v bits b.0) refl)
node-gives inputs places bits c (Neg a) h f =
    as_word c _ _ _ _ _ (neg-gives c (bits_at bits a.0) h.sound (over-at c.formula.vars bits a.0 h.over)) (sym (width-at bits a.0))
    (λ v. rw (word-at v bits a.0) refl)
node-gives inputs places bits c (Not a) h f =
    as_word c _ _ _ _ _ (not-gives c (bits_at bits a.0) h.sound (over-at c.formula.vars bits a.0 h.over)) (sym (width-at bits a.0))
    (λ v. rw (word-at v bits a.0) refl)
node-gives inputs places bits c (MulConst a coeff) h f =
    as_word c _ _ _ _ _ (product-gives c (bits_at bits a.0) coeff h.sound (over-at c.formula.vars bits a.0 h.over)) (sym (width-at bits a.0))
    (λ v. rw (word-at v bits a.0) refl)
node-gives inputs places bits c (Sext a w) h f =
    let wider = f.wider in
    let e = width-at bits a.0 in
    as_word c _ _ _ _ _ (sext-gives c (bits_at bits a.0) w (some_bits bits a.0 h.widths f.stands) (omega arith) h.sound (over-at c.formula.vars bits a.0 h.over)) refl
    (λ v. rw (word-at v bits a.0) refl)
node-gives inputs places bits c (Extract a high low) h f =
    let inside = f.inside in
    let e = width-at bits a.0 in
    as_word c _ _ _ _ _ (extract-gives c (bits_at bits a.0) high low f.order (omega arith) h.sound (over-at c.formula.vars bits a.0 h.over)) refl
    (λ v. rw (word-at v bits a.0) refl)
node-gives inputs places bits c (Ite k a b) h f =
    let lk = bits_at bits k.0 in
    let la = bits_at bits a.0 in
    let lb = bits_at bits b.0 in
    as_word c _ _ _ _ _ (ite-gives c lk la lb (sym (width-at bits k.0) ∙ f.bit) (alike bits a b f.alike) h.sound (over-at c.formula.vars bits k.0 h.over) (over-at c.formula.vars bits a.0 h.over) (over-at c.formula.vars bits b.0 h.over)) (sym (width-at bits a.0))
    (λ v. rw (word-at v bits k.0, word-at v bits a.0, word-at v bits b.0) (choice_is (number_of (bits_value v lk) == 1) v la lb (alike bits a b f.alike)))
