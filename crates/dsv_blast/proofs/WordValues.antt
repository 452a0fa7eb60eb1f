-- What the circuits of words give.
use Rattle.std.proofs.Common.{◌≡◌, ℕ, zero, suc, ◌+◌, ◌*◌, ◌/◌, ◌%◌, ◌^◌, ◌<◌, ◌≤◌, Bool, true, false, not, ◌&&◌, cond, List, [], ◌∷◌, ◌++◌, refl, arith, ap, sym, ◌∙◌, length, map, replicate, length-append, append_assoc}
use Rattle.std.specs.Prelude.{◌==◌}
use Rattle.std.proofs.Math.Nat.{div-add-mod}
use Rattle.std.proofs.lemmas.Nat.{pow_pos, mod_below}
use Rattle.std.proofs.lemmas.List.{append-nil, map-append}
use Rattle.std.proofs.lemmas.List.Elements.{All-append, All-nil, All-cons}
use Rattle.dsv_cnf.specs.Literal.{Literal, negation, literal_value}
use Rattle.dsv_cnf.specs.Formula.{Satisfies, IsOver}
use Rattle.dsv_cnf.proofs.ClauseLemmas.{IsOver-push}
use Rattle.dsv_blast.specs.CircuitView.{CircuitView, Wired, Built}
use Rattle.dsv_blast.specs.Gates.{exclusive, and_wired, exclusive_wired, parity_wired, majority_wired, choice_wired}
use Rattle.dsv_blast.specs.Words.{bits_value, number_of, built, zip_from, constant_bits, negations, add_from, carry_from, same_from, choice_from}
use Rattle.dsv_blast.proofs.Truths.{value-negation}
use Rattle.dsv_blast.proofs.Growth.{over-head, over-tail, over-more, IsCircuit, Grows, grows-same, grows-both, GivesBit}
use Rattle.dsv_blast.proofs.GateValues.{and-gives, exclusive-gives, parity-gives, majority-gives, choice-gives}
use Rattle.dsv_blast.proofs.Bits.{zip_bits, add_bits, carry_bits, same_bits, choice_bits, bit-odd, mod-place, two_pow}

-- A list of so many literals over a circuit, with these values.
pub record Gives (c : CircuitView) (r : Built) (w : ℕ) (value : (ℕ → Bool) → List Bool) : Type 0 where
  pub grows : Grows c r.circuit
  pub over : IsOver r.circuit.formula.vars r.bits
  pub wide : length r.bits ≡ w
  pub says : (v : ℕ → Bool) → Satisfies v r.circuit.formula.clauses → bits_value v r.bits ≡ value v

-- the same of the number that they spell
pub record GivesNumber (c : CircuitView) (r : Built) (w : ℕ) (value : (ℕ → Bool) → ℕ) : Type 0 where
  pub grows : Grows c r.circuit
  pub over : IsOver r.circuit.formula.vars r.bits
  pub wide : length r.bits ≡ w
  pub says : (v : ℕ → Bool) → Satisfies v r.circuit.formula.clauses → number_of (bits_value v r.bits) ≡ value v

pub bits-append : (v : ℕ → Bool) (ls ms : List Literal) → bits_value v (ls ++ ms) ≡ bits_value v ls ++ bits_value v ms
bits-append v ls ms = map-append (literal_value v) ls ms

length-push : (ls : List Literal) (l : Literal) → length (ls ++ l ∷ []) ≡ length ls + 1
length-push ls l = omega (arith, length-append ls (l ∷ []))

-- nothing more is added
done : (c : CircuitView) (out : List Literal) (bits : (ℕ → Bool) → List Bool) (n : ℕ) → IsCircuit c → IsOver c.formula.vars out → ((v : ℕ → Bool) → bits v ≡ []) → n ≡ 0 → Gives c (built c out) (length out + n) (λ v. bits_value v out ++ bits v)
done c out bits n s o e z = record { grows = grows-same c s; over = o; wide = omega arith; says = λ v h. sym (ap (λ bs. bits_value v out ++ bs) (e v) ∙ append-nil (bits_value v out)) }

-- one bit more in front of the rest
more : (v : ℕ → Bool) (out : List Literal) (l : Literal) (b : Bool) (rest rest' all : List Bool) → literal_value v l ≡ b → rest ≡ rest' → all ≡ bits_value v (out ++ l ∷ []) ++ rest → all ≡ bits_value v out ++ (b ∷ rest')
more v out l b rest rest' all e f g = g ∙ rw (bits-append v out (l ∷ []), e, f, append_assoc) refl

-- ---- bit by bit

pub zip-gives : (gate : CircuitView → Literal → Literal → Wired) (f : Bool → Bool → Bool)
    → ((c : CircuitView) (a b : Literal) → IsCircuit c → a.var < c.formula.vars → b.var < c.formula.vars → GivesBit c (gate c a b) (λ v. f (literal_value v a) (literal_value v b)))
    → (la lb : List Literal) (c : CircuitView) (out : List Literal) → length lb ≡ length la → IsCircuit c → IsOver c.formula.vars la → IsOver c.formula.vars lb → IsOver c.formula.vars out
    → Gives c (zip_from gate la lb c out) (length out + length la) (λ v. bits_value v out ++ zip_bits f (bits_value v la) (bits_value v lb))
zip-gives gate f g [] lb c out e s p q o = done c out (λ v. []) 0 s o (λ v. refl) refl
zip-gives gate f g (a ∷ la) [] c out e s p q o = absurd (omega arith)
zip-gives gate f g (a ∷ la) (b ∷ lb) c out e s p q o =
    let x = g c a b s (over-head _ a la p) (over-head _ b lb q) in
    let d = (gate c a b).circuit in
    let l = (gate c a b).bit in
    let le = x.grows.longer in
    let ih = zip-gives gate f g la lb d (out ++ l ∷ []) (omega arith) x.grows.sound (over-more _ d.formula.vars la le (over-tail _ a la p)) (over-more _ d.formula.vars lb le (over-tail _ b lb q)) (IsOver-push d.formula.vars out l (over-more _ d.formula.vars out le o) x.over) in
    record {
      grows = grows-both c d (zip_from gate la lb d (out ++ l ∷ [])).circuit x.grows ih.grows;
      over = ih.over;
      wide = omega (arith, ih.wide, length-push out l);
      says = λ v h. more v out l (f (literal_value v a) (literal_value v b)) _ _ _ (x.says v (ih.grows.less v h)) refl (ih.says v h);
    }

pub choice_from-gives : (k : Literal) (la lb : List Literal) (c : CircuitView) (out : List Literal) → length lb ≡ length la → IsCircuit c → k.var < c.formula.vars → IsOver c.formula.vars la → IsOver c.formula.vars lb → IsOver c.formula.vars out
    → Gives c (choice_from k la lb c out) (length out + length la) (λ v. bits_value v out ++ choice_bits (literal_value v k) (bits_value v la) (bits_value v lb))
choice_from-gives k [] lb c out e s r p q o = done c out (λ v. []) 0 s o (λ v. refl) refl
choice_from-gives k (a ∷ la) [] c out e s r p q o = absurd (omega arith)
choice_from-gives k (a ∷ la) (b ∷ lb) c out e s r p q o =
    let x = choice-gives c k a b s r (over-head _ a la p) (over-head _ b lb q) in
    let d = (choice_wired c k a b).circuit in
    let l = (choice_wired c k a b).bit in
    let le = x.grows.longer in
    let ih = choice_from-gives k la lb d (out ++ l ∷ []) (omega arith) x.grows.sound (omega arith) (over-more _ d.formula.vars la le (over-tail _ a la p)) (over-more _ d.formula.vars lb le (over-tail _ b lb q)) (IsOver-push d.formula.vars out l (over-more _ d.formula.vars out le o) x.over) in
    record {
      grows = grows-both c d (choice_from k la lb d (out ++ l ∷ [])).circuit x.grows ih.grows;
      over = ih.over;
      wide = omega (arith, ih.wide, length-push out l);
      says = λ v h. more v out l (cond (literal_value v k) (literal_value v a) (literal_value v b)) _ _ _ (x.says v (ih.grows.less v h)) refl (ih.says v h);
    }

-- ---- sums

pub add-gives : (la lb : List Literal) (k : Literal) (c : CircuitView) (out : List Literal) → length lb ≡ length la → IsCircuit c → k.var < c.formula.vars → IsOver c.formula.vars la → IsOver c.formula.vars lb → IsOver c.formula.vars out
    → Gives c (add_from la lb k c out) (length out + length la) (λ v. bits_value v out ++ add_bits (bits_value v la) (bits_value v lb) (literal_value v k))
add-gives [] lb k c out e s r p q o = done c out (λ v. []) 0 s o (λ v. refl) refl
add-gives (a ∷ la) [] k c out e s r p q o = absurd (omega arith)
add-gives (a ∷ la) (b ∷ lb) k c out e s r p q o =
    let x = parity-gives c a b k s (over-head _ a la p) (over-head _ b lb q) r in
    let d = (parity_wired c a b k).circuit in
    let l = (parity_wired c a b k).bit in
    let le = x.grows.longer in
    let y = majority-gives d a b k x.grows.sound (omega (arith, over-head _ a la p)) (omega (arith, over-head _ b lb q)) (omega arith) in
    let f = (majority_wired d a b k).circuit in
    let m = (majority_wired d a b k).bit in
    let lf = y.grows.longer in
    let up : c.formula.vars ≤ f.formula.vars = omega arith in
    let ih = add-gives la lb m f (out ++ l ∷ []) (omega arith) y.grows.sound y.over (over-more _ f.formula.vars la up (over-tail _ a la p)) (over-more _ f.formula.vars lb up (over-tail _ b lb q)) (IsOver-push f.formula.vars out l (over-more _ f.formula.vars out up o) (omega (arith, x.over))) in
    record {
      grows = grows-both c d (add_from la lb m f (out ++ l ∷ [])).circuit x.grows (grows-both d f (add_from la lb m f (out ++ l ∷ [])).circuit y.grows ih.grows);
      over = ih.over;
      wide = omega (arith, ih.wide, length-push out l);
      says = λ v h.
          let sum = x.says v (y.grows.less v (ih.grows.less v h)) in
          let carry = y.says v (ih.grows.less v h) in
          more v out l (exclusive (exclusive (literal_value v a) (literal_value v b)) (literal_value v k)) _ _ _ sum (ap (add_bits (bits_value v la) (bits_value v lb)) carry) (ih.says v h);
    }

pub carry-gives : (la lb : List Literal) (k : Literal) (c : CircuitView) → length lb ≡ length la → IsCircuit c → k.var < c.formula.vars → IsOver c.formula.vars la → IsOver c.formula.vars lb
    → GivesBit c (carry_from la lb k c) (λ v. carry_bits (bits_value v la) (bits_value v lb) (literal_value v k))
carry-gives [] lb k c e s r p q = record { grows = grows-same c s; over = r; says = λ v h. refl }
carry-gives (a ∷ la) [] k c e s r p q = absurd (omega arith)
carry-gives (a ∷ la) (b ∷ lb) k c e s r p q =
    let x = majority-gives c a b k s (over-head _ a la p) (over-head _ b lb q) r in
    let d = (majority_wired c a b k).circuit in
    let m = (majority_wired c a b k).bit in
    let le = x.grows.longer in
    let ih = carry-gives la lb m d (omega arith) x.grows.sound x.over (over-more _ d.formula.vars la le (over-tail _ a la p)) (over-more _ d.formula.vars lb le (over-tail _ b lb q)) in
    record {
      grows = grows-both c d (carry_from la lb m d).circuit x.grows ih.grows;
      over = ih.over;
      says = λ v h. ih.says v h ∙ ap (carry_bits (bits_value v la) (bits_value v lb)) (x.says v (ih.grows.less v h));
    }

pub same-gives : (la lb : List Literal) (k : Literal) (c : CircuitView) → length lb ≡ length la → IsCircuit c → k.var < c.formula.vars → IsOver c.formula.vars la → IsOver c.formula.vars lb
    → GivesBit c (same_from la lb k c) (λ v. same_bits (bits_value v la) (bits_value v lb) (literal_value v k))
same-gives [] lb k c e s r p q = record { grows = grows-same c s; over = r; says = λ v h. refl }
same-gives (a ∷ la) [] k c e s r p q = absurd (omega arith)
same-gives (a ∷ la) (b ∷ lb) k c e s r p q =
    let x = exclusive-gives c a b s (over-head _ a la p) (over-head _ b lb q) in
    let d = (exclusive_wired c a b).circuit in
    let l = negation (exclusive_wired c a b).bit in
    let le = x.grows.longer in
    let y = and-gives d k l x.grows.sound (omega arith) x.over in
    let f = (and_wired d k l).circuit in
    let m = (and_wired d k l).bit in
    let lf = y.grows.longer in
    let up : c.formula.vars ≤ f.formula.vars = omega arith in
    let ih = same-gives la lb m f (omega arith) y.grows.sound y.over (over-more _ f.formula.vars la up (over-tail _ a la p)) (over-more _ f.formula.vars lb up (over-tail _ b lb q)) in
    record {
      grows = grows-both c d (same_from la lb m f).circuit x.grows (grows-both d f (same_from la lb m f).circuit y.grows ih.grows);
      over = ih.over;
      says = λ v h.
          let apart = x.says v (y.grows.less v (ih.grows.less v h)) in
          let same = y.says v (ih.grows.less v h) in
          ih.says v h ∙ ap (same_bits (bits_value v la) (bits_value v lb)) (same ∙ (ap (λ t. literal_value v k && t) (value-negation v (exclusive_wired c a b).bit) ∙ ap (λ t. literal_value v k && not t) apart));
    }

-- ---- constants and negations

value-choice : (v : ℕ → Bool) (one : Literal) (b : Bool) → literal_value v one ≡ true → literal_value v (cond b one (negation one)) ≡ b
value-choice v one true t = t
value-choice v one false t = value-negation v one ∙ ap not t

pub number-constant : (v : ℕ → Bool) (one : Literal) (w n : ℕ) → literal_value v one ≡ true → number_of (bits_value v (constant_bits one w n)) ≡ n % 2 ^ w
number-constant v one zero n t = let h : n % 1 < 1 = mod_below n 1 (omega arith) in omega arith
number-constant v one (suc w) n t =
    let m : n % 2 < 2 = mod_below n 2 (omega arith) in
    let e : n % 2 + 2 * (n / 2) ≡ n = omega (arith, div-add-mod n 2) in
    rw (value-choice v one (n % 2 == 1) t, number-constant v one w (n / 2) t, bit-odd n, two_pow w)
    (sym (mod-place (n % 2) (n / 2) (2 ^ w) m (pow_pos w)) ∙ ap (λ x. x % (2 * 2 ^ w)) e)

pub length-constant : (one : Literal) (w n : ℕ) → length (constant_bits one w n) ≡ w
length-constant one zero n = refl
length-constant one (suc w) n = ap suc (length-constant one w (n / 2))

pub bits-negations : (v : ℕ → Bool) (ls : List Literal) → bits_value v (negations ls) ≡ map not (bits_value v ls)
bits-negations v [] = refl
bits-negations v (l ∷ ls) = rw (value-negation v l, bits-negations v ls) refl

pub bits-replicate : (v : ℕ → Bool) (n : ℕ) (l : Literal) → bits_value v (replicate n l) ≡ replicate n (literal_value v l)
bits-replicate v zero l = refl
bits-replicate v (suc n) l = ap (λ bs. literal_value v l ∷ bs) (bits-replicate v n l)

-- ---- over the variables

pub over-append : (n : ℕ) (ls ms : List Literal) → IsOver n ls → IsOver n ms → IsOver n (ls ++ ms)
over-append n ls ms h k = All-append (λ (l : Literal). l.var < n) ls ms h k

pub over-replicate : (n m : ℕ) (l : Literal) → l.var < n → IsOver n (replicate m l)
over-replicate n zero l h = All-nil (λ (q : Literal). q.var < n)
over-replicate n (suc m) l h = All-cons (λ (q : Literal). q.var < n) l (replicate m l) h (over-replicate n m l h)

pub over-negations : (n : ℕ) (ls : List Literal) → IsOver n ls → IsOver n (negations ls)
over-negations n [] h = h
over-negations n (l ∷ ls) h = All-cons (λ (q : Literal). q.var < n) (negation l) (negations ls) (over-head n l ls h) (over-negations n ls (over-tail n l ls h))

over_choice : (m : ℕ) (one : Literal) (b : Bool) → one.var < m → (cond b one (negation one)).var < m
over_choice m one true h = h
over_choice m one false h = h

pub over-constant : (m : ℕ) (one : Literal) (w n : ℕ) → one.var < m → IsOver m (constant_bits one w n)
over-constant m one zero n h = All-nil (λ (q : Literal). q.var < m)
over-constant m one (suc w) n h = All-cons (λ (q : Literal). q.var < m) (cond (n % 2 == 1) one (negation one)) (constant_bits one w (n / 2)) (over_choice m one (n % 2 == 1) h) (over-constant m one w (n / 2) h)
