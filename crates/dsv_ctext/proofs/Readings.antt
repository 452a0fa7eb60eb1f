-- Expressions are read back from their tokens.
use Rattle.std.proofs.Common.{◌≡◌, ℕ, zero, suc, ◌+◌, ◌-◌, ◌^◌, ◌<◌, ◌≤◌, ◌==◌, Bool, true, false, inl, inr, List, [], ◌∷◌, ◌++◌, refl, ap, ◌∙◌, arith, append_assoc}
use Rattle.std.specs.Prelude.{Option, Some}
use Rattle.std.proofs.Math.IntN.{pos}
use Rattle.std.proofs.Math.Pow.{pow-lt}
use Rattle.std.proofs.lemmas.Nat.{pow_pos}
use Rattle.std.proofs.lemmas.Bool.{cases_lt}
use Rattle.dsv_c.specs.Syntax.{Expr, Constant, Local, Member, Cast, Times, Plus, Minus, Over, Mask, Flip, Choice, Call}
use Rattle.dsv_ctext.specs.Tokens.{Token, Number, Name, Arrow, ToType, Calling, Open, Close, Star, Cross, Dash, Slash, And, Hat, Below, Then, Else, tokens, Got, got, power_below, right_of, else_of, then_of, after, whole_of, close_of, operand_of, depth, IsPlain}
use Rattle.dsv_ctext.specs.Law.{ExpressionsReadBack}
use Rattle.dsv_c.proofs.HeldNumbers.{then_is}

-- ---- powers
power_by : (n k : ℕ) (same : Bool) → (2 ^ n == 2 ^ k) ≡ same → k < suc n → (k < n → power_below n (2 ^ k) ≡ Some k) → power_below (suc n) (2 ^ k) ≡ Some k
power_by n k true e h more = elim (cases_lt k n) [
  | inl less ↦ (let l : 2 ^ k < 2 ^ n = pow-lt less in absurd (grind arith))
  | inr late ↦ (let s : n ≡ k = omega arith in rw (e, s) refl)
]
power_by n k false e h more = elim (cases_lt k n) [
  | inl less ↦ rw e (more less)
  | inr late ↦ (let s : n ≡ k = omega arith in absurd (grind (arith, ap (λ (m : ℕ). 2 ^ m) s)))
]

power_found : (n k : ℕ) → k < n → power_below n (2 ^ k) ≡ Some k
power_found zero k h = absurd (omega arith)
power_found (suc n) k h = power_by n k (2 ^ n == 2 ^ k) refl h (power_found n k)

-- ---- what reads back
abbrev pub Reads : Expr → Type 0
Reads e = (n : ℕ) (rest : List Token) → depth e ≤ n → operand_of n (tokens true e ++ rest) ≡ got e rest

-- these tokens can't go on an expression
abbrev pub Stops : List Token → Type 0
Stops rest = (operand : List Token → Option Got) (a : Expr) → after operand a rest ≡ got a rest

abbrev pub ReadsWhole : Expr → Type 0
ReadsWhole e = (n : ℕ) (rest : List Token) → depth e ≤ n → Stops rest → whole_of (operand_of n) (tokens false e ++ rest) ≡ got e rest

abbrev pub result : Expr → List Token → Got
result e rest = record { expr = e; rest = rest }

-- an operand, and then what follows it
whole_is : (n : ℕ) (a : Expr) (ts rest : List Token) → operand_of n ts ≡ got a rest → whole_of (operand_of n) ts ≡ after (operand_of n) a rest
whole_is n a ts rest h = then_is (λ g. after (operand_of n) g.expr g.rest) (operand_of n ts) (result a rest) h

right_is : (n : ℕ) (make : Expr → Expr) (b : Expr) (ts rest : List Token) → operand_of n ts ≡ got b rest → right_of (operand_of n) make ts ≡ got (make b) rest
right_is n make b ts rest h = then_is (λ g. got (make g.expr) g.rest) (operand_of n ts) (result b rest) h

-- an expression that has no operator reads as a whole as it does as an operand
atom_whole : (e : Expr) → tokens false e ≡ tokens true e → Reads e → ReadsWhole e
atom_whole e same h n rest l s =
    whole_is n e (tokens false e ++ rest) rest (ap (λ (ts : List Token). operand_of n (ts ++ rest)) same ∙ h n rest l) ∙ s (operand_of n) e

-- ---- with an operator
record Grouped (e : Expr) (body : List Token → List Token) : Type 0 where
  some : 1 ≤ depth e
  inner : (rest : List Token) → tokens true e ++ rest ≡ Open ∷ body (Close ∷ rest)
  outer : (rest : List Token) → tokens false e ++ rest ≡ body rest
  reads : (n : ℕ) (rest : List Token) → depth e ≤ suc n → whole_of (operand_of n) (body rest) ≡ got e rest

group_reads : (e : Expr) (body : List Token → List Token) → Grouped e body → Reads e
group_reads e body h zero rest l = absurd (omega (arith, h.some))
group_reads e body h (suc n) rest l =
    ap (operand_of (suc n)) (h.inner rest) ∙ then_is (close_of (λ x. x)) (whole_of (operand_of n) (body (Close ∷ rest))) (result e (Close ∷ rest)) (h.reads n (Close ∷ rest) l)

group_whole : (e : Expr) (body : List Token → List Token) → Grouped e body → ReadsWhole e
group_whole e body h n rest l s = ap (whole_of (operand_of n)) (h.outer rest) ∙ h.reads n rest (omega arith)

spread : (a b c rest : List Token) (t : Token) → (a ++ (t ∷ (b ++ c))) ++ rest ≡ a ++ (t ∷ (b ++ (c ++ rest)))
spread a b c rest t = append_assoc a (t ∷ (b ++ c)) rest ∙ ap (λ (ts : List Token). a ++ (t ∷ ts)) (append_assoc b c rest)

-- ---- all expressions
pub reads_both : (e : Expr) → IsPlain e → Reads e × ReadsWhole e
reads_both (Constant c) p =
    let r : Reads (Constant c) = atom_reads in (r, atom_whole (Constant c) refl r)
  where
    atom_reads : (n : ℕ) (rest : List Token) → 1 ≤ n → operand_of n (Number c ∷ rest) ≡ got (Constant c) rest
    atom_reads zero rest l = absurd (omega arith)
    atom_reads (suc n) rest l = refl
reads_both (Local k) p =
    let r : Reads (Local k) = atom_reads in (r, atom_whole (Local k) refl r)
  where
    atom_reads : (n : ℕ) (rest : List Token) → 1 ≤ n → operand_of n (Name k ∷ rest) ≡ got (Local k) rest
    atom_reads zero rest l = absurd (omega arith)
    atom_reads (suc n) rest l = refl
reads_both (Member k) p =
    let r : Reads (Member k) = atom_reads in (r, atom_whole (Member k) refl r)
  where
    atom_reads : (n : ℕ) (rest : List Token) → 1 ≤ n → operand_of n (Arrow k ∷ rest) ≡ got (Member k) rest
    atom_reads zero rest l = absurd (omega arith)
    atom_reads (suc n) rest l = refl
reads_both (Cast t e) p =
    let h = (reads_both e p).0 in
    let r : Reads (Cast t e) = cast_reads h in (r, atom_whole (Cast t e) refl r)
  where
    cast_reads : Reads e → (n : ℕ) (rest : List Token) → depth e + 1 ≤ n → operand_of n (ToType t ∷ (tokens true e ++ rest)) ≡ got (Cast t e) rest
    cast_reads h zero rest l = absurd (omega arith)
    cast_reads h (suc n) rest l = right_is n (Cast t) e (tokens true e ++ rest) rest (h n rest (omega arith))
reads_both (Call f e) p =
    let h = (reads_both e p).1 in
    let r : Reads (Call f e) = call_reads h in (r, atom_whole (Call f e) refl r)
  where
    call_reads : ReadsWhole e → (n : ℕ) (rest : List Token) → depth e + 1 ≤ n → operand_of n (Calling f ∷ ((tokens false e ++ Close ∷ []) ++ rest)) ≡ got (Call f e) rest
    call_reads h zero rest l = absurd (omega arith)
    call_reads h (suc n) rest l =
        ap (λ (ts : List Token). operand_of (suc n) (Calling f ∷ ts)) (append_assoc (tokens false e) (Close ∷ []) rest)
        ∙ then_is (close_of (Call f)) (whole_of (operand_of n) (tokens false e ++ Close ∷ rest)) (result e (Close ∷ rest)) (h n (Close ∷ rest) (omega arith) (λ o a. refl))
reads_both (Times a b) p =
    let h = (reads_both a p.0).0 in
    let k = (reads_both b p.1).0 in
    let body = λ (r : List Token). tokens true a ++ (Star ∷ (tokens true b ++ r)) in
    let g : Grouped (Times a b) body = record {
      some = omega arith;
      inner = λ rest. ap (λ (ts : List Token). Open ∷ ts) (spread (tokens true a) (tokens true b) (Close ∷ []) rest Star);
      outer = λ rest. spread (tokens true a) (tokens true b) [] rest Star;
      reads = λ n rest l. whole_is n a (body rest) (Star ∷ (tokens true b ++ rest)) (h n (Star ∷ (tokens true b ++ rest)) (omega arith)) ∙ right_is n (Times a) b (tokens true b ++ rest) rest (k n rest (omega arith));
    } in
    (group_reads (Times a b) body g, group_whole (Times a b) body g)
reads_both (Plus a b) p =
    let h = (reads_both a p.0).0 in
    let k = (reads_both b p.1).0 in
    let body = λ (r : List Token). tokens true a ++ (Cross ∷ (tokens true b ++ r)) in
    let g : Grouped (Plus a b) body = record {
      some = omega arith;
      inner = λ rest. ap (λ (ts : List Token). Open ∷ ts) (spread (tokens true a) (tokens true b) (Close ∷ []) rest Cross);
      outer = λ rest. spread (tokens true a) (tokens true b) [] rest Cross;
      reads = λ n rest l. whole_is n a (body rest) (Cross ∷ (tokens true b ++ rest)) (h n (Cross ∷ (tokens true b ++ rest)) (omega arith)) ∙ right_is n (Plus a) b (tokens true b ++ rest) rest (k n rest (omega arith));
    } in
    (group_reads (Plus a b) body g, group_whole (Plus a b) body g)
reads_both (Minus a b) p =
    let h = (reads_both a p.0).0 in
    let k = (reads_both b p.1).0 in
    let body = λ (r : List Token). tokens true a ++ (Dash ∷ (tokens true b ++ r)) in
    let g : Grouped (Minus a b) body = record {
      some = omega arith;
      inner = λ rest. ap (λ (ts : List Token). Open ∷ ts) (spread (tokens true a) (tokens true b) (Close ∷ []) rest Dash);
      outer = λ rest. spread (tokens true a) (tokens true b) [] rest Dash;
      reads = λ n rest l. whole_is n a (body rest) (Dash ∷ (tokens true b ++ rest)) (h n (Dash ∷ (tokens true b ++ rest)) (omega arith)) ∙ right_is n (Minus a) b (tokens true b ++ rest) rest (k n rest (omega arith));
    } in
    (group_reads (Minus a b) body g, group_whole (Minus a b) body g)
reads_both (Over e k) p =
    let h = (reads_both e p.0).0 in
    let body = λ (r : List Token). tokens true e ++ (Slash ∷ Number (pos (2 ^ k)) ∷ r) in
    let z : 2 ^ k + 0 ≡ 2 ^ k = omega arith in
    let found : power_below 64 (2 ^ k + 0) ≡ Some k = ap (power_below 64) z ∙ power_found 64 k p.1 in
    let g : Grouped (Over e k) body = record {
      some = omega arith;
      inner = λ rest. ap (λ (ts : List Token). Open ∷ ts) (append_assoc (tokens true e) (Slash ∷ Number (pos (2 ^ k)) ∷ Close ∷ []) rest);
      outer = λ rest. append_assoc (tokens true e) (Slash ∷ Number (pos (2 ^ k)) ∷ []) rest;
      reads = λ n rest l. whole_is n e (body rest) (Slash ∷ Number (pos (2 ^ k)) ∷ rest) (h n (Slash ∷ Number (pos (2 ^ k)) ∷ rest) (omega arith))
          ∙ then_is (λ (m : ℕ). got (Over e m) rest) (power_below 64 (2 ^ k + 0)) k found;
    } in
    (group_reads (Over e k) body g, group_whole (Over e k) body g)
reads_both (Mask e k) p =
    let h = (reads_both e p.0).0 in
    let body = λ (r : List Token). tokens true e ++ (And ∷ Number (pos (2 ^ k - 1)) ∷ r) in
    let some = pow_pos k in
    let z : 2 ^ k - 1 + 1 ≡ 2 ^ k = omega arith in
    let found : power_below 64 (2 ^ k - 1 + 1) ≡ Some k = ap (power_below 64) z ∙ power_found 64 k p.1 in
    let g : Grouped (Mask e k) body = record {
      some = omega arith;
      inner = λ rest. ap (λ (ts : List Token). Open ∷ ts) (append_assoc (tokens true e) (And ∷ Number (pos (2 ^ k - 1)) ∷ Close ∷ []) rest);
      outer = λ rest. append_assoc (tokens true e) (And ∷ Number (pos (2 ^ k - 1)) ∷ []) rest;
      reads = λ n rest l. whole_is n e (body rest) (And ∷ Number (pos (2 ^ k - 1)) ∷ rest) (h n (And ∷ Number (pos (2 ^ k - 1)) ∷ rest) (omega arith))
          ∙ then_is (λ (m : ℕ). got (Mask e m) rest) (power_below 64 (2 ^ k - 1 + 1)) k found;
    } in
    (group_reads (Mask e k) body g, group_whole (Mask e k) body g)
reads_both (Flip e k) p =
    let h = (reads_both e p.0).0 in
    let body = λ (r : List Token). tokens true e ++ (Hat ∷ Number (pos (2 ^ k)) ∷ r) in
    let z : 2 ^ k + 0 ≡ 2 ^ k = omega arith in
    let found : power_below 64 (2 ^ k + 0) ≡ Some k = ap (power_below 64) z ∙ power_found 64 k p.1 in
    let g : Grouped (Flip e k) body = record {
      some = omega arith;
      inner = λ rest. ap (λ (ts : List Token). Open ∷ ts) (append_assoc (tokens true e) (Hat ∷ Number (pos (2 ^ k)) ∷ Close ∷ []) rest);
      outer = λ rest. append_assoc (tokens true e) (Hat ∷ Number (pos (2 ^ k)) ∷ []) rest;
      reads = λ n rest l. whole_is n e (body rest) (Hat ∷ Number (pos (2 ^ k)) ∷ rest) (h n (Hat ∷ Number (pos (2 ^ k)) ∷ rest) (omega arith))
          ∙ then_is (λ (m : ℕ). got (Flip e m) rest) (power_below 64 (2 ^ k + 0)) k found;
    } in
    (group_reads (Flip e k) body g, group_whole (Flip e k) body g)
reads_both (Choice a b c d) p =
    let ha = (reads_both a p.0).0 in
    let hb = (reads_both b p.1).0 in
    let hc = (reads_both c p.2).0 in
    let hd = (reads_both d p.3).0 in
    let td = λ (r : List Token). tokens true d ++ r in
    let tc = λ (r : List Token). tokens true c ++ (Else ∷ td r) in
    let tb = λ (r : List Token). tokens true b ++ (Then ∷ tc r) in
    let body = λ (r : List Token). tokens true a ++ (Below ∷ tb r) in
    let far = λ (end rest : List Token). append_assoc (tokens true a) (Below ∷ tb end) rest ∙ ap (λ (ts : List Token). tokens true a ++ (Below ∷ ts)) (append_assoc (tokens true b) (Then ∷ tc end) rest
    ∙ ap (λ (ts : List Token). tokens true b ++ (Then ∷ ts)) (append_assoc (tokens true c) (Else ∷ td end) rest ∙ ap (λ (ts : List Token). tokens true c ++ (Else ∷ ts)) (append_assoc (tokens true d) end rest))) in
    let g : Grouped (Choice a b c d) body = record {
      some = omega arith;
      inner = λ rest. ap (λ (ts : List Token). Open ∷ ts) (far (Close ∷ []) rest);
      outer = λ rest. far [] rest;
      reads = λ n rest l. whole_is n a (body rest) (Below ∷ tb rest) (ha n (Below ∷ tb rest) (omega arith))
          ∙ (then_is (λ (x : Got). then_of (operand_of n) (Choice a x.expr) x.rest) (operand_of n (tb rest)) (result b (Then ∷ tc rest)) (hb n (Then ∷ tc rest) (omega arith))
          ∙ (then_is (λ (x : Got). else_of (operand_of n) (Choice a b x.expr) x.rest) (operand_of n (tc rest)) (result c (Else ∷ td rest)) (hc n (Else ∷ td rest) (omega arith))
          ∙ right_is n (Choice a b c) d (td rest) rest (hd n rest (omega arith))));
    } in
    (group_reads (Choice a b c d) body g, group_whole (Choice a b c d) body g)

pub reads_back : ExpressionsReadBack
reads_back e n rest p l = (reads_both e p).0 n rest l
