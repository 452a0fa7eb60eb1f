-- Literals and their tests.
use Rattle.std.proofs.Common.{◌≡◌, ℕ, ◌+◌, ◌*◌, ◌<◌, Bool, true, false, not, ◌||◌, ◌==◌, ◌⊎◌, cond, refl, arith, ap, sym, ◌∙◌, inl, inr}
use Rattle.std.proofs.lemmas.Bool.{eqb-true, eq-eqb}
use Rattle.dsv_cnf.specs.Literal.{Literal, literal_eq, literal_value, bool_eq, code_of, negation}
use Rattle.dsv_cnf.specs.LiteralCode.{literal_of, literal-code_of}
use Rattle.dsv_algebra.proofs.Booleans.{and_left, and_right, not_true}

pub or_cases : (a b : Bool) → (a || b) ≡ true → (a ≡ true) ⊎ (b ≡ true)
or_cases true b h = inl refl
or_cases false b h = inr h

pub same_bool : (a b : Bool) → (a ≡ true → b ≡ true) → (b ≡ true → a ≡ true) → a ≡ b
same_bool true b f g = sym (f refl)
same_bool false true f g = g refl
same_bool false false f g = refl

same_sign : (p q : Bool) → bool_eq p q ≡ true → p ≡ q
same_sign true q h = sym h
same_sign false true h = cc
same_sign false false h = refl

same_parts : (x y : ℕ) (p q : Bool) → x ≡ y → p ≡ q → let a : Literal = record { var = x; positive = p } in let b : Literal = record { var = y; positive = q } in a ≡ b
same_parts x y p q e f = rw (e, f)

-- literals that the test finds equal are the same
pub same_literal : (a b : Literal) → literal_eq a b ≡ true → a ≡ b
same_literal a b h =
    same_parts a.var b.var a.positive b.positive
    (eqb-true a.var b.var (and_left (a.var == b.var) (bool_eq a.positive b.positive) h))
    (same_sign a.positive b.positive (and_right (a.var == b.var) (bool_eq a.positive b.positive) h))

pub bool_eq-same : (p : Bool) → bool_eq p p ≡ true
bool_eq-same true = refl
bool_eq-same false = refl

pub literal_eq-same : (a : Literal) → literal_eq a a ≡ true
literal_eq-same a = rw (eq-eqb a.var a.var refl) (bool_eq-same a.positive)

-- the test compares the literals' numbers
pub literal_eq-code : (a b : Literal) → literal_eq a b ≡ (code_of a == code_of b)
literal_eq-code a b =
    same_bool (literal_eq a b) (code_of a == code_of b)
    (λ h. eq-eqb _ _ (ap code_of (same_literal a b h)))
    (λ h. let e : b ≡ a = sym (literal-code_of b) ∙ ap literal_of (sym (eqb-true (code_of a) (code_of b) h)) ∙ literal-code_of a in ap (literal_eq a) e ∙ literal_eq-same a)

pub code-below : (l : Literal) (vars : ℕ) → l.var < vars → code_of l < 2 * vars
code-below l vars h = elim l.positive as (λ b. 2 * l.var + cond b 0 1 < 2 * vars) [ true ↦ omega arith | false ↦ omega arith ]

not_value : (v : ℕ → Bool) (x : ℕ) (p : Bool) → cond p (v x) (not (v x)) ≡ true → cond (not p) (v x) (not (v x)) ≡ false
not_value v x true h = ap not h
not_value v x false h = not_true (v x) h

-- a true literal's negation is false
pub value-negation : (v : ℕ → Bool) (l : Literal) → literal_value v l ≡ true → literal_value v (negation l) ≡ false
value-negation v l h = not_value v l.var l.positive h

pub negation-twice : (l : Literal) → negation (negation l) ≡ l
negation-twice l = elim l.positive as (λ b. negation (negation (record { var = l.var; positive = b })) ≡ record { var = l.var; positive = b }) [ true ↦ refl | false ↦ refl ]
