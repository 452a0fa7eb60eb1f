-- Which literals stand in a clause.
use Rattle.std.proofs.Common.{◌≡◌, ℕ, ◌<◌, Bool, true, false, ◌||◌, List, [], ◌∷◌, ◌++◌, ◌⊎◌, arith, length, zero, suc, get_or, sym, ap, ◌∙◌, ◌≢◌, inl, inr, refl}
use Rattle.std.proofs.lemmas.List.Elements.{All-head, All-tail, All-nil, All-cons}
use Rattle.dsv_cnf.specs.Literal.{Literal, literal_eq, literal_value}
use Rattle.dsv_cnf.specs.Formula.{clause_value, contains, IsOver}
use Rattle.dsv_cnf.proofs.LiteralLemmas.{or_cases, literal_eq-same, same_literal}

pub or_true : (a b : Bool) → (a ≡ true) ⊎ (b ≡ true) → (a || b) ≡ true
or_true a b (inl p) = rw p refl
or_true true b (inr q) = refl
or_true false b (inr q) = q

pub not_true : (b : Bool) → (b ≡ true → ⊥) → b ≡ false
not_true true n = absurd (n refl)
not_true false n = refl

pub no_both : (b : Bool) → b ≡ true → b ≡ false → ⊥
no_both b p q = cc

pub literal-cases : (a b : Literal) → (a ≡ b) ⊎ (a ≢ b)
literal-cases a b = elim (literal_eq a b) as (λ x. literal_eq a b ≡ x → (a ≡ b) ⊎ (a ≢ b)) [ true ↦ λ h. inl (same_literal a b h) | false ↦ λ h. inr (λ e. no_both (literal_eq a b) (ap (λ x. literal_eq a x) (sym e) ∙ literal_eq-same a) h) ] refl

-- ---- one literal more at the beginning

pub contains-head : (m : Literal) (ms : List Literal) → contains (m ∷ ms) m ≡ true
contains-head m ms = or_true _ _ (inl (literal_eq-same m))

pub contains-tail : (m : Literal) (ms : List Literal) (q : Literal) → contains ms q ≡ true → contains (m ∷ ms) q ≡ true
contains-tail m ms q h = or_true (literal_eq m q) _ (inr h)

pub contains-cases : (m : Literal) (ms : List Literal) (q : Literal) → contains (m ∷ ms) q ≡ true → (q ≡ m) ⊎ (contains ms q ≡ true)
contains-cases m ms q h = elim (or_cases (literal_eq m q) (contains ms q) h) [ inl p ↦ inl (sym (same_literal m q p)) | inr r ↦ inr r ]

-- ---- one literal more at the end

pub contains-push : (c : List Literal) (l q : Literal) → contains (c ++ l ∷ []) q ≡ true → (contains c q ≡ true) ⊎ (q ≡ l)
contains-push [] l q h = elim (contains-cases l [] q h) [ inl e ↦ inr e | inr n ↦ cc ]
contains-push (m ∷ ms) l q h =
    elim (contains-cases m (ms ++ l ∷ []) q h) [
      | inl e ↦ inl (rw e (contains-head m ms))
      | inr r ↦ elim (contains-push ms l q r) [ inl a ↦ inl (contains-tail m ms q a) | inr b ↦ inr b ]
    ]

pub contains-push_left : (c : List Literal) (l q : Literal) → contains c q ≡ true → contains (c ++ l ∷ []) q ≡ true
contains-push_left [] l q h = cc
contains-push_left (m ∷ ms) l q h = elim (contains-cases m ms q h) [ inl e ↦ rw e (contains-head m (ms ++ l ∷ [])) | inr r ↦ contains-tail m (ms ++ l ∷ []) q (contains-push_left ms l q r) ]

pub contains-push_new : (c : List Literal) (l : Literal) → contains (c ++ l ∷ []) l ≡ true
contains-push_new [] l = contains-head l []
contains-push_new (m ∷ ms) l = contains-tail m (ms ++ l ∷ []) l (contains-push_new ms l)

-- ---- places

pub contains-at : (c : List Literal) (i : ℕ) (l : Literal) → i < length c → l ≡ get_or c i l → contains c l ≡ true
contains-at [] i l lt at = absurd (omega (arith, lt))
contains-at (m ∷ ms) zero l lt at = rw at (contains-head m ms)
contains-at (m ∷ ms) (suc i) l lt at = contains-tail m ms l (contains-at ms i l (omega (arith, lt)) at)

-- ---- variables

pub IsOver-head : (n : ℕ) (m : Literal) (ms : List Literal) → IsOver n (m ∷ ms) → m.var < n
IsOver-head n m ms h = All-head (λ (q : Literal). q.var < n) m ms h

pub IsOver-tail : (n : ℕ) (m : Literal) (ms : List Literal) → IsOver n (m ∷ ms) → IsOver n ms
IsOver-tail n m ms h = All-tail (λ (q : Literal). q.var < n) m ms h

pub IsOver-member : (n : ℕ) (c : List Literal) (l : Literal) → IsOver n c → contains c l ≡ true → l.var < n
IsOver-member n [] l o i = cc
IsOver-member n (m ∷ ms) l o i = elim (contains-cases m ms l i) [ inl e ↦ rw e (IsOver-head n m ms o) | inr r ↦ IsOver-member n ms l (IsOver-tail n m ms o) r ]

pub IsOver-from : (n : ℕ) (c : List Literal) → ((q : Literal) → contains c q ≡ true → q.var < n) → IsOver n c
IsOver-from n [] h = All-nil (λ (l : Literal). l.var < n)
IsOver-from n (l ∷ ls) h = All-cons (λ (m : Literal). m.var < n) l ls (h l (contains-head l ls)) (IsOver-from n ls (λ q i. h q (contains-tail l ls q i)))

pub IsOver-push : (n : ℕ) (ls : List Literal) (l : Literal) → IsOver n ls → l.var < n → IsOver n (ls ++ l ∷ [])
IsOver-push n [] l h v = All-cons (λ (m : Literal). m.var < n) l [] v (All-nil (λ (m : Literal). m.var < n))
IsOver-push n (m ∷ ms) l h v = let P : Literal → Type 0 = λ q. q.var < n in All-cons P m (ms ++ l ∷ []) (All-head P m ms h) (IsOver-push n ms l (All-tail P m ms h) v)

-- ---- values

-- a clause with a true literal is true
pub value-member : (v : ℕ → Bool) (c : List Literal) (l : Literal) → contains c l ≡ true → literal_value v l ≡ true → clause_value v c ≡ true
value-member v [] l i h = cc
value-member v (m ∷ ms) l i h =
    elim (contains-cases m ms l i) [
      | inl e ↦ or_true (literal_value v m) (clause_value v ms) (inl (rw (← e) h))
      | inr r ↦ or_true (literal_value v m) (clause_value v ms) (inr (value-member v ms l r h))
    ]
