-- What a hinted clause does, by the literals that stand in it and in a set.
use Rattle.std.proofs.Common.{◌≡◌, ◌≢◌, Bool, true, false, ◌&&◌, List, [], ◌∷◌, cond, refl, ap, sym, ◌∙◌, inl, inr, ◌⊎◌}
use Rattle.dsv_cnf.specs.Literal.{Literal, literal_eq, negation}
use Rattle.dsv_cnf.specs.Formula.{contains}
use Rattle.dsv_cnf.specs.LiteralSet.{with}
use Rattle.dsv_cnf.proofs.LiteralLemmas.{literal_eq-same, same_literal}
use Rattle.dsv_cnf.proofs.ClauseLemmas.{no_both, contains-head, contains-tail, contains-cases}
use Rattle.dsv_cnf.proofs.SetLemmas.{with-head, with-tail, with-cases}
use Rattle.dsv_hints.specs.Clauses.{with_all, outside, only}
use Rattle.dsv_hints.specs.declared.hints.Move.TheVariants.{Ends, Makes, Stuck}
use Rattle.dsv_hints.specs.Derivation.{move_of}
use Rattle.dsv_algebra.proofs.Booleans.{and_left, and_right}

pub with_all-cases : (c : List Literal) (A : Literal → Bool) (q : Literal) → with_all c A q ≡ true → (contains c q ≡ true) ⊎ (A q ≡ true)
with_all-cases [] A q h = inr h
with_all-cases (l ∷ ls) A q h =
    elim (with_all-cases ls (with l A) q h) [
      | inl i ↦ inl (contains-tail l ls q i)
      | inr i ↦ elim (with-cases l A q i) [ inl e ↦ inl (rw e (contains-head l ls)) | inr a ↦ inr a ]
    ]

pub with_all-keeps : (c : List Literal) (A : Literal → Bool) (q : Literal) → A q ≡ true → with_all c A q ≡ true
with_all-keeps [] A q h = h
with_all-keeps (l ∷ ls) A q h = with_all-keeps ls (with l A) q (with-tail l A q h)

pub with_all-has : (c : List Literal) (A : Literal → Bool) (q : Literal) → contains c q ≡ true → with_all c A q ≡ true
with_all-has [] A q h = absurd cc
with_all-has (l ∷ ls) A q h =
    elim (contains-cases l ls q h) [
      | inl e ↦ with_all-keeps ls (with l A) q (rw e (with-head l A))
      | inr i ↦ with_all-has ls (with l A) q i
    ]

-- the members of outside
outside_cond : (A : Literal → Bool) (rest : List Literal) (m q : Literal) (b : Bool) → A m ≡ b → contains (cond b rest (m ∷ rest)) q ≡ true → ((q ≡ m) × (A q ≡ false)) ⊎ (contains rest q ≡ true)
outside_cond A rest m q true e h = inr h
outside_cond A rest m q false e h = elim (contains-cases m rest q h) [ inl p ↦ inl (p, (rw p e)) | inr r ↦ inr r ]

pub outside-member : (A : Literal → Bool) (c : List Literal) (q : Literal) → contains (outside A c) q ≡ true → (contains c q ≡ true) × (A q ≡ false)
outside-member A [] q h = cc
outside-member A (m ∷ ms) q h =
    elim (outside_cond A (outside A ms) m q (A m) refl h) [
      | inl p ↦ (rw p.0 (contains-head m ms), p.1)
      | inr r ↦ let i = outside-member A ms q r in (contains-tail m ms q i.0, i.1)
    ]

cond_in : (A : Literal → Bool) (rest : List Literal) (m q : Literal) (b : Bool) → A m ≡ b → A q ≡ false → (q ≡ m) ⊎ (contains rest q ≡ true) → contains (cond b rest (m ∷ rest)) q ≡ true
cond_in A rest m q true e o (inl p) = let s = ap A p in cc
cond_in A rest m q true e o (inr r) = r
cond_in A rest m q false e o (inl p) = rw p (contains-head m rest)
cond_in A rest m q false e o (inr r) = contains-tail m rest q r

pub member-outside : (A : Literal → Bool) (c : List Literal) (q : Literal) → contains c q ≡ true → A q ≡ false → contains (outside A c) q ≡ true
member-outside A [] q h o = h
member-outside A (m ∷ ms) q h o =
    cond_in A (outside A ms) m q (A m) refl o
    (elim (contains-cases m ms q h) [ inl p ↦ inl p | inr r ↦ inr (member-outside A ms q r o) ])

only-from : (p : Literal) (ls : List Literal) → ((q : Literal) → contains ls q ≡ true → q ≡ p) → only p ls ≡ true
only-from p [] h = refl
only-from p (m ∷ ms) h =
    let e : m ≡ p = h m (contains-head m ms) in
    rw (e, literal_eq-same p) (only-from p ms (λ q r. h q (contains-tail m ms q r)))

pub only-same : (p : Literal) (ls : List Literal) (q : Literal) → only p ls ≡ true → contains ls q ≡ true → q ≡ p
only-same p [] q h r = cc
only-same p (m ∷ ms) q h r =
    let e : p ≡ m = same_literal p m (and_left (literal_eq p m) (only p ms) h) in
    elim (contains-cases m ms q r) [ inl s ↦ s ∙ sym e | inr s ↦ only-same p ms q (and_right (literal_eq p m) (only p ms) h) s ]

makes-out : (A : Literal → Bool) (out : List Literal) (p : Literal) → contains out p ≡ true → ((q : Literal) → contains out q ≡ true → q ≡ p) → A (negation p) ≡ false → move_of A out ≡ Makes p
makes-out A [] p s h o = cc
makes-out A (m ∷ ms) p s h o =
    let e : m ≡ p = h m (contains-head m ms) in
    rw (e, only-from p ms (λ q r. h q (contains-tail m ms q r)), o) refl

-- where all literals but one are in the set, the clause makes that one
pub move-makes : (A : Literal → Bool) (c : List Literal) (p : Literal) → contains c p ≡ true → ((q : Literal) → contains c q ≡ true → (q ≡ p) ⊎ (A q ≡ true)) → A p ≡ false → A (negation p) ≡ false → move_of A (outside A c) ≡ Makes p
move-makes A c p s h o n =
    makes-out A (outside A c) p (member-outside A c p s o)
    (λ q r. let m = outside-member A c q r in elim (h q m.0) [ inl e ↦ e | inr i ↦ absurd (no_both _ i m.1) ]) n

ends-out : (A : Literal → Bool) (out : List Literal) → ((q : Literal) → contains out q ≡ true → ⊥) → move_of A out ≡ Ends
ends-out A [] h = refl
ends-out A (m ∷ ms) h = absurd (h m (contains-head m ms))

-- where all literals are in the set, the clause ends the step
pub move-ends : (A : Literal → Bool) (c : List Literal) → ((q : Literal) → contains c q ≡ true → A q ≡ true) → move_of A (outside A c) ≡ Ends
move-ends A c h = ends-out A (outside A c) (λ q r. let m = outside-member A c q r in no_both _ (h q m.0) m.1)

stuck_cond : (l : Literal) (b n : Bool) → (b ≡ true → ⊥) → cond (b && n) (Makes l) Stuck ≡ Stuck
stuck_cond l true n h = absurd (h refl)
stuck_cond l false n h = refl

stuck-out : (A : Literal → Bool) (out : List Literal) (x y : Literal) → contains out x ≡ true → contains out y ≡ true → x ≢ y → move_of A out ≡ Stuck
stuck-out A [] x y h k d = cc
stuck-out A (m ∷ ms) x y h k d =
    stuck_cond m (only m ms) _
    (λ o. d ((elim (contains-cases m ms x h) [ inl e ↦ e | inr r ↦ only-same m ms x o r ]) ∙ sym (elim (contains-cases m ms y k) [ inl e ↦ e | inr r ↦ only-same m ms y o r ])))

-- where two literals are outside the set, the clause says nothing
pub move-stuck : (A : Literal → Bool) (c : List Literal) (x y : Literal) → contains c x ≡ true → contains c y ≡ true → A x ≡ false → A y ≡ false → x ≢ y → move_of A (outside A c) ≡ Stuck
move-stuck A c x y h k o n d = stuck-out A (outside A c) x y (member-outside A c x h o) (member-outside A c y k n) d
