-- A set of literals and its marks.
use Rattle.std.proofs.Common.{◌≡◌, ℕ, ◌+◌, ◌<◌, ◌≤◌, ◌==◌, Bool, true, false, ◌||◌, ◌⊎◌, List, [], ◌∷◌, zero, suc, map, refl, arith, ap, sym, ◌∙◌, inl, inr, length, get_or, set, get_or-set_other, get_or-set_same}
use Rattle.std.specs.Prelude.{replicate}
use Rattle.std.specs.List.{All}
use Rattle.std.proofs.lemmas.List.Elements.{All-head, All-tail}
use Rattle.std.proofs.lemmas.Bool.{cases_eq, eq-eqb}
use Rattle.std.proofs.lemmas.Bool.Decides.{eqb_tells}
use Rattle.dsv_cnf.specs.Literal.{Literal, literal_eq, code_of}
use Rattle.dsv_cnf.specs.LiteralSet.{with}
use Rattle.dsv_cnf.proofs.LiteralLemmas.{or_cases, literal_eq-code, literal_eq-same, same_literal}
use Rattle.dsv_cnf.proofs.ClauseLemmas.{or_true}

pub eqb-other : (a b : ℕ) → (a ≡ b → ⊥) → (a == b) ≡ false
eqb-other a b n = elim (eqb_tells a b) [ inl p ↦ absurd (n p.1) | inr p ↦ p.0 ]

mark-at : (marks : List ℕ) (round i : ℕ) → 1 ≤ round → get_or (map (λ m. m == round) marks) i false ≡ (get_or marks i 0 == round)
mark-at [] round i h = sym (eqb-other 0 round (λ e. omega arith))
mark-at (m ∷ ms) round zero h = refl
mark-at (m ∷ ms) round (suc i) h = mark-at ms round i h

or_false : (a b : Bool) → a ≡ false → (a || b) ≡ b
or_false a b h = rw h refl

set-mark : (marks : List ℕ) (l m : Literal) (round : ℕ) → 1 ≤ round → code_of l < length marks
    → get_or (map (λ k. k == round) (set marks (code_of l) round)) (code_of m) false ≡ with l (λ k. get_or (map (λ n. n == round) marks) (code_of k) false) m
set-mark marks l m round h lt =
    mark-at (set marks (code_of l) round) round (code_of m) h
    ∙ (elim (cases_eq (code_of m) (code_of l)) [
      | inl same ↦
          let now : get_or (set marks (code_of l) round) (code_of m) 0 ≡ round = rw same (get_or-set_same marks (code_of l) round 0 lt) in
          rw now (eq-eqb round round refl) ∙ sym (or_true (literal_eq l m) _ (inl (literal_eq-code l m ∙ eq-eqb (code_of l) (code_of m) (sym same))))
      | inr other ↦
          ap (λ k. k == round) (get_or-set_other marks (code_of l) (code_of m) round 0 other)
          ∙ sym (mark-at marks round (code_of m) h)
          ∙ sym (or_false (literal_eq l m) _ (literal_eq-code l m ∙ eqb-other (code_of l) (code_of m) (λ s. other (sym s))))
    ])

-- a mark of this round puts its literal into the set
pub set-insert : (marks newer : List ℕ) (l : Literal) (round at : ℕ) → 1 ≤ round → code_of l < length marks → at ≡ code_of l → newer ≡ set marks at round
    → (λ (m : Literal). get_or (map (λ k. k == round) newer) (code_of m) false) ≡ with l (λ m. get_or (map (λ k. k == round) marks) (code_of m) false)
set-insert marks newer l round at h lt e f = rw (f, e) (λ i m. set-mark marks l m round h lt i)

-- no mark is of the next round
pub set-clear : (marks : List ℕ) (round : ℕ) → All (λ m. m ≤ round) marks → map (λ m. m == round + 1) marks ≡ replicate (length marks) false
set-clear [] round h = refl
set-clear (m ∷ ms) round h =
    let P : ℕ → Type 0 = λ n. n ≤ round in
    let e : (m == round + 1) ≡ false = eqb-other m (round + 1) (λ e. omega (arith, All-head P m ms h)) in
    rw (e, set-clear ms round (All-tail P m ms h)) refl

fresh : (n : ℕ) → map (λ m. m == 1) (replicate n 0) ≡ replicate n false
fresh zero = refl
fresh (suc n) = ap (λ ms. false ∷ ms) (fresh n)

-- marks of no round
pub set-fresh : (marks : List ℕ) (n : ℕ) → marks ≡ replicate n 0 → map (λ m. m == 1) marks ≡ replicate n false
set-fresh marks n e = rw e (fresh n)

-- ---- one literal more

pub with-head : (l : Literal) (A : Literal → Bool) → with l A l ≡ true
with-head l A = or_true _ _ (inl (literal_eq-same l))

pub with-tail : (l : Literal) (A : Literal → Bool) (q : Literal) → A q ≡ true → with l A q ≡ true
with-tail l A q h = or_true (literal_eq l q) (A q) (inr h)

pub with-cases : (l : Literal) (A : Literal → Bool) (q : Literal) → with l A q ≡ true → (q ≡ l) ⊎ (A q ≡ true)
with-cases l A q h = elim (or_cases (literal_eq l q) (A q) h) [ inl p ↦ inl (sym (same_literal l q p)) | inr r ↦ inr r ]
