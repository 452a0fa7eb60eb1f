-- The clauses of a formula are stored, one after another.
use Rattle.std.proofs.Common.{◌≡◌, ℕ, ◌+◌, ◌-◌, List, [], ◌∷◌, ◌++◌, Some, zero, suc, arith, refl, ap, sym, ◌∙◌, length, drop, slice_get, append_assoc, add-one, max, ◌==◌, false}
use Rattle.dsv_cnf.specs.Literal.{Literal}
use Rattle.dsv_cnf.specs.FormulaView.{FormulaView}
use Rattle.dsv_cnf.proofs.SetLemmas.{eqb-other}
use Rattle.dsv_hints.specs.Derivation.{Entry, entries_from, last_of}
use Rattle.dsv_hints.specs.StoreView.{StoreView}

-- The first i clauses are stored, and there is no room for more.
pub record IsStored (f : FormulaView) (i : ℕ) (s : StoreView) : Type 0 where
  pub vars : s.vars ≡ f.vars
  pub last : s.last ≡ last_of i
  pub live : s.live ++ entries_from (drop i f.clauses) (i + 1) ≡ entries_from f.clauses 1
  pub spare_clauses : s.spare_clauses ≡ 0
  pub spare_literals : s.spare_literals ≡ 0

last_of-more : (i : ℕ) → last_of (i + 1) ≡ Some (i + 1)
last_of-more i = let n : (i + 1 == 0) ≡ false = eqb-other (i + 1) 0 (λ e. omega arith) in rw n refl

-- the list from a place on begins with what stands there
drop-at : {X : Type 0} (xs : List X) (i : ℕ) (x : X) → slice_get xs i ≡ Some x → drop i xs ≡ x ∷ drop (i + 1) xs
drop-at [] i x h = cc
drop-at (y ∷ ys) zero x h = let e : y ≡ x = cc in rw e refl
drop-at (y ∷ ys) (suc i) x h = rw add-one (drop-at ys i x h ∙ ap (λ n. x ∷ drop n ys) (add-one i))

entries-step : (es new : List Entry) (cs : List (List Literal)) (all : List Entry) (i : ℕ) (c : List Literal) → new ≡ es ++ record { id = i + 1; clause = c } ∷ [] → slice_get cs i ≡ Some c
    → es ++ entries_from (drop i cs) (i + 1) ≡ all → new ++ entries_from (drop (i + 1) cs) (i + 1 + 1) ≡ all
entries-step es new cs all i c f h k = rw (f, append_assoc) (rw (drop-at cs i c h) at k)

-- room for one clause, and then the clause
pub stored-more : (f : FormulaView) (i : ℕ) (s r p : StoreView) (id : ℕ) (c : List Literal) → IsStored f i s
    → r ≡ record s { spare_clauses = max s.spare_clauses 1; spare_literals = max s.spare_literals (length c) }
    → p ≡ record r { last = Some id; live = r.live ++ record { id = id; clause = c } ∷ []; spare_clauses = r.spare_clauses - 1; spare_literals = r.spare_literals - length c }
    → id ≡ i + 1 → slice_get f.clauses i ≡ Some c → IsStored f (i + 1) p
stored-more f i s r p id c h d e g at = record {
  vars = ap (λ (x : StoreView). x.vars) e ∙ ap (λ (x : StoreView). x.vars) d ∙ h.vars;
  last = ap (λ (x : StoreView). x.last) e ∙ ap Some g ∙ sym (last_of-more i);
  live = entries-step s.live p.live f.clauses (entries_from f.clauses 1) i c (ap (λ (x : StoreView). x.live) e ∙ ap (λ (x : StoreView). x.live ++ record { id = id; clause = c } ∷ []) d ∙ ap (λ n. s.live ++ record { id = n; clause = c } ∷ []) g) at h.live;
  spare_clauses = omega (arith, ap (λ (x : StoreView). x.spare_clauses) e, ap (λ (x : StoreView). x.spare_clauses) d, h.spare_clauses);
  spare_literals = omega (arith, ap (λ (x : StoreView). x.spare_literals) e, ap (λ (x : StoreView). x.spare_literals) d, h.spare_literals);
}
