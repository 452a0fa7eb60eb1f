-- Literals of a clause that are another one than the first.
use Rattle.std.proofs.Common.{◌≡◌, ℕ, ◌<◌, true, false, List, [], ◌∷◌, ◌++◌, ◌∙◌, inl, inr, length, get_or}
use Rattle.dsv_cnf.specs.Literal.{Literal, literal_eq}
use Rattle.dsv_cnf.proofs.LiteralLemmas.{literal_eq-same, same_literal}
use Rattle.dsv_cnf.proofs.ClauseLemmas.{contains-head, contains-tail, contains-cases, no_both, contains-at}
use Rattle.dsv_solver.specs.Solving.{IsOther, AreAllOne}

pub none : (first : Literal) → AreAllOne [] first
none first = record { same = λ q i. absurd cc }

pub more : (c : List Literal) (l first : Literal) → literal_eq l first ≡ true → AreAllOne c first → AreAllOne (c ++ l ∷ []) first
more [] l first e h = record { same = λ q i. elim (contains-cases l [] q i) [ inl s ↦ s ∙ same_literal l first e | inr n ↦ absurd cc ] }
more (m ∷ ms) l first e h =
    let rest = more ms l first e (record { same = λ q i. h.same q (contains-tail m ms q i) }) in
    record { same = λ q i. elim (contains-cases m (ms ++ l ∷ []) q i) [ inl s ↦ h.same q (rw s (contains-head m ms)) | inr n ↦ rest.same q n ] }

pub at : (c : List Literal) (i : ℕ) (l first : Literal) → i < length c → l ≡ get_or c i l → literal_eq l first ≡ false → IsOther c first l
at c i l first lt is e = record { stands = contains-at c i l lt is; apart = λ s. no_both (literal_eq l first) (rw s (literal_eq-same first)) e }
