-- What keeps every reason.
use Rattle.std.proofs.Common.{◌≡◌, ℕ, List, [], ◌∷◌, ◌++◌, ◌⊎◌, refl, arith, ap, sym, ◌∙◌, inl, inr, take, slice_get, Some, false}
use Rattle.std.proofs.lemmas.List.{take-append-le, take-take}
use Rattle.std.proofs.lemmas.List.Elements.{All-cons, All-nil}
use Rattle.std.proofs.Math.Seq.{take-append_seam}
use Rattle.dsv_cnf.specs.Literal.{Literal}
use Rattle.dsv_trail.proofs.Elements.{push-cases, push-left, take-cases}
use Rattle.dsv_trail.specs.TrailView.{TrailView}
use Rattle.dsv_trail.specs.Marks.{value_of}
use Rattle.dsv_trail.specs.Justification.{IsJustified, IsReason}
use Rattle.dsv_trail.specs.declared.marks.Mark.{Mark}

-- the reasons of marks, without the rest of the trail
abbrev pub Reasons : List Mark → List (List Literal) → Type 0
Reasons marks clauses = (i r : ℕ) (m : Mark) → slice_get marks i ≡ Some m → m.reason ≡ Some r → IsReason clauses r (take i marks) m.literal

pub reasons-pushed : (marks : List Mark) (m : Mark) (clauses : List (List Literal)) → ((r : ℕ) → m.reason ≡ Some r → IsReason clauses r marks m.literal) → Reasons marks clauses → Reasons (marks ++ m ∷ []) clauses
reasons-pushed marks m clauses last h i r x g e =
    elim (push-cases marks m i x g) [
      | inl a ↦ rw (take-append-le i marks (m ∷ []) (omega (arith, a.0))) (h i r x a.1 e)
      | inr b ↦ rw (b.0, take-append_seam marks (m ∷ []), ← b.1) (last r (ap (λ (y : Mark). y.reason) b.1 ∙ e))
    ]

pub reasons-taken : (marks : List Mark) (k : ℕ) (clauses : List (List Literal)) → Reasons marks clauses → Reasons (take k marks) clauses
reasons-taken marks k clauses h i r m g e =
    let x = take-cases k marks i m g in
    rw (take-take i k marks (omega (arith, x.0))) (h i r m x.1 e)

-- a clause more at the end of the formula keeps every reason
pub justified-more : (t : TrailView) (clauses : List (List Literal)) (c : List Literal) → IsJustified t clauses → IsJustified t (clauses ++ c ∷ [])
justified-more t clauses c h i r m g e =
    let x = h i r m g e in
    record { clause = x.clause; at = push-left clauses c r x.clause x.at; has = x.has; others = x.others }

-- the second literal of a clause of two, where the first is false
pub reason-second : (clauses : List (List Literal)) (marks : List Mark) (a b l : Literal) → clauses ≡ (a ∷ b ∷ []) ∷ [] → l ≡ b → value_of marks a ≡ Some false → IsReason clauses 0 marks l
reason-second clauses marks a b l e s v =
    let P : Literal → Type 0 = λ q. (q ≡ l) ⊎ (value_of marks q ≡ Some false) in
    record {
      clause = a ∷ b ∷ [];
      at = rw e refl;
      has = (1, omega arith, sym s);
      others = All-cons P a (b ∷ []) (inr v) (All-cons P b [] (inl (sym s)) (All-nil P));
    }
