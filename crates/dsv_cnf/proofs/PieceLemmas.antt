-- Lists that lie one after another in one list.
use Rattle.std.proofs.Common.{◌≡◌, ℕ, ◌+◌, ◌-◌, ◌<◌, ◌≤◌, List, [], ◌∷◌, ◌++◌, length, get_or, Some, zero, suc, refl, ap, drop, arith, slice_get, length-append, add-one}
use Rattle.std.specs.List.{slice_range}
use Rattle.std.proofs.lemmas.Grind.{common_steps}
use Rattle.std.proofs.lemmas.List.{drop-append-le, take-append-le}
use Rattle.std.proofs.Math.Seq.{drop-append_seam}
use Rattle.std.proofs.lemmas.List.Elements.{All-take, All-drop}
use Rattle.dsv_cnf.specs.Literal.{Literal}
use Rattle.dsv_cnf.specs.Formula.{IsOver, AreOver}
use Rattle.dsv_cnf.specs.Pieces.{pieces_from, pieces, AreEnds, AreBounds}

length-pieces_from : {X : Type 0} (xs : List X) (start : ℕ) (ends : List ℕ) → length (pieces_from xs start ends) ≡ length ends
length-pieces_from xs start [] = refl
length-pieces_from xs start (e ∷ es) = omega (arith, length-pieces_from xs e es)

pub length-pieces : {X : Type 0} (xs : List X) (bounds : List ℕ) → length (pieces xs bounds) ≡ length bounds - 1
length-pieces xs [] = refl
length-pieces xs (start ∷ ends) = omega (arith, length-pieces_from xs start ends)

-- the last end is the greatest
AreEnds-le : (start : ℕ) (ends : List ℕ) (whole : ℕ) → AreEnds start ends whole → start ≤ whole
AreEnds-le start [] whole h = omega arith
AreEnds-le start (e ∷ es) whole h = omega (arith, h.0, AreEnds-le e es whole h.1)

-- The piece of this number begins and ends at these places.
pub record IsPiece {X : Type 0} (xs : List X) (bounds : List ℕ) (i start end : ℕ) : Type 0 where
  pub order : start ≤ end
  pub inside : end ≤ length xs
  pub at : slice_get (pieces xs bounds) i ≡ Some (slice_range xs start end)

ends-piece : {X : Type 0} (xs : List X) (first : ℕ) (ends : List ℕ) (i a b : ℕ) → AreEnds first ends (length xs) → i < length ends
    → a ≡ get_or (first ∷ ends) i a → b ≡ get_or ends i b → IsPiece xs (first ∷ ends) i a b
ends-piece xs first [] i a b h lt p q = absurd (omega arith)
ends-piece xs first (e ∷ es) zero a b h lt p q = record { order = omega (arith, p, q, h.0); inside = omega (arith, q, AreEnds-le e es (length xs) h.1); at = rw (p, q) refl }
ends-piece xs first (e ∷ es) (suc i) a b h lt p q =
    let r = ends-piece xs e es i a b h.1 (omega arith) p q in record { order = r.order; inside = r.inside; at = r.at }

pub bounds-piece : {X : Type 0} (xs : List X) (bounds : List ℕ) (i a b : ℕ) → AreBounds bounds (length xs) → i + 1 < length bounds
    → a ≡ get_or bounds i a → b ≡ get_or bounds (i + 1) b → IsPiece xs bounds i a b
bounds-piece xs [] i a b h lt p q = absurd h
bounds-piece xs (first ∷ ends) i a b h lt p q = ends-piece xs first ends i a b h (omega arith) p (rw add-one at q)

pub range-append : {X : Type 0} (xs ys : List X) (a b : ℕ) → a ≤ b → b ≤ length xs → slice_range (xs ++ ys) a b ≡ slice_range xs a b
range-append xs ys a b h k = rw (drop-append-le a xs ys (omega arith)) (take-append-le (b - a) (drop a xs) ys (grind (arith, common_steps)))

pub range-last : {X : Type 0} (xs ys : List X) → slice_range (xs ++ ys) (length xs) (length (xs ++ ys)) ≡ ys
range-last xs ys = rw (drop-append_seam xs ys, length-append xs ys) (grind (arith, common_steps))

from-push : {X : Type 0} (xs ys : List X) (start : ℕ) (ends : List ℕ) → AreEnds start ends (length xs)
    → pieces_from (xs ++ ys) start (ends ++ length (xs ++ ys) ∷ []) ≡ pieces_from xs start ends ++ ys ∷ []
from-push xs ys start [] h = rw h (ap (λ p. p ∷ []) (range-last xs ys))
from-push xs ys start (e ∷ es) h = rw (range-append xs ys start e h.0 (AreEnds-le e es (length xs) h.1), from-push xs ys e es h.1) refl

ends-push : (start : ℕ) (ends : List ℕ) (whole more : ℕ) → AreEnds start ends whole → whole ≤ more → AreEnds start (ends ++ more ∷ []) more
ends-push start [] whole more h le = (omega arith, refl)
ends-push start (e ∷ es) whole more h le = (h.0, ends-push e es whole more h.1 le)

-- one more piece at the end
pub record IsPushed {X : Type 0} (xs ys new : List X) (bounds newer : List ℕ) : Type 0 where
  pub view : pieces new newer ≡ pieces xs bounds ++ ys ∷ []
  pub rise : AreBounds newer (length new)

is_pushed : {X : Type 0} (xs ys : List X) (bounds : List ℕ) → AreBounds bounds (length xs) → IsPushed xs ys (xs ++ ys) bounds (bounds ++ length (xs ++ ys) ∷ [])
is_pushed xs ys [] h = absurd h
is_pushed xs ys (start ∷ ends) h = record {
  view = from-push xs ys start ends h;
  rise = ends-push start ends (length xs) (length (xs ++ ys)) h (omega (arith, length-append xs ys));
}

pub pushed : {X : Type 0} (xs ys new : List X) (bounds newer : List ℕ) (end : ℕ)
    → new ≡ xs ++ ys → newer ≡ bounds ++ end ∷ [] → end ≡ length new → AreBounds bounds (length xs) → IsPushed xs ys new bounds newer
pushed xs ys new bounds newer end e f g h = rw (f, g, e) (is_pushed xs ys bounds h)

-- what a list has at a place
pub got : {X : Type 0} (xs : List X) (i : ℕ) (x d : X) → slice_get xs i ≡ Some x → (i < length xs) × (get_or xs i d ≡ x)
got [] i x d h = cc
got (y ∷ ys) zero x d h = (omega arith, cc)
got (y ∷ ys) (suc i) x d h = let p = got ys i x d h in (omega (arith, p.0), p.1)

over-from : (vars : ℕ) (xs : List Literal) (start : ℕ) (ends : List ℕ) → IsOver vars xs → AreOver vars (pieces_from xs start ends)
over-from vars xs start [] h = tt
over-from vars xs start (e ∷ es) h =
    let P : Literal → Type 0 = λ l. l.var < vars in
    (All-take P (e - start) (drop start xs) (All-drop P start xs h), over-from vars xs e es h)

-- each clause of a list of literals is over their variables
pub pieces-over : (vars : ℕ) (xs : List Literal) (bounds : List ℕ) → IsOver vars xs → AreOver vars (pieces xs bounds)
pieces-over vars xs [] h = tt
pieces-over vars xs (start ∷ ends) h = over-from vars xs start ends h
