-- What is left of a list whose first entry changes or goes.
use Rattle.std.proofs.Common.{◌≡◌, ℕ, ◌+◌, ◌-◌, List, ◌∷◌, map, length, drop, refl, ap, ◌∙◌, arith}
use Rattle.std.proofs.Math.Seq.{drop-drop}
use Rattle.dsv_base.specs.Lists.{IsSuffix}

module _ {A P : Type 0} (place : A → P) where
  -- nothing changes
  pub IsSuffix-all : (xs : List A) → IsSuffix place xs xs
  IsSuffix-all xs = let none : length xs - length xs ≡ 0 = omega arith in record { shorter = omega arith; same = rw none refl; others = rw none refl }

  -- the first entry changes, and stays in its place
  pub IsSuffix-set : (before xs : List A) (x y : A) → place y ≡ place x → IsSuffix place before (x ∷ xs) → IsSuffix place before (y ∷ xs)
  IsSuffix-set before xs x y e s = record { shorter = s.shorter; same = ap (λ p. p ∷ map place xs) e ∙ s.same; others = s.others }

  drop_next : {B : Type 0} (before xs : List B) (k : ℕ) → xs ≡ drop k before → drop 1 xs ≡ drop (k + 1) before
  drop_next before xs k e = ap (drop 1) e ∙ drop-drop 1 k before

  -- the first entry goes
  pub IsSuffix-removed : (before xs : List A) (x : A) → IsSuffix place before (x ∷ xs) → IsSuffix place before xs
  IsSuffix-removed before xs x s =
      let some = s.shorter in
      let at : length before - length (x ∷ xs) + 1 ≡ length before - length xs = omega arith in
      record {
        shorter = omega arith;
        same = rw (← at) (drop_next (map place before) (map place (x ∷ xs)) (length before - length (x ∷ xs)) s.same);
        others = drop_next before xs (length before - length xs) (rw (← at) s.others);
      }
