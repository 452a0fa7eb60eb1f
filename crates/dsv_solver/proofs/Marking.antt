use Rattle.std.proofs.Common.{◌≡◌, ◌≢◌, ℕ, ◌+◌, ◌<◌, ◌≤◌, true, List, [], ◌∷◌, ◌++◌, refl, arith, ap, sym, ◌∙◌, inl, inr, ◌⊎◌, length, take, drop, get_or, drop-cons, suc, add-one}
use Rattle.std.proofs.lemmas.List.{take_more}
use Rattle.std.proofs.lemmas.Option.{slice_get_within}
use Rattle.dsv_cnf.specs.Literal.{Literal}
use Rattle.dsv_cnf.specs.Formula.{contains}
use Rattle.dsv_trail.specs.TrailView.{TrailView}
use Rattle.dsv_trail.specs.Places.{falsifies, place_of}
use Rattle.dsv_solver.specs.Analysis.{IsMarked, IsReached, IsLowest}
use Rattle.dsv_trail.proofs.PlaceLemmas.{place-is}
use Rattle.dsv_cnf.proofs.ClauseLemmas.{contains-head, contains-tail, contains-cases, contains-push, contains-push_left, contains-push_new}

pub marked-none : (M : List Literal) (l : Literal) → IsMarked M M [] l
marked-none M l = record { more = λ q h. h; all = λ q h. cc; only = λ q h. inl h }

pub marked-skipped : (M : List Literal) (l s : Literal) → (l ≡ s) ⊎ (contains M l ≡ true) → IsMarked M M (l ∷ []) s
marked-skipped M l s o =
    record {
      more = λ q h. h;
      all = λ q h. elim (contains-cases l [] q h) [ inl e ↦ elim o [ inl a ↦ inl (e ∙ a) | inr b ↦ inr (rw e b) ] | inr n ↦ cc ];
      only = λ q h. inl h;
    }

pub marked-one : (M : List Literal) (l s : Literal) → l ≢ s → IsMarked M (l ∷ M) (l ∷ []) s
marked-one M l s n =
    record {
      more = λ q h. contains-tail l M q h;
      all = λ q h. elim (contains-cases l [] q h) [ inl e ↦ inr (rw e (contains-head l M)) | inr x ↦ cc ];
      only = λ q h. elim (contains-cases l M q h) [ inl e ↦ inr (rw e (contains-head l []), λ x. n (sym e ∙ x)) | inr r ↦ inl r ];
    }

pub marked-push : (M N P c : List Literal) (l s : Literal) → IsMarked M N c s → IsMarked N P (l ∷ []) s → IsMarked M P (c ++ l ∷ []) s
marked-push M N P c l s a b =
    record {
      more = λ q h. b.more q (a.more q h);
      all = λ q h. elim (contains-push c l q h) [
        | inl x ↦ elim (a.all q x) [ inl e ↦ inl e | inr n ↦ inr (b.more q n) ]
        | inr e ↦ b.all q (rw e (contains-head l []))
      ];
      only = λ q h. elim (b.only q h) [
        | inl n ↦ elim (a.only q n) [ inl m ↦ inl m | inr x ↦ inr (contains-push_left c l q x.0, x.1) ]
        | inr x ↦ inr (elim (contains-cases l [] q x.0) [ inl e ↦ rw e (contains-push_new c l) | inr n ↦ cc ], x.1)
      ];
    }

reached-more : (t : TrailView) (high least : ℕ) (M N : List Literal) → ((q : Literal) → contains M q ≡ true → contains N q ≡ true) → IsReached t high M least ⊎ (least ≡ length t.marks) → IsReached t high N least ⊎ (least ≡ length t.marks)
reached-more t high least M N f (inl r) = inl (record { literal = r.literal; met = f r.literal r.met; at = r.at; up = r.up })
reached-more t high least M N f (inr e) = inr e

pub lowest-one : (t : TrailView) (high least r : ℕ) (M : List Literal) (l : Literal) → IsLowest t high M least → (r ≡ least) ⊎ ((r ≡ place_of t.marks l) × (high ≤ place_of t.marks l)) → r ≤ least → (high ≤ place_of t.marks l → r ≤ place_of t.marks l) → IsLowest t high (l ∷ M) r
lowest-one t high least r M l h o le f =
    record {
      least = λ q n up. elim (contains-cases l M q n) [ inl e ↦ rw e (f (rw e at up)) | inr w ↦ omega (arith, le, h.least q w up) ];
      reached = elim o [
        | inl e ↦ rw e (reached-more t high least M (l ∷ M) (λ q n. contains-tail l M q n) h.reached)
        | inr e ↦ inl (record { literal = l; met = contains-head l M; at = sym e.0; up = omega (arith, e.0, e.1) })
      ];
    }

-- every place of the trail is before its end
pub lowest-none : (t : TrailView) (M : List Literal) → ((q : Literal) → contains M q ≡ true → falsifies t.marks q ≡ true) → IsLowest t (length t.marks) M (length t.marks)
lowest-none t M all =
    record {
      least = λ q n up. absurd (let p = place-is t.marks q (all q n) in omega (arith, up, slice_get_within t.marks (place_of t.marks q) p.mark p.at));
      reached = inr refl;
    }

pub prefix-more : (xs : List Literal) (i : ℕ) (x : Literal) → i < length xs → x ≡ get_or xs i x → take (i + 1) xs ≡ take i xs ++ x ∷ []
prefix-more xs i x lt e = take_more xs i x lt ∙ ap (λ y. take i xs ++ y ∷ []) (sym e)

pub rest-more : (xs : List Literal) (i : ℕ) (x : Literal) → i < length xs → x ≡ get_or xs i x → drop i xs ≡ x ∷ drop (i + 1) xs
rest-more xs i x lt e = drop-cons xs i x lt ∙ (ap (λ y. y ∷ drop (suc i) xs) (sym e) ∙ ap (λ n. x ∷ drop n xs) (sym (add-one i)))
