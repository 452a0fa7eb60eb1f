use Rattle.std.proofs.Common.{◌≡◌, ℕ, Bool, true, false, List, [], ◌∷◌, Some, refl, inl, inr, ◌⊎◌, Ok}
use Rattle.dsv_cnf.specs.Literal.{Literal, negation}
use Rattle.dsv_cnf.specs.LiteralSet.{with}
use Rattle.dsv_hints.specs.Clauses.{outside}
use Rattle.dsv_hints.specs.declared.hints.Move.TheVariants.{Makes}
use Rattle.dsv_hints.specs.Derivation.{Entry, live_clause, move_of, hints_answer}
use Rattle.dsv_hints.specs.Local.{hinted_contains, AreHinted, AreUsedLater}
use Rattle.dsv_solver.specs.Walking.{Starts, Derives, Met}
use Rattle.dsv_cnf.specs.Formula.{contains}
use Rattle.dsv_cnf.proofs.ClauseLemmas.{contains-head, contains-tail, not_true, no_both, or_true}
use Rattle.dsv_cnf.proofs.SetLemmas.{with-head, with-tail, with-cases}
use Rattle.dsv_hints.proofs.MoveLemmas.{move-makes, move-ends}

pub record IsMore (M N : Literal → Bool) : Type 0 where
  pub more : (q : Literal) → M q ≡ true → N q ≡ true

-- the clause of a conflict
pub derives-start : (live : List Entry) (F : Literal → Bool) (S : Literal → Type 0) (M : Literal → Bool) (c : List Literal) (h : ℕ) → live_clause live h ≡ Some c → ((q : Literal) → contains c q ≡ true → (M q ≡ true) × S q) → Derives live F S M (h ∷ [])
derives-start live F S M c h e all =
    record {
      derives = λ A s. rw (e, move-ends A c (λ q r. s.covers q (all q r).0 (all q r).1)) refl;
      used = λ A s. rw (e, move-ends A c (λ q r. s.covers q (all q r).0 (all q r).1)) tt;
    }

-- the reason of the literal p, whose negation counts before and not after
pub record Resolves (live : List Entry) (F : Literal → Bool) (S T : Literal → Type 0) (M N : Literal → Bool) (h : ℕ) (p : Literal) : Type 0 where
  pub clause : List Literal
  pub stands : live_clause live h ≡ Some clause
  pub has : contains clause p ≡ true
  pub met : M (negation p) ≡ true
  pub others : (q : Literal) → contains clause q ≡ true → (q ≡ p) ⊎ ((N q ≡ true) × T q)
  pub is_true : F p ≡ false
  pub is_false : F (negation p) ≡ true
  pub counts : S (negation p)
  pub gone : T (negation p) → ⊥
  pub less : (q : Literal) → T q → S q
  pub rest : (q : Literal) → F q ≡ true → S q → (q ≡ negation p) ⊎ T q
  pub more : IsMore M N

contains-not : (A : Literal → Bool) (p : Literal) → (A p ≡ true → ⊥) → A p ≡ false
contains-not A p n = not_true (A p) n

starts-more : (live : List Entry) (F : Literal → Bool) (S T : Literal → Type 0) (M N A : Literal → Bool) (H : List ℕ) (h : ℕ) (p : Literal) → Met live F M H → Resolves live F S T M N h p → Starts F T N A → Starts F S M (with (negation p) A)
starts-more live F S T M N A H h p met r s =
    record {
      are_false = λ a i. elim (with-cases (negation p) A a i) [ inl e ↦ rw e r.is_false | inr j ↦ s.are_false a j ];
      count = λ a i. elim (with-cases (negation p) A a i) [ inl e ↦ rw e r.counts | inr j ↦ r.less a (s.count a j) ];
      covers = λ q i c.
          elim (r.rest q (met.are_false q i) c) [
            | inl e ↦ rw e (with-head (negation p) A)
            | inr t ↦ with-tail (negation p) A q (s.covers q (r.more.more q i) t)
          ];
    }

resolves-makes : (live : List Entry) (F : Literal → Bool) (S T : Literal → Type 0) (M N A : Literal → Bool) (h : ℕ) (p : Literal) → (r : Resolves live F S T M N h p) → Starts F T N A → move_of A (outside A r.clause) ≡ Makes p
resolves-makes live F S T M N A h p r s =
    move-makes A r.clause p r.has
    (λ q i. elim (r.others q i) [ inl e ↦ inl e | inr o ↦ inr (s.covers q o.0 o.1) ])
    (contains-not A p (λ i. no_both (F p) (s.are_false p i) r.is_true))
    (contains-not A (negation p) (λ i. r.gone (s.count (negation p) i)))

-- one literal resolved
pub derives-resolve : (live : List Entry) (F : Literal → Bool) (S T : Literal → Type 0) (M N : Literal → Bool) (H : List ℕ) (h : ℕ) (p : Literal) → Met live F M H → Derives live F S M H → Resolves live F S T M N h p → Derives live F T N (h ∷ H)
derives-resolve live F S T M N H h p met d r =
    record {
      derives = λ A s. rw (r.stands, resolves-makes live F S T M N A h p r s) (d.derives (with (negation p) A) (starts-more live F S T M N A H h p met r s));
      used = λ A s. rw (r.stands, resolves-makes live F S T M N A h p r s) (met.hinted (negation p) r.met, d.used (with (negation p) A) (starts-more live F S T M N A H h p met r s));
    }

-- what counts may be said anew
pub derives-recount : (live : List Entry) (F : Literal → Bool) (S T : Literal → Type 0) (M : Literal → Bool) (H : List ℕ) → Derives live F S M H → ((q : Literal) → F q ≡ true → T q → S q) → ((q : Literal) → M q ≡ true → S q → T q) → Derives live F T M H
derives-recount live F S T M H d f g =
    let move : (A : Literal → Bool) → Starts F T M A → Starts F S M A = λ A s. record { are_false = s.are_false; count = λ a i. f a (s.are_false a i) (s.count a i); covers = λ q i c. s.covers q i (g q i c) } in
    record { derives = λ A s. d.derives A (move A s); used = λ A s. d.used A (move A s) }

-- the learned clause: false literals, and all that count
pub derives-end : (live : List Entry) (F : Literal → Bool) (S : Literal → Type 0) (M C : Literal → Bool) (H : List ℕ) → Derives live F S M H → Starts F S M C → (hints_answer live H C ≡ Ok tt) × AreUsedLater live H C
derives-end live F S M C H d s = (d.derives C s, d.used C s)

pub met-start : (live : List Entry) (F : Literal → Bool) (M : Literal → Bool) (c : List Literal) (h : ℕ) → live_clause live h ≡ Some c → ((q : Literal) → M q ≡ true → (F q ≡ true) × (contains c q ≡ true)) → Met live F M (h ∷ [])
met-start live F M c h e all = record { are_false = λ q i. (all q i).0; hinted = λ q i. rw e (or_true (contains c q) false (inl (all q i).1)) }

pub met-more : (live : List Entry) (F : Literal → Bool) (M N : Literal → Bool) (c : List Literal) (H : List ℕ) (h : ℕ) → live_clause live h ≡ Some c → Met live F M H → ((q : Literal) → N q ≡ true → (M q ≡ true) ⊎ ((F q ≡ true) × (contains c q ≡ true))) → Met live F N (h ∷ H)
met-more live F M N c H h e m all =
    record {
      are_false = λ q i. elim (all q i) [ inl o ↦ m.are_false q o | inr n ↦ n.0 ];
      hinted = λ q i. rw e (or_true (contains c q) (hinted_contains live H q) (elim (all q i) [ inl o ↦ inr (m.hinted q o) | inr n ↦ inl n.1 ]));
    }

-- the first sentence
pub stand-from : (live : List Entry) (F : Literal → Bool) (M : Literal → Bool) (C : List Literal) (H : List ℕ) → Met live F M H → ((q : Literal) → contains C q ≡ true → M q ≡ true) → AreHinted live H C
stand-from live F M [] H m all = tt
stand-from live F M (l ∷ ls) H m all = (m.hinted l (all l (contains-head l ls)), stand-from live F M ls H m (λ q i. all q (contains-tail l ls q i)))
