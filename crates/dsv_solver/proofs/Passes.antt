use Rattle.std.proofs.Common.{◌≡◌, ℕ, Bool, true, false, not, ◌&&◌, List, [], ◌∷◌, Option, Some, None, Result, Ok, cond, refl, ap, sym, ◌∙◌, inl, inr, ◌⊎◌}
use Rattle.dsv_cnf.specs.Literal.{Literal, negation}
use Rattle.dsv_cnf.specs.LiteralSet.{none, with}
use Rattle.dsv_hints.specs.Clauses.{with_all, outside, only}
use Rattle.dsv_hints.specs.declared.hints.Move.{Move}
use Rattle.dsv_hints.specs.declared.hints.Move.TheVariants.{Ends, Makes, Stuck}
use Rattle.dsv_hints.specs.declared.step.StepRefusal.{StepRefusal}
use Rattle.dsv_hints.specs.Derivation.{Entry, live_clause, move_of, after_move, after_clause, hints_answer}
use Rattle.dsv_hints.specs.Follows.{clauses_of}
use Rattle.dsv_hints.specs.Local.{pass_literals, after_first, has_all, IsNoSuperset}
use Rattle.dsv_solver.specs.Walking.{Between, Passes, LearnedAt}
use Rattle.dsv_cnf.specs.Formula.{contains}
use Rattle.dsv_solver.specs.Fine.{HasTwo, IsFine, AreFine}
use Rattle.dsv_cnf.proofs.ClauseLemmas.{contains-cases, not_true, no_both}
use Rattle.dsv_cnf.proofs.SetLemmas.{with-head, with-tail, with-cases}
use Rattle.dsv_hints.proofs.MoveLemmas.{with_all-cases, move-makes, move-stuck, member-outside, only-same}
use Rattle.dsv_solver.proofs.Resolution.{IsMore}
use Rattle.dsv_algebra.proofs.Booleans.{and_left, and_right}

not-below : (G : Literal → Bool) (A : Literal → Bool) (x : Literal) → ((a : Literal) → A a ≡ true → G a ≡ true) → G x ≡ false → A x ≡ false
not-below G A x h n = not_true (A x) (λ i. no_both (G x) (h x i) n)

-- a clause with two literals that are not false below is passed over
pub two-stuck : (G : Literal → Bool) (A : Literal → Bool) (c : List Literal) → ((a : Literal) → A a ≡ true → G a ≡ true) → HasTwo G c → move_of A (outside A c) ≡ Stuck
two-stuck G A c h t = move-stuck A c t.one t.other t.one_stands t.other_stands (not-below G A t.one h t.one_not) (not-below G A t.other h t.other_not) t.apart

-- a fine clause with nothing true has two literals that are not false
pub fine-two : (G : Literal → Bool) (c : List Literal) → IsFine G c → ((q : Literal) → contains c q ≡ true → G (negation q) ≡ false) → HasTwo G c
fine-two G c (inl t) n = absurd (no_both (G (negation t.literal)) t.is_true (n t.literal t.stands))
fine-two G c (inr t) n = t

pub passes-start : (live : List Entry) (Z Low : Literal → Type 0) (G : Literal → Bool) (M : Literal → Bool) (c : List Literal) (h : ℕ) → live_clause live h ≡ Some c → HasTwo G c → Passes live Z Low G M (h ∷ [])
passes-start live Z Low G M c h e t = record { same = λ A B a b. rw (e, two-stuck G A c a.below t, two-stuck G B c b.below t) refl }

between-less : (Z Low : Literal → Type 0) (G : Literal → Bool) (M N A : Literal → Bool) → IsMore M N → Between Z Low G N A → Between Z Low G M A
between-less Z Low G M N A m b = record { below = b.below; count = b.count; covers = λ q i z. b.covers q (m.more q i) z }

-- a reason of the present level
pub passes-high : (live : List Entry) (Z Low : Literal → Type 0) (G : Literal → Bool) (M N : Literal → Bool) (c : List Literal) (H : List ℕ) (h : ℕ) → live_clause live h ≡ Some c → HasTwo G c → IsMore M N → Passes live Z Low G M H → Passes live Z Low G N (h ∷ H)
passes-high live Z Low G M N c H h e t m p =
    record { same = λ A B a b. rw (e, two-stuck G A c a.below t, two-stuck G B c b.below t) (p.same A B (between-less Z Low G M N A m a) (between-less Z Low G M N B m b)) }

-- the reason of a literal of level 0
pub record Zeroes (live : List Entry) (Y Z Low : Literal → Type 0) (G : Literal → Bool) (M N : Literal → Bool) (h : ℕ) (p : Literal) : Type 0 where
  pub clause : List Literal
  pub stands : live_clause live h ≡ Some clause
  pub has : contains clause p ≡ true
  pub others : (q : Literal) → contains clause q ≡ true → (q ≡ p) ⊎ ((N q ≡ true) × Z q)
  pub is_true : G p ≡ false
  pub is_false : G (negation p) ≡ true
  pub counts : Y (negation p)
  pub gone : (Z (negation p) ⊎ Low (negation p)) → ⊥
  pub less : (q : Literal) → Z q → Y q
  pub rest : (q : Literal) → M q ≡ true → Y q → (q ≡ negation p) ⊎ Z q
  pub more : IsMore M N

zero-makes : (live : List Entry) (Y Z Low : Literal → Type 0) (G : Literal → Bool) (M N A : Literal → Bool) (h : ℕ) (p : Literal) → (r : Zeroes live Y Z Low G M N h p) → Between Z Low G N A → move_of A (outside A r.clause) ≡ Makes p
zero-makes live Y Z Low G M N A h p r b =
    move-makes A r.clause p r.has
    (λ q i. elim (r.others q i) [ inl e ↦ inl e | inr o ↦ inr (b.covers q o.0 o.1) ])
    (not_true (A p) (λ i. no_both (G p) (b.below p i) r.is_true))
    (not_true (A (negation p)) (λ i. r.gone (b.count (negation p) i)))

zero-between : (live : List Entry) (Y Z Low : Literal → Type 0) (G : Literal → Bool) (M N A : Literal → Bool) (h : ℕ) (p : Literal) → Zeroes live Y Z Low G M N h p → Between Z Low G N A → Between Y Low G M (with (negation p) A)
zero-between live Y Z Low G M N A h p r b =
    record {
      below = λ a i. elim (with-cases (negation p) A a i) [ inl e ↦ rw e r.is_false | inr j ↦ b.below a j ];
      count = λ a i. elim (with-cases (negation p) A a i) [ inl e ↦ inl (rw e r.counts) | inr j ↦ elim (b.count a j) [ inl z ↦ inl (r.less a z) | inr l ↦ inr l ] ];
      covers = λ q i y. elim (r.rest q i y) [ inl e ↦ rw e (with-head (negation p) A) | inr z ↦ with-tail (negation p) A q (b.covers q (r.more.more q i) z) ];
    }

pub passes-zero : (live : List Entry) (Y Z Low : Literal → Type 0) (G : Literal → Bool) (M N : Literal → Bool) (H : List ℕ) (h : ℕ) (p : Literal) → Zeroes live Y Z Low G M N h p → Passes live Y Low G M H → Passes live Z Low G N (h ∷ H)
passes-zero live Y Z Low G M N H h p r d =
    record {
      same = λ A B a b.
          rw (r.stands, zero-makes live Y Z Low G M N A h p r a, zero-makes live Y Z Low G M N B h p r b)
          (ap (λ x. negation p ∷ x) (d.same (with (negation p) A) (with (negation p) B) (zero-between live Y Z Low G M N A h p r a) (zero-between live Y Z Low G M N B h p r b)));
    }

pub passes-recount : (live : List Entry) (Y Z Low : Literal → Type 0) (G : Literal → Bool) (M : Literal → Bool) (H : List ℕ) → Passes live Y Low G M H → ((q : Literal) → G q ≡ true → Z q → Y q ⊎ Low q) → ((q : Literal) → M q ≡ true → Y q → Z q) → Passes live Z Low G M H
passes-recount live Y Z Low G M H p f g =
    let move : (A : Literal → Bool) → Between Z Low G M A → Between Y Low G M A = λ A b. record { below = b.below; count = λ a i. elim (b.count a i) [ inl z ↦ f a (b.below a i) z | inr l ↦ inr l ]; covers = λ q i y. b.covers q i (g q i y) } in
    record { same = λ A B a b. p.same A B (move A a) (move B b) }

-- the third sentence
pub passes-end : (live : List Entry) (Z Low : Literal → Type 0) (G : Literal → Bool) (M : Literal → Bool) (C : List Literal) (H : List ℕ) → Passes live Z Low G M H → ((q : Literal) → Z q → ⊥) → ((q : Literal) → contains (after_first C) q ≡ true → (G q ≡ true) × Low q) → pass_literals live H (with_all (after_first C) none) ≡ pass_literals live H none
passes-end live Z Low G M C H p z l =
    let at : (a : Literal) → with_all (after_first C) none a ≡ true → contains (after_first C) a ≡ true = λ a i. elim (with_all-cases (after_first C) none a i) [ inl e ↦ e | inr n ↦ absurd cc ] in
    p.same (with_all (after_first C) none) none
    (record { below = λ a i. (l a (at a i)).0; count = λ a i. inr (l a (at a i)).1; covers = λ q i s. absurd (z q s) })
    (record { below = λ a i. cc; count = λ a i. cc; covers = λ q i s. absurd (z q s) })

-- no superset of a clause that is fine below
has_all-member : (c d : List Literal) (q : Literal) → has_all c d ≡ true → contains d q ≡ true → contains c q ≡ true
has_all-member c [] q w i = cc
has_all-member c (m ∷ ms) q w i =
    elim (contains-cases m ms q i) [ inl e ↦ rw e (and_left (contains c m) (has_all c ms) w) | inr j ↦ has_all-member c ms q (and_right (contains c m) (has_all c ms) w) j ]

fine-not-all : (G : Literal → Bool) (C d : List Literal) (first : Literal) → LearnedAt G C first → IsFine G d → has_all C d ≡ true → ⊥
fine-not-all G C d first l (inl t) w = no_both (G (negation t.literal)) t.is_true (l.not_true t.literal (has_all-member C d t.literal w t.stands))
fine-not-all G C d first l (inr t) w =
    elim (l.below t.one (has_all-member C d t.one w t.one_stands)) [
      | inr g ↦ no_both (G t.one) g t.one_not
      | inl e ↦ elim (l.below t.other (has_all-member C d t.other w t.other_stands)) [ inr g ↦ no_both (G t.other) g t.other_not | inl f ↦ t.apart (e ∙ sym f) ]
    ]

pub no-superset : (G : Literal → Bool) (C : List Literal) (first : Literal) (es : List Entry) → LearnedAt G C first → AreFine G (clauses_of es) → IsNoSuperset es C
no-superset G C first [] l h = tt
no-superset G C first (e ∷ es) l h = (not_true (has_all C e.clause) (fine-not-all G C e.clause first l h.0), no-superset G C first es l h.1)

-- after a closed level unit steps derive nothing
pub record IsClosed (live : List Entry) (F : Literal → Bool) : Type 0 where
  pub consistent : (q : Literal) → F q ≡ true → F (negation q) ≡ true → ⊥
  pub fine : (h : ℕ) (c : List Literal) → live_clause live h ≡ Some c → IsFine F c

makes_cond : (l m : Literal) (b n : Bool) → cond (b && n) (Makes m) Stuck ≡ Makes l → (b ≡ true) × (m ≡ l)
makes_cond l m true true e = (refl, cc)
makes_cond l m true false e = cc
makes_cond l m false n e = cc

only-member : (m : Literal) (ms : List Literal) (q : Literal) → only m ms ≡ true → contains (m ∷ ms) q ≡ true → q ≡ m
only-member m ms q o i = elim (contains-cases m ms q i) [ inl e ↦ e | inr j ↦ only-same m ms q o j ]

makes-outside : (A : Literal → Bool) (out : List Literal) (l : Literal) → move_of A out ≡ Makes l → (q : Literal) → contains out q ≡ true → q ≡ l
makes-outside A [] l e = cc
makes-outside A (m ∷ ms) l e = λ q i. let k = makes_cond l m (only m ms) (not (A (negation m))) e in only-member m ms q k.0 i ∙ k.1

ends_cond : (m : Literal) (b : Bool) → cond b (Makes m) Stuck ≡ Ends → ⊥
ends_cond m true e = cc
ends_cond m false e = cc

ends-outside : (A : Literal → Bool) (out : List Literal) → move_of A out ≡ Ends → (q : Literal) → contains out q ≡ true → ⊥
ends-outside A [] e = λ q i. cc
ends-outside A (m ∷ ms) e = absurd (ends_cond m (only m ms && not (A (negation m))) e)

-- what a fine clause makes true is true
fine-makes : (F : Literal → Bool) (A : Literal → Bool) (c : List Literal) (l : Literal) → ((q : Literal) → F q ≡ true → F (negation q) ≡ true → ⊥) → ((a : Literal) → A a ≡ true → F a ≡ true) → IsFine F c → move_of A (outside A c) ≡ Makes l → F (negation l) ≡ true
fine-makes F A c l k b (inl t) e =
    let o : A t.literal ≡ false = not_true (A t.literal) (λ i. k t.literal (b t.literal i) t.is_true) in
    let s : t.literal ≡ l = makes-outside A (outside A c) l e t.literal (member-outside A c t.literal t.stands o) in
    rw (← s) t.is_true
fine-makes F A c l k b (inr t) e =
    let s : t.one ≡ l = makes-outside A (outside A c) l e t.one (member-outside A c t.one t.one_stands (not-below F A t.one b t.one_not)) in
    let u : t.other ≡ l = makes-outside A (outside A c) l e t.other (member-outside A c t.other t.other_stands (not-below F A t.other b t.other_not)) in
    absurd (t.apart (s ∙ sym u))

fine-ends : (F : Literal → Bool) (A : Literal → Bool) (c : List Literal) → ((q : Literal) → F q ≡ true → F (negation q) ≡ true → ⊥) → ((a : Literal) → A a ≡ true → F a ≡ true) → IsFine F c → move_of A (outside A c) ≡ Ends → ⊥
fine-ends F A c k b (inl t) e =
    ends-outside A (outside A c) e t.literal (member-outside A c t.literal t.stands (not_true (A t.literal) (λ i. k t.literal (b t.literal i) t.is_true)))
fine-ends F A c k b (inr t) e =
    ends-outside A (outside A c) e t.one (member-outside A c t.one t.one_stands (not-below F A t.one b t.one_not))

closed_move : (F : Literal → Bool) (A : Literal → Bool) (c : List Literal) (hs : List ℕ) (next : Literal → Result (Unit {0}) StepRefusal) (m : Move) → ((q : Literal) → F q ≡ true → F (negation q) ≡ true → ⊥) → ((a : Literal) → A a ≡ true → F a ≡ true) → IsFine F c → move_of A (outside A c) ≡ m → ((l : Literal) → F (negation l) ≡ true → next l ≡ Ok tt → ⊥) → after_move m hs next ≡ Ok tt → ⊥
closed_move F A c hs next Ends k b f e ih n = fine-ends F A c k b f e
closed_move F A c hs next (Makes l) k b f e ih n = ih l (fine-makes F A c l k b f e) n
closed_move F A c hs next Stuck k b f e ih n = cc

closed_clause : (live : List Entry) (F : Literal → Bool) (A : Literal → Bool) (h : ℕ) (hs : List ℕ) (next : Literal → Result (Unit {0}) StepRefusal) (o : Option (List Literal)) → IsClosed live F → ((a : Literal) → A a ≡ true → F a ≡ true) → live_clause live h ≡ o → ((l : Literal) → F (negation l) ≡ true → next l ≡ Ok tt → ⊥) → after_clause A o hs next ≡ Ok tt → ⊥
closed_clause live F A h hs next None k b e ih n = cc
closed_clause live F A h hs next (Some c) k b e ih n = closed_move F A c hs next (move_of A (outside A c)) k.consistent b (k.fine h c e) refl ih n

extends : (F : Literal → Bool) (A : Literal → Bool) (l : Literal) → F l ≡ true → ((a : Literal) → A a ≡ true → F a ≡ true) → (a : Literal) → with l A a ≡ true → F a ≡ true
extends F A l f b a i = elim (with-cases l A a i) [ inl e ↦ rw e f | inr j ↦ b a j ]

pub closed-derives-not : (live : List Entry) (F : Literal → Bool) (hs : List ℕ) (A : Literal → Bool) → IsClosed live F → ((a : Literal) → A a ≡ true → F a ≡ true) → hints_answer live hs A ≡ Ok tt → ⊥
closed-derives-not live F [] A k b n = cc
closed-derives-not live F (h ∷ hs) A k b n =
    closed_clause live F A h hs (λ l. hints_answer live hs (with (negation l) A)) (live_clause live h) k b refl
    (λ l f m. closed-derives-not live F hs (with (negation l) A) k (extends F A (negation l) f b) m) n

pub no-refutation : (live : List Entry) (F : Literal → Bool) (hs : List ℕ) → IsClosed live F → hints_answer live hs none ≡ Ok tt → ⊥
no-refutation live F hs k n = closed-derives-not live F hs none k (λ a i. cc) n
