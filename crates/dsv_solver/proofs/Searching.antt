-- What the search keeps beside IsReady, and what ends it.
use Rattle.std.proofs.Common.{◌≡◌, ℕ, ◌+◌, ◌-◌, ◌<◌, ◌≤◌, Bool, true, not, List, [], ◌∷◌, ◌++◌, refl, arith, ap, sym, ◌∙◌, inl, inr, ◌⊎◌, length, take, slice_get, get_or, Some, None, Option, IsSome, Ok}
use Rattle.std.specs.Prelude.{MatchOption, IfSome, is_some}
use Rattle.dsv_solver.specs.WatchView.{WatchView}
use Rattle.std.proofs.lemmas.Bool.{cases_eq, cases_lt}
use Rattle.std.proofs.lemmas.List.{length-take-le, take-take}
use Rattle.std.proofs.lemmas.Option.{slice_get_within}
use Rattle.dsv_cnf.specs.Literal.{Literal, negation, literal_value}
use Rattle.dsv_cnf.specs.FormulaView.{FormulaView}
use Rattle.dsv_solver.specs.Learning.{HasLesson, HasGrown, IsPlan, WillLearn}
use Rattle.dsv_hints.specs.declared.step.Step.{Step}
use Rattle.dsv_hints.specs.declared.step.Step.TheVariants.{Add}
use Rattle.dsv_solver.proofs.Finals.{lesson-plain, lesson-new}
use Rattle.dsv_cnf.specs.Formula.{Satisfies, IsOver, AreOver, contains}
use Rattle.dsv_cnf.specs.LiteralSet.{none}
use Rattle.dsv_hints.specs.Derivation.{hints_answer}
use Rattle.dsv_solver.specs.Fine.{IsFine, AreFine}
use Rattle.dsv_trail.specs.TrailView.{TrailView}
use Rattle.dsv_trail.specs.Places.{falsifies, place_of}
use Rattle.dsv_solver.specs.Walk.{Counts}
use Rattle.dsv_solver.specs.Walking.{live_of, IsLearnable}
use Rattle.dsv_solver.specs.Analysis.{IsMarked}
use Rattle.dsv_solver.specs.Propagation.{IsJustified, IsReady, IsConflict}
use Rattle.dsv_solver.specs.Back.{back, IsLearned}
use Rattle.dsv_solver.specs.Search.{with_decision, IsRefuting, IsLast, IsLater}
use Rattle.dsv_trail.specs.Marks.{IsOpen}
use Rattle.dsv_trail.specs.Levels.{IsLevelOf, IsTrail}
use Rattle.dsv_trail.specs.declared.marks.Mark.{Mark}
use Rattle.dsv_solver.specs.declared.watches.Pair.{Pair}
use Rattle.dsv_cnf.proofs.ClauseLemmas.{contains-head, contains-tail, contains-cases, not_true, no_both, IsOver-member, contains-push, contains-push_left, contains-push_new, IsOver-from, value-member}
use Rattle.dsv_trail.proofs.PlaceLemmas.{falsifies-take, falsifies-first, place-is, open-not_false, reason-or-limit}
use Rattle.dsv_trail.proofs.Elements.{some-inside}
use Rattle.dsv_solver.proofs.Backs.{prefix-get, ready-decide, ready-back, ready-learned}
use Rattle.dsv_solver.proofs.Resolution.{derives-start, met-start}
use Rattle.dsv_solver.proofs.Walks.{below-false}
use Rattle.dsv_solver.proofs.Walkings.{live-of}

some-apart : (limits : List ℕ) (a b : ℕ) → Some a ≡ Some b → a < b → ⊥
some-apart limits a b e lt = omega (arith, lt, some-inside a b e)

-- what the analysis wants of the levels
pub zeroes : (t : TrailView) (z : ℕ) → IsTrail t → slice_get t.limits 0 ≡ Some z → (k : ℕ) (m : Mark) → slice_get t.marks k ≡ Some m → k < z → IsSome m.reason
zeroes t z h e k m at lt =
    elim (reason-or-limit t k m h at) [
      | inl r ↦ r
      | inr l ↦ absurd (elim (cases_eq l.number 0) [
        | inl same ↦ some-apart t.limits k z (sym l.at ∙ (ap (slice_get t.limits) same ∙ e)) lt
        | inr other ↦ omega (arith, lt, h.levels.rising 0 l.number z k (omega (arith, other)) e l.at)
      ])
    ]

pub implied_behind : (t : TrailView) (high : ℕ) → IsTrail t → slice_get t.limits (length t.limits - 1) ≡ Some high → (k : ℕ) (m : Mark) → slice_get t.marks k ≡ Some m → high < k → IsSome m.reason
implied_behind t high h e k m at lt =
    elim (reason-or-limit t k m h at) [
      | inl r ↦ r
      | inr l ↦ absurd (elim (cases_eq l.number (length t.limits - 1)) [
        | inl same ↦ some-apart t.limits high k (sym e ∙ (ap (slice_get t.limits) (sym same) ∙ l.at)) lt
        | inr other ↦ omega (arith, lt, h.levels.rising l.number (length t.limits - 1) k high (omega (arith, other, slice_get_within t.limits l.number k l.at)) l.at e)
      ])
    ]

-- at level 0 every literal has a reason
pub all_implied : (t : TrailView) → IsTrail t → t.limits ≡ [] → (k : ℕ) (m : Mark) → slice_get t.marks k ≡ Some m → IsSome m.reason
all_implied t h e k m at = elim (reason-or-limit t k m h at) [ inl r ↦ r | inr l ↦ let g = rw e at l.at in cc ]

-- ---- the refutation at level 0
pub refuting-start : (f : FormulaView) (t : TrailView) (M c : List Literal) (r : ℕ) → slice_get f.clauses r ≡ Some c → ((q : Literal) → contains c q ≡ true → falsifies t.marks q ≡ true) → ((q : Literal) → contains M q ≡ true → contains c q ≡ true) → ((q : Literal) → contains c q ≡ true → contains M q ≡ true) → IsRefuting f t (length t.marks) M ((r + 1) ∷ [])
refuting-start f t M c r at all in_c in_m =
    let stands = (live-of f).each r c at in
    record {
      met = met-start (live_of f) (falsifies t.marks) (contains M) c (r + 1) stands (λ q n. (all q (in_c q n), in_c q n));
      derives = derives-start (live_of f) (falsifies t.marks) (Counts t (λ q. ⊥) (length t.marks)) (contains M) c (r + 1) stands (λ q n. (in_m q n, inl (let w = place-is t.marks q (all q n) in slice_get_within t.marks (place_of t.marks q) w.mark w.at)));
      inside = omega arith;
    }

-- at the prefix of the trail the hints refute
pub refuting-end : (f : FormulaView) (t : TrailView) (M : List Literal) (H : List ℕ) → IsRefuting f t 0 M H → hints_answer (live_of f) H none ≡ Ok tt
refuting-end f t M H w =
    w.derives.derives none (record {
      are_false = λ a i. absurd cc;
      count = λ a i. absurd cc;
      covers = λ q x g. absurd (elim g [ inl a ↦ omega (arith, a) | inr b ↦ b ]);
    })

-- ---- from a lesson to the clause that is added after the way back
pub level-below : (t : TrailView) (high at level : ℕ) → slice_get t.limits (length t.limits - 1) ≡ Some high → at < high → IsLevelOf t.limits at level → level < length t.limits
level-below t high at level e lt l =
    let some = slice_get_within t.limits (length t.limits - 1) high e in
    elim (cases_lt level (length t.limits)) [
      | inl less ↦ less
      | inr ge ↦ absurd (omega (arith, lt, l.begun (length t.limits - 1) high (omega (arith, ge, some)) e))
    ]

limit-rises : (t : TrailView) (j k high : ℕ) → IsTrail t → slice_get t.limits j ≡ Some k → slice_get t.limits (length t.limits - 1) ≡ Some high → k ≤ high
limit-rises t j k high h e g =
    elim (cases_eq j (length t.limits - 1)) [
      | inl same ↦ let s : k ≡ high = some-inside k high (sym e ∙ (ap (slice_get t.limits) same ∙ g)) in omega (arith, s)
      | inr other ↦ omega (arith, h.levels.rising j (length t.limits - 1) k high (omega (arith, other, slice_get_within t.limits j k e)) e g)
    ]

-- with two literals: back to the level of the last of the others
pub learned-two : (f : FormulaView) (t : TrailView) (high j k : ℕ) (first other : Literal) (rest : List Literal) (hints : List ℕ)
    → IsJustified f.clauses t → IsTrail t → slice_get t.limits (length t.limits - 1) ≡ Some high → high ≤ place_of t.marks first → ((q : Literal) → contains (first ∷ rest) q ≡ true → falsifies t.marks q ≡ true)
    → IsLast t rest other → place_of t.marks other < high → slice_get t.limits j ≡ Some k → IsLevelOf t.limits (place_of t.marks other) j
    → IsLearned (back t j k) (first ∷ rest) (record { one = first; other = other })
learned-two f t high j k first other rest hints ju lv top first_high all last below e at =
    let up : k ≤ high = limit-rises t j k high lv e top in
    let lt : place_of t.marks other < k = at.later j k (omega arith) e in
    record {
      first = contains-head first rest;
      second = contains-tail first rest other last.stands;
      open_first = below-false t k first (omega (arith, up, first_high));
      open_negation = not_true (falsifies (take k t.marks) (negation first)) (λ h. ju.consistent first (all first (contains-head first rest)) (falsifies-take t.marks k (negation first) h));
      others = λ q i. elim (contains-cases first rest q i) [
        | inl s ↦ inl s
        | inr n ↦ inr (falsifies-first t.marks k q (all q i) (omega (arith, last.last q n, lt)))
      ];
      highest = inr (
        (λ s. omega (arith, first_high, below, ap (place_of t.marks) s)),
        λ i a x.
            let g = prefix-get t.limits j i a x in
            rw (take-take a k t.marks (omega (arith, at.begun i a g.0 g.1, lt))) (below-false t a other (at.begun i a g.0 g.1)),
      );
    }

-- with one literal: back to level 0
pub learned-one : (f : FormulaView) (t : TrailView) (high k : ℕ) (first : Literal) (hints : List ℕ)
    → IsJustified f.clauses t → IsTrail t → slice_get t.limits (length t.limits - 1) ≡ Some high → high ≤ place_of t.marks first → ((q : Literal) → contains (first ∷ []) q ≡ true → falsifies t.marks q ≡ true)
    → slice_get t.limits 0 ≡ Some k
    → IsLearned (back t 0 k) (first ∷ []) (record { one = first; other = first })
learned-one f t high k first hints ju lv top first_high all e =
    let up : k ≤ high = limit-rises t 0 k high lv e top in
    record {
      first = contains-head first [];
      second = contains-head first [];
      open_first = below-false t k first (omega (arith, up, first_high));
      open_negation = not_true (falsifies (take k t.marks) (negation first)) (λ h. ju.consistent first (all first (contains-head first [])) (falsifies-take t.marks k (negation first) h));
      others = λ q i. elim (contains-cases first [] q i) [ inl s ↦ inl s | inr n ↦ absurd cc ];
      highest = inl (λ j a x. let g = prefix-get t.limits 0 j a x in omega (arith, g.0));
    }

-- ---- a trail without an open variable, where every clause is fine
fine-true : (G : Literal → Bool) (v : ℕ → Bool) (c : List Literal) → ((q : Literal) → contains c q ≡ true → (G q ≡ true) ⊎ (G (negation q) ≡ true)) → ((q : Literal) → contains c q ≡ true → G (negation q) ≡ true → literal_value v q ≡ true) → IsFine G c → (l : Literal) × (contains c l ≡ true) × (literal_value v l ≡ true)
fine-true G v c total says (inl t) = (t.literal, t.stands, says t.literal t.stands t.is_true)
fine-true G v c total says (inr t) =
    elim (total t.one t.one_stands) [ inl x ↦ absurd (no_both (G t.one) x t.one_not) | inr y ↦ (t.one, t.one_stands, says t.one t.one_stands y) ]

pub satisfied : (vars : ℕ) (G : Literal → Bool) (v : ℕ → Bool) (cs : List (List Literal)) → AreOver vars cs → ((q : Literal) → q.var < vars → (G q ≡ true) ⊎ (G (negation q) ≡ true)) → ((q : Literal) → q.var < vars → G (negation q) ≡ true → literal_value v q ≡ true) → AreFine G cs → Satisfies v cs
satisfied vars G v [] over total says h = tt
satisfied vars G v (c ∷ cs) over total says h =
    let r = fine-true G v c (λ q i. total q (IsOver-member vars c q over.0 i)) (λ q i. says q (IsOver-member vars c q over.0 i)) h.0 in
    (value-member v c r.0 r.1 r.2, satisfied vars G v cs over.1 total says h.1)

-- ---- a decision
pub ready_decided : (f : FormulaView) (s : TrailView) (w : WatchView) (head level : ℕ) (l : Literal) → IsReady f s w head → head ≡ length s.marks → IsOpen s.marks l.var → IsReady f (with_decision s (record { literal = l; level = level; reason = None })) w head
ready_decided f s w head level l r h free =
    ready-decide f s w head (record { literal = l; level = level; reason = None }) r h (record { open_literal = open-not_false s.marks l free; open_negation = open-not_false s.marks (negation l) free; reason = tt })

pub none_answer : (o : Option ℕ) (A : Type 0) (B : ℕ → Type 0) (b : Bool) → is_some o ≡ not b → b ≡ true → MatchOption o A B → A
none_answer None A B b e t h = h
none_answer (Some x) A B b e t h = absurd (let g = ap not t in cc)

-- ---- a refutation's first hint
pub refuting_empty : (f : FormulaView) (r : ℕ) (c : List Literal) → slice_get f.clauses r ≡ Some c → c ≡ [] → hints_answer (live_of f) ((r + 1) ∷ []) none ≡ Ok tt
refuting_empty f r c at e =
    let stands = (live-of f).each r c at in rw (stands, e) refl

-- all literals are met, since the one that is skipped is true
pub refuting_marked : (f : FormulaView) (t : TrailView) (M c : List Literal) (first skipped : Literal) (r : ℕ) → IsJustified f.clauses t → slice_get f.clauses r ≡ Some c → ((q : Literal) → contains c q ≡ true → falsifies t.marks q ≡ true) → contains c first ≡ true → skipped ≡ negation first → IsMarked [] M c skipped → IsRefuting f t (length t.marks) M ((r + 1) ∷ [])
refuting_marked f t M c first skipped r j at all has e k =
    let not_skipped : (q : Literal) → contains c q ≡ true → q ≡ skipped → ⊥ = λ q i s. j.consistent first (all first has) (rw (← e, ← s) (all q i)) in
    refuting-start f t M c r at all
    (λ q n. elim (k.only q n) [ inl x ↦ absurd cc | inr x ↦ x.0 ])
    (λ q n. elim (k.all q n) [ inl x ↦ absurd (not_skipped q n x) | inr x ↦ x ])

pub first_stands : (c : List Literal) (d : Literal) → 0 < length c → contains c (get_or c 0 d) ≡ true
first_stands [] d h = absurd (omega (arith, h))
first_stands (l ∷ ls) d h = contains-head l ls

pub first_none : (c : List Literal) → length c ≡ 0 → c ≡ []
first_none [] h = refl
first_none (l ∷ ls) h = absurd (omega (arith, h))

-- ---- the literal that became false last
one_last : (t : TrailView) (l r : Literal) → r ≡ l → IsLast t (l ∷ []) r
one_last t l r e = rw e (record { stands = contains-head l []; last = λ q i. elim (contains-cases l [] q i) [ inl s ↦ rw s (omega arith) | inr n ↦ absurd cc ] })

pub last_more : (t : TrailView) (xs : List Literal) (l r : Literal) (o : Option Literal) → MatchOption o (xs ≡ []) (IsLast t xs) → IsLater t o l r → IsLast t (xs ++ l ∷ []) r
last_more t xs l r None h e = rw h (one_last t l r e)
last_more t xs l r (Some o) h (inl e) =
    rw e.0 (record {
      stands = contains-push_new xs l;
      last = λ q i. elim (contains-push xs l q i) [ inl a ↦ omega (arith, e.1, h.last q a) | inr b ↦ rw b (omega arith) ];
    })
last_more t xs l r (Some o) h (inr e) =
    rw e.0 (record {
      stands = contains-push_left xs l o h.stands;
      last = λ q i. elim (contains-push xs l q i) [ inl a ↦ h.last q a | inr b ↦ rw b e.1 ];
    })

pub later_known : (t : TrailView) (o : Option Literal) (l r : Literal) → IfSome o (λ q. (q.var < t.vars) × (falsifies t.marks q ≡ true)) → (l.var < t.vars) × (falsifies t.marks l ≡ true) → IsLater t o l r → (r.var < t.vars) × (falsifies t.marks r ≡ true)
later_known t None l r h k e = rw e k
later_known t (Some o) l r h k (inl e) = rw e.0 k
later_known t (Some o) l r h k (inr e) = rw e.0 h

-- ---- a lesson, from the analysis
pub conflict_all : (f : FormulaView) (t : TrailView) (i : ℕ) → IsConflict f t i → (c : List Literal) → slice_get f.clauses i ≡ Some c → (q : Literal) → contains c q ≡ true → falsifies t.marks q ≡ true
conflict_all f t i h c e q n =
    let s : h.clause ≡ c = some-inside h.clause c (sym h.at ∙ e) in h.all q (rw s n)

false_over : (n : ℕ) (ms : List Mark) (q : Literal) → ((i : ℕ) (m : Mark) → slice_get ms i ≡ Some m → m.literal.var < n) → falsifies ms q ≡ true → q.var < n
false_over n ms q o h = let p = place-is ms q h in let v : p.mark.literal.var ≡ q.var = ap (λ (l : Literal). l.var) p.is in rw v at (o (place_of ms q) p.mark p.at)

pub lesson_over : (f : FormulaView) (t : TrailView) (w : WatchView) (head high : ℕ) (c : List Literal) (h : List ℕ) → IsReady f t w head → IsTrail t → IsLearnable f t high c h → IsOver f.vars c
lesson_over f t w head high c h r o l = IsOver-from f.vars c (λ q i. let lt = false_over t.vars t.marks q o.marks.over (l.are_false q i) in omega (arith, lt, r.trail_vars))

-- ---- a learned clause after the way back
pub ready_back_all : (f : FormulaView) (s : TrailView) (w : WatchView) (head j k : ℕ) → IsReady f s w head → slice_get s.limits j ≡ Some k → IsReady f (back s j k) w (length (take k s.marks))
ready_back_all f s w head j k r e =
    let n : length (take k s.marks) ≡ k = length-take-le k s.marks (r.justified.limits j k e) in
    rw n (ready-back f s w head j k r e)

pub ready_added : (f : FormulaView) (s t : TrailView) (v w : WatchView) (head n j k : ℕ) (c : List Literal) (p : Pair) (m : Mark) → IsReady f s v head → slice_get s.limits j ≡ Some k → IsLearned (back s j k) c p → m.literal ≡ p.one → m.reason ≡ Some (length f.clauses) → w.vars ≡ v.vars → w.pairs ≡ v.pairs ++ p ∷ []
    → n ≡ length (take k s.marks) → t ≡ record (back s j k) { marks = take k s.marks ++ m ∷ [] } → IsReady (record f { clauses = f.clauses ++ c ∷ [] }) t w n
ready_added f s t v w head n j k c p m r e l one reason vars pairs ne te =
    rw (ne, te) (ready-learned f (back s j k) v w c p m (ready_back_all f s v head j k r e) l one reason vars pairs)

-- ---- the plan for a lesson
heads : (a b : Literal) (xs ys : List Literal) → (a ∷ xs) ≡ (b ∷ ys) → a ≡ b
heads a b xs ys e = cc

tails : (a b : Literal) (xs ys : List Literal) → (a ∷ xs) ≡ (b ∷ ys) → xs ≡ ys
tails a b xs ys e = cc

plan_one : (f : FormulaView) (t : TrailView) (high k level : ℕ) (clause : List Literal) (p : Pair) → IsJustified f.clauses t → IsTrail t → slice_get t.limits (length t.limits - 1) ≡ Some high → high ≤ place_of t.marks p.one → ((q : Literal) → contains clause q ≡ true → falsifies t.marks q ≡ true)
    → clause ≡ p.one ∷ [] → p.other ≡ p.one → level ≡ 0 → slice_get t.limits level ≡ Some k → IsLearned (back t level k) clause p
plan_one f t high k level clause p j lv top up all is two zero_level e =
    let pe : p ≡ record { one = p.one; other = p.one } = ap (λ (o : Literal). let q : Pair = record { one = p.one; other = o } in q) two in
    let now : slice_get t.limits 0 ≡ Some k = ap (slice_get t.limits) (sym zero_level) ∙ e in
    rw (zero_level, is, pe) (learned-one f t high k p.one [] j lv top up (λ q i. all q (rw is i)) now)

plan_two : (f : FormulaView) (t : TrailView) (high k level : ℕ) (clause rest : List Literal) (p : Pair) → IsJustified f.clauses t → IsTrail t → slice_get t.limits (length t.limits - 1) ≡ Some high → high ≤ place_of t.marks p.one → ((q : Literal) → contains clause q ≡ true → falsifies t.marks q ≡ true)
    → clause ≡ p.one ∷ rest → IsLast t rest p.other → place_of t.marks p.other < high → IsLevelOf t.limits (place_of t.marks p.other) level → slice_get t.limits level ≡ Some k → IsLearned (back t level k) clause p
plan_two f t high k level clause rest p j lv top up all is last below at e =
    rw is (learned-two f t high level k p.one p.other rest [] j lv top up (λ q i. all q (rw is i)) last below e at)

pub will_learn : (f : FormulaView) (t : TrailView) (clause : List Literal) (hints : List ℕ) (p : Pair) (level : ℕ) → IsJustified f.clauses t → IsTrail t → HasLesson f t clause hints → IsPlan t clause p level → f.vars ≡ t.vars → WillLearn t clause p level × (level < length t.limits)
will_learn f t clause hints p level j lv h plan vars =
    let same : h.lesson.first ≡ p.one = heads h.lesson.first p.one h.lesson.rest plan.rest (sym h.lesson.is ∙ plan.is) in
    let up : h.high ≤ place_of t.marks p.one = rw same at h.lesson.high_first in
    let some = slice_get_within t.limits (length t.limits - 1) h.high h.top in
    let in_clause : (q : Literal) → contains (p.one ∷ plan.rest) q ≡ true → contains clause q ≡ true = λ q i. rw plan.is i in
    let over : (q : Literal) → contains clause q ≡ true → q.var < t.vars = λ q i. let lt = IsOver-member f.vars clause q h.over i in omega (arith, lt, vars) in
    let one_over : p.one.var < t.vars = over p.one (in_clause p.one (contains-head p.one plan.rest)) in
    elim plan.which [
      | inl u ↦
          let is : clause ≡ p.one ∷ [] = plan.is ∙ ap (λ r. p.one ∷ r) u.0 in (
            (record {
              learned = λ k e. plan_one f t h.high k level clause p j lv h.top up h.lesson.are_false is u.1 u.2 e;
              over = record { one = one_over; other = rw u.1 one_over };
            }),
            omega (arith, u.2, some),
          )
      | inr u ↦
          let i : contains clause p.other ≡ true = in_clause p.other (contains-tail p.one plan.rest p.other u.0.stands) in
          let r : h.lesson.rest ≡ plan.rest = tails h.lesson.first p.one h.lesson.rest plan.rest (sym h.lesson.is ∙ plan.is) in
          let below : place_of t.marks p.other < h.high = h.lesson.lower p.other (rw r u.0.stands) in (
            (record {
              learned = λ k e. plan_two f t h.high k level clause plan.rest p j lv h.top up h.lesson.are_false plan.is u.0 below u.1 e;
              over = record { one = one_over; other = over p.other i };
            }),
            level-below t h.high (place_of t.marks p.other) level h.top below u.1,
          )
    ]

-- ---- the lesson as one more clause
pub has_grown : (f g : FormulaView) (t : TrailView) (log new : List Step) (clause : List Literal) (hints : List ℕ) (p : Pair) (level : ℕ) → IsJustified f.clauses t → HasLesson f t clause hints → IsPlan t clause p level
    → g ≡ record f { clauses = f.clauses ++ clause ∷ [] } → new ≡ log ++ Add (length f.clauses + 1) clause hints ∷ [] → HasGrown f g log new
has_grown f g t log new clause hints p level j h plan ge ne =
    record {
      clause = clause;
      hints = hints;
      clauses = ge;
      log_is = ne;
      over = h.over;
      plain = lesson-plain f t h.high clause hints j h.lesson;
      some = rw plan.is refl;
      derived = h.lesson.accepted;
      is_local = h.lesson.is_local;
      is_new = lesson-new f t h.high clause hints h.fine h.lesson;
    }

pub over_as : (n m : ℕ) (c : List Literal) → n ≡ m → IsOver n c → IsOver m c
over_as n m c e h = rw (← e) h
