-- What each gate gives, folded or not.
use Rattle.std.proofs.Common.{◌≡◌, ℕ, ◌+◌, ◌<◌, Bool, true, false, not, ◌||◌, ◌&&◌, List, [], ◌∷◌, cond, refl, arith, ap, ◌∙◌, inl, inr}
use Rattle.std.proofs.lemmas.Bool.{or_cases}
use Rattle.std.proofs.lemmas.List.Elements.{All-cons, All-nil}
use Rattle.dsv_cnf.specs.Literal.{Literal, negation, literal_value, literal_eq}
use Rattle.dsv_cnf.specs.Formula.{Satisfies, IsOver}
use Rattle.dsv_blast.specs.CircuitView.{CircuitView, Wired}
use Rattle.dsv_blast.specs.Gates.{positive, zero_of, negated, exclusive, majority, is_settled, and_clauses, exclusive_clauses, parity_clauses, majority_clauses, choice_clauses, and_wired, or_wired, exclusive_wired, exclusive_then, parity_wired, choice_wired, choice_then, majority_wired}
use Rattle.dsv_blast.proofs.Truths.{value-negation, value-same, value-opposite, and_clauses-say, exclusive_clauses-say, parity_clauses-say, majority_clauses-say, choice_clauses-say}
use Rattle.dsv_blast.proofs.Growth.{literal-agrees, IsCircuit, grows-both, IsGate, GivesBit, gated-gives, folded-gives, value-zero, gives-as}
use Rattle.dsv_blast.proofs.Folds.{and_equal, and_opposite, and_first_true, and_second_true, and_first_false, and_second_false, exclusive_equal, exclusive_opposite, exclusive_first_true, exclusive_second_true, exclusive_first_false, exclusive_second_false, or_by_and, parity_second, parity_third, majority_first, majority_second, majority_third, choice_true, choice_false, choice_equal, choice_opposite, choice_first_true, choice_first_test, choice_first_false, choice_first_untest, choice_second_true, choice_second_untest, choice_second_false, choice_second_test}

-- ---- the clauses' variables

over-nil : (n : ℕ) → IsOver n []
over-nil n = All-nil (λ (q : Literal). q.var < n)

over-cons : (n : ℕ) (l : Literal) (ls : List Literal) → l.var < n → IsOver n ls → IsOver n (l ∷ ls)
over-cons n l ls h k = All-cons (λ (q : Literal). q.var < n) l ls h k

over-two : (n : ℕ) (a b : Literal) → a.var < n → b.var < n → IsOver n (a ∷ b ∷ [])
over-two n a b h k = over-cons n a (b ∷ []) h (over-cons n b [] k (over-nil n))

over-three : (n : ℕ) (a b c : Literal) → a.var < n → b.var < n → c.var < n → IsOver n (a ∷ b ∷ c ∷ [])
over-three n a b c h k l = over-cons n a (b ∷ c ∷ []) h (over-two n b c k l)

over-four : (n : ℕ) (a b c d : Literal) → a.var < n → b.var < n → c.var < n → d.var < n → IsOver n (a ∷ b ∷ c ∷ d ∷ [])
over-four n a b c d h k l m = over-cons n a (b ∷ c ∷ d ∷ []) h (over-three n b c d k l m)

-- ---- gates

and_gate : (n : ℕ) (a b : Literal) → a.var < n → b.var < n → IsGate n (and_clauses a b) (λ v. literal_value v a && literal_value v b)
and_gate n a b p q =
    let x : a.var < n + 1 = omega arith in
    let y : b.var < n + 1 = omega arith in
    let o = positive n in
    let z : n < n + 1 = omega arith in
    record {
      say = λ v l. and_clauses-say v a b l;
      earlier = λ v w g. rw (literal-agrees n v w a g p, literal-agrees n v w b g q) refl;
      over = (over-three (n + 1) (negation a) (negation b) o x y z, (over-two (n + 1) a (negation o) x z, (over-two (n + 1) b (negation o) y z, tt)));
    }

exclusive_gate : (n : ℕ) (a b : Literal) → a.var < n → b.var < n → IsGate n (exclusive_clauses a b) (λ v. exclusive (literal_value v a) (literal_value v b))
exclusive_gate n a b p q =
    let x : a.var < n + 1 = omega arith in
    let y : b.var < n + 1 = omega arith in
    let o = positive n in
    let z : n < n + 1 = omega arith in
    record {
      say = λ v l. exclusive_clauses-say v a b l;
      earlier = λ v w g. rw (literal-agrees n v w a g p, literal-agrees n v w b g q) refl;
      over = (over-three (n + 1) (negation a) (negation b) (negation o) x y z, (over-three (n + 1) a b (negation o) x y z, (over-three (n + 1) (negation a) b o x y z, (over-three (n + 1) a (negation b) o x y z, tt))));
    }

parity_gate : (n : ℕ) (a b c : Literal) → a.var < n → b.var < n → c.var < n → IsGate n (parity_clauses a b c) (λ v. exclusive (exclusive (literal_value v a) (literal_value v b)) (literal_value v c))
parity_gate n a b c p q r =
    let x : a.var < n + 1 = omega arith in
    let y : b.var < n + 1 = omega arith in
    let z : c.var < n + 1 = omega arith in
    let o = positive n in
    let m : n < n + 1 = omega arith in
    let na = negation a in
    let nb = negation b in
    let nc = negation c in
    let no = negation o in
    let four = over-four (n + 1) in
    record {
      say = λ v l. parity_clauses-say v a b c l;
      earlier = λ v w g. rw (literal-agrees n v w a g p, literal-agrees n v w b g q, literal-agrees n v w c g r) refl;
      over = (
        four a nb nc no x y z m,
        (
          four a b c no x y z m,
          (
            four a nb c o x y z m,
            (
              four a b nc o x y z m,
              (four na nb nc (negation no) x y z m, (four na b c (negation no) x y z m, (four na nb c no x y z m, (four na b nc no x y z m, tt)))),
            ),
          ),
        ),
      );
    }

majority_gate : (n : ℕ) (a b c : Literal) → a.var < n → b.var < n → c.var < n → IsGate n (majority_clauses a b c) (λ v. majority (literal_value v a) (literal_value v b) (literal_value v c))
majority_gate n a b c p q r =
    let x : a.var < n + 1 = omega arith in
    let y : b.var < n + 1 = omega arith in
    let z : c.var < n + 1 = omega arith in
    let o = positive n in
    let m : n < n + 1 = omega arith in
    let na = negation a in
    let nb = negation b in
    let nc = negation c in
    let no = negation o in
    let three = over-three (n + 1) in
    record {
      say = λ v l. majority_clauses-say v a b c l;
      earlier = λ v w g. rw (literal-agrees n v w a g p, literal-agrees n v w b g q, literal-agrees n v w c g r) refl;
      over = (
        three na nb o x y m,
        (
          three na nc o x z m,
          (
            three nb nc o y z m,
            (three (negation na) (negation nb) no x y m, (three (negation na) (negation nc) no x z m, (three (negation nb) (negation nc) no y z m, tt))),
          ),
        ),
      );
    }

choice_gate : (n : ℕ) (k a b : Literal) → k.var < n → a.var < n → b.var < n → IsGate n (choice_clauses k a b) (λ v. cond (literal_value v k) (literal_value v a) (literal_value v b))
choice_gate n k a b r p q =
    let x : a.var < n + 1 = omega arith in
    let y : b.var < n + 1 = omega arith in
    let z : k.var < n + 1 = omega arith in
    let o = positive n in
    let m : n < n + 1 = omega arith in
    let na = negation a in
    let nb = negation b in
    let nk = negation k in
    let no = negation o in
    let three = over-three (n + 1) in
    record {
      say = λ v l. choice_clauses-say v k a b l;
      earlier = λ v w g. rw (literal-agrees n v w k g r, literal-agrees n v w a g p, literal-agrees n v w b g q) refl;
      over = (
        three nk na o z x m,
        (
          three k nb o z y m,
          (
            three na nb o x y m,
            (three nk (negation na) no z x m, (three k (negation nb) no z y m, (three (negation na) (negation nb) no x y m, tt))),
          ),
        ),
      );
    }

-- ---- gates that may be folded

split : (c : CircuitView) (t : Bool) (x y : Wired) (value : (ℕ → Bool) → Bool) → (t ≡ true → GivesBit c x value) → (t ≡ false → GivesBit c y value) → GivesBit c (cond t x y) value
split c true x y value f g = f refl
split c false x y value f g = g refl

pub and-gives : (c : CircuitView) (a b : Literal) → IsCircuit c → a.var < c.formula.vars → b.var < c.formula.vars → GivesBit c (and_wired c a b) (λ v. literal_value v a && literal_value v b)
unfolding and_wired
and-gives c a b s p q =
    let f = λ (v : ℕ → Bool). literal_value v a && literal_value v b in
    split c (literal_eq a b) _ _ f (λ e. folded-gives c a f s p (λ v h. and_equal _ _ (value-same v a b e))) (λ n1.
    split c (literal_eq a (negation b)) _ _ f (λ e. folded-gives c (zero_of c) f s s.stands (λ v h. value-zero c v h ∙ and_opposite _ _ (value-opposite v a b e))) (λ n2.
    split c (literal_eq a c.one) _ _ f (λ e. folded-gives c b f s q (λ v h. and_first_true _ _ (value-same v a c.one e ∙ h))) (λ n3.
    split c (literal_eq b c.one) _ _ f (λ e. folded-gives c a f s p (λ v h. and_second_true _ _ (value-same v b c.one e ∙ h))) (λ n4.
    split c (literal_eq a (zero_of c)) _ _ f (λ e. folded-gives c a f s p (λ v h. and_first_false _ _ (value-same v a (zero_of c) e ∙ value-zero c v h))) (λ n5.
    split c (literal_eq b (zero_of c)) _ _ f (λ e. folded-gives c b f s q (λ v h. and_second_false _ _ (value-same v b (zero_of c) e ∙ value-zero c v h))) (λ n6.
    gated-gives c (and_clauses a b) f s (and_gate c.formula.vars a b p q)))))))

pub negated-gives : (c : CircuitView) (r : Wired) (value : (ℕ → Bool) → Bool) → GivesBit c r value → GivesBit c (negated r) (λ v. not (value v))
negated-gives c r value g = record { grows = g.grows; over = g.over; says = λ v h. value-negation v r.bit ∙ ap not (g.says v h) }

pub or-gives : (c : CircuitView) (a b : Literal) → IsCircuit c → a.var < c.formula.vars → b.var < c.formula.vars → GivesBit c (or_wired c a b) (λ v. literal_value v a || literal_value v b)
or-gives c a b s p q =
    gives-as c (or_wired c a b) (λ v. not (literal_value v (negation a) && literal_value v (negation b))) (λ v. literal_value v a || literal_value v b)
    (negated-gives c (and_wired c (negation a) (negation b)) (λ v. literal_value v (negation a) && literal_value v (negation b)) (and-gives c (negation a) (negation b) s p q))
    (λ v h. rw (value-negation v a, value-negation v b) (or_by_and (literal_value v a) (literal_value v b)))

pub exclusive-gives : (c : CircuitView) (a b : Literal) → IsCircuit c → a.var < c.formula.vars → b.var < c.formula.vars → GivesBit c (exclusive_wired c a b) (λ v. exclusive (literal_value v a) (literal_value v b))
unfolding exclusive_wired
exclusive-gives c a b s p q =
    let f = λ (v : ℕ → Bool). exclusive (literal_value v a) (literal_value v b) in
    split c (literal_eq a b) _ _ f (λ e. folded-gives c (zero_of c) f s s.stands (λ v h. value-zero c v h ∙ exclusive_equal _ _ (value-same v a b e))) (λ n1.
    split c (literal_eq a (negation b)) _ _ f (λ e. folded-gives c c.one f s s.stands (λ v h. h ∙ exclusive_opposite _ _ (value-opposite v a b e))) (λ n2.
    split c (literal_eq a c.one) _ _ f (λ e. folded-gives c (negation b) f s q (λ v h. value-negation v b ∙ exclusive_first_true _ _ (value-same v a c.one e ∙ h))) (λ n3.
    split c (literal_eq b c.one) _ _ f (λ e. folded-gives c (negation a) f s p (λ v h. value-negation v a ∙ exclusive_second_true _ _ (value-same v b c.one e ∙ h))) (λ n4.
    split c (literal_eq a (zero_of c)) _ _ f (λ e. folded-gives c b f s q (λ v h. exclusive_first_false _ _ (value-same v a (zero_of c) e ∙ value-zero c v h))) (λ n5.
    split c (literal_eq b (zero_of c)) _ _ f (λ e. folded-gives c a f s p (λ v h. exclusive_second_false _ _ (value-same v b (zero_of c) e ∙ value-zero c v h))) (λ n6.
    gated-gives c (exclusive_clauses a b) f s (exclusive_gate c.formula.vars a b p q)))))))

exclusive_then-gives : (c : CircuitView) (a b l : Literal) → IsCircuit c → a.var < c.formula.vars → b.var < c.formula.vars → l.var < c.formula.vars → GivesBit c (exclusive_then (exclusive_wired c a b) l) (λ v. exclusive (exclusive (literal_value v a) (literal_value v b)) (literal_value v l))
exclusive_then-gives c a b l s p q r =
    let x = exclusive-gives c a b s p q in
    let d = (exclusive_wired c a b).circuit in
    let y = exclusive-gives d (exclusive_wired c a b).bit l x.grows.sound x.over (omega (arith, x.grows.longer)) in
    record {
      grows = grows-both c d (exclusive_then (exclusive_wired c a b) l).circuit x.grows y.grows;
      over = y.over;
      says = λ v h. y.says v h ∙ ap (λ t. exclusive t (literal_value v l)) (x.says v (y.grows.less v h));
    }

pub parity-gives : (k : CircuitView) (a b c : Literal) → IsCircuit k → a.var < k.formula.vars → b.var < k.formula.vars → c.var < k.formula.vars → GivesBit k (parity_wired k a b c) (λ v. exclusive (exclusive (literal_value v a) (literal_value v b)) (literal_value v c))
unfolding parity_wired
parity-gives k a b c s p q r =
    let f = λ (v : ℕ → Bool). exclusive (exclusive (literal_value v a) (literal_value v b)) (literal_value v c) in
    split k (is_settled k a b) _ _ f (λ e. exclusive_then-gives k a b c s p q r) (λ n1.
    split k (is_settled k a c) _ _ f (λ e. gives-as k _ _ f (exclusive_then-gives k a c b s p r q) (λ v h. parity_second (literal_value v a) (literal_value v b) (literal_value v c))) (λ n2.
    split k (is_settled k b c) _ _ f (λ e. gives-as k _ _ f (exclusive_then-gives k b c a s q r p) (λ v h. parity_third (literal_value v a) (literal_value v b) (literal_value v c))) (λ n3.
    gated-gives k (parity_clauses a b c) f s (parity_gate k.formula.vars a b c p q r))))

-- what the constant is where the later clauses hold
fixed_at : (k : CircuitView) (r : Wired) (value : (ℕ → Bool) → Bool) → GivesBit k r value → (v : ℕ → Bool) → Satisfies v r.circuit.formula.clauses → IsCircuit k → literal_value v k.one ≡ true
fixed_at k r value g v h s = s.fixed v (g.grows.less v h)

pub choice-gives : (k : CircuitView) (c a b : Literal) → IsCircuit k → c.var < k.formula.vars → a.var < k.formula.vars → b.var < k.formula.vars → GivesBit k (choice_wired k c a b) (λ v. cond (literal_value v c) (literal_value v a) (literal_value v b))
unfolding choice_wired
choice-gives k c a b s r p q =
    let f = λ (v : ℕ → Bool). cond (literal_value v c) (literal_value v a) (literal_value v b) in
    let zero : (v : ℕ → Bool) → literal_value v k.one ≡ true → literal_value v (zero_of k) ≡ false = λ v h. value-zero k v h in
    split k (literal_eq c k.one) _ _ f (λ e. folded-gives k a f s p (λ v h. choice_true (literal_value v c) (literal_value v a) (literal_value v b) (value-same v c k.one e ∙ h))) (λ n1.
    split k (literal_eq c (zero_of k)) _ _ f (λ e. folded-gives k b f s q (λ v h. choice_false (literal_value v c) (literal_value v a) (literal_value v b) (value-same v c (zero_of k) e ∙ zero v h))) (λ n2.
    split k (literal_eq a b) _ _ f (λ e. folded-gives k a f s p (λ v h. choice_equal (literal_value v c) (literal_value v a) (literal_value v b) (value-same v a b e))) (λ n3.
    split k (literal_eq a (negation b)) _ _ f (λ e. gives-as k _ _ f (exclusive-gives k c b s r q) (λ v h. choice_opposite (literal_value v c) (literal_value v a) (literal_value v b) (value-opposite v a b e))) (λ n4.
    split k (literal_eq a k.one || literal_eq a c) _ _ f (λ e. let g = or-gives k c b s r q in gives-as k _ _ f g (λ v h.
    elim (or_cases (literal_eq a k.one) (literal_eq a c) e) [
      | inl l ↦ choice_first_true (literal_value v c) (literal_value v a) (literal_value v b) (value-same v a k.one l ∙ fixed_at k _ _ g v h s)
      | inr l ↦ choice_first_test (literal_value v c) (literal_value v a) (literal_value v b) (value-same v a c l)
    ])) (λ n5.
    split k (literal_eq a (zero_of k) || literal_eq a (negation c)) _ _ f (λ e. let g = and-gives k (negation c) b s r q in gives-as k _ _ f g (λ v h.
    ap (λ t. t && literal_value v b) (value-negation v c) ∙
    elim (or_cases (literal_eq a (zero_of k)) (literal_eq a (negation c)) e) [
      | inl l ↦ choice_first_false (literal_value v c) (literal_value v a) (literal_value v b) (value-same v a (zero_of k) l ∙ zero v (fixed_at k _ _ g v h s))
      | inr l ↦ choice_first_untest (literal_value v c) (literal_value v a) (literal_value v b) (value-opposite v a c l)
    ])) (λ n6.
    split k (literal_eq b k.one || literal_eq b (negation c)) _ _ f (λ e. let g = or-gives k (negation c) a s r p in gives-as k _ _ f g (λ v h.
    ap (λ t. t || literal_value v a) (value-negation v c) ∙
    elim (or_cases (literal_eq b k.one) (literal_eq b (negation c)) e) [
      | inl l ↦ choice_second_true (literal_value v c) (literal_value v a) (literal_value v b) (value-same v b k.one l ∙ fixed_at k _ _ g v h s)
      | inr l ↦ choice_second_untest (literal_value v c) (literal_value v a) (literal_value v b) (value-opposite v b c l)
    ])) (λ n7.
    split k (literal_eq b (zero_of k) || literal_eq b c) _ _ f (λ e. let g = and-gives k c a s r p in gives-as k _ _ f g (λ v h.
    elim (or_cases (literal_eq b (zero_of k)) (literal_eq b c) e) [
      | inl l ↦ choice_second_false (literal_value v c) (literal_value v a) (literal_value v b) (value-same v b (zero_of k) l ∙ zero v (fixed_at k _ _ g v h s))
      | inr l ↦ choice_second_test (literal_value v c) (literal_value v a) (literal_value v b) (value-same v b c l)
    ])) (λ n8.
    gated-gives k (choice_clauses c a b) f s (choice_gate k.formula.vars c a b r p q)))))))))

choice_then-gives : (k : CircuitView) (a b x y : Literal) → IsCircuit k → a.var < k.formula.vars → b.var < k.formula.vars → x.var < k.formula.vars → y.var < k.formula.vars → GivesBit k (choice_then (exclusive_wired k a b) x y) (λ v. cond (exclusive (literal_value v a) (literal_value v b)) (literal_value v x) (literal_value v y))
choice_then-gives k a b x y s p q r t =
    let g = exclusive-gives k a b s p q in
    let d = (exclusive_wired k a b).circuit in
    let h = choice-gives d (exclusive_wired k a b).bit x y g.grows.sound g.over (omega (arith, g.grows.longer)) (omega (arith, g.grows.longer)) in
    record {
      grows = grows-both k d (choice_then (exclusive_wired k a b) x y).circuit g.grows h.grows;
      over = h.over;
      says = λ v m. h.says v m ∙ ap (λ u. cond u (literal_value v x) (literal_value v y)) (g.says v (h.grows.less v m));
    }

pub majority-gives : (k : CircuitView) (a b c : Literal) → IsCircuit k → a.var < k.formula.vars → b.var < k.formula.vars → c.var < k.formula.vars → GivesBit k (majority_wired k a b c) (λ v. majority (literal_value v a) (literal_value v b) (literal_value v c))
unfolding majority_wired
majority-gives k a b c s p q r =
    let f = λ (v : ℕ → Bool). majority (literal_value v a) (literal_value v b) (literal_value v c) in
    split k (is_settled k a b) _ _ f (λ e. gives-as k _ _ f (choice_then-gives k a b c a s p q r p) (λ v h. majority_first (literal_value v a) (literal_value v b) (literal_value v c))) (λ n1.
    split k (is_settled k a c) _ _ f (λ e. gives-as k _ _ f (choice_then-gives k a c b a s p r q p) (λ v h. majority_second (literal_value v a) (literal_value v b) (literal_value v c))) (λ n2.
    split k (is_settled k b c) _ _ f (λ e. gives-as k _ _ f (choice_then-gives k b c a b s q r p q) (λ v h. majority_third (literal_value v a) (literal_value v b) (literal_value v c))) (λ n3.
    gated-gives k (majority_clauses a b c) f s (majority_gate k.formula.vars a b c p q r))))
