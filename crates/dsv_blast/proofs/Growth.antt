-- Circuits that grow: earlier clauses stay, and each new variable is a function of earlier ones.
use Rattle.std.proofs.Common.{◌≡◌, ℕ, ◌+◌, ◌<◌, ◌≤◌, Bool, true, false, not, List, [], ◌∷◌, ◌++◌, cond, refl, arith, ap, sym, ◌∙◌, inl, inr}
use Rattle.std.specs.Prelude.{◌==◌}
use Rattle.std.proofs.lemmas.Bool.{cases_lt, eq-eqb, ne_eqb}
use Rattle.std.proofs.lemmas.List.Elements.{All-head, All-tail}
use Rattle.dsv_cnf.specs.Literal.{Literal, literal_value, bool_eq}
use Rattle.dsv_cnf.specs.Formula.{clause_value, Satisfies, IsOver, AreOver}
use Rattle.dsv_blast.specs.CircuitView.{CircuitView, Wired}
use Rattle.dsv_blast.specs.Gates.{positive, zero_of, folded, gated}
use Rattle.dsv_blast.specs.Blast.{Agree}
use Rattle.dsv_blast.proofs.Truths.{all_true, all_true-satisfies, satisfies-all_true, satisfies-left, satisfies-right, satisfies-both, bool_eq-true, bool_eq-same, value-negation}

-- ---- assignments that agree

same_cond : (x y p : Bool) → x ≡ y → cond p x (not x) ≡ cond p y (not y)
same_cond x y p e = ap (λ b. cond p b (not b)) e

pub literal-agrees : (n : ℕ) (v w : ℕ → Bool) (l : Literal) → Agree n v w → l.var < n → literal_value v l ≡ literal_value w l
literal-agrees n v w l a h = same_cond (v l.var) (w l.var) l.positive (a l.var h)

pub over-head : (n : ℕ) (l : Literal) (ls : List Literal) → IsOver n (l ∷ ls) → l.var < n
over-head n l ls h = All-head (λ (q : Literal). q.var < n) l ls h

pub over-tail : (n : ℕ) (l : Literal) (ls : List Literal) → IsOver n (l ∷ ls) → IsOver n ls
over-tail n l ls h = All-tail (λ (q : Literal). q.var < n) l ls h

clause-agrees : (n : ℕ) (v w : ℕ → Bool) (c : List Literal) → Agree n v w → IsOver n c → clause_value v c ≡ clause_value w c
clause-agrees n v w [] a o = refl
clause-agrees n v w (l ∷ ls) a o = rw (literal-agrees n v w l a (over-head n l ls o), clause-agrees n v w ls a (over-tail n l ls o)) refl

pub satisfies-agree : (n : ℕ) (v w : ℕ → Bool) (cs : List (List Literal)) → Agree n v w → AreOver n cs → Satisfies v cs → Satisfies w cs
satisfies-agree n v w [] a o h = tt
satisfies-agree n v w (c ∷ cs) a o h = (sym (clause-agrees n v w c a o.0) ∙ h.0, satisfies-agree n v w cs a o.1 h.1)

pub over-more : (m n : ℕ) (ls : List Literal) → m ≤ n → IsOver m ls → IsOver n ls
over-more m n ls le h = λ k d p. omega (arith, h k d p)

pub are_over-more : (m n : ℕ) (cs : List (List Literal)) → m ≤ n → AreOver m cs → AreOver n cs
are_over-more m n [] le h = tt
are_over-more m n (c ∷ cs) le h = (over-more m n c le h.0, are_over-more m n cs le h.1)

pub are_over-append : (n : ℕ) (cs ds : List (List Literal)) → AreOver n cs → AreOver n ds → AreOver n (cs ++ ds)
are_over-append n [] ds h k = k
are_over-append n (c ∷ cs) ds h k = (h.0, are_over-append n cs ds h.1 k)

-- ---- growing

-- The clauses are over the variables, and make the constant literal true.
pub record IsCircuit (c : CircuitView) : Type 0 where
  pub stands : c.one.var < c.formula.vars
  pub over : AreOver c.formula.vars c.formula.clauses
  pub fixed : (v : ℕ → Bool) → Satisfies v c.formula.clauses → literal_value v c.one ≡ true

-- an assignment of the second circuit that agrees with one of the first
pub record Prolongs (c d : CircuitView) (v : ℕ → Bool) : Type 0 where
  pub values : ℕ → Bool
  pub agrees : Agree c.formula.vars v values
  pub holds : Satisfies values d.formula.clauses

pub record Grows (c d : CircuitView) : Type 0 where
  pub sound : IsCircuit d
  pub constant : d.one ≡ c.one
  pub longer : c.formula.vars ≤ d.formula.vars
  pub less : (v : ℕ → Bool) → Satisfies v d.formula.clauses → Satisfies v c.formula.clauses
  pub runs : (v : ℕ → Bool) → Satisfies v c.formula.clauses → Prolongs c d v
  pub only : (v w : ℕ → Bool) → Satisfies v d.formula.clauses → Satisfies w d.formula.clauses → Agree c.formula.vars v w → Agree d.formula.vars v w

pub grows-same : (c : CircuitView) → IsCircuit c → Grows c c
grows-same c s = record {
  sound = s;
  constant = refl;
  longer = omega arith;
  less = λ v h. h;
  runs = λ v h. record { values = v; agrees = λ k l. refl; holds = h };
  only = λ v w h k a. a;
}

pub grows-both : (c d e : CircuitView) → Grows c d → Grows d e → Grows c e
grows-both c d e a b = record {
  sound = b.sound;
  constant = b.constant ∙ a.constant;
  longer = omega (arith, a.longer, b.longer);
  less = λ v h. a.less v (b.less v h);
  runs = λ v h.
      let p = a.runs v h in
      let q = b.runs p.values p.holds in
      record { values = q.values; agrees = λ k l. p.agrees k l ∙ q.agrees k (omega (arith, a.longer)); holds = q.holds };
  only = λ v w h k s. b.only v w h k (a.only v w (b.less v h) (b.less w k) s);
}

-- ---- one gate

-- The clauses say of a literal that it is a function of the first variables.
pub record IsGate (n : ℕ) (clauses : Literal → List (List Literal)) (function : (ℕ → Bool) → Bool) : Type 0 where
  pub say : (v : ℕ → Bool) (o : Literal) → all_true v (clauses o) ≡ bool_eq (literal_value v o) (function v)
  pub earlier : (v w : ℕ → Bool) → Agree n v w → function v ≡ function w
  pub over : AreOver (n + 1) (clauses (positive n))

-- a value put in at one variable
abbrev put_at : ℕ → Bool → (ℕ → Bool) → ℕ → Bool
put_at n b v k = cond (k == n) b (v k)

put-at : (n : ℕ) (b : Bool) (v : ℕ → Bool) → put_at n b v n ≡ b
put-at n b v = rw (eq-eqb n n refl) refl

put-before : (n : ℕ) (b : Bool) (v : ℕ → Bool) → Agree n v (put_at n b v)
put-before n b v = λ k h. rw (ne_eqb k n (λ e. omega arith)) refl

-- A literal over a circuit that has this value.
pub record GivesBit (c : CircuitView) (r : Wired) (value : (ℕ → Bool) → Bool) : Type 0 where
  pub grows : Grows c r.circuit
  pub over : r.bit.var < r.circuit.formula.vars
  pub says : (v : ℕ → Bool) → Satisfies v r.circuit.formula.clauses → literal_value v r.bit ≡ value v

agree-more : (n : ℕ) (v w : ℕ → Bool) → Agree n v w → v n ≡ w n → Agree (n + 1) v w
agree-more n v w a e = λ k h. elim (cases_lt k n) [ inl l ↦ a k l | inr l ↦ let s : k ≡ n = omega arith in rw s e ]

pub gated-gives : (c : CircuitView) (clauses : Literal → List (List Literal)) (function : (ℕ → Bool) → Bool) → IsCircuit c → IsGate c.formula.vars clauses function → GivesBit c (gated c clauses) function
gated-gives c clauses function s g =
    let n = c.formula.vars in
    let own = clauses (positive n) in
    let old = c.formula.clauses in
    let output : (v : ℕ → Bool) → Satisfies v (old ++ own) → v n ≡ function v = λ v h. bool_eq-true (v n) (function v) (sym (g.say v (positive n)) ∙ all_true-satisfies v own (satisfies-right v old own h)) in
    record {
      grows = record {
        sound = record {
          stands = omega (arith, s.stands);
          over = are_over-append (n + 1) old own (are_over-more n (n + 1) old (omega arith) s.over) g.over;
          fixed = λ v h. s.fixed v (satisfies-left v old own h);
        };
        constant = refl;
        longer = omega arith;
        less = λ v h. satisfies-left v old own h;
        runs = λ v h.
            let w = put_at n (function v) v in
            let a = put-before n (function v) v in
            let e : w n ≡ function w = put-at n (function v) v ∙ g.earlier v w a in
            record {
              values = w;
              agrees = a;
              holds = satisfies-both w old own (satisfies-agree n v w old a s.over h) (satisfies-all_true w own (g.say w (positive n) ∙ rw e (bool_eq-same (function w))));
            };
        only = λ v w h k a. agree-more n v w a (output v h ∙ (g.earlier v w a ∙ sym (output w k)));
      };
      over = omega arith;
      says = output;
    }

-- ---- folding

pub folded-gives : (c : CircuitView) (l : Literal) (value : (ℕ → Bool) → Bool) → IsCircuit c → l.var < c.formula.vars → ((v : ℕ → Bool) → literal_value v c.one ≡ true → literal_value v l ≡ value v) → GivesBit c (folded c l) value
folded-gives c l value s o h = record { grows = grows-same c s; over = o; says = λ v k. h v (s.fixed v k) }

pub value-zero : (c : CircuitView) (v : ℕ → Bool) → literal_value v c.one ≡ true → literal_value v (zero_of c) ≡ false
value-zero c v h = value-negation v c.one ∙ ap not h

-- a bit that another value's name describes as well
pub gives-as : (c : CircuitView) (r : Wired) (value other : (ℕ → Bool) → Bool) → GivesBit c r value → ((v : ℕ → Bool) → Satisfies v r.circuit.formula.clauses → value v ≡ other v) → GivesBit c r other
gives-as c r value other g e = record { grows = g.grows; over = g.over; says = λ v h. g.says v h ∙ e v h }
