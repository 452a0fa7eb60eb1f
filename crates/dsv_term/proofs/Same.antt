-- The derived test of nodes is the definitions' one, and it tells whether they are equal.
use Rattle.std.proofs.Common.{◌≡◌, refl, Bool, true, ◌&&◌, ap, ◌∙◌, ℕ, ℤ, rules, arith}
use Rattle.std.proofs.lemmas.Bool.{eqb-true}
use Rattle.std.proofs.lemmas.Bool.Decides.{nat_tests}
use Rattle.std.specs.Prelude.{◌==◌}
use Rattle.std.specs.Ordering.{int_eq}
use Rattle.dsv_term.specs.declared.node.TermId.{TermId}
use Rattle.dsv_term.specs.declared.node.TermNode.{TermNode}
use Rattle.dsv_term.specs.declared.node.TermNode.TheVariants.{Input, Constant, Add, Sub, Slt, Sle, Ult, Eq, And, Or, Concat, Neg, Not, MulConst, Sext, Extract, Ite}
use Rattle.dsv_term.specs.Making.{same_node}
use Rattle.dsv_term.specs.contracts.node.TermNodePartialEq.TheImpl.{eq-value}
use Rattle.dsv_algebra.proofs.Booleans.{and_left, and_right}

eq-same : (a b : TermNode) → eq-value.it a b ≡ same_node a b
eq-same (Input k) (Input j) = refl
eq-same (Constant w v) (Constant x u) = refl
eq-same (Add a b) (Add c d) = refl
eq-same (Sub a b) (Sub c d) = refl
eq-same (Slt a b) (Slt c d) = refl
eq-same (Sle a b) (Sle c d) = refl
eq-same (Ult a b) (Ult c d) = refl
eq-same (Eq a b) (Eq c d) = refl
eq-same (And a b) (And c d) = refl
eq-same (Or a b) (Or c d) = refl
eq-same (Concat a b) (Concat c d) = refl
eq-same (Neg a) (Neg c) = refl
eq-same (Not a) (Not c) = refl
eq-same (MulConst a m) (MulConst c n) = refl
eq-same (Sext a w) (Sext c x) = refl
eq-same (Extract a h l) (Extract c i m) = refl
eq-same (Ite a b c) (Ite d e f) = refl
eq-same a b = refl

-- the derived `==` is the test of the definitions
pub eq-is_same : eq-value.it ≡ same_node
eq-is_same = λ i a b. eq-same a b i

same_id : (a b : TermId) → (a.0 == b.0) ≡ true → a ≡ b
same_id a b h = let e = eqb-true a.0 b.0 h in ap (λ n. record { 0 = n }) e

same_int : (a b : ℤ) → int_eq a b ≡ true → a ≡ b
same_int a b h = search rules

same_two : (make : TermId → TermId → TermNode) (a b c d : TermId) → ((a.0 == c.0) && (b.0 == d.0)) ≡ true → make a b ≡ make c d
same_two make a b c d h =
    let e = same_id a c (and_left (a.0 == c.0) (b.0 == d.0) h) in
    let f = same_id b d (and_right (a.0 == c.0) (b.0 == d.0) h) in
    cc

same_sized : (make : TermId → ℕ → TermNode) (a c : TermId) (w x : ℕ) → ((a.0 == c.0) && (w == x)) ≡ true → make a w ≡ make c x
same_sized make a c w x h =
    let e = same_id a c (and_left (a.0 == c.0) (w == x) h) in
    let f = eqb-true w x (and_right (a.0 == c.0) (w == x) h) in
    cc

-- nodes that the test finds equal are equal
pub same-node : (a b : TermNode) → same_node a b ≡ true → a ≡ b
same-node (Input k) (Input j) h = ap Input (eqb-true k j h)
same-node (Constant w v) (Constant x u) h =
    let e = eqb-true w x (and_left (w == x) (v == u) h) in
    let f = eqb-true v u (and_right (w == x) (v == u) h) in
    cc
same-node (Add a b) (Add c d) h = same_two Add a b c d h
same-node (Sub a b) (Sub c d) h = same_two Sub a b c d h
same-node (Slt a b) (Slt c d) h = same_two Slt a b c d h
same-node (Sle a b) (Sle c d) h = same_two Sle a b c d h
same-node (Ult a b) (Ult c d) h = same_two Ult a b c d h
same-node (Eq a b) (Eq c d) h = same_two Eq a b c d h
same-node (And a b) (And c d) h = same_two And a b c d h
same-node (Or a b) (Or c d) h = same_two Or a b c d h
same-node (Concat a b) (Concat c d) h = same_two Concat a b c d h
same-node (Neg a) (Neg c) h = ap Neg (same_id a c h)
same-node (Not a) (Not c) h = ap Not (same_id a c h)
same-node (MulConst a m) (MulConst c n) h =
    let e = same_id a c (and_left (a.0 == c.0) (int_eq m n) h) in
    let f = same_int m n (and_right (a.0 == c.0) (int_eq m n) h) in
    cc
same-node (Sext a w) (Sext c x) h = same_sized Sext a c w x h
same-node (Extract a v l) (Extract c i m) h =
    let e = same_id a c (and_left (a.0 == c.0) ((v == i) && (l == m)) h) in
    let k = and_right (a.0 == c.0) ((v == i) && (l == m)) h in
    let f = eqb-true v i (and_left (v == i) (l == m) k) in
    let g = eqb-true l m (and_right (v == i) (l == m) k) in
    cc
same-node (Ite a b c) (Ite d e f) h =
    let p = same_id a d (and_left (a.0 == d.0) ((b.0 == e.0) && (c.0 == f.0)) h) in
    let q = same_two (Ite a) b c e f (and_right (a.0 == d.0) ((b.0 == e.0) && (c.0 == f.0)) h) in
    q ∙ ap (λ x. Ite x e f) p
same-node a b h = cc

both : (a b : Bool) → a ≡ true → b ≡ true → (a && b) ≡ true
both a b e f = cc

same_number : (n : ℕ) → (n == n) ≡ true
same_number n = grind (arith, nat_tests)

two_self : (a b : ℕ) → ((a == a) && (b == b)) ≡ true
two_self a b = both (a == a) (b == b) (same_number a) (same_number b)

int_self : (c : ℤ) → int_eq c c ≡ true
int_self c = search rules

pub same_self : (n : TermNode) → same_node n n ≡ true
same_self (Input k) = same_number k
same_self (Constant w v) = two_self w v
same_self (Add a b) = two_self a.0 b.0
same_self (Sub a b) = two_self a.0 b.0
same_self (Slt a b) = two_self a.0 b.0
same_self (Sle a b) = two_self a.0 b.0
same_self (Ult a b) = two_self a.0 b.0
same_self (Eq a b) = two_self a.0 b.0
same_self (And a b) = two_self a.0 b.0
same_self (Or a b) = two_self a.0 b.0
same_self (Concat a b) = two_self a.0 b.0
same_self (Neg a) = same_number a.0
same_self (Not a) = same_number a.0
same_self (MulConst a c) = both (a.0 == a.0) (int_eq c c) (same_number a.0) (int_self c)
same_self (Sext a w) = two_self a.0 w
same_self (Extract a h l) = both (a.0 == a.0) ((h == h) && (l == l)) (same_number a.0) (two_self h l)
same_self (Ite c a b) = both (c.0 == c.0) ((a.0 == a.0) && (b.0 == b.0)) (same_number c.0) (two_self a.0 b.0)
