-- The clauses of each gate, as equations of truths.
use Rattle.std.proofs.Common.{◌≡◌, ℕ, Bool, true, false, not, ◌||◌, ◌&&◌, List, [], ◌∷◌, ◌++◌, cond, refl, ap, sym, ◌∙◌}
use Rattle.std.proofs.lemmas.Bool.{and_parts, and_from}
use Rattle.dsv_cnf.specs.Literal.{Literal, negation, literal_value, literal_eq, bool_eq}
use Rattle.dsv_cnf.specs.Formula.{clause_value, Satisfies}
use Rattle.dsv_cnf.proofs.LiteralLemmas.{same_literal}
use Rattle.dsv_blast.specs.Gates.{exclusive, majority, and_clauses, exclusive_clauses, parity_clauses, majority_clauses, choice_clauses}

not_cond : (p x : Bool) → cond (not p) x (not x) ≡ not (cond p x (not x))
not_cond true x = refl
not_cond false true = refl
not_cond false false = refl

pub value-negation : (v : ℕ → Bool) (l : Literal) → literal_value v (negation l) ≡ not (literal_value v l)
value-negation v l = not_cond l.positive (v l.var)

-- equal literals have one value, and opposite ones opposite values
pub value-same : (v : ℕ → Bool) (a b : Literal) → literal_eq a b ≡ true → literal_value v a ≡ literal_value v b
value-same v a b e = ap (literal_value v) (same_literal a b e)

pub value-opposite : (v : ℕ → Bool) (a b : Literal) → literal_eq a (negation b) ≡ true → literal_value v a ≡ not (literal_value v b)
value-opposite v a b e = value-same v a (negation b) e ∙ value-negation v b

-- whether every clause is true
abbrev pub all_true : (ℕ → Bool) → List (List Literal) → Bool
all_true v [] = true
all_true v (c ∷ cs) = clause_value v c && all_true v cs

pub all_true-satisfies : (v : ℕ → Bool) (cs : List (List Literal)) → Satisfies v cs → all_true v cs ≡ true
all_true-satisfies v [] h = refl
all_true-satisfies v (c ∷ cs) h = and_from (clause_value v c) (all_true v cs) h.0 (all_true-satisfies v cs h.1)

pub satisfies-all_true : (v : ℕ → Bool) (cs : List (List Literal)) → all_true v cs ≡ true → Satisfies v cs
satisfies-all_true v [] h = tt
satisfies-all_true v (c ∷ cs) h = let p = and_parts (clause_value v c) (all_true v cs) h in (p.0, satisfies-all_true v cs p.1)

pub satisfies-left : (v : ℕ → Bool) (cs ds : List (List Literal)) → Satisfies v (cs ++ ds) → Satisfies v cs
satisfies-left v [] ds h = tt
satisfies-left v (c ∷ cs) ds h = (h.0, satisfies-left v cs ds h.1)

pub satisfies-right : (v : ℕ → Bool) (cs ds : List (List Literal)) → Satisfies v (cs ++ ds) → Satisfies v ds
satisfies-right v [] ds h = h
satisfies-right v (c ∷ cs) ds h = satisfies-right v cs ds h.1

pub satisfies-both : (v : ℕ → Bool) (cs ds : List (List Literal)) → Satisfies v cs → Satisfies v ds → Satisfies v (cs ++ ds)
satisfies-both v [] ds h k = k
satisfies-both v (c ∷ cs) ds h k = (h.0, satisfies-both v cs ds h.1 k)

pub bool_eq-true : (x y : Bool) → bool_eq x y ≡ true → x ≡ y
bool_eq-true true y h = sym h
bool_eq-true false true h = cc
bool_eq-true false false h = refl

pub bool_eq-same : (x : Bool) → bool_eq x x ≡ true
bool_eq-same true = refl
bool_eq-same false = refl

-- ---- what the clauses of each gate say

and_rows : (x y z : Bool) → ((not x || (not y || (z || false))) && ((x || (not z || false)) && ((y || (not z || false)) && true))) ≡ bool_eq z (x && y)
and_rows true true true = refl
and_rows true true false = refl
and_rows true false true = refl
and_rows true false false = refl
and_rows false true true = refl
and_rows false true false = refl
and_rows false false true = refl
and_rows false false false = refl

pub and_clauses-say : (v : ℕ → Bool) (a b o : Literal) → all_true v (and_clauses a b o) ≡ bool_eq (literal_value v o) (literal_value v a && literal_value v b)
and_clauses-say v a b o = rw (value-negation v a, value-negation v b, value-negation v o) (and_rows (literal_value v a) (literal_value v b) (literal_value v o))

exclusive_rows : (x y z : Bool) → ((not x || (not y || (not z || false))) && ((x || (y || (not z || false))) && ((not x || (y || (z || false))) && ((x || (not y || (z || false))) && true)))) ≡ bool_eq z (exclusive x y)
exclusive_rows true true true = refl
exclusive_rows true true false = refl
exclusive_rows true false true = refl
exclusive_rows true false false = refl
exclusive_rows false true true = refl
exclusive_rows false true false = refl
exclusive_rows false false true = refl
exclusive_rows false false false = refl

pub exclusive_clauses-say : (v : ℕ → Bool) (a b o : Literal) → all_true v (exclusive_clauses a b o) ≡ bool_eq (literal_value v o) (exclusive (literal_value v a) (literal_value v b))
exclusive_clauses-say v a b o = rw (value-negation v a, value-negation v b, value-negation v o) (exclusive_rows (literal_value v a) (literal_value v b) (literal_value v o))

-- the values of clauses of three, by the values of their literals
abbrev parity_value : Bool → Bool → Bool → Bool → Bool
parity_value x y z o =
    (x || (not y || (not z || (not o || false)))) && ((x || (y || (z || (not o || false)))) && ((x || (not y || (z || (o || false)))) && ((x || (y || (not z || (o || false)))) &&
    ((not x || (not y || (not z || (o || false)))) && ((not x || (y || (z || (o || false)))) && ((not x || (not y || (z || (not o || false)))) && ((not x || (y || (not z || (not o || false)))) && true)))))))

parity_rows : (x y z o : Bool) → parity_value x y z o ≡ bool_eq o (exclusive (exclusive x y) z)
parity_rows true true true true = refl
parity_rows true true true false = refl
parity_rows true true false true = refl
parity_rows true true false false = refl
parity_rows true false true true = refl
parity_rows true false true false = refl
parity_rows true false false true = refl
parity_rows true false false false = refl
parity_rows false true true true = refl
parity_rows false true true false = refl
parity_rows false true false true = refl
parity_rows false true false false = refl
parity_rows false false true true = refl
parity_rows false false true false = refl
parity_rows false false false true = refl
parity_rows false false false false = refl

not_not : (b : Bool) → not (not b) ≡ b
not_not true = refl
not_not false = refl

pub value-negation_twice : (v : ℕ → Bool) (l : Literal) → literal_value v (negation (negation l)) ≡ literal_value v l
value-negation_twice v l = value-negation v (negation l) ∙ (ap not (value-negation v l) ∙ not_not (literal_value v l))

pub parity_clauses-say : (v : ℕ → Bool) (a b c o : Literal) → all_true v (parity_clauses a b c o) ≡ bool_eq (literal_value v o) (exclusive (exclusive (literal_value v a) (literal_value v b)) (literal_value v c))
parity_clauses-say v a b c o =
    rw (value-negation_twice v o, value-negation v a, value-negation v b, value-negation v c, value-negation v o)
    (parity_rows (literal_value v a) (literal_value v b) (literal_value v c) (literal_value v o))

abbrev majority_value : Bool → Bool → Bool → Bool → Bool
majority_value x y z o =
    (not x || (not y || (o || false))) && ((not x || (not z || (o || false))) && ((not y || (not z || (o || false))) &&
    ((x || (y || (not o || false))) && ((x || (z || (not o || false))) && ((y || (z || (not o || false))) && true)))))

majority_rows : (x y z o : Bool) → majority_value x y z o ≡ bool_eq o (majority x y z)
majority_rows true true true true = refl
majority_rows true true true false = refl
majority_rows true true false true = refl
majority_rows true true false false = refl
majority_rows true false true true = refl
majority_rows true false true false = refl
majority_rows true false false true = refl
majority_rows true false false false = refl
majority_rows false true true true = refl
majority_rows false true true false = refl
majority_rows false true false true = refl
majority_rows false true false false = refl
majority_rows false false true true = refl
majority_rows false false true false = refl
majority_rows false false false true = refl
majority_rows false false false false = refl

pub majority_clauses-say : (v : ℕ → Bool) (a b c o : Literal) → all_true v (majority_clauses a b c o) ≡ bool_eq (literal_value v o) (majority (literal_value v a) (literal_value v b) (literal_value v c))
majority_clauses-say v a b c o =
    rw (value-negation_twice v a, value-negation_twice v b, value-negation_twice v c, value-negation v a, value-negation v b, value-negation v c, value-negation v o)
    (majority_rows (literal_value v a) (literal_value v b) (literal_value v c) (literal_value v o))

abbrev choice_value : Bool → Bool → Bool → Bool → Bool
choice_value k x y o =
    (not k || (not x || (o || false))) && ((k || (not y || (o || false))) && ((not x || (not y || (o || false))) &&
    ((not k || (x || (not o || false))) && ((k || (y || (not o || false))) && ((x || (y || (not o || false))) && true)))))

choice_rows : (k x y o : Bool) → choice_value k x y o ≡ bool_eq o (cond k x y)
choice_rows true true true true = refl
choice_rows true true true false = refl
choice_rows true true false true = refl
choice_rows true true false false = refl
choice_rows true false true true = refl
choice_rows true false true false = refl
choice_rows true false false true = refl
choice_rows true false false false = refl
choice_rows false true true true = refl
choice_rows false true true false = refl
choice_rows false true false true = refl
choice_rows false true false false = refl
choice_rows false false true true = refl
choice_rows false false true false = refl
choice_rows false false false true = refl
choice_rows false false false false = refl

pub choice_clauses-say : (v : ℕ → Bool) (k a b o : Literal) → all_true v (choice_clauses k a b o) ≡ bool_eq (literal_value v o) (cond (literal_value v k) (literal_value v a) (literal_value v b))
choice_clauses-say v k a b o =
    rw (value-negation_twice v a, value-negation_twice v b, value-negation v k, value-negation v a, value-negation v b, value-negation v o)
    (choice_rows (literal_value v k) (literal_value v a) (literal_value v b) (literal_value v o))
