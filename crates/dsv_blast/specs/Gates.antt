-- The four kinds of gates: their functions, their prime clauses, and what is folded.
use Rattle.std.specs.Prelude.{ℕ, ◌+◌, Bool, true, not, ◌&&◌, ◌||◌, cond, List, [], ◌∷◌, ◌++◌}
use Rattle.dsv_cnf.specs.Literal.{Literal, negation, bool_eq, literal_eq}
use Rattle.dsv_blast.specs.CircuitView.{CircuitView, Wired}

-- ---- functions

abbrev pub exclusive : Bool → Bool → Bool
exclusive x y = not (bool_eq x y)

abbrev pub majority : Bool → Bool → Bool → Bool
majority x y z = (x && y) || (z && (x || y))

-- ---- clauses that say that a literal `o` is a gate's function

abbrev pub and_clauses : Literal → Literal → Literal → List (List Literal)
and_clauses a b o =
    (negation a ∷ negation b ∷ o ∷ [])
    ∷ (a ∷ negation o ∷ [])
    ∷ (b ∷ negation o ∷ [])
    ∷ []

abbrev pub exclusive_clauses : Literal → Literal → Literal → List (List Literal)
exclusive_clauses a b o =
    (negation a ∷ negation b ∷ negation o ∷ [])
    ∷ (a ∷ b ∷ negation o ∷ [])
    ∷ (negation a ∷ b ∷ o ∷ [])
    ∷ (a ∷ negation b ∷ o ∷ [])
    ∷ []

-- the same where the literal `k` is false
abbrev pub exclusive_unless : Literal → Literal → Literal → Literal → List (List Literal)
exclusive_unless k a b o =
    (k ∷ negation a ∷ negation b ∷ negation o ∷ [])
    ∷ (k ∷ a ∷ b ∷ negation o ∷ [])
    ∷ (k ∷ negation a ∷ b ∷ o ∷ [])
    ∷ (k ∷ a ∷ negation b ∷ o ∷ [])
    ∷ []

abbrev pub parity_clauses : Literal → Literal → Literal → Literal → List (List Literal)
parity_clauses a b c o = exclusive_unless a b c o ++ exclusive_unless (negation a) b c (negation o)

-- two of the three make `o` true
abbrev pub two_make : Literal → Literal → Literal → Literal → List (List Literal)
two_make a b c o =
    (negation a ∷ negation b ∷ o ∷ [])
    ∷ (negation a ∷ negation c ∷ o ∷ [])
    ∷ (negation b ∷ negation c ∷ o ∷ [])
    ∷ []

abbrev pub majority_clauses : Literal → Literal → Literal → Literal → List (List Literal)
majority_clauses a b c o =
    two_make a b c o ++ two_make (negation a) (negation b) (negation c) (negation o)

-- what is chosen makes `o` true, and so do both together
abbrev pub chosen_makes : Literal → Literal → Literal → Literal → List (List Literal)
chosen_makes c a b o =
    (negation c ∷ negation a ∷ o ∷ [])
    ∷ (c ∷ negation b ∷ o ∷ [])
    ∷ (negation a ∷ negation b ∷ o ∷ [])
    ∷ []

-- a where c is true, and else b
abbrev pub choice_clauses : Literal → Literal → Literal → Literal → List (List Literal)
choice_clauses c a b o =
    chosen_makes c a b o ++ chosen_makes c (negation a) (negation b) (negation o)

-- ---- gates

abbrev pub positive : ℕ → Literal
positive n = record { var = n; positive = true }

-- a literal that is false
abbrev pub zero_of : CircuitView → Literal
zero_of c = negation c.one

abbrev pub folded : CircuitView → Literal → Wired
folded c l = record { circuit = c; bit = l }

abbrev pub negated : Wired → Wired
negated r = record { circuit = r.circuit; bit = negation r.bit }

-- one gate more, whose variable is the next
abbrev pub gated : CircuitView → (Literal → List (List Literal)) → Wired
gated c clauses = record {
  circuit = record c {
    formula = record {
      vars = c.formula.vars + 1;
      clauses = c.formula.clauses ++ clauses (positive c.formula.vars);
    };
  };
  bit = positive c.formula.vars;
}

-- a literal is constant, or two are equal or opposite
abbrev pub is_constant : CircuitView → Literal → Bool
is_constant c a = literal_eq a c.one || literal_eq a (zero_of c)

abbrev pub is_settled : CircuitView → Literal → Literal → Bool
is_settled c a b =
    (literal_eq a b || literal_eq a (negation b)) || (is_constant c a || is_constant c b)

unfoldable pub and_wired : CircuitView → Literal → Literal → Wired
and_wired c a b =
    cond (literal_eq a b) (folded c a)
    (cond (literal_eq a (negation b)) (folded c (zero_of c))
    (cond (literal_eq a c.one) (folded c b)
    (cond (literal_eq b c.one) (folded c a)
    (cond (literal_eq a (zero_of c)) (folded c a)
    (cond (literal_eq b (zero_of c)) (folded c b)
    (gated c (and_clauses a b)))))))

abbrev pub or_wired : CircuitView → Literal → Literal → Wired
or_wired c a b = negated (and_wired c (negation a) (negation b))

unfoldable pub exclusive_wired : CircuitView → Literal → Literal → Wired
exclusive_wired c a b =
    cond (literal_eq a b) (folded c (zero_of c))
    (cond (literal_eq a (negation b)) (folded c c.one)
    (cond (literal_eq a c.one) (folded c (negation b))
    (cond (literal_eq b c.one) (folded c (negation a))
    (cond (literal_eq a (zero_of c)) (folded c b)
    (cond (literal_eq b (zero_of c)) (folded c a)
    (gated c (exclusive_clauses a b)))))))

abbrev pub exclusive_then : Wired → Literal → Wired
exclusive_then r l = exclusive_wired r.circuit r.bit l

-- the exclusive or of three
unfoldable pub parity_wired : CircuitView → Literal → Literal → Literal → Wired
parity_wired k a b c =
    cond (is_settled k a b) (exclusive_then (exclusive_wired k a b) c)
    (cond (is_settled k a c) (exclusive_then (exclusive_wired k a c) b)
    (cond (is_settled k b c) (exclusive_then (exclusive_wired k b c) a)
    (gated k (parity_clauses a b c))))

-- a where c is true, and else b
unfoldable pub choice_wired : CircuitView → Literal → Literal → Literal → Wired
choice_wired k c a b =
    cond (literal_eq c k.one) (folded k a)
    (cond (literal_eq c (zero_of k)) (folded k b)
    (cond (literal_eq a b) (folded k a)
    (cond (literal_eq a (negation b)) (exclusive_wired k c b)
    (cond (literal_eq a k.one || literal_eq a c) (or_wired k c b)
    (cond (literal_eq a (zero_of k) || literal_eq a (negation c)) (and_wired k (negation c) b)
    (cond (literal_eq b k.one || literal_eq b (negation c)) (or_wired k (negation c) a)
    (cond (literal_eq b (zero_of k) || literal_eq b c) (and_wired k c a)
    (gated k (choice_clauses c a b)))))))))

abbrev pub choice_then : Wired → Literal → Literal → Wired
choice_then r a b = choice_wired r.circuit r.bit a b

-- where two are opposite, the third decides
unfoldable pub majority_wired : CircuitView → Literal → Literal → Literal → Wired
majority_wired k a b c =
    cond (is_settled k a b) (choice_then (exclusive_wired k a b) c a)
    (cond (is_settled k a c) (choice_then (exclusive_wired k a c) b a)
    (cond (is_settled k b c) (choice_then (exclusive_wired k b c) a b)
    (gated k (majority_clauses a b c))))
