-- The rules for nodes over terms that may be constants, but for extracts, sign extensions and
-- products: a node over constants alone is the constant that it stands for, and one constant or two
-- equal terms may make it simpler.
use Rattle.std.specs.Prelude.{◌==◌, Bool, true, false, if◌then◌else◌, Option, Some, None}
use Rattle.dsv_term.specs.declared.node.TermId.{TermId}
use Rattle.dsv_term.specs.declared.node.TermNode.{TermNode}
use Rattle.dsv_term.specs.declared.node.TermNode.TheVariants.{Add, Sub, Slt, Sle, Ult, Eq, And, Or}
use Rattle.dsv_term.specs.declared.node.TermNode.TheVariants.{Concat, Neg, Not, Ite}
use Rattle.dsv_term.specs.declared.word.Word.{Word}
use Rattle.dsv_term.specs.Building.{Built, built_of, with_node}
use Rattle.dsv_term.specs.Terms.{width_of}
use Rattle.dsv_term.specs.TermsView.{TermsView}
use Rattle.dsv_term.specs.Word.{sum_of, difference_of, negation_of, complement_of, joined_of}
use Rattle.dsv_term.specs.Word.{signed_less_of, signed_at_most_of, less_of, same_of, and_of, or_of}
use Rattle.dsv_term.specs.Word.{bit_of}
use Rattle.dsv_rewrite.specs.Constants.{constant_at, constant_term, is_zero, is_full}

-- what becomes of a node over two terms: `both` of two constants, `first` and `second` where only
-- that one is a constant, `neither` where none is
abbrev pub by_constants : {A : Type 0} → Option Word → Option Word
    → (Word → Word → A) → (Word → A) → (Word → A) → A → A
by_constants (Some x) (Some y) both first second neither = both x y
by_constants (Some x) None both first second neither = first x
by_constants None (Some y) both first second neither = second y
by_constants None None both first second neither = neither

-- a term that stands already, where a test holds, and else the node's
abbrev pub kept_or : TermsView → Bool → TermId → TermNode → Built
kept_or t true kept node = built_of t kept
kept_or t false kept node = with_node t node

-- a term that stands already, where there is one, and else the node's
abbrev pub known_or : TermsView → Option TermId → TermNode → Built
known_or t (Some id) node = built_of t id
known_or t None node = with_node t node

-- a constant, where a test holds, and else the node's term
abbrev pub constant_or : TermsView → Bool → Word → TermNode → Built
constant_or t true word node = constant_term t word
constant_or t false word node = with_node t node

abbrev pub is_same_term : TermId → TermId → Bool
is_same_term a b = a.0 == b.0

-- a zero of as many bits as a term has
abbrev pub zero_like : TermsView → TermId → Word
zero_like t a = record { width = width_of t a; number = 0 }

-- 0 + b is b, and a + 0 is a
abbrev pub sum_term : TermsView → TermId → TermId → Built
sum_term t a b = by_constants (constant_at t a) (constant_at t b)
    (λ x y. constant_term t (sum_of x y))
    (λ x. kept_or t (is_zero x) b (Add a b))
    (λ y. kept_or t (is_zero y) a (Add a b))
    (with_node t (Add a b))

-- a - 0 is a, and a - a is 0
abbrev pub difference_term : TermsView → TermId → TermId → Built
difference_term t a b = by_constants (constant_at t a) (constant_at t b)
    (λ x y. constant_term t (difference_of x y))
    (λ x. with_node t (Sub a b))
    (λ y. kept_or t (is_zero y) a (Sub a b))
    (constant_or t (is_same_term a b) (zero_like t a) (Sub a b))

-- what becomes of a comparison: `same` is its truth for a term with itself
abbrev pub comparison_term : TermsView → (Word → Word → Word) → Bool → TermNode
    → TermId → TermId → Built
comparison_term t compare same node a b = by_constants (constant_at t a) (constant_at t b)
    (λ x y. constant_term t (compare x y))
    (λ x. with_node t node)
    (λ y. with_node t node)
    (constant_or t (is_same_term a b) (bit_of same) node)

abbrev pub signed_less_term : TermsView → TermId → TermId → Built
signed_less_term t a b = comparison_term t signed_less_of false (Slt a b) a b

abbrev pub signed_at_most_term : TermsView → TermId → TermId → Built
signed_at_most_term t a b = comparison_term t signed_at_most_of true (Sle a b) a b

abbrev pub less_term : TermsView → TermId → TermId → Built
less_term t a b = comparison_term t less_of false (Ult a b) a b

abbrev pub same_term : TermsView → TermId → TermId → Built
same_term t a b = comparison_term t same_of true (Eq a b) a b

-- the term that stands for a node over a constant and another term, where there is one: this where
-- the constant is 0, and that where all its bits are 1
abbrev pub end_term : Word → TermId → TermId → Option TermId
end_term x zero full = if is_zero x then Some zero else if is_full x then Some full else None

-- and with 0 is 0, and with all bits 1 it is the other; a and a is a
abbrev pub and_term : TermsView → TermId → TermId → Built
and_term t a b = by_constants (constant_at t a) (constant_at t b)
    (λ x y. constant_term t (and_of x y))
    (λ x. known_or t (end_term x a b) (And a b))
    (λ y. known_or t (end_term y b a) (And a b))
    (kept_or t (is_same_term a b) a (And a b))

-- or with 0 is the other, and with all bits 1 it is that; a or a is a
abbrev pub or_term : TermsView → TermId → TermId → Built
or_term t a b = by_constants (constant_at t a) (constant_at t b)
    (λ x y. constant_term t (or_of x y))
    (λ x. known_or t (end_term x b a) (Or a b))
    (λ y. known_or t (end_term y a b) (Or a b))
    (kept_or t (is_same_term a b) a (Or a b))

abbrev pub joined_term : TermsView → TermId → TermId → Built
joined_term t a b = by_constants (constant_at t a) (constant_at t b)
    (λ x y. constant_term t (joined_of x y))
    (λ x. with_node t (Concat a b))
    (λ y. with_node t (Concat a b))
    (with_node t (Concat a b))

-- a node over one term: `value` of a constant, and else the node's term
abbrev pub of_constant : TermsView → Option Word → (Word → Word) → TermNode → Built
of_constant t (Some x) value node = constant_term t (value x)
of_constant t None value node = with_node t node

abbrev pub negation_term : TermsView → TermId → Built
negation_term t a = of_constant t (constant_at t a) negation_of (Neg a)

abbrev pub complement_term : TermsView → TermId → Built
complement_term t a = of_constant t (constant_at t a) complement_of (Not a)

-- a constant condition chooses; of two equal terms either is the choice
abbrev pub choice_by : TermsView → Option Word → TermId → TermId → TermId → Built
choice_by t (Some x) c a b = if x.number == 1 then built_of t a else built_of t b
choice_by t None c a b = kept_or t (is_same_term a b) a (Ite c a b)

abbrev pub choice_term : TermsView → TermId → TermId → TermId → Built
choice_term t c a b = choice_by t (constant_at t c) c a b
