-- The formula of a goal: one pass over the nodes of its terms.
use Rattle.std.specs.Prelude.{◌≡◌, ◌≢◌, ℕ, zero, suc, ◌+◌, ◌<◌, Bool, List, [], ◌∷◌, ◌++◌}
use Rattle.std.specs.Prelude.{length, map, replicate, slice_range, slice_index_or}
use Rattle.dsv_cnf.specs.Formula.{Satisfies, IsModel, IsUnsatisfiable, assignment_of}
use Rattle.dsv_cnf.specs.FormulaView.{FormulaView}
use Rattle.dsv_cnf.specs.Literal.{Literal}
use Rattle.dsv_term.specs.declared.node.TermId.{TermId}
use Rattle.dsv_term.specs.declared.node.TermNode.{TermNode}
use Rattle.dsv_term.specs.declared.node.TermNode.TheVariants.{Input, Constant, Add, Sub, Slt}
use Rattle.dsv_term.specs.declared.node.TermNode.TheVariants.{Sle, Ult, Eq, And, Or, Concat, Neg}
use Rattle.dsv_term.specs.declared.node.TermNode.TheVariants.{Not, MulConst, Sext, Extract, Ite}
use Rattle.dsv_term.specs.declared.word.Word.{Word}
use Rattle.dsv_term.specs.Terms.{AreValues, word_of}
use Rattle.dsv_term.specs.TermsView.{TermsView}
use Rattle.dsv_term.specs.Word.{residue}
use Rattle.dsv_blast.specs.CircuitView.{CircuitView, Built}
use Rattle.dsv_blast.specs.Gates.{positive, zero_of, negated, and_wired, or_wired}
use Rattle.dsv_blast.specs.Words.{bits_value, number_of, built, built_bit, zip_from}
use Rattle.dsv_blast.specs.Words.{constant_bits, negations, sign_turned, extended, sum_built}
use Rattle.dsv_blast.specs.Words.{difference_built, at_least_wired, same_from}
use Rattle.dsv_blast.specs.Words.{multiple_built, choice_from}

-- so many variables in a row
abbrev pub run_from : ℕ → ℕ → List Literal
run_from n zero = []
run_from n (suc w) = positive n ∷ run_from (n + 1) w

-- the variables of inputs that are so wide, from a variable on
abbrev pub places_from : ℕ → List ℕ → List (List Literal)
places_from n [] = []
places_from n (w ∷ ws) = run_from n w ∷ places_from (n + w) ws

abbrev pub total : List ℕ → ℕ
total [] = 0
total (w ∷ ws) = w + total ws

-- the bits of a node, or of an input
abbrev pub bits_at : List (List Literal) → ℕ → List Literal
bits_at bits i = slice_index_or bits i []

-- what a node adds, where the inputs have these places and the earlier nodes these bits
abbrev pub node_built : List (List Literal) → List (List Literal) → CircuitView → TermNode → Built
node_built places bits c (Input k) = built c (bits_at places k)
node_built places bits c (Constant width value) = built c (constant_bits c.one width value)
node_built places bits c (Add a b) = sum_built c (bits_at bits a.0) (bits_at bits b.0)
node_built places bits c (Sub a b) = difference_built c (bits_at bits a.0) (bits_at bits b.0)
node_built places bits c (Slt a b) = built_bit (negated
    (at_least_wired c (sign_turned (bits_at bits a.0)) (sign_turned (bits_at bits b.0))))
node_built places bits c (Sle a b) = built_bit
    (at_least_wired c (sign_turned (bits_at bits b.0)) (sign_turned (bits_at bits a.0)))
node_built places bits c (Ult a b) =
    built_bit (negated (at_least_wired c (bits_at bits a.0) (bits_at bits b.0)))
node_built places bits c (Eq a b) =
    built_bit (same_from (bits_at bits a.0) (bits_at bits b.0) c.one c)
node_built places bits c (And a b) =
    zip_from and_wired (bits_at bits a.0) (bits_at bits b.0) c []
node_built places bits c (Or a b) =
    zip_from or_wired (bits_at bits a.0) (bits_at bits b.0) c []
node_built places bits c (Concat a b) = built c (bits_at bits b.0 ++ bits_at bits a.0)
node_built places bits c (Neg a) =
    difference_built c (replicate (length (bits_at bits a.0)) (zero_of c)) (bits_at bits a.0)
node_built places bits c (Not a) = built c (negations (bits_at bits a.0))
node_built places bits c (MulConst a coeff) =
    multiple_built c (residue (length (bits_at bits a.0)) coeff) (bits_at bits a.0)
node_built places bits c (Sext a width) = built c (extended (zero_of c) width (bits_at bits a.0))
node_built places bits c (Extract a high low) =
    built c (slice_range (bits_at bits a.0) low (high + 1))
node_built places bits c (Ite k a b) =
    choice_from (slice_index_or (bits_at bits k.0) 0 (zero_of c))
    (bits_at bits a.0) (bits_at bits b.0) c []

-- a circuit with the bits of each node
pub record Blast : Type 0 where
  pub circuit : CircuitView
  pub bits : List (List Literal)

-- the nodes, after those that have these bits
abbrev pub blast_from : List (List Literal) → List TermNode → CircuitView → List (List Literal)
    → Blast
blast_from places [] c bits = record { circuit = c; bits = bits }
blast_from places (n ∷ ns) c bits =
    let node = node_built places bits c n in
    blast_from places ns node.circuit (bits ++ node.bits ∷ [])

-- no gates: after the variables of the inputs one that a clause makes true
abbrev pub first_circuit : ℕ → CircuitView
first_circuit n = record {
  one = positive n;
  formula = record { vars = n + 1; clauses = (positive n ∷ []) ∷ [] };
}

-- the places of the inputs
abbrev pub input_places : TermsView → List (List Literal)
input_places t = places_from 0 t.inputs

-- the gates of all terms
unfoldable pub blast_of : TermsView → Blast
blast_of t = blast_from (input_places t) t.nodes (first_circuit (total t.inputs)) []

-- the formula: the gates, and the root
unfoldable pub cnf_of : TermsView → TermId → FormulaView
cnf_of t root = record {
  vars = (blast_of t).circuit.formula.vars;
  clauses = (blast_of t).circuit.formula.clauses ++ bits_at (blast_of t).bits root.0 ∷ [];
}

-- what the inputs' variables spell
abbrev pub input_values : List (List Literal) → (ℕ → Bool) → List ℕ
input_values places v = map (λ ls. number_of (bits_value v ls)) places

-- the word that literals spell
abbrev pub bits_word : (ℕ → Bool) → List Literal → Word
bits_word v ls = record { width = length ls; number = number_of (bits_value v ls) }

-- The assignment satisfies the clauses of the gates.
abbrev pub RunsGates : TermsView → (ℕ → Bool) → Type 0
RunsGates t v = Satisfies v (blast_of t).circuit.formula.clauses

-- The bits of each node spell the word that the node has at the values of the inputs.
abbrev pub SpellsNodes : TermsView → (ℕ → Bool) → Type 0
SpellsNodes t v = (i : ℕ) → i < length t.nodes
    → bits_word v (bits_at (blast_of t).bits i)
    ≡ word_of t (input_values (input_places t) v) (record { 0 = i })

-- The root is 1 at the values that the assignment gives the inputs.
abbrev pub MakesRoot : TermsView → TermId → (ℕ → Bool) → Type 0
MakesRoot t root v = (word_of t (input_values (input_places t) v) root).number ≡ 1

-- Two assignments give the variables below a number the same values.
abbrev pub Agree : ℕ → (ℕ → Bool) → (ℕ → Bool) → Type 0
Agree n v w = (k : ℕ) → k < n → v k ≡ w k

-- An assignment gives the inputs values. Where it satisfies the clauses of the gates, the bits of
-- each node spell the node's word at these values, and it satisfies the formula, whose clauses are
-- these and the root's bit, exactly where the root is 1. All values of the inputs have one
-- assignment of the gates.
pub record IsExact (t : TermsView) (root : TermId) (f : FormulaView) : Type 0 where
  pub values : (v : ℕ → Bool) → AreValues t.inputs (input_values (input_places t) v)
  pub nodes : (v : ℕ → Bool) → RunsGates t v → SpellsNodes t v
  pub makes : (v : ℕ → Bool) → Satisfies v f.clauses → MakesRoot t root v
  pub satisfies : (v : ℕ → Bool) → RunsGates t v → MakesRoot t root v → Satisfies v f.clauses
  pub every : (values : List ℕ) → AreValues t.inputs values
      → (v : ℕ → Bool) × ((input_values (input_places t) v ≡ values) × RunsGates t v)
  pub only : (v w : ℕ → Bool) → RunsGates t v → RunsGates t w → Agree (total t.inputs) v w
      → Agree f.vars v w

-- What a solver finds for the formula is so of the goal: a model gives the inputs at these places
-- values at which the root is 1, and where there is no model the root is 1 at no values.
pub record IsDecisive (t : TermsView) (root : TermId) (f : FormulaView)
    (places : List (List Literal)) : Type 0 where
  pub found : (values : List Bool) → IsModel f values
      → (word_of t (input_values places (assignment_of values)) root).number ≡ 1
  pub none : IsUnsatisfiable f.clauses → (values : List ℕ) → AreValues t.inputs values
      → (word_of t values root).number ≢ 1
