-- Which nodes are named.
use Rattle.std.proofs.Common.{◌≡◌, ℕ, zero, suc, ◌<◌, ◌≤◌, true, false, List, [], ◌∷◌, length, get_or, refl, arith}
use Rattle.dsv_netlist.specs.declared.node.Node.{Node}
use Rattle.dsv_netlist.specs.Conditions.{gives_word, names_word}

pub names_word-get_or : (nodes : List Node) (k : ℕ) (d : Node) → k < length nodes → names_word nodes k ≡ gives_word (get_or nodes k d)
names_word-get_or [] k d h = absurd (omega arith)
names_word-get_or (node ∷ nodes) zero d h = refl
names_word-get_or (node ∷ nodes) (suc k) d h = names_word-get_or nodes k d (omega arith)

pub names_word-outside : (nodes : List Node) (k : ℕ) → length nodes ≤ k → names_word nodes k ≡ false
names_word-outside [] k h = refl
names_word-outside (node ∷ nodes) zero h = absurd (omega arith)
names_word-outside (node ∷ nodes) (suc k) h = names_word-outside nodes k (omega arith)

pub names_word-below : (nodes : List Node) (k : ℕ) → names_word nodes k ≡ true → k < length nodes
names_word-below [] k h = absurd cc
names_word-below (node ∷ nodes) zero h = omega arith
names_word-below (node ∷ nodes) (suc k) h = omega (arith, names_word-below nodes k h)
