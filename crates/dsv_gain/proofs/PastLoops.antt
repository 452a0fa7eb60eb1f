-- Which nodes give past inputs.
use Rattle.std.proofs.Common.{◌≡◌, ℕ, zero, suc, ◌<◌, ◌≤◌, false, List, [], ◌∷◌, length, get_or, refl, arith}
use Rattle.dsv_netlist.specs.declared.node.Node.{Node}
use Rattle.dsv_gain.specs.Gains.{is_past, gives_past}

pub gives_past-get_or : (forward : ℕ) (nodes : List Node) (k : ℕ) (d : Node) → k < length nodes → gives_past forward nodes k ≡ is_past forward (get_or nodes k d)
gives_past-get_or forward [] k d h = absurd (omega arith)
gives_past-get_or forward (node ∷ nodes) zero d h = refl
gives_past-get_or forward (node ∷ nodes) (suc k) d h = gives_past-get_or forward nodes k d (omega arith)

pub gives_past-outside : (forward : ℕ) (nodes : List Node) (k : ℕ) → length nodes ≤ k → gives_past forward nodes k ≡ false
gives_past-outside forward [] k h = refl
gives_past-outside forward (node ∷ nodes) zero h = absurd (omega arith)
gives_past-outside forward (node ∷ nodes) (suc k) h = gives_past-outside forward nodes k (omega arith)
