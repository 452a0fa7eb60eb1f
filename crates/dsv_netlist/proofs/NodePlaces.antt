-- What holds of each node of a netlist holds of the one at a place.
use Rattle.std.proofs.Common.{◌≡◌, ℕ, zero, suc, ◌+◌, List, [], ◌∷◌, arith, subst}
use Rattle.std.specs.Prelude.{Some, slice_get}
use Rattle.std.specs.List.{All}
use Rattle.std.proofs.lemmas.List.Elements.{All-head, All-tail}
use Rattle.dsv_netlist.specs.declared.node.Node.{Node}
use Rattle.dsv_netlist.specs.Conditions.{NamesBelow, AllNameBack, ReadsBelow}

pub names-at : (m : ℕ) (nodes : List Node) (i : ℕ) (n : Node) → AllNameBack m nodes → slice_get nodes i ≡ Some n → NamesBelow (m + i) n
names-at m [] i n h e = absurd cc
names-at m (d ∷ ds) zero n h e = let k : d ≡ n = cc in let z : m + 0 ≡ m = omega arith in rw z (subst (NamesBelow m) k h.0)
names-at m (d ∷ ds) (suc i) n h e = let z : m + 1 + i ≡ m + suc i = omega arith in subst (λ (j : ℕ). NamesBelow j n) z (names-at (m + 1) ds i n h.1 e)

pub reads-at : (m : ℕ) (nodes : List Node) (i : ℕ) (n : Node) → All (ReadsBelow m) nodes → slice_get nodes i ≡ Some n → ReadsBelow m n
reads-at m [] i n h e = absurd cc
reads-at m (d ∷ ds) zero n h e = let k : d ≡ n = cc in subst (ReadsBelow m) k (All-head (ReadsBelow m) d ds h)
reads-at m (d ∷ ds) (suc i) n h e = reads-at m ds i n (All-tail (ReadsBelow m) d ds h) e
