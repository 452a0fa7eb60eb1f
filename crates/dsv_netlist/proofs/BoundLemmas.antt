-- The bounds of nodes, one after another.
use Rattle.std.proofs.Common.{◌≡◌, ℕ, ◌+◌, ◌<◌, List, [], ◌∷◌, ◌++◌, length, get_or, take, drop, set, refl, sym, subst, ◌∙◌, arith}
use Rattle.std.specs.List.{All}
use Rattle.std.proofs.lemmas.List.{drop_more, take_more_set, get_or_push, get_or_append_left, length_push}
use Rattle.std.proofs.lemmas.List.Elements.{All-push, All-get_or}
use Rattle.dsv_word.specs.declared.format.Format.{Format}
use Rattle.dsv_netlist.specs.declared.node.Node.{Node}
use Rattle.dsv_netlist.specs.declared.node.Node.TheVariants.{Input}
use Rattle.dsv_netlist.specs.Limits.{bound_limit}
use Rattle.dsv_netlist.specs.Bounds.{node_bound, bounds_from}

abbrev pub AreBelow : List ℕ → Type 0
AreBelow bounds = All (λ bound. bound < bound_limit) bounds

pub from-length : (format : Format) (nodes : List Node) (bounds : List ℕ) → length (bounds_from format nodes bounds) ≡ length bounds + length nodes
from-length format [] bounds = omega arith
from-length format (node ∷ nodes) bounds = omega (arith, from-length format nodes (bounds ++ node_bound format bounds node ∷ []), length_push bounds (node_bound format bounds node))

-- a bound that stands stays
pub from_keeps : (format : Format) (nodes : List Node) (bounds : List ℕ) (i : ℕ) → i < length bounds → get_or (bounds_from format nodes bounds) i 0 ≡ get_or bounds i 0
from_keeps format [] bounds i h = refl
from_keeps format (node ∷ nodes) bounds i h =
    let b = node_bound format bounds node in
    from_keeps format nodes (bounds ++ b ∷ []) i (omega (arith, length_push bounds b)) ∙ get_or_append_left bounds (b ∷ []) 0 i h

-- the bound of the first of these nodes
pub first_below : (format : Format) (node : Node) (nodes : List Node) (bounds : List ℕ) → AreBelow (bounds_from format (node ∷ nodes) bounds) → node_bound format bounds node < bound_limit
first_below format node nodes bounds h =
    let b = node_bound format bounds node in
    let more = bounds ++ b ∷ [] in
    let inside : length bounds < length (bounds_from format nodes more) = omega (arith, from-length format nodes more, length_push bounds b) in
    let same : get_or (bounds_from format nodes more) (length bounds) 0 ≡ b = from_keeps format nodes more (length bounds) (omega (arith, length_push bounds b)) ∙ get_or_push bounds b 0 (length bounds) refl in
    subst (λ (n : ℕ). n < bound_limit) same (All-get_or (λ (n : ℕ). n < bound_limit) (bounds_from format nodes more) (length bounds) 0 inside h)

-- the bounds after i of the nodes
pub record BoundsAt (format : Format) (nodes : List Node) (i : ℕ) (bounds : List ℕ) : Type 0 where
  pub same : bounds_from format (drop i nodes) (take i bounds) ≡ bounds_from format nodes []
  pub below : AreBelow (take i bounds)

pub here_below : (format : Format) (nodes : List Node) (i : ℕ) (bounds : List ℕ) → i < length nodes → BoundsAt format nodes i bounds → AreBelow (bounds_from format nodes []) → node_bound format (take i bounds) (get_or nodes i Input) < bound_limit
here_below format nodes i bounds l s h =
    let all : AreBelow (bounds_from format (drop i nodes) (take i bounds)) = subst AreBelow (sym s.same) h in
    first_below format (get_or nodes i Input) (drop (i + 1) nodes) (take i bounds) (subst (λ (ns : List Node). AreBelow (bounds_from format ns (take i bounds))) (drop_more nodes i Input l) all)

pub bounds_more : (format : Format) (nodes : List Node) (i : ℕ) (bounds now : List ℕ) (b : ℕ) → i < length nodes → i < length bounds → BoundsAt format nodes i bounds
    → b ≡ node_bound format (take i bounds) (get_or nodes i Input) → b < bound_limit → now ≡ set bounds i b → BoundsAt format nodes (i + 1) now
bounds_more format nodes i bounds now b l k s e small g =
    let pushed : take (i + 1) now ≡ take i bounds ++ b ∷ [] = rw g (take_more_set bounds i b k) in
    let one = subst (λ (ns : List Node). bounds_from format ns (take i bounds) ≡ bounds_from format nodes []) (drop_more nodes i Input l) s.same in
    record {
      same = rw (pushed, e) one;
      below = rw pushed (All-push (λ (n : ℕ). n < bound_limit) (take i bounds) b s.below small);
    }
