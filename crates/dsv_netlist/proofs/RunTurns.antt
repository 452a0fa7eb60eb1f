-- A turn of the loop over a sample's nodes.
use Rattle.std.proofs.Common.{◌≡◌, ℕ, ◌+◌, ◌<◌, List, [], ◌∷◌, ◌++◌, length, get_or, take, drop, set, subst}
use Rattle.std.proofs.Math.IntN.{ℤ}
use Rattle.std.specs.List.{All}
use Rattle.std.specs.Int.RustNames.{unsigned_abs}
use Rattle.std.proofs.lemmas.List.{drop_more, take_more_set}
use Rattle.std.proofs.lemmas.List.Elements.{All-push}
use Rattle.dsv_word.specs.declared.format.Format.{Format}
use Rattle.dsv_netlist.specs.declared.node.Node.{Node}
use Rattle.dsv_netlist.specs.declared.node.Node.TheVariants.{Input}
use Rattle.dsv_netlist.specs.Limits.{bound_limit}
use Rattle.dsv_netlist.specs.Nodes.{Sample, node_value, node_exact, sample_from, sample_of}
use Rattle.dsv_netlist.specs.Safety.{AreSafe}

-- the sample after i of the nodes
abbrev pub so_far : ℕ → List ℤ → List ℤ → Sample
so_far i values exact = record { values = take i values; exact = exact }

-- what is known after i of the nodes
pub record NodesAt (f : Format) (rs : List ℤ) (x : ℤ) (nodes : List Node) (i : ℕ) (values exact : List ℤ) : Type 0 where
  pub same : sample_from f rs x (drop i nodes) (so_far i values exact) ≡ sample_of f rs x nodes
  pub safe : AreSafe f rs x (drop i nodes) (so_far i values exact)
  pub bounded : All (λ v. unsigned_abs v < bound_limit) (take i values)

pub nodes_more : (f : Format) (rs : List ℤ) (x : ℤ) (nodes : List Node) (i : ℕ) (values now exact made : List ℤ) (v : ℤ) → i < length nodes → i < length values → NodesAt f rs x nodes i values exact
    → v ≡ node_value f rs x (take i values) (get_or nodes i Input) → made ≡ exact ++ node_exact (take i values) (get_or nodes i Input) → now ≡ set values i v → NodesAt f rs x nodes (i + 1) now made
nodes_more f rs x nodes i values now exact made v l k s e g n =
    let pushed : take (i + 1) now ≡ take i values ++ v ∷ [] = rw n (take_more_set values i v k) in
    let one = subst (λ (ns : List Node). sample_from f rs x ns (so_far i values exact) ≡ sample_of f rs x nodes) (drop_more nodes i Input l) s.same in
    let both = subst (λ (ns : List Node). AreSafe f rs x ns (so_far i values exact)) (drop_more nodes i Input l) s.safe in
    record {
      same = rw (pushed, e, g) one;
      safe = rw (pushed, e, g) both.1;
      bounded = rw pushed (All-push (λ (u : ℤ). unsigned_abs u < bound_limit) (take i values) v s.bounded (rw e both.0.small));
    }
