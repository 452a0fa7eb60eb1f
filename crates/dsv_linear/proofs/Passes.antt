-- Loops over nodes, registers and samples.
use Rattle.std.proofs.Common.{◌≡◌, ℕ, zero, suc, ◌+◌, ◌-◌, ◌<◌, List, [], ◌∷◌, ◌++◌, length, get_or, take, map, replicate, refl, sym, ap, ◌∙◌, arith, add-one}
use Rattle.std.proofs.lemmas.List.{take_more, map-append}
use Rattle.dsv_netlist.specs.declared.node.Node.{Node}
use Rattle.dsv_netlist.specs.Nodes.{Net}
use Rattle.dsv_linear.specs.declared.fact.Fact.{Fact}
use Rattle.dsv_linear.specs.declared.point.Start.{Start}
use Rattle.dsv_linear.specs.declared.point.Point.{Point}
use Rattle.dsv_linear.specs.Known.{point_from, after_node, after_sample, loaded, facts_from}

-- an item that is there, whatever stands for one that isn't
pub other_default : {X : Type 0} (xs : List X) (i : ℕ) (d e : X) → i < length xs → get_or xs i d ≡ get_or xs i e
other_default [] i d e h = absurd (omega arith)
other_default (x ∷ xs) zero d e h = refl
other_default (x ∷ xs) (suc i) d e h = other_default xs i d e (omega arith)

-- one item more of a list that is mapped
pub mapped_more : {X Y : Type 0} (f : X → Y) (xs : List X) (got now : List Y) (i : ℕ) (d : X) (y : Y) → i < length xs → got ≡ map f (take i xs)
    → y ≡ f (get_or xs i d) → now ≡ got ++ y ∷ [] → now ≡ map f (take (i + 1) xs)
mapped_more f xs got now i d y l g e p =
    p ∙ rw (g, e) (sym (map-append f (take i xs) (get_or xs i d ∷ []))) ∙ ap (map f) (sym (take_more xs i d l))

replicate_next : {X : Type 0} (n : ℕ) (x : X) → replicate (suc n) x ≡ replicate n x ++ x ∷ []
replicate_next zero x = refl
replicate_next (suc n) x = ap (λ xs. x ∷ xs) (replicate_next n x)

pub replicate_more : {X : Type 0} (n : ℕ) (x : X) → replicate (n + 1) x ≡ replicate n x ++ x ∷ []
replicate_more n x = ap (λ m. replicate m x) (add-one n) ∙ replicate_next n x

point_from_more : (start : Start) (nodes : List Node) (node : Node) (point : Point) → point_from start (nodes ++ node ∷ []) point ≡ after_node start (point_from start nodes point) node
point_from_more start [] node point = refl
point_from_more start (n ∷ nodes) node point = point_from_more start nodes node (after_node start point n)

-- one node more
pub nodes_more : (start : Start) (nodes : List Node) (d : Node) (i : ℕ) (before point now : Point) → i < length nodes → point ≡ point_from start (take i nodes) before
    → now ≡ after_node start point (get_or nodes i d) → now ≡ point_from start (take (i + 1) nodes) before
nodes_more start nodes d i before point now l e p =
    p ∙ ap (λ q. after_node start q (get_or nodes i d)) e ∙ sym (point_from_more start (take i nodes) (get_or nodes i d) before)
    ∙ ap (λ ns. point_from start ns before) (sym (take_more nodes i d l))

-- one sample more: what is left gives the same facts
pub samples_more : (net : Net) (samples i : ℕ) (start now : Start) (point next : Point) (facts : List Fact) → i < samples
    → facts_from net (samples - i) start point ≡ facts → next ≡ after_sample net start point → now ≡ loaded net.next start next
    → facts_from net (samples - (i + 1)) now next ≡ facts
samples_more net samples i start now point next facts l e p q =
    let k : samples - i ≡ suc (samples - (i + 1)) = omega arith in
    ap (λ s. facts_from net (samples - (i + 1)) s next) q
    ∙ ap (λ (m : Point). facts_from net (samples - (i + 1)) (loaded net.next start m) m) p
    ∙ ap (λ n. facts_from net n start point) (sym k) ∙ e
