-- A netlist put together from its parts.
use Rattle.std.proofs.Common.{◌≡◌, ℕ, ◌+◌, List, length, refl, ap, ◌∙◌, arith}
use Rattle.dsv_word.specs.declared.format.Format.{Format}
use Rattle.dsv_netlist.specs.declared.node.Node.{Node}
use Rattle.dsv_netlist.specs.Nodes.{net_from}
use Rattle.dsv_names.specs.declared.realisation.Realisation.{Realisation}
use Rattle.dsv_quantiser.specs.QuantisedView.{QuantisedView}
use Rattle.dsv_meaning.specs.Equations.{order, forward_registers_of}
use Rattle.dsv_realise.specs.Netlists.{net_with, net_of}

pub net_made : (q : QuantisedView) (ns : List Node) (next : List ℕ) (y past : ℕ) (f : Format) (realisation : Realisation) (n : ℕ) → past ≡ forward_registers_of realisation n → realisation ≡ q.realisation → n + 1 ≡ length q.a → f ≡ q.format → net_with q q.realisation ns next y ≡ net_of q
    → net_from ns next y past f ≡ net_of q
net_made q ns next y past f realisation n e k l g h =
    let m : n ≡ order q = omega arith in
    let p : past ≡ forward_registers_of q.realisation (order q) = e ∙ rw (k, m) refl in
    ap (λ (j : ℕ). net_from ns next y j f) p ∙ ap (net_from ns next y (forward_registers_of q.realisation (order q))) g ∙ h
