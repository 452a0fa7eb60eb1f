-- Registers and numbers in a row, one after another.
use Rattle.std.proofs.Common.{◌≡◌, ℕ, suc, ◌+◌, ◌-◌, ◌<◌, List, [], ◌∷◌, ◌++◌, sym, ap, ◌∙◌, arith, append_assoc}
use Rattle.dsv_netlist.specs.declared.node.Node.{Node}
use Rattle.dsv_netlist.specs.declared.node.Node.TheVariants.{Reg}
use Rattle.dsv_realise.specs.Netlists.{registers_from, count}

one_register : (k m n : ℕ) → n ≡ suc m → registers_from k n ≡ Reg k ∷ registers_from (k + 1) m
one_register k m n e = ap (registers_from k) e

pub register_more : (ns ms all : List Node) (k n : ℕ) → k < n → ms ≡ ns ++ Reg k ∷ [] → ns ++ registers_from k (n - k) ≡ all → ms ++ registers_from (k + 1) (n - (k + 1)) ≡ all
register_more ns ms all k n h e i =
    let o = one_register k (n - (k + 1)) (n - k) (omega arith) in
    ap (λ (w : List Node). w ++ registers_from (k + 1) (n - (k + 1))) e ∙ append_assoc ns (Reg k ∷ []) (registers_from (k + 1) (n - (k + 1))) ∙ ap (λ (w : List Node). ns ++ w) (sym o) ∙ i

pub count_more : (ns ms all : List ℕ) (r k n : ℕ) → k < n → ms ≡ ns ++ (r + k) ∷ [] → ns ++ count (r + k) (n - k) ≡ all → ms ++ count (r + (k + 1)) (n - (k + 1)) ≡ all
count_more ns ms all r k n h e i =
    let o : n - k ≡ suc (n - (k + 1)) = omega arith in
    let j : r + (k + 1) ≡ r + k + 1 = omega arith in
    ap (λ (w : List ℕ). w ++ count (r + (k + 1)) (n - (k + 1))) e ∙ append_assoc ns ((r + k) ∷ []) (count (r + (k + 1)) (n - (k + 1))) ∙ ap (λ (w : ℕ). ns ++ ((r + k) ∷ count w (n - (k + 1)))) j ∙ ap (λ (w : ℕ). ns ++ count (r + k) w) (sym o) ∙ i
