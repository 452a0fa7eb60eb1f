-- How many locals stand before a node.
use Rattle.std.proofs.Common.{◌≡◌, ℕ, zero, suc, ◌+◌, ◌<◌, ◌≤◌, inl, inr, List, [], ◌∷◌, ◌++◌, length, get_or, set, refl, ap, ◌∙◌, arith}
use Rattle.std.proofs.lemmas.Bool.{cases_lt}
use Rattle.std.proofs.lemmas.List.{get_or-set_same, get_or-set_other, length-set}
use Rattle.dsv_word.specs.declared.format.Format.{Format}
use Rattle.dsv_netlist.specs.Nodes.{Net}
use Rattle.dsv_netlist.specs.Bounds.{node_bound}
use Rattle.dsv_netlist.specs.declared.node.Node.{Node}
use Rattle.dsv_netlist.specs.declared.node.Node.TheVariants.{Input, Reg, MulConst, Round, Add, Sub, Fit, Scale}
use Rattle.dsv_c.specs.Programs.{TypedExpr, node_code, node_locals}
use Rattle.dsv_ctext.specs.Plans.{locals_before}
use Rattle.dsv_ctext.specs.Plans.{AreLocals, AreSmall, locals_of_node}
use Rattle.dsv_c.specs.Codable.{node_at}

needs : (f : Format) (bs : List ℕ) (cs : List TypedExpr) (n : Node) → length (node_locals f bs cs n) ≡ locals_of_node n
needs f bs cs Input = refl
needs f bs cs (Reg k) = refl
needs f bs cs (MulConst c k) = refl
needs f bs cs (Round k) = refl
needs f bs cs (Add k m) = refl
needs f bs cs (Sub k m) = refl
needs f bs cs (Fit k) = refl
needs f bs cs (Scale k) = refl

none_before : (f : Format) (ns : List Node) (bs : List ℕ) (cs : List TypedExpr) (l : ℕ) → locals_before f ns bs cs l zero ≡ l
none_before f [] bs cs l = refl
none_before f (n ∷ ns) bs cs l = refl

before_next : (f : Format) (ns : List Node) (bs : List ℕ) (cs : List TypedExpr) (l i : ℕ) (d : Node) → i < length ns → locals_before f ns bs cs l (suc i) ≡ locals_before f ns bs cs l i + locals_of_node (get_or ns i d)
before_next f [] bs cs l i d h = absurd (omega arith)
before_next f (n ∷ ns) bs cs l zero d h = none_before f ns (bs ++ node_bound f bs n ∷ []) (cs ++ node_code f bs cs l n ∷ []) (l + length (node_locals f bs cs n)) ∙ ap (λ (k : ℕ). l + k) (needs f bs cs n)
before_next f (n ∷ ns) bs cs l (suc i) d h = before_next f ns (bs ++ node_bound f bs n ∷ []) (cs ++ node_code f bs cs l n ∷ []) (l + length (node_locals f bs cs n)) i d (omega arith)

-- the locals before node i
abbrev pub count_at : Net → ℕ → ℕ
count_at net i = locals_before net.format net.nodes [] [] (length net.next + 1) i

pub count_next : (net : Net) (i : ℕ) → i < length net.nodes → count_at net (i + 1) ≡ count_at net i + locals_of_node (node_at net i)
count_next net i h =
    let s : i + 1 ≡ suc i = omega arith in
    ap (count_at net) s ∙ before_next net.format net.nodes [] [] (length net.next + 1) i Input h

pub count_none : (net : Net) → count_at net 0 ≡ length net.next + 1
count_none net = none_before net.format net.nodes [] [] (length net.next + 1)

-- a turn of the loop
pub record LocalsAt (net : Net) (i : ℕ) (locals : List ℕ) (count : ℕ) : Type 0 where
  pub each : AreLocals net i locals
  pub small : AreSmall i locals
  pub counts : count ≡ count_at net i
  pub few : count ≤ 513 + i
  pub long : length locals ≡ 512

pub locals_more : (net : Net) (i : ℕ) (locals now : List ℕ) (count more : ℕ) → i < length net.nodes → length net.nodes ≤ 512 → LocalsAt net i locals count → now ≡ set locals i count → more ≡ locals_of_node (node_at net i) → more ≤ 1
    → LocalsAt net (i + 1) now (count + more)
locals_more net i locals now count more h few s g e m = let l : i < length locals = omega (arith, s.long) in record {
  each = λ k p. elim (cases_lt k i) [
    | inl less ↦ rw g (get_or-set_other locals i k count 0 (λ (x : k ≡ i). absurd (omega arith)) ∙ s.each k less)
    | inr late ↦ (let x : i ≡ k = omega arith in rw (g, ← x) (get_or-set_same locals i count 0 l ∙ s.counts))
  ];
  small = λ k p. elim (cases_lt k i) [
    | inl less ↦ rw (g, get_or-set_other locals i k count 0 (λ (x : k ≡ i). absurd (omega arith))) (s.small k less)
    | inr late ↦ (let x : i ≡ k = omega arith in rw (g, ← x, get_or-set_same locals i count 0 l) (omega (arith, s.few)))
  ];
  counts = omega (arith, count_next net i h, s.counts);
  few = omega (arith, s.few);
  long = rw g (length-set locals i count ∙ s.long);
}
