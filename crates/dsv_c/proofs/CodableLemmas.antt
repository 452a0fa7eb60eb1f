-- Netlists that have a program, node by node and value by value.
use Rattle.std.proofs.Common.{◌≡◌, ℕ, ◌+◌, ◌<◌, ◌≤◌, cond, inl, inr, [], length, take, subst, arith}
use Rattle.std.specs.Prelude.{count_by}
use Rattle.std.specs.List.{All}
use Rattle.std.proofs.lemmas.Bool.{cases_lt}
use Rattle.std.proofs.lemmas.List.Sums.{fold_more}
use Rattle.std.proofs.lemmas.List.Elements.{All-from_get_or}
use Rattle.dsv_netlist.specs.Nodes.{Net}
use Rattle.dsv_netlist.specs.Bounds.{bounds_of}
use Rattle.dsv_netlist.specs.Conditions.{is_fit}
use Rattle.dsv_netlist.specs.declared.node.Node.TheVariants.{Input}
use Rattle.dsv_netlist.proofs.BoundLemmas.{from-length}
use Rattle.dsv_c.specs.declared.c_type.CType.TheVariants.{Int64}
use Rattle.dsv_c.specs.Meaning.{limit}
use Rattle.dsv_c.specs.Programs.{headroom}
use Rattle.dsv_c.specs.Codable.{HasConstant, IsCodableNode, AreCodable, IsCodable, node_at}

pub all_roomy : (net : Net) → IsCodable net → All (λ b. b + headroom net.format < limit Int64) (bounds_of net.format net.nodes)
all_roomy net c = All-from_get_or (λ b. b + headroom net.format < limit Int64) (bounds_of net.format net.nodes) 0 (λ i l. (c i (omega (arith, from-length net.format net.nodes []))).1)

pub all_constants : (net : Net) → IsCodable net → All HasConstant net.nodes
all_constants net c = All-from_get_or HasConstant net.nodes Input (λ i l. (c i l).0)

-- the nodes before node i have expressions, and fit so many values
pub record ScannedTo (net : Net) (i count : ℕ) : Type 0 where
  pub codable : AreCodable net i
  pub counts : count ≡ count_by is_fit (take i net.nodes)
  pub few : count ≤ i

pub scanned_more : (net : Net) (i count more : ℕ) → i < length net.nodes → ScannedTo net i count → IsCodableNode net i → more ≡ cond (is_fit (node_at net i)) 1 0 → more ≤ 1 → ScannedTo net (i + 1) (count + more)
scanned_more net i count more h s c e m =
    let next : count_by is_fit (take (i + 1) net.nodes) ≡ count_by is_fit (take i net.nodes) + cond (is_fit (node_at net i)) 1 0 = fold_more (λ n x. n + cond (is_fit x) 1 0) 0 net.nodes i Input h in
    record {
      codable = λ k p. elim (cases_lt k i) [
        | inl less ↦ s.codable k less
        | inr late ↦ (let x : i ≡ k = omega arith in subst (IsCodableNode net) x c)
      ];
      counts = omega (arith, next, s.counts, e);
      few = omega (arith, s.few, m);
    }
