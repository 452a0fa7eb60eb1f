-- The sizes of nodes' values, one after another, from what is said of those of a whole sample.
use Rattle.std.proofs.Common.{◌≡◌, ℕ, ◌+◌, ◌<◌, ◌≤◌, List, [], ◌∷◌, ◌++◌, length, refl, sym, subst, ◌∙◌, arith}
use Rattle.std.specs.Prelude.{slice_index}
use Rattle.std.specs.List.{All}
use Rattle.std.specs.Int.RustNames.{unsigned_abs}
use Rattle.std.proofs.Math.IntN.{ℤ, pos}
use Rattle.std.proofs.lemmas.List.{get_or_push, length_push}
use Rattle.std.proofs.lemmas.List.Elements.{All-tail}
use Rattle.dsv_word.specs.declared.format.Format.{Format}
use Rattle.dsv_netlist.specs.declared.node.Node.{Node}
use Rattle.dsv_netlist.specs.Nodes.{Net, Sample, at, node_value, after_node, sample_from}
use Rattle.dsv_netlist.specs.Bounds.{node_bound, bounds_from}
use Rattle.dsv_netlist.specs.Conditions.{AllNameBack, ReadsBelow, IsNetlist}
use Rattle.dsv_netlist.specs.Law.{AreWords}
use Rattle.dsv_netlist.proofs.BoundLemmas as bounds
use Rattle.dsv_netlist.proofs.Runs.{values_bounded}
use Rattle.dsv_netlist.proofs.Runs as runs

-- what is known of these nodes, after a sample that has come so far
pub record Rest (f : Format) (rs : List ℤ) (x : ℤ) (ns : List Node) (bs : List ℕ) (s : Sample) : Type 0 where
  pub long : length bs ≡ length s.values
  pub within : (i : ℕ) → i < length s.values + length ns → unsigned_abs (at (sample_from f rs x ns s).values i) ≤ slice_index (bounds_from f ns bs) i
  pub backwards : AllNameBack (length s.values) ns
  pub reads : All (ReadsBelow (length rs)) ns

pub rest_at_start : (net : Net) (rs : List ℤ) (x : ℤ) → IsNetlist net → AreWords net rs x → Rest net.format rs x net.nodes [] (record { values = []; exact = [] })
rest_at_start net rs x n w = record {
  long = refl;
  within = λ i h. values_bounded net rs x n w i (omega arith);
  backwards = n.backwards;
  reads = rw w.many n.registers;
}

-- the values that stand
pub size_before : (f : Format) (rs : List ℤ) (x : ℤ) (ns : List Node) (bs : List ℕ) (s : Sample) (i : ℕ) → Rest f rs x ns bs s → i < length s.values → unsigned_abs (at s.values i) ≤ slice_index bs i
size_before f rs x ns bs s i h l =
    rw (← runs.from_keeps f rs x ns s i l, ← bounds.from_keeps f ns bs i (omega (arith, h.long))) (h.within i (omega arith))

-- the next value
pub size_next : (f : Format) (rs : List ℤ) (x : ℤ) (n : Node) (ns : List Node) (bs : List ℕ) (s : Sample) → Rest f rs x (n ∷ ns) bs s → unsigned_abs (node_value f rs x s.values n) ≤ node_bound f bs n
size_next f rs x n ns bs s h =
    let i = length s.values in
    let v = node_value f rs x s.values n in
    let b = node_bound f bs n in
    let value : at (sample_from f rs x (n ∷ ns) s).values i ≡ v = runs.from_keeps f rs x ns (after_node f rs x s n) i (omega (arith, length_push s.values v)) ∙ get_or_push s.values v (pos 0) i refl in
    let bound : slice_index (bounds_from f (n ∷ ns) bs) i ≡ b = bounds.from_keeps f ns (bs ++ b ∷ []) i (omega (arith, h.long, length_push bs b)) ∙ get_or_push bs b 0 i (omega (arith, h.long)) in
    let there : i < length s.values + length (n ∷ ns) = omega arith in
    rw (← value, ← bound) (h.within i there)

pub rest_more : (f : Format) (rs : List ℤ) (x : ℤ) (n : Node) (ns : List Node) (bs : List ℕ) (s : Sample) → Rest f rs x (n ∷ ns) bs s → Rest f rs x ns (bs ++ node_bound f bs n ∷ []) (after_node f rs x s n)
rest_more f rs x n ns bs s h =
    let v = node_value f rs x s.values n in
    let b = node_bound f bs n in
    record {
      long = omega (arith, h.long, length_push bs b, length_push s.values v);
      within = λ i l. h.within i (omega (arith, length_push s.values v));
      backwards = subst (λ (k : ℕ). AllNameBack k ns) (sym (length_push s.values v)) h.backwards.1;
      reads = All-tail (ReadsBelow (length rs)) n ns h.reads;
    }
