-- The expression of a node in terms of those of all nodes.
use Rattle.std.proofs.Common.{◌≡◌, ℕ, zero, suc, ◌+◌, ◌<◌, ◌≤◌, List, [], ◌∷◌, ◌++◌, length, get_or, refl, sym, ap, subst, ◌∙◌, arith}
use Rattle.std.specs.Prelude.{slice_index, slice_get, Some}
use Rattle.std.proofs.lemmas.List.{get_or_append_left, get_or_push, length_push}
use Rattle.dsv_word.specs.declared.format.Format.{Format}
use Rattle.dsv_netlist.specs.declared.node.Node.{Node}
use Rattle.dsv_netlist.specs.declared.node.Node.TheVariants.{Input, Reg, MulConst, Round, Add, Sub, Fit, Scale}
use Rattle.dsv_netlist.specs.Nodes.{Net}
use Rattle.dsv_netlist.specs.Bounds.{node_bound, bounds_from, bounds_of}
use Rattle.dsv_netlist.specs.Conditions.{NamesBelow, AllNameBack, ReadsBelow, IsNetlist}
use Rattle.dsv_netlist.specs.Limits.{most_registers}
use Rattle.std.proofs.lemmas.List.Elements.{All-get_or}
use Rattle.std.proofs.lemmas.Option.{get_or_from_slice_get}
use Rattle.dsv_netlist.proofs.BoundLemmas.{from_keeps}
use Rattle.dsv_c.specs.declared.c_type.CType.TheVariants.{Int}
use Rattle.dsv_c.specs.Syntax.{Local}
use Rattle.dsv_c.specs.Programs.{TypedExpr, typed_expr, code_at, node_code, node_locals, codes_from, codes_of}
use Rattle.dsv_ctext.specs.Plans.{locals_before}

pub codes-length : (f : Format) (ns : List Node) (bs : List ℕ) (cs : List TypedExpr) (l : ℕ) → length (codes_from f ns bs cs l) ≡ length cs + length ns
codes-length f [] bs cs l = omega arith
codes-length f (n ∷ ns) bs cs l =
    let c = node_code f bs cs l n in
    omega (arith, codes-length f ns (bs ++ node_bound f bs n ∷ []) (cs ++ c ∷ []) (l + length (node_locals f bs cs n)), length_push cs c)

-- an expression that stands stays
pub codes_keep : (f : Format) (ns : List Node) (bs : List ℕ) (cs : List TypedExpr) (l i : ℕ) → i < length cs → code_at (codes_from f ns bs cs l) i ≡ code_at cs i
codes_keep f [] bs cs l i h = refl
codes_keep f (n ∷ ns) bs cs l i h =
    let c = node_code f bs cs l n in
    codes_keep f ns (bs ++ node_bound f bs n ∷ []) (cs ++ c ∷ []) (l + length (node_locals f bs cs n)) i (omega (arith, length_push cs c)) ∙ get_or_append_left cs (c ∷ []) (typed_expr (Local 0) Int) i h

-- the same bounds and expressions below k
pub record Agrees (k : ℕ) (bs bs' : List ℕ) (cs cs' : List TypedExpr) : Type 0 where
  pub bounds : (i : ℕ) → i < k → slice_index bs i ≡ slice_index bs' i
  pub codes : (i : ℕ) → i < k → code_at cs i ≡ code_at cs' i

pub node_code-same : (f : Format) (k : ℕ) (bs bs' : List ℕ) (cs cs' : List TypedExpr) (l : ℕ) (n : Node) → Agrees k bs bs' cs cs' → NamesBelow k n → node_code f bs cs l n ≡ node_code f bs' cs' l n
node_code-same f k bs bs' cs cs' l Input a h = refl
node_code-same f k bs bs' cs cs' l (Reg r) a h = refl
node_code-same f k bs bs' cs cs' l (MulConst c i) a h = rw (a.bounds i h, a.codes i h) refl
node_code-same f k bs bs' cs cs' l (Round i) a h = rw (a.bounds i h, a.codes i h) refl
node_code-same f k bs bs' cs cs' l (Add i j) a h = rw (a.bounds i h.0, a.codes i h.0, a.bounds j h.1, a.codes j h.1) refl
node_code-same f k bs bs' cs cs' l (Sub i j) a h = rw (a.bounds i h.0, a.codes i h.0, a.bounds j h.1, a.codes j h.1) refl
node_code-same f k bs bs' cs cs' l (Fit i) a h = refl
node_code-same f k bs bs' cs cs' l (Scale i) a h = rw (a.bounds i h, a.codes i h) refl

pub node_locals-same : (f : Format) (k : ℕ) (bs bs' : List ℕ) (cs cs' : List TypedExpr) (n : Node) → Agrees k bs bs' cs cs' → NamesBelow k n → node_locals f bs cs n ≡ node_locals f bs' cs' n
node_locals-same f k bs bs' cs cs' Input a h = refl
node_locals-same f k bs bs' cs cs' (Reg r) a h = refl
node_locals-same f k bs bs' cs cs' (MulConst c i) a h = refl
node_locals-same f k bs bs' cs cs' (Round i) a h = refl
node_locals-same f k bs bs' cs cs' (Add i j) a h = refl
node_locals-same f k bs bs' cs cs' (Sub i j) a h = refl
node_locals-same f k bs bs' cs cs' (Fit i) a h = rw (a.bounds i h, a.codes i h) refl
node_locals-same f k bs bs' cs cs' (Scale i) a h = refl

-- ---- all nodes
pub prefix_agrees : (f : Format) (ns : List Node) (bs : List ℕ) (cs : List TypedExpr) (l : ℕ) → length bs ≡ length cs → Agrees (length cs) bs (bounds_from f ns bs) cs (codes_from f ns bs cs l)
prefix_agrees f ns bs cs l e = record {
  bounds = λ i h. sym (from_keeps f ns bs i (omega arith));
  codes = λ i h. sym (codes_keep f ns bs cs l i h);
}

pub code_of_node : (f : Format) (ns : List Node) (bs : List ℕ) (cs : List TypedExpr) (l i : ℕ) (d : Node) → i < length ns → length bs ≡ length cs → AllNameBack (length cs) ns
    → code_at (codes_from f ns bs cs l) (length cs + i) ≡ node_code f (bounds_from f ns bs) (codes_from f ns bs cs l) (locals_before f ns bs cs l i) (get_or ns i d)
code_of_node f [] bs cs l i d h e a = absurd (omega arith)
code_of_node f (n ∷ ns) bs cs l zero d h e a =
    let c = node_code f bs cs l n in
    let more = codes_keep f ns (bs ++ node_bound f bs n ∷ []) (cs ++ c ∷ []) (l + length (node_locals f bs cs n)) (length cs) (omega (arith, length_push cs c)) in
    let z : length cs + 0 ≡ length cs = omega arith in
    ap (code_at (codes_from f (n ∷ ns) bs cs l)) z ∙ (more ∙ (get_or_push cs c (typed_expr (Local 0) Int) (length cs) refl
    ∙ node_code-same f (length cs) bs (bounds_from f (n ∷ ns) bs) cs (codes_from f (n ∷ ns) bs cs l) l n (prefix_agrees f (n ∷ ns) bs cs l e) a.0))
code_of_node f (n ∷ ns) bs cs l (suc i) d h e a =
    let b = node_bound f bs n in
    let c = node_code f bs cs l n in
    let s : length cs + suc i ≡ length (cs ++ c ∷ []) + i = omega (arith, length_push cs c) in
    ap (code_at (codes_from f (n ∷ ns) bs cs l)) s
    ∙ code_of_node f ns (bs ++ b ∷ []) (cs ++ c ∷ []) (l + length (node_locals f bs cs n)) i d (omega arith) (omega (arith, e, length_push bs b, length_push cs c))
    (subst (λ (k : ℕ). AllNameBack k ns) (sym (length_push cs c)) a.1)

pub code_is : (net : Net) (i : ℕ) (d : Node) → i < length net.nodes → AllNameBack 0 net.nodes
    → code_at (codes_of net) i ≡ node_code net.format (bounds_of net.format net.nodes) (codes_of net) (locals_before net.format net.nodes [] [] (length net.next + 1) i) (get_or net.nodes i d)
code_is net i d h a =
    let z : 0 + i ≡ i = omega arith in
    ap (code_at (codes_of net)) (sym z) ∙ code_of_node net.format net.nodes [] [] (length net.next + 1) i d h refl a

-- nodes name nodes before them
names_from : (ns : List Node) (k i : ℕ) (d : Node) → i < length ns → AllNameBack k ns → NamesBelow (k + i) (get_or ns i d)
names_from [] k i d h a = absurd (omega arith)
names_from (n ∷ ns) k zero d h a = let z : k + 0 ≡ k = omega arith in subst (λ (m : ℕ). NamesBelow m n) (sym z) a.0
names_from (n ∷ ns) k (suc i) d h a = let s : k + 1 + i ≡ k + suc i = omega arith in subst (λ (m : ℕ). NamesBelow m (get_or ns i d)) s (names_from ns (k + 1) i d (omega arith) a.1)

pub names_back : (ns : List Node) (i : ℕ) (d : Node) → i < length ns → AllNameBack 0 ns → NamesBelow i (get_or ns i d)
names_back ns i d h a = let z : 0 + i ≡ i = omega arith in subst (λ (m : ℕ). NamesBelow m (get_or ns i d)) z (names_from ns 0 i d h a)

-- ---- bounds
node_bound-same : (f : Format) (k : ℕ) (bs bs' : List ℕ) (n : Node) → ((i : ℕ) → i < k → slice_index bs i ≡ slice_index bs' i) → NamesBelow k n → node_bound f bs n ≡ node_bound f bs' n
node_bound-same f k bs bs' Input a h = refl
node_bound-same f k bs bs' (Reg r) a h = refl
node_bound-same f k bs bs' (MulConst c i) a h = rw (a i h) refl
node_bound-same f k bs bs' (Round i) a h = a i h
node_bound-same f k bs bs' (Add i j) a h = rw (a i h.0, a j h.1) refl
node_bound-same f k bs bs' (Sub i j) a h = rw (a i h.0, a j h.1) refl
node_bound-same f k bs bs' (Fit i) a h = refl
node_bound-same f k bs bs' (Scale i) a h = rw (a i h) refl

bound_of_node : (f : Format) (ns : List Node) (bs : List ℕ) (i : ℕ) (d : Node) → i < length ns → AllNameBack (length bs) ns → slice_index (bounds_from f ns bs) (length bs + i) ≡ node_bound f (bounds_from f ns bs) (get_or ns i d)
bound_of_node f [] bs i d h a = absurd (omega arith)
bound_of_node f (n ∷ ns) bs zero d h a =
    let b = node_bound f bs n in
    let z : length bs + 0 ≡ length bs = omega arith in
    ap (slice_index (bounds_from f (n ∷ ns) bs)) z ∙ (from_keeps f ns (bs ++ b ∷ []) (length bs) (omega (arith, length_push bs b)) ∙ (get_or_push bs b 0 (length bs) refl
    ∙ node_bound-same f (length bs) bs (bounds_from f (n ∷ ns) bs) n (λ i l. sym (from_keeps f (n ∷ ns) bs i l)) a.0))
bound_of_node f (n ∷ ns) bs (suc i) d h a =
    let b = node_bound f bs n in
    let s : length bs + suc i ≡ length (bs ++ b ∷ []) + i = omega (arith, length_push bs b) in
    ap (slice_index (bounds_from f (n ∷ ns) bs)) s ∙ bound_of_node f ns (bs ++ b ∷ []) i d (omega arith) (subst (λ (k : ℕ). AllNameBack k ns) (sym (length_push bs b)) a.1)

pub bound_is : (net : Net) (i : ℕ) (d : Node) → i < length net.nodes → AllNameBack 0 net.nodes → slice_index (bounds_of net.format net.nodes) i ≡ node_bound net.format (bounds_of net.format net.nodes) (get_or net.nodes i d)
bound_is net i d h a =
    let z : 0 + i ≡ i = omega arith in
    ap (slice_index (bounds_of net.format net.nodes)) (sym z) ∙ bound_of_node net.format net.nodes [] i d h a

-- ---- nodes of a netlist
pub node_back : (net : Net) (i : ℕ) (n : Node) → IsNetlist net → i < length net.nodes → slice_get net.nodes i ≡ Some n → NamesBelow i n
node_back net i n w h e = subst (NamesBelow i) (get_or_from_slice_get net.nodes i n Input e) (names_back net.nodes i Input h w.backwards)

reads_more : (k m : ℕ) (n : Node) → k ≤ m → ReadsBelow k n → ReadsBelow m n
reads_more k m Input h r = tt
reads_more k m (Reg i) h r = omega arith
reads_more k m (MulConst c i) h r = tt
reads_more k m (Round i) h r = tt
reads_more k m (Add i j) h r = tt
reads_more k m (Sub i j) h r = tt
reads_more k m (Fit i) h r = tt
reads_more k m (Scale i) h r = tt

pub node_reads : (net : Net) (i : ℕ) (n : Node) → IsNetlist net → i < length net.nodes → slice_get net.nodes i ≡ Some n → ReadsBelow most_registers n
node_reads net i n w h e =
    reads_more (length net.next) most_registers n w.few_registers (subst (ReadsBelow (length net.next)) (get_or_from_slice_get net.nodes i n Input e) (All-get_or (ReadsBelow (length net.next)) net.nodes i Input h w.registers))
