-- Two netlists in series are a netlist.
use Rattle.std.proofs.Common.{◌≡◌, ℕ, zero, suc, ◌+◌, ◌<◌, ◌≤◌, Bool, true, false, cond, List, [], ◌∷◌, ◌++◌, length, get_or, map, drop, refl, sym, subst, ap, ◌∙◌, arith, zero-add, length-append, length-drop}
use Rattle.std.specs.Prelude.{count_by}
use Rattle.std.specs.List.{All}
use Rattle.std.proofs.lemmas.List.{append-nil, length-map, get_or_push, length_push}
use Rattle.std.proofs.lemmas.List.Sums.{sum_by-cons, sum_by-append}
use Rattle.std.proofs.lemmas.List.Elements.{All-tail, All-append, All-drop, All-map, All-weaker}
use Rattle.dsv_word.specs.declared.format.Format.{Format}
use Rattle.dsv_netlist.specs.declared.node.Node.{Node}
use Rattle.dsv_netlist.specs.declared.node.Node.TheVariants.{Input, Reg, MulConst, Round, Add, Sub, Fit, Scale}
use Rattle.dsv_netlist.specs.Limits.{most_nodes, most_registers, most_exact, bound_limit}
use Rattle.dsv_netlist.specs.Nodes.{Net}
use Rattle.dsv_netlist.specs.Bounds.{word_bound, node_bound, bounds_from, bounds_of}
use Rattle.dsv_netlist.specs.Conditions.{NamesBelow, AllNameBack, ReadsBelow, gives_word, names_word, is_fit, IsNetlist}
use Rattle.dsv_netlist.proofs.BoundLemmas.{from-length as bounds_from-length, from_keeps}
use Rattle.dsv_netlist.proofs.Naming.{names_word-below}
use Rattle.dsv_realise.proofs.Growing.{named_old}
use Rattle.dsv_cascade.specs.Netlists.{moved_place, moved, joined}
use Rattle.dsv_cascade.proofs.MovedNodes.{IsInner, HasOneInput, HasOutput, bounds_from-moved, bounds_from-append}

-- ---- names
place_below : (a : Net) (n k : ℕ) → a.output < length a.nodes → k < n + 1 → moved_place a k < length a.nodes + n
place_below a n zero h l = omega arith
place_below a n (suc k) h l = omega arith

moved_below : (a : Net) (n : ℕ) (node : Node) → a.output < length a.nodes → NamesBelow (n + 1) node → NamesBelow (length a.nodes + n) (moved a node)
moved_below a n Input h b = tt
moved_below a n (Reg k) h b = tt
moved_below a n (MulConst c k) h b = place_below a n k h b
moved_below a n (Round k) h b = place_below a n k h b
moved_below a n (Add j k) h b = (place_below a n j h b.0, place_below a n k h b.1)
moved_below a n (Sub j k) h b = (place_below a n j h b.0, place_below a n k h b.1)
moved_below a n (Fit k) h b = place_below a n k h b
moved_below a n (Scale k) h b = place_below a n k h b

moved_back : (a : Net) (n : ℕ) (ns : List Node) → a.output < length a.nodes → AllNameBack (n + 1) ns → AllNameBack (length a.nodes + n) (map (moved a) ns)
moved_back a n [] h b = tt
moved_back a n (node ∷ ns) h b =
    let e : length a.nodes + (n + 1) ≡ length a.nodes + n + 1 = omega arith in
    (moved_below a n node h b.0, subst (λ (k : ℕ). AllNameBack k (map (moved a) ns)) e (moved_back a (n + 1) ns h b.1))

back_both : (n : ℕ) (ns ms : List Node) → AllNameBack n ns → AllNameBack (n + length ns) ms → AllNameBack n (ns ++ ms)
back_both n [] ms h g = let e : n + 0 ≡ n = omega arith in subst (λ (k : ℕ). AllNameBack k ms) e g
back_both n (node ∷ ns) ms h g =
    let e : n + suc (length ns) ≡ n + 1 + length ns = omega arith in
    (h.0, back_both (n + 1) ns ms h.1 (subst (λ (k : ℕ). AllNameBack k ms) e g))

pub names_more : (n m : ℕ) (node : Node) → n ≤ m → NamesBelow n node → NamesBelow m node
names_more n m Input l h = tt
names_more n m (Reg k) l h = tt
names_more n m (Add j k) l h = (omega (arith, h.0), omega (arith, h.1))
names_more n m (Sub j k) l h = (omega (arith, h.0), omega (arith, h.1))
names_more n m node l h = omega arith

-- ---- registers
pub reads_more : (n m : ℕ) (node : Node) → n ≤ m → ReadsBelow n node → ReadsBelow m node
reads_more n m (Reg k) l h = omega arith
reads_more n m node l h = tt

moved_reads : (a : Net) (n : ℕ) (node : Node) → ReadsBelow n node → ReadsBelow (length a.next + n) (moved a node)
moved_reads a n (Reg k) h = omega arith
moved_reads a n node h = tt

-- ---- words
gives_word-moved : (a : Net) (node : Node) → gives_word (moved a node) ≡ gives_word node
gives_word-moved a Input = refl
gives_word-moved a node = refl

names_word-moved : (a : Net) (ns : List Node) (k : ℕ) → names_word (map (moved a) ns) k ≡ names_word ns k
names_word-moved a [] k = refl
names_word-moved a (n ∷ ns) zero = gives_word-moved a n
names_word-moved a (n ∷ ns) (suc k) = names_word-moved a ns k

names_word-append-add : (ns ms : List Node) (k : ℕ) → names_word (ns ++ ms) (length ns + k) ≡ names_word ms k
names_word-append-add [] ms k = let e : 0 + k ≡ k = omega arith in ap (names_word ms) e
names_word-append-add (n ∷ ns) ms k =
    let e : suc (length ns) + k ≡ suc (length ns + k) = omega arith in
    ap (names_word (n ∷ (ns ++ ms))) e ∙ names_word-append-add ns ms k

named_moved : (a : Net) (ns : List Node) (k : ℕ) → names_word a.nodes a.output ≡ true → names_word (Input ∷ ns) k ≡ true → names_word (a.nodes ++ map (moved a) ns) (moved_place a k) ≡ true
named_moved a ns zero o h = named_old a.nodes (map (moved a) ns) a.output o
named_moved a ns (suc k) o h = names_word-append-add a.nodes (map (moved a) ns) k ∙ names_word-moved a ns k ∙ h

-- ---- how many
count_by-moved : (test : Node → Bool) (a : Net) (ns : List Node) → ((n : Node) → test (moved a n) ≡ test n) → count_by test (map (moved a) ns) ≡ count_by test ns
count_by-moved test a [] h = refl
count_by-moved test a (n ∷ ns) h =
    let one : Node → ℕ = λ m. cond (test m) 1 0 in
    sum_by-cons one (moved a n) (map (moved a) ns) ∙ ap (λ (b : Bool). cond b 1 0 + count_by test (map (moved a) ns)) (h n) ∙ ap (λ (k : ℕ). one n + k) (count_by-moved test a ns h) ∙ sym (sum_by-cons one n ns)

pub count_by-joined : (test : Node → Bool) (a b : Net) → ((n : Node) → test (moved a n) ≡ test n) → test Input ≡ false → HasOneInput b.nodes → count_by test (joined a b).nodes ≡ count_by test a.nodes + count_by test b.nodes
count_by-joined test a b h i o =
    let one : Node → ℕ = λ m. cond (test m) 1 0 in
    let all : count_by test b.nodes ≡ count_by test o.rest =
    ap (count_by test) o.begins ∙ sum_by-cons one Input o.rest ∙ ap (λ (v : Bool). cond v 1 0 + count_by test o.rest) i ∙ zero-add (count_by test o.rest) in
    rw o.begins (sum_by-append one a.nodes (map (moved a) o.rest)) ∙ ap (λ (k : ℕ). count_by test a.nodes + k) (count_by-moved test a o.rest h ∙ sym all)

-- ---- bounds
node_bound-word : (f : Format) (bs : List ℕ) (n : Node) → gives_word n ≡ true → node_bound f bs n ≡ word_bound f
node_bound-word f bs Input h = refl
node_bound-word f bs (Reg k) h = refl
node_bound-word f bs (Fit k) h = refl
node_bound-word f bs node h = absurd cc

-- the bound of each node whose value is a word
bounds_from-word : (f : Format) (ns : List Node) (bs : List ℕ) (k : ℕ) → names_word ns k ≡ true → get_or (bounds_from f ns bs) (length bs + k) 0 ≡ word_bound f
bounds_from-word f [] bs k h = absurd cc
bounds_from-word f (n ∷ ns) bs zero h =
    let b = node_bound f bs n in
    let e : length bs ≡ length bs + 0 = omega arith in
    from_keeps f ns (bs ++ b ∷ []) (length bs + 0) (omega (arith, length_push bs b)) ∙ get_or_push bs b 0 (length bs + 0) e ∙ node_bound-word f bs n h
bounds_from-word f (n ∷ ns) bs (suc k) h =
    let b = node_bound f bs n in
    let e : length bs + suc k ≡ length (bs ++ b ∷ []) + k = omega (arith, length_push bs b) in
    ap (λ (i : ℕ). get_or (bounds_from f ns (bs ++ b ∷ [])) i 0) e ∙ bounds_from-word f ns (bs ++ b ∷ []) k h

output_bound : (a : Net) → IsNetlist a → HasOutput a (bounds_of a.format a.nodes) (word_bound a.format) 0
output_bound a h =
    let l = bounds_from-length a.format a.nodes [] in
    record {
      many = omega (arith, l);
      within = omega (arith, l, names_word-below a.nodes a.output h.output);
      value = let e : 0 + a.output ≡ a.output = omega arith in subst (λ (k : ℕ). get_or (bounds_of a.format a.nodes) k 0 ≡ word_bound a.format) e (bounds_from-word a.format a.nodes [] a.output h.output);
    }

joined_bounded : (a : Net) (f : Format) (ns : List Node) → IsNetlist a → f ≡ a.format → All IsInner ns → All (λ bound. bound < bound_limit) (bounds_of f (Input ∷ ns)) → All (λ bound. bound < bound_limit) (bounds_of a.format (a.nodes ++ map (moved a) ns))
joined_bounded a f ns h e i b =
    let w = word_bound a.format in
    let bs = bounds_of a.format a.nodes in
    let moves : bounds_of a.format (a.nodes ++ map (moved a) ns) ≡ bs ++ drop 1 (bounds_of a.format (Input ∷ ns)) =
    bounds_from-append a.format a.nodes (map (moved a) ns) [] ∙ ap (bounds_from a.format (map (moved a) ns)) (sym (append-nil bs)) ∙ bounds_from-moved a a.format bs w ns [] (output_bound a h) i in
    let small : ℕ → Type 0 = λ bound. bound < bound_limit in
    let later : All small (drop 1 (bounds_of a.format (Input ∷ ns))) = All-drop small 1 (bounds_of a.format (Input ∷ ns)) (subst (λ (g : Format). All small (bounds_of g (Input ∷ ns))) e b) in
    subst (All small) (sym moves) (All-append small bs (drop 1 (bounds_of a.format (Input ∷ ns))) h.bounded later)

-- ---- the netlist
pub length-joined_next : (a b : Net) → length (joined a b).next ≡ length a.next + length b.next
length-joined_next a b = length-append a.next (map (moved_place a) b.next) ∙ ap (λ (k : ℕ). length a.next + k) (length-map b.next (moved_place a))

pub length-joined_nodes : (a b : Net) → HasOneInput b.nodes → length (joined a b).nodes + 1 ≡ length a.nodes + length b.nodes
length-joined_nodes a b o = omega (arith, length-append a.nodes (map (moved a) (drop 1 b.nodes)), length-map (drop 1 b.nodes) (moved a), length-drop 1 b.nodes, ap length o.begins)

-- together they are few enough
pub record HasRoom (a b : Net) : Type 0 where
  pub nodes : length a.nodes + length b.nodes ≤ most_nodes + 1
  pub registers : length a.next + length b.next ≤ most_registers
  pub exact : count_by is_fit a.nodes + count_by is_fit b.nodes ≤ most_exact

pub is_fit-moved : (a : Net) (n : Node) → is_fit (moved a n) ≡ is_fit n
is_fit-moved a Input = refl
is_fit-moved a node = refl

pub joined_netlist : (a b : Net) → IsNetlist a → IsNetlist b → b.format ≡ a.format → HasOneInput b.nodes → HasRoom a b → IsNetlist (joined a b)
joined_netlist a b g h e o room =
    let ns = o.rest in
    let ms = map (moved a) ns in
    let same : (joined a b).nodes ≡ a.nodes ++ ms = ap (λ (w : List Node). a.nodes ++ map (moved a) (drop 1 w)) o.begins in
    let inside = names_word-below a.nodes a.output g.output in
    let back : AllNameBack (0 + length a.nodes) ms =
    (let z : length a.nodes + 0 ≡ 0 + length a.nodes = omega arith in subst (λ (k : ℕ). AllNameBack k ms) z (moved_back a 0 ns inside (subst (AllNameBack 0) o.begins h.backwards).1)) in
    let r = length a.next + length b.next in
    let reads : All (ReadsBelow r) (a.nodes ++ ms) = All-append (ReadsBelow r) a.nodes ms
    (All-weaker (ReadsBelow (length a.next)) (ReadsBelow r) (λ n d. reads_more (length a.next) r n (omega arith) d) a.nodes g.registers)
    (All-map (ReadsBelow r) (moved a) ns (All-weaker (ReadsBelow (length b.next)) (λ n. ReadsBelow r (moved a n)) (moved_reads a (length b.next)) ns (All-tail (ReadsBelow (length b.next)) Input ns (subst (All (ReadsBelow (length b.next))) o.begins h.registers)))) in
    let many = length-joined_next a b in
    let word = λ (k : ℕ) (w : names_word b.nodes k ≡ true). named_moved a ns k g.output (subst (λ (v : List Node). names_word v k ≡ true) o.begins w) in
    let named : ℕ → Type 0 = λ k. names_word (a.nodes ++ ms) k ≡ true in
    let next : All named (a.next ++ map (moved_place a) b.next) = All-append named a.next (map (moved_place a) b.next)
    (All-weaker (λ k. names_word a.nodes k ≡ true) named (named_old a.nodes ms) a.next g.next)
    (All-map named (moved_place a) b.next (All-weaker (λ k. names_word b.nodes k ≡ true) (λ k. named (moved_place a k)) word b.next h.next)) in
    record {
      few_nodes = omega (arith, room.nodes, length-joined_nodes a b o);
      few_registers = omega (arith, many, room.registers);
      few_exact = omega (arith, room.exact, count_by-joined is_fit a b (is_fit-moved a) refl o);
      feed_forward = omega arith;
      backwards = subst (AllNameBack 0) (sym same) (back_both 0 a.nodes ms g.backwards back);
      registers = rw (many, same) reads;
      output = rw same (word b.output h.output);
      next = rw same next;
      bounded = rw same (joined_bounded a b.format ns g e o.inner (subst (λ (w : List Node). All (λ bound. bound < bound_limit) (bounds_of b.format w)) o.begins h.bounded));
    }
