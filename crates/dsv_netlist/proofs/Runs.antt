-- A sample of a netlist from words: what each node is computed from, and what it gives.
use Rattle.dsv_word.specs.Words.{IsWord}
use Rattle.std.proofs.Common.{◌≡◌, ℕ, zero, suc, ◌+◌, ◌<◌, ◌≤◌, ◌^◌, true, cond, List, [], ◌∷◌, ◌++◌, length, zero-add, map, refl, sym, ap, subst, ◌∙◌, inl, inr, arith, rules, take, length-append}
use Rattle.std.specs.Prelude.{IsTrue, count_by, slice_index}
use Rattle.std.specs.List.{All}
use Rattle.std.specs.Int.RustNames.{unsigned_abs}
use Rattle.std.proofs.Math.IntN.{ℤ, pos}
use Rattle.std.proofs.lemmas.Bool.{cases_lt}
use Rattle.std.proofs.lemmas.List.{get_or_append_left, get_or_push, length_push}
use Rattle.std.proofs.lemmas.List.Sums.{sum_by-cons}
use Rattle.std.proofs.lemmas.List.Elements.{All-head, All-tail, All-get_or, All-map, All-weaker}
use Rattle.dsv_word.specs.declared.format.Format.{Format}
use Rattle.dsv_netlist.specs.declared.node.Node.{Node}
use Rattle.dsv_netlist.specs.declared.node.Node.TheVariants.{Input, Reg, MulConst, Round, Add, Sub, Fit, Scale}
use Rattle.dsv_netlist.specs.Limits.{most_exact}
use Rattle.dsv_netlist.specs.Nodes.{Net, Sample, at, node_value, node_exact, after_node, sample_from, sample_of}
use Rattle.dsv_netlist.specs.Bounds.{node_bound, bounds_from}
use Rattle.dsv_netlist.specs.Conditions.{NamesBelow, AllNameBack, ReadsBelow, gives_word, names_word, is_fit, IsNetlist}
use Rattle.dsv_netlist.specs.Law.{AreWords, ValuesAreBounded}
use Rattle.dsv_netlist.specs.Safety.{IsSafe, AreSafe}
use Rattle.dsv_netlist.specs.declared.netlist.Netlist.TheInside.{Inside}
use Rattle.dsv_netlist.specs.Inside.{view_of}
use Rattle.dsv_netlist.proofs.Sizes.{fit_is_word, word_size, shifted_size, product_size, sum_size, difference_size}
use Rattle.dsv_netlist.proofs.BoundLemmas.{AreBelow, first_below}
use Rattle.dsv_netlist.proofs.Naming.{names_word-below}

-- the values are within the bounds
pub record AreWithin (bounds : List ℕ) (values : List ℤ) : Type 0 where
  pub long : length bounds ≡ length values
  pub each : (i : ℕ) → i < length values → unsigned_abs (at values i) ≤ slice_index bounds i

pub record Words (format : Format) (registers : List ℤ) (x : ℤ) : Type 0 where
  pub each : (k : ℕ) → k < length registers → IsWord format (at registers k)
  pub input : IsWord format x

value_size : (f : Format) (rs : List ℤ) (x : ℤ) (bs : List ℕ) (vs : List ℤ) (n : Node) → Words f rs x → AreWithin bs vs → NamesBelow (length vs) n → ReadsBelow (length rs) n
    → unsigned_abs (node_value f rs x vs n) ≤ node_bound f bs n
value_size f rs x bs vs Input w h b r = word_size f x w.input
value_size f rs x bs vs (Reg k) w h b r = word_size f (at rs k) (w.each k r)
value_size f rs x bs vs (MulConst c i) w h b r = product_size c (at vs i) (slice_index bs i) (h.each i b)
value_size f rs x bs vs (Round i) w h b r = shifted_size f.rounding f.frac_bits (at vs i) (slice_index bs i) (h.each i b)
value_size f rs x bs vs (Add i j) w h b r = sum_size (at vs i) (at vs j) (slice_index bs i) (slice_index bs j) (h.each i b.0) (h.each j b.1)
value_size f rs x bs vs (Sub i j) w h b r = difference_size (at vs i) (at vs j) (slice_index bs i) (slice_index bs j) (h.each i b.0) (h.each j b.1)
value_size f rs x bs vs (Fit i) w h b r = word_size f (node_value f rs x vs (Fit i)) (fit_is_word f (at vs i))
value_size f rs x bs vs (Scale i) w h b r = product_size (pos (2 ^ f.frac_bits)) (at vs i) (slice_index bs i) (h.each i b)

within_more : (bs : List ℕ) (vs : List ℤ) (b : ℕ) (v : ℤ) → AreWithin bs vs → unsigned_abs v ≤ b → AreWithin (bs ++ b ∷ []) (vs ++ v ∷ [])
within_more bs vs b v h k =
    record {
      long = omega (arith, h.long, length_push bs b, length_push vs v);
      each = λ i l. elim (cases_lt i (length vs)) [
        | inl p ↦ rw (get_or_append_left bs (b ∷ []) 0 i (omega (arith, h.long)), get_or_append_left vs (v ∷ []) (pos 0) i p) (h.each i p)
        | inr p ↦ let e : length vs ≡ i = omega (arith, length_push vs v) in let g : length bs ≡ i = omega (arith, h.long) in rw (get_or_push bs b 0 i g, get_or_push vs v (pos 0) i e) k
      ];
    }

node_exact-length : (vs : List ℤ) (n : Node) → length (node_exact vs n) ≡ cond (is_fit n) 1 0
node_exact-length vs Input = refl
node_exact-length vs (Reg k) = refl
node_exact-length vs (MulConst c i) = refl
node_exact-length vs (Round i) = refl
node_exact-length vs (Add i j) = refl
node_exact-length vs (Sub i j) = refl
node_exact-length vs (Fit i) = refl
node_exact-length vs (Scale i) = refl

count_fits : (n : Node) (ns : List Node) → count_by is_fit (n ∷ ns) ≡ cond (is_fit n) 1 0 + count_by is_fit ns
count_fits n ns = sum_by-cons (λ (m : Node). cond (is_fit m) 1 0) n ns

-- what is known of nodes after a sample that has come so far
pub record After (f : Format) (rs : List ℤ) (ns : List Node) (bs : List ℕ) (s : Sample) : Type 0 where
  pub within : AreWithin bs s.values
  pub backwards : AllNameBack (length s.values) ns
  pub reads : All (ReadsBelow (length rs)) ns
  pub bounded : AreBelow (bounds_from f ns bs)
  pub room : length s.exact + count_by is_fit ns ≤ most_exact

-- the first of these nodes: its value is within its bound
first_size : (f : Format) (rs : List ℤ) (x : ℤ) (n : Node) (ns : List Node) (bs : List ℕ) (s : Sample) → Words f rs x → After f rs (n ∷ ns) bs s
    → unsigned_abs (node_value f rs x s.values n) ≤ node_bound f bs n
first_size f rs x n ns bs s w h = value_size f rs x bs s.values n w h.within h.backwards.0 (All-head (ReadsBelow (length rs)) n ns h.reads)

after_more : (f : Format) (rs : List ℤ) (x : ℤ) (n : Node) (ns : List Node) (bs : List ℕ) (s : Sample) → Words f rs x → After f rs (n ∷ ns) bs s
    → After f rs ns (bs ++ node_bound f bs n ∷ []) (after_node f rs x s n)
after_more f rs x n ns bs s w h =
    let v = node_value f rs x s.values n in
    let b = node_bound f bs n in
    let e = node_exact-length s.values n in
    record {
      within = within_more bs s.values b v h.within (first_size f rs x n ns bs s w h);
      backwards = subst (λ (k : ℕ). AllNameBack k ns) (sym (length_push s.values v)) h.backwards.1;
      reads = All-tail (ReadsBelow (length rs)) n ns h.reads;
      bounded = h.bounded;
      room = omega (arith, h.room, count_fits n ns, length-append s.exact (node_exact s.values n));
    }

first_safe : (f : Format) (rs : List ℤ) (x : ℤ) (n : Node) (ns : List Node) (bs : List ℕ) (s : Sample) → Words f rs x → After f rs (n ∷ ns) bs s → IsSafe f rs x s n
first_safe f rs x n ns bs s w h =
    let e = node_exact-length s.values n in
    record {
      backwards = h.backwards.0;
      reads = All-head (ReadsBelow (length rs)) n ns h.reads;
      small = omega (arith, first_size f rs x n ns bs s w h, first_below f n ns bs h.bounded);
      room = omega (arith, h.room, count_fits n ns);
    }

-- the nodes of a netlist can be computed one after another
safe_from : (f : Format) (rs : List ℤ) (x : ℤ) (ns : List Node) (bs : List ℕ) (s : Sample) → Words f rs x → After f rs ns bs s → AreSafe f rs x ns s
safe_from f rs x [] bs s w h = tt
safe_from f rs x (n ∷ ns) bs s w h =
    (first_safe f rs x n ns bs s w h, safe_from f rs x ns (bs ++ node_bound f bs n ∷ []) (after_node f rs x s n) w (after_more f rs x n ns bs s w h))

-- all values of a sample are within the bounds
within_from : (f : Format) (rs : List ℤ) (x : ℤ) (ns : List Node) (bs : List ℕ) (s : Sample) → Words f rs x → After f rs ns bs s
    → AreWithin (bounds_from f ns bs) (sample_from f rs x ns s).values
within_from f rs x [] bs s w h = h.within
within_from f rs x (n ∷ ns) bs s w h =
    within_from f rs x ns (bs ++ node_bound f bs n ∷ []) (after_node f rs x s n) w (after_more f rs x n ns bs s w h)

-- ---- which values are words
node_word : (f : Format) (rs : List ℤ) (x : ℤ) (vs : List ℤ) (n : Node) → Words f rs x → ReadsBelow (length rs) n → gives_word n ≡ true → IsWord f (node_value f rs x vs n)
node_word f rs x vs Input w r h = w.input
node_word f rs x vs (Reg k) w r h = w.each k r
node_word f rs x vs (Fit i) w r h = fit_is_word f (at vs i)
node_word f rs x vs (MulConst c i) w r h = absurd cc
node_word f rs x vs (Round i) w r h = absurd cc
node_word f rs x vs (Add i j) w r h = absurd cc
node_word f rs x vs (Sub i j) w r h = absurd cc
node_word f rs x vs (Scale i) w r h = absurd cc

-- a value that stands stays
pub from_keeps : (f : Format) (rs : List ℤ) (x : ℤ) (ns : List Node) (s : Sample) (i : ℕ) → i < length s.values → at (sample_from f rs x ns s).values i ≡ at s.values i
from_keeps f rs x [] s i h = refl
from_keeps f rs x (n ∷ ns) s i h =
    let v = node_value f rs x s.values n in
    from_keeps f rs x ns (after_node f rs x s n) i (omega (arith, length_push s.values v)) ∙ get_or_append_left s.values (v ∷ []) (pos 0) i h

pub from-length : (f : Format) (rs : List ℤ) (x : ℤ) (ns : List Node) (s : Sample) → length (sample_from f rs x ns s).values ≡ length s.values + length ns
from-length f rs x [] s = omega arith
from-length f rs x (n ∷ ns) s = omega (arith, from-length f rs x ns (after_node f rs x s n), length_push s.values (node_value f rs x s.values n))

named_word : (f : Format) (rs : List ℤ) (x : ℤ) (ns : List Node) (s : Sample) (k : ℕ) → Words f rs x → All (ReadsBelow (length rs)) ns → names_word ns k ≡ true
    → IsWord f (at (sample_from f rs x ns s).values (length s.values + k))
named_word f rs x [] s k w r h = absurd cc
named_word f rs x (n ∷ ns) s zero w r h =
    let v = node_value f rs x s.values n in
    let l : length s.values + 0 ≡ length s.values = omega arith in
    let e = from_keeps f rs x ns (after_node f rs x s n) (length s.values + 0) (omega (arith, length_push s.values v)) ∙ get_or_push s.values v (pos 0) (length s.values + 0) (sym l) in
    subst (IsWord f) (sym e) (node_word f rs x s.values n w (All-head (ReadsBelow (length rs)) n ns r) h)
named_word f rs x (n ∷ ns) s (suc k) w r h =
    let v = node_value f rs x s.values n in
    let e : length (s.values ++ v ∷ []) + k ≡ length s.values + suc k = omega (arith, length_push s.values v) in
    subst (λ (i : ℕ). IsWord f (at (sample_from f rs x (n ∷ ns) s).values i)) e (named_word f rs x ns (after_node f rs x s n) k w (All-tail (ReadsBelow (length rs)) n ns r) h)

-- ---- a netlist from words
words_of : (net : Net) (rs : List ℤ) (x : ℤ) → AreWords net rs x → Words net.format rs x
words_of net rs x w = record { each = λ k p. All-get_or (IsWord net.format) rs k (pos 0) p w.words; input = w.input }

start_after : (net : Net) (rs : List ℤ) (x : ℤ) → IsNetlist net → AreWords net rs x → After net.format rs net.nodes [] (record { values = []; exact = [] })
start_after net rs x n w =
    record {
      within = record { long = refl; each = λ i p. absurd (omega arith) };
      backwards = n.backwards;
      reads = rw w.many n.registers;
      bounded = n.bounded;
      room = omega (arith, n.few_exact);
    }

pub net_safe : (net : Net) (rs : List ℤ) (x : ℤ) → IsNetlist net → AreWords net rs x → AreSafe net.format rs x net.nodes (record { values = []; exact = [] })
net_safe net rs x n w = safe_from net.format rs x net.nodes [] (record { values = []; exact = [] }) (words_of net rs x w) (start_after net rs x n w)

pub values_bounded : ValuesAreBounded
values_bounded net rs x n w i h =
    (within_from net.format rs x net.nodes [] (record { values = []; exact = [] }) (words_of net rs x w) (start_after net rs x n w)).each i
    (omega (arith, from-length net.format rs x net.nodes (record { values = []; exact = [] })))

pub net_word : (net : Net) (rs : List ℤ) (x : ℤ) (k : ℕ) → IsNetlist net → AreWords net rs x → IsTrue (names_word net.nodes k) → IsWord net.format (at (sample_of net.format rs x net.nodes).values k)
net_word net rs x k n w h =
    let e : 0 + k ≡ k = omega arith in
    subst (λ (i : ℕ). IsWord net.format (at (sample_of net.format rs x net.nodes).values i)) e
    (named_word net.format rs x net.nodes (record { values = []; exact = [] }) k (words_of net rs x w) (rw w.many n.registers) (search rules))

-- what stands where the values of all nodes are these
pub record IsDone (net : Net) (values : List ℤ) : Type 0 where
  pub named : All (λ k. k < length values) net.next
  pub words : All (λ k. IsWord net.format (at values k)) net.next
  pub below : net.output < length values
  pub word : IsWord net.format (at values net.output)

pub done : (net : Net) (rs : List ℤ) (x : ℤ) (values : List ℤ) → IsNetlist net → AreWords net rs x → values ≡ (sample_of net.format rs x net.nodes).values → IsDone net values
done net rs x values n w e =
    let m : length values ≡ length net.nodes = ap length e ∙ from-length net.format rs x net.nodes (record { values = []; exact = [] }) ∙ zero-add (length net.nodes) in
    let below = λ (k : ℕ) (h : IsTrue (names_word net.nodes k)). (let b = names_word-below net.nodes k (search rules) in let l : k < length values = omega arith in l) in
    let words = λ (k : ℕ) (h : IsTrue (names_word net.nodes k)). subst (λ (vs : List ℤ). IsWord net.format (at vs k)) (sym e) (net_word net rs x k n w h) in
    record {
      named = All-weaker (λ k. IsTrue (names_word net.nodes k)) (λ k. k < length values) below net.next n.next;
      words = All-weaker (λ k. IsTrue (names_word net.nodes k)) (λ k. IsWord net.format (at values k)) words net.next n.next;
      below = below net.output n.output;
      word = words net.output n.output;
    }

-- ---- inside a netlist, for a caller that sees the netlist v and the input x
pub words_inside : (t : Inside) (v : Net) (rs : List ℤ) (x y : ℤ) → view_of t ≡ v → AreWords v rs x → y ≡ x → AreWords (view_of t) rs y
words_inside t v rs x y e w i = rw (e, i) w

pub done_inside : (t : Inside) (v : Net) (rs : List ℤ) (x y : ℤ) (ns : List Node) (values : List ℤ) → view_of t ≡ v → IsNetlist (view_of t) → AreWords v rs x → y ≡ x → ns ≡ t.nodes.items
    → take (length ns) values ≡ (sample_of t.format rs y ns).values → IsDone (view_of t) (take (length ns) values)
done_inside t v rs x y ns values e n w i m h =
    done (view_of t) rs y (take (length ns) values) n (words_inside t v rs x y e w i) (h ∙ ap (λ (ms : List Node). (sample_of t.format rs y ms).values) m)

-- the registers that are loaded then are words
pub loaded_words : (t : Inside) (v : Net) (values registers : List ℤ) → view_of t ≡ v → IsDone (view_of t) values → registers ≡ map (at values) t.next.items → All (IsWord v.format) registers
loaded_words t v values registers e d l =
    subst (λ (n : Net). All (IsWord n.format) registers) e (subst (λ (rs : List ℤ). All (IsWord t.format) rs) (sym l) (All-map (IsWord t.format) (at values) t.next.items d.words))
