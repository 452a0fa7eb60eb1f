-- Nodes that are made one after another are a netlist's.
use Rattle.std.proofs.Common.{◌≡◌, ℕ, zero, suc, ◌+◌, ◌-◌, ◌*◌, ◌^◌, ◌<◌, ◌≤◌, Bool, true, false, cond, List, [], ◌∷◌, ◌++◌, length, get_or, refl, sym, ap, subst, ◌∙◌, inl, inr, arith}
use Rattle.std.specs.Prelude.{count_by, slice_index}
use Rattle.std.specs.List.{All}
use Rattle.std.specs.Int.RustNames.{unsigned_abs}
use Rattle.std.proofs.Math.IntN.{ℤ}
use Rattle.std.proofs.Math.Nat.{pow-le-pow_right}
use Rattle.std.proofs.lemmas.Bool.{cases_lt}
use Rattle.std.proofs.lemmas.Nat.{mul-le}
use Rattle.std.proofs.lemmas.List.{get_or_append_left, get_or_push, length_push}
use Rattle.std.proofs.lemmas.List.Sums.{sum_by_push}
use Rattle.std.proofs.lemmas.List.Elements.{All-push}
use Rattle.dsv_word.specs.declared.format.Format.{Format}
use Rattle.dsv_word.specs.Words.{width}
use Rattle.dsv_netlist.specs.declared.node.Node.{Node}
use Rattle.dsv_netlist.specs.declared.node.Node.TheVariants.{MulConst, Round, Fit}
use Rattle.dsv_netlist.specs.Limits.{bound_limit}
use Rattle.dsv_netlist.specs.Bounds.{word_bound, node_bound, bounds_from, bounds_of}
use Rattle.dsv_netlist.specs.Conditions.{NamesBelow, AllNameBack, ReadsBelow, gives_word, names_word, is_fit}
use Rattle.dsv_netlist.specs.Counts.{is_product, is_sum}
use Rattle.dsv_netlist.proofs.BoundLemmas.{from-length}
use Rattle.dsv_netlist.proofs.Naming.{names_word-below}
use Rattle.dsv_realise.specs.Making.{Made, put, with_product, sum_node, with_sum}

-- ---- which nodes are words
pub named_old : (ns ms : List Node) (k : ℕ) → names_word ns k ≡ true → names_word (ns ++ ms) k ≡ true
named_old [] ms k h = absurd cc
named_old (n ∷ ns) ms zero h = h
named_old (n ∷ ns) ms (suc k) h = named_old ns ms k h

pub named_last : (ns : List Node) (n : Node) → names_word (put ns n) (length ns) ≡ gives_word n
named_last [] n = refl
named_last (m ∷ ns) n = named_last ns n

named_before : (ns : List Node) (n : Node) (k : ℕ) → k < length ns → names_word (put ns n) k ≡ names_word ns k
named_before [] n k h = absurd (omega arith)
named_before (m ∷ ns) n zero h = refl
named_before (m ∷ ns) n (suc k) h = named_before ns n k (omega arith)

-- ---- a node more
back_more : (k : ℕ) (ns : List Node) (n : Node) → AllNameBack k ns → NamesBelow (k + length ns) n → AllNameBack k (put ns n)
back_more k [] n h b = let e : k + 0 ≡ k = omega arith in (subst (λ (j : ℕ). NamesBelow j n) e b, tt)
back_more k (m ∷ ns) n h b = let e : k + suc (length ns) ≡ k + 1 + length ns = omega arith in (h.0, back_more (k + 1) ns n h.1 (subst (λ (j : ℕ). NamesBelow j n) e b))

bounds_more : (f : Format) (ns : List Node) (n : Node) (bs : List ℕ) → bounds_from f (put ns n) bs ≡ bounds_from f ns bs ++ node_bound f (bounds_from f ns bs) n ∷ []
bounds_more f [] n bs = refl
bounds_more f (m ∷ ns) n bs = bounds_more f ns n (bs ++ node_bound f bs m ∷ [])

pub bounds-length : (f : Format) (ns : List Node) → length (bounds_of f ns) ≡ length ns
bounds-length f ns = omega (arith, from-length f ns [])

pub bound_last : (f : Format) (ns : List Node) (n : Node) → slice_index (bounds_of f (put ns n)) (length ns) ≡ node_bound f (bounds_of f ns) n
bound_last f ns n =
    let b = node_bound f (bounds_of f ns) n in
    let l : length (bounds_of f ns) ≡ length ns = bounds-length f ns in
    ap (λ (bs : List ℕ). get_or bs (length ns) 0) (bounds_more f ns n []) ∙ get_or_push (bounds_of f ns) b 0 (length ns) l

pub bound_before : (f : Format) (ns : List Node) (n : Node) (k : ℕ) → k < length ns → slice_index (bounds_of f (put ns n)) k ≡ slice_index (bounds_of f ns) k
bound_before f ns n k h =
    ap (λ (bs : List ℕ). get_or bs k 0) (bounds_more f ns n []) ∙ get_or_append_left (bounds_of f ns) (node_bound f (bounds_of f ns) n ∷ []) 0 k (omega (arith, bounds-length f ns))

-- nodes that a netlist with r registers may begin with
pub record AreSound (f : Format) (r : ℕ) (ns : List Node) : Type 0 where
  pub backwards : AllNameBack 0 ns
  pub registers : All (ReadsBelow r) ns
  pub bounded : All (λ bound. bound < bound_limit) (bounds_of f ns)
  pub words : (k : ℕ) → names_word ns k ≡ true → slice_index (bounds_of f ns) k ≡ word_bound f

-- a node that may stand after them
pub record MayFollow (f : Format) (r : ℕ) (ns : List Node) (n : Node) : Type 0 where
  pub backwards : NamesBelow (length ns) n
  pub reads : ReadsBelow r n
  pub small : node_bound f (bounds_of f ns) n < bound_limit
  pub word : gives_word n ≡ true → node_bound f (bounds_of f ns) n ≡ word_bound f

pub sound_more : (f : Format) (r : ℕ) (ns : List Node) (n : Node) → AreSound f r ns → MayFollow f r ns n → AreSound f r (put ns n)
sound_more f r ns n s h =
    record {
      backwards = back_more 0 ns n s.backwards (subst (λ (j : ℕ). NamesBelow j n) (let e : length ns ≡ 0 + length ns = omega arith in e) h.backwards);
      registers = All-push (ReadsBelow r) ns n s.registers h.reads;
      bounded = subst (λ (bs : List ℕ). All (λ bound. bound < bound_limit) bs) (sym (bounds_more f ns n [])) (All-push (λ (bound : ℕ). bound < bound_limit) (bounds_of f ns) (node_bound f (bounds_of f ns) n) s.bounded h.small);
      words = λ k w. elim (cases_lt k (length ns)) [
        | inl p ↦ bound_before f ns n k p ∙ s.words k (sym (named_before ns n k p) ∙ w)
        | inr p ↦ let l = names_word-below (put ns n) k w in let e : length ns ≡ k = omega (arith, length_push ns n) in
            subst (λ (j : ℕ). slice_index (bounds_of f (put ns n)) j ≡ word_bound f) e (bound_last f ns n ∙ h.word (sym (named_last ns n) ∙ subst (λ (j : ℕ). names_word (put ns n) j ≡ true) (sym e) w))
      ];
    }

-- ---- how many
-- so many products and sums, after the input and r registers, and no more fits and nodes than they take in words
pub record HasCounts (r : ℕ) (ns : List Node) (p s : ℕ) : Type 0 where
  pub products : count_by is_product ns ≡ p
  pub sums : count_by is_sum ns ≡ s
  pub fits : count_by is_fit ns ≤ p + s
  pub nodes : length ns ≤ r + 1 + 3 * p + 2 * s

abbrev pub one_if : Bool → ℕ
one_if b = cond b 1 0

pub count_more : (test : Node → Bool) (ns : List Node) (n : Node) → count_by test (put ns n) ≡ count_by test ns + one_if (test n)
count_more test ns n = sum_by_push (λ (m : Node). one_if (test m)) ns n

-- ---- products and sums
-- the size of a coefficient that is a word
abbrev pub IsSmall : ℤ → Type 0
IsSmall c = unsigned_abs c ≤ 2 ^ 47

pub word_small : (f : Format) → word_bound f ≤ 2 ^ 47
word_small f = let two : 0 < 2 = omega arith in let e : width f - 1 ≤ 47 = omega (arith, f.lawful) in pow-le-pow_right two e

-- what these nodes are beyond older ones
pub record Grown (f : Format) (r : ℕ) (old : List Node) (m : Made) (p s : ℕ) : Type 0 where
  pub sound : AreSound f r m.nodes
  pub counts : HasCounts r m.nodes p s
  pub keeps : (k : ℕ) → names_word old k ≡ true → names_word m.nodes k ≡ true
  pub place : names_word m.nodes m.place ≡ true

pub product_grows : (f : Format) (r : ℕ) (ns : List Node) (p s : ℕ) (c : ℤ) (i : ℕ) → AreSound f r ns → HasCounts r ns p s → IsSmall c → names_word ns i ≡ true → Grown f r ns (with_product ns c i) (p + 1) s
product_grows f r ns p s c i h t small w =
    let n1 = MulConst c i in
    let a = put ns n1 in
    let n2 = Round (length ns) in
    let b = put a n2 in
    let n3 = Fit (length a) in
    let la = length_push ns n1 in
    let lb = length_push a n2 in
    let lc = length_push b n3 in
    let big : unsigned_abs c * word_bound f ≤ 2 ^ 47 * 2 ^ 47 = mul-le (unsigned_abs c) (word_bound f) (2 ^ 47) (2 ^ 47) small (word_small f) in
    let b1 : node_bound f (bounds_of f ns) n1 ≡ unsigned_abs c * word_bound f = ap (λ (u : ℕ). unsigned_abs c * u) (h.words i w) in
    let b2 : node_bound f (bounds_of f a) n2 ≡ unsigned_abs c * word_bound f = bound_last f ns n1 ∙ b1 in
    let h1 : AreSound f r a = sound_more f r ns n1 h (record { backwards = names_word-below ns i w; reads = tt; small = omega (arith, big, b1); word = λ g. absurd cc }) in
    let h2 : AreSound f r b = sound_more f r a n2 h1 (record { backwards = omega arith; reads = tt; small = omega (arith, big, b2); word = λ g. absurd cc }) in
    let h3 : AreSound f r (put b n3) = sound_more f r b n3 h2 (record { backwards = omega arith; reads = tt; small = omega (arith, word_small f); word = λ g. refl }) in
    record {
      sound = h3;
      counts = record {
        products = omega (arith, t.products, count_more is_product ns n1, count_more is_product a n2, count_more is_product b n3);
        sums = omega (arith, t.sums, count_more is_sum ns n1, count_more is_sum a n2, count_more is_sum b n3);
        fits = omega (arith, t.fits, count_more is_fit ns n1, count_more is_fit a n2, count_more is_fit b n3);
        nodes = omega (arith, t.nodes);
      };
      keeps = λ k e. named_old b (n3 ∷ []) k (named_old a (n2 ∷ []) k (named_old ns (n1 ∷ []) k e));
      place = named_last b n3;
    }

pub joining-bound : (f : Format) (ns : List Node) (away : Bool) (i j : ℕ) (u v : ℕ) → slice_index (bounds_of f ns) i ≡ u → slice_index (bounds_of f ns) j ≡ v → node_bound f (bounds_of f ns) (sum_node away i j) ≡ u + v
joining-bound f ns true i j u v e g = rw (e, g) refl
joining-bound f ns false i j u v e g = rw (e, g) refl

pub joining_below : (n : ℕ) (away : Bool) (i j : ℕ) → i < n → j < n → NamesBelow n (sum_node away i j)
joining_below n true i j h k = (h, k)
joining_below n false i j h k = (h, k)

pub joining_reads : (r : ℕ) (away : Bool) (i j : ℕ) → ReadsBelow r (sum_node away i j)
joining_reads r true i j = tt
joining_reads r false i j = tt

pub joining-word : (away : Bool) (i j : ℕ) → gives_word (sum_node away i j) ≡ false
joining-word true i j = refl
joining-word false i j = refl

pub joining-product : (away : Bool) (i j : ℕ) → one_if (is_product (sum_node away i j)) ≡ 0
joining-product true i j = refl
joining-product false i j = refl

pub joining-sum : (away : Bool) (i j : ℕ) → one_if (is_sum (sum_node away i j)) ≡ 1
joining-sum true i j = refl
joining-sum false i j = refl

pub joining-fit : (away : Bool) (i j : ℕ) → one_if (is_fit (sum_node away i j)) ≡ 0
joining-fit true i j = refl
joining-fit false i j = refl

pub not_word : (b : Bool) (e g : ℕ) → b ≡ false → b ≡ true → e ≡ g
not_word true e g h k = absurd cc
not_word false e g h k = absurd cc

pub sum_grows : (f : Format) (r : ℕ) (ns : List Node) (p s : ℕ) (away : Bool) (i j : ℕ) → AreSound f r ns → HasCounts r ns p s → names_word ns i ≡ true → names_word ns j ≡ true → Grown f r ns (with_sum away ns i j) p (s + 1)
sum_grows f r ns p s away i j h t v w =
    let n1 = sum_node away i j in
    let a = put ns n1 in
    let n2 = Fit (length ns) in
    let la = length_push ns n1 in
    let lb = length_push a n2 in
    let b1 : node_bound f (bounds_of f ns) n1 ≡ word_bound f + word_bound f = joining-bound f ns away i j (word_bound f) (word_bound f) (h.words i v) (h.words j w) in
    let h1 : AreSound f r a = sound_more f r ns n1 h (record { backwards = joining_below (length ns) away i j (names_word-below ns i v) (names_word-below ns j w); reads = joining_reads r away i j; small = omega (arith, word_small f, b1); word = λ g. not_word (gives_word n1) (node_bound f (bounds_of f ns) n1) (word_bound f) (joining-word away i j) g }) in
    let h2 : AreSound f r (put a n2) = sound_more f r a n2 h1 (record { backwards = omega arith; reads = tt; small = omega (arith, word_small f); word = λ g. refl }) in
    record {
      sound = h2;
      counts = record {
        products = omega (arith, t.products, count_more is_product ns n1, count_more is_product a n2, joining-product away i j);
        sums = omega (arith, t.sums, count_more is_sum ns n1, count_more is_sum a n2, joining-sum away i j);
        fits = omega (arith, t.fits, count_more is_fit ns n1, count_more is_fit a n2, joining-fit away i j);
        nodes = omega (arith, t.nodes);
      };
      keeps = λ k e. named_old a (n2 ∷ []) k (named_old ns (n1 ∷ []) k e);
      place = named_last a n2;
    }
