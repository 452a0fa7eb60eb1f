-- Ranges whose ends are words, and the least range that holds two.
use Rattle.std.proofs.Common.{◌≡◌, ℕ, zero, suc, ◌+◌, Bool, true, false, if◌then◌else◌, List, [], ◌∷◌, length, inl, inr, ◌⊎◌, refl, sym, subst, ap, ◌∙◌, arith, length-append}
use Rattle.std.specs.Prelude.{Option, Some, None, IfSome, int_lt}
use Rattle.std.specs.List.{All}
use Rattle.std.proofs.Math.IntN.{ℤ, pos, ◌*ℤ◌}
use Rattle.std.proofs.lemmas.Int.{ints}
use lib.Signed.{◌≤ℤ◌}
use Rattle.std.proofs.lemmas.List.Elements.{All-head, All-tail, All-nil, All-cons, All-append}
use Rattle.dsv_word.specs.declared.format.Format.{Format}
use Rattle.dsv_word.specs.Words.{IsWord}
use Rattle.dsv_network.specs.declared.signal.Signal.{Signal}
use Rattle.dsv_network.specs.declared.signal.Signal.TheVariants.{Outer, Register, Product, Sum, Difference, Near, Checked, Shown}
use Rattle.dsv_linear.specs.declared.range.Range.{Range}
use Rattle.dsv_linear.specs.Forms.{◌>>=◌}
use Rattle.dsv_linear.proofs.Numbers.{some_of, times_up}
use Rattle.dsv_network.specs.declared.pass.Pass.{Pass}
use Rattle.dsv_network.specs.declared.ends.Ends.{Ends}
use Rattle.dsv_network.specs.declared.ends.Ends.TheVariants as shown
use Rattle.dsv_network.specs.declared.weights.Weights.{Weights}
use Rattle.dsv_network.specs.declared.walk.Walk.{Walk}
use Rattle.dsv_network.specs.Samples.{ranges_in, weights_at, value_ends, value_range, node_ends, with_ends, shown_by, then_ends, after_node, walk_from, begun, ends_from, hull, pass_with, pass_ends, after_pass}
use Rattle.dsv_network.specs.Gains.{hulls, hulls_after}
use Rattle.dsv_network.specs.declared.network.Network.{Network}
use Rattle.dsv_network.specs.Runs.{node_shows, LiesOver, LieOver}
use Rattle.dsv_network.proofs.Values.{value_is, parts_are}

-- both ends are words
pub record HasWords (f : Format) (r : Range) : Type 0 where
  pub low : IsWord f r.low
  pub high : IsWord f r.high

-- so many ranges, whose ends are words
pub record AreRanges (f : Format) (n : ℕ) (rs : List Range) : Type 0 where
  pub many : length rs ≡ n
  pub words : All (HasWords f) rs

-- ---- two ranges
least_cases : (b : Bool) (f : Format) (o x y v : ℤ) → pos 0 ≤ℤ o → int_lt y x ≡ b → IsWord f x → IsWord f y → ((o *ℤ x) ≤ℤ v) ⊎ ((o *ℤ y) ≤ℤ v) → IsWord f (if b then y else x) × ((o *ℤ (if b then y else x)) ≤ℤ v)
least_cases true f o x y v u e p q h = (q, elim h [ inl l ↦ (let m = times_up o y x u (omega (arith, ints, e)) in omega (arith, ints, m, l)) | inr l ↦ l ])
least_cases false f o x y v u e p q h = (p, elim h [ inl l ↦ l | inr l ↦ (let m = times_up o x y u (omega (arith, ints, e)) in omega (arith, ints, m, l)) ])

most_cases : (b : Bool) (f : Format) (o x y v : ℤ) → pos 0 ≤ℤ o → int_lt x y ≡ b → IsWord f x → IsWord f y → (v ≤ℤ (o *ℤ x)) ⊎ (v ≤ℤ (o *ℤ y)) → IsWord f (if b then y else x) × (v ≤ℤ (o *ℤ (if b then y else x)))
most_cases true f o x y v u e p q h = (q, elim h [ inl l ↦ (let m = times_up o x y u (omega (arith, ints, e)) in omega (arith, ints, m, l)) | inr l ↦ l ])
most_cases false f o x y v u e p q h = (p, elim h [ inl l ↦ l | inr l ↦ (let m = times_up o y x u (omega (arith, ints, e)) in omega (arith, ints, m, l)) ])

hull_left : (o : ℤ) (f : Format) (r s : Range) (v : ℤ) → pos 0 ≤ℤ o → LiesOver o f r v → HasWords f s → LiesOver o f (hull r s) v
hull_left o f r s v u l w =
    let low = least_cases (int_lt s.low r.low) f o r.low s.low v u refl l.low_word w.low (inl l.between.least) in
    let high = most_cases (int_lt r.high s.high) f o r.high s.high v u refl l.high_word w.high (inl l.between.most) in
    record { low_word = low.0; high_word = high.0; between = record { least = low.1; most = high.1 } }

hull_right : (o : ℤ) (f : Format) (r s : Range) (v : ℤ) → pos 0 ≤ℤ o → HasWords f r → LiesOver o f s v → LiesOver o f (hull r s) v
hull_right o f r s v u w l =
    let low = least_cases (int_lt s.low r.low) f o r.low s.low v u refl w.low l.low_word (inr l.between.least) in
    let high = most_cases (int_lt r.high s.high) f o r.high s.high v u refl w.high l.high_word (inr l.between.most) in
    record { low_word = low.0; high_word = high.0; between = record { least = low.1; most = high.1 } }

choose : (b : Bool) (f : Format) (x y : ℤ) → IsWord f x → IsWord f y → IsWord f (if b then y else x)
choose true f x y p q = q
choose false f x y p q = p

hull_words : (f : Format) (r s : Range) → HasWords f r → HasWords f s → HasWords f (hull r s)
hull_words f r s a b = record { low = choose (int_lt s.low r.low) f r.low s.low a.low b.low; high = choose (int_lt r.high s.high) f r.high s.high a.high b.high }

-- ---- lists of ranges
pub hulls_left : (o : ℤ) (f : Format) (rs ss : List Range) (vs : List ℤ) → pos 0 ≤ℤ o → length rs ≡ length ss → LieOver o f rs vs → All (HasWords f) ss → LieOver o f (hulls rs ss) vs
hulls_left o f [] ss vs u e l w = l
hulls_left o f (r ∷ rs) [] vs u e l w = absurd (omega arith)
hulls_left o f (r ∷ rs) (s ∷ ss) [] u e l w = absurd l
hulls_left o f (r ∷ rs) (s ∷ ss) (v ∷ vs) u e l w = (hull_left o f r s v u l.0 (All-head (HasWords f) s ss w), hulls_left o f rs ss vs u (omega arith) l.1 (All-tail (HasWords f) s ss w))

pub hulls_right : (o : ℤ) (f : Format) (rs ss : List Range) (vs : List ℤ) → pos 0 ≤ℤ o → length rs ≡ length ss → All (HasWords f) rs → LieOver o f ss vs → LieOver o f (hulls rs ss) vs
hulls_right o f [] [] vs u e w l = l
hulls_right o f [] (s ∷ ss) vs u e w l = absurd (omega arith)
hulls_right o f (r ∷ rs) [] vs u e w l = absurd (omega arith)
hulls_right o f (r ∷ rs) (s ∷ ss) [] u e w l = absurd l
hulls_right o f (r ∷ rs) (s ∷ ss) (v ∷ vs) u e w l = (hull_right o f r s v u (All-head (HasWords f) r rs w) l.0, hulls_right o f rs ss vs u (omega arith) (All-tail (HasWords f) r rs w) l.1)

hulls_words : (f : Format) (rs ss : List Range) → All (HasWords f) rs → All (HasWords f) ss → All (HasWords f) (hulls rs ss)
hulls_words f [] ss a b = All-nil (HasWords f)
hulls_words f (r ∷ rs) [] a b = All-nil (HasWords f)
hulls_words f (r ∷ rs) (s ∷ ss) a b =
    All-cons (HasWords f) (hull r s) (hulls rs ss) (hull_words f r s (All-head (HasWords f) r rs a) (All-head (HasWords f) s ss b))
    (hulls_words f rs ss (All-tail (HasWords f) r rs a) (All-tail (HasWords f) s ss b))

hulls_length : (rs ss : List Range) → length rs ≡ length ss → length (hulls rs ss) ≡ length rs
hulls_length [] ss e = refl
hulls_length (r ∷ rs) [] e = absurd (omega arith)
hulls_length (r ∷ rs) (s ∷ ss) e = ap suc (hulls_length rs ss (omega arith))

hulls_are : (f : Format) (n : ℕ) (rs ss : List Range) → AreRanges f n rs → AreRanges f n ss → AreRanges f n (hulls rs ss)
hulls_are f n rs ss a b = record { many = hulls_length rs ss (a.many ∙ sym b.many) ∙ a.many; words = hulls_words f rs ss a.words b.words }

-- ---- the ranges of samples
-- how many values nodes show
abbrev pub fits : List Signal → ℕ
fits [] = 0
fits (n ∷ ns) = length (node_shows [] n) + fits ns

none_are : (f : Format) (all : List Range) → shown.Words [] ≡ shown.Words all → AreRanges f 0 all
none_are f all e = let same : [] ≡ all = cc in subst (λ (rs : List Range). AreRanges f 0 rs) same (record { many = refl; words = All-nil (HasWords f) })

value_are : (f : Format) (o : Option Range) (all : List Range) → value_ends f o ≡ shown.Words all → AreRanges f 1 all
value_are f o all e =
    let is = value_is f o all e in
    subst (λ (rs : List Range). AreRanges f 1 rs) (sym is.alone) (record { many = refl; words = All-cons (HasWords f) is.ends [] (record { low = is.low; high = is.high }) (All-nil (HasWords f)) })

node_are : (count : ℕ) (pass : Pass) (ranges : List Range) (w : Weights) (n : Signal) (all : List Range) → node_ends count pass ranges w n ≡ shown.Words all → AreRanges pass.format (length (node_shows [] n)) all
node_are count pass ranges w (Outer r) all e = none_are pass.format all e
node_are count pass ranges w (Register r) all e = none_are pass.format all e
node_are count pass ranges w (Product c i) all e = none_are pass.format all e
node_are count pass ranges w (Sum i j) all e = none_are pass.format all e
node_are count pass ranges w (Difference i j) all e = none_are pass.format all e
node_are count pass ranges w (Near near) all e = none_are pass.format all e
node_are count pass ranges w (Checked i) all e = value_are pass.format (value_range true count ranges w) all e
node_are count pass ranges w (Shown i) all e = value_are pass.format (value_range false count ranges w) all e

-- a walk that shows words was made
pub record IsShown (here rest : Walk → Ends) (o : Option Walk) (all : List Range) : Type 0 where
  pub walk : Walk
  pub made : o ≡ Some walk
  pub shows : with_ends (here walk) (rest walk) ≡ shown.Words all

pub shown_is : (here rest : Walk → Ends) (o : Option Walk) (all : List Range) → then_ends (shown.Leaves 0) here rest o ≡ shown.Words all → IsShown here rest o all
shown_is here rest None all e = absurd cc
shown_is here rest (Some walk) all e = record { walk = walk; made = refl; shows = e }

ends_are : (count : ℕ) (pass : Pass) (ns : List Signal) (walk : Walk) (all : List Range) → ends_from count pass ns walk ≡ shown.Words all → AreRanges pass.format (fits ns) all
ends_are count pass [] walk all e = none_are pass.format all e
ends_are count pass (n ∷ ns) walk all e =
    let f = pass.format in
    let i = length walk.weights in
    let s = shown_is (shown_by count pass i n) (ends_from count pass ns) (after_node pass walk n) all e in
    let p = parts_are (shown_by count pass i n s.walk) (ends_from count pass ns s.walk) all s.shows in
    let a = node_are count pass s.walk.ranges (weights_at s.walk.weights i) n p.ranges p.here in
    let b = ends_are count pass ns s.walk p.more p.there in
    subst (λ (rs : List Range). AreRanges f (fits (n ∷ ns)) rs) p.together (record {
      many = length-append p.ranges p.more ∙ rw (a.many, b.many) refl;
      words = All-append (HasWords f) p.ranges p.more a.words b.words;
    })

-- where all of a walk is shown, it was made
pub ends_made : (count : ℕ) (pass : Pass) (ns : List Signal) (walk : Walk) (all : List Range) → ends_from count pass ns walk ≡ shown.Words all → (final : Walk) × (walk_from pass ns walk ≡ Some final)
ends_made count pass [] walk all e = (walk, refl)
ends_made count pass (n ∷ ns) walk all e =
    let f = pass.format in
    let i = length walk.weights in
    let s = shown_is (shown_by count pass i n) (ends_from count pass ns) (after_node pass walk n) all e in
    let p = parts_are (shown_by count pass i n s.walk) (ends_from count pass ns s.walk) all s.shows in
    let last = ends_made count pass ns s.walk p.more p.there in
    (last.0, ap (λ (o : Option Walk). o >>= walk_from pass ns) s.made ∙ last.1)

-- ---- a sample's ranges, where all of them have words as their ends
abbrev pub pass_words : ℕ → List Signal → Pass → Option (List Range)
pass_words count nodes pass = ranges_in (pass_ends count nodes pass)

pub words_are : (e : Ends) (all : List Range) → ranges_in e ≡ Some all → e ≡ shown.Words all
words_are (shown.Words ranges) all h = let same : ranges ≡ all = cc in ap (λ (rs : List Range). shown.Words rs) same
words_are (shown.Leaves value) all h = absurd cc

-- ---- the first samples
-- the ranges of this sample and of so many after it, and of those before
abbrev pub run_ends : ℕ → Network → ℕ → Pass → Option (List Range) → Option (List Range)
run_ends count net zero pass before = pass_words count net.nodes pass >>= λ ends. Some (hulls_after before ends)
run_ends count net (suc n) pass before = pass_words count net.nodes pass >>= λ ends. run_ends count net n (after_pass net.nodes net.next pass) (Some (hulls_after before ends))

-- the ranges of the sample after so many
abbrev pub later_words : ℕ → Network → ℕ → Pass → Option (List Range)
later_words count net zero pass = pass_words count net.nodes pass
later_words count net (suc n) pass = later_words count net n (after_pass net.nodes net.next pass)

-- those before are ranges, if there are any
abbrev pub AreBefore : Network → Option (List Range) → Type 0
AreBefore net before = IfSome before (AreRanges net.format (fits net.nodes))

pub pass_are : (count : ℕ) (net : Network) (pass : Pass) (ends : List Range) → pass.format ≡ net.format → pass_words count net.nodes pass ≡ Some ends → AreRanges net.format (fits net.nodes) ends
pass_are count net pass ends f e = subst (λ (g : Format). AreRanges g (fits net.nodes) ends) f (ends_are count pass net.nodes (begun pass) ends (words_are (pass_ends count net.nodes pass) ends e))

pub hulls_after-are : (net : Network) (before : Option (List Range)) (ends : List Range) → AreBefore net before → AreRanges net.format (fits net.nodes) ends → AreRanges net.format (fits net.nodes) (hulls_after before ends)
hulls_after-are net None ends b a = a
hulls_after-are net (Some others) ends b a = hulls_are net.format (fits net.nodes) others ends b a

-- what lies in the ranges of the last sample
pub hulls_after-last : (o : ℤ) (net : Network) (before : Option (List Range)) (ends : List Range) (vs : List ℤ) → pos 0 ≤ℤ o → AreBefore net before → AreRanges net.format (fits net.nodes) ends → LieOver o net.format ends vs
    → LieOver o net.format (hulls_after before ends) vs
hulls_after-last o net None ends vs u b a l = l
hulls_after-last o net (Some others) ends vs u b a l = hulls_right o net.format others ends vs u (b.many ∙ sym a.many) b.words l

pub format_stays : (next : List ℕ) (pass : Pass) (o : Option Walk) → (pass_with next pass o).format ≡ pass.format
format_stays next pass None = refl
format_stays next pass (Some walk) = refl

pub format_after : (net : Network) (pass : Pass) → pass.format ≡ net.format → (after_pass net.nodes net.next pass).format ≡ net.format
format_after net pass e = format_stays net.next pass (walk_from pass net.nodes (begun pass)) ∙ e

pub run_are : (count : ℕ) (net : Network) (n : ℕ) (pass : Pass) (before : Option (List Range)) (all : List Range) → pass.format ≡ net.format → AreBefore net before → run_ends count net n pass before ≡ Some all
    → AreRanges net.format (fits net.nodes) all
run_are count net zero pass before all f b e =
    let one = some_of (pass_words count net.nodes pass) (λ ends. Some (hulls_after before ends)) all e in
    let same : hulls_after before one.0 ≡ all = let g = one.2 in cc in
    subst (AreRanges net.format (fits net.nodes)) same (hulls_after-are net before one.0 b (pass_are count net pass one.0 f one.1))
run_are count net (suc n) pass before all f b e =
    let after = after_pass net.nodes net.next pass in
    let one = some_of (pass_words count net.nodes pass) (λ ends. run_ends count net n after (Some (hulls_after before ends))) all e in
    run_are count net n after (Some (hulls_after before one.0)) all (format_after net pass f) (hulls_after-are net before one.0 b (pass_are count net pass one.0 f one.1)) one.2

-- what lies in the ranges before lies in all
pub run_keeps : (o : ℤ) (count : ℕ) (net : Network) (n : ℕ) (pass : Pass) (others all : List Range) (vs : List ℤ) → pos 0 ≤ℤ o → pass.format ≡ net.format → AreRanges net.format (fits net.nodes) others → run_ends count net n pass (Some others) ≡ Some all
    → LieOver o net.format others vs → LieOver o net.format all vs
run_keeps o count net zero pass others all vs u f b e l =
    let one = some_of (pass_words count net.nodes pass) (λ ends. Some (hulls others ends)) all e in
    let same : hulls others one.0 ≡ all = let g = one.2 in cc in
    let a = pass_are count net pass one.0 f one.1 in
    subst (λ (rs : List Range). LieOver o net.format rs vs) same (hulls_left o net.format others one.0 vs u (b.many ∙ sym a.many) l a.words)
run_keeps o count net (suc n) pass others all vs u f b e l =
    let after = after_pass net.nodes net.next pass in
    let one = some_of (pass_words count net.nodes pass) (λ ends. run_ends count net n after (Some (hulls others ends))) all e in
    let a = pass_are count net pass one.0 f one.1 in
    run_keeps o count net n after (hulls others one.0) all vs u (format_after net pass f) (hulls_are net.format (fits net.nodes) others one.0 b a) one.2 (hulls_left o net.format others one.0 vs u (b.many ∙ sym a.many) l a.words)

pub after_are : (count : ℕ) (net : Network) (n : ℕ) (pass : Pass) (ends : List Range) → pass.format ≡ net.format → later_words count net n pass ≡ Some ends → AreRanges net.format (fits net.nodes) ends
after_are count net zero pass ends f e = pass_are count net pass ends f e
after_are count net (suc n) pass ends f e = after_are count net n (after_pass net.nodes net.next pass) ends (format_after net pass f) e
