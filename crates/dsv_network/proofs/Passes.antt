-- Samples one after another: the first ones, the one that comes after so many, and all.
use Rattle.std.proofs.Common.{◌≡◌, ℕ, zero, suc, ◌+◌, ◌<◌, ◌≤◌, inl, inr, ◌⊎◌, false, List, [], ◌∷◌, length, get_or, map, take, refl, sym, subst, ap, ◌∙◌, arith}
use Rattle.std.specs.Prelude.{Option, Some, None}
use Rattle.std.specs.List.{All}
use Rattle.std.proofs.Math.IntN.{ℤ, pos, ◌*ℤ◌}
use Rattle.std.proofs.lemmas.Int.{ints}
use lib.Signed.{◌<ℤ◌, ◌≤ℤ◌}
use Rattle.std.proofs.lemmas.Bool.{cases_lt}
use Rattle.std.proofs.lemmas.List.{get_or_past, get_or-map, length-map}
use Rattle.std.proofs.lemmas.List.Elements.{All-head, All-tail, All-nil, All-cons}
use Rattle.dsv_netlist.specs.Nodes.{at}
use Rattle.dsv_linear.specs.declared.range.Range.{Range}
use Rattle.dsv_linear.specs.Forms.{scale, range_at}
use Rattle.dsv_linear.specs.Meaning as meaning
use Rattle.dsv_linear.proofs.Numbers.{some_of, times_none}
use Rattle.dsv_network.specs.declared.ends.Ends.TheVariants as shown
use Rattle.dsv_network.specs.declared.pass.Pass.{Pass}
use Rattle.dsv_network.specs.declared.walk.Walk.{Walk}
use Rattle.dsv_network.specs.Samples.{walk_from, begun, pass_ends, pass_with, after_pass}
use Rattle.dsv_network.specs.Gains.{hulls_after}
use Rattle.dsv_network.specs.declared.network.Network.{Network}
use Rattle.dsv_network.specs.Runs.{Fits, AreGiven, RunsGiven, shown_in, LieOver, ShowsIn}
use Rattle.dsv_network.proofs.Values.{lie_fits}
use Rattle.dsv_network.proofs.Masses.{mass_same, mass_none, grid_shift}
use Rattle.dsv_network.proofs.Walks.{form_of, walk_or, walk_or_is, coefficients, Means}
use Rattle.dsv_network.proofs.Solutions.{AreAges, Solution}
use Rattle.dsv_network.proofs.Walking.{symbols_in, AreSummed, AreTaken, taken_wider, Midway, walked, walk_lies}
use Rattle.dsv_network.proofs.SampleRanges.{AreBefore, pass_words, words_are, ends_made, run_ends, later_words, pass_are, format_after, hulls_after-are, hulls_after-last, run_keeps}

-- the pass after so many samples
abbrev pub pass_after : Network → Pass → ℕ → Pass
pass_after net first zero = first
pass_after net first (suc a) = after_pass net.nodes net.next (pass_after net first a)

-- the walk of the sample after so many, before its first node and after its last
abbrev pub starts : Network → Pass → ℕ → Walk
starts net first a = begun (pass_after net first a)

abbrev pub finals : Network → Pass → ℕ → Walk
finals net first a = walk_or (starts net first a) (walk_from (pass_after net first a) net.nodes (starts net first a))

-- it was made
abbrev pub IsMade : Network → Pass → Type 0
IsMade net pass = (final : Walk) × (walk_from pass net.nodes (begun pass) ≡ Some final)

-- between samples: the numbers in the registers are those of their forms, where the first so many
-- symbols are 0
pub record Stands (silent : ℕ) (net : Network) (over : ℤ) (pass : Pass) (words : List ℤ) : Type 0 where
  pub first : Pass
  pub n : ℕ
  pub m : ℕ
  pub t : ℕ
  pub pass_is : pass ≡ pass_after net first t
  pub ages : AreAges n m net.format t (pass_after net first)
  pub solution : Solution silent n m t n over (pass_after net first) (starts net first) words []
  pub is_over : pos 0 <ℤ over
  pub less : silent ≤ n
  pub room : n + symbols_in net.nodes ≡ m
  pub takes : AreTaken (pass_after net first t).ranges n net.nodes
  pub sums : AreSummed n m t (pass_after net first) (starts net first) (pass_after net first t).weights 0 net.nodes
  pub made : (a : ℕ) → a < t → IsMade net (pass_after net first a)

-- ---- one sample
all_made : (net : Network) (first : Pass) (t : ℕ) → ((a : ℕ) → a < t → IsMade net (pass_after net first a)) → IsMade net (pass_after net first t) → (a : ℕ) → a ≤ t
    → walk_from (pass_after net first a) net.nodes (starts net first a) ≡ Some (finals net first a)
all_made net first t old now a l = elim (cases_lt a t) [
  | inl p ↦ (let g = old a p in walk_or_is (starts net first a) (walk_from (pass_after net first a) net.nodes (starts net first a)) g.0 g.1)
  | inr p ↦ (let same : t ≡ a = omega (arith, l, p) in let g = subst (λ (i : ℕ). IsMade net (pass_after net first i)) same now in
      walk_or_is (starts net first a) (walk_from (pass_after net first a) net.nodes (starts net first a)) g.0 g.1)
]

midway : {silent : ℕ} {net : Network} {over : ℤ} {pass : Pass} {words : List ℤ} (s : Stands silent net over pass words) → IsMade net pass
    → Midway silent s.n s.m s.t s.n net.format over (pass_after net s.first) (starts net s.first) (finals net s.first) words [] net.nodes
midway {silent} {net} {over} {pass} {words} s made = record {
  ages = s.ages;
  walks = record { long = λ a l. refl; own_is = λ a l. s.ages.count a l; few = omega arith; none = λ i j l. refl };
  solution = s.solution;
  is_over = s.is_over;
  long = s.ages.long s.t (omega arith);
  less = s.less;
  room = s.room;
  takes = s.takes;
  weighed = refl;
  sums = s.sums;
  made = all_made net s.first s.t s.made (subst (IsMade net) s.pass_is made);
}

-- the symbols, a sample later
abbrev aged : (ℕ → ℕ → ℤ) → ℕ → ℕ → ℤ
aged us zero j = pos 0
aged us (suc a) j = us a j

aged_none : (us : ℕ → ℕ → ℤ) (P : ℕ → ℕ → Type 0) → ((a j : ℕ) → P a j → us a j ≡ pos 0) → (a j : ℕ) → ((b : ℕ) → a ≡ suc b → P b j) → aged us a j ≡ pos 0
aged_none us P h zero j p = refl
aged_none us P h (suc a) j p = h a j (p a refl)

-- what stands for values stands past the last one too
stand_any : (m t : ℕ) (k : ℤ) (us : ℕ → ℕ → ℤ) (ws : ℕ → Walk) (vs : List ℤ) (i : ℕ) → ((a : ℕ) → a ≤ t → length (ws a).forms ≡ length vs) → ((i : ℕ) → i < length vs → Means m t k us (coefficients (λ a. (ws a).forms) i) (at vs i))
    → Means m t k us (coefficients (λ a. (ws a).forms) i) (at vs i)
stand_any m t k us ws vs i long h = elim (cases_lt i (length vs)) [
  | inl p ↦ h i p
  | inr p ↦ (let none : (a j : ℕ) → a < suc t → j < m → coefficients (λ a. (ws a).forms) i a j ≡ pos 0 = λ a j l q. ap (λ (f : List ℤ). at f j) (get_or_past (ws a).forms i [] (let e = long a (omega (arith, l)) in omega (arith, e, p))) in
      ap (λ v. pos scale *ℤ k *ℤ v) (get_or_past vs i (pos 0) p) ∙ times_none (pos scale *ℤ k) ∙ sym (mass_none m (suc t) (coefficients (λ a. (ws a).forms) i) us none))
]

later_is : (net : Network) (first : Pass) (a : ℕ) → walk_from (pass_after net first a) net.nodes (starts net first a) ≡ Some (finals net first a)
    → pass_after net first (suc a) ≡ pass_with net.next (pass_after net first a) (Some (finals net first a))
later_is net first a e = ap (pass_with net.next (pass_after net first a)) e

-- a register's form, a sample later, is that of the node that it is loaded from
register_later : (net : Network) (first : Pass) (a r : ℕ) → walk_from (pass_after net first a) net.nodes (starts net first a) ≡ Some (finals net first a) → r < length net.next
    → form_of (pass_after net first (suc a)).registers r ≡ form_of (finals net first a).forms (get_or net.next r 0)
register_later net first a r e l = ap (λ (p : Pass). form_of p.registers r) (later_is net first a e) ∙ get_or-map (λ i. form_of (finals net first a).forms i) net.next r 0 [] l

-- what holds up to a sample and at the next one holds up to that
up_to : (t : ℕ) (P : ℕ → Type 0) → ((a : ℕ) → a ≤ t → P a) → P (suc t) → (a : ℕ) → a ≤ suc t → P a
up_to t P h now a l = elim (cases_lt a (suc t)) [
  | inl p ↦ h a (omega (arith, p))
  | inr p ↦ (let same : suc t ≡ a = omega (arith, l, p) in subst P same now)
]

aged_lies : (k : ℤ) (us : ℕ → ℕ → ℤ) (rs : List Range) (n m t j a : ℕ) → a ≤ suc t → n ≤ j → j < m → (0 < a) ⊎ (j < n) → ((c : ℕ) → c ≤ t → meaning.LiesIn k (range_at rs j) (us c j)) → meaning.LiesIn k (range_at rs j) (aged us a j)
aged_lies k us rs n m t j zero l p q h old = elim h [ inl r ↦ absurd (omega (arith, r)) | inr r ↦ absurd (omega (arith, p, r)) ]
aged_lies k us rs n m t j (suc a) l p q h old = old a (omega (arith, l))

-- after a sample in which fitting changes nothing
next_stands : (silent : ℕ) (net : Network) (over : ℤ) (pass : Pass) (words values : List ℤ) → IsMade net pass → AreGiven net.format over words [] net.nodes values
    → All (Fits net.format over) (shown_in [] net.nodes values) → Stands silent net over pass words → Stands silent net over (after_pass net.nodes net.next pass) (map (at values) net.next)
next_stands silent net over pass words values made h e s =
    let first = s.first in
    let t = s.t in
    let n = s.n in
    let m = s.m in
    let ps = pass_after net first in
    let f = net.format in
    let made_all = all_made net first t s.made (subst (IsMade net) s.pass_is made) in
    let d = walked ps (starts net first) (finals net first) words [] net.nodes values (midway s made) h e in
    let last = later_is net first t (made_all t (omega arith)) in
    let sol = d.solution in
    let us = aged sol.us in
    let past = map (at values) net.next in
    let long_past : length past ≡ length net.next = length-map net.next (at values) in
    let full = d.full in
    record {
      first = first;
      n = n;
      m = m;
      t = suc t;
      pass_is = ap (after_pass net.nodes net.next) s.pass_is;
      ages = record {
        count = λ a l. up_to t (λ a. (ps a).count ≡ n) s.ages.count (ap (λ (p : Pass). p.count) last ∙ s.ages.count t (omega arith)) a l;
        long = λ a l. up_to t (λ a. length (ps a).ranges ≡ m) s.ages.long (ap (λ (p : Pass). length p.ranges) last ∙ d.long) a l;
        format = λ a l. up_to t (λ a. (ps a).format ≡ f) s.ages.format (ap (λ (p : Pass). p.format) last ∙ s.ages.format t (omega arith)) a l;
        first = s.ages.first;
        later = λ a l. elim (cases_lt a t) [
          | inl p ↦ s.ages.later a p
          | inr p ↦ (let same : t ≡ a = omega (arith, l, p) in subst (λ (i : ℕ). (ps (suc i)).is_first ≡ false) same (ap (λ (p : Pass). p.is_first) last))
        ];
        none = s.ages.none;
      };
      solution = record {
        k = sol.k;
        base = sol.base;
        us = us;
        positive = sol.positive;
        whole = sol.whole;
        above = sol.above;
        none = λ a j l. aged_none sol.us (λ b j. j < silent) (λ b j q. sol.none b j q) a j (λ b q. l);
        past = λ a j l h. aged_none sol.us (λ b j. (b < t) × (j < n)) (λ b j q. sol.past b j q.0 q.1) a j (λ b q. (omega (arith, l, q), h));
        start = λ j l. subst (λ (p : Pass). meaning.LiesIn sol.base (range_at p.ranges j) (sol.us t j)) (sym last) (sol.start j l);
        lies = λ a j l p q h. subst (λ (z : Pass). meaning.LiesIn sol.base (range_at z.ranges j) (us a j)) (sym last) (aged_lies sol.base sol.us (finals net first t).ranges n m t j a l p q h
            (λ c r. sol.lies c j r p q (inr (omega (arith, q, full)))));
        many = ap (λ (p : Pass). length p.registers) last ∙ length-map net.next (λ i. form_of (finals net first t).forms i) ∙ sym long_past;
        loaded = λ r l.
            let i = get_or net.next r 0 in
            let inside : r < length net.next = omega (arith, l, long_past) in
            let value = get_or-map (at values) net.next r 0 (pos 0) inside in
            let c = coefficients (λ a. (ps a).registers) r in
            subst (λ (v : ℤ). Means m (suc t) sol.k us c v) (sym value)
            (stand_any m t sol.k sol.us (finals net first) values i d.walks.long sol.stand
            ∙ mass_same m (suc t) (coefficients (λ a. (finals net first a).forms) i) (λ a j. c (suc a) j) sol.us (λ a j p q. ap (λ (g : List ℤ). at g j) (sym (register_later net first a r (made_all a (omega (arith, p))) inside)))
            ∙ sym (grid_shift m (suc t) (λ a j. c a j *ℤ us a j) (λ j q. times_none (c 0 j))));
        stand = λ i l. absurd (omega (arith, l));
      };
      is_over = s.is_over;
      less = s.less;
      room = s.room;
      takes = subst (λ (p : Pass). AreTaken p.ranges n net.nodes) (sym last) (taken_wider (ps t).ranges (finals net first t).ranges n net.nodes d.wider s.takes);
      sums = subst (λ (p : Pass). AreSummed n m (suc t) ps (starts net first) p.weights 0 net.nodes) (sym last) d.sums;
      made = λ a l. (finals net first a, made_all a (omega (arith, l)));
    }

sample_lies : (count : ℕ) (net : Network) (over : ℤ) (pass : Pass) (words values : List ℤ) (ends : List Range) → pass_words count net.nodes pass ≡ Some ends
    → AreGiven net.format over words [] net.nodes values → Stands count net over pass words → ShowsIn net over ends values
sample_lies count net over pass words values ends w h s =
    let e = words_are (pass_ends count net.nodes pass) ends w in
    let made = ends_made count pass net.nodes (begun pass) ends e in
    walk_lies (pass_after net s.first) (starts net s.first) (finals net s.first) words [] count net.nodes values ends (midway s made) (omega arith) h
    (subst (λ (p : Pass). pass_ends count net.nodes p ≡ shown.Words ends) s.pass_is e)

-- a sample that shows all values was made
words_made : (count : ℕ) (net : Network) (pass : Pass) (ends : List Range) → pass_words count net.nodes pass ≡ Some ends → IsMade net pass
words_made count net pass ends g = ends_made count pass net.nodes (begun pass) ends (words_are (pass_ends count net.nodes pass) ends g)

pub not_below : (over : ℤ) → pos 0 <ℤ over → pos 0 ≤ℤ over
not_below over o = omega (arith, ints, o)

-- ---- the first samples
pub run_lies : (count : ℕ) (net : Network) (over : ℤ) (n : ℕ) (samples : List (List ℤ)) (pass : Pass) (words : List ℤ) (before : Option (List Range)) (all : List Range) → pass.format ≡ net.format
    → AreBefore net before → run_ends count net n pass before ≡ Some all → RunsGiven net over words samples → Stands count net over pass words → All (ShowsIn net over all) (take (suc n) samples)
run_lies count net over n [] pass words before all e p w h s = All-nil (ShowsIn net over all)
run_lies count net over zero (values ∷ samples) pass words before all e p w h s =
    let one = some_of (pass_words count net.nodes pass) (λ ends. Some (hulls_after before ends)) all w in
    let same : hulls_after before one.0 ≡ all = let h = one.2 in cc in
    let here = sample_lies count net over pass words values one.0 one.1 h.0 s in
    let exact = shown_in [] net.nodes values in
    let lies = hulls_after-last over net before one.0 exact (not_below over s.is_over) p (pass_are count net pass one.0 e one.1) here in
    All-cons (ShowsIn net over all) values [] (subst (λ (rs : List Range). LieOver over net.format rs exact) same lies) (All-nil (ShowsIn net over all))
run_lies count net over (suc n) (values ∷ samples) pass words before all e p w h s =
    let up = not_below over s.is_over in
    let after = after_pass net.nodes net.next pass in
    let one = some_of (pass_words count net.nodes pass) (λ ends. run_ends count net n after (Some (hulls_after before ends))) all w in
    let now = hulls_after before one.0 in
    let exact = shown_in [] net.nodes values in
    let here = sample_lies count net over pass words values one.0 one.1 h.0 s in
    let are = pass_are count net pass one.0 e one.1 in
    let kept = hulls_after-are net before one.0 p are in
    All-cons (ShowsIn net over all) values (take (suc n) samples)
    (run_keeps over count net n after now all exact up (format_after net pass e) kept one.2 (hulls_after-last over net before one.0 exact up p are here))
    (run_lies count net over n samples after (map (at values) net.next) (Some now) all (format_after net pass e) kept one.2 h.1
    (next_stands count net over pass words values (words_made count net pass one.0 one.1) h.0 (lie_fits over net.format one.0 exact up here) s))

-- ---- the sample that comes after so many
-- a pass that is given up stands still, so what shows a later sample was made on the way
stands_still : (net : Network) (pass : Pass) → walk_from pass net.nodes (begun pass) ≡ None → after_pass net.nodes net.next pass ≡ pass
stands_still net pass e = ap (pass_with net.next pass) e

made_cases : (o : Option Walk) → ((final : Walk) × (o ≡ Some final)) ⊎ (o ≡ None)
made_cases None = inr refl
made_cases (Some final) = inl (final, refl)

later_made : (count : ℕ) (net : Network) (n : ℕ) (pass : Pass) (ends : List Range) → later_words count net n pass ≡ Some ends → IsMade net pass
later_made count net zero pass ends g = words_made count net pass ends g
later_made count net (suc n) pass ends g = elim (made_cases (walk_from pass net.nodes (begun pass))) [
  | inl p ↦ p
  | inr p ↦ later_made count net n pass ends (sym (ap (later_words count net n) (stands_still net pass p)) ∙ g)
]

-- where the samples before have Q, so that they pass unchanged, it has Q too
pub next_has : (count : ℕ) (net : Network) (over : ℤ) (Q : List ℤ → Type 0) (n : ℕ) (samples : List (List ℤ)) (pass : Pass) (words : List ℤ) (ends : List Range)
    → ((values : List ℤ) → Q values → All (Fits net.format over) (shown_in [] net.nodes values)) → ((values : List ℤ) → ShowsIn net over ends values → Q values) → later_words count net n pass ≡ Some ends
    → RunsGiven net over words samples → Stands count net over pass words → All Q (take n samples) → All Q (take (suc n) samples)
next_has count net over Q n [] pass words ends w q e r s h = All-nil Q
next_has count net over Q zero (values ∷ samples) pass words ends w q e r s h = All-cons Q values [] (q values (sample_lies count net over pass words values ends e r.0 s)) (All-nil Q)
next_has count net over Q (suc n) (values ∷ samples) pass words ends w q e r s h =
    let here = All-head Q values (take n samples) h in
    All-cons Q values (take (suc n) samples) here
    (next_has count net over Q n samples (after_pass net.nodes net.next pass) (map (at values) net.next) ends w q e r.1
    (next_stands count net over pass words values (later_made count net (suc n) pass ends e) r.0 (w values here) s) (All-tail Q values (take n samples) h))

-- ---- all samples
-- where, from all states with P, the sample after n others has Q if these have, and the first n have, then all have
pub all_have : {X : Type 0} (P : List X → Type 0) (Q : X → Type 0) (n : ℕ) → ((x : X) (xs : List X) → P (x ∷ xs) → Q x → P xs) → ((xs : List X) → P xs → All Q (take n xs) → All Q (take (suc n) xs))
    → (xs : List X) → P xs → All Q (take n xs) → All Q xs
all_have P Q n keeps more [] p h = All-nil Q
all_have P Q n keeps more (x ∷ xs) p h =
    let first = more (x ∷ xs) p h in
    let here = All-head Q x (take n xs) first in
    All-cons Q x xs here (all_have P Q n keeps more xs (keeps x xs p here) (All-tail Q x (take n xs) first))
