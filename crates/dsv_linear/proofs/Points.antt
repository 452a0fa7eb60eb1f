-- What is known after one node more.
use Rattle.std.proofs.Common.{◌≡◌, ℕ, suc, ◌<◌, ◌≤◌, ◌^◌, inl, inr, ◌⊎◌, List, [], ◌∷◌, ◌++◌, length, get_or, refl, sym, subst, ap, ◌∙◌, arith}
use Rattle.std.specs.Prelude.{Option, Some, None, option_to_list}
use Rattle.std.specs.List.{All}
use Rattle.std.proofs.Math.IntN.{ℤ, pos, ◌+ℤ◌, ◌-ℤ◌, ◌*ℤ◌}
use Rattle.std.proofs.lemmas.Int.{ints}
use Rattle.std.proofs.lemmas.Bool.{cases_lt}
use Rattle.std.proofs.lemmas.List.{get_or_append_left, get_or_push, get_or_past, length_push, append-nil, take-append-le}
use Rattle.std.proofs.lemmas.List.Elements.{All-head, All-tail, All-nil, All-cons}
use Rattle.std.proofs.lemmas.Nat.{pow_pos}
use Rattle.std.proofs.Math.Seq.{take-append_seam}
use Rattle.dsv_algebra.specs.Narrow.{narrow_of}
use Rattle.dsv_word.specs.declared.format.Format.{Format}
use Rattle.dsv_word.specs.Words.{IsWord}
use Rattle.dsv_word.specs.Quotients.{whole_shift}
use Rattle.dsv_netlist.specs.declared.node.Node.{Node}
use Rattle.dsv_netlist.specs.declared.node.Node.TheVariants.{Input, Reg, MulConst, Round, Add, Sub, Fit, Scale}
use Rattle.dsv_netlist.specs.Nodes as nodes
use Rattle.dsv_netlist.specs.Nodes.{Sample, at, node_value, node_exact}
use Rattle.dsv_linear.specs.Facts.{Between, Hold, HoldsOf}
use Rattle.dsv_linear.specs.declared.fact.Fact.{Fact}
use Rattle.dsv_linear.specs.declared.fact.Fact.TheVariants as fact
use Rattle.dsv_linear.specs.declared.range.Range.{Range}
use Rattle.dsv_linear.specs.declared.point.Entry.{Entry}
use Rattle.dsv_linear.specs.declared.point.Estimate.{Estimate}
use Rattle.dsv_linear.specs.declared.point.Start.{Start}
use Rattle.dsv_linear.specs.declared.point.Point.{Point}
use Rattle.dsv_linear.specs.Forms.{◌>>=◌, range_scale, scaled_range, sums, differences, products, sum_of, difference_of, product_of, unit, form_range, with_symbol, without_symbol}
use Rattle.dsv_linear.specs.Known.{unknown, form_at, input_entry, rounded_in, rounded_at, ends_at, error_range, node_entry, node_interval, node_fact, fact_of, form_of, symbol_of, after_node}
use Rattle.dsv_linear.specs.Meaning.{Means, AreSymbols, Knows, Stand, grown}
use Rattle.dsv_linear.proofs.Numbers.{some_of, narrow_is, times_none}
use Rattle.dsv_linear.proofs.Meanings.{sums_mean, differences_mean, products_mean, means_grown, grown_before, symbols_grown, unit_means, input_lies}
use Rattle.dsv_linear.proofs.Roundings.{Enters, rounded_enters, form_ranges, both_are}
use Rattle.dsv_linear.proofs.Words.{fit_same, errors_lie, steps_are, step_positive, few_bits, fact_is_true}

-- there are a denominator and symbols, over which the words in the registers and the values so far
-- are those of their forms; the first so many symbols are 0
pub record Solution (count : ℕ) (registers : List Estimate) (words : List ℤ) (ranges : List Range) (estimates : List Estimate) (values : List ℤ) : Type 0 where
  pub k : ℤ
  pub us : ℕ → ℤ
  pub symbols : AreSymbols k us ranges
  pub few : count ≤ length ranges
  pub none : (j : ℕ) → j < count → us j ≡ pos 0
  pub loaded : Stand (length ranges) k us registers words
  pub stand : Stand (length ranges) k us estimates values

-- ---- forms that are known
form_means : (n : ℕ) (k : ℤ) (us : ℕ → ℤ) (o : Option (List ℤ)) (form : List ℤ) (v : ℤ) → o ≡ Some form → Knows n k us o v → Means n k us form v
form_means n k us None form v e h = absurd cc
form_means n k us (Some f) form v e h = let same : f ≡ form = cc in subst (λ (g : List ℤ). Means n k us g v) same h

nothing_there : (form : List ℤ) → None ≡ Some form → ⊥
nothing_there form e = absurd cc

in_list : (estimates : List Estimate) (i : ℕ) (form : List ℤ) → form_at estimates i ≡ Some form → i < length estimates
in_list estimates i form e = elim (cases_lt i (length estimates)) [
  | inl p ↦ p
  | inr p ↦ absurd (nothing_there form (ap (λ (x : Estimate). x.form) (sym (get_or_past estimates i unknown p)) ∙ e))
]

-- the value of a form that is known
pub stand_at : (n : ℕ) (k : ℤ) (us : ℕ → ℤ) (estimates : List Estimate) (values : List ℤ) (i : ℕ) (form : List ℤ) → form_at estimates i ≡ Some form
    → Stand n k us estimates values → Means n k us form (at values i)
stand_at n k us estimates values i form e s =
    let p = in_list estimates i form e in
    form_means n k us (form_at estimates i) form (at values i) e (s.each i (omega (arith, s.long)))

knows_grown : (n : ℕ) (k : ℤ) (us : ℕ → ℤ) (s u : ℤ) (form : Option (List ℤ)) (v : ℤ) → Knows n k us form v → Knows (suc n) (k *ℤ s) (grown s n us u) form v
knows_grown n k us s u None v h = h
knows_grown n k us s u (Some f) v h = means_grown n k us s u f v h

stand_grown : (n : ℕ) (k : ℤ) (us : ℕ → ℤ) (s u : ℤ) (estimates : List Estimate) (values : List ℤ) → Stand n k us estimates values → Stand (suc n) (k *ℤ s) (grown s n us u) estimates values
stand_grown n k us s u estimates values t = record { long = t.long; each = λ i p. knows_grown n k us s u (form_at estimates i) (at values i) (t.each i p) }

knows_same : (n : ℕ) (k : ℤ) (us : ℕ → ℤ) (a b : Estimate) (v w : ℤ) → b ≡ a → w ≡ v → Knows n k us a.form v → Knows n k us b.form w
knows_same n k us a b v w e g h =
    subst (λ (o : Estimate). Knows n k us o.form w) (sym e) (subst (λ (u : ℤ). Knows n k us a.form u) (sym g) h)

stand_push : (n : ℕ) (k : ℤ) (us : ℕ → ℤ) (estimates : List Estimate) (values : List ℤ) (e : Estimate) (v : ℤ) → Stand n k us estimates values → Knows n k us e.form v
    → Stand n k us (estimates ++ e ∷ []) (values ++ v ∷ [])
stand_push n k us estimates values e v s h = record {
  long = omega (arith, s.long, length_push estimates e, length_push values v);
  each = λ i p. elim (cases_lt i (length values)) [
    | inl q ↦ knows_same n k us (get_or estimates i unknown) (get_or (estimates ++ e ∷ []) i unknown) (at values i) (at (values ++ v ∷ []) i)
        (get_or_append_left estimates (e ∷ []) unknown i (omega (arith, s.long))) (get_or_append_left values (v ∷ []) (pos 0) i q) (s.each i q)
    | inr q ↦ (let g : length values ≡ i = omega (arith, length_push values v) in
        knows_same n k us e (get_or (estimates ++ e ∷ []) i unknown) v (at (values ++ v ∷ []) i) (get_or_push estimates e unknown i (s.long ∙ g)) (get_or_push values v (pos 0) i g) h)
  ];
}

-- ---- what a node gives
-- a value comes with no symbol
pub record Stays (k : ℤ) (us : ℕ → ℤ) (ranges : List Range) (entry : Entry) (v : ℤ) : Type 0 where
  pub symbol_is : entry.symbol ≡ None
  pub means : Means (length ranges) k us entry.form v

abbrev pub Gives : ℤ → (ℕ → ℤ) → List Range → Option Entry → ℤ → Type 0
Gives k us ranges None v = Unit {0}
Gives k us ranges (Some entry) v = Enters k us ranges entry v ⊎ Stays k us ranges entry v

stays : (k : ℤ) (us : ℕ → ℤ) (ranges : List Range) (form : Option (List ℤ)) (v : ℤ) → ((f : List ℤ) → form ≡ Some f → Means (length ranges) k us f v) → Gives k us ranges (without_symbol form) v
stays k us ranges None v h = tt
stays k us ranges (Some f) v h = inr (record { symbol_is = refl; means = h f refl })

enters : (k : ℤ) (us : ℕ → ℤ) (ranges : List Range) (entry : Option Entry) (v : ℤ) → ((e : Entry) → entry ≡ Some e → Enters k us ranges e v) → Gives k us ranges entry v
enters k us ranges None v h = tt
enters k us ranges (Some e) v h = inl (h e refl)

input_enters : (k : ℤ) (us : ℕ → ℤ) (ranges : List Range) (input : Range) (entry : Entry) (x : ℤ) → AreSymbols k us ranges → Between input.low input.high x
    → input_entry input (length ranges) ≡ Some entry → Enters k us ranges entry x
input_enters k us ranges input entry x a b e =
    let n = length ranges in
    let first = some_of (scaled_range input) (λ symbol. with_symbol (unit n) symbol) entry e in
    let ends = both_are (narrow_of (pos range_scale *ℤ input.low)) (narrow_of (pos range_scale *ℤ input.high)) first.0 first.1 in
    let made : Some (record { form = unit n; symbol = Some first.0 }) ≡ Some entry = first.2 in
    let same : entry ≡ record { form = unit n; symbol = Some first.0 } = cc in
    let low = narrow_is (pos range_scale *ℤ input.low) first.0.low ends.low_is in
    let high = narrow_is (pos range_scale *ℤ input.high) first.0.high ends.high_is in
    let lies = input_lies k input.low input.high x a.positive b.least b.most in
    record {
      growth = pos 1;
      value = k *ℤ x;
      symbol = first.0;
      positive = omega (arith, ints);
      symbol_is = ap (λ y. y.symbol) same;
      lies = record { least = rw low lies.least; most = rw high lies.most };
      means = subst (λ (f : List ℤ). Means (suc n) (k *ℤ pos 1) (grown (pos 1) n us (k *ℤ x)) f x) (ap (λ y. y.form) (sym same)) (unit_means n k us x);
    }

pub gives : {count : ℕ} (start : Start) (words : List ℤ) (x : ℤ) (point : Point) (values : List ℤ) (node : Node) (s : Solution count start.registers words point.ranges point.estimates values)
    → Between start.input.low start.input.high x → All (IsWord start.format) (node_exact values node)
    → Gives s.k s.us point.ranges (node_entry start point node) (node_value start.format words x values node)
gives start words x point values Input s b a =
    enters s.k s.us point.ranges (input_entry start.input (length point.ranges)) x (λ e h. input_enters s.k s.us point.ranges start.input e x s.symbols b h)
gives start words x point values (Reg r) s b a =
    stays s.k s.us point.ranges (form_at start.registers r) (at words r) (λ f h. stand_at (length point.ranges) s.k s.us start.registers words r f h s.loaded)
gives start words x point values (MulConst c i) s b a =
    stays s.k s.us point.ranges (product_of c (form_at point.estimates i)) (c *ℤ at values i) (λ f h.
    let o = some_of (form_at point.estimates i) (λ form. products c form) f h in
    products_mean (length point.ranges) s.k s.us c o.0 f (at values i) o.2 (stand_at (length point.ranges) s.k s.us point.estimates values i o.0 o.1 s.stand))
gives start words x point values (Round i) s b a =
    let f = start.format.frac_bits in
    let r = start.format.rounding in
    let v = at values i in
    enters s.k s.us point.ranges (rounded_at start.format point i) (whole_shift r f v) (λ e h.
    let o = some_of (form_at point.estimates i) (λ form. rounded_in start.format point.ranges form) e h in
    rounded_enters (2 ^ f) (error_range r f) s.k s.us point.ranges o.0 e v (whole_shift r f v) (pow_pos f) (steps_are f (few_bits start.format)) (step_positive f (few_bits start.format))
    o.2 s.symbols (stand_at (length point.ranges) s.k s.us point.estimates values i o.0 o.1 s.stand) (errors_lie r f v))
gives start words x point values (Add i j) s b a =
    stays s.k s.us point.ranges (sum_of (form_at point.estimates i) (form_at point.estimates j)) (at values i +ℤ at values j) (λ f h.
    let o = some_of (form_at point.estimates i) (λ first. form_at point.estimates j >>= λ second. sums first second) f h in
    let p = some_of (form_at point.estimates j) (λ second. sums o.0 second) f o.2 in
    sums_mean (length point.ranges) s.k s.us o.0 p.0 f (at values i) (at values j) p.2
    (stand_at (length point.ranges) s.k s.us point.estimates values i o.0 o.1 s.stand) (stand_at (length point.ranges) s.k s.us point.estimates values j p.0 p.1 s.stand))
gives start words x point values (Sub i j) s b a =
    stays s.k s.us point.ranges (difference_of (form_at point.estimates i) (form_at point.estimates j)) (at values i -ℤ at values j) (λ f h.
    let o = some_of (form_at point.estimates i) (λ first. form_at point.estimates j >>= λ second. differences first second) f h in
    let p = some_of (form_at point.estimates j) (λ second. differences o.0 second) f o.2 in
    differences_mean (length point.ranges) s.k s.us o.0 p.0 f (at values i) (at values j) p.2
    (stand_at (length point.ranges) s.k s.us point.estimates values i o.0 o.1 s.stand) (stand_at (length point.ranges) s.k s.us point.estimates values j p.0 p.1 s.stand))
gives start words x point values (Fit i) s b a =
    rw (fit_same start.format (at values i) (All-head (IsWord start.format) (at values i) [] a))
    (stays s.k s.us point.ranges (form_at point.estimates i) (at values i) (λ f h. stand_at (length point.ranges) s.k s.us point.estimates values i f h s.stand))
gives start words x point values (Scale i) s b a =
    let c = pos (2 ^ start.format.frac_bits) in
    stays s.k s.us point.ranges (product_of c (form_at point.estimates i)) (c *ℤ at values i) (λ f h.
    let o = some_of (form_at point.estimates i) (λ form. products c form) f h in
    products_mean (length point.ranges) s.k s.us c o.0 f (at values i) o.2 (stand_at (length point.ranges) s.k s.us point.estimates values i o.0 o.1 s.stand))

-- ---- one node more
solution_none : {count : ℕ} (registers : List Estimate) (words : List ℤ) (ranges : List Range) (estimates : List Estimate) (values : List ℤ) (e : Estimate) (v : ℤ)
    (s : Solution count registers words ranges estimates values) → Knows (length ranges) s.k s.us e.form v
    → Solution count registers words (ranges ++ []) (estimates ++ e ∷ []) (values ++ v ∷ [])
solution_none {count} registers words ranges estimates values e v s h =
    subst (λ (rs : List Range). Solution count registers words rs (estimates ++ e ∷ []) (values ++ v ∷ [])) (sym (append-nil ranges))
    (record { k = s.k; us = s.us; symbols = s.symbols; few = s.few; none = s.none; loaded = s.loaded; stand = stand_push (length ranges) s.k s.us estimates values e v s.stand h })

solution_some : {count : ℕ} (registers : List Estimate) (words : List ℤ) (ranges : List Range) (estimates : List Estimate) (values : List ℤ) (e : Estimate) (v : ℤ) (entry : Entry)
    (s : Solution count registers words ranges estimates values) → e.form ≡ Some entry.form → Enters s.k s.us ranges entry v
    → Solution count registers words (ranges ++ option_to_list entry.symbol) (estimates ++ e ∷ []) (values ++ v ∷ [])
solution_some {count} registers words ranges estimates values e v entry s p t =
    let n = length ranges in
    let more = ranges ++ t.symbol ∷ [] in
    let k = s.k *ℤ t.growth in
    let us = grown t.growth n s.us t.value in
    let long : suc n ≡ length more = omega (arith, length_push ranges t.symbol) in
    let here : Knows (suc n) k us e.form v = subst (λ (o : Option (List ℤ)). Knows (suc n) k us o v) (sym p) t.means in
    let stand = stand_push (suc n) k us estimates values e v (stand_grown n s.k s.us t.growth t.value estimates values s.stand) here in
    let loaded = stand_grown n s.k s.us t.growth t.value registers words s.loaded in
    subst (λ (o : Option Range). Solution count registers words (ranges ++ option_to_list o) (estimates ++ e ∷ []) (values ++ v ∷ [])) (sym t.symbol_is) (record {
      k = k;
      us = us;
      symbols = symbols_grown s.k s.us ranges t.growth t.value t.symbol t.positive s.symbols t.lies;
      few = let few = s.few in omega (arith, few, long);
      none = λ j p. let few = s.few in grown_before t.growth n s.us t.value j (omega (arith, few)) ∙ ap (λ u. t.growth *ℤ u) (s.none j p) ∙ times_none t.growth;
      loaded = subst (λ (m : ℕ). Stand m k us registers words) long loaded;
      stand = subst (λ (m : ℕ). Stand m k us (estimates ++ e ∷ []) (values ++ v ∷ [])) long stand;
    })

-- after a node what was known is known, and its value too
pub solution_more : {count : ℕ} (registers : List Estimate) (words : List ℤ) (ranges : List Range) (estimates : List Estimate) (values : List ℤ) (entry : Option Entry) (interval : Option Range) (v : ℤ)
    (s : Solution count registers words ranges estimates values) → Gives s.k s.us ranges entry v
    → Solution count registers words (ranges ++ option_to_list (symbol_of entry)) (estimates ++ (record { form = form_of entry; interval = interval }) ∷ []) (values ++ v ∷ [])
solution_more {count} registers words ranges estimates values None interval v s g =
    solution_none registers words ranges estimates values (record { form = None; interval = interval }) v s tt
solution_more {count} registers words ranges estimates values (Some entry) interval v s g = elim g [
  | inl t ↦ solution_some registers words ranges estimates values (record { form = Some entry.form; interval = interval }) v entry s refl t
  | inr t ↦ subst (λ (o : Option Range). Solution count registers words (ranges ++ option_to_list o) (estimates ++ (record { form = Some entry.form; interval = interval }) ∷ []) (values ++ v ∷ [])) (sym t.symbol_is)
      (solution_none registers words ranges estimates values (record { form = Some entry.form; interval = interval }) v s t.means)
]

-- ---- lists
pub all_front : {X : Type 0} (P : X → Type 0) (xs ys : List X) → All P (xs ++ ys) → All P xs
all_front P [] ys a = All-nil P
all_front P (x ∷ xs) ys a = All-cons P x xs (All-head P x (xs ++ ys) a) (all_front P xs ys (All-tail P x (xs ++ ys) a))

pub all_back : {X : Type 0} (P : X → Type 0) (xs ys : List X) → All P (xs ++ ys) → All P ys
all_back P [] ys a = a
all_back P (x ∷ xs) ys a = all_back P xs ys (All-tail P x (xs ++ ys) a)

-- ---- facts
-- a fact for each exact value, each true
pub record Holds (format : Format) (facts : List Fact) (exact : List ℤ) : Type 0 where
  pub long : length facts ≡ length exact
  pub each : Hold format facts exact

hold_push : (f : Format) (facts : List Fact) (exact : List ℤ) (known : Fact) (e : ℤ) → Holds f facts exact
    → (All (IsWord f) exact → HoldsOf f known e) → Holds f (facts ++ known ∷ []) (exact ++ e ∷ [])
hold_push f facts exact known e h k = record {
  long = omega (arith, h.long, length_push facts known, length_push exact e);
  each = λ m p. elim (cases_lt m (length exact)) [
    | inl q ↦ rw (get_or_append_left facts (known ∷ []) fact.Open m (omega (arith, h.long)), get_or_append_left exact (e ∷ []) (pos 0) m q, take-append-le m exact (e ∷ []) (omega arith)) (h.each m q)
    | inr q ↦ (let s : length exact ≡ m = omega (arith, length_push exact e) in
        rw (get_or_push facts known fact.Open m (h.long ∙ s), get_or_push exact e (pos 0) m s, ← s, take-append_seam exact (e ∷ [])) k)
  ];
}

hold_same : (f : Format) (facts : List Fact) (exact : List ℤ) → Holds f facts exact → Holds f (facts ++ []) (exact ++ [])
hold_same f facts exact h = rw (append-nil facts, append-nil exact) h

-- how far a sample has come: the facts hold, and if all exact values so far are words, then there
-- are a denominator and symbols
pub record Tracks (start : Start) (words : List ℤ) (point : Point) (sample : Sample) : Type 0 where
  pub hold : Holds start.format point.facts sample.exact
  pub solved : All (IsWord start.format) sample.exact → Solution 0 start.registers words point.ranges point.estimates sample.values

hold_more : (start : Start) (words : List ℤ) (point : Point) (sample : Sample) (node : Node) → Tracks start words point sample
    → Holds start.format (point.facts ++ option_to_list (node_fact start.format point node)) (sample.exact ++ node_exact sample.values node)
hold_more start words point sample Input t = hold_same start.format point.facts sample.exact t.hold
hold_more start words point sample (Reg r) t = hold_same start.format point.facts sample.exact t.hold
hold_more start words point sample (MulConst c i) t = hold_same start.format point.facts sample.exact t.hold
hold_more start words point sample (Round i) t = hold_same start.format point.facts sample.exact t.hold
hold_more start words point sample (Add i j) t = hold_same start.format point.facts sample.exact t.hold
hold_more start words point sample (Sub i j) t = hold_same start.format point.facts sample.exact t.hold
hold_more start words point sample (Fit i) t =
    let interval = (get_or point.estimates i unknown).interval in
    hold_push start.format point.facts sample.exact (fact_of start.format (ends_at point i) interval) (at sample.values i) t.hold (λ a.
    let s = t.solved a in
    fact_is_true start.format (ends_at point i) interval (at sample.values i) (λ r e.
    let o = some_of (form_at point.estimates i) (λ form. form_range point.ranges form) r e in
    form_ranges s.k s.us point.ranges o.0 (at sample.values i) r s.symbols (stand_at (length point.ranges) s.k s.us point.estimates sample.values i o.0 o.1 s.stand) o.2))
hold_more start words point sample (Scale i) t = hold_same start.format point.facts sample.exact t.hold

pub tracks_more : (start : Start) (words : List ℤ) (x : ℤ) (point : Point) (sample : Sample) (node : Node) → Between start.input.low start.input.high x → Tracks start words point sample
    → Tracks start words (after_node start point node) (nodes.after_node start.format words x sample node)
tracks_more start words x point sample node b t = record {
  hold = hold_more start words point sample node t;
  solved = λ a.
      let s = t.solved (all_front (IsWord start.format) sample.exact (node_exact sample.values node) a) in
      solution_more start.registers words point.ranges point.estimates sample.values (node_entry start point node) (node_interval start point node) (node_value start.format words x sample.values node) s
      (gives start words x point sample.values node s b (all_back (IsWord start.format) sample.exact (node_exact sample.values node) a));
}
