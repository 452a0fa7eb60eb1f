-- A walk over all nodes of a sample.
use Rattle.std.proofs.Common.{◌≡◌, ℕ, suc, ◌+◌, ◌<◌, ◌≤◌, true, false, List, [], ◌∷◌, ◌++◌, length, refl, sym, subst, ap, ◌∙◌, arith}
use Rattle.std.specs.Prelude.{Option, Some}
use Rattle.std.specs.List.{All}
use Rattle.std.proofs.Math.IntN.{ℤ, pos, ◌*ℤ◌}
use Rattle.std.proofs.lemmas.Int.{ints}
use lib.Signed.{◌<ℤ◌, ◌≤ℤ◌}
use Rattle.std.proofs.lemmas.List.{get_or_append_left, get_or_push, length_push, append-nil, append_assoc}
use Rattle.dsv_word.specs.declared.format.Format.{Format}
use Rattle.dsv_word.specs.Words.{IsWord}
use Rattle.dsv_netlist.specs.Nodes.{at}
use Rattle.dsv_network.specs.declared.signal.Signal.{Signal}
use Rattle.dsv_network.specs.declared.signal.Signal.TheVariants.{Outer, Register, Product, Sum, Difference, Near, Checked, Shown}
use Rattle.dsv_linear.specs.Facts.{Between}
use Rattle.dsv_linear.specs.declared.range.Range.{Range}
use Rattle.dsv_linear.specs.Forms.{◌>>=◌, range_at}
use Rattle.dsv_linear.specs.Meaning.{LiesIn}
use Rattle.dsv_linear.proofs.Numbers.{some_of}
use Rattle.dsv_linear.proofs.Points.{all_front, all_back}
use Rattle.dsv_network.specs.declared.ends.Ends.TheVariants as shown
use Rattle.dsv_network.specs.declared.weights.Weights.{Weights}
use Rattle.dsv_network.specs.declared.pass.Pass.{Pass}
use Rattle.dsv_network.specs.declared.walk.Walk.{Walk}
use Rattle.dsv_network.specs.Samples.{no_weights, weights_at, own_after, after_node, walk_from, value_range, value_ends, node_ends, with_ends, shown_by, then_ends, ends_from}
use Rattle.dsv_network.specs.Runs.{Fits, IsGiven, AreGiven, node_shows, shown_in, LieOver}
use Rattle.dsv_network.proofs.Values.{lie_append, lie_fits, none_lie, value_is, parts_are}
use Rattle.dsv_network.proofs.Walks.{form_of, IsStep, step_is, weights_long, walk_or_is, coefficients, means_same}
use Rattle.dsv_network.proofs.Widening.{IsWider, wider_same, wider_further}
use Rattle.dsv_network.proofs.Solutions.{AreAges, AreWalks, Solution, after, AreMade, steps}
use Rattle.dsv_network.proofs.Nodes.{NodeSums, NodeTakes, Before, Next, new_weights, node_more, checked_lies, shown_lies}

-- ---- what is known of the nodes that are left
-- how many symbols they bring
abbrev pub symbols_in : List Signal → ℕ
symbols_in [] = 0
symbols_in (node ∷ nodes) = own_after 0 node + symbols_in nodes

-- their weights are sums over T samples, from that of this number on
abbrev pub AreSummed : ℕ → ℕ → ℕ → (ℕ → Pass) → (ℕ → Walk) → List Weights → ℕ → List Signal → Type 0
AreSummed n m T ps ws list i [] = Unit {0}
AreSummed n m T ps ws list i (node ∷ nodes) = NodeSums n m T ws (weights_at list i) node × AreSummed n m T ps (after ps ws node) list (suc i) nodes

-- the ranges of their symbols hold those of outer signals
abbrev pub AreTaken : List Range → ℕ → List Signal → Type 0
AreTaken rs own [] = Unit {0}
AreTaken rs own (node ∷ nodes) = NodeTakes (range_at rs own) node × AreTaken rs (own_after own node) nodes

takes_wider : (r s : Range) (node : Signal) → (s.low ≤ℤ r.low) × (r.high ≤ℤ s.high) → NodeTakes r node → NodeTakes s node
takes_wider r s (Outer o) w t = (let a = w.0 in let b = t.0 in omega (arith, ints, a, b), let a = w.1 in let b = t.1 in omega (arith, ints, a, b))
takes_wider r s (Register i) w t = tt
takes_wider r s (Product c i) w t = tt
takes_wider r s (Sum i j) w t = tt
takes_wider r s (Difference i j) w t = tt
takes_wider r s (Near near) w t = tt
takes_wider r s (Checked i) w t = tt
takes_wider r s (Shown i) w t = tt

pub taken_wider : (rs ss : List Range) (own : ℕ) (ns : List Signal) → IsWider rs ss → AreTaken rs own ns → AreTaken ss own ns
taken_wider rs ss own [] w t = tt
taken_wider rs ss own (n ∷ ns) w t = (takes_wider (range_at rs own) (range_at ss own) n (w own) t.0, taken_wider rs ss (own_after own n) ns w t.1)

pub own_sum : (own : ℕ) (node : Signal) → own_after own node ≡ own + own_after 0 node
own_sum own (Outer r) = omega arith
own_sum own (Register r) = omega arith
own_sum own (Product c i) = omega arith
own_sum own (Sum i j) = omega arith
own_sum own (Difference i j) = omega arith
own_sum own (Near near) = omega arith
own_sum own (Checked i) = omega arith
own_sum own (Shown i) = omega arith

pub record Midway (silent n m t own : ℕ) (f : Format) (over : ℤ) (ps : ℕ → Pass) (ws finals : ℕ → Walk) (words vs : List ℤ) (ns : List Signal) : Type 0 where
  pub ages : AreAges n m f t ps
  pub walks : AreWalks n own t ws vs
  pub solution : Solution silent n m t own over ps ws words vs
  pub is_over : pos 0 <ℤ over
  pub long : length (ws t).ranges ≡ m
  pub less : silent ≤ n
  pub room : own + symbols_in ns ≡ m
  pub takes : AreTaken (ws t).ranges own ns
  pub weighed : length (ws t).weights ≡ length vs
  pub sums : AreSummed n m t ps ws (ps t).weights (length vs) ns
  pub made : (a : ℕ) → a ≤ t → walk_from (ps a) ns (ws a) ≡ Some (finals a)

-- ---- one node
first_made : {silent n m t own : ℕ} {f : Format} {over : ℤ} {ps : ℕ → Pass} {ws finals : ℕ → Walk} {words vs : List ℤ} {node : Signal} {ns : List Signal} (d : Midway silent n m t own f over ps ws finals words vs (node ∷ ns)) → AreMade t ps ws node
first_made {silent} {n} {m} {t} {own} {f} {over} {ps} {ws} {finals} {words} {vs} {node} {ns} d a l =
    let one = some_of (after_node (ps a) (ws a) node) (walk_from (ps a) ns) (finals a) (d.made a l) in
    walk_or_is (ws a) (after_node (ps a) (ws a) node) one.0 one.1

rest_made : {silent n m t own : ℕ} {f : Format} {over : ℤ} {ps : ℕ → Pass} {ws finals : ℕ → Walk} {words vs : List ℤ} {node : Signal} {ns : List Signal} (d : Midway silent n m t own f over ps ws finals words vs (node ∷ ns)) (a : ℕ) → a ≤ t
    → walk_from (ps a) ns (after ps ws node a) ≡ Some (finals a)
rest_made {silent} {n} {m} {t} {own} {f} {over} {ps} {ws} {finals} {words} {vs} {node} {ns} d a l =
    sym (ap (λ (o : Option Walk). o >>= walk_from (ps a) ns) (first_made d a l)) ∙ d.made a l

before : {silent n m t own : ℕ} {f : Format} {over : ℤ} {ps : ℕ → Pass} {ws finals : ℕ → Walk} {words vs : List ℤ} {node : Signal} {ns : List Signal} (d : Midway silent n m t own f over ps ws finals words vs (node ∷ ns))
    → Before silent n m t own f over ps ws words vs node
before {silent} {n} {m} {t} {own} {f} {over} {ps} {ws} {finals} {words} {vs} {node} {ns} d = record {
  ages = d.ages;
  walks = d.walks;
  made = first_made d;
  solution = d.solution;
  is_over = d.is_over;
  long = d.long;
  less = d.less;
  room = let r = d.room in let o = own_sum own node in omega (arith, r, o);
  takes = d.takes.0;
  sums = subst (λ (i : ℕ). NodeSums n m t ws (weights_at (ps t).weights i) node) (sym (d.walks.long t (omega arith))) d.sums.0;
}

new_weight : (pass : Pass) (walk next : Walk) (n : Signal) (i : ℕ) (s : IsStep pass walk n next) → length walk.weights ≡ i → weights_at next.weights i ≡ s.weights
new_weight pass walk next n i s e = ap (λ (w : Walk). weights_at w.weights i) s.same ∙ get_or_push walk.weights s.weights no_weights i e

old_weight : (pass : Pass) (walk next : Walk) (n : Signal) (i : ℕ) → IsStep pass walk n next → i < length walk.weights → weights_at next.weights i ≡ weights_at walk.weights i
old_weight pass walk next n i s e = ap (λ (w : Walk). weights_at w.weights i) s.same ∙ get_or_append_left walk.weights (s.weights ∷ []) no_weights i e

-- weights stay as they are
weights_stay : (pass : Pass) (ns : List Signal) (walk final : Walk) (i : ℕ) → walk_from pass ns walk ≡ Some final → i < length walk.weights → weights_at final.weights i ≡ weights_at walk.weights i
weights_stay pass [] walk final i e l = let same : walk ≡ final = cc in ap (λ (w : Walk). weights_at w.weights i) (sym same)
weights_stay pass (n ∷ ns) walk final i e l =
    let one = some_of (after_node pass walk n) (walk_from pass ns) final e in
    let s = step_is pass walk n one.0 one.1 in
    let long = weights_long pass walk one.0 n s in
    weights_stay pass ns one.0 final i one.2 (omega (arith, l, long)) ∙ old_weight pass walk one.0 n i s l

further : {silent n m t own : ℕ} {f : Format} {over : ℤ} {ps : ℕ → Pass} {ws finals : ℕ → Walk} {words vs : List ℤ} {node : Signal} {ns : List Signal} (d : Midway silent n m t own f over ps ws finals words vs (node ∷ ns)) (v : ℤ)
    → Next silent n m t own over ps ws words vs v node (new_weights ps ws node (first_made d)) → Midway silent n m t (own_after own node) f over ps (after ps ws node) finals words (vs ++ v ∷ []) ns
further {silent} {n} {m} {t} {own} {f} {over} {ps} {ws} {finals} {words} {vs} {node} {ns} d v it =
    let push = length_push vs v in
    record {
      ages = d.ages;
      walks = it.walks;
      solution = it.solution;
      is_over = d.is_over;
      long = it.long;
      less = d.less;
      room = let r = d.room in let o = own_sum own node in omega (arith, r, o);
      takes = taken_wider (ws t).ranges (after ps ws node t).ranges (own_after own node) ns it.wider d.takes.1;
      weighed = let e = weights_long (ps t) (ws t) (after ps ws node t) node (steps t ps ws node (first_made d) t (omega arith)) in let w = d.weighed in omega (arith, e, w, push);
      sums = subst (λ (i : ℕ). AreSummed n m t ps (after ps ws node) (ps t).weights i ns) (let same : suc (length vs) ≡ length (vs ++ v ∷ []) = omega (arith, push) in same) d.sums.1;
      made = rest_made d;
    }

-- ---- all nodes
pub record Done (silent n m t : ℕ) (over : ℤ) (ps : ℕ → Pass) (ws finals : ℕ → Walk) (words vs values : List ℤ) (ns : List Signal) : Type 0 where
  pub own : ℕ
  pub walks : AreWalks n own t finals values
  pub solution : Solution silent n m t own over ps finals words values
  pub long : length (finals t).ranges ≡ m
  pub full : own ≡ m
  pub wider : IsWider (ws t).ranges (finals t).ranges
  pub sums : AreSummed n m (suc t) ps ws (finals t).weights (length vs) ns

walks_same : (n own t : ℕ) (ws ss : ℕ → Walk) (vs : List ℤ) → ((a : ℕ) → a ≤ t → ws a ≡ ss a) → AreWalks n own t ws vs → AreWalks n own t ss vs
walks_same n own t ws ss vs e w = record {
  long = λ a l. subst (λ (x : Walk). length x.forms ≡ length vs) (e a l) (w.long a l);
  own_is = λ a l. subst (λ (x : Walk). x.own ≡ own) (e a l) (w.own_is a l);
  few = w.few;
  none = λ i j l. subst (λ (x : Walk). at (form_of x.forms i) j ≡ pos 0) (e 0 (omega arith)) (w.none i j l);
}

solution_same : (silent n m t own : ℕ) (over : ℤ) (ps : ℕ → Pass) (ws ss : ℕ → Walk) (words vs : List ℤ) → ((a : ℕ) → a ≤ t → ws a ≡ ss a) → Solution silent n m t own over ps ws words vs → Solution silent n m t own over ps ss words vs
solution_same silent n m t own over ps ws ss words vs e s = record {
  k = s.k;
  base = s.base;
  us = s.us;
  positive = s.positive;
  whole = s.whole;
  above = s.above;
  none = s.none;
  past = s.past;
  start = λ j l. subst (λ (x : Walk). LiesIn s.base (range_at x.ranges j) (s.us t j)) (e t (omega arith)) (s.start j l);
  lies = λ a j l p q h. subst (λ (x : Walk). LiesIn s.base (range_at x.ranges j) (s.us a j)) (e t (omega arith)) (s.lies a j l p q h);
  many = s.many;
  loaded = s.loaded;
  stand = λ i l. means_same m t s.k s.us (coefficients (λ a. (ws a).forms) i) (coefficients (λ a. (ss a).forms) i) (at vs i) (λ a j p q. ap (λ (x : Walk). at (form_of x.forms i) j) (sym (e a (omega (arith, p))))) (s.stand i l);
}

one_more : (vs : List ℤ) (v : ℤ) (rest : List ℤ) → vs ++ v ∷ rest ≡ (vs ++ v ∷ []) ++ rest
one_more vs v rest = sym (append_assoc vs (v ∷ []) rest)

-- what the nodes that are left give, where fitting changes nothing
pub walked : {silent n m t own : ℕ} {f : Format} {over : ℤ} (ps : ℕ → Pass) (ws finals : ℕ → Walk) (words vs : List ℤ) (ns : List Signal) (rest : List ℤ) → Midway silent n m t own f over ps ws finals words vs ns
    → AreGiven f over words vs ns rest → All (Fits f over) (shown_in vs ns rest) → Done silent n m t over ps ws finals words vs (vs ++ rest) ns
unfolding first_made before
walked {silent} {n} {m} {t} {own} {f} {over} ps ws finals words vs [] (v ∷ rest) d h e = absurd h
walked {silent} {n} {m} {t} {own} {f} {over} ps ws finals words vs (node ∷ ns) [] d h e = absurd h
walked {silent} {n} {m} {t} {own} {f} {over} ps ws finals words vs [] [] d h e =
    let same : (a : ℕ) → a ≤ t → ws a ≡ finals a = λ a l. (let g = d.made a l in cc) in
    subst (λ (all : List ℤ). Done silent n m t over ps ws finals words vs all []) (sym (append-nil vs)) (record {
      own = own;
      walks = walks_same n own t ws finals vs same d.walks;
      solution = solution_same silent n m t own over ps ws finals words vs same d.solution;
      long = subst (λ (w : Walk). length w.ranges ≡ m) (same t (omega arith)) d.long;
      full = let r = d.room in omega (arith, r);
      wider = subst (λ (w : Walk). IsWider (ws t).ranges w.ranges) (same t (omega arith)) (wider_same (ws t).ranges);
      sums = tt;
    })
walked {silent} {n} {m} {t} {own} {f} {over} ps ws finals words vs (node ∷ ns) (v ∷ rest) d h e =
    let W = Fits f over in
    let now = vs ++ v ∷ [] in
    let it = node_more ps ws words vs node v (before d) h.0 (all_front W (node_shows vs node) (shown_in now ns rest) e) in
    let last = walked ps (after ps ws node) finals words now ns rest (further d v it) h.1 (all_back W (node_shows vs node) (shown_in now ns rest) e) in
    let s = steps t ps ws node (first_made d) t (omega arith) in
    let long = weights_long (ps t) (ws t) (after ps ws node t) node s in
    let weighed = d.weighed in
    let push = length_push vs v in
    let weight : weights_at (finals t).weights (length vs) ≡ s.weights =
    weights_stay (ps t) ns (after ps ws node t) (finals t) (length vs) (rest_made d t (omega arith)) (omega (arith, long, weighed)) ∙ new_weight (ps t) (ws t) (after ps ws node t) node (length vs) s weighed in
    subst (λ (all : List ℤ). Done silent n m t over ps ws finals words vs all (node ∷ ns)) (sym (one_more vs v rest)) (record {
      own = last.own;
      walks = last.walks;
      solution = last.solution;
      long = last.long;
      full = last.full;
      wider = wider_further (ws t).ranges (after ps ws node t).ranges (finals t).ranges it.wider last.wider;
      sums = (
        subst (λ (w : Weights). NodeSums n m (suc t) ws w node) (sym weight) it.sums,
        subst (λ (i : ℕ). AreSummed n m (suc t) ps (after ps ws node) (finals t).weights i ns) (let same : length now ≡ suc (length vs) = omega (arith, push) in same) last.sums,
      );
    })

-- ---- they lie in the ranges that are shown
some_ranges : (rs ss : List Range) → Some rs ≡ Some ss → ss ≡ rs
some_ranges rs ss e = cc

value_lies : (over : ℤ) (f : Format) (pass : Pass) (o : Option Range) (all : List Range) (v : ℤ) → pass.format ≡ f → value_ends pass.format o ≡ shown.Words all → ((ends : Range) → o ≡ Some ends → Between (over *ℤ ends.low) (over *ℤ ends.high) v)
    → LieOver over f all (v ∷ [])
value_lies over f pass o all v format e h =
    let is = value_is pass.format o all e in
    subst (λ (rs : List Range). LieOver over f rs (v ∷ [])) (sym is.alone)
    (record { low_word = subst (λ (h : Format). IsWord h is.ends.low) format is.low; high_word = subst (λ (h : Format). IsWord h is.ends.high) format is.high; between = h is.ends is.known }, tt)

-- a node that keeps the ranges
ranges_stay : (pass : Pass) (walk next : Walk) (n : Signal) (s : IsStep pass walk n next) → Some walk.ranges ≡ Some s.ranges → next.ranges ≡ walk.ranges
ranges_stay pass walk next n s e = ap (λ (w : Walk). w.ranges) s.same ∙ some_ranges walk.ranges s.ranges e

node_lies : {silent n m t own : ℕ} {f : Format} {over : ℤ} (ps : ℕ → Pass) (ws : ℕ → Walk) (words vs : List ℤ) (off : ℕ) (node : Signal) (w : ℤ) (all : List Range) (b : Before silent n m t own f over ps ws words vs node) → off ≤ silent → IsGiven f over words vs node w
    → node_ends off (ps t) (after ps ws node t).ranges (new_weights ps ws node b.made) node ≡ shown.Words all → LieOver over f all (node_shows vs node)
node_lies {f = f} {over = o} ps ws words vs off (Outer r) w all b l h e = none_lie o f all e
node_lies {f = f} {over = o} ps ws words vs off (Register r) w all b l h e = none_lie o f all e
node_lies {f = f} {over = o} ps ws words vs off (Product c i) w all b l h e = none_lie o f all e
node_lies {f = f} {over = o} ps ws words vs off (Sum i j) w all b l h e = none_lie o f all e
node_lies {f = f} {over = o} ps ws words vs off (Difference i j) w all b l h e = none_lie o f all e
node_lies {f = f} {over = o} ps ws words vs off (Near near) w all b l h e = none_lie o f all e
node_lies {silent} {n} {m} {t} {own} {f} {over} ps ws words vs off (Checked i) w all b l h e =
    let step = steps t ps ws (Checked i) b.made t (omega arith) in
    let next = after ps ws (Checked i) t in
    let weights = new_weights ps ws (Checked i) b.made in
    let kept = ranges_stay (ps t) (ws t) next (Checked i) step step.ranges_are in
    value_lies over f (ps t) (value_range true off next.ranges weights) all (at vs i) (b.ages.format t (omega arith)) e
    (λ ends known. checked_lies ps ws words vs i off w ends b l h (subst (λ (rs : List Range). value_range true off rs weights ≡ Some ends) kept known))
node_lies {silent} {n} {m} {t} {own} {f} {over} ps ws words vs off (Shown i) w all b l h e =
    let step = steps t ps ws (Shown i) b.made t (omega arith) in
    let next = after ps ws (Shown i) t in
    let weights = new_weights ps ws (Shown i) b.made in
    let kept = ranges_stay (ps t) (ws t) next (Shown i) step step.ranges_are in
    value_lies over f (ps t) (value_range false off next.ranges weights) all (at vs i) (b.ages.format t (omega arith)) e
    (λ ends known. shown_lies ps ws words vs i off ends b l (subst (λ (rs : List Range). value_range false off rs weights ≡ Some ends) kept known))

pub walk_lies : {silent n m t own : ℕ} {f : Format} {over : ℤ} (ps : ℕ → Pass) (ws finals : ℕ → Walk) (words vs : List ℤ) (off : ℕ) (ns : List Signal) (rest : List ℤ) (all : List Range) → Midway silent n m t own f over ps ws finals words vs ns → off ≤ silent
    → AreGiven f over words vs ns rest → ends_from off (ps t) ns (ws t) ≡ shown.Words all → LieOver over f all (shown_in vs ns rest)
unfolding first_made before
walk_lies ps ws finals words vs off [] (v ∷ rest) all d l h e = absurd h
walk_lies ps ws finals words vs off (node ∷ ns) [] all d l h e = absurd h
walk_lies {f = f} {over = o} ps ws finals words vs off [] [] all d l h e = none_lie o f all e
walk_lies {silent} {n} {m} {t} {own} {f} {over} ps ws finals words vs off (node ∷ ns) (v ∷ rest) all d l h e =
    let now = vs ++ v ∷ [] in
    let made = first_made d in
    let s = steps t ps ws node made t (omega arith) in
    let next = after ps ws node t in
    let both : with_ends (shown_by off (ps t) (length (ws t).weights) node next) (ends_from off (ps t) ns next) ≡ shown.Words all =
    sym (ap (λ (o : Option Walk). then_ends (shown.Leaves 0) (shown_by off (ps t) (length (ws t).weights) node) (ends_from off (ps t) ns) o) (made t (omega arith))) ∙ e in
    let p = parts_are (shown_by off (ps t) (length (ws t).weights) node next) (ends_from off (ps t) ns next) all both in
    let shows : node_ends off (ps t) next.ranges s.weights node ≡ shown.Words p.ranges =
    subst (λ (w : Weights). node_ends off (ps t) next.ranges w node ≡ shown.Words p.ranges) (new_weight (ps t) (ws t) next node (length (ws t).weights) s refl) p.here in
    let here = node_lies ps ws words vs off node v p.ranges (before d) l h.0 shows in
    let up : pos 0 ≤ℤ over = (let o = d.is_over in omega (arith, ints, o)) in
    let after_it = node_more ps ws words vs node v (before d) h.0 (lie_fits over f p.ranges (node_shows vs node) up here) in
    let there = walk_lies ps (after ps ws node) finals words now off ns rest p.more (further d v after_it) l h.1 p.there in
    subst (λ (rs : List Range). LieOver over f rs (shown_in vs (node ∷ ns) (v ∷ rest))) p.together
    (lie_append over f p.ranges p.more (node_shows vs node) (shown_in now ns rest) here there)
