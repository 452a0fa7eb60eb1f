-- What is known after samples, and the facts of a run.
use Rattle.std.proofs.Common.{◌≡◌, ℕ, ◌<◌, List, [], ◌∷◌, ◌++◌, length, get_or, map, replicate, refl, sym, subst, ap, ◌∙◌, arith}
use Rattle.std.specs.Prelude.{Option, Some, None, Result, Ok, Err, IfOk}
use Rattle.std.specs.List.{All}
use Rattle.std.proofs.Math.IntN.{ℤ, pos, ◌*ℤ◌}
use Rattle.std.proofs.lemmas.Int.{ints}
use Rattle.std.proofs.lemmas.List.{length-replicate, append-nil, append_assoc, get_or-map, length-map}
use Rattle.std.proofs.lemmas.List.Elements.{All-head, All-tail, All-nil, All-cons}
use lib.Signed.{◌≤ℤ◌}
use Rattle.dsv_base.specs.declared.NoMemory.{NoMemory}
use Rattle.dsv_word.specs.declared.format.Format.{Format}
use Rattle.dsv_word.specs.Words.{IsWord}
use Rattle.dsv_system.specs.Runs.{rows_from}
use Rattle.dsv_system.specs.Systems.{zeros, AreInRange}
use Rattle.dsv_netlist.specs.declared.node.Node.{Node}
use Rattle.dsv_netlist.specs.Nodes as nodes
use Rattle.dsv_netlist.specs.Nodes.{Net, Sample, at, node_value, node_exact, sample_from, sample_of, step_of}
use Rattle.dsv_linear.specs.Facts.{exact_values, AreFacts, Between, Hold}
use Rattle.dsv_linear.specs.declared.fact.Fact.{Fact}
use Rattle.dsv_linear.specs.declared.point.Estimate.{Estimate}
use Rattle.dsv_linear.specs.declared.point.Start.{Start}
use Rattle.dsv_linear.specs.declared.point.Point.{Point}
use Rattle.dsv_linear.specs.Forms.{scale}
use Rattle.dsv_linear.specs.Known.{unknown, form_at, estimate_at, after_node, point_from, fresh, after_sample, loaded, facts_from, zero_estimate, zero_start, no_point, facts_of}
use Rattle.dsv_linear.specs.Meaning.{Means, Knows, Stand}
use Rattle.dsv_linear.proofs.Numbers.{times_none}
use Rattle.dsv_linear.proofs.Meanings.{replicated}
use Rattle.dsv_linear.proofs.Points.{Solution, Holds, Tracks, tracks_more, stand_at}

-- ---- one sample
pub tracks_from : (start : Start) (words : List ℤ) (x : ℤ) (ns : List Node) (point : Point) (sample : Sample) → Between start.input.low start.input.high x → Tracks start words point sample
    → Tracks start words (point_from start ns point) (sample_from start.format words x ns sample)
tracks_from start words x [] point sample b t = t
tracks_from start words x (n ∷ ns) point sample b t =
    tracks_from start words x ns (after_node start point n) (nodes.after_node start.format words x sample n) b (tracks_more start words x point sample n b t)

-- exact values from before stay in front
abbrev pub behind : List ℤ → Sample → Sample
behind before sample = record { values = sample.values; exact = before ++ sample.exact }

pub sample_after : (f : Format) (words : List ℤ) (x : ℤ) (ns : List Node) (before : List ℤ) (sample : Sample)
    → sample_from f words x ns (behind before sample) ≡ behind before (sample_from f words x ns sample)
sample_after f words x [] before sample = refl
sample_after f words x (n ∷ ns) before sample =
    ap (λ (es : List ℤ). sample_from f words x ns (record { values = sample.values ++ node_value f words x sample.values n ∷ []; exact = es })) (append_assoc before sample.exact (node_exact sample.values n))
    ∙ sample_after f words x ns before (nodes.after_node f words x sample n)

-- ---- registers that are loaded
load_one : (n : ℕ) (k : ℤ) (us : ℕ → ℤ) (estimates : List Estimate) (values : List ℤ) (i : ℕ) (o : Option (List ℤ)) → form_at estimates i ≡ o → Stand n k us estimates values → Knows n k us o (at values i)
load_one n k us estimates values i None e s = tt
load_one n k us estimates values i (Some f) e s = stand_at n k us estimates values i f e s

pub load_stand : (n : ℕ) (k : ℤ) (us : ℕ → ℤ) (estimates : List Estimate) (values : List ℤ) (next : List ℕ) → Stand n k us estimates values
    → Stand n k us (map (estimate_at estimates) next) (map (at values) next)
load_stand n k us estimates values next s = record {
  long = length-map next (estimate_at estimates) ∙ sym (length-map next (at values));
  each = λ j p.
      let q : j < length next = subst (λ (m : ℕ). j < m) (length-map next (at values)) p in
      let i = get_or next j 0 in
      subst (λ (e : Estimate). Knows n k us e.form (at (map (at values) next) j)) (sym (get_or-map (estimate_at estimates) next j 0 unknown q))
      (subst (λ (v : ℤ). Knows n k us (form_at estimates i) v) (sym (get_or-map (at values) next j 0 (pos 0) q))
      (load_one n k us estimates values i (form_at estimates i) refl s));
}

pub none_stand : (n : ℕ) (k : ℤ) (us : ℕ → ℤ) → Stand n k us [] []
none_stand n k us = record { long = refl; each = λ i p. absurd (omega arith) }

-- ---- samples one after another
-- between samples: the words in the registers are those of their forms, if all exact values so far
-- are words
pub record Reaches (start : Start) (words : List ℤ) (point : Point) (exact : List ℤ) : Type 0 where
  pub hold : Holds start.format point.facts exact
  pub solved : All (IsWord start.format) exact → Solution 0 start.registers words point.ranges [] []

begun : (start : Start) (words : List ℤ) (point : Point) (exact : List ℤ) → Reaches start words point exact
    → Tracks start words (fresh point) (behind exact (record { values = []; exact = [] }))
begun start words point exact r = rw (append-nil exact) (record { hold = r.hold; solved = r.solved })

pub reaches_more : (net : Net) (start : Start) (words : List ℤ) (x : ℤ) (point : Point) (exact : List ℤ) → start.format ≡ net.format → Between start.input.low start.input.high x → Reaches start words point exact
    → Reaches (loaded net.next start (after_sample net start point)) (step_of net words x).past (after_sample net start point) (exact ++ (step_of net words x).exact)
reaches_more net start words x point exact e b r =
    let first : Sample = record { values = []; exact = [] } in
    let now = after_sample net start point in
    let t = tracks_from start words x net.nodes (fresh point) (behind exact first) b (begun start words point exact r) in
    let same : sample_from start.format words x net.nodes (behind exact first) ≡ behind exact (sample_of net.format words x net.nodes) =
    ap (λ (f : Format). sample_from f words x net.nodes (behind exact first)) e ∙ sample_after net.format words x net.nodes exact first in
    let u = subst (λ (m : Sample). Tracks start words now m) same t in
    record {
      hold = u.hold;
      solved = λ a.
          let s = u.solved a in
          let n = length now.ranges in
          record {
            k = s.k;
            us = s.us;
            symbols = s.symbols;
            few = s.few;
            none = s.none;
            loaded = load_stand n s.k s.us now.estimates (sample_of net.format words x net.nodes).values net.next s.stand;
            stand = none_stand n s.k s.us;
          };
    }

-- the facts after these samples hold
pub facts_hold : (net : Net) (xs : List ℤ) (start : Start) (words : List ℤ) (point : Point) (exact : List ℤ) → start.format ≡ net.format → All (Between start.input.low start.input.high) xs → Reaches start words point exact
    → Hold net.format (facts_from net (length xs) start point) (exact ++ exact_values (rows_from (step_of net) words xs))
facts_hold net [] start words point exact e a r =
    subst (λ (es : List ℤ). Hold net.format point.facts es) (sym (append-nil exact)) (subst (λ (f : Format). Hold f point.facts exact) e r.hold.each)
facts_hold net (x ∷ xs) start words point exact e a r =
    let In = Between start.input.low start.input.high in
    let now = after_sample net start point in
    let s = step_of net words x in
    subst (λ (es : List ℤ). Hold net.format (facts_from net (length xs) (loaded net.next start now) now) es) (append_assoc exact s.exact (exact_values (rows_from (step_of net) s.past xs)))
    (facts_hold net xs (loaded net.next start now) s.past now (exact ++ s.exact) e (All-tail In x xs a) (reaches_more net start words x point exact e (All-head In x xs a) r))

-- ---- runs from registers of zeros
pub all_between : (low high : ℤ) (xs : List ℤ) → AreInRange low high xs → All (Between low high) xs
all_between low high [] a = All-nil (Between low high)
all_between low high (x ∷ xs) a =
    let In = λ (y : ℤ). (low ≤ℤ y) × (y ≤ℤ high) in
    let h = All-head In x xs a in
    All-cons (Between low high) x xs (record { least = h.0; most = h.1 }) (all_between low high xs (All-tail In x xs a))

-- the form with no coefficient is 0
zero_means : (k : ℤ) (us : ℕ → ℤ) → Means 0 k us [] (pos 0)
zero_means k us = record { short = omega arith; exact = times_none (pos scale *ℤ k) }

zeros_stand : (m : ℕ) (k : ℤ) (us : ℕ → ℤ) → Stand 0 k us (replicate m zero_estimate) (zeros m)
zeros_stand m k us = record {
  long = length-replicate m zero_estimate ∙ sym (length-replicate m (pos 0));
  each = λ i p.
      let q : i < m = subst (λ (l : ℕ). i < l) (length-replicate m (pos 0)) p in
      subst (λ (e : Estimate). Knows 0 k us e.form (at (zeros m) i)) (sym (replicated m i zero_estimate unknown q))
      (subst (λ (v : ℤ). Means 0 k us [] v) (sym (replicated m i (pos 0) (pos 0) q)) (zero_means k us));
}

pub first_reaches : (net : Net) (low high : ℤ) → Reaches (zero_start net low high) (zeros (length net.next)) no_point []
first_reaches net low high = record {
  hold = record { long = refl; each = λ m p. absurd (omega arith) };
  solved = λ a. record {
    k = pos 1;
    us = λ j. pos 0;
    symbols = record { positive = omega (arith, ints); within = λ j p. absurd (omega arith) };
    few = omega arith;
    none = λ j p. refl;
    loaded = zeros_stand (length net.next) (pos 1) (λ j. pos 0);
    stand = none_stand 0 (pos 1) (λ j. pos 0);
  };
}

-- the facts of a run are facts
pub facts_are : (net : Net) (low high : ℤ) (samples : ℕ) → AreFacts net low high samples (facts_of net low high samples)
unfolding facts_of
facts_are net low high samples xs n r =
    subst (λ (m : ℕ). Hold net.format (facts_from net m (zero_start net low high) no_point) (exact_values (rows_from (step_of net) (zeros (length net.next)) xs))) n
    (facts_hold net xs (zero_start net low high) (zeros (length net.next)) no_point [] refl (all_between low high xs r) (first_reaches net low high))

-- ---- what the code gives
pub facts_made : (net : Net) (low high l h : ℤ) (samples : ℕ) (start : Start) (point : Point) (o : Result (List Fact) NoMemory) → start ≡ zero_start net l h → l ≡ low → h ≡ high → point ≡ no_point
    → IfOk o (λ facts. facts ≡ facts_from net samples start point) → IfOk o (λ facts. facts ≡ facts_of net low high samples)
unfolding facts_of
facts_made net low high l h samples start point (Err e) p q r s f = f
facts_made net low high l h samples start point (Ok facts) p q r s f = f ∙ rw (p, q, r, s) refl

pub made_hold : (net : Net) (low high : ℤ) (samples : ℕ) (o : Result (List Fact) NoMemory) → IfOk o (λ facts. facts ≡ facts_of net low high samples) → IfOk o (AreFacts net low high samples)
made_hold net low high samples (Err e) f = f
made_hold net low high samples (Ok facts) f = subst (AreFacts net low high samples) (sym f) (facts_are net low high samples)
