-- Runs read no more of the past than the registers hold.
use Rattle.std.proofs.Common.{◌≡◌, ℕ, zero, suc, ◌+◌, ◌<◌, ◌≤◌, Bool, true, false, List, [], ◌∷◌, ◌++◌, length, take, drop, map, get_or, refl, sym, ap, ◌∙◌, arith, add-one, append_assoc}
use Rattle.std.proofs.Math.IntN.{ℤ, pos}
use Rattle.std.proofs.lemmas.List.{drop_more, get_or-take, take-take, take_all, take_at, drop_at, take-append-drop, length-take-le, length-drop, length_push, map_push}
use Rattle.dsv_names.specs.declared.realisation.Realisation.{Realisation}
use Rattle.dsv_names.specs.declared.realisation.Realisation.TheVariants.{Dfi, Dfii, Tdfii, Ddfi, Ddfii, Tddfii}
use Rattle.dsv_quantiser.specs.QuantisedView.{QuantisedView}
use Rattle.dsv_system.specs.declared.rows.Row.{Row}
use Rattle.dsv_meaning.specs.declared.summands.Summand.{Summand}
use Rattle.dsv_meaning.specs.declared.summands.Summand.TheVariants.{Times, Alone}
use Rattle.dsv_meaning.specs.Lines.{Sum, summands}
use Rattle.dsv_system.specs.Runs.{Sampled, SampleRow, row_at, rows_from, past_after}
use Rattle.dsv_system.specs.RowViews.{row_of}
use Rattle.dsv_meaning.specs.Equations.{Past, line_of, order, feedback, ago, latest, Chain, chain_with, forward_summands, feedback_summands, delta_line, delta_chain, no_words, sample_as, sample, start_as, registers_as, registers_of}
use Rattle.dsv_meaning.specs.Stepping.{step_as}

-- ---- what a sample reads
-- summands read the first words alone
summands_take : (away : Bool) (cs ws : List ℤ) (k m : ℕ) → k + length cs ≤ m → summands away cs (ago (take m ws)) k ≡ summands away cs (ago ws) k
summands_take away [] ws k m h = refl
summands_take away (c ∷ cs) ws k m h =
    ap (λ w. Times away c w ∷ summands away cs (ago (take m ws)) (k + 1)) (get_or-take m ws k (pos 0) (omega arith))
    ∙ ap (λ ts. Times away c (ago ws k) ∷ ts) (summands_take away cs ws (k + 1) m (omega arith))

-- so words that begin alike make the same summands
same_summands : (away : Bool) (cs vs ws : List ℤ) → take (length cs) vs ≡ take (length cs) ws → summands away cs (ago vs) 0 ≡ summands away cs (ago ws) 0
same_summands away cs vs ws e =
    sym (summands_take away cs vs 0 (length cs) (omega arith)) ∙ ap (λ l. summands away cs (ago l) 0) e ∙ summands_take away cs ws 0 (length cs) (omega arith)

-- the same word before words that begin alike
prefix_same : (n : ℕ) (w : ℤ) (us vs : List ℤ) → take n us ≡ take n vs → take n (w ∷ us) ≡ take n (w ∷ vs)
prefix_same zero w us vs e = refl
prefix_same (suc n) w us vs e =
    ap (λ l. w ∷ l) (sym (take-take n (suc n) us (omega arith)) ∙ ap (take n) e ∙ take-take n (suc n) vs (omega arith))

same_forward : (q : QuantisedView) (w : ℤ) (us vs : List ℤ) → length q.b ≡ order q + 1 → take (order q) us ≡ take (order q) vs
    → forward_summands q (ago (w ∷ us)) ≡ forward_summands q (ago (w ∷ vs))
same_forward q w us vs h e =
    let one_more : length q.b ≡ suc (order q) = h ∙ add-one (order q) in
    same_summands false q.b (w ∷ us) (w ∷ vs) (ap (λ n. take n (w ∷ us)) one_more ∙ ap (λ l. w ∷ l) e ∙ ap (λ n. take n (w ∷ vs)) (sym one_more))

same_feedback : (q : QuantisedView) (us vs : List ℤ) → take (order q) us ≡ take (order q) vs → feedback_summands q (ago us) 0 ≡ feedback_summands q (ago vs) 0
same_feedback q us vs e =
    let n = length-drop 1 q.a in
    same_summands true (feedback q) us vs (ap (λ m. take m us) n ∙ e ∙ ap (λ m. take m vs) (sym n))

-- ---- pasts that a sample can't tell apart
pub record Alike (n : ℕ) (p s : Past) : Type 0 where
  pub signal : take n p.signal ≡ take n s.signal
  pub outputs : take n p.outputs ≡ take n s.outputs
  pub chain : latest p.chain ≡ latest s.chain
  pub output_chain : latest p.output_chain ≡ latest s.output_chain

-- samples that give the same and leave such pasts
pub record AlikeSamples (n : ℕ) (s t : Sampled Past) : Type 0 where
  pub y : s.y ≡ t.y
  pub exact : s.exact ≡ t.exact
  pub past : Alike n s.past t.past

-- a past with these chains alone
abbrev chains : List ℤ → List ℤ → Past
chains u v = record { signal = []; outputs = []; chain = u ∷ []; output_chain = v ∷ [] }

alike_samples : (k : Realisation) (q : QuantisedView) (p s : Past) (x : ℤ) → length q.b ≡ order q + 1 → Alike (order q) p s → AlikeSamples (order q) (sample_as k q p x) (sample_as k q s x)
alike_samples Dfi q p s x m h =
    let n = order q in
    let of : List (Summand ℤ) → List (Summand ℤ) → Sum = λ (ts us : List (Summand ℤ)). line_of q [] (ts ++ us) in
    let f = same_forward q x p.signal s.signal m h.signal in
    let b = same_feedback q p.outputs s.outputs h.outputs in
    let e : of (forward_summands q (ago (x ∷ p.signal))) (feedback_summands q (ago p.outputs) 0) ≡ of (forward_summands q (ago (x ∷ s.signal))) (feedback_summands q (ago s.outputs) 0) =
    ap (λ ts. of ts (feedback_summands q (ago p.outputs) 0)) f ∙ ap (of (forward_summands q (ago (x ∷ s.signal)))) b in
    record {
      y = ap (λ (t : Sum). t.value) e;
      exact = ap (λ (t : Sum). t.exact) e;
      past = record {
        signal = prefix_same n x p.signal s.signal h.signal;
        outputs = ap (λ (t : Sum). take n (t.value ∷ p.outputs)) e ∙ prefix_same n (of (forward_summands q (ago (x ∷ s.signal))) (feedback_summands q (ago s.outputs) 0)).value p.outputs s.outputs h.outputs;
        chain = h.chain;
        output_chain = h.output_chain;
      };
    }
alike_samples Dfii q p s x m h =
    let n = order q in
    let of : List (Summand ℤ) → Sum = λ (ts : List (Summand ℤ)). line_of q [] (Alone x ∷ ts) in
    let w = of (feedback_summands q (ago s.signal) 0) in
    let e : of (feedback_summands q (ago p.signal) 0) ≡ w = ap of (same_feedback q p.signal s.signal h.signal) in
    let g : line_of q (of (feedback_summands q (ago p.signal) 0)).exact (forward_summands q (ago ((of (feedback_summands q (ago p.signal) 0)).value ∷ p.signal)))
    ≡ line_of q w.exact (forward_summands q (ago (w.value ∷ s.signal))) =
    ap (λ (t : Sum). line_of q t.exact (forward_summands q (ago (t.value ∷ p.signal)))) e
    ∙ ap (line_of q w.exact) (same_forward q w.value p.signal s.signal m h.signal) in
    record {
      y = ap (λ (t : Sum). t.value) g;
      exact = ap (λ (t : Sum). t.exact) g;
      past = record {
        signal = ap (λ (t : Sum). take n (t.value ∷ p.signal)) e ∙ prefix_same n w.value p.signal s.signal h.signal;
        outputs = h.outputs;
        chain = h.chain;
        output_chain = h.output_chain;
      };
    }
alike_samples Tdfii q p s x m h = record {
  y = ap (λ u. (sample_as Tdfii q (chains u []) x).y) h.chain;
  exact = ap (λ u. (sample_as Tdfii q (chains u []) x).exact) h.chain;
  past = record { signal = h.signal; outputs = h.outputs; chain = ap (λ u. latest (sample_as Tdfii q (chains u []) x).past.chain) h.chain; output_chain = h.output_chain };
}
alike_samples Ddfi q p s x m h =
    let of : List ℤ → List ℤ → Sampled Past = λ (u v : List ℤ). sample_as Ddfi q (chains u v) x in
    let e : of (latest p.chain) (latest p.output_chain) ≡ of (latest s.chain) (latest s.output_chain) =
    ap (λ u. of u (latest p.output_chain)) h.chain ∙ ap (of (latest s.chain)) h.output_chain in
    record {
      y = ap (λ (t : Sampled Past). t.y) e;
      exact = ap (λ (t : Sampled Past). t.exact) e;
      past = record {
        signal = h.signal;
        outputs = h.outputs;
        chain = ap (λ (t : Sampled Past). latest t.past.chain) e;
        output_chain = ap (λ (t : Sampled Past). latest t.past.output_chain) e;
      };
    }
alike_samples Ddfii q p s x m h = record {
  y = ap (λ u. (sample_as Ddfii q (chains u []) x).y) h.chain;
  exact = ap (λ u. (sample_as Ddfii q (chains u []) x).exact) h.chain;
  past = record { signal = h.signal; outputs = h.outputs; chain = ap (λ u. latest (sample_as Ddfii q (chains u []) x).past.chain) h.chain; output_chain = h.output_chain };
}
alike_samples Tddfii q p s x m h = record {
  y = ap (λ u. (sample_as Tddfii q (chains u []) x).y) h.chain;
  exact = ap (λ u. (sample_as Tddfii q (chains u []) x).exact) h.chain;
  past = record { signal = h.signal; outputs = h.outputs; chain = ap (λ u. latest (sample_as Tddfii q (chains u []) x).past.chain) h.chain; output_chain = h.output_chain };
}

alike_rows : (k : Realisation) (q : QuantisedView) (p s : Past) (xs : List ℤ) → length q.b ≡ order q + 1 → Alike (order q) p s → rows_from (sample_as k q) p xs ≡ rows_from (sample_as k q) s xs
alike_rows k q p s [] m h = refl
alike_rows k q p s (x ∷ xs) m h =
    let a = alike_samples k q p s x m h in
    ap (λ y. record { x = x; y = y; exact = (sample_as k q p x).exact } ∷ rows_from (sample_as k q) (sample_as k q p x).past xs) a.y
    ∙ ap (λ e. record { x = x; y = (sample_as k q s x).y; exact = e } ∷ rows_from (sample_as k q) (sample_as k q p x).past xs) a.exact
    ∙ ap (λ (rs : List SampleRow). record { x = x; y = (sample_as k q s x).y; exact = (sample_as k q s x).exact } ∷ rs)
    (alike_rows k q (sample_as k q p x).past (sample_as k q s x).past xs m a.past)

-- such pasts have the same registers
registers_alike : (k : Realisation) (n : ℕ) (p s : Past) → Alike n p s → registers_as k n p ≡ registers_as k n s
registers_alike Dfi n p s h = ap (λ l. l ++ take n p.outputs) h.signal ∙ ap (λ l. take n s.signal ++ l) h.outputs
registers_alike Dfii n p s h = h.signal
registers_alike Tdfii n p s h = h.chain
registers_alike Ddfi n p s h = ap (λ l. l ++ latest p.output_chain) h.chain ∙ ap (λ l. latest s.chain ++ l) h.output_chain
registers_alike Ddfii n p s h = h.chain
registers_alike Tddfii n p s h = h.chain

alike_registers : (k : Realisation) (q : QuantisedView) (p s : Past) (xs : List ℤ) → length q.b ≡ order q + 1 → Alike (order q) p s
    → registers_as k (order q) (past_after (sample_as k q) p xs) ≡ registers_as k (order q) (past_after (sample_as k q) s xs)
alike_registers k q p s [] m h = registers_alike k (order q) p s h
alike_registers k q p s (x ∷ xs) m h = alike_registers k q (sample_as k q p x).past (sample_as k q s x).past xs m (alike_samples k q p s x m h).past

-- ---- a past begun anew from its registers
delta_chain-length : (q : QuantisedView) (before : ℤ) (ws : List ℤ) (c : Chain) → length (delta_chain q before ws c).words ≡ length c.words + length ws
delta_chain-length q before [] c = omega arith
delta_chain-length q before (w ∷ ws) c =
    let s = line_of q c.exact (delta_line q w before) in
    omega (arith, delta_chain-length q w ws (chain_with c s), length_push c.words s.value)

two_lines : (n : ℕ) (us vs : List ℤ) → n ≤ length us
    → Alike n (record { signal = us; outputs = vs; chain = []; output_chain = [] }) (start_as Dfi n (take n us ++ take n vs))
two_lines n us vs h =
    let m = length-take-le n us h in
    record {
      signal = sym (take-take n n (take n us ++ take n vs) (omega arith) ∙ take_at (take n us) (take n vs) n m);
      outputs = sym (ap (take n) (drop_at (take n us) (take n vs) n m) ∙ take-take n n vs (omega arith));
      chain = refl;
      output_chain = refl;
    }

begun_anew : (k : Realisation) (q : QuantisedView) (r : List ℤ) (x : ℤ) → length r ≡ registers_of k (order q)
    → Alike (order q) (sample_as k q (start_as k (order q) r) x).past (start_as k (order q) (registers_as k (order q) (sample_as k q (start_as k (order q) r) x).past))
begun_anew Dfi q r x h =
    let p = (sample_as Dfi q (start_as Dfi (order q) r) x).past in
    let m = length-take-le (order q) r (omega arith) in
    two_lines (order q) p.signal p.outputs (omega arith)
begun_anew Dfii q r x h =
    let p = (sample_as Dfii q (start_as Dfii (order q) r) x).past in
    record { signal = sym (take-take (order q) (order q) p.signal (omega arith)); outputs = refl; chain = refl; output_chain = refl }
begun_anew Tdfii q r x h = record { signal = refl; outputs = refl; chain = refl; output_chain = refl }
begun_anew Ddfi q r x h =
    let n = order q in
    let p = (sample_as Ddfi q (start_as Ddfi n r) x).past in
    let u = latest p.chain in
    let v = latest p.output_chain in
    let m = length-take-le n r (omega arith) in
    let y = line_of q [] (forward_summands q (ago (x ∷ take n r)) ++ feedback_summands q (ago (drop n r)) 0) in
    let long : length u ≡ n = omega (arith, delta_chain-length q x (take n r) (no_words y.exact)) in
    record { signal = refl; outputs = refl; chain = sym (take_at u v n long); output_chain = sym (drop_at u v n long) }
begun_anew Ddfii q r x h = record { signal = refl; outputs = refl; chain = refl; output_chain = refl }
begun_anew Tddfii q r x h = record { signal = refl; outputs = refl; chain = refl; output_chain = refl }

-- a start has its words in the registers
pub start_registers : (k : Realisation) (n : ℕ) (start : List ℤ) → length start ≡ registers_of k n → registers_as k n (start_as k n start) ≡ start
start_registers Dfi n start l =
    ap (λ h. h ++ take n (drop n start)) (take-take n n start (omega arith))
    ∙ ap (λ h. take n start ++ h) (take_all n (drop n start) (omega (arith, length-drop n start)))
    ∙ take-append-drop n start
start_registers Dfii n start l = take_all n start (omega arith)
start_registers Tdfii n start l = refl
start_registers Ddfi n start l = take-append-drop n start
start_registers Ddfii n start l = refl
start_registers Tddfii n start l = refl

-- the registers at the end of a run, one sample more
pub next_registers : (k : Realisation) (q : QuantisedView) (r new : List ℤ) (x : ℤ) (xs : List ℤ) → length q.b ≡ order q + 1 → length r ≡ registers_of k (order q) → new ≡ (step_as k q r x).past
    → registers_as k (order q) (past_after (sample_as k q) (start_as k (order q) r) (x ∷ xs)) ≡ registers_as k (order q) (past_after (sample_as k q) (start_as k (order q) new) xs)
unfolding step_as
next_registers k q r new x xs m h g =
    let p = (sample_as k q (start_as k (order q) r) x).past in
    alike_registers k q p (start_as k (order q) (registers_as k (order q) p)) xs m (begun_anew k q r x h)
    ∙ ap (λ l. registers_as k (order q) (past_after (sample_as k q) (start_as k (order q) l) xs)) (sym g)

-- the rows over registers, one sample more
pub next_rows : (k : Realisation) (q : QuantisedView) (r new : List ℤ) (x : ℤ) (xs : List ℤ) (row : SampleRow) → length q.b ≡ order q + 1 → length r ≡ registers_of k (order q)
    → row ≡ row_at (step_as k q r x) x → new ≡ (step_as k q r x).past
    → row ∷ rows_from (sample_as k q) (start_as k (order q) new) xs ≡ rows_from (sample_as k q) (start_as k (order q) r) (x ∷ xs)
unfolding step_as
next_rows k q r new x xs row m h e g =
    let t = sample_as k q (start_as k (order q) r) x in
    ap (λ (s : SampleRow). s ∷ rows_from (sample_as k q) (start_as k (order q) new) xs) e
    ∙ ap (λ (rs : List SampleRow). record { x = x; y = t.y; exact = t.exact } ∷ rs)
    (ap (λ l. rows_from (sample_as k q) (start_as k (order q) l) xs) g
    ∙ sym (alike_rows k q t.past (start_as k (order q) (registers_as k (order q) t.past)) xs m (begun_anew k q r x h)))

pub run_more : (q : QuantisedView) (r new : List ℤ) (x : ℤ) (inputs : List ℤ) (i : ℕ) (shown longer : List Row) (row : Row) → length q.b ≡ order q + 1
    → length r ≡ registers_of q.realisation (order q) → i < length inputs → x ≡ get_or inputs i (pos 0)
    → row_of row ≡ row_at (step_as q.realisation q r x) x → new ≡ (step_as q.realisation q r x).past → longer ≡ shown ++ row ∷ []
    → map row_of longer ++ rows_from (sample q) (start_as q.realisation (order q) new) (drop (i + 1) inputs)
    ≡ map row_of shown ++ rows_from (sample q) (start_as q.realisation (order q) r) (drop i inputs)
run_more q r new x inputs i shown longer row m h l is e g more =
    let rest = rows_from (sample q) (start_as q.realisation (order q) new) (drop (i + 1) inputs) in
    ap (λ (rs : List Row). map row_of rs ++ rest) more
    ∙ ap (λ (rs : List SampleRow). rs ++ rest) (map_push row_of shown row)
    ∙ append_assoc (map row_of shown) (row_of row ∷ []) rest
    ∙ ap (λ (rs : List SampleRow). map row_of shown ++ rs)
    (next_rows q.realisation q r new x (drop (i + 1) inputs) (row_of row) m h e g
    ∙ ap (rows_from (sample q) (start_as q.realisation (order q) r)) (ap (λ w. w ∷ drop (i + 1) inputs) is ∙ sym (drop_more inputs i (pos 0) l)))
