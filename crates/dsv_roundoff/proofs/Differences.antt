-- Where all exact values of a run are words, its differences from the exact run obey the linear step.
use Rattle.std.proofs.Common.{◌≡◌, ℕ, zero, suc, ◌^◌, Bool, List, [], ◌∷◌, ◌++◌, length, map, refl, sym, subst, ap, ◌∙◌, arith}
use Rattle.std.specs.List.{All}
use Rattle.std.proofs.Math.IntN.{ℤ, pos, ◌+ℤ◌, ◌-ℤ◌, ◌*ℤ◌}
use Rattle.std.proofs.lemmas.List.{append-nil, append_assoc, length_push, length-map}
use Rattle.std.proofs.lemmas.List.Elements.{All-head, All-tail}
use Rattle.dsv_algebra.proofs.Normaliser.{ring, env, var, num, plus, times, minus}
use Rattle.dsv_word.specs.declared.format.Format.{Format}
use Rattle.dsv_word.specs.Words.{IsWord}
use Rattle.dsv_word.specs.Quotients.{whole_shift}
use Rattle.dsv_system.specs.Breaks.{IsInside}
use Rattle.dsv_system.specs.Runs.{SampleRow, row_at, rows_from}
use Rattle.dsv_system.specs.Systems.{zeros}
use Rattle.dsv_netlist.specs.declared.node.Node.{Node}
use Rattle.dsv_netlist.specs.declared.node.Node.TheVariants.{Input, Reg, MulConst, Round, Add, Sub, Fit, Scale}
use Rattle.dsv_netlist.specs.Nodes as nodes
use Rattle.dsv_netlist.specs.Nodes.{Net, Sample, at, node_value, node_exact, sample_from, sample_of, step_of}
use Rattle.dsv_linear.proofs.Words.{fit_same}
use Rattle.dsv_linear.proofs.Points.{all_front, all_back}
use Rattle.dsv_roundoff.specs.Exact.{IsExactly, AreExactly, RunsExactly}
use Rattle.dsv_roundoff.specs.Differences.{is_multiple, multiples_after, multiples_of, IsDifference, AreDifferences, RunsApart, differences, run_differences}
use Rattle.dsv_roundoff.proofs.NoErrors.{AreMultiples, multiples_more, multiples_so_far, error_lies}
use Rattle.dsv_roundoff.specs.Laws.{DifferencesObeyTheStep, OutputsDiffer, outputs_of}

-- ---- differences over d
none_apart : (d : ℤ) → pos 0 ≡ d *ℤ pos 0 -ℤ pos 0
none_apart d = ring (env (d ∷ [])) (num (pos 0)) (plus (times (var 0) (num (pos 0))) (minus (num (pos 0)))) refl

apart_at : (d : ℤ) (vs es : List ℤ) (i : ℕ) → length vs ≡ length es → at (differences d vs es) i ≡ d *ℤ at vs i -ℤ at es i
apart_at d [] [] i l = none_apart d
apart_at d [] (e ∷ es) i l = absurd (omega arith)
apart_at d (v ∷ vs) [] i l = absurd (omega arith)
apart_at d (v ∷ vs) (e ∷ es) zero l = refl
apart_at d (v ∷ vs) (e ∷ es) (suc i) l = apart_at d vs es i (omega arith)

apart_push : (d : ℤ) (vs es : List ℤ) (v e : ℤ) → length vs ≡ length es → differences d (vs ++ v ∷ []) (es ++ e ∷ []) ≡ differences d vs es ++ (d *ℤ v -ℤ e) ∷ []
apart_push d [] [] v e l = refl
apart_push d [] (f ∷ es) v e l = absurd (omega arith)
apart_push d (w ∷ vs) [] v e l = absurd (omega arith)
apart_push d (w ∷ vs) (f ∷ es) v e l = ap (λ (xs : List ℤ). (d *ℤ w -ℤ f) ∷ xs) (apart_push d vs es v e (omega arith))

apart_map : (d : ℤ) (vs es : List ℤ) (next : List ℕ) → length vs ≡ length es → differences d (map (at vs) next) (map (at es) next) ≡ map (at (differences d vs es)) next
apart_map d vs es [] l = refl
apart_map d vs es (k ∷ next) l = rw (apart_at d vs es k l) (ap (λ (xs : List ℤ). (d *ℤ at vs k -ℤ at es k) ∷ xs) (apart_map d vs es next l))

apart_zeros : (d : ℤ) (n : ℕ) → differences d (zeros n) (zeros n) ≡ zeros n
apart_zeros d zero = refl
apart_zeros d (suc n) = rw (← none_apart d) (ap (λ (xs : List ℤ). pos 0 ∷ xs) (apart_zeros d n))

-- ---- one node
same_input : (d x : ℤ) → d *ℤ x -ℤ d *ℤ x ≡ pos 0
same_input d x = ring (env (d ∷ x ∷ [])) (plus (times (var 0) (var 1)) (minus (times (var 0) (var 1)))) (num (pos 0)) refl

apart_product : (d c v e : ℤ) → d *ℤ (c *ℤ v) -ℤ c *ℤ e ≡ c *ℤ (d *ℤ v -ℤ e)
apart_product d c v e = ring (env (d ∷ c ∷ v ∷ e ∷ [])) (plus (times (var 0) (times (var 1) (var 2))) (minus (times (var 1) (var 3)))) (times (var 1) (plus (times (var 0) (var 2)) (minus (var 3)))) refl

apart_quotient : (d p v w e : ℤ) → p *ℤ (d *ℤ w -ℤ e) -ℤ (d *ℤ v -ℤ p *ℤ e) ≡ d *ℤ (p *ℤ w -ℤ v)
apart_quotient d p v w e = ring (env (d ∷ p ∷ v ∷ w ∷ e ∷ [])) (plus (times (var 1) (plus (times (var 0) (var 3)) (minus (var 4)))) (minus (plus (times (var 0) (var 2)) (minus (times (var 1) (var 4))))))
    (times (var 0) (plus (times (var 1) (var 3)) (minus (var 2)))) refl

apart_sum : (d v w e f : ℤ) → d *ℤ (v +ℤ w) -ℤ (e +ℤ f) ≡ (d *ℤ v -ℤ e) +ℤ (d *ℤ w -ℤ f)
apart_sum d v w e f = ring (env (d ∷ v ∷ w ∷ e ∷ f ∷ [])) (plus (times (var 0) (plus (var 1) (var 2))) (minus (plus (var 3) (var 4))))
    (plus (plus (times (var 0) (var 1)) (minus (var 3))) (plus (times (var 0) (var 2)) (minus (var 4)))) refl

apart_difference : (d v w e f : ℤ) → d *ℤ (v -ℤ w) -ℤ (e -ℤ f) ≡ (d *ℤ v -ℤ e) -ℤ (d *ℤ w -ℤ f)
apart_difference d v w e f = ring (env (d ∷ v ∷ w ∷ e ∷ f ∷ [])) (plus (times (var 0) (plus (var 1) (minus (var 2)))) (minus (plus (var 3) (minus (var 4)))))
    (plus (plus (times (var 0) (var 1)) (minus (var 3))) (minus (plus (times (var 0) (var 2)) (minus (var 4))))) refl

node_apart : (f : Format) (says : List Bool) (d : ℤ) (words regs : List ℤ) (x : ℤ) (vs es : List ℤ) (n : Node) (e : ℤ) → length words ≡ length regs → length vs ≡ length es → AreMultiples f says vs
    → IsExactly f d regs x es n e → All (IsWord f) (node_exact vs n) → IsDifference f says d (differences d words regs) (differences d vs es) n (d *ℤ node_value f words x vs n -ℤ e)
node_apart f says d words regs x vs es Input e l m t h a = rw h (same_input d x)
node_apart f says d words regs x vs es (Reg r) e l m t h a = rw (h, apart_at d words regs r l) refl
node_apart f says d words regs x vs es (MulConst c i) e l m t h a = rw (h, apart_at d vs es i m) (apart_product d c (at vs i) (at es i))
node_apart f says d words regs x vs es (Round i) e l m t h a = record {
  error = pos (2 ^ f.frac_bits) *ℤ whole_shift f.rounding f.frac_bits (at vs i) -ℤ at vs i;
  between = error_lies f says vs i t;
  is = rw (apart_at d vs es i m, ← h) (apart_quotient d (pos (2 ^ f.frac_bits)) (at vs i) (whole_shift f.rounding f.frac_bits (at vs i)) e);
}
node_apart f says d words regs x vs es (Add i j) e l m t h a = rw (h, apart_at d vs es i m, apart_at d vs es j m) (apart_sum d (at vs i) (at vs j) (at es i) (at es j))
node_apart f says d words regs x vs es (Sub i j) e l m t h a = rw (h, apart_at d vs es i m, apart_at d vs es j m) (apart_difference d (at vs i) (at vs j) (at es i) (at es j))
node_apart f says d words regs x vs es (Fit i) e l m t h a = rw (fit_same f (at vs i) (All-head (IsWord f) (at vs i) [] a), h, apart_at d vs es i m) refl
node_apart f says d words regs x vs es (Scale i) e l m t h a = rw (h, apart_at d vs es i m) (apart_product d (pos (2 ^ f.frac_bits)) (at vs i) (at es i))

-- ---- the nodes that are left
-- what they give, after these values
abbrev pub added : Format → List ℤ → ℤ → List Node → List ℤ → List ℤ
added f words x [] values = []
added f words x (n ∷ ns) values = node_value f words x values n ∷ added f words x ns (values ++ node_value f words x values n ∷ [])

abbrev pub fitted : Format → List ℤ → ℤ → List Node → List ℤ → List ℤ
fitted f words x [] values = []
fitted f words x (n ∷ ns) values = node_exact values n ++ fitted f words x ns (values ++ node_value f words x values n ∷ [])

pub values_are : (f : Format) (words : List ℤ) (x : ℤ) (ns : List Node) (s : Sample) → (sample_from f words x ns s).values ≡ s.values ++ added f words x ns s.values
values_are f words x [] s = sym (append-nil s.values)
values_are f words x (n ∷ ns) s =
    let v = node_value f words x s.values n in
    values_are f words x ns (nodes.after_node f words x s n) ∙ append_assoc s.values (v ∷ []) (added f words x ns (s.values ++ v ∷ []))

pub exact_are : (f : Format) (words : List ℤ) (x : ℤ) (ns : List Node) (s : Sample) → (sample_from f words x ns s).exact ≡ s.exact ++ fitted f words x ns s.values
exact_are f words x [] s = sym (append-nil s.exact)
exact_are f words x (n ∷ ns) s =
    exact_are f words x ns (nodes.after_node f words x s n) ∙ append_assoc s.exact (node_exact s.values n) (fitted f words x ns (s.values ++ node_value f words x s.values n ∷ []))

as_many : (f : Format) (d : ℤ) (words regs : List ℤ) (x : ℤ) (ns : List Node) (vs es all : List ℤ) → AreExactly f d regs x es ns all → length (added f words x ns vs) ≡ length all
as_many f d words regs x [] vs es [] h = refl
as_many f d words regs x [] vs es (e ∷ all) h = absurd h
as_many f d words regs x (n ∷ ns) vs es [] h = absurd h
as_many f d words regs x (n ∷ ns) vs es (e ∷ all) h = ap suc (as_many f d words regs x ns (vs ++ node_value f words x vs n ∷ []) (es ++ e ∷ []) all h.1)

-- `says` tells which of the values so far are multiples
nodes_apart : (f : Format) (says : List Bool) (d : ℤ) (words regs : List ℤ) (x : ℤ) (ns : List Node) (vs es all : List ℤ) → length words ≡ length regs → length vs ≡ length es → length says ≡ length vs → AreMultiples f says vs
    → AreExactly f d regs x es ns all → All (IsWord f) (fitted f words x ns vs) → AreDifferences f (multiples_after f says ns) d (differences d words regs) (differences d vs es) ns (differences d (added f words x ns vs) all)
nodes_apart f says d words regs x [] vs es [] l m k t h a = tt
nodes_apart f says d words regs x [] vs es (e ∷ all) l m k t h a = absurd h
nodes_apart f says d words regs x (n ∷ ns) vs es [] l m k t h a = absurd h
nodes_apart f says d words regs x (n ∷ ns) vs es (e ∷ all) l m k t h a =
    let v = node_value f words x vs n in
    let now = vs ++ v ∷ [] in
    let more = es ++ e ∷ [] in
    let b = is_multiple f says n in
    let long : length now ≡ length more = let p = length_push vs v in let q = length_push es e in omega arith in
    let same : length (says ++ b ∷ []) ≡ length now = let p = length_push vs v in let q = length_push says b in omega arith in
    let rest = nodes_apart f (says ++ b ∷ []) d words regs x ns now more all l long same (multiples_more f words x says vs n k t) h.1 (all_back (IsWord f) (node_exact vs n) (fitted f words x ns now) a) in (
      node_apart f (multiples_after f says (n ∷ ns)) d words regs x vs es n e l m (multiples_so_far f says vs (n ∷ ns) k t) h.0 (all_front (IsWord f) (node_exact vs n) (fitted f words x ns now) a),
      subst (λ (xs : List ℤ). AreDifferences f (multiples_after f says (n ∷ ns)) d (differences d words regs) xs ns (differences d (added f words x ns now) all)) (apart_push d vs es v e m) rest,
    )

-- ---- samples
sample_apart : (f : Format) (d : ℤ) (words regs : List ℤ) (x : ℤ) (ns : List Node) (all : List ℤ) → length words ≡ length regs → AreExactly f d regs x [] ns all
    → All (IsWord f) (sample_of f words x ns).exact → AreDifferences f (multiples_of f ns) d (differences d words regs) [] ns (differences d (sample_of f words x ns).values all)
sample_apart f d words regs x ns all l h a =
    let first : Sample = record { values = []; exact = [] } in
    let b : All (IsWord f) (fitted f words x ns []) = subst (All (IsWord f)) (exact_are f words x ns first) a in
    subst (λ (vs : List ℤ). AreDifferences f (multiples_of f ns) d (differences d words regs) [] ns (differences d vs all)) (sym (values_are f words x ns first))
    (nodes_apart f [] d words regs x ns [] [] all l refl refl (λ i e. absurd cc) h b)

sample_long : (f : Format) (d : ℤ) (words regs : List ℤ) (x : ℤ) (ns : List Node) (all : List ℤ) → AreExactly f d regs x [] ns all → length (sample_of f words x ns).values ≡ length all
sample_long f d words regs x ns all h =
    ap (λ (vs : List ℤ). length vs) (values_are f words x ns (record { values = []; exact = [] })) ∙ as_many f d words regs x ns [] [] all h

run_apart : (net : Net) (d : ℤ) (words regs xs : List ℤ) (samples : List (List ℤ)) → length words ≡ length regs → All (IsInside net.format) (rows_from (step_of net) words xs)
    → RunsExactly net d regs xs samples → RunsApart net d (differences d words regs) (run_differences net d words xs samples)
run_apart net d words regs [] samples l a h = tt
run_apart net d words regs (x ∷ xs) [] l a h = absurd h
run_apart net d words regs (x ∷ xs) (all ∷ samples) l a h =
    let step = step_of net words x in
    let values = (sample_of net.format words x net.nodes).values in
    let In = IsInside net.format in
    let row = row_at step x in
    let rows = rows_from (step_of net) step.past xs in
    let long = sample_long net.format d words regs x net.nodes all h.0 in
    let next : length step.past ≡ length (map (at all) net.next) = length-map net.next (at values) ∙ sym (length-map net.next (at all)) in (
      sample_apart net.format d words regs x net.nodes all l h.0 (All-head In row rows a),
      subst (λ (regs : List ℤ). RunsApart net d regs (run_differences net d step.past xs samples)) (apart_map d values all net.next long)
          (run_apart net d step.past (map (at all) net.next) xs samples next (All-tail In row rows a) h.1),
    )

pub differences_obey : DifferencesObeyTheStep
differences_obey net xs a d samples h =
    let start = zeros (length net.next) in
    subst (λ (regs : List ℤ). RunsApart net d regs (run_differences net d start xs samples)) (apart_zeros d (length net.next)) (run_apart net d start start xs samples refl a h)

-- ---- outputs
outputs_apart : (net : Net) (d : ℤ) (words regs xs : List ℤ) (samples : List (List ℤ)) → RunsExactly net d regs xs samples
    → outputs_of net (run_differences net d words xs samples) ≡ differences d (map (λ (r : SampleRow). r.y) (rows_from (step_of net) words xs)) (outputs_of net samples)
outputs_apart net d words regs [] [] h = refl
outputs_apart net d words regs [] (all ∷ samples) h = absurd h
outputs_apart net d words regs (x ∷ xs) [] h = absurd h
outputs_apart net d words regs (x ∷ xs) (all ∷ samples) h =
    let step = step_of net words x in
    let values = (sample_of net.format words x net.nodes).values in
    let long = sample_long net.format d words regs x net.nodes all h.0 in
    rw (apart_at d values all net.output long) (ap (λ (ws : List ℤ). (d *ℤ at values net.output -ℤ at all net.output) ∷ ws) (outputs_apart net d step.past (map (at all) net.next) xs samples h.1))

pub outputs_differ : OutputsDiffer
outputs_differ net xs d samples h = let start = zeros (length net.next) in outputs_apart net d start start xs samples h
