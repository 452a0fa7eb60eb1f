-- A run of a netlist in words is one of its network, over 1.
use Rattle.std.proofs.Common.{◌≡◌, ◌^◌, Bool, List, [], ◌∷◌, ◌++◌, length, map, refl, sym, subst, ap, ◌∙◌, arith}
use Rattle.std.specs.List.{All}
use Rattle.std.proofs.Math.IntN.{ℤ, pos, ◌-ℤ◌, ◌*ℤ◌}
use Rattle.std.proofs.lemmas.Int.{ints}
use Rattle.std.proofs.lemmas.List.{length_push}
use Rattle.std.proofs.lemmas.List.Elements.{All-head, All-tail, All-nil, All-cons}
use lib.Signed.{◌≤ℤ◌}
use Rattle.dsv_word.specs.declared.format.Format.{Format}
use Rattle.dsv_word.specs.Quotients.{whole_shift}
use Rattle.dsv_system.specs.Runs.{SampleRow, row_at, rows_from}
use Rattle.dsv_netlist.specs.declared.node.Node.{Node}
use Rattle.dsv_netlist.specs.declared.node.Node.TheVariants.{Input, Reg, MulConst, Round, Add, Sub, Fit, Scale}
use Rattle.dsv_netlist.specs.Nodes.{Net, Sample, at, node_value, node_exact, sample_of, step_of}
use Rattle.dsv_linear.specs.Facts.{Between}
use Rattle.dsv_linear.specs.Meaning.{LiesIn}
use Rattle.dsv_linear.specs.declared.range.Range.{Range}
use Rattle.dsv_linear.proofs.Numbers.{times_up}
use Rattle.dsv_linear.proofs.Words.{fit_same}
use Rattle.dsv_roundoff.specs.Differences.{is_multiple, multiples_after, multiples_of}
use Rattle.dsv_roundoff.proofs.Differences.{added, fitted, values_are, exact_are}
use Rattle.dsv_roundoff.proofs.NoErrors.{AreMultiples, multiples_more, multiples_so_far, error_lies}
use Rattle.dsv_network.specs.declared.signal.NearQuotient.{NearQuotient}
use Rattle.dsv_network.specs.Runs.{IsNear, IsGiven, AreGiven, RunsGiven, node_shows, shown_in, LieOver, ShowsIn}
use Rattle.dsv_gain.specs.Networks.{near_of, signal_of, network_of}
use Rattle.dsv_gain.specs.declared.networks.Quantity.TheVariants as quantity
use Rattle.dsv_gain.specs.Safe.{LieWithin}
use Rattle.dsv_network.proofs.Symbols.{once}
use Rattle.dsv_gain.proofs.Values.{lie_within, fits_word}

-- ---- one sample
pub near_given : (near : NearQuotient) (over v w : ℤ) → Between (over *ℤ near.errors.low) (over *ℤ near.errors.high) (pos near.divisor *ℤ w -ℤ v) → near.divisor ≡ 2 ^ near.bits → IsNear near over v w
near_given near over v w b e =
    let up : pos 0 ≤ℤ pos near.divisor = omega (arith, ints) in
    let least = times_up (pos near.divisor) (over *ℤ near.errors.low) (pos near.divisor *ℤ w -ℤ v) up b.least in
    let most = times_up (pos near.divisor) (pos near.divisor *ℤ w -ℤ v) (over *ℤ near.errors.high) up b.most in
    let same = ap (λ n. pos n *ℤ (pos near.divisor *ℤ w -ℤ v)) e in
    record { least = omega (arith, ints, least, same); most = omega (arith, ints, most, same) }

-- `says` tells which of the values so far are multiples
node_given : (f : Format) (says : List Bool) (input : Range) (words : List ℤ) (x : ℤ) (vs : List ℤ) (n : Node) → LiesIn (pos 1) input x → AreMultiples f says vs → IsGiven f (pos 1) words vs (signal_of f quantity.Words says input n) (node_value f words x vs n)
node_given f says input words x vs Input l m = l
node_given f says input words x vs (Reg r) l m = refl
node_given f says input words x vs (MulConst c i) l m = refl
node_given f says input words x vs (Round i) l m =
    let near = near_of f says i in
    let b = error_lies f says vs i m in
    near_given near (pos 1) (at vs i) (whole_shift f.rounding f.frac_bits (at vs i)) (record { least = rw (once near.errors.low) b.least; most = rw (once near.errors.high) b.most }) refl
node_given f says input words x vs (Add i j) l m = refl
node_given f says input words x vs (Sub i j) l m = refl
node_given f says input words x vs (Fit i) l m = record { whole = at vs i; is = sym (once (at vs i)); same = λ b. fit_same f (at vs i) (fits_word f (at vs i) b) }
node_given f says input words x vs (Scale i) l m = refl

nodes_given : (f : Format) (says : List Bool) (input : Range) (words : List ℤ) (x : ℤ) (ns : List Node) (vs : List ℤ) → LiesIn (pos 1) input x → length says ≡ length vs → AreMultiples f says vs
    → AreGiven f (pos 1) words vs (map (signal_of f quantity.Words (multiples_after f says ns) input) ns) (added f words x ns vs)
nodes_given f says input words x [] vs i l m = tt
nodes_given f says input words x (n ∷ ns) vs i l m =
    let v = node_value f words x vs n in
    let b = is_multiple f says n in
    let same : length (says ++ b ∷ []) ≡ length (vs ++ v ∷ []) = let p = length_push vs v in let q = length_push says b in omega (arith, l, p, q) in
    (node_given f (multiples_after f says (n ∷ ns)) input words x vs n i (multiples_so_far f says vs (n ∷ ns) l m), nodes_given f (says ++ b ∷ []) input words x ns (vs ++ v ∷ []) i same (multiples_more f words x says vs n l m))

-- what is shown is what is fitted
node_shown : (f : Format) (says : List Bool) (input : Range) (vs : List ℤ) (n : Node) → node_shows vs (signal_of f quantity.Words says input n) ≡ node_exact vs n
node_shown f says input vs Input = refl
node_shown f says input vs (Reg r) = refl
node_shown f says input vs (MulConst c i) = refl
node_shown f says input vs (Round i) = refl
node_shown f says input vs (Add i j) = refl
node_shown f says input vs (Sub i j) = refl
node_shown f says input vs (Fit i) = refl
node_shown f says input vs (Scale i) = refl

same_shown : (f : Format) (says : List Bool) (input : Range) (words : List ℤ) (x : ℤ) (ns : List Node) (vs : List ℤ) → shown_in vs (map (signal_of f quantity.Words says input) ns) (added f words x ns vs) ≡ fitted f words x ns vs
same_shown f says input words x [] vs = refl
same_shown f says input words x (n ∷ ns) vs =
    let now = vs ++ node_value f words x vs n ∷ [] in
    ap (λ (es : List ℤ). es ++ shown_in now (map (signal_of f quantity.Words says input) ns) (added f words x ns now)) (node_shown f says input vs n)
    ∙ ap (λ (es : List ℤ). node_exact vs n ++ es) (same_shown f says input words x ns now)

abbrev first : Sample
first = record { values = []; exact = [] }

sample_given : (f : Format) (input : Range) (words : List ℤ) (x : ℤ) (ns : List Node) → LiesIn (pos 1) input x → AreGiven f (pos 1) words [] (map (signal_of f quantity.Words (multiples_of f ns) input) ns) (sample_of f words x ns).values
sample_given f input words x ns l =
    subst (λ (vs : List ℤ). AreGiven f (pos 1) words [] (map (signal_of f quantity.Words (multiples_of f ns) input) ns) vs) (sym (values_are f words x ns first)) (nodes_given f [] input words x ns [] l refl (λ i e. absurd cc))

pub exact_is : (f : Format) (input : Range) (words : List ℤ) (x : ℤ) (ns : List Node) → shown_in [] (map (signal_of f quantity.Words (multiples_of f ns) input) ns) (sample_of f words x ns).values ≡ (sample_of f words x ns).exact
exact_is f input words x ns =
    ap (shown_in [] (map (signal_of f quantity.Words (multiples_of f ns) input) ns)) (values_are f words x ns first) ∙ same_shown f (multiples_of f ns) input words x ns [] ∙ sym (exact_are f words x ns first)

-- ---- runs
-- the values of all nodes in each sample
abbrev pub values_over : Net → List ℤ → List ℤ → List (List ℤ)
values_over net words [] = []
values_over net words (x ∷ xs) = (sample_of net.format words x net.nodes).values ∷ values_over net (step_of net words x).past xs

pub run_given : (net : Net) (input : Range) (words xs : List ℤ) → All (LiesIn (pos 1) input) xs → RunsGiven (network_of net quantity.Words input) (pos 1) words (values_over net words xs)
run_given net input words [] a = tt
run_given net input words (x ∷ xs) a = (sample_given net.format input words x net.nodes (All-head (LiesIn (pos 1) input) x xs a), run_given net input (step_of net words x).past xs (All-tail (LiesIn (pos 1) input) x xs a))

-- what lies in ranges, in each sample
pub rows_lie : (net : Net) (input : Range) (ends : List Range) (words xs : List ℤ) → All (ShowsIn (network_of net quantity.Words input) (pos 1) ends) (values_over net words xs) → All (λ r. LieWithin net.format ends r.exact) (rows_from (step_of net) words xs)
rows_lie net input ends words [] a = All-nil (λ (r : SampleRow). LieWithin net.format ends r.exact)
rows_lie net input ends words (x ∷ xs) a =
    let values = (sample_of net.format words x net.nodes).values in
    let step = step_of net words x in
    let rest = values_over net step.past xs in
    let P = ShowsIn (network_of net quantity.Words input) (pos 1) ends in
    All-cons (λ (r : SampleRow). LieWithin net.format ends r.exact) (row_at step x) (rows_from (step_of net) step.past xs)
    (lie_within net.format ends step.exact (subst (λ (es : List ℤ). LieOver (pos 1) net.format ends es) (exact_is net.format input words x net.nodes) (All-head P values rest a)))
    (rows_lie net input ends step.past xs (All-tail P values rest a))
