-- A box that a sample keeps holds the registers of every run from zeros.
use Rattle.std.proofs.Common.{◌≡◌, ℕ, zero, suc, ◌<◌, Bool, true, false, if◌then◌else◌, List, [], ◌∷◌, ◌++◌, length, map, drop, refl, sym, subst, ap, arith}
use Rattle.std.specs.Prelude.{Option, Some, None, nat_lt, int_lt, not, ◌&&◌}
use Rattle.std.specs.List.{All}
use Rattle.std.proofs.Math.IntN.{ℤ, pos, ◌*ℤ◌}
use Rattle.std.proofs.lemmas.Int.{ints}
use Rattle.std.proofs.lemmas.Bool.{ltb-true}
use Rattle.std.proofs.lemmas.List.Elements.{All-head, All-nil, All-cons}
use lib.Signed.{◌<ℤ◌, ◌≤ℤ◌}
use Rattle.dsv_algebra.proofs.Booleans.{and_left, and_right}
use Rattle.dsv_word.specs.declared.format.Format.{Format}
use Rattle.dsv_system.specs.Systems.{zeros}
use Rattle.dsv_netlist.specs.declared.node.Node.{Node}
use Rattle.dsv_netlist.specs.declared.node.Node.TheVariants.{Input, Reg, MulConst, Round, Add, Sub, Fit, Scale}
use Rattle.dsv_netlist.specs.Nodes.{Net, at}
use Rattle.dsv_netlist.specs.Conditions.{is_fit}
use Rattle.dsv_linear.specs.Facts.{Between}
use Rattle.dsv_linear.specs.declared.range.Range.{Range}
use Rattle.dsv_linear.specs.Forms.{range, range_at}
use Rattle.dsv_linear.specs.Known.{are_words}
use Rattle.dsv_linear.specs.Meaning.{LiesIn}
use Rattle.dsv_linear.proofs.Numbers.{times_up, times_none}
use Rattle.dsv_roundoff.specs.Differences.{multiples_of}
use Rattle.dsv_network.specs.declared.signal.Signal.{Signal}
use Rattle.dsv_network.specs.declared.network.Network.{Network}
use Rattle.dsv_network.specs.Gains.{none_range}
use Rattle.dsv_network.specs.Runs.{Fits, IsGiven, AreGiven, RunsGiven, node_shows, shown_in, LieOver, ShowsIn, AreIn}
use Rattle.dsv_network.proofs.Values.{lie_fits}
use Rattle.dsv_network.proofs.Passes.{not_below}
use Rattle.dsv_network.proofs.Holding.{HoldAlways}
use Rattle.dsv_gain.specs.declared.networks.Quantity.{Quantity}
use Rattle.dsv_gain.specs.declared.networks.Quantity.TheVariants as quantity
use Rattle.dsv_gain.specs.Networks.{shown_as, signal_of, network_of}
use Rattle.dsv_gain.specs.Gains.{symbol_of_range}
use Rattle.dsv_gain.specs.Boxes.{range_of, node_range, range_in, is_inside, is_known_inside, is_kept}
use Rattle.dsv_gain.proofs.Symbols.{symbol_lies, symbol_back}

-- ---- the box
-- a number over d lies in a range
abbrev pub IsIn : ℤ → Range → ℤ → Type 0
IsIn d r v = Between (d *ℤ r.low) (d *ℤ r.high) v

-- each of these numbers lies in its range
abbrev pub BoxIn : ℤ → List Range → List ℤ → Type 0
BoxIn d [] [] = Unit {0}
BoxIn d [] (v ∷ vs) = ⊥
BoxIn d (r ∷ box) [] = ⊥
BoxIn d (r ∷ box) (v ∷ vs) = IsIn d r v × BoxIn d box vs

in_at : (d : ℤ) (box : List Range) (vs : List ℤ) (j : ℕ) → BoxIn d box vs → j < length box → IsIn d (range_at box j) (at vs j)
in_at d [] vs j h l = absurd (omega arith)
in_at d (r ∷ box) [] j h l = absurd h
in_at d (r ∷ box) (v ∷ vs) zero h l = h.0
in_at d (r ∷ box) (v ∷ vs) (suc j) h l = in_at d box vs j h.1 (omega arith)

-- ---- what nodes give
pub no_range : (r : Range) → None ≡ Some r → ⊥
no_range r e = cc

known_cases : (b : Bool) (d : ℤ) (box : List Range) (regs : List ℤ) (k : ℕ) (r : Range) → nat_lt k (length box) ≡ b → BoxIn d box regs → (if b then Some (range_at box k) else None) ≡ Some r → IsIn d r (at regs k)
known_cases true d box regs k r p a e = let same : range_at box k ≡ r = cc in subst (λ (s : Range). IsIn d s (at regs k)) same (in_at d box regs k a (ltb-true k (length box) p))
known_cases false d box regs k r p a e = absurd (no_range r e)

-- the input
input_in : (d low high w : ℤ) (r : Range) → Some (range low high) ≡ Some r → LiesIn d (symbol_of_range (range low high)) w → IsIn d r w
input_in d low high w r e l =
    let same : range low high ≡ r = cc in
    subst (λ (s : Range). IsIn d s w) same (symbol_back d (range low high) w l)

first_cases : (b : Bool) (ranges : List Range) (r : Range) → nat_lt 0 (length ranges) ≡ b → (if b then Some (range_at ranges 0) else None) ≡ Some r → range_at ranges 0 ≡ r
first_cases true ranges r p e = cc
first_cases false ranges r p e = absurd (no_range r e)

fit_in : (d : ℤ) (f : Format) (ranges : List Range) (r : Range) (v : ℤ) (vs : List ℤ) → LieOver d f ranges (v ∷ vs) → range_of ranges 0 ≡ Some r → IsIn d r v
fit_in d f [] r v vs l e = absurd l
fit_in d f (s ∷ ranges) r v vs l e = let same : s ≡ r = first_cases (nat_lt 0 (length (s ∷ ranges))) (s ∷ ranges) r refl e in subst (λ (t : Range). IsIn d t v) same l.0.between

rest_in : (d : ℤ) (f : Format) (ranges : List Range) (v : ℤ) (vs : List ℤ) → LieOver d f ranges (v ∷ vs) → LieOver d f (drop 1 ranges) vs
rest_in d f [] v vs l = absurd l
rest_in d f (s ∷ ranges) v vs l = l.1

-- what a node of the network gives, where it is given by these
abbrev signals : Format → Quantity → List Bool → ℤ → ℤ → List Node → List Signal
signals f q says low high ns = map (signal_of f q says (symbol_of_range (range low high))) ns

fit_given : (f : Format) (q : Quantity) (d : ℤ) (regs before : List ℤ) (i : ℕ) (w : ℤ) (r : Range) (ranges : List Range) (more : List ℤ) → pos 0 <ℤ d → IsGiven f d regs before (shown_as q i) w → LieOver d f ranges (node_shows before (shown_as q i) ++ more)
    → range_of ranges 0 ≡ Some r → IsIn d r w
fit_given f quantity.Words d regs before i w r ranges more o h l e =
    let fits = All-head (Fits f d) (at before i) more (lie_fits d f ranges (at before i ∷ more) (not_below d o) l) in
    subst (IsIn d r) (sym (h.same fits)) (fit_in d f ranges r (at before i) more l e)
fit_given f quantity.Differences d regs before i w r ranges more o h l e = subst (IsIn d r) (sym h) (fit_in d f ranges r (at before i) more l e)

node_in : (f : Format) (q : Quantity) (says : List Bool) (d low high : ℤ) (box ranges : List Range) (regs : List ℤ) (n : Node) (before : List ℤ) (w : ℤ) (more : List ℤ) (r : Range) → pos 0 <ℤ d → BoxIn d box regs
    → IsGiven f d regs before (signal_of f q says (symbol_of_range (range low high)) n) w → LieOver d f ranges (node_shows before (signal_of f q says (symbol_of_range (range low high)) n) ++ more) → node_range (range low high) box ranges n ≡ Some r → IsIn d r w
node_in f q says d low high box ranges regs Input before w more r o a h l e = input_in d low high w r e h
node_in f q says d low high box ranges regs (Reg k) before w more r o a h l e = subst (IsIn d r) (sym h) (known_cases (nat_lt k (length box)) d box regs k r refl a e)
node_in f q says d low high box ranges regs (MulConst c i) before w more r o a h l e = absurd (no_range r e)
node_in f q says d low high box ranges regs (Round i) before w more r o a h l e = absurd (no_range r e)
node_in f q says d low high box ranges regs (Add i j) before w more r o a h l e = absurd (no_range r e)
node_in f q says d low high box ranges regs (Sub i j) before w more r o a h l e = absurd (no_range r e)
node_in f q says d low high box ranges regs (Fit i) before w more r o a h l e = fit_given f q d regs before i w r ranges more o h l e
node_in f q says d low high box ranges regs (Scale i) before w more r o a h l e = absurd (no_range r e)

-- the ranges of the nodes after it
later_fit : (d : ℤ) (f : Format) (q : Quantity) (ranges : List Range) (i : ℕ) (before more : List ℤ) → LieOver d f ranges (node_shows before (shown_as q i) ++ more) → LieOver d f (drop 1 ranges) more
later_fit d f quantity.Words ranges i before more l = rest_in d f ranges (at before i) more l
later_fit d f quantity.Differences ranges i before more l = rest_in d f ranges (at before i) more l

later_in : (d : ℤ) (f : Format) (q : Quantity) (says : List Bool) (input : Range) (ranges : List Range) (n : Node) (before more : List ℤ) → LieOver d f ranges (node_shows before (signal_of f q says input n) ++ more) → LieOver d f (if is_fit n then drop 1 ranges else ranges) more
later_in d f q says input ranges Input before more l = l
later_in d f q says input ranges (Reg k) before more l = l
later_in d f q says input ranges (MulConst c i) before more l = l
later_in d f q says input ranges (Round i) before more l = l
later_in d f q says input ranges (Add i j) before more l = l
later_in d f q says input ranges (Sub i j) before more l = l
later_in d f q says input ranges (Fit i) before more l = later_fit d f q ranges i before more l
later_in d f q says input ranges (Scale i) before more l = l

range_holds : (f : Format) (q : Quantity) (says : List Bool) (d low high : ℤ) (box ranges : List Range) (regs : List ℤ) (ns : List Node) (before values : List ℤ) (i : ℕ) (r : Range) → pos 0 <ℤ d → BoxIn d box regs → AreGiven f d regs before (signals f q says low high ns) values
    → LieOver d f ranges (shown_in before (signals f q says low high ns) values) → range_in (range low high) box ranges ns i ≡ Some r → IsIn d r (at values i)
range_holds f q says d low high box ranges regs [] before values i r o a h l e = absurd (no_range r e)
range_holds f q says d low high box ranges regs (n ∷ ns) before [] i r o a h l e = absurd h
range_holds f q says d low high box ranges regs (n ∷ ns) before (w ∷ values) zero r o a h l e = node_in f q says d low high box ranges regs n before w (shown_in (before ++ w ∷ []) (signals f q says low high ns) values) r o a h.0 l e
range_holds f q says d low high box ranges regs (n ∷ ns) before (w ∷ values) (suc i) r o a h l e =
    range_holds f q says d low high box (if is_fit n then drop 1 ranges else ranges) regs ns (before ++ w ∷ []) values i r o a h.1
    (later_in d f q says (symbol_of_range (range low high)) ranges n before (shown_in (before ++ w ∷ []) (signals f q says low high ns) values) l) e

-- ---- a box that is kept
inside_cases : (p q : Bool) (d : ℤ) (r s : Range) (v : ℤ) → pos 0 ≤ℤ d → int_lt r.low s.low ≡ p → int_lt s.high r.high ≡ q → (not p && not q) ≡ true → IsIn d r v → IsIn d s v
inside_cases true q d r s v u a b e i = absurd cc
inside_cases false true d r s v u a b e i = absurd cc
inside_cases false false d r s v u a b e i =
    let x = times_up d s.low r.low u (omega (arith, ints, a)) in
    let y = times_up d r.high s.high u (omega (arith, ints, b)) in
    record { least = let l = i.least in omega (arith, ints, x, l); most = let m = i.most in omega (arith, ints, y, m) }

inside_holds : (d : ℤ) (r s : Range) (v : ℤ) → pos 0 ≤ℤ d → is_inside r s ≡ true → IsIn d r v → IsIn d s v
inside_holds d r s v u e i = inside_cases (int_lt r.low s.low) (int_lt s.high r.high) d r s v u refl refl e i

known_holds : (o : Option Range) (d : ℤ) (s : Range) (v : ℤ) → pos 0 ≤ℤ d → is_known_inside o s ≡ true → ((r : Range) → o ≡ Some r → IsIn d r v) → IsIn d s v
known_holds None d s v u e h = absurd cc
known_holds (Some r) d s v u e h = inside_holds d r s v u e (h r refl)

zero_in : (d : ℤ) → IsIn d none_range (pos 0)
zero_in d = let z = times_none d in record { least = omega (arith, ints, z); most = omega (arith, ints, z) }

-- what is known of a register's range in it
record HoldsLoaded (f : Format) (input : Range) (box ranges : List Range) (ns : List Node) (next : List ℕ) (rest : List Range) (i : ℕ) (r : Range) : Type 0 where
  words : are_words f r ≡ true
  zero : is_inside none_range r ≡ true
  loaded : is_known_inside (range_in input box ranges ns i) r ≡ true
  after : is_kept f input box ranges ns next rest ≡ true

kept_parts : (f : Format) (input : Range) (box ranges : List Range) (ns : List Node) (next : List ℕ) (rest : List Range) (i : ℕ) (r : Range) → is_kept f input box ranges ns (i ∷ next) (r ∷ rest) ≡ true → HoldsLoaded f input box ranges ns next rest i r
kept_parts f input box ranges ns next rest i r e =
    let w = are_words f r in
    let p = is_inside none_range r in
    let q = is_known_inside (range_in input box ranges ns i) r in
    let s = is_kept f input box ranges ns next rest in
    let here = and_left (w && p && q) s e in
    record { words = and_left w p (and_left (w && p) q here); zero = and_right w p (and_left (w && p) q here); loaded = and_right (w && p) q here; after = and_right (w && p && q) s e }

-- registers of zeros lie in it
pub zeros_in : (f : Format) (d : ℤ) (input : Range) (box ranges : List Range) (ns : List Node) (next : List ℕ) (rest : List Range) → pos 0 ≤ℤ d → is_kept f input box ranges ns next rest ≡ true → BoxIn d rest (zeros (length next))
zeros_in f d input box ranges ns [] [] u e = tt
zeros_in f d input box ranges ns [] (r ∷ rest) u e = absurd cc
zeros_in f d input box ranges ns (i ∷ next) [] u e = absurd cc
zeros_in f d input box ranges ns (i ∷ next) (r ∷ rest) u e =
    let p = kept_parts f input box ranges ns next rest i r e in
    (inside_holds d none_range r (pos 0) u p.zero (zero_in d), zeros_in f d input box ranges ns next rest u p.after)

-- and those that are loaded
loaded_in : (f : Format) (d : ℤ) (input : Range) (box ranges : List Range) (ns : List Node) (values : List ℤ) (next : List ℕ) (rest : List Range) → pos 0 ≤ℤ d → ((i : ℕ) (r : Range) → range_in input box ranges ns i ≡ Some r → IsIn d r (at values i))
    → is_kept f input box ranges ns next rest ≡ true → BoxIn d rest (map (at values) next)
loaded_in f d input box ranges ns values [] [] u h e = tt
loaded_in f d input box ranges ns values [] (r ∷ rest) u h e = absurd cc
loaded_in f d input box ranges ns values (i ∷ next) [] u h e = absurd cc
loaded_in f d input box ranges ns values (i ∷ next) (r ∷ rest) u h e =
    let p = kept_parts f input box ranges ns next rest i r e in
    (known_holds (range_in input box ranges ns i) d r (at values i) u p.loaded (h i), loaded_in f d input box ranges ns values next rest u h p.after)

pub kept_long : (f : Format) (input : Range) (box ranges : List Range) (ns : List Node) (next : List ℕ) (rest : List Range) → is_kept f input box ranges ns next rest ≡ true → length rest ≡ length next
kept_long f input box ranges ns [] [] e = refl
kept_long f input box ranges ns [] (r ∷ rest) e = absurd cc
kept_long f input box ranges ns (i ∷ next) [] e = absurd cc
kept_long f input box ranges ns (i ∷ next) (r ∷ rest) e = ap suc (kept_long f input box ranges ns next rest (kept_parts f input box ranges ns next rest i r e).after)

-- its ends are words
pub kept_words : (f : Format) (input : Range) (box ranges : List Range) (ns : List Node) (next : List ℕ) (rest : List Range) → is_kept f input box ranges ns next rest ≡ true → All (λ r. are_words f r ≡ true) rest
kept_words f input box ranges ns [] [] e = All-nil (λ r. are_words f r ≡ true)
kept_words f input box ranges ns [] (r ∷ rest) e = absurd cc
kept_words f input box ranges ns (i ∷ next) [] e = absurd cc
kept_words f input box ranges ns (i ∷ next) (r ∷ rest) e =
    let p = kept_parts f input box ranges ns next rest i r e in
    All-cons (λ r. are_words f r ≡ true) r rest p.words (kept_words f input box ranges ns next rest p.after)

-- ---- registers in the box are in the ranges of their symbols
pub box_symbols : (d : ℤ) (box : List Range) (regs : List ℤ) → BoxIn d box regs → AreIn d (map symbol_of_range box) regs
box_symbols d [] [] a = tt
box_symbols d [] (v ∷ vs) a = absurd a
box_symbols d (r ∷ box) [] a = absurd a
box_symbols d (r ∷ box) (v ∷ vs) a = (symbol_lies d r v a.0, box_symbols d box vs a.1)

-- ---- the induction
-- the network of a netlist, where inputs are from low to high
abbrev pub network : Net → Quantity → ℤ → ℤ → Network
network net q low high = network_of net q (symbol_of_range (range low high))

-- from here on, from registers in the box
pub record IsRun (net : Net) (q : Quantity) (d low high : ℤ) (box : List Range) (samples : List (List ℤ)) : Type 0 where
  pub regs : List ℤ
  pub given : RunsGiven (network net q low high) d regs samples
  pub inside : BoxIn d box regs

-- what a node gives lies in its range
pub given_in : (net : Net) (q : Quantity) (d low high : ℤ) (box ranges : List Range) (values : List ℤ) (samples : List (List ℤ)) (i : ℕ) (r : Range) → pos 0 <ℤ d → IsRun net q d low high box (values ∷ samples) → ShowsIn (network net q low high) d ranges values
    → range_in (range low high) box ranges net.nodes i ≡ Some r → IsIn d r (at values i)
given_in net q d low high box ranges values samples i r o run l e = range_holds net.format q (multiples_of net.format net.nodes) d low high box ranges run.regs net.nodes [] values i r o run.inside run.given.0 l e

-- what the registers are loaded with lies in the box again
pub next_inside : (net : Net) (q : Quantity) (d low high : ℤ) (box ranges : List Range) (values : List ℤ) (samples : List (List ℤ)) → pos 0 <ℤ d → is_kept net.format (range low high) box ranges net.nodes net.next box ≡ true
    → IsRun net q d low high box (values ∷ samples) → ShowsIn (network net q low high) d ranges values → BoxIn d box (map (at values) net.next)
next_inside net q d low high box ranges values samples o k run l =
    loaded_in net.format d (range low high) box ranges net.nodes values net.next box (not_below d o) (λ i r e. given_in net q d low high box ranges values samples i r o run l e) k

pub run_next : (net : Net) (q : Quantity) (d low high : ℤ) (box ranges : List Range) (values : List ℤ) (samples : List (List ℤ)) → pos 0 <ℤ d → is_kept net.format (range low high) box ranges net.nodes net.next box ≡ true
    → IsRun net q d low high box (values ∷ samples) → ShowsIn (network net q low high) d ranges values → IsRun net q d low high box samples
run_next net q d low high box ranges values samples o k run l =
    record { regs = map (at values) net.next; given = run.given.1; inside = next_inside net q d low high box ranges values samples o k run l }

-- from zeros
abbrev pub begun : (net : Net) (q : Quantity) (d low high : ℤ) (box ranges : List Range) (samples : List (List ℤ)) → pos 0 <ℤ d → is_kept net.format (range low high) box ranges net.nodes net.next box ≡ true → RunsGiven (network net q low high) d (zeros (length net.next)) samples
    → IsRun net q d low high box samples
begun net q d low high box ranges samples o kept given =
    record { regs = zeros (length net.next); given = given; inside = zeros_in net.format d (range low high) box ranges net.nodes net.next box (not_below d o) kept }

-- where these ranges keep the box, they hold in every run from zeros
pub box_held : (net : Net) (q : Quantity) (d low high : ℤ) (box ranges : List Range) (samples : List (List ℤ)) → pos 0 <ℤ d → HoldAlways (network net q low high) (map symbol_of_range box) ranges
    → is_kept net.format (range low high) box ranges net.nodes net.next box ≡ true → RunsGiven (network net q low high) d (zeros (length net.next)) samples → All (ShowsIn (network net q low high) d ranges) samples
box_held net q d low high box ranges samples o holds kept given =
    let run = begun net q d low high box ranges samples o kept given in
    holds d o (IsRun net q d low high box) (record {
      registers = λ rest r. r.regs;
      given = λ rest r. r.given;
      inside = λ rest r. box_symbols d box r.regs r.inside;
      next = λ values rest r l. run_next net q d low high box ranges values rest o kept r l;
    }) (box_symbols d box run.regs run.inside) samples run given
