-- The range of a box and a depth holds the output's difference in every sample of every run.
use Rattle.std.proofs.Common.{◌≡◌, ℕ, Bool, true, false, if◌then◌else◌, List, [], ◌∷◌, ◌++◌, length, map, refl, sym, subst, ◌∙◌, arith}
use Rattle.std.specs.Prelude.{Some, None, ◌&&◌}
use Rattle.std.specs.List.{All}
use Rattle.std.proofs.Math.IntN.{ℤ, pos, ◌*ℤ◌}
use Rattle.std.proofs.lemmas.Int.{ints}
use Rattle.std.proofs.lemmas.List.{length-map}
use Rattle.std.proofs.lemmas.List.Elements.{All-head, All-tail, All-nil, All-cons}
use lib.Signed.{◌<ℤ◌, ◌≤ℤ◌}
use Rattle.dsv_word.specs.declared.format.Format.{Format}
use Rattle.dsv_system.specs.Systems.{zeros}
use Rattle.dsv_netlist.specs.declared.node.Node.{Node}
use Rattle.dsv_netlist.specs.declared.node.Node.TheVariants.{Input, Reg, MulConst, Round, Add, Sub, Fit, Scale}
use Rattle.dsv_netlist.specs.Nodes.{Net, at}
use Rattle.dsv_linear.specs.declared.range.Range.{Range}
use Rattle.dsv_linear.specs.Facts.{Between}
use Rattle.dsv_linear.specs.Known.{is_word, are_words}
use Rattle.dsv_linear.specs.Meaning.{LiesIn}
use Rattle.dsv_linear.proofs.Words.{is_word-true}
use Rattle.dsv_linear.proofs.Numbers.{some_of, times_up, times_none}
use Rattle.dsv_roundoff.specs.Differences.{errors_at, multiples_of, HasError, AreDifferences, RunsApart}
use Rattle.dsv_roundoff.specs.declared.offers.WordRange.{WordRange}
use Rattle.dsv_roundoff.specs.declared.offers.RoundoffOffer.{RoundoffOffer}
use Rattle.dsv_network.specs.declared.signal.Signal.{Signal}
use Rattle.dsv_network.specs.Gains.{none_range}
use Rattle.dsv_network.specs.Runs.{IsNear, AreGiven, RunsGiven, ShowsIn}
use Rattle.dsv_network.proofs.Holding.{depth_holds}
use Rattle.dsv_gain.specs.declared.networks.Quantity.TheVariants as quantity
use Rattle.dsv_gain.specs.Networks.{near_of, signal_of}
use Rattle.dsv_gain.specs.Gains.{symbol_of_range}
use Rattle.dsv_gain.specs.Near.{HasWords, AreInBox, OffersFit}
use Rattle.dsv_gain.specs.Boxes.{range_in, is_kept}
use Rattle.dsv_gain.specs.Errors.{range_from, differences_network, differences_at, kept_range, error_of}
use Rattle.dsv_gain.proofs.Symbols.{symbol_lies}
use Rattle.dsv_gain.proofs.WordRuns.{near_given}
use Rattle.dsv_gain.proofs.BoxRuns.{IsIn, BoxIn, no_range, kept_long, kept_words, IsRun, given_in, next_inside, run_next, begun, box_held}

-- ---- differences are a run of their network
abbrev parts : Format → List Bool → List Node → List Signal
parts f says ns = map (signal_of f quantity.Differences says (symbol_of_range none_range)) ns

silence_lies : (d w : ℤ) → w ≡ pos 0 → LiesIn d (symbol_of_range none_range) w
silence_lies d w h = let z = times_none d in symbol_lies d none_range w (record { least = omega (arith, ints, h, z); most = omega (arith, ints, h, z) })

error_near : (f : Format) (says : List Bool) (i : ℕ) (d v w : ℤ) → pos 0 ≤ℤ d → HasError f (errors_at f says i) d v w → IsNear (near_of f says i) d v w
error_near f says i d v w u h =
    let near = near_of f says i in
    let b = h.between in
    let least = times_up d near.errors.low h.error u b.least in
    let most = times_up d h.error near.errors.high u b.most in
    let both : Between (d *ℤ near.errors.low) (d *ℤ near.errors.high) (d *ℤ h.error) = record { least = least; most = most } in
    near_given near d v w (subst (λ (z : ℤ). Between (d *ℤ near.errors.low) (d *ℤ near.errors.high) z) (sym h.is) both) refl

differences_given : (f : Format) (says : List Bool) (d : ℤ) (regs : List ℤ) (ns : List Node) (before values : List ℤ) → pos 0 ≤ℤ d → AreDifferences f says d regs before ns values → AreGiven f d regs before (parts f says ns) values
differences_given f says d regs [] before [] u h = tt
differences_given f says d regs [] before (w ∷ values) u h = absurd h
differences_given f says d regs (n ∷ ns) before [] u h = absurd h
differences_given f says d regs (Input ∷ ns) before (w ∷ values) u h = (silence_lies d w h.0, differences_given f says d regs ns (before ++ w ∷ []) values u h.1)
differences_given f says d regs (Reg r ∷ ns) before (w ∷ values) u h = (h.0, differences_given f says d regs ns (before ++ w ∷ []) values u h.1)
differences_given f says d regs (MulConst c i ∷ ns) before (w ∷ values) u h = (h.0, differences_given f says d regs ns (before ++ w ∷ []) values u h.1)
differences_given f says d regs (Round i ∷ ns) before (w ∷ values) u h = (error_near f says i d (at before i) w u h.0, differences_given f says d regs ns (before ++ w ∷ []) values u h.1)
differences_given f says d regs (Add i j ∷ ns) before (w ∷ values) u h = (h.0, differences_given f says d regs ns (before ++ w ∷ []) values u h.1)
differences_given f says d regs (Sub i j ∷ ns) before (w ∷ values) u h = (h.0, differences_given f says d regs ns (before ++ w ∷ []) values u h.1)
differences_given f says d regs (Fit i ∷ ns) before (w ∷ values) u h = (h.0, differences_given f says d regs ns (before ++ w ∷ []) values u h.1)
differences_given f says d regs (Scale i ∷ ns) before (w ∷ values) u h = (h.0, differences_given f says d regs ns (before ++ w ∷ []) values u h.1)

run_given : (net : Net) (d : ℤ) (regs : List ℤ) (samples : List (List ℤ)) → pos 0 ≤ℤ d → RunsApart net d regs samples → RunsGiven (differences_network net) d regs samples
run_given net d regs [] u h = tt
run_given net d regs (values ∷ samples) u h =
    (differences_given net.format (multiples_of net.format net.nodes) d regs net.nodes [] values u h.0, run_given net d (map (at values) net.next) samples u h.1)

-- ---- a box that is kept
record IsKept (net : Net) (box ranges : List Range) (r : Range) : Type 0 where
  kept : is_kept net.format none_range box ranges net.nodes net.next box ≡ true
  output : range_in none_range box ranges net.nodes net.output ≡ Some r

kept_cases : (b : Bool) (net : Net) (box ranges : List Range) (r : Range) → is_kept net.format none_range box ranges net.nodes net.next box ≡ b → (if b then range_in none_range box ranges net.nodes net.output else None) ≡ Some r → IsKept net box ranges r
kept_cases true net box ranges r k e = record { kept = k; output = e }
kept_cases false net box ranges r k e = absurd (no_range r e)

-- ---- in each sample
abbrev Apart : Net → ℤ → List Range → List (List ℤ) → Type 0
Apart net d box samples = IsRun net quantity.Differences d (pos 0) (pos 0) box samples

abbrev Lies : Net → ℤ → List Range → List ℤ → Type 0
Lies net d ranges values = ShowsIn (differences_network net) d ranges values

-- the output's difference
outputs_in : (net : Net) (d : ℤ) (box ranges : List Range) (out : Range) (samples : List (List ℤ)) → pos 0 <ℤ d → IsKept net box ranges out → Apart net d box samples → All (Lies net d ranges) samples → All (λ values. IsIn d out (at values net.output)) samples
outputs_in net d box ranges out [] p k r a = All-nil (λ (values : List ℤ). IsIn d out (at values net.output))
outputs_in net d box ranges out (values ∷ samples) p k r a =
    let l = All-head (Lies net d ranges) values samples a in
    let g = quantity.Differences in
    All-cons (λ (values : List ℤ). IsIn d out (at values net.output)) values samples
    (given_in net g d (pos 0) (pos 0) box ranges values samples net.output out p r l k.output)
    (outputs_in net d box ranges out samples p k (run_next net g d (pos 0) (pos 0) box ranges values samples p k.kept r l) (All-tail (Lies net d ranges) values samples a))

-- a run of differences from registers without any, whose fitted differences lie in these ranges
record IsHeld (net : Net) (box : List Range) (out : Range) (d : ℤ) (samples : List (List ℤ)) : Type 0 where
  all : List Range
  kept : IsKept net box all out
  run : Apart net d box samples
  always : All (Lies net d all) samples

offer_held : (net : Net) (offer : RoundoffOffer) (out : Range) (d : ℤ) (samples : List (List ℤ)) → error_of net offer ≡ Some out → pos 0 <ℤ d → RunsApart net d (zeros (length net.next)) samples
    → IsHeld net (map range_from offer.ranges) out d samples
unfolding error_of
offer_held net offer out d samples e p apart =
    let box = map range_from offer.ranges in
    let one = some_of (differences_at net box offer.depth) (kept_range net box) out e in
    let k = kept_cases (is_kept net.format none_range box one.0 net.nodes net.next box) net box one.0 out refl one.2 in
    let up : pos 0 ≤ℤ d = omega (arith, ints, p) in
    let g = quantity.Differences in
    let given = run_given net d (zeros (length net.next)) samples up apart in
    record {
      all = one.0;
      kept = k;
      run = begun net g d (pos 0) (pos 0) box one.0 samples p k.kept given;
      always = box_held net g d (pos 0) (pos 0) box one.0 samples p (depth_holds (differences_network net) (map symbol_of_range box) offer.depth one.0 one.1) k.kept given;
    }

-- the range of an offer holds the output's differences
pub bounded : (net : Net) (offer : RoundoffOffer) (out : Range) (d : ℤ) (samples : List (List ℤ)) → error_of net offer ≡ Some out → pos 0 <ℤ d → RunsApart net d (zeros (length net.next)) samples
    → All (λ values. IsIn d out (at values net.output)) samples
bounded net offer out d samples e p apart =
    let held = offer_held net offer out d samples e p apart in
    outputs_in net d (map range_from offer.ranges) held.all out samples p held.kept held.run held.always

-- and its box those of the registers
boxed : (d : ℤ) (box : List WordRange) (values : List ℤ) → BoxIn d (map range_from box) values → AreInBox d box values
boxed d [] [] a = tt
boxed d [] (v ∷ values) a = absurd a
boxed d (w ∷ box) [] a = absurd a
boxed d (w ∷ box) (v ∷ values) a = (a.0, boxed d box values a.1)

registers_in : (net : Net) (d : ℤ) (box : List WordRange) (ranges : List Range) (samples : List (List ℤ)) → pos 0 <ℤ d → is_kept net.format none_range (map range_from box) ranges net.nodes net.next (map range_from box) ≡ true → Apart net d (map range_from box) samples
    → All (Lies net d ranges) samples → All (λ values. AreInBox d box (map (at values) net.next)) samples
registers_in net d box ranges [] p k r a = All-nil (λ (values : List ℤ). AreInBox d box (map (at values) net.next))
registers_in net d box ranges (values ∷ samples) p k r a =
    let here = All-head (Lies net d ranges) values samples a in
    let list = map range_from box in
    let g = quantity.Differences in
    All-cons (λ (values : List ℤ). AreInBox d box (map (at values) net.next)) values samples
    (boxed d box (map (at values) net.next) (next_inside net g d (pos 0) (pos 0) list ranges values samples p k r here))
    (registers_in net d box ranges samples p k (run_next net g d (pos 0) (pos 0) list ranges values samples p k r here) (All-tail (Lies net d ranges) values samples a))

pub registers_bounded : (net : Net) (offer : RoundoffOffer) (out : Range) (d : ℤ) (samples : List (List ℤ)) → error_of net offer ≡ Some out → pos 0 <ℤ d → RunsApart net d (zeros (length net.next)) samples
    → All (λ values. AreInBox d offer.ranges (map (at values) net.next)) samples
registers_bounded net offer out d samples e p apart =
    let held = offer_held net offer out d samples e p apart in
    registers_in net d offer.ranges held.all samples p held.kept.kept held.run held.always

-- ---- an offer that shows a range
words_cases : (p q : Bool) (f : Format) (w : WordRange) → is_word f w.low ≡ p → is_word f w.high ≡ q → (p && q) ≡ true → HasWords f w
words_cases true true f w a b e = record { low = is_word-true f w.low a; high = is_word-true f w.high b }
words_cases true false f w a b e = absurd cc
words_cases false q f w a b e = absurd cc

words_from : (f : Format) (list : List WordRange) → All (λ r. are_words f r ≡ true) (map range_from list) → All (HasWords f) list
words_from f [] a = All-nil (HasWords f)
words_from f (w ∷ list) a =
    let rest = map range_from list in
    All-cons (HasWords f) w list (words_cases (is_word f w.low) (is_word f w.high) f w refl refl (All-head (λ r. are_words f r ≡ true) (range_from w) rest a)) (words_from f list (All-tail (λ r. are_words f r ≡ true) (range_from w) rest a))

pub offers_fit : OffersFit
unfolding error_of
offers_fit net offer out e =
    let box = map range_from offer.ranges in
    let one = some_of (differences_at net box offer.depth) (kept_range net box) out e in
    let k = kept_cases (is_kept net.format none_range box one.0 net.nodes net.next box) net box one.0 out refl one.2 in
    record {
      many = sym (length-map offer.ranges range_from) ∙ kept_long net.format none_range box one.0 net.nodes net.next box k.kept;
      words = words_from net.format offer.ranges (kept_words net.format none_range box one.0 net.nodes net.next box k.kept);
    }
