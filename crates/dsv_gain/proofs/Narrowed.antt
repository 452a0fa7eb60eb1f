-- The ranges that passes from boxes show hold in every run.
use Rattle.std.proofs.Common.{◌≡◌, ℕ, zero, suc, Bool, true, false, if◌then◌else◌, List, [], ◌∷◌, length, map, refl, sym, subst, ap, ◌∙◌, arith}
use Rattle.std.specs.Prelude.{Option, Some, None, int_lt}
use Rattle.std.specs.List.{All}
use Rattle.std.proofs.Math.IntN.{ℤ, pos, ◌*ℤ◌}
use Rattle.std.proofs.lemmas.Int.{ints}
use Rattle.std.proofs.lemmas.List.Elements.{All-head, All-tail, All-nil, All-cons}
use lib.Signed.{◌≤ℤ◌}
use Rattle.dsv_algebra.specs.Narrow.{narrow_of}
use Rattle.dsv_word.specs.declared.format.Format.{Format}
use Rattle.dsv_word.specs.Words.{IsWord}
use Rattle.dsv_system.specs.Runs.{SampleRow, rows_from}
use Rattle.dsv_system.specs.Systems.{zeros}
use Rattle.dsv_netlist.specs.Nodes.{Net, step_of}
use Rattle.dsv_linear.specs.Facts.{LiesWithin}
use Rattle.dsv_linear.specs.declared.range.Range.{Range}
use Rattle.dsv_linear.specs.Forms.{◌>>=◌, range_scale, range, scaled_range}
use Rattle.dsv_linear.proofs.Numbers.{some_of, narrow_is}
use Rattle.dsv_linear.proofs.Runs.{all_between}
use Rattle.dsv_network.specs.declared.outlook.Gain.{Gain}
use Rattle.dsv_network.specs.declared.outlook.Outlook.{Outlook}
use Rattle.dsv_network.specs.declared.outlook.Outlook.TheVariants as outlook
use Rattle.dsv_network.specs.Gains as networks
use Rattle.dsv_network.proofs.Finds.{gain_holds}
use Rattle.dsv_gain.specs.declared.networks.Quantity.TheVariants as quantity
use Rattle.dsv_gain.specs.Gains.{symbol_of_range, words_network}
use Rattle.dsv_gain.specs.Boxes.{is_kept}
use Rattle.dsv_gain.specs.Narrowing.{all_of, starts_of, kept_ranges, box_ranges, meet, meets, are_narrower, more_known, narrower_ranges, or_else, narrowed}
use Rattle.dsv_gain.specs.Safe.{LieWithin, HoldInRuns}
use Rattle.dsv_gain.proofs.WordRuns.{values_over, run_given, rows_lie}
use Rattle.dsv_gain.proofs.BoxRuns.{box_held}
use Rattle.dsv_gain.proofs.Symbols.{inputs_lie}

-- ---- the symbols of a box
-- what is made of each is what is made of all
all_made : {X Y : Type 0} (make : X → Option Y) (same : X → Y) → ((x : X) (y : Y) → make x ≡ Some y → y ≡ same x) → (xs : List X) (ys : List Y) → all_of make xs ≡ Some ys → ys ≡ map same xs
all_made make same h [] ys e = cc
all_made {X} {Y} make same h (x ∷ xs) ys e =
    let one = some_of (make x) (λ y. all_of make xs >>= λ zs. Some (y ∷ zs)) ys e in
    let two = some_of (all_of make xs) (λ zs. Some (one.0 ∷ zs)) ys one.2 in
    let front : one.0 ∷ two.0 ≡ ys = let g = two.2 in cc in
    sym front ∙ ap (λ (y : Y). y ∷ two.0) (h x one.0 one.1) ∙ ap (λ (zs : List Y). same x ∷ zs) (all_made make same h xs two.0 two.1)

symbol_is : (r s : Range) → scaled_range r ≡ Some s → s ≡ symbol_of_range r
symbol_is r s e =
    let one = some_of (narrow_of (pos range_scale *ℤ r.low)) (λ low. narrow_of (pos range_scale *ℤ r.high) >>= λ high. Some (range low high)) s e in
    let two = some_of (narrow_of (pos range_scale *ℤ r.high)) (λ high. Some (range one.0 high)) s one.2 in
    let same : range one.0 two.0 ≡ s = let g = two.2 in cc in
    sym same ∙ ap (λ low. range low two.0) (narrow_is (pos range_scale *ℤ r.low) one.0 one.1) ∙ ap (λ high. range (pos range_scale *ℤ r.low) high) (narrow_is (pos range_scale *ℤ r.high) two.0 two.1)

-- ---- a pass from a box
-- a gain was found from the box, and its ranges keep it
record IsKept (net : Net) (input : Range) (box : List Range) (found : Outlook) (ranges : List Range) : Type 0 where
  gain : Gain
  found_is : found ≡ outlook.Safe gain
  kept : is_kept net.format input box gain.ranges net.nodes net.next box ≡ true
  same : gain.ranges ≡ ranges

safe_cases : (b : Bool) (net : Net) (input : Range) (box : List Range) (gain : Gain) (ranges : List Range) → is_kept net.format input box gain.ranges net.nodes net.next box ≡ b → (if b then Some gain.ranges else None) ≡ Some ranges
    → IsKept net input box (outlook.Safe gain) ranges
safe_cases true net input box gain ranges k e = record { gain = gain; found_is = refl; kept = k; same = cc }
safe_cases false net input box gain ranges k e = absurd cc

kept_cases : (net : Net) (input : Range) (box : List Range) (found : Outlook) (ranges : List Range) → kept_ranges net input box found ≡ Some ranges → IsKept net input box found ranges
kept_cases net input box (outlook.Safe gain) ranges e = safe_cases (is_kept net.format input box gain.ranges net.nodes net.next box) net input box gain ranges refl e
kept_cases net input box (outlook.Leaves sample value) ranges e = absurd cc
kept_cases net input box outlook.Deep ranges e = absurd cc

kept_safe : (net : Net) (low high : ℤ) (limit : ℕ) (box : List Range) (gain : Gain) → networks.gain_of (words_network net low high) (map symbol_of_range box) limit ≡ outlook.Safe gain
    → is_kept net.format (range low high) box gain.ranges net.nodes net.next box ≡ true → HoldInRuns net low high gain.ranges
kept_safe net low high limit box gain e k xs a =
    let start = zeros (length net.next) in
    let input = symbol_of_range (range low high) in
    let given = run_given net input start xs (inputs_lie low high xs (all_between low high xs a)) in
    rows_lie net input gain.ranges start xs
    (box_held net quantity.Words (pos 1) low high box gain.ranges (values_over net start xs) (omega (arith, ints)) (gain_holds (words_network net low high) (map symbol_of_range box) limit gain e) k given)

box_safe : (net : Net) (low high : ℤ) (limit : ℕ) (box ranges : List Range) → box_ranges net low high limit box ≡ Some ranges → HoldInRuns net low high ranges
box_safe net low high limit box ranges e =
    let search : List Range → Outlook = λ symbols. networks.gain_of (words_network net low high) symbols limit in
    let one = some_of (all_of scaled_range box) (λ symbols. kept_ranges net (range low high) box (search symbols)) ranges e in
    let k = kept_cases net (range low high) box (search one.0) ranges one.2 in
    let symbols = all_made scaled_range symbol_of_range symbol_is box one.0 one.1 in
    subst (HoldInRuns net low high) k.same (kept_safe net low high limit box k.gain (sym (ap search symbols) ∙ k.found_is) k.kept)

-- ---- what lies in both ranges
low_cases : (b : Bool) (f : Format) (x y v : ℤ) → IsWord f x → IsWord f y → x ≤ℤ v → y ≤ℤ v → IsWord f (if b then y else x) × ((if b then y else x) ≤ℤ v)
low_cases true f x y v p q l m = (q, m)
low_cases false f x y v p q l m = (p, l)

high_cases : (b : Bool) (f : Format) (x y v : ℤ) → IsWord f x → IsWord f y → v ≤ℤ x → v ≤ℤ y → IsWord f (if b then y else x) × (v ≤ℤ (if b then y else x))
high_cases true f x y v p q l m = (q, m)
high_cases false f x y v p q l m = (p, l)

meet_holds : (f : Format) (r s : Range) (v : ℤ) → LiesWithin f r.low r.high v → LiesWithin f s.low s.high v → LiesWithin f (meet r s).low (meet r s).high v
meet_holds f r s v a b =
    let low = low_cases (int_lt r.low s.low) f r.low s.low v a.low_word b.low_word a.between.least b.between.least in
    let high = high_cases (int_lt s.high r.high) f r.high s.high v a.high_word b.high_word a.between.most b.between.most in
    record { low_word = low.0; high_word = high.0; between = record { least = low.1; most = high.1 } }

meets_hold : (f : Format) (rs ss : List Range) (vs : List ℤ) → LieWithin f rs vs → LieWithin f ss vs → LieWithin f (meets rs ss) vs
meets_hold f [] [] [] a b = tt
meets_hold f [] (s ∷ ss) [] a b = absurd b
meets_hold f [] ss (v ∷ vs) a b = absurd a
meets_hold f (r ∷ rs) ss [] a b = absurd a
meets_hold f (r ∷ rs) [] (v ∷ vs) a b = absurd b
meets_hold f (r ∷ rs) (s ∷ ss) (v ∷ vs) a b = (meet_holds f r s v a.0 b.0, meets_hold f rs ss vs a.1 b.1)

-- what has P and Q has R
both_hold : {X : Type 0} (P Q R : X → Type 0) → ((x : X) → P x → Q x → R x) → (xs : List X) → All P xs → All Q xs → All R xs
both_hold P Q R h [] a b = All-nil R
both_hold P Q R h (x ∷ xs) a b = All-cons R x xs (h x (All-head P x xs a) (All-head Q x xs b)) (both_hold P Q R h xs (All-tail P x xs a) (All-tail Q x xs b))

meets_safe : (net : Net) (low high : ℤ) (rs ss : List Range) → HoldInRuns net low high rs → HoldInRuns net low high ss → HoldInRuns net low high (meets rs ss)
meets_safe net low high rs ss h k xs a =
    let f = net.format in
    both_hold (λ (r : SampleRow). LieWithin f rs r.exact) (λ (r : SampleRow). LieWithin f ss r.exact) (λ (r : SampleRow). LieWithin f (meets rs ss) r.exact)
    (λ r p q. meets_hold f rs ss r.exact p q) (rows_from (step_of net) (zeros (length net.next)) xs) (h xs a) (k xs a)

-- ---- passes one after another
more_cases : (b : Bool) (net : Net) (low high : ℤ) (ranges found more : List Range) → HoldInRuns net low high ranges → HoldInRuns net low high found → (if b then Some (meets ranges found) else None) ≡ Some more → HoldInRuns net low high more
more_cases true net low high ranges found more h k e = let same : meets ranges found ≡ more = cc in subst (HoldInRuns net low high) same (meets_safe net low high ranges found h k)
more_cases false net low high ranges found more h k e = absurd cc

narrower_safe : (net : Net) (low high : ℤ) (limit : ℕ) (ranges more : List Range) → HoldInRuns net low high ranges → narrower_ranges net low high limit ranges ≡ Some more → HoldInRuns net low high more
narrower_safe net low high limit ranges more h e =
    let one = some_of (starts_of net (range low high) ranges) (λ box. box_ranges net low high limit box >>= more_known ranges) more e in
    let two = some_of (box_ranges net low high limit one.0) (more_known ranges) more one.2 in
    more_cases (are_narrower ranges (meets ranges two.0)) net low high ranges two.0 more h (box_safe net low high limit one.0 two.0 two.1) two.2

else_safe : (net : Net) (low high : ℤ) (ranges : List Range) (next : List Range → List Range) (o : Option (List Range)) → HoldInRuns net low high ranges
    → ((more : List Range) → o ≡ Some more → HoldInRuns net low high (next more)) → HoldInRuns net low high (or_else ranges next o)
else_safe net low high ranges next None h k = h
else_safe net low high ranges next (Some more) h k = k more refl

pub narrowed_safe : (n : ℕ) (net : Net) (low high : ℤ) (limit : ℕ) (ranges : List Range) → HoldInRuns net low high ranges → HoldInRuns net low high (narrowed n net low high limit ranges)
narrowed_safe zero net low high limit ranges h = h
narrowed_safe (suc n) net low high limit ranges h =
    else_safe net low high ranges (narrowed n net low high limit) (narrower_ranges net low high limit ranges) h
    (λ more e. narrowed_safe n net low high limit more (narrower_safe net low high limit ranges more h e))
