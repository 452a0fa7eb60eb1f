-- The laws of a gain, whose ranges are narrowed.
use Rattle.std.proofs.Common.{◌≡◌, ℕ, suc, refl, sym, subst, ap, ◌∙◌}
use Rattle.std.specs.Prelude.{Result, Ok, Err, IfOk}
use Rattle.std.proofs.Math.IntN.{ℤ}
use Rattle.dsv_base.specs.declared.NoMemory.{NoMemory}
use Rattle.dsv_word.specs.Words.{IsWord}
use Rattle.dsv_netlist.specs.Nodes.{Net}
use Rattle.dsv_netlist.specs.Conditions.{IsNetlist}
use Rattle.dsv_network.specs.declared.outlook.Gain.{Gain}
use Rattle.dsv_network.specs.declared.outlook.Outlook.{Outlook}
use Rattle.dsv_network.specs.declared.outlook.Outlook.TheVariants as outlook
use Rattle.dsv_network.specs.Laws.{IsWithin}
use Rattle.dsv_gain.specs.Gains.{first_gain}
use Rattle.dsv_gain.specs.Narrowing.{narrowed, most_passes, with_narrowed, gain_of}
use Rattle.dsv_gain.specs.Safe.{HoldInRuns, NeverBreaks, IfSafe, GainsAreSafe, GainsAreFoundAgain, AreInsideFor, DepthsForgetStarts}
use Rattle.dsv_network.proofs.Finds.{same_gain}
use Rattle.dsv_network.proofs.Depths.{IsSafe, no_leaving, not_deep}
use Rattle.dsv_gain.proofs.Gains.{first_safe, first_within, none_breaks}
use Rattle.dsv_gain.proofs.Depths.{first_found_again, first_forgets}
use Rattle.dsv_gain.proofs.Narrowed.{narrowed_safe}

-- the gain of the first pass, of which this one has the depth and the narrowed ranges
record IsNarrowed (net : Net) (low high : ℤ) (limit : ℕ) (found : Outlook) (gain : Gain) : Type 0 where
  first : Gain
  found_is : found ≡ outlook.Safe first
  depth : first.depth ≡ gain.depth
  settled : first.settled ≡ gain.settled
  ranges : narrowed most_passes net low high limit first.ranges ≡ gain.ranges

narrowed_is : (net : Net) (low high : ℤ) (limit : ℕ) (found : Outlook) (gain : Gain) → with_narrowed net low high limit found ≡ outlook.Safe gain → IsNarrowed net low high limit found gain
narrowed_is net low high limit (outlook.Safe first) gain e =
    let same = same_gain (record { depth = first.depth; settled = first.settled; ranges = narrowed most_passes net low high limit first.ranges }) gain e in
    record { first = first; found_is = refl; depth = ap (λ (g : Gain). g.depth) same; settled = ap (λ (g : Gain). g.settled) same; ranges = ap (λ (g : Gain). g.ranges) same }
narrowed_is net low high limit (outlook.Leaves sample value) gain e = absurd (no_leaving sample value gain e)
narrowed_is net low high limit outlook.Deep gain e = absurd (not_deep gain e)

gain_parts : (net : Net) (low high : ℤ) (limit : ℕ) (gain : Gain) → gain_of net low high limit ≡ outlook.Safe gain → IsNarrowed net low high limit (first_gain net low high limit) gain
unfolding gain_of
gain_parts net low high limit gain e = narrowed_is net low high limit (first_gain net low high limit) gain e

-- ---- the laws
pub gains_safe : GainsAreSafe
gains_safe net low high limit gain n l h e =
    let p = gain_parts net low high limit gain e in
    subst (HoldInRuns net low high) p.ranges (narrowed_safe most_passes net low high limit p.first.ranges (first_safe net low high limit p.first n l h p.found_is))

again_cases : (net : Net) (low high : ℤ) (limit : ℕ) (found : Outlook) → IsSafe found → IsSafe (with_narrowed net low high limit found)
again_cases net low high limit found s =
    let g = s.0 in
    (record { depth = g.depth; settled = g.settled; ranges = narrowed most_passes net low high limit g.ranges }, ap (with_narrowed net low high limit) s.1)

pub gains_again : GainsAreFoundAgain
unfolding gain_of
gains_again net low high limit gain e =
    let p = narrowed_is net low high limit (first_gain net low high limit) gain e in
    let again = again_cases net low high (suc p.first.depth) (first_gain net low high (suc p.first.depth)) (first_found_again net low high limit p.first p.found_is) in
    subst (λ (d : ℕ). IsSafe (with_narrowed net low high (suc d) (first_gain net low high (suc d)))) p.depth again

pub depths_forget : DepthsForgetStarts
depths_forget net low high limit gain n l h e registers xs r a inside =
    let p = gain_parts net low high limit gain e in
    let before = subst (λ (d : ℕ). AreInsideFor net registers xs d) (sym p.depth) inside in
    subst (λ (d : ℕ). AreInsideFor net registers xs (suc d)) p.depth (first_forgets net low high limit p.first n l h p.found_is registers xs r a before)

-- ---- what the code gives
pub gain_is : (net : Net) (low high : ℤ) (limit : ℕ) (found : Outlook) (o : Result Outlook NoMemory) → found ≡ first_gain net low high limit → IfOk o (λ g. g ≡ with_narrowed net low high limit found) → IfOk o (λ g. g ≡ gain_of net low high limit)
unfolding gain_of
gain_is net low high limit found (Err e) f h = h
gain_is net low high limit found (Ok g) f h = h ∙ ap (with_narrowed net low high limit) f

gain_holds : (net : Net) (low high : ℤ) (limit : ℕ) (g : Outlook) → IsNetlist net → IsWord net.format low → IsWord net.format high → g ≡ gain_of net low high limit → IfSafe g (λ gain. HoldInRuns net low high gain.ranges)
gain_holds net low high limit (outlook.Leaves sample value) n l h e = tt
gain_holds net low high limit outlook.Deep n l h e = tt
gain_holds net low high limit (outlook.Safe gain) n l h e = gains_safe net low high limit gain n l h (sym e)

pub made_holds : (net : Net) (low high : ℤ) (limit : ℕ) (o : Result Outlook NoMemory) → IsNetlist net → IsWord net.format low → IsWord net.format high → IfOk o (λ g. g ≡ gain_of net low high limit)
    → IfOk o (λ g. IfSafe g (λ gain. HoldInRuns net low high gain.ranges))
made_holds net low high limit (Err e) n l h f = f
made_holds net low high limit (Ok g) n l h f = gain_holds net low high limit g n l h f

gain_safe : (net : Net) (low high : ℤ) (g : Outlook) → IfSafe g (λ gain. HoldInRuns net low high gain.ranges) → IfSafe g (λ gain. NeverBreaks net low high)
gain_safe net low high (outlook.Leaves sample value) h = tt
gain_safe net low high outlook.Deep h = tt
gain_safe net low high (outlook.Safe gain) h = none_breaks net low high gain.ranges h

pub holds_safe : (net : Net) (low high : ℤ) (o : Result Outlook NoMemory) → IfOk o (λ g. IfSafe g (λ gain. HoldInRuns net low high gain.ranges)) → IfOk o (λ g. IfSafe g (λ gain. NeverBreaks net low high))
holds_safe net low high (Err e) h = h
holds_safe net low high (Ok g) h = gain_safe net low high g h

-- the depth and the sample that it settled in are below the limit
pub gain_within : (net : Net) (low high : ℤ) (limit : ℕ) (gain : Gain) → gain_of net low high limit ≡ outlook.Safe gain → IsWithin limit gain
gain_within net low high limit gain e =
    let p = gain_parts net low high limit gain e in
    let w = first_within net low high limit p.first p.found_is in
    rw (p.depth, p.settled) at w

answer_within : (net : Net) (low high : ℤ) (limit : ℕ) (g : Outlook) → g ≡ gain_of net low high limit → IfSafe g (IsWithin limit)
answer_within net low high limit (outlook.Leaves sample value) e = tt
answer_within net low high limit outlook.Deep e = tt
answer_within net low high limit (outlook.Safe gain) e = gain_within net low high limit gain (sym e)

pub made_within : (net : Net) (low high : ℤ) (limit : ℕ) (o : Result Outlook NoMemory) → IfOk o (λ g. g ≡ gain_of net low high limit) → IfOk o (λ g. IfSafe g (IsWithin limit))
made_within net low high limit (Err e) f = f
made_within net low high limit (Ok g) f = answer_within net low high limit g f
