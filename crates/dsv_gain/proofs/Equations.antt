-- From a netlist to whatever agrees with it: what is found of a netlist's runs of any length is so of
-- a controller's written equations, of a cascade, or of whatever else the netlist is made of.
use Rattle.std.proofs.Common.{◌≡◌, List, sym, subst}
use Rattle.std.specs.Prelude.{Result, Ok, Err, IfOk}
use Rattle.std.specs.List.{All}
use Rattle.std.proofs.Math.IntN.{ℤ}
use Rattle.dsv_base.specs.declared.NoMemory.{NoMemory}
use Rattle.dsv_word.specs.declared.format.Format.{Format}
use Rattle.dsv_system.specs.Runs.{SampleRow}
use Rattle.dsv_system.specs.Systems.{Behaviour, Agree, zeros}
use Rattle.dsv_linear.specs.declared.range.Range.{Range}
use Rattle.dsv_system.proofs.Agreeing.{agree_back, breaks_agree, zero_rows}
use Rattle.dsv_network.specs.declared.outlook.Gain.{Gain}
use Rattle.dsv_network.specs.declared.outlook.Outlook.{Outlook}
use Rattle.dsv_network.specs.declared.outlook.Outlook.TheVariants as outlook
use Rattle.dsv_gain.specs.Safe.{LieWithin, HoldsBy, NeverBy, IfSafe}

-- ---- behaviours that agree
pub holds_agree : (b c : Behaviour) (low high : ℤ) (ranges : List Range) → Agree b c → HoldsBy b low high ranges → HoldsBy c low high ranges
holds_agree b c low high ranges h all xs a =
    subst (λ (f : Format). All (λ (r : SampleRow). LieWithin f ranges r.exact) (c.rows (zeros c.many) xs)) h.format
    (subst (λ (rs : List SampleRow). All (λ (r : SampleRow). LieWithin b.format ranges r.exact) rs) (zero_rows b c xs h) (all xs a))

pub never_agree : (b c : Behaviour) (low high : ℤ) → Agree b c → NeverBy b low high → NeverBy c low high
never_agree b c low high h never xs k = never xs (breaks_agree c b low high xs (agree_back b c h) k)

-- ---- what the code gives
-- what is said of a gain that may have been found
safe_as : (P Q : Gain → Type 0) (o : Result Outlook NoMemory) → ((g : Gain) → P g → Q g) → IfOk o (λ g. IfSafe g P) → IfOk o (λ g. IfSafe g Q)
safe_as P Q (Err e) f h = tt
safe_as P Q (Ok (outlook.Safe gain)) f h = f gain h
safe_as P Q (Ok other) f h = tt

-- over inputs from `l` to `h`, which are `low` and `high`
pub gain_holds : (b c : Behaviour) (low high l h : ℤ) (o : Result Outlook NoMemory) → Agree b c → l ≡ low → h ≡ high → IfOk o (λ g. IfSafe g (λ gain. HoldsBy b l h gain.ranges))
    → IfOk o (λ g. IfSafe g (λ gain. HoldsBy c low high gain.ranges))
gain_holds b c low high l h o r x y =
    safe_as (λ gain. HoldsBy b l h gain.ranges) (λ gain. HoldsBy c low high gain.ranges) o (λ gain holds. holds_agree b c low high gain.ranges r (rw (sym x, sym y) holds))

pub gain_safe : (b c : Behaviour) (low high l h : ℤ) (o : Result Outlook NoMemory) → Agree b c → l ≡ low → h ≡ high → IfOk o (λ g. IfSafe g (λ gain. NeverBy b l h))
    → IfOk o (λ g. IfSafe g (λ gain. NeverBy c low high))
gain_safe b c low high l h o r x y =
    safe_as (λ gain. NeverBy b l h) (λ gain. NeverBy c low high) o (λ gain never. never_agree b c low high r (rw (sym x, sym y) never))
