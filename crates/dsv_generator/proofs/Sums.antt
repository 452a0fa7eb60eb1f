-- The counts of a tally add up, and its logs are in the order of their controllers.
use Rattle.std.proofs.Common.{◌≡◌, ℕ, zero, suc, ◌+◌, ◌<◌, Bool, true, false, not, List, [], ◌∷◌, ◌++◌, length, refl, ◌∙◌, arith, length-append}
use Rattle.dsv_hints.specs.declared.search.Searched.{Searched}
use Rattle.dsv_hints.specs.declared.search.Searched.TheVariants as searched
use Rattle.dsv_meaning.specs.declared.replays.Trace.{Trace}
use Rattle.dsv_tally.specs.declared.tally.SpentLog.{SpentLog}
use Rattle.dsv_tally.specs.declared.tally.Tally.{Tally}
use Rattle.dsv_generator.specs.Tallies.{one_if, does_fall, is_never, does_happen, is_spent, with_log, IsTally, none, more, AreRising, AddsUp, IsBelow}

one_of_two : (b : Bool) → one_if b + one_if (not b) ≡ 1
one_of_two true = refl
one_of_two false = refl

one_of_three : (f : Searched Trace) → one_if (is_never f) + one_if (does_happen f) + one_if (is_spent f) ≡ 1
one_of_three (searched.Never log) = refl
one_of_three (searched.Happens trace) = refl
one_of_three (searched.Spent log) = refl

-- ---- logs
more_logs : (n : ℕ) (f : Searched Trace) (logs : List SpentLog) → length (with_log n f logs) ≡ length logs + one_if (is_spent f)
more_logs n (searched.Never log) logs = omega arith
more_logs n (searched.Happens trace) logs = omega arith
more_logs n (searched.Spent log) logs = omega (arith, length-append logs (record { index = n; log = log } ∷ []))

rising_later : (least n : ℕ) (logs : List SpentLog) → AreRising least logs n → AreRising least logs (suc n)
rising_later least n [] h = omega (arith, h)
rising_later least n (s ∷ logs) h = (h.0, rising_later (suc s.index) n logs h.1)

rising_more : (least n : ℕ) (logs : List SpentLog) (s : SpentLog) → s.index ≡ n → AreRising least logs n → AreRising least (logs ++ s ∷ []) (suc n)
rising_more least n [] s e h = (omega (arith, e, h), omega (arith, e))
rising_more least n (t ∷ logs) s e h = (h.0, rising_more (suc t.index) n logs s e h.1)

rising_with : (n : ℕ) (f : Searched Trace) (logs : List SpentLog) → AreRising 0 logs n → AreRising 0 (with_log n f logs) (suc n)
rising_with n (searched.Never log) logs h = rising_later 0 n logs h
rising_with n (searched.Happens trace) logs h = rising_later 0 n logs h
rising_with n (searched.Spent log) logs h = rising_more 0 n logs (record { index = n; log = log }) refl h

-- ---- sums
pub adds_up : (seed n : ℕ) (t : Tally) (logs : List SpentLog) → IsTally seed n t logs → AddsUp n t logs
adds_up seed zero t logs none = record { counted = refl; stability = refl; minimum_phase = refl; overflow = refl; kept = refl; rising = omega arith }
adds_up seed (suc k) t logs (more n before kept words f so is has) =
    let sum = adds_up seed n before kept so in
    record {
      counted = omega (arith, sum.counted);
      stability = omega (arith, sum.stability, one_of_two (does_fall f.stability));
      minimum_phase = omega (arith, sum.minimum_phase, one_of_two (does_fall f.minimum_phase));
      overflow = omega (arith, sum.overflow, one_of_three f.overflow);
      kept = more_logs n f.overflow kept ∙ omega (arith, sum.kept);
      rising = rising_with n f.overflow kept sum.rising;
    }

-- before the last of so many controllers, all numbers are below the number of them
pub tally_below : (seed n limit : ℕ) (t : Tally) (logs : List SpentLog) → IsTally seed n t logs → n < limit → IsBelow limit t
tally_below seed n limit t logs is few =
    let sum = adds_up seed n t logs is in
    record {
      count = omega (arith, few, sum.counted);
      stable = omega (arith, few, sum.stability);
      unstable = omega (arith, few, sum.stability);
      minimum = omega (arith, few, sum.minimum_phase);
      nonminimum = omega (arith, few, sum.minimum_phase);
      safe = omega (arith, few, sum.overflow);
      overflow = omega (arith, few, sum.overflow);
      spent = omega (arith, few, sum.overflow);
    }
