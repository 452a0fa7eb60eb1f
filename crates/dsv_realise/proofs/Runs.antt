-- Whole runs of a realisation's netlist are those of its written equations.
use Rattle.std.proofs.Common.{◌≡◌, ℕ, ◌*◌, List, ◌++◌, length, take, drop, refl, ap, subst, arith, length-take, length-drop}
use Rattle.std.proofs.Math.IntN.{ℤ}
use Rattle.std.proofs.lemmas.List.{take-take, take_all, take-append-drop, length-take-le}
use Rattle.dsv_names.specs.declared.realisation.Realisation.{Realisation}
use Rattle.dsv_names.specs.declared.realisation.Realisation.TheVariants.{Dfi, Dfii, Tdfii, Ddfi, Ddfii, Tddfii}
use Rattle.dsv_quantiser.specs.QuantisedView.{QuantisedView, IsQuantisedView}
use Rattle.dsv_system.specs.Runs.{rows_from, past_after}
use Rattle.dsv_system.specs.Systems.{rows, registers_after, behaviour_of, Agree}
use Rattle.dsv_netlist.specs.Systems.{system_of, runs_of}
use Rattle.dsv_meaning.specs.Systems.{equations_of}
use Rattle.dsv_netlist.specs.declared.netlist.OpCounts.{OpCounts}
use Rattle.dsv_meaning.specs.Equations.{order, Past, sample_as, registers_as, start_as, registers_of, forward_registers_of}
use Rattle.dsv_realise.specs.Netlists.{net_as, net_of}
use Rattle.dsv_realise.proofs.Conditions.{net_realised}
use Rattle.dsv_realise.proofs.Follow.{same_rows, same_registers}
use Rattle.dsv_realise.proofs.Sources.{IsSized, sized}
use Rattle.dsv_realise.proofs.Steps.{HasRegisters, FollowsAs, dfi_follows, dfii_follows, tdfii_follows, tddfii_follows}
use Rattle.dsv_realise.proofs.DeltaSteps.{ddfi_follows, ddfii_follows}

follows : (k : Realisation) (q : QuantisedView) (p : Past) (x : ℤ) → IsSized q → HasRegisters k (order q) p → FollowsAs k q p x
follows Dfi q p x s h = dfi_follows q p x s h
follows Dfii q p x s h = dfii_follows q p x s h
follows Tdfii q p x s h = tdfii_follows q p x s h
follows Ddfi q p x s h = ddfi_follows q p x s h
follows Ddfii q p x s h = ddfii_follows q p x s h
follows Tddfii q p x s h = tddfii_follows q p x s h

-- ---- the start
halves : (n : ℕ) (start : List ℤ) → length start ≡ 2 * n → take n (take n start) ++ take n (drop n start) ≡ start
halves n start l =
    let a : take n (take n start) ≡ take n start = take-take n n start (omega arith) in
    let b : take n (drop n start) ≡ drop n start = take_all n (drop n start) (omega (arith, length-drop n start)) in
    rw (a, b) (take-append-drop n start)

start_registers : (k : Realisation) (n : ℕ) (start : List ℤ) → length start ≡ registers_of k n → registers_as k n (start_as k n start) ≡ start
start_registers Dfi n start l = halves n start l
start_registers Dfii n start l = take_all n start (omega arith)
start_registers Tdfii n start l = refl
start_registers Ddfi n start l = take-append-drop n start
start_registers Ddfii n start l = refl
start_registers Tddfii n start l = refl

pub start_has : (k : Realisation) (n : ℕ) (start : List ℤ) → length start ≡ registers_of k n → HasRegisters k n (start_as k n start)
start_has Dfi n start l = (omega (arith, length-take n start), omega (arith, length-drop n start))
start_has Dfii n start l = omega arith
start_has Tdfii n start l = l
start_has Ddfi n start l = (length-take-le n start (omega arith), omega (arith, length-drop n start))
start_has Ddfii n start l = l
start_has Tddfii n start l = l

rows_as : (k : Realisation) (q : QuantisedView) (start xs : List ℤ) → IsSized q → length start ≡ registers_of k (order q) → rows (system_of (net_as k q)) start xs ≡ rows_from (sample_as k q) (start_as k (order q) start) xs
rows_as k q start xs s l =
    let n = order q in
    subst (λ (r : List ℤ). rows (system_of (net_as k q)) r xs ≡ rows_from (sample_as k q) (start_as k n start) xs) (start_registers k n start l)
    (same_rows Past (net_as k q) (registers_as k n) (sample_as k q) (HasRegisters k n) (λ p x h. follows k q p x s h) (start_as k n start) xs (start_has k n start l))

registers_are : (k : Realisation) (q : QuantisedView) (start xs : List ℤ) → IsSized q → length start ≡ registers_of k (order q) → registers_after (system_of (net_as k q)) start xs ≡ registers_as k (order q) (past_after (sample_as k q) (start_as k (order q) start) xs)
registers_are k q start xs s l =
    let n = order q in
    subst (λ (r : List ℤ). registers_after (system_of (net_as k q)) r xs ≡ registers_as k n (past_after (sample_as k q) (start_as k n start) xs)) (start_registers k n start l)
    (same_registers Past (net_as k q) (registers_as k n) (sample_as k q) (HasRegisters k n) (λ p x h. follows k q p x s h) (start_as k n start) xs (start_has k n start l))

-- ---- what the netlist says of itself
forward_of : (k : Realisation) (q : QuantisedView) → (net_as k q).feed_forward ≡ forward_registers_of k (order q)
forward_of Dfi q = refl
forward_of Dfii q = refl
forward_of Tdfii q = refl
forward_of Ddfi q = refl
forward_of Ddfii q = refl
forward_of Tddfii q = refl

format_of : (k : Realisation) (q : QuantisedView) → (net_as k q).format ≡ q.format
format_of Dfi q = refl
format_of Dfii q = refl
format_of Tdfii q = refl
format_of Ddfi q = refl
format_of Ddfii q = refl
format_of Tddfii q = refl

pub runs_alike : (q : QuantisedView) → IsQuantisedView q → Agree (runs_of (net_of q)) (behaviour_of (equations_of q))
runs_alike q h = record {
  many = ap (λ (c : OpCounts). c.moves) (net_realised q h).counts;
  forward = forward_of q.realisation q;
  format = format_of q.realisation q;
  rows = λ start xs l. rows_as q.realisation q start xs (sized q h) l;
  registers = λ start xs l. registers_are q.realisation q start xs (sized q h) l;
}
