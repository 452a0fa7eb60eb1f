-- A trace shows that a list of inputs breaks a system, and a cycle that a start cycles.
use Rattle.std.proofs.Common.{◌≡◌, ◌∙◌, sym, ap, subst, ℕ, ◌+◌, ◌-◌, ◌≤◌, List, [], ◌∷◌, ◌++◌, length, arith}
use Rattle.std.specs.Prelude.{Some, slice_get, replicate, ℤ, ◌≤ℤ◌}
use Rattle.std.specs.List.{Contains}
use Rattle.std.proofs.lemmas.List.{length-append, length-replicate}
use Rattle.std.proofs.lemmas.List.Elements.{All-append, All-replicate, All-head, Contains-append_left}
use Rattle.std.proofs.lemmas.Option.{get_or_from_slice_get, slice_get_within}
use Rattle.dsv_system.specs.Breaks.{Breaks, IsOutside, IsFirstBreak}
use Rattle.dsv_system.specs.Runs.{SampleRow, rows_from, past_after}
use Rattle.dsv_system.specs.Systems.{System, Behaviour, behaviour_of, rows, zeros, AreInRange}
use Rattle.dsv_system.proofs.RunLemmas.{rows-append}
use Rattle.dsv_meaning.specs.declared.replays.Cycle.{Cycle}
use Rattle.dsv_meaning.specs.declared.replays.Trace.{Trace}
use Rattle.dsv_bounded.specs.Verdicts.{BreaksWithinBy, CyclesWithinBy, IsCycleBy}
use Rattle.dsv_meaning.specs.Traces.{IsTraceBy}

at_contains : {X : Type 0} (xs : List X) (i : ℕ) (x : X) → slice_get xs i ≡ Some x → Contains xs x
at_contains xs i x e = (i, slice_get_within xs i x e, get_or_from_slice_get xs i x x e)

-- the row of a first break is outside
outside : (P : Type 0) (m : System P) (rs : List SampleRow) (sample value : ℕ) (exact : ℤ) → IsFirstBreak m.format rs sample value exact → (r : SampleRow) × Contains rs r × IsOutside m.format r
outside P m rs sample value exact h = (h.row, at_contains rs sample h.row h.here, (exact, at_contains h.row.exact value exact h.first, h.outside))

-- inputs that break still break with more of them in range
more_break : (P : Type 0) (m : System P) (low high : ℤ) (xs ys : List ℤ) → Breaks (behaviour_of m) low high xs → AreInRange low high ys → Breaks (behaviour_of m) low high (xs ++ ys)
more_break P m low high xs ys h r =
    let start = m.start (zeros m.many) in
    record {
      in_range = All-append (λ x. (low ≤ℤ x) × (x ≤ℤ high)) xs ys h.in_range r;
      broken = (
        h.broken.0,
        subst (λ rs. Contains rs h.broken.0) (sym (rows-append m.sample start xs ys))
            (Contains-append_left (rows_from m.sample start xs) (rows_from m.sample (past_after m.sample start xs) ys) h.broken.0 h.broken.1),
        h.broken.2,
      );
    }

-- inputs that break, one at least, with the first of them so often more that they are so many
so_many : (P : Type 0) (m : System P) (low high : ℤ) (samples : ℕ) (xs : List ℤ) → 1 ≤ length xs → length xs ≤ samples → Breaks (behaviour_of m) low high xs
    → (ys : List ℤ) × (length ys ≡ samples) × Breaks (behaviour_of m) low high ys
so_many P m low high samples [] some few h = absurd (omega arith)
so_many P m low high samples (x ∷ xs) some few h =
    let more = replicate (samples - length (x ∷ xs)) x in (
      (x ∷ xs) ++ more,
      length-append (x ∷ xs) more ∙ ap (λ n. length (x ∷ xs) + n) (length-replicate (samples - length (x ∷ xs)) x) ∙ omega (arith, few),
      more_break P m low high (x ∷ xs) more h (All-replicate (λ z. (low ≤ℤ z) × (z ≤ℤ high)) (samples - length (x ∷ xs)) x (All-head (λ z. (low ≤ℤ z) × (z ≤ℤ high)) x xs h.in_range)),
    )

pub trace_breaks : (P : Type 0) (m : System P) (low high : ℤ) (samples : ℕ) (t : Trace) → IsTraceBy (behaviour_of m) low high samples t → BreaksWithinBy (behaviour_of m) low high samples
trace_breaks P m low high samples t h =
    let r = h.replays in
    so_many P m low high samples t.inputs (omega (arith, r.many)) (omega (arith, r.many, h.within))
    (record { in_range = r.in_range; broken = outside P m (rows m (zeros m.many) t.inputs) t.sample t.value t.exact r.breaks })

pub cycle_cycles : (b : Behaviour) (periods : ℕ) (z : Cycle) → IsCycleBy b periods z → CyclesWithinBy b periods
cycle_cycles b periods z h = (z.start, z.period, h.cycles.returns.some, h.within, h.cycles)
