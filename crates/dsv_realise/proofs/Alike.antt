-- A trace that replays by a behaviour replays by each that agrees with it.
use Rattle.std.proofs.Common.{ℕ}
use Rattle.std.specs.Prelude.{Result, Ok, Err, Option, Some, None, IfOk, IfSome}
use Rattle.std.proofs.Math.IntN.{ℤ}
use Rattle.dsv_base.specs.declared.NoMemory.{NoMemory}
use Rattle.dsv_system.specs.Systems.{Behaviour, Agree}
use Rattle.dsv_meaning.specs.Traces.{IsTraceBy}
use Rattle.dsv_meaning.specs.declared.replays.Trace.{Trace}
use Rattle.dsv_system.proofs.Agreeing.{replays_agree}

pub trace_agree : (b c : Behaviour) (low high : ℤ) (samples : ℕ) (t : Trace) → Agree b c → IsTraceBy b low high samples t → IsTraceBy c low high samples t
trace_agree b c low high samples t a h = record {
  replays = replays_agree b c low high t.inputs t.outputs t.sample t.value t.exact a h.replays;
  within = h.within;
}

-- a trace that may have been found
pub found_agree : (b c : Behaviour) (low high : ℤ) (samples : ℕ) (o : Result (Option Trace) NoMemory) → Agree b c
    → IfOk o (λ t. IfSome t (IsTraceBy b low high samples)) → IfOk o (λ t. IfSome t (IsTraceBy c low high samples))
found_agree b c low high samples (Err e) a h = tt
found_agree b c low high samples (Ok None) a h = tt
found_agree b c low high samples (Ok (Some t)) a h = trace_agree b c low high samples t a h
