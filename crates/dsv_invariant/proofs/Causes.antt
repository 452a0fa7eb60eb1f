-- What is found of a candidate: three sentences that hold make it good, and a finding is a cause.
use Rattle.std.proofs.Common.{ℕ, List, sym, subst}
use Rattle.std.specs.Prelude.{◌≤ℤ◌}
use Rattle.std.proofs.Math.IntN.{ℤ}
use Rattle.dsv_system.proofs.Agreeing.{agree_back}
use Rattle.dsv_hints.specs.declared.step.Step.{Step}
use Rattle.dsv_hints.specs.Lessons.{IsRefutation}
use Rattle.dsv_meaning.specs.Equations.{Past, order, registers_of}
use Rattle.dsv_meaning.specs.Systems.{equations_of}
use Rattle.dsv_netlist.specs.Systems.{system_of}
use Rattle.dsv_quantiser.specs.QuantisedView.{QuantisedView, IsQuantisedView}
use Rattle.dsv_realise.specs.Netlists.{net_of}
use Rattle.dsv_realise.proofs.Conditions.{net_realised}
use Rattle.dsv_realise.proofs.Runs.{runs_alike}
use Rattle.dsv_system.specs.Breaks.{Breaks}
use Rattle.dsv_template.specs.declared.candidate.Candidate.{Candidate}
use Rattle.dsv_template.specs.declared.verdict.SetPart.TheVariants as part
use Rattle.dsv_template.specs.declared.verdict.Why.{Why}
use Rattle.dsv_template.specs.declared.verdict.Why.TheVariants as why
use Rattle.dsv_template.specs.Kept.{IsKept, IsStepwise}
use Rattle.dsv_template.proofs.KeptSets.{kept_never_breaks}
use Rattle.dsv_template.proofs.Membership.{shaped_parts}
use Rattle.dsv_word.specs.declared.format.Format.{Format}
use Rattle.dsv_word.specs.Words.{width, lo, hi}
use Rattle.dsv_invariant.specs.Causes.{Holds, IsGood, IsFinding, IsShaped, IsCause}
use Rattle.dsv_invariant.specs.Formulas.{set_formula_of}
use Rattle.dsv_invariant.proofs.Stepwise.{net_stepwise, stepwise_alike}
use Rattle.dsv_system.specs.Systems.{behaviour_of}

-- the written equations go on from their registers alone
equations_stepwise : (q : QuantisedView) → IsQuantisedView q → IsStepwise Past (equations_of q) q.xlo q.xhi
equations_stepwise q f =
    let net = net_of q in
    let m = system_of net in
    let e = equations_of q in
    let run = runs_alike q f in
    let low = subst (λ (h : Format). lo (width h) ≤ℤ q.xlo) (sym run.format) f.low in
    let high = subst (λ (h : Format). q.xhi ≤ℤ hi (width h)) (sym run.format) f.high in
    stepwise_alike (List ℤ) Past m e q.xlo q.xhi run (agree_back (behaviour_of m) (behaviour_of e) run) (net_stepwise net q.xlo q.xhi (net_realised q f).netlist low high)

kept_by : (q : QuantisedView) (c : Candidate) → IsShaped q c → Holds q c part.Base → Holds q c part.Step → Holds q c part.Safe → IsKept Past (equations_of q) q.xlo q.xhi c
kept_by q c shaped begins stays safely = record { deep = (shaped_parts (registers_of q.realisation (order q)) c shaped).deep; begins = begins; stays = stays; safe = safely }

-- where the three sentences hold, no list of inputs breaks the controller
pub never_breaks : (q : QuantisedView) (c : Candidate) → IsQuantisedView q → IsShaped q c → Holds q c part.Base → Holds q c part.Step → Holds q c part.Safe
    → (inputs : List ℤ) → Breaks (behaviour_of (equations_of q)) q.xlo q.xhi inputs → ⊥
never_breaks q c f shaped begins stays safely =
    kept_never_breaks Past (equations_of q) q.xlo q.xhi c (equations_stepwise q f) (kept_by q c shaped begins stays safely)

pub good_by : (q : QuantisedView) (conflicts : ℕ) (c : Candidate) (base step safe : List Step) → IsQuantisedView q → IsShaped q c → Holds q c part.Base → Holds q c part.Step → Holds q c part.Safe
    → IsRefutation (set_formula_of q c part.Base) conflicts base → IsRefutation (set_formula_of q c part.Step) conflicts step → IsRefutation (set_formula_of q c part.Safe) conflicts safe
    → IsGood q conflicts c (record { base = base; step = step; safe = safe })
good_by q conflicts c base step safe f shaped begins stays safely b s t =
    record {
      kept = kept_by q c shaped begins stays safely;
      never = never_breaks q c f shaped begins stays safely;
      base = b;
      step = s;
      safe = t;
    }

pub cause_by : (q : QuantisedView) (conflicts : ℕ) (c : Candidate) (found : Why) → IsShaped q c → IsFinding q conflicts c found → IsCause q conflicts c found
cause_by q conflicts c (why.Good logs) s h = (s, h)
cause_by q conflicts c (why.Base inputs) s h = (s, h)
cause_by q conflicts c (why.Leaves start inputs) s h = (s, h)
cause_by q conflicts c (why.Unsafe start input value exact) s h = (s, h)
cause_by q conflicts c (why.Spent part log) s h = (s, h)
cause_by q conflicts c why.BadShape s h = absurd h
