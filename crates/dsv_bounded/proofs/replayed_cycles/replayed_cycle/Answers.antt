use Rattle.std.proofs.Common.{◌≡◌, ◌∙◌, ap, arith, length, map, sym, subst, take, true, List}
use Rattle.std.proofs.Math.IntN.{ℤ}
use Rattle.std.proofs.lemmas.List.{take_at}
use Rattle.dsv_netlist.specs.Systems.{system_of}
use Rattle.dsv_system.specs.Cycles.{IsLeastPeriod, IsSounding}
use Rattle.dsv_system.specs.Runs.{SampleRow}
use Rattle.dsv_system.specs.Systems.{rows, zeros, behaviour_of}
use Rattle.dsv_bounded.specs.Questions.{IsStart}
use Rattle.dsv_bounded.proofs.CycleLemmas.{cycle_stands}
use Rattle.dsv_bounded.proofs.replayed_cycles.replayed_cycle.Goals as goal

pub returns-then-not-sounding-clause-none : goal.returns-then-not-sounding-clause-none
returns-then-not-sounding-clause-none c = λ p l z.
    let m = system_of c.args.net.now in
    let lasting = rw c.in-Returns.is at c.in_ok-replay.ensures.lasting in
    let heard = lasting p (subst (λ (xs : List ℤ). IsSounding (behaviour_of m) xs p) (sym c.as_slice.ensures) z.sounding) in
    absurd (cc)

pub returns-in_ok-from_slice-in-Returns-clause-cycle : goal.returns-in_ok-from_slice-in-Returns-clause-cycle
returns-in_ok-from_slice-in-Returns-clause-cycle c =
    let net = c.args.net.now in
    let m = system_of net in
    let period = c.in-Returns.period in
    let start = c.start.inside.items.items in
    let new = c.replay_cycle.new.outputs in
    let e = c.in_ok-replay.ensures in
    let returns_least = rw c.in-Returns.is at e.least in
    let returns_few = rw c.in-Returns.is at e.few in
    let returns_sounding = rw c.in-Returns.is at e.sounding in
    let returns_outputs = rw c.in-Returns.is at e.outputs in
    let same : c.as_slice.result.now ≡ start = c.as_slice.ensures ∙ sym c.start.view_is in
    let stands : IsStart net start = subst (IsStart net) (sym c.start.view_is) (record { many = c.requires.many; quiet = c.requires.quiet; words = c.requires.words }) in
    let least = subst (λ (xs : List ℤ). IsLeastPeriod (behaviour_of m) xs period) same returns_least in
    let loud : c.in-Returns.sounding ≡ true = cc in
    let sounding = subst (λ (xs : List ℤ). IsSounding (behaviour_of m) xs period) same (returns_sounding loud) in
    let room : length new ≡ c.in_ok-outputs.outputs.len = omega (arith, c.replay_cycle.ensures.room, c.in_ok-outputs.ensures.len) in
    let written : c.deref.result.now ≡ new = c.deref.ensures.value ∙ take_at new _ c.in_ok-outputs.outputs.len room in
    let ys = c.in_ok-from_slice-in-Returns.ensures ∙ (ap (take period) written ∙ (returns_outputs ∙ ap (λ (xs : List ℤ). map (λ (r : SampleRow). r.y) (rows m xs (zeros period))) same)) in
    let z = cycle_stands net start c.in_ok-from_slice-in-Returns.field-0 period stands least sounding ys in
    record { cycles = z.cycles; least = z.least; within = returns_few; gives = z.gives }
