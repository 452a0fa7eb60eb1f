-- How far outputs are from those of exact runs.
use Rattle.std.proofs.Common.{◌≡◌, List, [], ◌∷◌, length, refl, sym, subst, ap, ◌∙◌, arith}
use Rattle.std.specs.Prelude.{Option, Some, None, IfSome, Result, Ok, Err, IfOk}
use Rattle.dsv_base.specs.declared.NoMemory.{NoMemory}
use Rattle.std.specs.List.{All}
use Rattle.std.proofs.Math.IntN.{ℤ, pos, ◌*ℤ◌}
use Rattle.std.proofs.lemmas.Int.{ints}
use Rattle.std.proofs.lemmas.List.Elements.{All-head, All-tail, All-nil, All-cons, All-map, All-weaker}
use lib.Signed.{◌<ℤ◌, ◌≤ℤ◌}
use Rattle.dsv_algebra.proofs.Normaliser.{ring, env, var, times}
use Rattle.dsv_quantiser.specs.QuantisedView.{QuantisedView, IsQuantisedView}
use Rattle.dsv_system.specs.Breaks.{IsInside}
use Rattle.dsv_system.specs.Runs.{SampleRow}
use Rattle.dsv_system.specs.Systems.{rows, zeros}
use Rattle.dsv_meaning.specs.Systems.{equations_of, outputs_over}
use Rattle.dsv_netlist.specs.Nodes.{Net, at}
use Rattle.dsv_linear.specs.declared.range.Range.{Range}
use Rattle.dsv_linear.proofs.Numbers.{times_up, times_back}
use Rattle.dsv_realise.specs.Netlists.{net_of}
use Rattle.dsv_roundoff.specs.Differences as roundoff
use Rattle.dsv_roundoff.specs.Differences.{run_differences}
use Rattle.dsv_roundoff.specs.Laws.{scaled, outputs_of}
use Rattle.dsv_roundoff.proofs.Differences.{differences_obey, outputs_differ}
use Rattle.dsv_roundoff.proofs.Controllers.{controllers_apart}
use Rattle.dsv_gain.specs.Safe.{LieWithin}
use Rattle.dsv_roundoff.specs.declared.offers.RoundoffOffer.{RoundoffOffer}
use Rattle.dsv_gain.specs.declared.roundoff.ErrorBound.{ErrorBound}
use Rattle.dsv_gain.specs.Errors.{error_of}
use Rattle.dsv_gain.specs.Near.{RegistersStayNear, OutputsStayNear, StaysNear, AlwaysNear, ControllersStayNear}
use Rattle.dsv_gain.proofs.Values.{lie_words}
use Rattle.dsv_gain.proofs.BoxRuns.{IsIn}
use Rattle.dsv_gain.proofs.Errors.{bounded, registers_bounded}
use Rattle.dsv_gain.specs.Subjects.{HoldsAlways}
use Rattle.dsv_realise.specs.Controllers.{of_controller}

-- ---- netlists
pub registers_near : RegistersStayNear
registers_near net offer r e xs inside d samples p h =
    registers_bounded net offer r d (run_differences net d (zeros (length net.next)) xs samples) e p (differences_obey net xs inside d samples h)

pub outputs_near : OutputsStayNear
outputs_near net offer r e xs inside d samples p h =
    let start = zeros (length net.next) in
    let apart = run_differences net d start xs samples in
    let all = bounded net offer r d apart e p (differences_obey net xs inside d samples h) in
    subst (All (IsIn d r)) (outputs_differ net xs d samples h) (All-map (IsIn d r) (λ values. at values net.output) apart all)

-- ---- written equations
-- numbers over one denominator that lie in a range, at another
moved : (d s l : ℤ) → d *ℤ (s *ℤ l) ≡ s *ℤ (d *ℤ l)
moved d s l = ring (env (d ∷ s ∷ l ∷ [])) (times (var 0) (times (var 1) (var 2))) (times (var 1) (times (var 0) (var 2))) refl

one_rescaled : (r : Range) (d s v w : ℤ) → pos 0 <ℤ d → pos 0 <ℤ s → d *ℤ v ≡ s *ℤ w → IsIn s r v → IsIn d r w
one_rescaled r d s v w p q e i =
    let up : pos 0 ≤ℤ d = omega (arith, ints, p) in
    let low = rw (moved d s r.low, e) at (times_up d (s *ℤ r.low) v up i.least) in
    let high = rw (moved d s r.high, e) at (times_up d v (s *ℤ r.high) up i.most) in
    record { least = times_back s (d *ℤ r.low) w q low; most = times_back s w (d *ℤ r.high) q high }

rescaled : (r : Range) (d s : ℤ) (vs ws : List ℤ) → pos 0 <ℤ d → pos 0 <ℤ s → scaled d vs ≡ scaled s ws → All (IsIn s r) vs → All (IsIn d r) ws
rescaled r d s [] [] p q e a = All-nil (IsIn d r)
rescaled r d s [] (w ∷ ws) p q e a = absurd cc
rescaled r d s (v ∷ vs) [] p q e a = absurd cc
rescaled r d s (v ∷ vs) (w ∷ ws) p q e a =
    let here : d *ℤ v ≡ s *ℤ w = cc in
    let rest : scaled d vs ≡ scaled s ws = cc in
    All-cons (IsIn d r) w ws (one_rescaled r d s v w p q here (All-head (IsIn s r) v vs a)) (rescaled r d s vs ws p q rest (All-tail (IsIn s r) v vs a))

pub controllers_near : ControllersStayNear
controllers_near q z offer r e xs inside d ys p h =
    let net = net_of q in
    let gives = controllers_apart q z xs inside d ys h in
    let all = bounded net offer r gives.scale gives.samples e gives.positive gives.apart in
    let outs = All-map (IsIn gives.scale r) (λ values. at values net.output) gives.samples all in
    rescaled r d gives.scale (outputs_of net gives.samples) (roundoff.differences d (outputs_over q (zeros (equations_of q).many) xs) ys) p gives.positive gives.outputs outs

-- where a gain's ranges hold, all of them are
pub always_near : (q : QuantisedView) (ranges : List Range) (r : Range) → HoldsAlways (of_controller q) ranges → StaysNear q r → AlwaysNear q r
always_near q ranges r h n xs a d ys p w =
    n xs (All-weaker (λ (row : SampleRow). LieWithin q.format ranges row.exact) (IsInside q.format) (λ row l. lie_words q.format ranges row.exact l) (rows (equations_of q) (zeros (equations_of q).many) xs) (h xs a)) d ys p w

-- ---- what the code gives
shows : (q : QuantisedView) (offer : RoundoffOffer) (o : Option Range) → IsQuantisedView q → o ≡ error_of (net_of q) offer → IfSome o (StaysNear q)
shows q offer None z e = tt
shows q offer (Some r) z e = controllers_near q z offer r (sym e)

pub answer_shows : (q : QuantisedView) (offer : RoundoffOffer) (net : Net) (o : Result (Option Range) NoMemory) → IsQuantisedView q → net ≡ net_of q → IfOk o (λ r. r ≡ error_of net offer) → IfOk o (λ r. IfSome r (StaysNear q))
answer_shows q offer net (Err e) z n h = tt
answer_shows q offer net (Ok r) z n h = shows q offer r z (h ∙ ap (λ m. error_of m offer) n)

-- what is found of a netlist is found of the controller
pub answer_found : (q : QuantisedView) (net : Net) (o : Result (Option ErrorBound) NoMemory) → net ≡ net_of q → IfOk o (λ bound. IfSome bound (λ it. error_of net it.offer ≡ Some it.output)) → IfOk o (λ bound. IfSome bound (λ it. error_of (net_of q) it.offer ≡ Some it.output))
answer_found q net o n h = subst (λ (m : Net). IfOk o (λ bound. IfSome bound (λ it. error_of m it.offer ≡ Some it.output))) n h

pub answer_near : (q : QuantisedView) (o : Result (Option ErrorBound) NoMemory) → IsQuantisedView q → IfOk o (λ bound. IfSome bound (λ it. error_of (net_of q) it.offer ≡ Some it.output)) → IfOk o (λ bound. IfSome bound (λ it. StaysNear q it.output))
answer_near q (Err e) z h = tt
answer_near q (Ok None) z h = tt
answer_near q (Ok (Some bound)) z h = controllers_near q z bound.offer bound.output h
