-- What rounding does to a controller's outputs.
use Rattle.std.proofs.Common.{◌≡◌, List, [], ◌∷◌, length, drop, map, refl, sym, subst, ap, ◌∙◌}
use Rattle.std.specs.List.{All}
use Rattle.std.proofs.Math.IntN.{ℤ, pos, ◌-ℤ◌, ◌*ℤ◌}
use Rattle.std.proofs.lemmas.List.{length-replicate}
use Rattle.dsv_word.specs.declared.format.Format.{Format}
use Rattle.dsv_system.specs.Breaks.{IsInside}
use Rattle.dsv_system.specs.Runs.{SampleRow}
use Rattle.dsv_system.specs.Systems.{rows, zeros}
use Rattle.dsv_netlist.specs.Nodes.{at}
use Rattle.dsv_netlist.specs.Systems.{system_of}
use Rattle.dsv_meaning.specs.Systems.{equations_of, outputs_over}
use Rattle.dsv_realise.specs.Netlists.{net_of}
use Rattle.dsv_realise.proofs.Runs.{runs_alike}
use Rattle.dsv_roundoff.specs.Differences.{differences, run_differences}
use Rattle.dsv_roundoff.specs.Laws.{scaled, outputs_of, WrittenRunsExist, WrittenRunsAreExact, ControllersRunApart}
use Rattle.dsv_roundoff.proofs.Scaling.{sub_spread, swapped}
use Rattle.dsv_roundoff.proofs.Existence.{runs_exist}
use Rattle.dsv_roundoff.proofs.Differences.{differences_obey, outputs_differ}
use Rattle.dsv_roundoff.proofs.WrittenRuns.{exact_runs_written}
use Rattle.dsv_roundoff.proofs.OneWrittenRun.{written_runs_one}

pub written_runs_exist : WrittenRunsExist
written_runs_exist q z xs =
    let t = runs_exist (net_of q) xs in
    (t.0, outputs_of (net_of q) t.1, t.2, exact_runs_written q z xs t.0 t.1 t.3)

pub written_runs_exact : WrittenRunsAreExact
written_runs_exact q z xs d ys h =
    let t = runs_exist (net_of q) xs in
    (t.0, t.1, t.2, t.3, written_runs_one q xs d t.0 ys (outputs_of (net_of q) t.1) h (exact_runs_written q z xs t.0 t.1 t.3))

one_scaled : (d e w y z : ℤ) → e *ℤ y ≡ d *ℤ z → d *ℤ (e *ℤ w -ℤ z) ≡ e *ℤ (d *ℤ w -ℤ y)
one_scaled d e w y z h = sub_spread d (e *ℤ w) z ∙ rw (swapped e d w, ← h) (sym (sub_spread e (d *ℤ w) y))

differences_scaled : (d e : ℤ) (ws ys zs : List ℤ) → scaled e ys ≡ scaled d zs → scaled d (differences e ws zs) ≡ scaled e (differences d ws ys)
differences_scaled d e [] ys zs h = refl
differences_scaled d e (w ∷ ws) [] [] h = refl
differences_scaled d e (w ∷ ws) [] (z ∷ zs) h = absurd cc
differences_scaled d e (w ∷ ws) (y ∷ ys) [] h = absurd cc
differences_scaled d e (w ∷ ws) (y ∷ ys) (z ∷ zs) h = rw (one_scaled d e w y z (ap (λ (us : List ℤ). at us 0) h)) (ap (λ (us : List ℤ). (e *ℤ (d *ℤ w -ℤ y)) ∷ us) (differences_scaled d e ws ys zs (ap (drop 1) h)))

pub controllers_apart : ControllersRunApart
controllers_apart q z xs inside d ys h =
    let net = net_of q in
    let same = runs_alike q z in
    let start = zeros (equations_of q).many in
    let t = written_runs_exact q z xs d ys h in
    let e = t.0 in
    let many : zeros (length net.next) ≡ start = ap zeros same.many in
    let alike : rows (system_of net) (zeros (length net.next)) xs ≡ rows (equations_of q) start xs = ap (λ (ws : List ℤ). rows (system_of net) ws xs) many ∙ same.rows start xs (length-replicate (equations_of q).many (pos 0)) in
    let words : All (IsInside net.format) (rows (system_of net) (zeros (length net.next)) xs) = subst (λ (f : Format). All (IsInside f) (rows (system_of net) (zeros (length net.next)) xs)) (sym same.format) (subst (λ rs. All (IsInside q.format) rs) (sym alike) inside) in
    let outputs = ap (scaled d) (outputs_differ net xs e t.1 t.3 ∙ ap (λ (rs : List SampleRow). differences e (map (λ (r : SampleRow). r.y) rs) (outputs_of net t.1)) alike) in
    record {
      scale = e;
      samples = run_differences net e (zeros (length net.next)) xs t.1;
      positive = t.2;
      apart = differences_obey net xs words e t.1 t.3;
      outputs = outputs ∙ differences_scaled d e (outputs_over q start xs) ys (outputs_of net t.1) t.4;
    }
