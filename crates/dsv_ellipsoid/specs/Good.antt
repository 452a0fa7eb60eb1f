-- Offers of ellipsoids, and what they show.
--
-- With v = (y(n-1), .., y(n-N)) and the companion matrix C of the denominator, 2^f times the next
-- state is C v + (g, 0, .., 0) while nothing is fitted, where g is the disturbance. V is the form
-- of the offer.
use Rattle.std.specs.Prelude.{◌≡◌, ℕ, suc, ◌≤◌, ◌==◌, false, if◌then◌else◌, List, reverse}
use Rattle.std.specs.Prelude.{ℤ, pos, ◌+ℤ◌, ◌-ℤ◌, ◌*ℤ◌, ◌<ℤ◌, ◌≤ℤ◌}
use Rattle.std.specs.List.{All, AllZip}
use Rattle.dsv_algebra.specs.Vectors.{Vector, Matrix, form_at, vector_of, matrix_of, congruence}
use Rattle.dsv_algebra.specs.Companion.{companion}
use Rattle.dsv_names.specs.declared.realisation.Realisation.TheVariants.{Dfi}
use Rattle.dsv_word.specs.Words.{width, hi}
use Rattle.dsv_quantiser.specs.QuantisedView.{QuantisedView, unit}
use Rattle.dsv_system.specs.Breaks.{Breaks}
use Rattle.dsv_system.specs.Runs.{SampleRow}
use Rattle.dsv_system.specs.Systems.{rows, zeros, AreInRange, behaviour_of}
use Rattle.dsv_meaning.specs.Equations.{order}
use Rattle.dsv_meaning.specs.Systems.{equations_of, outputs_over}
use Rattle.dsv_certfile.specs.declared.ellipsoid.Ellipsoid.{Ellipsoid}
use Rattle.dsv_ellipsoid.specs.Intervals.{LiesIn, HasInterval, AreWords, output_interval}
use Rattle.dsv_ellipsoid.specs.Intervals.{sample_intervals}
use Rattle.dsv_ellipsoid.specs.Disturbance.{greatest_disturbance}

abbrev pub form_of : Ellipsoid → Matrix
form_of o = matrix_of o.form.rows

-- the companion matrix of c with a last column for the disturbance, which goes into the first place
abbrev pub disturbed : ℕ → Vector → Matrix
disturbed d c i j = if j == d then (if i == 0 then pos 1 else pos 0) else companion c i j

-- P in the first d places, m in the next one
abbrev pub bordered : ℕ → Matrix → ℤ → Matrix
bordered d P m i j =
    if i == d then (if j == d then m else pos 0)
    else if j == d then pos 0 else P i j

-- The step form, in v and the disturbance: lambda V(v) + mu g^2 - V(C v + (g, 0, .., 0)).
abbrev pub step_form : ℕ → Vector → Ellipsoid → Matrix
step_form d c o i j = bordered d (λ k l. o.lambda *ℤ form_of o k l) o.mu i j
    -ℤ congruence d (form_of o) (disturbed d c) i j

-- The first form: nu V(v) - kappa v_1^2.
abbrev pub first_form : Ellipsoid → Matrix
first_form o i j = o.nu *ℤ form_of o i j
    -ℤ (if i == 0 then (if j == 0 then o.kappa else pos 0) else pos 0)

-- the offer is good for the controller
pub record IsGood (q : QuantisedView) (o : Ellipsoid) : Type 0 where
  pub direct : q.realisation ≡ Dfi
  pub narrow : q.wide ≡ false
  pub some : 1 ≤ order q
  pub level : pos 0 ≤ℤ o.level
  pub lambda : pos 0 ≤ℤ o.lambda
  pub mu : pos 0 ≤ℤ o.mu
  pub kappa : pos 1 ≤ℤ o.kappa
  pub nu : pos 0 ≤ℤ o.nu
  pub bound_low : pos 0 ≤ℤ o.bound
  pub bound_high : o.bound ≤ℤ hi (width q.format)
  -- a step from the ellipsoid, whatever the disturbance is, ends in it
  pub falls : (o.lambda *ℤ o.level
      +ℤ o.mu *ℤ (greatest_disturbance q *ℤ greatest_disturbance q))
      ≤ℤ (unit q.format *ℤ unit q.format *ℤ o.level)
  pub step : (v : Vector)
      → pos 0 ≤ℤ form_at (suc (order q)) (step_form (order q) (vector_of q.a) o) v
  -- in the ellipsoid the last output doesn't pass the bound
  pub first : (v : Vector) → pos 0 ≤ℤ form_at (order q) (first_form o) v
  pub far : (o.nu *ℤ o.level) <ℤ (o.kappa *ℤ ((o.bound +ℤ pos 1) *ℤ (o.bound +ℤ pos 1)))
  -- while no output passes the bound, each exact value is a word
  pub inside : All (AreWords q.format) (sample_intervals q o.bound)

-- no list of inputs in range, of any length, breaks the controller
abbrev pub NeverBreaks : QuantisedView → Type 0
NeverBreaks q = (xs : List ℤ) → Breaks (behaviour_of (equations_of q)) q.xlo q.xhi xs → ⊥

-- each exact value of a sample lies in its interval, and its output in the bound
pub record IsKeptSample (q : QuantisedView) (o : Ellipsoid) (r : SampleRow) : Type 0 where
  pub exact : AllZip HasInterval r.exact (sample_intervals q o.bound)
  pub output : LiesIn (output_interval o.bound) r.y

-- the outputs of a run over these inputs, from registers of zeros, the newest first
abbrev pub last_outputs : QuantisedView → List ℤ → List ℤ
last_outputs q xs = reverse (outputs_over q (zeros (equations_of q).many) xs)

-- the run over these inputs, from registers of zeros, is kept
pub record IsKept (q : QuantisedView) (o : Ellipsoid) (xs : List ℤ) : Type 0 where
  pub samples : All (IsKeptSample q o) (rows (equations_of q) (zeros (equations_of q).many) xs)
  -- after it V of the last outputs is at most the level; those before the first are 0
  pub level : form_at (order q) (form_of o) (vector_of (last_outputs q xs)) ≤ℤ o.level

-- in all runs over inputs in range, from registers of zeros, each sample is kept, and V of the last
-- outputs is never greater than the level
abbrev pub StaysKept : QuantisedView → Ellipsoid → Type 0
StaysKept q o = (xs : List ℤ) → AreInRange q.xlo q.xhi xs → IsKept q o xs
