-- Serves private contracts: what the stages of a check hand on.
use Rattle.std.specs.Prelude.{◌≡◌, ℕ, ◌≤◌, ◌||◌, true, false, List, [], ◌∷◌, int_lt, pos, ◌≤ℤ◌}
use Rattle.dsv_algebra.specs.Vectors.{Matrix, matrix_of}
use Rattle.dsv_names.specs.declared.realisation.Realisation.TheVariants.{Dfi}
use Rattle.dsv_word.specs.Words.{width, hi}
use Rattle.dsv_quantiser.specs.QuantisedView.{QuantisedView}
use Rattle.dsv_meaning.specs.Equations.{order}
use Rattle.dsv_forms.specs.declared.offers.Form.{Form}
use Rattle.dsv_forms.specs.declared.offers.Squares.{Squares}
use Rattle.dsv_forms.specs.declared.refusal.OfferPart.TheVariants as part
use Rattle.dsv_forms.specs.Refusals as forms
use Rattle.dsv_certfile.specs.declared.ellipsoid.Ellipsoid.{Ellipsoid}
use Rattle.dsv_ellipsoid.specs.declared.refusal.EllipsoidRefusal.TheVariants as refusal
use Rattle.dsv_ellipsoid.specs.Good.{form_of}
use Rattle.dsv_ellipsoid.specs.Refusals.{Test, most_ellipsoid_states}

-- the controller and the form pass the first test
pub record IsShaped (q : QuantisedView) (o : Ellipsoid) : Type 0 where
  pub direct : q.realisation ≡ Dfi
  pub narrow : q.wide ≡ false
  pub some : 1 ≤ order q
  pub few : order q ≤ most_ellipsoid_states
  pub symmetric : forms.is_symmetric (order q) (form_of o) ≡ true

-- F stands for the form T of n places: squares show of F what they show of T
pub record StandsFor (n : ℕ) (T : Matrix) (F : Form) : Type 0 where
  pub places : F.d ≡ n
  pub symmetric : forms.is_symmetric n (matrix_of F.rows) ≡ true
  pub tests : (s : Squares)
      → forms.first_of (forms.semidefinite_tests part.Fall n s (matrix_of F.rows) (λ i j. []))
      ≡ forms.first_of (forms.semidefinite_tests part.Fall n s T (λ i j. []))

-- the bound is a word that is 0 or more
pub record HasBound (q : QuantisedView) (o : Ellipsoid) : Type 0 where
  pub low : pos 0 ≤ℤ o.bound
  pub high : o.bound ≤ℤ hi (width q.format)

-- the tests of signs in the parts in which the code has them
abbrev pub step_sign_tests : Ellipsoid → List Test
step_sign_tests o =
    (int_lt o.level (pos 0), refusal.Sign 0)
    ∷ (int_lt o.lambda (pos 0), refusal.Sign 1)
    ∷ (int_lt o.mu (pos 0), refusal.Sign 2) ∷ []

abbrev pub first_sign_tests : QuantisedView → Ellipsoid → List Test
first_sign_tests q o =
    (int_lt o.kappa (pos 1), refusal.Sign 3)
    ∷ (int_lt o.nu (pos 0), refusal.Sign 4)
    ∷ (int_lt o.bound (pos 0) || int_lt (hi (width q.format)) o.bound, refusal.Sign 5) ∷ []
