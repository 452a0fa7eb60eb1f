-- Forms that are lost in a step, and forms that are the closed form, are one.
use Rattle.std.proofs.Common.{◌≡◌, ◌∙◌, ◌⊎◌, inl, inr, sym, subst, ℕ, ◌<◌, ◌≤◌, List}
use Rattle.std.specs.Prelude.{IfSome}
use Rattle.std.proofs.lemmas.Bool.{cases_lt}
use Rattle.dsv_algebra.specs.Vectors.{Vector, vector_of, matrix_of, form_at}
use Rattle.std.proofs.Math.IntN.{ℤ}
use Rattle.dsv_forms.specs.declared.offers.Form.{Form}
use Rattle.dsv_forms.specs.declared.offers.Falls.{Falls}
use Rattle.dsv_forms.specs.declared.offers.KeptAway.{KeptAway}
use Rattle.dsv_forms.specs.declared.offers.FormOffer.{FormOffer}
use Rattle.dsv_forms.specs.declared.offers.FormOffer.TheVariants as offered
use Rattle.dsv_forms.specs.FallForm.{IsFallForm}
use Rattle.dsv_forms.specs.Poly.{degree}
use Rattle.dsv_closed_forms.specs.ClosedForm.{closed_form_of}
use Rattle.dsv_cli.specs.OneAnswer.{SameForm}
use Rattle.dsv_cli.specs.Proposers.{HasClosedForm}

both_or_out : (d i j : ℕ) → (i < d) ⊎ (d ≤ i) → (j < d) ⊎ (d ≤ j) → ((i < d) × (j < d)) ⊎ ((d ≤ i) ⊎ (d ≤ j))
both_or_out d i j (inl h) (inl k) = inl (h, k)
both_or_out d i j (inr h) k = inr (inl h)
both_or_out d i j h (inr k) = inr (inr k)

one_entry : (d : ℕ) (c : Vector) (P F G : Form) → IsFallForm d c P F → IsFallForm d c P G → (i j : ℕ) → ((i < d) × (j < d)) ⊎ ((d ≤ i) ⊎ (d ≤ j))
    → matrix_of F.rows i j ≡ matrix_of G.rows i j
one_entry d c P F G h k i j (inl both) = h.entries i j both.0 both.1 ∙ sym (k.entries i j both.0 both.1)
one_entry d c P F G h k i j (inr out) = h.elsewhere i j out ∙ sym (k.elsewhere i j out)

one_fall_form : (d : ℕ) (c : Vector) (P F G : Form) → IsFallForm d c P F → IsFallForm d c P G → SameForm F G
one_fall_form d c P F G h k = record {
  places = h.places ∙ sym k.places;
  entries = λ i j. one_entry d c P F G h k i j (both_or_out d i j (cases_lt i d) (cases_lt j d));
}

abbrev pub Loses : List ℤ → Form → Form → Type 0
Loses poly form fall = IsFallForm (degree poly) (vector_of poly) form fall

pub one_fall : (p q : List ℤ) (P R F G : Form) → p ≡ q → P ≡ R → Loses p P F → Loses q R G → SameForm F G
one_fall p q P R F G e f h k =
    one_fall_form (degree p) (vector_of p) P F G h (subst (λ poly. Loses poly P G) (sym e) (subst (λ form. Loses q form G) (sym f) k))

-- two forms that are the closed form are one
pub one_closed : (p q : List ℤ) (a b : FormOffer) → p ≡ q → HasClosedForm p → IfSome (closed_form_of p) (λ closed. a ≡ closed) → IfSome (closed_form_of q) (λ closed. b ≡ closed) → a ≡ b
one_closed p q a b e c h k =
    let left : a ≡ c.0 = rw c.1 at h in
    let right : b ≡ c.0 = rw (← e, c.1) at k in
    left ∙ sym right

pub offer_falls : (o u : Falls) → offered.Falls o ≡ offered.Falls u → o ≡ u
offer_falls o u e = cc

pub offer_kept_away : (o u : KeptAway) → offered.KeptAway o ≡ offered.KeptAway u → o ≡ u
offer_kept_away o u e = cc

pub kinds_apart : (o : Falls) (u : KeptAway) → offered.Falls o ≡ offered.KeptAway u → ⊥
kinds_apart o u e = cc

-- what a form is at the start
abbrev pub value_of : List ℤ → KeptAway → ℤ
value_of poly offer = form_at (degree poly) (matrix_of offer.form.rows) (vector_of offer.start)
