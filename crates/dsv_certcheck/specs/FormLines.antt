-- The lines at which an offer of a form that falls is refused.
use Rattle.std.specs.Prelude.{ℕ, ◌+◌, ◌==◌, if◌then◌else◌}
use Rattle.dsv_certfile.specs.declared.job.CertWords.{CertWords}
use Rattle.dsv_forms.specs.declared.offers.Falls.{Falls}
use Rattle.dsv_forms.specs.declared.refusal.FormRefusal.{FormRefusal}
use Rattle.dsv_forms.specs.declared.refusal.FormRefusal.TheVariants as refusal
use Rattle.dsv_forms.specs.declared.refusal.OfferPart.{OfferPart}
use Rattle.dsv_forms.specs.declared.refusal.OfferPart.TheVariants as part
use Rattle.dsv_certcheck.specs.LineNumbers.{kind_line, body_line}

-- the line `positive`, after the rows of the form
abbrev pub positive_line : CertWords → Falls → ℕ
positive_line w offer = body_line w + offer.form.d

-- the line `fall`, after the squares and the rest of the form
abbrev pub fall_line : CertWords → Falls → ℕ
fall_line w offer = positive_line w offer + 1 + offer.positive.count + offer.form.d

-- the line that a part begins with; a form of no places has no row
abbrev pub part_line : CertWords → Falls → OfferPart → ℕ
part_line w offer part.Positive = positive_line w offer
part_line w offer part.Fall = fall_line w offer
part_line w offer other = if offer.form.d == 0 then kind_line w else body_line w

-- the line of a part's square
abbrev pub square_line : CertWords → Falls → OfferPart → ℕ → ℕ
square_line w offer p i = part_line w offer p + 1 + i

-- how many squares a part has
abbrev pub square_count : Falls → OfferPart → ℕ
square_count offer part.Positive = offer.positive.count
square_count offer other = offer.fall.count

-- the line of a row of a part's rest
abbrev pub rest_line : CertWords → Falls → OfferPart → ℕ → ℕ
rest_line w offer p i = part_line w offer p + 1 + square_count offer p + i

-- the line at which what is wrong with an offer stands
abbrev pub form_line : CertWords → Falls → FormRefusal → ℕ
form_line w offer (refusal.Identity p i j) = rest_line w offer p i
form_line w offer (refusal.Weight p i) = square_line w offer p i
form_line w offer (refusal.Triangle p i) = square_line w offer p i
form_line w offer (refusal.Dominance p i) = rest_line w offer p i
form_line w offer (refusal.Wide p i j) = rest_line w offer p i
form_line w offer (refusal.StartNotNegative value) = kind_line w
form_line w offer (refusal.Shape p) = part_line w offer p
