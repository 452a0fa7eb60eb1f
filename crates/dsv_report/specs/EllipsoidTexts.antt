-- The texts of jobs of ellipsoids.
use Rattle.std.specs.Prelude.{ℕ, pos, List, [], ◌∷◌, ◌++◌, codes, ℤ}
use Rattle.std.specs.Fmt.{signed_decimal}
use Rattle.dsv_certfile.specs.declared.ellipsoid.Ellipsoid.{Ellipsoid}
use Rattle.dsv_certfile.specs.declared.fault.TextFault.{TextFault}
use Rattle.dsv_ellipsoid.specs.declared.refusal.EllipsoidRefusal.{EllipsoidRefusal}
use Rattle.dsv_ellipsoid.specs.declared.refusal.EllipsoidRefusal.TheVariants as refusal
use Rattle.dsv_report.specs.Certificates.{fault_name}
use Rattle.dsv_report.specs.Forms.{numbers_line, rows_text}
use Rattle.dsv_report.specs.Fragments.{concatenation}
use Rattle.dsv_report.specs.declared.stop.CertificateFault.TheVariants as fault

-- the level, and the greatest size of an output in the ellipsoid
abbrev pub level_text : Ellipsoid → List ℕ
level_text o = concatenation (codes "ellipsoid level " ∷ signed_decimal o.level ∷ codes " bound "
    ∷ signed_decimal o.bound ∷ codes "\n" ∷ [])

-- the ellipsoid: its level, its bound and its form
abbrev pub in_ellipsoid_text : Ellipsoid → List ℕ
in_ellipsoid_text o = level_text o ++ rows_text (codes "form") o.form

abbrev pub no_offer_text : List ℕ
no_offer_text = codes "cause NO_OFFER\n"

-- ---- refusals
unfoldable pub offer_refused : List ℕ
offer_refused = codes "ELLIPSOID REFUSED line "

-- the first fault of a text that offers no ellipsoid, and its line
abbrev pub offer_fault_text : ℕ → TextFault → List ℕ
offer_fault_text line why = concatenation (offer_refused ∷ signed_decimal (pos line)
    ∷ fault_name (fault.Text why) ∷ [])

-- the code and the name of a refusal of the check
unfoldable pub ellipsoid_code : EllipsoidRefusal → List ℕ
ellipsoid_code refusal.Shape = codes "ELLIPSOID REFUSED 51 SHAPE"
ellipsoid_code (refusal.Sign place) = codes "ELLIPSOID REFUSED 52 SIGN"
ellipsoid_code (refusal.Wide place) = codes "ELLIPSOID REFUSED 53 WIDE"
ellipsoid_code refusal.Level = codes "ELLIPSOID REFUSED 54 LEVEL"
ellipsoid_code (refusal.Step why) = codes "ELLIPSOID REFUSED 55 STEP"
ellipsoid_code (refusal.First why) = codes "ELLIPSOID REFUSED 56 FIRST"
ellipsoid_code refusal.Bound = codes "ELLIPSOID REFUSED 57 BOUND"
ellipsoid_code (refusal.Interval value low high) = codes "ELLIPSOID REFUSED 58 INTERVAL"

-- its numbers: a place, or an exact value with its least and its greatest
abbrev pub ellipsoid_numbers : EllipsoidRefusal → List ℤ
ellipsoid_numbers refusal.Shape = []
ellipsoid_numbers (refusal.Sign place) = pos place ∷ []
ellipsoid_numbers (refusal.Wide place) = pos place ∷ []
ellipsoid_numbers refusal.Level = []
ellipsoid_numbers (refusal.Step why) = []
ellipsoid_numbers (refusal.First why) = []
ellipsoid_numbers refusal.Bound = []
ellipsoid_numbers (refusal.Interval value low high) = pos value ∷ low ∷ high ∷ []

abbrev pub ellipsoid_refusal_text : EllipsoidRefusal → List ℕ
ellipsoid_refusal_text r = numbers_line (ellipsoid_code r) (ellipsoid_numbers r)
