-- Why controllers become no cascade, and the forms of sections.
use Rattle.std.proofs.Common.{◌≡◌, ◌<◌, ◌≤◌, ◌+◌, ℕ, suc, List, [], ◌∷◌, length, take, get_or, refl, arith}
use Rattle.std.specs.Prelude.{Ok, Err, ℤ}
use Rattle.std.specs.List.{All}
use Rattle.std.proofs.lemmas.List.Elements.{All-nil, All-cons}
use Rattle.std.proofs.lemmas.Option.{slice_get_read}
use Rattle.dsv_names.specs.declared.design.Design.{Design}
use Rattle.dsv_reader.specs.Controllers.{ControllerView}
use Rattle.dsv_quantiser.specs.QuantisedView.{QuantisedView}
use Rattle.dsv_quantiser.specs.Modes.{BecomesWords}
use Rattle.dsv_quantiser.specs.declared.refusal.QuantRefusal.{QuantRefusal}
use Rattle.dsv_forms.specs.declared.offers.Form.{Form}
use Rattle.dsv_lyapunov.specs.Answers.{IsStable, IsKeptAwayFrom}
use Rattle.dsv_cascade.specs.Stability.{AreStable, AreJudged}
use Rattle.dsv_cascade.specs.declared.stability.CascadeForms.{CascadeForms}
use Rattle.dsv_cascade.specs.declared.stability.CascadeForms.TheVariants as forms
use Rattle.dsv_cascade.specs.declared.stability.SectionFault.TheVariants as fault
use Rattle.dsv_cascade.specs.declared.stability.SectionOffer.{SectionOffer}
use Rattle.dsv_report.specs.Printing.{SectionHasPlaces, FormsHavePlaces}
use Rattle.dsv_report.specs.declared.stop.Stop.{Stop}
use Rattle.dsv_report.specs.declared.stop.Stop.TheVariants as stop
use Rattle.dsv_report.specs.declared.stop.WhichFile.TheVariants as file
use Rattle.dsv_cli.specs.Cascades.{BecomeWords, IsLaterRefused, IsNoCascade}

-- ---- controllers that become no cascade
pub later_refused : (design : Design) (cs : List ControllerView) (i section : ℕ) (c : ControllerView) (before : List QuantisedView) (r : QuantRefusal) (why : Stop) → section ≡ i + 1 → i < length cs → c ≡ get_or cs i c
    → BecomeWords design (take i cs) before → why ≡ stop.QuantRefused (file.Section section) r → BecomesWords c design (Err r) → IsLaterRefused design cs why
later_refused design cs i section c before r why n l e h is refused =
    let m : section ≡ suc i = omega arith in
    rw is (i, c, m, slice_get_read cs (length cs) i c refl l e, before, h, refused)

pub no_later : (design : Design) (first : ControllerView) (later : List ControllerView) (q : QuantisedView) (why : Stop) → BecomesWords first design (Ok q) → IsLaterRefused design later why → IsNoCascade design first later why
no_later design first later q (stop.QuantRefused (file.Section section) r) w h = (q, w, h)
no_later design first later q stop.NoMemory w h = (q, w, tt)
no_later design first later q why w h = absurd h

-- ---- forms
stable_places : (poly : List ℤ) (form fall : Form) → IsStable poly form fall → (form.d ≤ 8) × (fall.d ≤ 8)
stable_places poly form fall h =
    let d : form.d ≤ 8 = omega (arith, h.places, h.few) in
    (d, omega (arith, h.fall_form.places, h.few))

away_places : (poly : List ℤ) (form : Form) (start : List ℤ) (fall : Form) (value : ℤ) → IsKeptAwayFrom poly form start fall value → (form.d ≤ 8) × (fall.d ≤ 8)
away_places poly form start fall value h =
    let d : form.d ≤ 8 = omega (arith, h.places, h.few) in
    (d, omega (arith, h.fall_form.places, h.few))

offers_places : (sections : List QuantisedView) (offers : List SectionOffer) → AreStable sections offers → All SectionHasPlaces offers
offers_places [] [] h = All-nil SectionHasPlaces
offers_places [] (s ∷ ss) h = absurd h
offers_places (q ∷ qs) [] h = absurd h
offers_places (q ∷ qs) (s ∷ ss) h = All-cons SectionHasPlaces s ss (stable_places s.poly s.offer.form s.fall h.0.stable) (offers_places qs ss h.1)

pub judged_places : (sections : List QuantisedView) (found : CascadeForms) → AreJudged sections found → FormsHavePlaces found
judged_places sections (forms.Falls offers) h = offers_places sections offers h
judged_places sections (forms.NotAll section (fault.KeptAway poly offer fall value)) h = away_places poly offer.form offer.start fall value h.2.2
judged_places sections (forms.NotAll section (fault.Wide index)) h = tt
judged_places sections (forms.NotAll section (fault.NoClosedForm index)) h = tt
