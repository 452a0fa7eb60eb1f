-- What a check that finds nothing shows.
use Rattle.std.proofs.Common.{◌≡◌, ◌∙◌, sym, ap, subst, Option, Result, Ok, Err, OnOk, IfOk}
use Rattle.std.specs.Result.{IsErrAnd}
use Rattle.dsv_fraction.specs.Ratio.{Ratio}
use Rattle.dsv_reader.specs.Controllers.{ControllerView}
use Rattle.dsv_reader.specs.Plants.{PlantView}
use Rattle.dsv_quantiser.specs.QuantisedView.{QuantisedView}
use Rattle.dsv_quantiser.specs.declared.refusal.QuantRefusal.{QuantRefusal}
use Rattle.dsv_gain.specs.declared.roundoff.ShownError.{ShownError}
use Rattle.dsv_certfile.specs.Texts.{job_of}
use Rattle.dsv_certfile.specs.declared.certificate.Certificate.{Certificate}
use Rattle.dsv_certfile.specs.declared.job.CertifiedJob.{CertifiedJob}
use Rattle.dsv_certcheck.specs.Checks.{Checked, as_checked, format_check, Finds}
use Rattle.dsv_certcheck.specs.Found.{found_of, BecomesFor, IsFoundFor, IsFoundAfter, IsChecked}
use Rattle.dsv_certcheck.specs.Shown.{Shows, IsShownOf, StaysAsOffered, IsNearOf}
use Rattle.dsv_certcheck.specs.declared.check_refusal.CheckRefusal.{CheckRefusal}
use Rattle.dsv_certcheck.specs.declared.check_refusal.CheckRefusal.TheVariants as refusal
use Rattle.dsv_certcheck.proofs.WordsFound.{IsOfWords, found_has}

-- ---- what holds where nothing is found
pub on_ok : {T E P Q : Type 0} (r : Result T E) → (P → Q) → OnOk r P → OnOk r Q
on_ok (Ok x) f h = f h
on_ok (Err e) f h = tt

pub on_ok_three : {T E A B C D : Type 0} (r : Result T E) → (A → B → C → D) → OnOk r A → OnOk r B → OnOk r C → OnOk r D
on_ok_three (Ok x) f a b c = f a b c
on_ok_three (Err e) f a b c = tt

-- ---- the format
-- the format is refused
pub refused_format : (c : ControllerView) (plant : Option PlantView) (cert : Certificate) (job : CertifiedJob) (why : CheckRefusal) (found : Checked) → job ≡ job_of cert → Err why ≡ format_check c job.words
    → found ≡ Err why → IsChecked c plant cert found
refused_format c plant cert job why found e f is =
    subst (λ r. IsFoundAfter r c plant cert found) (f ∙ ap (λ (j : CertifiedJob). format_check c j.words) e) is

-- the format passes
after_format : (c : ControllerView) (plant : Option PlantView) (cert : Certificate) (job : CertifiedJob) (found : Checked) → job ≡ job_of cert → Ok tt ≡ format_check c job.words → IsFoundFor c plant cert found → IsChecked c plant cert found
after_format c plant cert job found e f = subst (λ r. IsFoundAfter r c plant cert found) (f ∙ ap (λ (j : CertifiedJob). format_check c j.words) e)

-- ---- the controller's words
-- of a call that gives something more
pub checked_err : {A : Type 0} (found : Result A CheckRefusal) (why : QuantRefusal) → IsErrAnd found (λ r. r ≡ refusal.Quant why) → IsErrAnd (as_checked found) (λ r. r ≡ refusal.Quant why)
checked_err (Ok x) why h = absurd h
checked_err (Err r) why h = h

pub found_err : (found : Checked) (why : QuantRefusal) → IsErrAnd found (λ r. r ≡ refusal.Quant why) → found ≡ Err (refusal.Quant why)
found_err (Ok x) why h = absurd h
found_err (Err r) why h = ap Err h

-- the controller has no words
pub refused_words : (c : ControllerView) (plant : Option PlantView) (cert : Certificate) (job : CertifiedJob) (why : QuantRefusal) (found : Checked) → job ≡ job_of cert → Ok tt ≡ format_check c job.words
    → BecomesFor c job (Err why) → IsErrAnd found (λ r. r ≡ refusal.Quant why) → IsChecked c plant cert found
refused_words c plant cert job why found e f b h =
    after_format c plant cert job found e f (subst (IsFoundFor c plant cert) (sym (found_err found why h)) (subst (λ j. BecomesFor c j (Err why)) e b))

-- what is found of the words is found of the controller
found_by : (c : ControllerView) (plant : Option PlantView) (cert : Certificate) (q : QuantisedView) (found : Checked) → BecomesFor c (job_of cert) (Ok q) → Finds found (found_of q c.sample_time plant cert) → IsFoundFor c plant cert found
found_by c plant cert q (Err refusal.NoMemory) b h = tt
found_by c plant cert q (Err (refusal.Quant why)) b h = absurd (subst (IsOfWords plant) h (found_has q c.sample_time plant cert))
found_by c plant cert q found b h = record { quantised = q; becomes = b; checked = h }

pub checked_words : (c : ControllerView) (plant : Option PlantView) (cert : Certificate) (job : CertifiedJob) (q : QuantisedView) (time : Ratio) (found : Checked) → job ≡ job_of cert → Ok tt ≡ format_check c job.words
    → BecomesFor c job (Ok q) → time ≡ c.sample_time → Finds found (found_of q time plant cert) → IsChecked c plant cert found
checked_words c plant cert job q time found e f b t h =
    after_format c plant cert job found e f
    (found_by c plant cert q found (subst (λ j. BecomesFor c j (Ok q)) e b) (subst (λ s. Finds found (found_of q s plant cert)) t h))

pub shown_words : {T : Type 0} (c : ControllerView) (plant : Option PlantView) (cert : Certificate) (job : CertifiedJob) (q : QuantisedView) (time : Ratio) (found : Result T CheckRefusal) → job ≡ job_of cert → BecomesFor c job (Ok q)
    → time ≡ c.sample_time → OnOk found (Shows q time plant (job_of cert).property (job_of cert).size) → OnOk found (IsShownOf c plant (job_of cert))
shown_words c plant cert job q time found e b t =
    on_ok found (λ has. record {
      quantised = q;
      becomes = subst (λ j. BecomesFor c j (Ok q)) e b;
      shows = subst (λ s. Shows q s plant (job_of cert).property (job_of cert).size) t has;
    })

pub near_words : (c : ControllerView) (cert : Certificate) (job : CertifiedJob) (q : QuantisedView) (found : Result (Option ShownError) CheckRefusal) → job ≡ job_of cert → BecomesFor c job (Ok q)
    → IfOk found (StaysAsOffered q cert) → IfOk found (IsNearOf c cert)
near_words c cert job q (Ok shown) e b near = record { quantised = q; becomes = subst (λ j. BecomesFor c j (Ok q)) e b; near = near }
near_words c cert job q (Err why) e b near = tt
