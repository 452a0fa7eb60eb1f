-- For private contracts: what comes of asking proposers of forms.
use Rattle.std.specs.Prelude.{◌≡◌, List, Option, Result, Ok, Err}
use Rattle.dsv_base.specs.declared.memory.NoMemory.{NoMemory}
use Rattle.dsv_forms.specs.declared.offers.FormOffer.{FormOffer}
use Rattle.dsv_jury.specs.declared.verdict.Jury.{Jury}
use Rattle.dsv_lyapunov.specs.declared.kept.KeptForm.{KeptForm}
use Rattle.dsv_lyapunov.specs.declared.checked_form.CheckedForm.{CheckedForm}
use Rattle.dsv_lyapunov.specs.Answers.{offer_in}
use Rattle.dsv_cli.specs.declared.forms.FormAnswer.{FormAnswer}
use Rattle.dsv_cli.specs.declared.forms.FormAnswer.TheVariants as answer
use Rattle.dsv_cli.specs.declared.turns.Turn.{Turn}
use Rattle.dsv_cli.specs.Turns.{offer_of}

-- ---- asking once
-- the offer that came
abbrev pub form_of : Turn CheckedForm KeptForm → Option FormOffer
form_of came = offer_of offer_in (λ (k : KeptForm). k.offer) came

-- ---- asking all
abbrev pub IfChecked : FormAnswer → (CheckedForm → Type 0) → Type 0
IfChecked (answer.Checked found) P = P found
IfChecked (answer.NoForm kept jury) P = Unit {0}

abbrev pub IfNoForm : FormAnswer → (List KeptForm → Jury → Type 0) → Type 0
IfNoForm (answer.Checked found) P = Unit {0}
IfNoForm (answer.NoForm kept jury) P = P kept jury

-- the answer is this offer, checked
abbrev pub IsChecked : Result FormAnswer NoMemory → FormOffer → Type 0
IsChecked (Ok (answer.Checked found)) offer = offer_in found ≡ offer
IsChecked (Ok (answer.NoForm kept jury)) offer = ⊥
IsChecked (Err e) offer = ⊥
