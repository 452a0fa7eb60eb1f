-- What the files of a cascade have, and which words they become.
use Rattle.std.specs.Prelude.{◌≡◌, ℕ, suc, List, ◌∷◌, take, slice_get}
use Rattle.std.specs.Prelude.{Some, Ok, Err}
use Rattle.dsv_names.specs.declared.design.Design.{Design}
use Rattle.dsv_reader.specs.Controllers.{ControllerView}
use Rattle.dsv_quantiser.specs.QuantisedView.{QuantisedView}
use Rattle.dsv_quantiser.specs.Modes.{BecomesWords}
use Rattle.dsv_cascade.specs.Sections.{IsRefused}
use Rattle.dsv_report.specs.declared.stop.Stop.{Stop}
use Rattle.dsv_report.specs.declared.stop.Stop.TheVariants as stop
use Rattle.dsv_report.specs.declared.stop.WhichFile.TheVariants as file
use Rattle.dsv_base.specs.Lists.{Pairwise}

-- ---- the files of the sections
-- ---- the sections
-- these controllers become these words in the design
abbrev pub BecomeWords : Design → List ControllerView → List QuantisedView → Type 0
BecomeWords design = Pairwise (λ c q. BecomesWords c design (Ok q))

-- why one of the later controllers doesn't become words, where those before it do
abbrev pub IsLaterRefused : Design → List ControllerView → Stop → Type 0
IsLaterRefused design cs (stop.QuantRefused (file.Section section) r) = (i : ℕ)
    × (c : ControllerView) × (section ≡ suc i) × (slice_get cs i ≡ Some c)
    × (before : List QuantisedView) × BecomeWords design (take i cs) before
    × BecomesWords c design (Err r)
IsLaterRefused design cs stop.NoMemory = Unit {0}
IsLaterRefused design cs other = ⊥

-- why these controllers become no cascade: the first that becomes no words is refused so, or else
-- their words are
abbrev pub IsNoCascade : Design → ControllerView → List ControllerView → Stop → Type 0
IsNoCascade design first later (stop.QuantRefused file.Controller r) =
    BecomesWords first design (Err r)
IsNoCascade design first later (stop.CascadeRefused r) = (q : QuantisedView)
    × (qs : List QuantisedView) × BecomesWords first design (Ok q) × BecomeWords design later qs
    × IsRefused q (q ∷ qs) r
IsNoCascade design first later why = (q : QuantisedView) × BecomesWords first design (Ok q)
    × IsLaterRefused design later why
