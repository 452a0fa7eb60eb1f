-- Why the files of a cascade's sections aren't those of controllers.
use Rattle.std.proofs.Common.{◌≡◌, ◌<◌, ◌≤◌, ℕ, zero, suc, List, [], ◌∷◌, length, take, map, get_or, Bor, refl, ◌∙◌, arith}
use Rattle.std.specs.Prelude.{Some, slice_get}
use Rattle.dsv_base.specs.Seen.{FilesSeen, AreKept}
use Rattle.dsv_reader.specs.Controllers.{ControllerView}
use Rattle.dsv_report.specs.declared.stop.Stop.{Stop}
use Rattle.dsv_report.specs.declared.stop.Stop.TheVariants as stop
use Rattle.dsv_files.specs.JobTexts.{AreControllers, IsLaterUnread}
use Rattle.dsv_files.proofs.FileBytes.{file_earlier, text_earlier}
use Rattle.dsv_files.proofs.Pairwise.{pairs_weaker}
use Rattle.dsv_files.specs.Files.{a_controller, a_section, IsFileOf, IsUnread}

-- ---- files after others
pub files_earlier : (old then : FilesSeen) (names : List (List ℕ)) (cs : List ControllerView) → AreKept old then → AreControllers then names cs → AreControllers old names cs
files_earlier old then names cs k h = pairs_weaker (IsFileOf a_controller then) (IsFileOf a_controller old) names cs (λ name c f. text_earlier a_controller old then name c k f) h

-- ---- later files
-- the file at this place isn't a controller's, and those before it are
pub later_unread : (old new : FilesSeen) (names : List (List ℕ)) (i : ℕ) (name : List ℕ) (before : List ControllerView) (why : Stop) → slice_get names i ≡ Some name → AreControllers old (take i names) before
    → IsUnread (a_section (suc i)) old new name why → IsLaterUnread old new names why
later_unread old new names i name before stop.NoMemory e h u = tt
later_unread old new names i name before why e h u = (i, name, e, before, h, u)

pub later_earlier : (old then new : FilesSeen) (names : List (List ℕ)) (why : Stop) → AreKept old then → old.came ≤ then.came → IsLaterUnread then new names why → IsLaterUnread old new names why
later_earlier old then new names stop.NoMemory k l h = tt
later_earlier old then new names why k l h =
    let i = h.0 in
    (i, h.1, h.2, h.3, files_earlier old then (take i names) h.3 k h.4, file_earlier (a_section (suc i)) old then new h.1 why k l h.5)

pub kept_on : (old then new : FilesSeen) → AreKept old then → AreKept then new → AreKept old new
kept_on old then new a b = record { held = b.held ∙ a.held; faults = omega (arith, a.faults, b.faults) }

-- the text of a name, in the list of the names' texts
pub named : (names : List (Bor (List ℕ))) (i : ℕ) (d : Bor (List ℕ)) → i < length names → (get_or names i d).now ≡ get_or (map (λ (n : Bor (List ℕ)). n.now) names) i (get_or names i d).now
named [] i d l = absurd (omega arith)
named (n ∷ names) zero d l = refl
named (n ∷ names) (suc i) d l = named names i d (omega arith)
