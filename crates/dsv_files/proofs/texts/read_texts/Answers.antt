use Rattle.std.proofs.Common.{◌≡◌, rules, inr, [], ◌∷◌, map}
use Rattle.std.specs.Prelude.{Err}
use Rattle.dsv_command.specs.Views.{names_view}
use Rattle.dsv_files.specs.Digests.{section_named, plant_named}
use Rattle.dsv_files.specs.Files.{a_plant}
use Rattle.dsv_files.proofs.FileBytes.{file_earlier}
use Rattle.dsv_files.proofs.LoggedDigests.{logged_more, logged_earlier}
use Rattle.dsv_files.proofs.texts.read_texts.Goals as goal

-- ---- a loop
pub returns-in_err-plant-in-Loop-clause-unread : goal.returns-in_err-plant-in-Loop-clause-unread
returns-in_err-plant-in-Loop-clause-unread g c =
    let old = g.F.Files.seen c.args.files.now in
    let then = g.F.Files.seen c.read_controller-in-Loop.new.files in
    let new = g.F.Files.seen c.read_plant_file.new.files in
    let why = c.in_err-plant-in-Loop.field-0.0 in
    let is : c.from_residual-in_err-plant-in-Loop.result ≡ Err why = search rules in
    let first = c.in_ok-controller-in-Loop in
    rw (is, c.in-Loop.is) (inr (first.controller, first.ensures.controller, file_earlier a_plant old then new c.in-Loop.plant.now why c.read_controller-in-Loop.ensures.kept first.ensures.came c.in_err-plant-in-Loop.ensures.unread))

pub returns-in_ok-plant-in-Loop-clause-digests : goal.returns-in_ok-plant-in-Loop-clause-digests
returns-in_ok-plant-in-Loop-clause-digests g c =
    let old = g.F.Files.seen c.args.files.now in
    let then = g.F.Files.seen c.read_controller-in-Loop.new.files in
    let middle = c.read_controller-in-Loop.new.digests in
    rw c.in-Loop.is
    (logged_more old (section_named c.in-Loop.file.now ∷ []) (plant_named c.in-Loop.plant.now ∷ []) c.args.digests.now middle c.read_plant_file.new.digests c.in_ok-controller-in-Loop.ensures.digest
    (logged_earlier old then (plant_named c.in-Loop.plant.now ∷ []) middle c.read_plant_file.new.digests c.read_controller-in-Loop.ensures.kept c.in_ok-plant-in-Loop.ensures.digest))

-- ---- a cascade's
pub returns-in_err-plant-in-CascadeLoop-clause-unread : goal.returns-in_err-plant-in-CascadeLoop-clause-unread
returns-in_err-plant-in-CascadeLoop-clause-unread g c =
    let old = g.F.Files.seen c.args.files.now in
    let then = g.F.Files.seen c.read_sections-in-CascadeLoop.new.files in
    let new = g.F.Files.seen c.read_plant_file-in-CascadeLoop.new.files in
    let why = c.in_err-plant-in-CascadeLoop.field-0.0 in
    let is : c.from_residual-in_err-plant-in-CascadeLoop.result ≡ Err why = search rules in
    let found = c.in_ok-sections-in-CascadeLoop.sections in
    let have = c.in_ok-sections-in-CascadeLoop.ensures in
    rw (is, c.in-CascadeLoop.is)
    (inr (inr (found.first, found.later.items, have.first, have.later, file_earlier a_plant old then new c.in-CascadeLoop.plant.now why c.read_sections-in-CascadeLoop.ensures.kept have.came c.in_err-plant-in-CascadeLoop.ensures.unread)))

pub returns-in_ok-plant-in-CascadeLoop-clause-digests : goal.returns-in_ok-plant-in-CascadeLoop-clause-digests
returns-in_ok-plant-in-CascadeLoop-clause-digests g c =
    let old = g.F.Files.seen c.args.files.now in
    let then = g.F.Files.seen c.read_sections-in-CascadeLoop.new.files in
    let middle = c.read_sections-in-CascadeLoop.new.digests in
    let first = section_named c.in-CascadeLoop.file.now ∷ map section_named (names_view c.in-CascadeLoop.later.items) in
    rw c.in-CascadeLoop.is
    (logged_more old first (plant_named c.in-CascadeLoop.plant.now ∷ []) c.args.digests.now middle c.read_plant_file-in-CascadeLoop.new.digests c.in_ok-sections-in-CascadeLoop.ensures.digests
    (logged_earlier old then (plant_named c.in-CascadeLoop.plant.now ∷ []) middle c.read_plant_file-in-CascadeLoop.new.digests c.read_sections-in-CascadeLoop.ensures.kept c.in_ok-plant-in-CascadeLoop.ensures.digest))
