use Rattle.std.proofs.Common.{rules, ◌≡◌, ℕ, List, [], ◌∷◌, Bor, map, inr, arith}
use Rattle.std.specs.Prelude.{Err}
use Rattle.std.proofs.lemmas.List.{length-map}
use Rattle.dsv_files.specs.JobTexts.{AreControllers, IsLaterUnread}
use Rattle.dsv_files.proofs.Pairwise.{pairs_long}
use Rattle.dsv_files.proofs.LaterFiles.{files_earlier, later_earlier}
use Rattle.dsv_files.proofs.LoggedDigests.{logged_more, logged_earlier}
use Rattle.dsv_files.specs.Digests.{AreLogged, section_named}
use Rattle.dsv_files.proofs.section_files.read_sections.Goals as goal
use Rattle.dsv_files.specs.Files.{a_controller, IsFileOf}

abbrev texts : List (Bor (List ℕ)) → List (List ℕ)
texts names = map (λ name. name.now) names

pub returns-in_err-later-clause-unread : goal.returns-in_err-later-clause-unread
returns-in_err-later-clause-unread g c =
    let old = g.F.Files.seen c.args.files.now in
    let then = g.F.Files.seen c.read_controller.new.files in
    let new = g.F.Files.seen c.read_later.new.files in
    let why = c.in_err-later.field-0.0 in
    let names = texts c.args.later.now.items in
    let is : c.from_residual-in_err-later.result ≡ Err why = search rules in
    let unread : IsLaterUnread then new names why = rw c.as_slice.ensures.value at c.in_err-later.ensures.unread in
    rw is (inr (c.in_ok-controller.controller, c.in_ok-controller.ensures.controller, later_earlier old then new names why c.read_controller.ensures.kept c.in_ok-controller.ensures.came unread))

pub returns-clause-later : goal.returns-clause-later
returns-clause-later g c =
    let old = g.F.Files.seen c.args.files.now in
    let then = g.F.Files.seen c.read_controller.new.files in
    let names = texts c.args.later.now.items in
    let later : AreControllers then names c.in_ok-later.later.items = rw c.as_slice.ensures.value at c.in_ok-later.ensures.controllers in
    files_earlier old then names c.in_ok-later.later.items c.read_controller.ensures.kept later

pub invariant_of-result : goal.invariant_of-result
invariant_of-result g c =
    let then = g.F.Files.seen c.read_controller.new.files in
    let slice = c.as_slice.result.now in
    omega (arith, pairs_long (IsFileOf a_controller then) (texts slice) c.in_ok-later.later.items c.in_ok-later.ensures.controllers, length-map slice (λ (n : Bor (List ℕ)). n.now), c.as_slice.ensures.fits)

pub returns-clause-digests : goal.returns-clause-digests
returns-clause-digests g c =
    let old = g.F.Files.seen c.args.files.now in
    let then = g.F.Files.seen c.read_controller.new.files in
    let others = map section_named (texts c.args.later.now.items) in
    let later : AreLogged then others c.read_controller.new.digests c.read_later.new.digests = rw c.as_slice.ensures.value at c.in_ok-later.ensures.digests in
    logged_more old (section_named c.args.first.now ∷ []) others c.args.digests.now c.read_controller.new.digests c.read_later.new.digests c.in_ok-controller.ensures.digest
    (logged_earlier old then others c.read_controller.new.digests c.read_later.new.digests c.read_controller.ensures.kept later)
