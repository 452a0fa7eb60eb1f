use Rattle.std.proofs.Common.{rules, ◌≡◌, ◌<◌, ◌≤◌, ◌+◌, ℕ, suc, List, [], ◌∷◌, Bor, get_or, length, take, map, refl, sym, subst, arith}
use Rattle.std.specs.Prelude.{Err}
use Rattle.std.proofs.lemmas.List.{length-map, take_all}
use Rattle.std.proofs.lemmas.Option.{slice_get_read}
use Rattle.dsv_files.proofs.Pairwise.{pairs_more}
use Rattle.dsv_files.proofs.LaterFiles.{later_unread, kept_on, named}
use Rattle.dsv_files.proofs.FileBytes.{file_earlier, text_earlier}
use Rattle.dsv_files.proofs.LoggedDigests.{logged_more, logged_earlier, sections_more}
use Rattle.dsv_files.specs.Digests.{AreLogged, section_named}
use Rattle.dsv_files.proofs.section_files.read_later.Goals as goal
use Rattle.dsv_files.specs.Files.{a_controller, a_section, IsFileOf, IsUnread}

abbrev texts : List (Bor (List ℕ)) → List (List ℕ)
texts names = map (λ name. name.now) names

pub returns-in_err-controller-clause-unread : goal.returns-in_err-controller-clause-unread
returns-in_err-controller-clause-unread g c =
    let old = g.F.Files.seen c.args.files.now in
    let then = g.F.Files.seen c.loop-i.files in
    let new = g.F.Files.seen c.read_controller.new.files in
    let i = c.loop-i.i in
    let no_name : Bor (List ℕ) = record { ref_ptr = (0, 0); now = [] } in
    let name = get_or c.args.names.now i no_name in
    let why = c.in_err-controller.field-0.0 in
    let is : c.from_residual.result ≡ Err why = search rules in
    let inside : i < length c.args.names.now = c.loop-i-test.true in
    let long : i < length (texts c.args.names.now) = omega (arith, inside, length-map c.args.names.now (λ (n : Bor (List ℕ)). n.now)) in
    let next : i + 1 ≡ suc i = omega arith in
    let unread : IsUnread (a_section (suc i)) then new name.now why = subst (λ (section : ℕ). IsUnread (a_section section) then new name.now why) next c.in_err-controller.ensures.unread in
    rw is (later_unread old new (texts c.args.names.now) i name.now c.loop-i.controllers.items why
    (slice_get_read (texts c.args.names.now) (length (texts c.args.names.now)) i name.now refl long (named c.args.names.now i no_name inside))
    c.loop-i.invariant.0 (file_earlier (a_section (suc i)) old then new name.now why c.loop-i.invariant.1 c.loop-i.invariant.2 unread))

pub loop-i-preserved : goal.loop-i-preserved
loop-i-preserved g c =
    let old = g.F.Files.seen c.args.files.now in
    let then = g.F.Files.seen c.loop-i.files in
    let new = g.F.Files.seen c.read_controller.new.files in
    let i = c.loop-i.i in
    let no_name : Bor (List ℕ) = record { ref_ptr = (0, 0); now = [] } in
    let name = get_or c.args.names.now i no_name in
    let inside : i < length c.args.names.now = c.loop-i-test.true in
    let long : i < length (texts c.args.names.now) = omega (arith, inside, length-map c.args.names.now (λ (n : Bor (List ℕ)). n.now)) in
    let came : then.came ≤ new.came = c.in_ok-controller.ensures.came in (
      rw c.in_ok-push_item.ensures (pairs_more (IsFileOf a_controller old) (texts c.args.names.now) c.loop-i.controllers.items i name.now c.in_ok-controller.controller long
          (named c.args.names.now i no_name inside) c.loop-i.invariant.0 (text_earlier a_controller old then name.now c.in_ok-controller.controller c.loop-i.invariant.1 c.in_ok-controller.ensures.controller)),
      kept_on old then new c.loop-i.invariant.1 c.read_controller.ensures.kept,
      omega (arith, c.loop-i.invariant.2, came),
      subst (λ files. AreLogged old files c.args.digests.now c.read_controller.new.digests) (sym (sections_more (texts c.args.names.now) i name.now long (named c.args.names.now i no_name inside)))
          (logged_more old (map section_named (take i (texts c.args.names.now))) (section_named name.now ∷ []) c.args.digests.now c.loop-i.digests c.read_controller.new.digests c.loop-i.invariant.3
          (logged_earlier old then (section_named name.now ∷ []) c.loop-i.digests c.read_controller.new.digests c.loop-i.invariant.1 c.in_ok-controller.ensures.digest)),
    )

pub returns-clause-digests : goal.returns-clause-digests
returns-clause-digests g c =
    let names = texts c.args.names.now in
    let end : length c.args.names.now ≤ c.loop-i.i = search rules in
    let all : length names ≤ c.loop-i.i = omega (arith, end, length-map c.args.names.now (λ (n : Bor (List ℕ)). n.now)) in
    rw (take_all c.loop-i.i names all) at c.loop-i.invariant.3
