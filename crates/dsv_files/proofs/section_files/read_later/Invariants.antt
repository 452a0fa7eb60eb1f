use Rattle.std.proofs.Common.{◌≤◌, map, take}
use Rattle.dsv_files.specs.JobTexts.{AreControllers}
use Rattle.dsv_base.specs.Seen.{AreKept}
use Rattle.dsv_files.specs.Digests.{AreLogged, section_named}
use Rattle.dsv_files.proofs.section_files.read_later.Given as goal

abbrev pub invariant-loop-i : goal.invariant-loop-i
invariant-loop-i g l = AreControllers (g.F.Files.seen l.fn.files) (take l.i (map (λ name. name.now) l.names)) l.controllers.items
    × AreKept (g.F.Files.seen l.fn.files) (g.F.Files.seen l.files) × ((g.F.Files.seen l.fn.files).came ≤ (g.F.Files.seen l.files).came)
    × AreLogged (g.F.Files.seen l.fn.files) (map section_named (take l.i (map (λ name. name.now) l.names))) l.fn.digests l.digests
