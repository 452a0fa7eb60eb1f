use Rattle.dsv_hints.proofs.Soundness.{on-add, on-delete}
use Rattle.dsv_hints.proofs.checker.Checker.take.Goals as goal

pub returns-in-Add-clause-sound : goal.returns-in-Add-clause-sound
returns-in-Add-clause-sound c =
    on-add c.add.result c.args.self.now c.add.new.self c.in-Add.id _ _ c.add.ensures.answer c.add.ensures.taken

pub returns-in-Delete-clause-sound : goal.returns-in-Delete-clause-sound
returns-in-Delete-clause-sound c =
    on-delete c.delete.result c.args.self.now c.delete.new.self c.as_slice-in-Delete.result.now c.delete.ensures.taken
