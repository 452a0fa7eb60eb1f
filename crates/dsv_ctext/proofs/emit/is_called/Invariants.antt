use Rattle.std.proofs.Common.{◌≡◌}
use Rattle.dsv_c.specs.Programs.{has_helper}
use Rattle.dsv_ctext.specs.UnitTexts.{helper_named, called_in}
use Rattle.dsv_ctext.proofs.UnitLemmas.{called_from}
use Rattle.dsv_ctext.proofs.emit.is_called.Given as goal

abbrev pub invariant-loop-i : goal.invariant-loop-i
invariant-loop-i l = has_helper (helper_named l.fits l.wanted) (called_in l.plan.net.now) ≡ has_helper (helper_named l.fits l.wanted) (called_from l.plan.net.now l.i)
