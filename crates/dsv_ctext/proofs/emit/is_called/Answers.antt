use Rattle.std.proofs.Common.{ap}
use Rattle.dsv_c.specs.Programs.{has_helper}
use Rattle.dsv_ctext.specs.UnitTexts.{helper_named}
use Rattle.dsv_ctext.proofs.UnitLemmas.{called_all}
use Rattle.dsv_ctext.proofs.emit.is_called.Goals as goal

pub loop-i-init : goal.loop-i-init
loop-i-init c = ap (has_helper (helper_named c.args.fits c.args.wanted)) (called_all c.args.plan.now.net.now c.requires.plan.netlist)
