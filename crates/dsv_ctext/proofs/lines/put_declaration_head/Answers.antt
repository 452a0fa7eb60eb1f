use Rattle.std.proofs.Common.{◌++◌}
use Rattle.std.specs.Prelude.{codes}
use Rattle.dsv_base.proofs.TakingLemmas.{writes_after, writes_cut}
use Rattle.dsv_ctext.specs.Texts.{local_name}
use Rattle.dsv_ctext.specs.ProgramTexts.{declaration_start}
use Rattle.dsv_ctext.proofs.lines.put_declaration_head.Goals as goal

pub returns-in_err-put_declaration_start : goal.returns-in_err-put_declaration_start
returns-in_err-put_declaration_start g c = writes_cut {x = (declaration_start c.args.c_type)} (((local_name c.args.names.now c.args.k)) ++ ((codes " = "))) c.from_residual.ensures.0 c.in_err-put_declaration_start.ensures.cut

pub returns-in_err-put_local : goal.returns-in_err-put_local
returns-in_err-put_local g c = writes_after {x = (declaration_start c.args.c_type)} {y = ((local_name c.args.names.now c.args.k)) ++ ((codes " = "))} c.in_ok-put_declaration_start.ensures.whole (writes_cut {x = (local_name c.args.names.now c.args.k)} ((codes " = ")) c.from_residual-in_err-put_local.ensures.0 c.in_err-put_local.ensures.cut)

pub returns : goal.returns
returns g c = writes_after {x = (declaration_start c.args.c_type)} {y = ((local_name c.args.names.now c.args.k)) ++ ((codes " = "))} c.in_ok-put_declaration_start.ensures.whole (writes_after {x = (local_name c.args.names.now c.args.k)} {y = (codes " = ")} c.in_ok-put_local.ensures.whole (c.put_all.ensures))
