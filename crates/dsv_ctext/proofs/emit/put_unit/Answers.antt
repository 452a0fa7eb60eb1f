use Rattle.std.proofs.Common.{length, ◌∷◌, ◌++◌, ap, ◌∙◌}
use Rattle.dsv_base.proofs.TakingLemmas.{writes_after, writes_cut}
use Rattle.dsv_c.specs.Programs.{word_type, program_of}
use Rattle.dsv_ctext.specs.Comments.{title_text, step_remark}
use Rattle.dsv_ctext.specs.ProgramTexts.{struct_text, init_text, step_text}
use Rattle.dsv_ctext.specs.UnitTexts.{functions_text}
use Rattle.dsv_ctext.proofs.UnitLemmas.{unit_written}
use Rattle.dsv_ctext.proofs.emit.put_unit.Goals as goal

pub returns-in_err-put_title : goal.returns-in_err-put_title
returns-in_err-put_title g c = rw (unit_written c.args.plan.now.names c.args.plan.now.net.now c.word_type-word.result c.registers-many.result (c.word_type-word.ensures ∙ ap word_type c.format.ensures) c.registers-many.ensures) (writes_cut {x = (title_text c.args.plan.now.names.remarks)} ((struct_text c.args.plan.now.names c.word_type-word.result c.registers-many.result) ++ ((functions_text (program_of c.args.plan.now.net.now)) ++ ((init_text c.args.plan.now.names (length c.args.plan.now.net.now.next) (program_of c.args.plan.now.net.now)) ++ ((10 ∷ step_remark c.args.plan.now.names.remarks) ++ ((step_text c.args.plan.now.names (length c.args.plan.now.net.now.next) (program_of c.args.plan.now.net.now))))))) c.from_residual.ensures.0 c.in_err-put_title.ensures.cut)

pub returns-in_err-put_struct : goal.returns-in_err-put_struct
returns-in_err-put_struct g c = rw (unit_written c.args.plan.now.names c.args.plan.now.net.now c.word_type-word.result c.registers-many.result (c.word_type-word.ensures ∙ ap word_type c.format.ensures) c.registers-many.ensures) (writes_after {x = (title_text c.args.plan.now.names.remarks)} {y = (struct_text c.args.plan.now.names c.word_type-word.result c.registers-many.result) ++ ((functions_text (program_of c.args.plan.now.net.now)) ++ ((init_text c.args.plan.now.names (length c.args.plan.now.net.now.next) (program_of c.args.plan.now.net.now)) ++ ((10 ∷ step_remark c.args.plan.now.names.remarks) ++ ((step_text c.args.plan.now.names (length c.args.plan.now.net.now.next) (program_of c.args.plan.now.net.now))))))} c.in_ok-put_title.ensures.whole (writes_cut {x = (struct_text c.args.plan.now.names c.word_type-word.result c.registers-many.result)} ((functions_text (program_of c.args.plan.now.net.now)) ++ ((init_text c.args.plan.now.names (length c.args.plan.now.net.now.next) (program_of c.args.plan.now.net.now)) ++ ((10 ∷ step_remark c.args.plan.now.names.remarks) ++ ((step_text c.args.plan.now.names (length c.args.plan.now.net.now.next) (program_of c.args.plan.now.net.now)))))) c.from_residual-in_err-put_struct.ensures.0 c.in_err-put_struct.ensures.cut))

pub returns-in_err-put_functions : goal.returns-in_err-put_functions
returns-in_err-put_functions g c = rw (unit_written c.args.plan.now.names c.args.plan.now.net.now c.word_type-word.result c.registers-many.result (c.word_type-word.ensures ∙ ap word_type c.format.ensures) c.registers-many.ensures) (writes_after {x = (title_text c.args.plan.now.names.remarks)} {y = (struct_text c.args.plan.now.names c.word_type-word.result c.registers-many.result) ++ ((functions_text (program_of c.args.plan.now.net.now)) ++ ((init_text c.args.plan.now.names (length c.args.plan.now.net.now.next) (program_of c.args.plan.now.net.now)) ++ ((10 ∷ step_remark c.args.plan.now.names.remarks) ++ ((step_text c.args.plan.now.names (length c.args.plan.now.net.now.next) (program_of c.args.plan.now.net.now))))))} c.in_ok-put_title.ensures.whole (writes_after {x = (struct_text c.args.plan.now.names c.word_type-word.result c.registers-many.result)} {y = (functions_text (program_of c.args.plan.now.net.now)) ++ ((init_text c.args.plan.now.names (length c.args.plan.now.net.now.next) (program_of c.args.plan.now.net.now)) ++ ((10 ∷ step_remark c.args.plan.now.names.remarks) ++ ((step_text c.args.plan.now.names (length c.args.plan.now.net.now.next) (program_of c.args.plan.now.net.now)))))} c.in_ok-put_struct.ensures.whole (writes_cut {x = (functions_text (program_of c.args.plan.now.net.now))} ((init_text c.args.plan.now.names (length c.args.plan.now.net.now.next) (program_of c.args.plan.now.net.now)) ++ ((10 ∷ step_remark c.args.plan.now.names.remarks) ++ ((step_text c.args.plan.now.names (length c.args.plan.now.net.now.next) (program_of c.args.plan.now.net.now))))) c.from_residual-in_err-put_functions.ensures.0 c.in_err-put_functions.ensures.cut)))

pub returns-in_err-put_init : goal.returns-in_err-put_init
returns-in_err-put_init g c = rw (unit_written c.args.plan.now.names c.args.plan.now.net.now c.word_type-word.result c.registers-many.result (c.word_type-word.ensures ∙ ap word_type c.format.ensures) c.registers-many.ensures) (writes_after {x = (title_text c.args.plan.now.names.remarks)} {y = (struct_text c.args.plan.now.names c.word_type-word.result c.registers-many.result) ++ ((functions_text (program_of c.args.plan.now.net.now)) ++ ((init_text c.args.plan.now.names (length c.args.plan.now.net.now.next) (program_of c.args.plan.now.net.now)) ++ ((10 ∷ step_remark c.args.plan.now.names.remarks) ++ ((step_text c.args.plan.now.names (length c.args.plan.now.net.now.next) (program_of c.args.plan.now.net.now))))))} c.in_ok-put_title.ensures.whole (writes_after {x = (struct_text c.args.plan.now.names c.word_type-word.result c.registers-many.result)} {y = (functions_text (program_of c.args.plan.now.net.now)) ++ ((init_text c.args.plan.now.names (length c.args.plan.now.net.now.next) (program_of c.args.plan.now.net.now)) ++ ((10 ∷ step_remark c.args.plan.now.names.remarks) ++ ((step_text c.args.plan.now.names (length c.args.plan.now.net.now.next) (program_of c.args.plan.now.net.now)))))} c.in_ok-put_struct.ensures.whole (writes_after {x = (functions_text (program_of c.args.plan.now.net.now))} {y = (init_text c.args.plan.now.names (length c.args.plan.now.net.now.next) (program_of c.args.plan.now.net.now)) ++ ((10 ∷ step_remark c.args.plan.now.names.remarks) ++ ((step_text c.args.plan.now.names (length c.args.plan.now.net.now.next) (program_of c.args.plan.now.net.now))))} c.in_ok-put_functions.ensures.whole (writes_cut {x = (init_text c.args.plan.now.names (length c.args.plan.now.net.now.next) (program_of c.args.plan.now.net.now))} ((10 ∷ step_remark c.args.plan.now.names.remarks) ++ ((step_text c.args.plan.now.names (length c.args.plan.now.net.now.next) (program_of c.args.plan.now.net.now)))) c.from_residual-in_err-put_init.ensures.0 c.in_err-put_init.ensures.cut))))

pub returns-in_err-put_step_start : goal.returns-in_err-put_step_start
returns-in_err-put_step_start g c = rw (unit_written c.args.plan.now.names c.args.plan.now.net.now c.word_type-word.result c.registers-many.result (c.word_type-word.ensures ∙ ap word_type c.format.ensures) c.registers-many.ensures) (writes_after {x = (title_text c.args.plan.now.names.remarks)} {y = (struct_text c.args.plan.now.names c.word_type-word.result c.registers-many.result) ++ ((functions_text (program_of c.args.plan.now.net.now)) ++ ((init_text c.args.plan.now.names (length c.args.plan.now.net.now.next) (program_of c.args.plan.now.net.now)) ++ ((10 ∷ step_remark c.args.plan.now.names.remarks) ++ ((step_text c.args.plan.now.names (length c.args.plan.now.net.now.next) (program_of c.args.plan.now.net.now))))))} c.in_ok-put_title.ensures.whole (writes_after {x = (struct_text c.args.plan.now.names c.word_type-word.result c.registers-many.result)} {y = (functions_text (program_of c.args.plan.now.net.now)) ++ ((init_text c.args.plan.now.names (length c.args.plan.now.net.now.next) (program_of c.args.plan.now.net.now)) ++ ((10 ∷ step_remark c.args.plan.now.names.remarks) ++ ((step_text c.args.plan.now.names (length c.args.plan.now.net.now.next) (program_of c.args.plan.now.net.now)))))} c.in_ok-put_struct.ensures.whole (writes_after {x = (functions_text (program_of c.args.plan.now.net.now))} {y = (init_text c.args.plan.now.names (length c.args.plan.now.net.now.next) (program_of c.args.plan.now.net.now)) ++ ((10 ∷ step_remark c.args.plan.now.names.remarks) ++ ((step_text c.args.plan.now.names (length c.args.plan.now.net.now.next) (program_of c.args.plan.now.net.now))))} c.in_ok-put_functions.ensures.whole (writes_after {x = (init_text c.args.plan.now.names (length c.args.plan.now.net.now.next) (program_of c.args.plan.now.net.now))} {y = (10 ∷ step_remark c.args.plan.now.names.remarks) ++ ((step_text c.args.plan.now.names (length c.args.plan.now.net.now.next) (program_of c.args.plan.now.net.now)))} c.in_ok-put_init.ensures.whole (writes_cut {x = (10 ∷ step_remark c.args.plan.now.names.remarks)} ((step_text c.args.plan.now.names (length c.args.plan.now.net.now.next) (program_of c.args.plan.now.net.now))) c.from_residual-in_err-put_step_start.ensures.0 c.in_err-put_step_start.ensures.cut)))))

pub returns : goal.returns
returns g c = rw (unit_written c.args.plan.now.names c.args.plan.now.net.now c.word_type-word.result c.registers-many.result (c.word_type-word.ensures ∙ ap word_type c.format.ensures) c.registers-many.ensures) (writes_after {x = (title_text c.args.plan.now.names.remarks)} {y = (struct_text c.args.plan.now.names c.word_type-word.result c.registers-many.result) ++ ((functions_text (program_of c.args.plan.now.net.now)) ++ ((init_text c.args.plan.now.names (length c.args.plan.now.net.now.next) (program_of c.args.plan.now.net.now)) ++ ((10 ∷ step_remark c.args.plan.now.names.remarks) ++ ((step_text c.args.plan.now.names (length c.args.plan.now.net.now.next) (program_of c.args.plan.now.net.now))))))} c.in_ok-put_title.ensures.whole (writes_after {x = (struct_text c.args.plan.now.names c.word_type-word.result c.registers-many.result)} {y = (functions_text (program_of c.args.plan.now.net.now)) ++ ((init_text c.args.plan.now.names (length c.args.plan.now.net.now.next) (program_of c.args.plan.now.net.now)) ++ ((10 ∷ step_remark c.args.plan.now.names.remarks) ++ ((step_text c.args.plan.now.names (length c.args.plan.now.net.now.next) (program_of c.args.plan.now.net.now)))))} c.in_ok-put_struct.ensures.whole (writes_after {x = (functions_text (program_of c.args.plan.now.net.now))} {y = (init_text c.args.plan.now.names (length c.args.plan.now.net.now.next) (program_of c.args.plan.now.net.now)) ++ ((10 ∷ step_remark c.args.plan.now.names.remarks) ++ ((step_text c.args.plan.now.names (length c.args.plan.now.net.now.next) (program_of c.args.plan.now.net.now))))} c.in_ok-put_functions.ensures.whole (writes_after {x = (init_text c.args.plan.now.names (length c.args.plan.now.net.now.next) (program_of c.args.plan.now.net.now))} {y = (10 ∷ step_remark c.args.plan.now.names.remarks) ++ ((step_text c.args.plan.now.names (length c.args.plan.now.net.now.next) (program_of c.args.plan.now.net.now)))} c.in_ok-put_init.ensures.whole (writes_after {x = (10 ∷ step_remark c.args.plan.now.names.remarks)} {y = (step_text c.args.plan.now.names (length c.args.plan.now.net.now.next) (program_of c.args.plan.now.net.now))} c.in_ok-put_step_start.ensures.whole (c.put_step.ensures))))))
