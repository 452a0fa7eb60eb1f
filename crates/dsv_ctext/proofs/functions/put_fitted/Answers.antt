use Rattle.std.proofs.Common.{[]}
use Rattle.dsv_base.proofs.TakingLemmas.{writes_after, writes_cut}
use Rattle.dsv_word.specs.Words.{width}
use Rattle.dsv_c.specs.Syntax.{Fitted, Local, Cast}
use Rattle.dsv_c.specs.Programs.{fitted_value}
use Rattle.dsv_ctext.specs.HelperTexts.{function_head, function_tail}
use Rattle.dsv_ctext.proofs.FunctionTexts.{fitted_written}
use Rattle.dsv_ctext.proofs.functions.put_fitted.Goals as goal

pub returns-in_err-put_fitted_start : goal.returns-in_err-put_fitted_start
returns-in_err-put_fitted_start g c = rw (fitted_written c.args.format.now c.args.c_type c.word_type-word.result c.word_type-word.ensures) (writes_cut {x = (function_head (Fitted c.args.c_type) (record { parameter = c.args.c_type; locals = []; value = Local 0; result = c.word_type-word.result }))} ((function_tail (Cast c.word_type-word.result (fitted_value c.args.format.now.overflow (width c.args.format.now))))) c.from_residual.ensures.0 c.in_err-put_fitted_start.ensures.cut)

pub returns : goal.returns
returns g c = rw (fitted_written c.args.format.now c.args.c_type c.word_type-word.result c.word_type-word.ensures) (writes_after {x = (function_head (Fitted c.args.c_type) (record { parameter = c.args.c_type; locals = []; value = Local 0; result = c.word_type-word.result }))} {y = (function_tail (Cast c.word_type-word.result (fitted_value c.args.format.now.overflow (width c.args.format.now))))} c.in_ok-put_fitted_start.ensures.whole (c.put_fit.ensures))
