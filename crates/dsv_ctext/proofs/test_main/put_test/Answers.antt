use Rattle.std.proofs.Common.{length, map}
use Rattle.dsv_system.specs.RowViews.{row_of}
use Rattle.dsv_base.proofs.TakingLemmas.{writes_after, writes_cut}
use Rattle.dsv_ctext.specs.TestTexts.{tables_text, main_text}
use Rattle.dsv_ctext.proofs.RowTexts.{many_of_map}
use Rattle.dsv_ctext.proofs.test_main.put_test.Goals as goal

pub returns-in_err-put_tables : goal.returns-in_err-put_tables
returns-in_err-put_tables g c = rw (← c.word_type-word.ensures, many_of_map c.args.rows.now) (writes_cut {x = (tables_text c.word_type-word.result (length c.args.rows.now) (map row_of c.args.rows.now))} ((main_text c.args.prefix.now c.word_type-word.result (length c.args.rows.now))) c.from_residual.ensures.0 c.in_err-put_tables.ensures.cut)

pub returns : goal.returns
returns g c = rw (← c.word_type-word.ensures, many_of_map c.args.rows.now) (writes_after {x = (tables_text c.word_type-word.result (length c.args.rows.now) (map row_of c.args.rows.now))} {y = (main_text c.args.prefix.now c.word_type-word.result (length c.args.rows.now))} c.in_ok-put_tables.ensures.whole (c.put_main.ensures))
