use Rattle.std.proofs.Common.{◌≡◌, ◌++◌, false, sym, ap, ◌∙◌}
use Rattle.std.specs.Prelude.{codes}
use Rattle.dsv_base.proofs.TakingLemmas.{writes_after, writes_cut}
use Rattle.dsv_ctext.specs.Texts.{code_text, fitted_head}
use Rattle.dsv_c.specs.Programs.{code_at, codes_of}
use Rattle.dsv_ctext.specs.Comments.{commented_end}
use Rattle.dsv_ctext.specs.ProgramTexts.{declaration_head}
use Rattle.std.specs.Prelude.{slice_index}
use Rattle.dsv_c.specs.Meaning.{wider_type}
use Rattle.dsv_ctext.specs.Plans.{need_of, type_at}
use Rattle.dsv_ctext.proofs.FitLines.{fit_line}
use Rattle.dsv_ctext.proofs.lines.put_node_line.Goals as goal

pub returns-in_err-put_declaration_head-in-Some : goal.returns-in_err-put_declaration_head-in-Some
returns-in_err-put_declaration_head-in-Some g c =
    let p = c.args.plan.now in
    let l = slice_index p.locals.now c.args.i in
    let t = wider_type (need_of p.net.now c.in-Some.of) (type_at p.types.now c.in-Some.of) in
    let line = fit_line p.names p.net.now p.types.now p.locals.now c.args.i c.in-Some.of c.node_at.result c.requires.plan c.requires.there c.node_at.ensures.value (sym c.fitted_of.ensures ∙ c.in-Some.is) in
    let head : c.fitted_head-head.result.now ≡ fitted_head t = c.fitted_head-head.ensures ∙ ap fitted_head c.helper_type.ensures in
    rw (line.0, ← c.requires.word, ← head) (writes_cut {x = (declaration_head p.names c.args.word l)} ((c.fitted_head-head.result.now) ++ (((code_text p.names false (code_at (codes_of p.net.now) c.in-Some.of).expr)) ++ ((codes ")" ++ commented_end p.names.remarks.format.frac_bits (code_at (codes_of p.net.now) c.in-Some.of).expr)))) c.from_residual.ensures.0 c.in_err-put_declaration_head-in-Some.ensures.cut)

pub returns-in_err-put_all-in-Some : goal.returns-in_err-put_all-in-Some
returns-in_err-put_all-in-Some g c =
    let p = c.args.plan.now in
    let l = slice_index p.locals.now c.args.i in
    let t = wider_type (need_of p.net.now c.in-Some.of) (type_at p.types.now c.in-Some.of) in
    let line = fit_line p.names p.net.now p.types.now p.locals.now c.args.i c.in-Some.of c.node_at.result c.requires.plan c.requires.there c.node_at.ensures.value (sym c.fitted_of.ensures ∙ c.in-Some.is) in
    let head : c.fitted_head-head.result.now ≡ fitted_head t = c.fitted_head-head.ensures ∙ ap fitted_head c.helper_type.ensures in
    rw (line.0, ← c.requires.word, ← head) (writes_after {x = (declaration_head p.names c.args.word l)} {y = (c.fitted_head-head.result.now) ++ (((code_text p.names false (code_at (codes_of p.net.now) c.in-Some.of).expr)) ++ ((codes ")" ++ commented_end p.names.remarks.format.frac_bits (code_at (codes_of p.net.now) c.in-Some.of).expr)))} c.in_ok-put_declaration_head-in-Some.ensures.whole (writes_cut {x = c.fitted_head-head.result.now} (((code_text p.names false (code_at (codes_of p.net.now) c.in-Some.of).expr)) ++ ((codes ")" ++ commented_end p.names.remarks.format.frac_bits (code_at (codes_of p.net.now) c.in-Some.of).expr))) c.from_residual-in_err-put_all-in-Some.ensures.0 c.in_err-put_all-in-Some.ensures.cut))

pub returns-in_err-put_node-in-Some : goal.returns-in_err-put_node-in-Some
returns-in_err-put_node-in-Some g c =
    let p = c.args.plan.now in
    let l = slice_index p.locals.now c.args.i in
    let t = wider_type (need_of p.net.now c.in-Some.of) (type_at p.types.now c.in-Some.of) in
    let line = fit_line p.names p.net.now p.types.now p.locals.now c.args.i c.in-Some.of c.node_at.result c.requires.plan c.requires.there c.node_at.ensures.value (sym c.fitted_of.ensures ∙ c.in-Some.is) in
    let head : c.fitted_head-head.result.now ≡ fitted_head t = c.fitted_head-head.ensures ∙ ap fitted_head c.helper_type.ensures in
    rw (line.0, ← c.requires.word, ← head) (writes_after {x = (declaration_head p.names c.args.word l)} {y = (c.fitted_head-head.result.now) ++ (((code_text p.names false (code_at (codes_of p.net.now) c.in-Some.of).expr)) ++ ((codes ")" ++ commented_end p.names.remarks.format.frac_bits (code_at (codes_of p.net.now) c.in-Some.of).expr)))} c.in_ok-put_declaration_head-in-Some.ensures.whole (writes_after {x = c.fitted_head-head.result.now} {y = ((code_text p.names false (code_at (codes_of p.net.now) c.in-Some.of).expr)) ++ ((codes ")" ++ commented_end p.names.remarks.format.frac_bits (code_at (codes_of p.net.now) c.in-Some.of).expr))} c.in_ok-put_all-in-Some.ensures.whole (writes_cut {x = (code_text p.names false (code_at (codes_of p.net.now) c.in-Some.of).expr)} ((codes ")" ++ commented_end p.names.remarks.format.frac_bits (code_at (codes_of p.net.now) c.in-Some.of).expr)) c.from_residual-in_err-put_node-in-Some.ensures.0 c.in_err-put_node-in-Some.ensures.cut)))

pub returns-in_ok-put_node-in-Some : goal.returns-in_ok-put_node-in-Some
returns-in_ok-put_node-in-Some g c =
    let p = c.args.plan.now in
    let l = slice_index p.locals.now c.args.i in
    let t = wider_type (need_of p.net.now c.in-Some.of) (type_at p.types.now c.in-Some.of) in
    let line = fit_line p.names p.net.now p.types.now p.locals.now c.args.i c.in-Some.of c.node_at.result c.requires.plan c.requires.there c.node_at.ensures.value (sym c.fitted_of.ensures ∙ c.in-Some.is) in
    let head : c.fitted_head-head.result.now ≡ fitted_head t = c.fitted_head-head.ensures ∙ ap fitted_head c.helper_type.ensures in
    rw (line.0, ← c.requires.word, ← head) (writes_after {x = (declaration_head p.names c.args.word l)} {y = (c.fitted_head-head.result.now) ++ (((code_text p.names false (code_at (codes_of p.net.now) c.in-Some.of).expr)) ++ ((codes ")" ++ commented_end p.names.remarks.format.frac_bits (code_at (codes_of p.net.now) c.in-Some.of).expr)))} c.in_ok-put_declaration_head-in-Some.ensures.whole (writes_after {x = c.fitted_head-head.result.now} {y = ((code_text p.names false (code_at (codes_of p.net.now) c.in-Some.of).expr)) ++ ((codes ")" ++ commented_end p.names.remarks.format.frac_bits (code_at (codes_of p.net.now) c.in-Some.of).expr))} c.in_ok-put_all-in-Some.ensures.whole (writes_after {x = (code_text p.names false (code_at (codes_of p.net.now) c.in-Some.of).expr)} {y = (codes ")" ++ commented_end p.names.remarks.format.frac_bits (code_at (codes_of p.net.now) c.in-Some.of).expr)} c.in_ok-put_node-in-Some.ensures.whole (c.put_fit_end.ensures))))
