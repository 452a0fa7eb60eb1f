use Rattle.std.proofs.Common.{drop, ap, ◌∙◌}
use Rattle.dsv_meaning.specs.Equations.{feedback}
use Rattle.dsv_ellipsoid.specs.Intervals.{input_interval, output_interval}
use Rattle.dsv_forms.specs.Refusals.{refusal_of}
use Rattle.dsv_ellipsoid.proofs.WalkLemmas.{line_tests_same}
use Rattle.dsv_ellipsoid.proofs.intervals.check_intervals.Goals as goal

pub returns : goal.returns
returns c =
    let q = c.args.quantised.now in
    line_tests_same (refusal_of c.check_line.result) c.format-format.result q.format c.b.result.now q.b c.rest_of-feedback.result.now (feedback q)
    c.input_interval-inputs.result (input_interval q) c.output_interval-outputs.result (output_interval c.args.bound.now)
    c.format-format.ensures.same c.b.ensures.same c.input_interval-inputs.ensures.value (c.rest_of-feedback.ensures ∙ ap (drop 1) c.a.ensures.same) c.output_interval-outputs.ensures.value
    c.check_line.ensures
