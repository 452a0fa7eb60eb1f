use Rattle.std.proofs.Common.{◌∙◌, sym, ap}
use Rattle.dsv_names.specs.declared.realisation.Realisation.TheVariants.{Dfi}
use Rattle.dsv_reader.specs.Controllers.{ControllerView}
use Rattle.dsv_quantiser.specs.Quantising.{quantised_of}
use Rattle.dsv_generator.proofs.Words.{never_refused, small_words}
use Rattle.dsv_generator.proofs.controllers.quantised_from.Goals as goal

pub unreachable-requires : goal.unreachable-requires
unreachable-requires c =
    let format = c.generated_format-format in
    let same = ap (λ (x : ControllerView). quantised_of x format.result Dfi) c.controller_of-controller.ensures in
    never_refused format.result c.args.states.first c.args.states.second c.args.states.third c.args.states.fourth c.in-Err.field-0 format.ensures
    (sym (c.in-Err.ensures.exact ∙ same))

pub returns-clause-becomes : goal.returns-clause-becomes
returns-clause-becomes c =
    let format = c.generated_format-format in
    let same = ap (λ (x : ControllerView). quantised_of x format.result Dfi) c.controller_of-controller.ensures in
    record { format = format.result; modes = format.ensures; becomes = sym (c.in-Ok.ensures.exact ∙ same) }

pub returns-clause-small : goal.returns-clause-small
returns-clause-small c =
    let format = c.generated_format-format in
    let same = ap (λ (x : ControllerView). quantised_of x format.result Dfi) c.controller_of-controller.ensures in
    small_words format.result c.args.states.first c.args.states.second c.args.states.third c.args.states.fourth c.in-Ok.quantised format.ensures
    (sym (c.in-Ok.ensures.exact ∙ same))
