-- A controller becomes one thing in words.
use Rattle.std.proofs.Common.{◌≡◌, ◌∙◌, sym, ap}
use Rattle.std.specs.Prelude.{Result}
use Rattle.dsv_names.specs.declared.design.Design.{Design}
use Rattle.dsv_word.specs.declared.format.Format.{Format}
use Rattle.dsv_reader.specs.Controllers.{ControllerView}
use Rattle.dsv_quantiser.specs.QuantisedView.{QuantisedView}
use Rattle.dsv_quantiser.specs.Modes.{BecomesWords}
use Rattle.dsv_quantiser.specs.Quantising.{quantised_of}
use Rattle.dsv_quantiser.specs.declared.refusal.QuantRefusal.{QuantRefusal}
use Rattle.dsv_quantiser.proofs.Formats.{one_format}

pub become_one : (c d : ControllerView) (design : Design) (o p : Result QuantisedView QuantRefusal) → c ≡ d → BecomesWords c design o → BecomesWords d design p → o ≡ p
become_one c d design o p e h k =
    let f = one_format h.format k.format
    (h.int_bits ∙ ap (λ (x : ControllerView). x.int_bits) e ∙ sym k.int_bits)
    (h.frac_bits ∙ ap (λ (x : ControllerView). x.frac_bits) e ∙ sym k.frac_bits)
    (h.rounding ∙ sym k.rounding)
    (h.overflow ∙ sym k.overflow) in
    sym h.becomes
    ∙ ap (λ (x : ControllerView). quantised_of x h.format design.realisation) e
    ∙ ap (λ (x : Format). quantised_of d x design.realisation) f
    ∙ k.becomes
