use Rattle.std.proofs.Common.{◌≡◌, true, drop, Some, ap, ◌∙◌, sym}
use Rattle.dsv_forms.specs.declared.offers.FormOffer.TheVariants as offered
use Rattle.dsv_algebra.specs.Vectors.{vector_of}
use Rattle.dsv_closed_forms.specs.ClosedForm.{minus_square, is_root}
use Rattle.dsv_closed_forms.proofs.Division.{trimmed_quotient, quotient_small}
use Rattle.dsv_closed_forms.proofs.root.form_at_root.Goals as goal

pub minus_square-requires-clause-small : goal.minus_square-requires-clause-small
minus_square-requires-clause-small c k =
    let cs = c.args.c.now in
    rw (trimmed_quotient c.args.t cs c.division_by-division.result.quotient c.requires.few c.division_by-division.ensures.quotient) (quotient_small c.args.t cs k c.requires.few c.requires.unit c.requires.small)

pub returns : goal.returns
returns c =
    let cs = c.args.c.now in
    let quotient = trimmed_quotient c.args.t cs c.division_by-division.result.quotient c.requires.few c.division_by-division.ensures.quotient in
    let root : is_root c.args.t (vector_of cs 0) (drop 1 cs) ≡ true = sym (rw (c.division_by-division.ensures.remainder, c.from.ensures) at c.are_equal.ensures) ∙ c.if-not-are_equal.false in
    rw root (ap (λ kept. Some (offered.KeptAway kept)) (c.minus_square.ensures ∙ ap minus_square quotient))
