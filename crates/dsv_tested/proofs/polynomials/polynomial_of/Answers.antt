use Rattle.std.proofs.Common.{◌≡◌, List, Result, MatchResult, Ok, Err, subst, sym, ap, ◌∙◌}
use Rattle.std.proofs.Math.IntN.{ℤ}
use Rattle.dsv_text.specs.Stages.{and_then}
use Rattle.dsv_delta.specs.declared.refusal.PolyWide.{PolyWide}
use Rattle.dsv_tested.specs.declared.side.Tested.{Tested}
use Rattle.dsv_tested.specs.Tested.{tested_list, tested_of, without_leading_zeros}
use Rattle.dsv_tested.proofs.Denominators.{only_numerator}
use Rattle.dsv_tested.proofs.polynomials.polynomial_of.Goals as goal

pub returns-clause-denominator : goal.returns-clause-denominator
returns-clause-denominator c =
    let q = c.args.quantised.now in
    let same : tested_list c.without_leading_zeros.result.now ≡ tested_of q c.args.side =
    ap tested_list (c.without_leading_zeros.ensures.rest ∙ ap without_leading_zeros c.as_slice.ensures.value)
    ∙ sym (ap (λ (z : Result (List ℤ) PolyWide). and_then z (λ cs. tested_list (without_leading_zeros cs))) c.in_ok-list.ensures.exact) in
    let P : Result Tested PolyWide → Type 0 = λ m. MatchResult c.tested_list.result (λ found. m ≡ Ok found) (λ refusal. m ≡ Err refusal) in
    only_numerator q c.args.side c.tested_list.result c.in_ok-list.ensures.quantised (subst P same c.tested_list.ensures.exact)
