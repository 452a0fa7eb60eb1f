use Rattle.std.proofs.Common.{◌≡◌, ◌++◌, ℕ, List, pos, unsigned_abs, IfOk, subst, sym, ap, ◌∙◌}
use Rattle.dsv_fraction.specs.Ratio.{Ratio}
use Rattle.dsv_delta.specs.Deltas.{common_from, common}
use Rattle.dsv_loop.proofs.Multiples.{common-append}
use Rattle.dsv_loop.proofs.transfer.plant_denominator.Goals as goal

pub returns-clause-value : goal.returns-clause-value
returns-clause-value c =
    let p = c.args.plant.now in
    let first : unsigned_abs c.in_ok-first.first ≡ common p.b =
    ap unsigned_abs c.in_ok-first.ensures.value ∙ ap (λ z. common_from (unsigned_abs z) c.b.result.now) c.in_ok-from_i128.ensures ∙ ap (λ (qs : List Ratio). common qs) c.b.ensures.same in
    let all : common_from (unsigned_abs c.in_ok-first.first) c.a.result.now ≡ common (p.b ++ p.a) =
    ap (λ n. common_from n c.a.result.now) first ∙ ap (λ (qs : List Ratio). common_from (common p.b) qs) c.a.ensures.same ∙ sym (common-append 1 p.b p.a) in
    let P : ℕ → Type 0 = λ n. IfOk c.common_from-2.result (λ l. l ≡ pos n) in
    subst P all c.common_from-2.ensures.value
