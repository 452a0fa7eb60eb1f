use Rattle.std.proofs.Common.{◌≡◌, List, ℤ, IfOk, unsigned_abs, subst, sym, ap, ◌∙◌, rules}
use Rattle.std.proofs.lemmas.Int.{to_z-of_z}
use mir.Syntax.{w64}
use mir.Val.{SFits}
use Rattle.dsv_delta.specs.ZCoefficients.{dyadic}
use Rattle.dsv_word.specs.declared.format.Format.{Format}
use Rattle.dsv_names.specs.Realisations.{is_delta}
use Rattle.dsv_loop.specs.Loops.{expanded}
use Rattle.dsv_loop.proofs.Sides.{in_z-delta}
use Rattle.dsv_loop.proofs.transfer.in_z.Goals as goal

pub returns-then-is_delta : goal.returns-then-is_delta
returns-then-is_delta c =
    let q = c.args.section.now in
    let ws = c.args.words.now in
    let fits : SFits w64 c.delta.result = search rules in
    let size = ap unsigned_abs (to_z-of_z w64 c.delta.result fits ∙ c.delta.ensures.same) in
    let bits = ap (λ (f : Format). f.frac_bits) c.format.ensures.same in
    let delta = ap is_delta (sym c.realisation.ensures.same) ∙ sym c.if-is_delta.ensures in
    let P : List ℤ → Type 0 = λ xs. IfOk c.delta_expansion.result (λ found. found ≡ xs) in
    subst P (ap (λ n. expanded (dyadic n c.format.result.frac_bits) ws) size ∙ ap (λ f. expanded (dyadic (unsigned_abs q.delta) f) ws) bits ∙ sym (in_z-delta q ws delta)) c.delta_expansion.ensures
