use Rattle.std.proofs.Common.{◌≡◌, ◌++◌, ◌∷◌, [], arith, ap, sym, subst, length, rules, SFits, w64}
use Rattle.std.specs.Prelude.{◌≤ℤ◌}
use Rattle.std.specs.List.{All}
use Rattle.std.proofs.Math.IntN.{ℤ}
use Rattle.std.proofs.lemmas.Int.{to_z-of_z}
use Rattle.std.proofs.lemmas.List.{length-append}
use Rattle.std.proofs.lemmas.List.Elements.{All-push}
use Rattle.dsv_system.specs.Systems.{AreInRange}
use Rattle.dsv_word.specs.Words.{IsWord}
use Rattle.dsv_bounded.proofs.offers.end_inputs.Goals as goal

pub loop-i-preserved : goal.loop-i-preserved
loop-i-preserved c =
    let s = c.args.subject.now in
    let l = c.loop-i in
    let x = c.end_input.result in
    let fits : SFits w64 x = search rules in
    let pushed = simp to_z-of_z at c.in_ok-push.ensures.ok in
    let new : c.push.new.self ≡ l.inputs ++ x ∷ [] = pushed in
    record {
      range = subst (AreInRange s.low s.high) (sym new) (All-push (λ (z : ℤ). (s.low ≤ℤ z) × (z ≤ℤ s.high)) l.inputs x l.invariant.range (c.end_input.ensures.low, c.end_input.ensures.high));
      words = subst (All (IsWord s.net.now.format)) (sym new) (All-push (IsWord s.net.now.format) l.inputs x l.invariant.words c.end_input.ensures.word);
      many = omega (arith, ap length new, length-append l.inputs (x ∷ []), l.invariant.many);
    }
