use Rattle.std.proofs.Common.{◌≡◌, ◌++◌, ◌∷◌, [], arith, ap, sym, subst, length, rules, SFits, w64}
use Rattle.std.specs.List.{All}
use Rattle.std.proofs.lemmas.Int.{to_z-of_z}
use Rattle.std.proofs.lemmas.List.{length-append}
use Rattle.std.proofs.lemmas.List.Elements.{All-push}
use Rattle.dsv_word.specs.Words.{IsWord}
use Rattle.dsv_bounded.proofs.transients.level_registers.Goals as goal

pub loop-i-preserved : goal.loop-i-preserved
loop-i-preserved c =
    let f = c.args.net.now.format in
    let l = c.loop-i in
    let x = c.args.word in
    let fits : SFits w64 x = search rules in
    let pushed = simp to_z-of_z at c.in_ok-push.ensures.items in
    let new : c.push.new.self.items ≡ l.registers.items ++ x ∷ [] = pushed in
    record {
      many = omega (arith, ap length new, length-append l.registers.items (x ∷ []), l.invariant.many);
      words = subst (All (IsWord f)) (sym new) (All-push (IsWord f) l.registers.items x l.invariant.words c.requires);
    }
