use Rattle.std.proofs.Common.{◌≡◌, ◌++◌, ◌∷◌, [], List, arith, rules, subst, SFits}
use Rattle.std.specs.Int.{w64, w128}
use Rattle.std.specs.List.{All}
use Rattle.std.proofs.Math.IntN.{ℤ}
use Rattle.std.proofs.lemmas.Int.{to_z-of_z}
use Rattle.dsv_word.specs.declared.format.Format.{Format}
use Rattle.dsv_word.specs.Words.{IsWord}
use Rattle.dsv_system.specs.OutsideValues.{IsFirstOutside}
use Rattle.dsv_realise.proofs.ReplayLemmas.{trace_here, unbroken_all, unbroken_more}
use Rattle.dsv_realise.proofs.replays.stepped_trace.Goals as goal

pub returns-in-Some-clause-trace : goal.returns-in-Some-clause-trace
returns-in-Some-clause-trace c =
    let f = c.args.subject.now.net.now.format in
    let row = c.next_row-row.result in
    let value = c.in-Some.found.value in
    let exact = c.in-Some.found.exact in
    let wide : SFits w128 exact = search rules in
    let fits : SFits w64 row.y = search rules in
    let pushed = simp to_z-of_z at c.in_ok-push.ensures.ok in
    let new : c.push.new.self ≡ c.loop-i.outputs ++ row.y ∷ [] = pushed in
    let found : IsFirstOutside f row.exact.items value exact =
    subst (λ (g : Format). IsFirstOutside g row.exact.items value exact) c.format-format.ensures
    (subst (λ (es : List ℤ). IsFirstOutside c.format-format.result es value exact) c.as_slice.ensures.value c.in-Some.ensures.first) in
    rw (to_z-of_z w128 exact wide) (trace_here (omega arith) c.requires.range c.next_row-row.ensures.row c.in_ok-from_slice.ensures new c.loop-i.invariant.unbroken found)

pub loop-i-preserved : goal.loop-i-preserved
loop-i-preserved c =
    let f = c.args.subject.now.net.now.format in
    let row = c.next_row-row.result in
    let fits : SFits w64 row.y = search rules in
    let pushed = simp to_z-of_z at c.in_ok-push.ensures.ok in
    let new : c.push.new.self ≡ c.loop-i.outputs ++ row.y ∷ [] = pushed in
    let inside : All (IsWord f) row.exact.items = search rules in
    record {
      many = c.next_row-row.ensures.many;
      words = c.next_row-row.ensures.words;
      unbroken = unbroken_more (omega arith) c.next_row-row.ensures.row c.next_row-row.ensures.registers new c.loop-i.invariant.unbroken inside;
    }

pub returns-clause-none : goal.returns-clause-none
returns-clause-none c = unbroken_all (omega arith) c.loop-i.invariant.unbroken
