use Rattle.std.proofs.Common.{◌≡◌, true, false, refl, length, take, get_or, arith, subst, add-one, rules, w64}
use mir.Syntax.{w128}
use Rattle.std.proofs.lemmas.Int.{to_z-of_z}
use Rattle.std.proofs.Math.IntN.{pos}
use Rattle.std.proofs.lemmas.Option.{slice_get-get_or}
use mir.Val.{SFits}
use Rattle.std.proofs.Math.Seq.{take-length}
use Rattle.std.specs.List.{All}
use Rattle.dsv_word.specs.Words.{IsWord}
use Rattle.dsv_cli.proofs.Inputs.{all_more, no_word, is_word}
use Rattle.dsv_cli.proofs.simulation.find_outside.Goals as goal

pub returns-then-not-fits : goal.returns-then-not-fits
returns-then-not-fits c =
    let x = get_or c.args.inputs.now c.loop-i.i (pos 0) in
    let fits : SFits w64 x = search rules in
    let same : c.from.result ≡ x = simp to_z-of_z at c.from.ensures in
    let wide : SFits w128 c.from.result = search rules in
    let none : false ≡ true → ⊥ = λ e. cc in
    let fact = rw (to_z-of_z w128 c.from.result wide) at c.if-not-fits.ensures.1 in
    rw (to_z-of_z w64 x fits)
    (record {
      there = slice_get-get_or c.args.inputs.now c.loop-i.i (pos 0) (omega arith);
      outside = no_word c.args.format.now c.from.result x same (λ both. none (fact both));
      before = c.loop-i.invariant;
    })

pub loop-i-preserved : goal.loop-i-preserved
loop-i-preserved c =
    let x = get_or c.args.inputs.now c.loop-i.i (pos 0) in
    let fits : SFits w64 x = search rules in
    let same : c.from.result ≡ x = simp to_z-of_z at c.from.ensures in
    let wide : SFits w128 c.from.result = search rules in
    let both = rw (to_z-of_z w128 c.from.result wide) at (c.if-not-fits.ensures.0 refl) in
    rw (add-one c.loop-i.i)
    (all_more (IsWord c.args.format.now) c.args.inputs.now c.loop-i.i (pos 0) (omega arith) c.loop-i.invariant
    (is_word c.args.format.now c.from.result x same both.0 both.1))

pub returns : goal.returns
returns c =
    let inputs = c.args.inputs.now in
    let all : c.loop-i.i ≡ length inputs = omega arith in
    subst (λ xs. All (IsWord c.args.format.now) xs) (take-length inputs)
    (subst (λ n. All (IsWord c.args.format.now) (take n inputs)) all c.loop-i.invariant)
