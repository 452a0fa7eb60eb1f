use Rattle.std.proofs.Common.{◌≡◌, ◌++◌, [], ◌∷◌, ℤ, pos, ◌-ℤ◌, get_or, length-append, ap, ◌∙◌, arith, rules}
use Rattle.std.proofs.lemmas.Int.{to_z-of_z}
use mir.Syntax.{w128}
use mir.Val.{SFits, to_z}
use Rattle.dsv_delta.specs.Differences.{differences}
use Rattle.dsv_delta.proofs.Alternating.{differences_step, differences_end}
use Rattle.dsv_delta.proofs.powers_of_z.times_z_less_one.Goals as goal

pub loop-x-preserved : goal.loop-x-preserved
loop-x-preserved c =
    let q = c.args.q.now in
    let i = c.loop-x.x-index in
    let x : ℤ = get_or q i (pos 0) in
    let b : ℤ = to_z w128 c.loop-x.before-bits in
    let d : ℤ = c.difference.result in
    let out = c.loop-x.list.items in
    let fits : SFits w128 x = search rules in
    let made : SFits w128 d = search rules in
    let all : c.push.new.self.items ≡ out ++ (x -ℤ b) ∷ [] = c.push.ensures.items ∙ ap (λ z. out ++ z ∷ []) (to_z-of_z w128 d made ∙ c.difference.ensures) in
    let long = c.loop-x.invariant.places in
    rw (to_z-of_z w128 x fits, all) (record {
      places = omega (arith, length-append out ((x -ℤ b) ∷ []));
      small = c.requires.small i;
      same = differences_step q i b c.args.e.now out (differences (pos 0) q c.args.e.now) (omega arith) c.loop-x.invariant.same;
    })

pub returns : goal.returns
returns c =
    let q = c.args.q.now in
    let b : ℤ = to_z w128 c.loop-x.before-bits in
    let d : ℤ = c.difference-2.result in
    let out = c.loop-x.list.items in
    let made : SFits w128 d = search rules in
    c.push-2.ensures.items ∙ ap (λ z. out ++ z ∷ []) (to_z-of_z w128 d made ∙ c.difference-2.ensures)
    ∙ differences_end q c.loop-x.x-index b c.args.e.now out (differences (pos 0) q c.args.e.now) (omega arith) c.loop-x.invariant.same
