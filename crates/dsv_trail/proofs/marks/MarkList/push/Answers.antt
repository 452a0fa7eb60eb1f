use Rattle.std.proofs.Common.{arith, ap, ◌≡◌, ◌<◌, ◌∙◌, length, length-set}
use Rattle.std.proofs.lemmas.List.{length_push}
use Rattle.dsv_cnf.specs.Literal.{code_of}
use Rattle.dsv_trail.specs.Marks.{IsOpen}
use Rattle.dsv_trail.specs.declared.marks.Mark.{Mark}
use Rattle.dsv_trail.proofs.MarkLemmas.{few-open, marks-inside, over-pushed, placed-pushed}
use Rattle.dsv_trail.proofs.PlaceLemmas.{false-pushed}
use Rattle.dsv_trail.proofs.marks.MarkList.push.Goals as goal

pub push_reserved-requires : goal.push_reserved-requires
push_reserved-requires c =
    let few = few-open c.self.inside.marks.items c.self.inside.vars c.args.literal.var (marks-inside c.self.inside c.self.invariant) (rw (← c.self.view_is) at c.requires.over) (rw (← c.self.view_is) at c.requires.free) in
    omega (arith, few, c.self.invariant.room, c.self.inside.marks.ok.0)

pub invariant_of-self : goal.invariant_of-self
invariant_of-self c =
    let i = c.self.invariant in
    let lt : c.args.literal.var < c.self.inside.vars = rw (← c.self.view_is) at c.requires.over in
    let free : IsOpen c.self.inside.marks.items c.args.literal.var = rw (← c.self.view_is) at c.requires.free in
    let m : Mark = record { literal = c.args.literal; level = c.args.level; reason = c.args.reason } in
    let e = c.push_reserved.ensures.items in
    let few = few-open c.self.inside.marks.items c.self.inside.vars c.args.literal.var (marks-inside c.self.inside i) lt free in
    let place : c.len-place.result ≡ length c.self.inside.marks.items = omega (arith, c.len-place.ensures, c.self.inside.marks.ok.0) in
    record {
      small = i.small;
      few = omega (arith, ap length e, length_push c.self.inside.marks.items m, few);
      room = omega (arith, c.push_reserved.ensures.capacity, i.room);
      over = over-pushed c.self.inside.vars c.self.inside.marks.items c.push_reserved.new.self.items m e lt i.over;
      falses = length-set _ _ _ ∙ i.falses;
      places = length-set _ _ _ ∙ i.places;
      are_false = false-pushed c.self.inside.vars c.self.inside.falses.items c.self.inside.marks.items c.push_reserved.new.self.items m c.code.result i.falses lt (c.code.ensures ∙ ap code_of c.negation.ensures) e i.are_false;
      placed = placed-pushed c.self.inside.vars c.self.inside.places.items c.self.inside.marks.items c.push_reserved.new.self.items m c.var.result c.len-place.result i.places lt c.var.ensures.value place e free i.placed;
    }

pub returns-clause-few : goal.returns-clause-few
returns-clause-few c =
    let few = few-open c.self.inside.marks.items c.self.inside.vars c.args.literal.var (marks-inside c.self.inside c.self.invariant) (rw (← c.self.view_is) at c.requires.over) (rw (← c.self.view_is) at c.requires.free) in
    let m : Mark = record { literal = c.args.literal; level = c.args.level; reason = c.args.reason } in
    omega (arith, ap length c.push_reserved.ensures.items, length_push c.self.inside.marks.items m, few)
