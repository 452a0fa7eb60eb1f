use Rattle.std.proofs.Common.{arith, ap, ◌≡◌, ◌<◌, ◌∙◌, ◌++◌, ◌∷◌, [], length, length-set}
use Rattle.std.proofs.lemmas.List.{length_push}
use Rattle.dsv_cnf.specs.Literal.{code_of}
use Rattle.dsv_trail.proofs.Elements.{push-left, push-new}
use Rattle.dsv_trail.proofs.MarkLemmas.{last-open}
use Rattle.dsv_trail.proofs.PlaceLemmas.{false-popped}
use Rattle.dsv_trail.proofs.marks.MarkList.pop.Goals as goal

pub invariant_of-self : goal.invariant_of-self
invariant_of-self c =
    let i = c.self.invariant in
    let new = c.pop.new.self.items in
    let m = c.in-Some.mark in
    let e : c.self.inside.marks.items ≡ new ++ m ∷ [] = c.in-Some.ensures.items in
    let o = last-open c.self.inside.places.items new m (rw e at i.placed) in
    let lt : m.literal.var < c.self.inside.vars = i.over (length new) m (rw e (push-new new m)) in
    record {
      small = i.small;
      few = omega (arith, ap length e, length_push new m, i.few);
      room = omega (arith, c.pop.ensures.capacity, i.room);
      over = λ k x g. i.over k x (rw e (push-left new m k x g));
      falses = length-set _ _ _ ∙ i.falses;
      places = i.places;
      are_false = false-popped c.self.inside.vars c.self.inside.falses.items c.self.inside.marks.items new m c.code.result i.falses lt (c.code.ensures ∙ ap code_of c.negation.ensures) e o i.are_false;
      placed = λ k x g. i.placed k x (rw e (push-left new m k x g));
    }
