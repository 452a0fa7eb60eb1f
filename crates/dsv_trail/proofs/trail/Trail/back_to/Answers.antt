use Rattle.std.proofs.Common.{arith, ap, refl, ◌≡◌, ◌<◌, length, take, slice_get, Some}
use Rattle.std.proofs.lemmas.List.{length-take-le}
use Rattle.std.proofs.lemmas.Option.{slice_get_read}
use Rattle.dsv_trail.specs.MarkListView.{MarkListView}
use Rattle.dsv_trail.proofs.Justifications.{reasons-taken}
use Rattle.dsv_trail.proofs.LevelLemmas.{levels-back}
use Rattle.dsv_trail.proofs.trail.Trail.back_to.Goals as goal

pub invariant_of-self : goal.invariant_of-self
invariant_of-self c =
    let i = c.self.invariant in
    let k = c.index.result.now in
    let inside : c.args.level < length c.self.inside.limits.items = omega (arith, c.if-level-len.true, c.len.ensures, c.self.inside.limits.ok.0) in
    let at : slice_get c.self.inside.limits.items c.args.level ≡ Some k = slice_get_read c.self.inside.limits.items (length c.self.inside.limits.items) c.args.level k refl inside c.index.ensures in
    let within = i.levels.within c.args.level k at in
    let vars = ap (λ (x : MarkListView). x.vars) c.truncate.ensures in
    let marks : c.truncate.new.self.marks ≡ take k c.self.inside.marks.marks = ap (λ (x : MarkListView). x.marks) c.truncate.ensures in
    record {
      small = rw vars i.small;
      few = rw vars (omega (arith, ap length marks, length-take-le k c.self.inside.marks.marks (omega (arith, within)), within, i.few));
      room = rw vars (omega (arith, c.truncate-then-level-len.ensures.capacity, i.room));
      levels = rw (marks, c.truncate-then-level-len.ensures.items) (levels-back c.self.inside.limits.items c.self.inside.marks.marks c.args.level k at i.levels);
    }

pub returns-then-level-len-clause-justified : goal.returns-then-level-len-clause-justified
returns-then-level-len-clause-justified c clauses h =
    let marks : c.truncate.new.self.marks ≡ take c.index.result.now c.self.inside.marks.marks = ap (λ (x : MarkListView). x.marks) c.truncate.ensures in
    rw marks (reasons-taken c.self.inside.marks.marks c.index.result.now clauses (rw (← c.self.view_is) at h))
