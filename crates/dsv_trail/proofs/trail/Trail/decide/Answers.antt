use Rattle.std.proofs.Common.{arith, ap, refl, ◌≡◌, ◌+◌, ◌++◌, ◌∷◌, [], length, None}
use Rattle.dsv_trail.specs.MarkListView.{MarkListView}
use Rattle.dsv_trail.specs.declared.marks.Mark.{Mark}
use Rattle.dsv_trail.proofs.Justifications.{reasons-pushed}
use Rattle.dsv_trail.proofs.LevelLemmas.{few-levels, levels-decided}
use Rattle.dsv_trail.proofs.trail.Trail.decide.Goals as goal

pub push_reserved-requires : goal.push_reserved-requires
push_reserved-requires c =
    let i = c.self.invariant in
    let few = c.len-place.ensures.room c.args.lit.var (rw (← c.self.view_is) at c.requires.over) (rw (← c.self.view_is) at c.requires.free) in
    omega (arith, few, few-levels c.self.inside.limits.items c.self.inside.marks.marks i.levels, i.room, c.self.inside.limits.ok.0)

pub overflow_cast-level : goal.overflow_cast-level
overflow_cast-level c =
    let i = c.self.invariant in
    let few = c.len-place.ensures.room c.args.lit.var (rw (← c.self.view_is) at c.requires.over) (rw (← c.self.view_is) at c.requires.free) in
    omega (arith, few, few-levels c.self.inside.limits.items c.self.inside.marks.marks i.levels, i.small, c.self.inside.limits.ok.0, c.push_reserved.ensures.len, c.len-level.ensures)

pub invariant_of-self : goal.invariant_of-self
invariant_of-self c =
    let i = c.self.invariant in
    let m : Mark = record { literal = c.args.lit; level = c.len-level.result; reason = None } in
    let vars = ap (λ (x : MarkListView). x.vars) c.push.ensures.state in
    let marks : c.push.new.self.marks ≡ c.self.inside.marks.marks ++ m ∷ [] = ap (λ (x : MarkListView). x.marks) c.push.ensures.state in
    let level : c.len-level.result ≡ length c.self.inside.limits.items + 1 = omega (arith, c.self.inside.limits.ok.0, c.push_reserved.ensures.len, c.len-level.ensures) in
    record {
      small = rw vars i.small;
      few = c.push.ensures.few;
      room = rw vars (omega (arith, c.push_reserved.ensures.capacity, i.room));
      levels = rw (marks, c.push_reserved.ensures.items, c.len-place.ensures.value) (levels-decided c.self.inside.limits.items c.self.inside.marks.marks m level refl i.levels);
    }

pub returns-clause-justified : goal.returns-clause-justified
returns-clause-justified c clauses h =
    let m : Mark = record { literal = c.args.lit; level = c.len-level.result; reason = None } in
    let marks : c.push.new.self.marks ≡ c.self.inside.marks.marks ++ m ∷ [] = ap (λ (x : MarkListView). x.marks) c.push.ensures.state in
    rw marks (reasons-pushed c.self.inside.marks.marks m clauses (λ r e. absurd cc) (rw (← c.self.view_is) at h))
