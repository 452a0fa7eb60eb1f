use Rattle.std.proofs.Common.{ap, refl, ◌≡◌, ◌++◌, ◌∷◌, [], length, Some}
use Rattle.dsv_trail.specs.Justification.{IsReason}
use Rattle.dsv_trail.specs.MarkListView.{MarkListView}
use Rattle.dsv_trail.specs.declared.marks.Mark.{Mark}
use Rattle.dsv_trail.proofs.Elements.{some-inside}
use Rattle.dsv_trail.proofs.Justifications.{reasons-pushed}
use Rattle.dsv_trail.proofs.LevelLemmas.{levels-implied}
use Rattle.dsv_trail.proofs.trail.Trail.imply.Goals as goal

pub invariant_of-self : goal.invariant_of-self
invariant_of-self c =
    let i = c.self.invariant in
    let m : Mark = record { literal = c.args.lit; level = c.level-level.result; reason = Some c.args.reason } in
    let vars = ap (λ (x : MarkListView). x.vars) c.push.ensures.state in
    let marks : c.push.new.self.marks ≡ c.self.inside.marks.marks ++ m ∷ [] = ap (λ (x : MarkListView). x.marks) c.push.ensures.state in
    let level : c.level-level.result ≡ length c.self.inside.limits.items = rw (← c.self.view_is) at c.level-level.ensures in
    record {
      small = rw vars i.small;
      few = c.push.ensures.few;
      room = rw vars i.room;
      levels = rw marks (levels-implied c.self.inside.limits.items c.self.inside.marks.marks m c.args.reason level refl i.levels);
    }

pub returns-clause-justified : goal.returns-clause-justified
returns-clause-justified c h =
    let m : Mark = record { literal = c.args.lit; level = c.level-level.result; reason = Some c.args.reason } in
    let marks : c.push.new.self.marks ≡ c.self.inside.marks.marks ++ m ∷ [] = ap (λ (x : MarkListView). x.marks) c.push.ensures.state in
    let new : IsReason c.args.clauses.now.clauses c.args.reason c.self.inside.marks.marks c.args.lit = rw (← c.self.view_is) at c.requires.reason in
    rw marks (reasons-pushed c.self.inside.marks.marks m c.args.clauses.now.clauses (λ r e. let s : c.args.reason ≡ r = some-inside c.args.reason r e in rw (← s) new) (rw (← c.self.view_is) at h))
