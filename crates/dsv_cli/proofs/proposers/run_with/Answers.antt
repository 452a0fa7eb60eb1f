use Rattle.std.proofs.Common.{rules, ◌≡◌, [], ◌∷◌, map, string_bytes, Some}
use Rattle.dsv_invariant.specs.Shapes.{shape_of}
use Rattle.dsv_template.specs.Boxes.{boxes}
use Rattle.dsv_cli.specs.Proposers.{AreSetsAsked, IfNoInvariant}
use Rattle.dsv_cli.specs.Sets.{AreOfJob}
use Rattle.dsv_cli.proofs.BuiltIn.{boxes_offered}
use Rattle.dsv_cli.proofs.RunRows.{done_with}
use Rattle.dsv_cli.proofs.proposers.run_with.Goals as goal

pub returns : goal.returns
returns g c =
    let items : c.push.new.self.items ≡ c.args.first ∷ [] = search rules in
    let found = c.run.result in
    record {
      run = done_with (g.F.Files.seen c.args.files.now) (g.F.Files.seen c.run.new.files) (g.K.Sink.seen c.args.sink.now) (g.K.Sink.seen c.run.new.sink) (map string_bytes c.args.arguments.now) found
          (λ becomes. AreSetsAsked (λ b. b.ptr) (λ b. (goal.InvariantProposer-dyn g (b.vtable, b.value)).last b.value) (λ b shape. (goal.InvariantProposer-dyn g (b.vtable, b.value)).to_come b.value shape) becomes c.push.new.self.items c.run.new.proposers.sets.items found.outcome)
          (λ becomes. IfNoInvariant found.outcome (AreOfJob becomes (λ q. Some (boxes (shape_of q)) ∷ [])))
          (λ becomes h. boxes_offered h c.args.first items c.requires.boxes) c.run.ensures.run;
    }
