use Rattle.std.proofs.Common.{arith}
use Rattle.std.proofs.lemmas.Grind.{common_steps}
use Rattle.dsv_base.proofs.ReadingLemmas.{read_more, longer, rose_more, rose_past}
use Rattle.dsv_base.proofs.files.read_all.Goals as goal

pub loop-turn-preserved : goal.loop-turn-preserved
loop-turn-preserved g c =
    let i = c.loop-turn.invariant in
    let seen = c.in_ok-count.ensures in
    let grown = c.in_ok-extend_from_slice.ensures.ok in
    record {
      within = omega arith;
      turns = omega arith;
      size = grind (arith, common_steps, grown);
      held = cc;
      front = read_more ((g.F.Files.seen c.args.files.now).held c.args.name.now) c.loop-turn.bytes c.extend_from_slice.new.self c.loop-turn.got c.in_ok-count.count c.fetch.new.room i.front (rw (← i.held) seen.piece) (omega arith) grown;
      came = rose_more i.came seen.came;
      faults = omega arith;
      blamed = cc;
    }

pub returns-then-got-limit-clause-too_long : goal.returns-then-got-limit-clause-too_long
returns-then-got-limit-clause-too_long g c = λ _.
    let i = c.loop-turn.invariant in
    let seen = c.in_ok-count.ensures in
    longer ((g.F.Files.seen c.args.files.now).held c.args.name.now) c.loop-turn.bytes c.loop-turn.got c.in_ok-count.count c.args.limit c.fetch.new.room i.front (rw (← i.held) seen.piece) (omega arith) (omega arith)

pub returns-then-got-limit-clause-too_many : goal.returns-then-got-limit-clause-too_many
returns-then-got-limit-clause-too_many g c = λ _.
    let seen = c.in_ok-count.ensures in
    rose_past c.args.limit (omega arith) (rose_more c.loop-turn.invariant.came seen.came)
