use Rattle.std.proofs.Common.{arith}
use Rattle.dsv_lines.proofs.Cuts.{space_counts, other_counts, last_piece}
use Rattle.dsv_lines.proofs.pieces.spaces_in.Goals.{then-byte-eq32, else-byte-eq32}
use Rattle.dsv_lines.proofs.pieces.spaces_in.Goals as goal

pub loop-byte-preserved : goal.loop-byte-preserved
loop-byte-preserved c =
    let line = c.args.line.now in
    let i = c.loop-byte.byte-index in
    elim c.if-byte-eq32.branch [
      | then-byte-eq32 w ↦
          let h = space_counts line i c.loop-byte-test.true w.if-byte-eq32.true in
          record { few = omega (arith, w.spaces-is); rest = omega (arith, h, w.spaces-is, c.loop-byte.invariant.rest) }
      | else-byte-eq32 w ↦
          let h = other_counts line i c.loop-byte-test.true w.if-byte-eq32.false in
          record { few = omega (arith, w.spaces-is); rest = omega (arith, h, w.spaces-is, c.loop-byte.invariant.rest) }
    ]

pub returns : goal.returns
returns c =
    let h = last_piece c.args.line.now c.loop-byte.byte-index (omega arith) in
    omega (arith, h, c.loop-byte.invariant.rest)
