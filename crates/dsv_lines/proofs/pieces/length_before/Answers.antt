use Rattle.std.proofs.Common.{length, sym, eq-eqb, arith}
use Rattle.std.specs.Prelude.{◌==◌}
use Rattle.std.proofs.lemmas.List.Sums.{position_or_len_is}
use Rattle.dsv_lines.proofs.pieces.length_before.Goals as goal

pub returns-then-b-byte-clause-place : goal.returns-then-b-byte-clause-place
returns-then-b-byte-clause-place c =
    sym (position_or_len_is (λ b. b == c.args.byte) c.args.text.now c.loop-i.i 0 (omega arith) c.loop-i.invariant
    (λ _. eq-eqb _ _ c.if-b-byte.true))

pub returns-clause-place : goal.returns-clause-place
returns-clause-place c =
    sym (position_or_len_is (λ b. b == c.args.byte) c.args.text.now (length c.args.text.now) 0 (omega arith)
    (λ k h. c.loop-i.invariant k (omega arith)) (λ h. absurd (omega arith)))
