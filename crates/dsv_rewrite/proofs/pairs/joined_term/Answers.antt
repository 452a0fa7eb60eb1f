use Rattle.std.proofs.Common.{arith, sym, subst}
use Rattle.dsv_term.specs.Word.{IsWord}
use Rattle.dsv_rewrite.proofs.Folding.{IsWord-joined}
use Rattle.dsv_rewrite.proofs.pairs.joined_term.Goals as goal

pub constant_term-requires : goal.constant_term-requires
constant_term-requires c =
    let x = c.in-Some-Some.ensures in
    let y = c.in-Some-Some.ensures' in
    subst IsWord (sym c.concatenation.ensures) (IsWord-joined c.in-Some-Some.x c.in-Some-Some.y x.word y.word (omega (arith, x.width, y.width, c.requires.narrow)))
