use Rattle.std.proofs.Common.{sym, subst, ◌∙◌}
use Rattle.dsv_term.specs.Word.{IsWord}
use Rattle.dsv_rewrite.proofs.Folding.{IsWord-or}
use Rattle.dsv_rewrite.proofs.pairs.or_term.Goals as goal

pub constant_term-requires : goal.constant_term-requires
constant_term-requires c =
    let x = c.in-Some-Some.ensures in
    let y = c.in-Some-Some.ensures' in
    subst IsWord (sym c.or.ensures) (IsWord-or c.in-Some-Some.x c.in-Some-Some.y x.word y.word (x.width ∙ (c.requires.alike ∙ sym y.width)))
