use Rattle.std.proofs.Common.{ℕ, ◌≤◌, ◌+◌, sym, subst}
use Rattle.dsv_template.proofs.BoxLemmas.{bits_of-lawful}
use Rattle.dsv_template.proofs.box_proposer.bits_of.Goals as goal

pub returns-clause-some : goal.returns-clause-some
returns-clause-some c = subst (λ (k : ℕ). 2 ≤ k + 1) (sym c.bit_length.ensures.value) (bits_of-lawful c.args.shape.now c.requires).0

pub returns-clause-few : goal.returns-clause-few
returns-clause-few c = subst (λ (k : ℕ). k + 1 ≤ 48) (sym c.bit_length.ensures.value) (bits_of-lawful c.args.shape.now c.requires).1
