use Rattle.std.proofs.Common.{◌*◌, ◌^◌, arith}
use Rattle.std.proofs.Math.IntN.{ℤ, ◌*ℤ◌}
use Rattle.dsv_forms.proofs.Passing.{Within, narrow, within_times}
use Rattle.dsv_closed_forms.proofs.starts.term.Goals as goal

bound : (e a b : ℤ) → Within (2 ^ 74) e → Within (2 ^ 23) a → Within (2 ^ 23) b → Within (2 ^ 120) (e *ℤ a *ℤ b)
bound e a b h k l = within_times (2 ^ 74 * 2 ^ 23) (2 ^ 23) (e *ℤ a) b (within_times (2 ^ 74) (2 ^ 23) e a h k) l

pub product-requires-2 : goal.product-requires-2
product-requires-2 c =
    rw c.product.ensures (narrow (2 ^ 120) (c.args.entry *ℤ c.args.a *ℤ c.args.b) (bound c.args.entry c.args.a c.args.b c.requires.entry c.requires.first c.requires.second) (omega arith))

pub returns-clause-size : goal.returns-clause-size
returns-clause-size c = rw (c.product-2.ensures, c.product.ensures) (bound c.args.entry c.args.a c.args.b c.requires.entry c.requires.first c.requires.second)
