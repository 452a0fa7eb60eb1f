-- What a proposer is told of a controller.
use Rattle.std.specs.Prelude.{◌≡◌, ℕ, ◌≤◌, ◌≤ℤ◌}
use Rattle.dsv_word.specs.Words.{lo, hi}
use Rattle.dsv_word.specs.Width.{widest_word}
use Rattle.dsv_template.specs.Limits.{most_registers}
use Rattle.dsv_template.specs.declared.shape.Shape.{Shape}

-- there are few registers, and words are those of a lawful number of bits
pub record IsLawful (shape : Shape) : Type 0 where
  pub few : shape.registers ≤ most_registers
  pub past : shape.past_inputs ≤ shape.registers
  pub bits : ℕ
  pub wide : 2 ≤ bits
  pub narrow : bits ≤ widest_word
  pub least : shape.lo ≡ lo bits
  pub greatest : shape.hi ≡ hi bits
  pub low : shape.lo ≤ℤ shape.xlo
  pub range : shape.xlo ≤ℤ shape.xhi
  pub high : shape.xhi ≤ℤ shape.hi
