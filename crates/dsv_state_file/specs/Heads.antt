-- Scaffolding, which private contracts alone cite: the lines up to `states N`.
use Rattle.std.specs.Prelude.{◌+◌, ◌≤◌}
use Rattle.dsv_state_file.specs.Limits.{most_states, least_width, greatest_width}
use Rattle.dsv_state_file.specs.declared.reader.Head.{Head}

-- the numbers of the lines are in their ranges
pub record IsHead (head : Head) : Type 0 where
  pub some : 1 ≤ head.states
  pub few : head.states ≤ most_states
  pub int_bits : 1 ≤ head.format.int_bits
  pub wide : least_width ≤ head.format.int_bits + head.format.frac_bits
  pub narrow : head.format.int_bits + head.format.frac_bits ≤ greatest_width
