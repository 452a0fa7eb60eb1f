-- A state-space controller's file as contracts see it.
use Rattle.std.specs.Prelude.{◌≡◌, ℕ, ◌+◌, ◌≤◌, List, length}
use Rattle.std.specs.List.{All}
use Rattle.dsv_fraction.specs.Ratio.{Ratio}
use Rattle.dsv_state_file.specs.Limits.{most_states, least_width, greatest_width}

-- new state = a (state) + b (input), output = c (state) + d (input): a by its rows; how many bits
-- stand before the point of the words and after it, and the range of the inputs
pub record StateFileView : Type 0 where
  pub states : ℕ
  pub a : List (List Ratio)
  pub b : List Ratio
  pub c : List Ratio
  pub d : Ratio
  pub int_bits : ℕ
  pub frac_bits : ℕ
  pub min : Ratio
  pub max : Ratio

-- what is true of each file that was read
pub record IsStateFile (f : StateFileView) : Type 0 where
  pub some : 1 ≤ f.states
  pub few : f.states ≤ most_states
  pub rows : length f.a ≡ f.states
  pub square : All (λ row. length row ≡ f.states) f.a
  pub inputs : length f.b ≡ f.states
  pub outputs : length f.c ≡ f.states
  pub int_bits : 1 ≤ f.int_bits
  pub wide : least_width ≤ f.int_bits + f.frac_bits
  pub narrow : f.int_bits + f.frac_bits ≤ greatest_width
