-- The controllers that are generated: (b_0 + b_1 z^-1) / (1 + a_1 z^-1 + a_2 z^-2) with numbers of
-- which each is a word over 16.
use Rattle.std.specs.Prelude.{◌≡◌, ℕ, zero, suc, [], ◌∷◌, Ok, ℤ, pos, negsuc}
use Rattle.dsv_fraction.specs.Arithmetic.{over}
use Rattle.dsv_fraction.specs.Ratio.{Ratio, one}
use Rattle.dsv_fraction.specs.Ratio as ratio
use Rattle.dsv_names.specs.declared.realisation.Realisation.TheVariants.{Dfi}
use Rattle.dsv_names.specs.declared.rounding.Rounding.TheVariants.{Floor}
use Rattle.dsv_names.specs.declared.overflow_mode.OverflowMode.TheVariants.{Wrap}
use Rattle.dsv_word.specs.declared.format.Format.{Format}
use Rattle.dsv_reader.specs.Controllers.{ControllerView}
use Rattle.dsv_reader.specs.Defaults.{default_controller}
use Rattle.dsv_quantiser.specs.QuantisedView.{QuantisedView}
use Rattle.dsv_quantiser.specs.Quantising.{quantised_of}
use Rattle.dsv_generator.specs.Draws.{next_state, word_of}

-- Words of three bits before the point and four after it, rounded down and wrapped around.
pub record IsGeneratedFormat (format : Format) : Type 0 where
  pub int_bits : format.int_bits ≡ 3
  pub frac_bits : format.frac_bits ≡ 4
  pub rounding : format.rounding ≡ Floor
  pub overflow : format.overflow ≡ Wrap

-- the number of which this is the word
abbrev pub number_with : ℤ → Ratio
number_with word = over word (pos 16)

-- the controller with the numbers of these words, whose inputs are from -1 to 1
abbrev pub controller_with : ℤ → ℤ → ℤ → ℤ → Format → ControllerView
controller_with a1 a2 b0 b1 format = default_controller
    (number_with b0 ∷ number_with b1 ∷ ratio.zero ∷ [])
    (one ∷ number_with a1 ∷ number_with a2 ∷ [])
    format (record { num = negsuc 0; den = 1 }) one

-- the controller after a state: four states follow, for a_1, a_2, b_0 and b_1
abbrev pub controller_after : ℕ → Format → ControllerView
controller_after state =
    let first = next_state state in
    let second = next_state first in
    let third = next_state second in
    controller_with (word_of first) (word_of second) (word_of third) (word_of (next_state third))

-- the last of the four states
abbrev pub fourth_state : ℕ → ℕ
fourth_state state = next_state (next_state (next_state (next_state state)))

-- the state before the controller of this number, from 0 on
abbrev pub state_before : ℕ → ℕ → ℕ
state_before seed zero = seed
state_before seed (suc n) = fourth_state (state_before seed n)

-- In that format and direct form I the controller becomes these words.
pub record Becomes (controller : Format → ControllerView) (q : QuantisedView) : Type 0 where
  pub format : Format
  pub modes : IsGeneratedFormat format
  pub becomes : quantised_of (controller format) format Dfi ≡ Ok q

-- the controller of this number becomes these words
abbrev pub IsGenerated : ℕ → ℕ → QuantisedView → Type 0
IsGenerated seed n q = Becomes (controller_after (state_before seed n)) q
