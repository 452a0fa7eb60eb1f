-- Names: How a number outside the words becomes a word.
use Rattle.std.specs.Prelude.{ℕ, List, [], ◌∷◌, codes}
use Rattle.dsv_names.specs.declared.overflow_mode.OverflowMode.{OverflowMode}
use Rattle.dsv_names.specs.declared.overflow_mode.OverflowMode.TheVariants as overflow_mode

abbrev pub overflow_mode_name : OverflowMode → List ℕ
overflow_mode_name overflow_mode.Wrap = codes "WRAPAROUND"
overflow_mode_name overflow_mode.Saturate = codes "SATURATE"

abbrev pub overflow_modes : List OverflowMode
overflow_modes = overflow_mode.Wrap ∷ overflow_mode.Saturate ∷ []
