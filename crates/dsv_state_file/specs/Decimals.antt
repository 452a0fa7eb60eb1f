-- Decimals without a suffix.
use Rattle.std.specs.Prelude.{ℕ, ◌-◌, ◌==◌, Bool, List, length, drop, Option, Some, None}
use Rattle.std.specs.Prelude.{Result, Ok, Err, if◌then◌else◌}
use Rattle.dsv_fraction.specs.Ratio.{Ratio}
use Rattle.dsv_fraction.specs.Decimal.{decimal_of}
use Rattle.dsv_fraction.specs.Number.{suffix_len}
use Rattle.dsv_fraction.specs.declared.decimal.DecimalRefusal.{DecimalRefusal}

-- the last byte is one of `f F l L`
abbrev pub has_suffix : List ℕ → Bool
has_suffix text = suffix_len (drop (length text - 1) text) == 1

abbrev pub or_none : Result Ratio DecimalRefusal → Option Ratio
or_none (Ok value) = Some value
or_none (Err why) = None

-- the decimal that the text is, where it has no suffix
abbrev pub bare_decimal : List ℕ → Option Ratio
bare_decimal text = if has_suffix text then None else or_none (decimal_of text)
