-- The names of the files of a cascade, after the first.
use Rattle.std.specs.Prelude.{ℕ, ◌==◌, ◌&&◌, not, nat_le, Bool, List, length, Option, Some, None}
use Rattle.std.specs.Prelude.{if◌then◌else◌}
use Rattle.std.specs.List.{list_any}
use Rattle.dsv_command.specs.Inputs.{pieces}

-- the most sections after the first
abbrev pub most_later : ℕ
most_later = 7

abbrev pub is_nameless : List ℕ → Bool
is_nameless name = length name == 0

-- one to seven names joined by commas, none of them empty
abbrev pub names_of : List ℕ → Option (List (List ℕ))
names_of text =
    if nat_le (length (pieces text)) most_later && not (list_any is_nameless (pieces text))
    then Some (pieces text) else None
