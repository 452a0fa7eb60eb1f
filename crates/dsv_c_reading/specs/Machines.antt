-- Machines that read a list entry by entry, and give entries of another.
use Rattle.std.specs.Prelude.{List, [], ◌∷◌, ◌++◌, Option, Some, option_map}
use Rattle.std.specs.Option.{option_and_then}

-- what was given, and the state after it
pub record Gone (S B : Type 0) : Type 0 where
  pub out : List B
  pub state : S

abbrev pub gone : {S B : Type 0} → List B → S → Gone S B
gone out state = record { out = out; state = state }

abbrev pub after_out : {S B : Type 0} → List B → Gone S B → Gone S B
after_out out g = gone (out ++ g.out) g.state

-- what a list gives from a state; None if the machine stops at an entry
abbrev pub steps : {S A B : Type 0} → (S → A → Option (Gone S B)) → S → List A
    → Option (Gone S B)
steps next s [] = Some (gone [] s)
steps next s (x ∷ xs) =
    option_and_then (λ g. option_map (after_out g.out) (steps next g.state xs)) (next s x)
