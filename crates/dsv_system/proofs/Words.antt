-- Rows whose exact values are all words have no break.
use Rattle.std.proofs.Common.{List, subst}
use Rattle.std.specs.List.{All, Contains}
use Rattle.dsv_word.specs.declared.format.Format.{Format}
use Rattle.dsv_word.specs.Words.{IsWord}
use Rattle.dsv_system.specs.Runs.{SampleRow}
use Rattle.dsv_system.specs.Breaks.{IsInside, IsOutside}

-- an element has what all of them have
contained : {A : Type 0} (P : A → Type 0) (xs : List A) (x : A) → All P xs → Contains xs x → P x
contained P xs x all there = subst P there.2 (all there.0 x there.1)

inside_not_outside : (f : Format) (r : SampleRow) → IsInside f r → IsOutside f r → ⊥
inside_not_outside f r inside outside = outside.2 (contained (IsWord f) r.exact outside.0 inside outside.1)

pub no_break : (f : Format) (rs : List SampleRow) → All (IsInside f) rs → ((r : SampleRow) × Contains rs r × IsOutside f r) → ⊥
no_break f rs all broken = inside_not_outside f broken.0 (contained (IsInside f) rs broken.0 all broken.1) broken.2
