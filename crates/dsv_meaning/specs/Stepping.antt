-- Serves private contracts: samples over registers alone, which is all that a sample reads of its
-- past.
use Rattle.std.specs.Prelude.{List, [], ◌∷◌, ◌++◌, ℤ}
use Rattle.dsv_names.specs.declared.realisation.Realisation.{Realisation}
use Rattle.dsv_quantiser.specs.QuantisedView.{QuantisedView}
use Rattle.dsv_system.specs.Runs.{Sampled}
use Rattle.dsv_meaning.specs.Equations.{order, sample_as, start_as, registers_as}

-- one sample of the realisation from these words in the registers, whose past is the registers
-- after it
unfoldable pub step_as : Realisation → QuantisedView → List ℤ → ℤ → Sampled (List ℤ)
step_as k q r x =
    let s = sample_as k q (start_as k (order q) r) x in
    record { y = s.y; exact = s.exact; past = registers_as k (order q) s.past }

-- a delay line's new words after those so far: the newest word, and the old ones but for the oldest
abbrev pub delay_line : List ℤ → ℤ → List ℤ → List ℤ
delay_line done newest [] = done
delay_line done newest (w ∷ ws) = delay_line (done ++ newest ∷ []) w ws
