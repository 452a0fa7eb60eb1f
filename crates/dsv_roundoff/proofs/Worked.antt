-- Exact runs of the written equations, worked by hand from registers of zeros. All realisations of a filter have the same outputs.
use Rattle.std.proofs.Common.{List, [], ◌∷◌, refl}
use Rattle.std.proofs.Math.IntN.{ℤ, pos, negsuc}
use Rattle.dsv_names.specs.declared.realisation.Realisation.TheVariants.{Dfi, Dfii, Tdfii, Ddfi, Ddfii, Tddfii}
use Rattle.dsv_meaning.specs.Equations.{Past}
use Rattle.dsv_meaning.proofs.WorkedControllers.{second_order, delta_order_one}
use Rattle.dsv_roundoff.specs.Written.{RunsAsWritten}

-- pasts with signals alone, and with chains alone
abbrev signals : List ℤ → List ℤ → Past
signals signal outputs = record { signal = signal; outputs = outputs; chain = []; output_chain = [] }

abbrev chains : List (List ℤ) → List (List ℤ) → Past
chains chain output_chain = record { signal = []; outputs = []; chain = chain; output_chain = output_chain }

-- ---- (1 + 0.5 z^-1 - z^-2) / (1 + 0.5 z^-1 - 0.5 z^-2) at the inputs 2, 0, 0, over 2: the outputs 2, 0, -1 are 4, 0, -2.
-- y = 4; y = 2 - 2 = 0; y = -4 - 0 + 2 = -2
dfi_run : RunsAsWritten (second_order Dfi) (pos 2) (pos 2 ∷ pos 0 ∷ pos 0 ∷ []) (pos 4 ∷ pos 0 ∷ negsuc 1 ∷ [])
dfi_run = (
  signals (pos 4 ∷ pos 0 ∷ pos 0 ∷ []) (pos 4 ∷ pos 0 ∷ pos 0 ∷ []),
  (refl, refl),
  (
    signals (pos 0 ∷ pos 4 ∷ pos 0 ∷ pos 0 ∷ []) (pos 0 ∷ pos 4 ∷ pos 0 ∷ pos 0 ∷ []),
    (refl, refl),
    (signals (pos 0 ∷ pos 0 ∷ pos 4 ∷ pos 0 ∷ pos 0 ∷ []) (negsuc 1 ∷ pos 0 ∷ pos 4 ∷ pos 0 ∷ pos 0 ∷ []), (refl, refl), tt),
  ),
)

-- w = 4, y = 4; w = -2, y = -2 + 2 = 0; w = 1 + 2 = 3, y = 3 - 1 - 4 = -2
dfii_run : RunsAsWritten (second_order Dfii) (pos 2) (pos 2 ∷ pos 0 ∷ pos 0 ∷ []) (pos 4 ∷ pos 0 ∷ negsuc 1 ∷ [])
dfii_run = (
  signals (pos 4 ∷ pos 0 ∷ pos 0 ∷ []) [],
  (pos 4, refl, refl, refl),
  (
    signals (negsuc 1 ∷ pos 4 ∷ pos 0 ∷ pos 0 ∷ []) [],
    (negsuc 1, refl, refl, refl),
    (signals (pos 3 ∷ negsuc 1 ∷ pos 4 ∷ pos 0 ∷ pos 0 ∷ []) [], (pos 3, refl, refl, refl), tt),
  ),
)

-- y = 4, s = 0, -2; y = 0, s = -2, 0; y = -2, s = 1 + 0, -1
tdfii_run : RunsAsWritten (second_order Tdfii) (pos 2) (pos 2 ∷ pos 0 ∷ pos 0 ∷ []) (pos 4 ∷ pos 0 ∷ negsuc 1 ∷ [])
tdfii_run =
    let quiet : List ℤ = pos 0 ∷ pos 0 ∷ [] in
    let first : List ℤ = pos 0 ∷ negsuc 1 ∷ [] in
    let second : List ℤ = negsuc 1 ∷ pos 0 ∷ [] in
    let third : List ℤ = pos 1 ∷ negsuc 0 ∷ [] in (
      chains (first ∷ quiet ∷ []) [],
      (first, refl, (refl, (refl, tt)), refl),
      (
        chains (second ∷ first ∷ quiet ∷ []) [],
        (second, refl, (refl, (refl, tt)), refl),
        (chains (third ∷ second ∷ first ∷ quiet ∷ []) [], (third, refl, (refl, (refl, tt)), refl), tt),
      ),
    )

-- ---- z^-1 / (1 - 0.5 z^-1) with delta 0.5 at the inputs 16, 16, 16, over 1: the outputs are 0, 16, 24.
-- y = 0, u = 8, v = 0; y = 16, u = 16, v = 8; y = 32 - 8 = 24, u = 24, v = 20
ddfi_run : RunsAsWritten (delta_order_one Ddfi) (pos 1) (pos 16 ∷ pos 16 ∷ pos 16 ∷ []) (pos 0 ∷ pos 16 ∷ pos 24 ∷ [])
ddfi_run =
    let word = λ (w : ℤ). w ∷ [] in (
      chains (word (pos 8) ∷ word (pos 0) ∷ []) (word (pos 0) ∷ word (pos 0) ∷ []),
      (word (pos 8), word (pos 0), refl, (refl, tt), (refl, tt), refl),
      (
        chains (word (pos 16) ∷ word (pos 8) ∷ word (pos 0) ∷ []) (word (pos 8) ∷ word (pos 0) ∷ word (pos 0) ∷ []),
        (word (pos 16), word (pos 8), refl, (refl, tt), (refl, tt), refl),
        (
          chains (word (pos 24) ∷ word (pos 16) ∷ word (pos 8) ∷ word (pos 0) ∷ []) (word (pos 20) ∷ word (pos 8) ∷ word (pos 0) ∷ word (pos 0) ∷ []),
          (word (pos 24), word (pos 20), refl, (refl, tt), (refl, tt), refl),
          tt,
        ),
      ),
    )

-- w_0 = 16, y = 0, w_1 = 8; w_0 = 8, y = 16, w_1 = 12; w_0 = 4, y = 24, w_1 = 14
ddfii_run : RunsAsWritten (delta_order_one Ddfii) (pos 1) (pos 16 ∷ pos 16 ∷ pos 16 ∷ []) (pos 0 ∷ pos 16 ∷ pos 24 ∷ [])
ddfii_run =
    let word = λ (w : ℤ). w ∷ [] in (
      chains (word (pos 8) ∷ word (pos 0) ∷ []) [],
      (pos 16, word (pos 8), refl, refl, (refl, tt), refl),
      (
        chains (word (pos 12) ∷ word (pos 8) ∷ word (pos 0) ∷ []) [],
        (pos 8, word (pos 12), refl, refl, (refl, tt), refl),
        (chains (word (pos 14) ∷ word (pos 12) ∷ word (pos 8) ∷ word (pos 0) ∷ []) [], (pos 4, word (pos 14), refl, refl, (refl, tt), refl), tt),
      ),
    )

-- y = 0, t = 32, s = 16; y = 16, t = 16, s = 24; y = 24, t = 8, s = 28
tddfii_run : RunsAsWritten (delta_order_one Tddfii) (pos 1) (pos 16 ∷ pos 16 ∷ pos 16 ∷ []) (pos 0 ∷ pos 16 ∷ pos 24 ∷ [])
tddfii_run =
    let word = λ (w : ℤ). w ∷ [] in (
      chains (word (pos 16) ∷ word (pos 0) ∷ []) [],
      (word (pos 32), word (pos 16), refl, (refl, tt), (refl, tt), refl),
      (
        chains (word (pos 24) ∷ word (pos 16) ∷ word (pos 0) ∷ []) [],
        (word (pos 16), word (pos 24), refl, (refl, tt), (refl, tt), refl),
        (chains (word (pos 28) ∷ word (pos 24) ∷ word (pos 16) ∷ word (pos 0) ∷ []) [], (word (pos 8), word (pos 28), refl, (refl, tt), (refl, tt), refl), tt),
      ),
    )
