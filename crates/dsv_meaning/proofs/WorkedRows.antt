-- The written equations of each realisation, one sample or two, worked by hand. `-> n` is a product divided by 2^frac_bits
-- and rounded down.
use Rattle.std.proofs.Common.{◌≡◌, [], ◌∷◌, refl}
use Rattle.std.proofs.Math.IntN.{pos, negsuc}
use Rattle.dsv_names.specs.declared.realisation.Realisation.TheVariants.{Dfi, Dfii, Tdfii, Ddfi, Ddfii, Tddfii}
use Rattle.dsv_system.specs.Systems.{rows, registers_after}
use Rattle.dsv_meaning.specs.Systems.{equations_of}
use Rattle.dsv_meaning.proofs.WorkedControllers.{exact_of, outputs_of, slow_pole, second_order, delta_order_one, widened}

-- ---- two samples, of which the second wraps: 4; 0; 4; 0; y = 4. Then 4; 0; 4; -4; y = 8, which is the word -8.
slow_pole_exact : exact_of (rows (equations_of slow_pole) (pos 0 ∷ pos 0 ∷ []) (pos 4 ∷ pos 4 ∷ []))
    ≡ (pos 4 ∷ pos 0 ∷ pos 4 ∷ pos 0 ∷ pos 4 ∷ []) ∷ (pos 4 ∷ pos 0 ∷ pos 4 ∷ negsuc 3 ∷ pos 8 ∷ []) ∷ []
slow_pole_exact = refl

slow_pole_outputs : outputs_of (rows (equations_of slow_pole) (pos 0 ∷ pos 0 ∷ []) (pos 4 ∷ pos 4 ∷ [])) ≡ pos 4 ∷ negsuc 7 ∷ []
slow_pole_outputs = refl

-- ---- direct form I, with x_1 = 3, x_2 = 1, y_1 = 2, y_2 = 5 and x = 4:
-- 2 4 -> 4; 1 3 -> 1; 5; -2 1 -> -1; 4; 1 2 -> 1; 4 - 1 = 3; -1 5 -> -3; y = 3 + 3 = 6
dfi_exact : exact_of (rows (equations_of (second_order Dfi)) (pos 3 ∷ pos 1 ∷ pos 2 ∷ pos 5 ∷ []) (pos 4 ∷ []))
    ≡ (pos 4 ∷ pos 1 ∷ pos 5 ∷ negsuc 0 ∷ pos 4 ∷ pos 1 ∷ pos 3 ∷ negsuc 2 ∷ pos 6 ∷ []) ∷ []
dfi_exact = refl

dfi_registers : registers_after (equations_of (second_order Dfi)) (pos 3 ∷ pos 1 ∷ pos 2 ∷ pos 5 ∷ []) (pos 4 ∷ []) ≡ pos 4 ∷ pos 3 ∷ pos 6 ∷ pos 2 ∷ []
dfi_registers = refl

-- ---- direct form II, with w_1 = 3, w_2 = 5 and x = 4:
-- 1 3 -> 1; 4 - 1 = 3; -1 5 -> -3; w = 3 + 3 = 6. 2 6 -> 6; 1 3 -> 1; 7; -2 5 -> -5; y = 2
dfii_exact : exact_of (rows (equations_of (second_order Dfii)) (pos 3 ∷ pos 5 ∷ []) (pos 4 ∷ []))
    ≡ (pos 1 ∷ pos 3 ∷ negsuc 2 ∷ pos 6 ∷ pos 6 ∷ pos 1 ∷ pos 7 ∷ negsuc 4 ∷ pos 2 ∷ []) ∷ []
dfii_exact = refl

dfii_registers : registers_after (equations_of (second_order Dfii)) (pos 3 ∷ pos 5 ∷ []) (pos 4 ∷ []) ≡ pos 6 ∷ pos 3 ∷ []
dfii_registers = refl

-- ---- transposed direct form II, with s_1 = 3, s_2 = 5 and x = 4:
-- 2 4 -> 4; y = 4 + 3 = 7. 1 4 -> 2; 1 7 -> 3; 2 - 3 = -1; new s_1 = -1 + 5 = 4. -2 4 -> -4; -1 7 -> -4; new s_2 = 0
tdfii_exact : exact_of (rows (equations_of (second_order Tdfii)) (pos 3 ∷ pos 5 ∷ []) (pos 4 ∷ []))
    ≡ (pos 4 ∷ pos 7 ∷ pos 2 ∷ pos 3 ∷ negsuc 0 ∷ pos 4 ∷ negsuc 3 ∷ negsuc 3 ∷ pos 0 ∷ []) ∷ []
tdfii_exact = refl

tdfii_outputs : outputs_of (rows (equations_of (second_order Tdfii)) (pos 3 ∷ pos 5 ∷ []) (pos 4 ∷ [])) ≡ pos 7 ∷ []
tdfii_outputs = refl

tdfii_registers : registers_after (equations_of (second_order Tdfii)) (pos 3 ∷ pos 5 ∷ []) (pos 4 ∷ []) ≡ pos 4 ∷ pos 0 ∷ []
tdfii_registers = refl

-- ---- delta direct form I, with u_1 = 3, v_1 = 5 and x = 16:
-- 0 16 -> 0; 32 3 -> 6; 6; 16 5 -> 5; y = 6 - 5 = 1. 8 16 -> 8; new u_1 = 3 + 8 = 11. 8 1 -> 0; new v_1 = 5 + 0 = 5
ddfi_exact : exact_of (rows (equations_of (delta_order_one Ddfi)) (pos 3 ∷ pos 5 ∷ []) (pos 16 ∷ []))
    ≡ (pos 0 ∷ pos 6 ∷ pos 6 ∷ pos 5 ∷ pos 1 ∷ pos 8 ∷ pos 11 ∷ pos 0 ∷ pos 5 ∷ []) ∷ []
ddfi_exact = refl

ddfi_outputs : outputs_of (rows (equations_of (delta_order_one Ddfi)) (pos 3 ∷ pos 5 ∷ []) (pos 16 ∷ [])) ≡ pos 1 ∷ []
ddfi_outputs = refl

ddfi_registers : registers_after (equations_of (delta_order_one Ddfi)) (pos 3 ∷ pos 5 ∷ []) (pos 16 ∷ []) ≡ pos 11 ∷ pos 5 ∷ []
ddfi_registers = refl

-- ---- delta direct form II from 0, with x = 16 and then x = 0:
-- 16 0 -> 0; w_0 = 16. 0 16 -> 0; 32 0 -> 0; y = 0. 8 16 -> 8; new w_1 = 0 + 8 = 8
-- 16 8 -> 8; w_0 = 0 - 8 = -8. 0 -8 -> 0; 32 8 -> 16; y = 16. 8 -8 -> -4; new w_1 = 8 - 4 = 4
ddfii_exact : exact_of (rows (equations_of (delta_order_one Ddfii)) (pos 0 ∷ []) (pos 16 ∷ pos 0 ∷ []))
    ≡ (pos 0 ∷ pos 16 ∷ pos 0 ∷ pos 0 ∷ pos 0 ∷ pos 8 ∷ pos 8 ∷ []) ∷ (pos 8 ∷ negsuc 7 ∷ pos 0 ∷ pos 16 ∷ pos 16 ∷ negsuc 3 ∷ pos 4 ∷ []) ∷ []
ddfii_exact = refl

ddfii_outputs : outputs_of (rows (equations_of (delta_order_one Ddfii)) (pos 0 ∷ []) (pos 16 ∷ pos 0 ∷ [])) ≡ pos 0 ∷ pos 16 ∷ []
ddfii_outputs = refl

-- ---- transposed delta direct form II, with s_1 = 3 and x = 16:
-- 0 16 -> 0; y = 0 + 3 = 3. 32 16 -> 32; 16 3 -> 3; 32 - 3 = 29; 8 29 -> 14; new s_1 = 3 + 14 = 17
tddfii_exact : exact_of (rows (equations_of (delta_order_one Tddfii)) (pos 3 ∷ []) (pos 16 ∷ []))
    ≡ (pos 0 ∷ pos 3 ∷ pos 32 ∷ pos 3 ∷ pos 29 ∷ pos 14 ∷ pos 17 ∷ []) ∷ []
tddfii_exact = refl

tddfii_outputs : outputs_of (rows (equations_of (delta_order_one Tddfii)) (pos 3 ∷ []) (pos 16 ∷ [])) ≡ pos 3 ∷ []
tddfii_outputs = refl

tddfii_registers : registers_after (equations_of (delta_order_one Tddfii)) (pos 3 ∷ []) (pos 16 ∷ []) ≡ pos 17 ∷ []
tddfii_registers = refl

-- ---- with a wide accumulator a line is divided and rounded down once
-- 4 4 -> 4; then 4 4 + 4 4 -> 8, which is the word -8
wide_slow_pole_exact : exact_of (rows (equations_of (widened slow_pole)) (pos 0 ∷ pos 0 ∷ []) (pos 4 ∷ pos 4 ∷ [])) ≡ (pos 4 ∷ []) ∷ (pos 8 ∷ []) ∷ []
wide_slow_pole_exact = refl

-- 2 4 + 1 3 - 2 1 - 1 2 + 1 5 = 12 -> 6
wide_dfi_exact : exact_of (rows (equations_of (widened (second_order Dfi))) (pos 3 ∷ pos 1 ∷ pos 2 ∷ pos 5 ∷ []) (pos 4 ∷ [])) ≡ (pos 6 ∷ []) ∷ []
wide_dfi_exact = refl

-- 2 (4) - 1 3 + 1 5 = 10 -> w = 5; 2 5 + 1 3 - 2 5 = 3 -> 1
wide_dfii_exact : exact_of (rows (equations_of (widened (second_order Dfii))) (pos 3 ∷ pos 5 ∷ []) (pos 4 ∷ [])) ≡ (pos 5 ∷ pos 1 ∷ []) ∷ []
wide_dfii_exact = refl

-- 2 4 + 2 (3) = 14 -> y = 7; 1 4 - 1 7 + 2 (5) = 7 -> 3; -2 4 + 1 7 = -1 -> -1
wide_tdfii_exact : exact_of (rows (equations_of (widened (second_order Tdfii))) (pos 3 ∷ pos 5 ∷ []) (pos 4 ∷ [])) ≡ (pos 7 ∷ pos 3 ∷ negsuc 0 ∷ []) ∷ []
wide_tdfii_exact = refl

-- 0 16 + 32 3 - 16 5 = 16 -> y = 1; 16 (3) + 8 16 = 176 -> 11; 16 (5) + 8 1 = 88 -> 5
wide_ddfi_exact : exact_of (rows (equations_of (widened (delta_order_one Ddfi))) (pos 3 ∷ pos 5 ∷ []) (pos 16 ∷ [])) ≡ (pos 1 ∷ pos 11 ∷ pos 5 ∷ []) ∷ []
wide_ddfi_exact = refl

-- 16 (16) - 16 3 = 208 -> w_0 = 13; 0 13 + 32 3 = 96 -> y = 6; 16 (3) + 8 13 = 152 -> 9
wide_ddfii_exact : exact_of (rows (equations_of (widened (delta_order_one Ddfii))) (pos 3 ∷ []) (pos 16 ∷ [])) ≡ (pos 13 ∷ pos 6 ∷ pos 9 ∷ []) ∷ []
wide_ddfii_exact = refl

-- 0 16 + 16 (3) = 48 -> y = 3; t = 32 16 - 16 3 = 464 -> 29; 8 29 + 16 (3) = 280 -> 17
wide_tddfii_exact : exact_of (rows (equations_of (widened (delta_order_one Tddfii))) (pos 3 ∷ []) (pos 16 ∷ [])) ≡ (pos 3 ∷ pos 29 ∷ pos 17 ∷ []) ∷ []
wide_tddfii_exact = refl
