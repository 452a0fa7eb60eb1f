-- Quantised controllers that are worked by hand. Words are whole numbers: in a format with f bits after the point the word w
-- stands for w / 2^f.
use Rattle.std.proofs.Common.{true, false, List, [], ◌∷◌, map, arith}
use Rattle.std.proofs.Math.IntN.{ℤ, pos, negsuc}
use Rattle.dsv_word.specs.declared.format.Format.{Format}
use Rattle.dsv_names.specs.declared.rounding.Rounding.TheVariants.{Floor}
use Rattle.dsv_names.specs.declared.overflow_mode.OverflowMode.TheVariants.{Wrap}
use Rattle.dsv_names.specs.declared.realisation.Realisation.{Realisation}
use Rattle.dsv_names.specs.declared.realisation.Realisation.TheVariants.{Dfi}
use Rattle.dsv_quantiser.specs.QuantisedView.{QuantisedView}
use Rattle.dsv_system.specs.Runs.{SampleRow}

abbrev pub exact_of : List SampleRow → List (List ℤ)
exact_of rs = map (λ (r : SampleRow). r.exact) rs

abbrev pub outputs_of : List SampleRow → List ℤ
outputs_of rs = map (λ (r : SampleRow). r.y) rs

-- words from -8 to 7
abbrev pub format_2_2 : Format
format_2_2 = record { int_bits = 2; frac_bits = 2; rounding = Floor; overflow = Wrap; lawful = (omega arith, omega arith, omega arith) }

-- words from -64 to 63
abbrev pub format_3_4 : Format
format_3_4 = record { int_bits = 3; frac_bits = 4; rounding = Floor; overflow = Wrap; lawful = (omega arith, omega arith, omega arith) }

-- words from -16 to 15
abbrev pub format_4_1 : Format
format_4_1 = record { int_bits = 4; frac_bits = 1; rounding = Floor; overflow = Wrap; lawful = (omega arith, omega arith, omega arith) }

-- 1 / (1 - 0.9 z^-1) in words of 2.2: a_1 is -4
abbrev pub slow_pole : QuantisedView
slow_pole = record { b = pos 4 ∷ pos 0 ∷ []; a = pos 4 ∷ negsuc 3 ∷ []; delta = pos 0; xlo = negsuc 3; xhi = pos 4; format = format_2_2; realisation = Dfi; wide = false }

-- 1 / (1 - 0.5 z^-1) in words of 2.2: a_1 is -2
abbrev pub half_pole : QuantisedView
half_pole = record { b = pos 4 ∷ pos 0 ∷ []; a = pos 4 ∷ negsuc 1 ∷ []; delta = pos 0; xlo = negsuc 3; xhi = pos 4; format = format_2_2; realisation = Dfi; wide = false }

-- (1 + 0.5 z^-1 - z^-2) / (1 + 0.5 z^-1 - 0.5 z^-2) in words of 4.1: b is 2, 1, -2 and a is 2, 1, -1
abbrev pub second_order : Realisation → QuantisedView
second_order k = record {
  b = pos 2 ∷ pos 1 ∷ negsuc 1 ∷ [];
  a = pos 2 ∷ pos 1 ∷ negsuc 0 ∷ [];
  delta = pos 0;
  xlo = negsuc 1;
  xhi = pos 2;
  format = format_4_1;
  realisation = k;
  wide = false;
}

-- z^-1 / (1 - 0.5 z^-1) in words of 3.4 with delta 0.5: b is 0, 32 and a is 16, 16, and delta is 8
abbrev pub delta_order_one : Realisation → QuantisedView
delta_order_one k = record { b = pos 0 ∷ pos 32 ∷ []; a = pos 16 ∷ pos 16 ∷ []; delta = pos 8; xlo = negsuc 15; xhi = pos 16; format = format_3_4; realisation = k; wide = false }

-- the same with a wide accumulator
abbrev pub widened : QuantisedView → QuantisedView
widened q = record q { wide = true }
