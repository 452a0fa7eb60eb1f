-- A limit cycle worked by hand: 1 / (1 - 0.5 z^-1) in words of 2.2 holds the output 1 for ever, since -2 times 1 over 4,
-- rounded down, is -1.
use Rattle.std.proofs.Common.{◌≡◌, List, [], ◌∷◌, refl, arith}
use Rattle.std.proofs.Math.IntN.{ℤ, pos, negsuc}
use Rattle.std.proofs.lemmas.Int.{ints}
use Rattle.std.proofs.lemmas.List.Elements.{All-nil, All-cons}
use Rattle.std.specs.Prelude.{◌≢◌}
use Rattle.dsv_word.specs.Words.{IsWord}
use Rattle.dsv_system.specs.Runs.{SampleRow}
use Rattle.dsv_system.specs.Cycles.{Returns, IsLeastPeriod, Cycles}
use Rattle.dsv_meaning.specs.Systems.{equations_of}
use Rattle.dsv_meaning.proofs.WorkedControllers.{format_2_2, half_pole}
use Rattle.dsv_system.specs.Systems.{behaviour_of}

-- the past input is 0 and the past output 1
start : List ℤ
start = pos 0 ∷ pos 1 ∷ []

-- 4 0 -> 0; 0 0 -> 0; 0; -2 1 -> -1; y = 0 + 1 = 1
only_row : SampleRow
only_row = record { x = pos 0; y = pos 1; exact = pos 0 ∷ pos 0 ∷ pos 0 ∷ negsuc 0 ∷ pos 1 ∷ [] }

one_not_zero : pos 1 ≢ pos 0
one_not_zero e = omega (arith, ints, e)

returns_at_once : Returns (behaviour_of (equations_of half_pole)) start 1
unfolding start
returns_at_once = record { some = omega arith; back = refl }

least : IsLeastPeriod (behaviour_of (equations_of half_pole)) start 1
least = record { returns = returns_at_once; least = λ n less back. let some = back.some in omega (arith, less, some) }

half_cycles : Cycles (behaviour_of (equations_of half_pole)) start 1
unfolding start only_row
half_cycles = record {
  many = refl;
  quiet = All-cons (λ w. w ≡ pos 0) (pos 0) [] refl (All-nil (λ w. w ≡ pos 0));
  words =
      All-cons (IsWord format_2_2) (pos 0) (pos 1 ∷ []) (record { low = omega (arith, ints); high = omega (arith, ints) })
      (All-cons (IsWord format_2_2) (pos 1) [] (record { low = omega (arith, ints); high = omega (arith, ints) }) (All-nil (IsWord format_2_2)));
  returns = returns_at_once;
  sounding = (only_row, (0, omega arith, refl), one_not_zero);
}
