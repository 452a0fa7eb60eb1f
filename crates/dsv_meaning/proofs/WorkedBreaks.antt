-- Overflow and a replayed trace, worked by hand: inputs 4 and 4 break 1 / (1 - 0.9 z^-1) in words of 2.2.
use Rattle.std.proofs.Common.{List, [], ◌∷◌, refl, arith}
use Rattle.std.proofs.Math.IntN.{ℤ, pos, negsuc}
use Rattle.std.proofs.lemmas.Int.{ints}
use Rattle.std.proofs.lemmas.List.Elements.{All-nil, All-cons}
use Rattle.std.specs.List.{All}
use lib.Signed.{◌≤ℤ◌}
use Rattle.dsv_word.specs.Words.{IsWord}
use Rattle.dsv_system.specs.Runs.{SampleRow}
use Rattle.dsv_system.specs.Systems.{AreInRange, behaviour_of}
use Rattle.dsv_system.specs.Breaks.{IsInside, Breaks, Replays}
use Rattle.dsv_system.proofs.Words.{no_break}
use Rattle.dsv_meaning.specs.Systems.{equations_of}
use Rattle.dsv_meaning.proofs.WorkedControllers.{format_2_2, slow_pole}

word : (v : ℤ) → negsuc 7 ≤ℤ v → v ≤ℤ pos 7 → IsWord format_2_2 v
word v low high = record { low = low; high = high }

not_word : IsWord format_2_2 (pos 8) → ⊥
not_word w = let high : pos 8 ≤ℤ pos 7 = w.high in omega (arith, ints, high)

more : (v : ℤ) (vs : List ℤ) → negsuc 7 ≤ℤ v → v ≤ℤ pos 7 → All (IsWord format_2_2) vs → All (IsWord format_2_2) (v ∷ vs)
more v vs low high all = All-cons (IsWord format_2_2) v vs (word v low high) all

none : All (IsWord format_2_2) []
none = All-nil (IsWord format_2_2)

-- ---- 4, 4 breaks 1 / (1 - 0.9 z^-1), and 4 alone doesn't

in_range : AreInRange (negsuc 3) (pos 4) (pos 4 ∷ pos 4 ∷ [])
in_range =
    All-cons (λ x. (negsuc 3 ≤ℤ x) × (x ≤ℤ pos 4)) (pos 4) (pos 4 ∷ []) (omega (arith, ints), omega (arith, ints))
    (All-cons (λ x. (negsuc 3 ≤ℤ x) × (x ≤ℤ pos 4)) (pos 4) [] (omega (arith, ints), omega (arith, ints)) (All-nil (λ x. (negsuc 3 ≤ℤ x) × (x ≤ℤ pos 4))))

-- the samples: 4, and 8, which is the word -8
first_row : SampleRow
first_row = record { x = pos 4; y = pos 4; exact = pos 4 ∷ pos 0 ∷ pos 4 ∷ pos 0 ∷ pos 4 ∷ [] }

second_row : SampleRow
second_row = record { x = pos 4; y = negsuc 7; exact = pos 4 ∷ pos 0 ∷ pos 4 ∷ negsuc 3 ∷ pos 8 ∷ [] }

first_inside : IsInside format_2_2 first_row
unfolding first_row
first_inside =
    more (pos 4) (pos 0 ∷ pos 4 ∷ pos 0 ∷ pos 4 ∷ []) (omega (arith, ints)) (omega (arith, ints))
    (more (pos 0) (pos 4 ∷ pos 0 ∷ pos 4 ∷ []) (omega (arith, ints)) (omega (arith, ints))
    (more (pos 4) (pos 0 ∷ pos 4 ∷ []) (omega (arith, ints)) (omega (arith, ints))
    (more (pos 0) (pos 4 ∷ []) (omega (arith, ints)) (omega (arith, ints))
    (more (pos 4) [] (omega (arith, ints)) (omega (arith, ints)) none))))

two_break : Breaks (behaviour_of (equations_of slow_pole)) (negsuc 3) (pos 4) (pos 4 ∷ pos 4 ∷ [])
unfolding second_row
two_break = record {
  in_range = in_range;
  broken = (second_row, (1, omega arith, refl), (pos 8, (4, omega arith, refl), not_word));
}

one_alone : Breaks (behaviour_of (equations_of slow_pole)) (negsuc 3) (pos 4) (pos 4 ∷ []) → ⊥
unfolding first_row
one_alone b =
    no_break format_2_2 (first_row ∷ []) (All-cons (IsInside format_2_2) first_row [] first_inside (All-nil (IsInside format_2_2))) b.broken

-- in sample 1 the exact value of number 4 is 8
two_replay : Replays (behaviour_of (equations_of slow_pole)) (negsuc 3) (pos 4) (pos 4 ∷ pos 4 ∷ []) (pos 4 ∷ negsuc 7 ∷ []) 1 4 (pos 8)
unfolding first_row second_row
two_replay = record {
  in_range = in_range;
  many = refl;
  gives = refl;
  breaks = record {
    before = All-cons (IsInside format_2_2) first_row [] first_inside (All-nil (IsInside format_2_2));
    row = second_row;
    here = refl;
    words =
        more (pos 4) (pos 0 ∷ pos 4 ∷ negsuc 3 ∷ []) (omega (arith, ints)) (omega (arith, ints))
        (more (pos 0) (pos 4 ∷ negsuc 3 ∷ []) (omega (arith, ints)) (omega (arith, ints))
        (more (pos 4) (negsuc 3 ∷ []) (omega (arith, ints)) (omega (arith, ints))
        (more (negsuc 3) [] (omega (arith, ints)) (omega (arith, ints)) none)));
    first = refl;
    outside = not_word;
  };
}
