-- The candidates that are built in: boxes of falling size, for each of the depths 1, 2, 4 and 8.
use Rattle.std.specs.Prelude.{ℕ, zero, suc, ◌+◌, ◌-◌, ◌*◌, ◌/◌, ◌%◌, ◌^◌, min, nat_lt, ◌==◌}
use Rattle.std.specs.Prelude.{Bool, if◌then◌else◌, List, [], ◌∷◌, ◌++◌, map, drop}
use Rattle.std.specs.Prelude.{Option, Some, None, ℤ, pos, negsuc, neg_ℤ, ◌-ℤ◌, int_lt}
use Rattle.std.specs.List.{range_with_len}
use Rattle.dsv_template.specs.declared.candidate.Inequality.{Inequality}
use Rattle.dsv_template.specs.declared.candidate.Candidate.{Candidate}
use Rattle.dsv_template.specs.declared.shape.Shape.{Shape}
use Rattle.dsv_template.specs.Candidates.{bit_length}

-- how many bits the words have: the greatest word takes one less
abbrev pub bits_of : Shape → ℕ
bits_of shape = bit_length shape.hi + 1

-- the least and the greatest of a number and 0
abbrev pub or_less : ℤ → ℤ
or_less z = if int_lt z (pos 0) then z else pos 0

abbrev pub or_more : ℤ → ℤ
or_more z = if int_lt (pos 0) z then z else pos 0

-- the greatest and the least word of a register in the box of 2^j: one that holds an earlier input
-- has the range of the inputs, with 0
abbrev pub upper_end : Shape → ℕ → ℕ → ℤ
upper_end shape j register =
    if nat_lt register shape.past_inputs then or_more shape.xhi else pos (2 ^ j) -ℤ pos 1

abbrev pub lower_end : Shape → ℕ → ℕ → ℤ
lower_end shape j register =
    if nat_lt register shape.past_inputs then or_less shape.xlo else neg_ℤ (pos (2 ^ j))

-- the coefficients of the first registers: c at one of them, else 0
abbrev pub unit : ℕ → ℤ → ℕ → ℤ
unit register c place = if place == register then c else pos 0

abbrev pub units : ℕ → ℤ → ℕ → List ℤ
units register c zero = []
units register c (suc place) = units register c place ++ unit register c place ∷ []

-- a register, times c, is at most the bound
abbrev pub inequality : Shape → ℕ → ℤ → ℤ → Inequality
inequality shape register c bound = record {
  coefficients = record { items = units register c shape.registers };
  bound = bound;
}

-- for each of the first registers the upper end, then the lower one
abbrev pub ends_of : Shape → ℕ → ℕ → List Inequality
ends_of shape j zero = []
ends_of shape j (suc register) = (ends_of shape j register
    ++ inequality shape register (pos 1) (upper_end shape j register) ∷ [])
    ++ inequality shape register (negsuc 0) (neg_ℤ (lower_end shape j register)) ∷ []

-- the most sizes of boxes that are tried at a depth
abbrev pub most_sizes : ℕ
most_sizes = 8

abbrev pub sizes_of : Shape → ℕ
sizes_of shape = min (bits_of shape) most_sizes

-- the box at a place: sizes from the greatest word's down, for the depths 1, 2, 4, 8
abbrev pub box_at : Shape → ℕ → Candidate
box_at shape place = record {
  inequalities = record {
    items = ends_of shape (bits_of shape - 1 - place % sizes_of shape) shape.registers;
  };
  depth = 2 ^ (place / sizes_of shape);
}

abbrev pub boxes : Shape → List Candidate
boxes shape = map (box_at shape) (range_with_len 0 (4 * sizes_of shape))

-- the boxes from a place on; none after the end was told
abbrev pub boxes_from : Bool → ℕ → Shape → List Candidate
boxes_from finished place shape = if finished then [] else drop place (boxes shape)

-- the box before a place, for the shape that was asked last
abbrev pub box_before : Option Shape → ℕ → Option Candidate
box_before None place = None
box_before (Some shape) place = Some (box_at shape (place - 1))
