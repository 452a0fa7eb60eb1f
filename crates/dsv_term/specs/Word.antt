-- What the functions of SMT-LIB's theory FixedSizeBitVectors and its logic QF_BV make of words, in
-- whole numbers.
use Rattle.std.specs.Prelude.{ℕ, ◌+◌, ◌-◌, ◌*◌, ◌/◌, ◌%◌, ◌^◌, ◌<◌, ◌≤◌}
use Rattle.std.specs.Prelude.{◌==◌, nat_lt, Bool, if◌then◌else◌, ℤ, pos, negsuc, neg_ℤ}
use Rattle.std.specs.Prelude.{◌-ℤ◌, ◌*ℤ◌, int_lt, int_le, unsigned_abs, bit_and, bit_or}
use Rattle.std.specs.Int.{int_rem_euclid}
use Rattle.dsv_term.specs.Limits.{max_width}
use Rattle.dsv_term.specs.declared.word.Word.{Word}

-- A number of bits that a term may have.
pub record IsWidth (width : ℕ) : Type 0 where
  pub some : 1 ≤ width
  pub narrow : width ≤ max_width

-- The bits spell the number.
pub record IsWord (a : Word) : Type 0 where
  pub lawful : IsWidth a.width
  pub fits : a.number < 2 ^ a.width

-- a whole number modulo 2 to the width
abbrev pub residue : ℕ → ℤ → ℕ
residue width z = unsigned_abs (int_rem_euclid z (pos (2 ^ width)))

-- the number in two's complement
abbrev pub signed_of : Word → ℤ
signed_of a = if nat_lt a.number (2 ^ (a.width - 1)) then pos a.number
    else negsuc (2 ^ a.width - 1 - a.number)

-- one bit that says a truth
abbrev pub bit_of : Bool → Word
bit_of b = record { width = 1; number = if b then 1 else 0 }

-- bvadd
abbrev pub sum_of : Word → Word → Word
sum_of a b = record { width = a.width; number = (a.number + b.number) % 2 ^ a.width }

-- bvsub
abbrev pub difference_of : Word → Word → Word
difference_of a b = record {
  width = a.width;
  number = residue a.width (pos a.number -ℤ pos b.number);
}

-- bvneg
abbrev pub negation_of : Word → Word
negation_of a = record { width = a.width; number = residue a.width (neg_ℤ (pos a.number)) }

-- bvmul by the constant
abbrev pub product_of : ℤ → Word → Word
product_of coeff a = record { width = a.width; number = residue a.width (coeff *ℤ pos a.number) }

-- bvslt
abbrev pub signed_less_of : Word → Word → Word
signed_less_of a b = bit_of (int_lt (signed_of a) (signed_of b))

-- bvsle
abbrev pub signed_at_most_of : Word → Word → Word
signed_at_most_of a b = bit_of (int_le (signed_of a) (signed_of b))

-- bvult
abbrev pub less_of : Word → Word → Word
less_of a b = bit_of (nat_lt a.number b.number)

-- =
abbrev pub same_of : Word → Word → Word
same_of a b = bit_of (a.number == b.number)

-- bvand
abbrev pub and_of : Word → Word → Word
and_of a b = record { width = a.width; number = bit_and a.number b.number }

-- bvor
abbrev pub or_of : Word → Word → Word
or_of a b = record { width = a.width; number = bit_or a.number b.number }

-- bvnot
abbrev pub complement_of : Word → Word
complement_of a = record { width = a.width; number = 2 ^ a.width - 1 - a.number }

-- concat: the bits of a above those of b
abbrev pub joined_of : Word → Word → Word
joined_of a b = record { width = a.width + b.width; number = a.number * 2 ^ b.width + b.number }

-- sign_extend to a width
abbrev pub extended_of : ℕ → Word → Word
extended_of width a = record { width = width; number = residue width (signed_of a) }

-- extract from the bit `high` down to the bit `low`
abbrev pub extract_of : ℕ → ℕ → Word → Word
extract_of high low a = record {
  width = high + 1 - low;
  number = a.number / 2 ^ low % 2 ^ (high + 1 - low);
}

-- ite
abbrev pub choice_of : Word → Word → Word → Word
choice_of c a b = if c.number == 1 then a else b
