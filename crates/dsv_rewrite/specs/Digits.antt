-- A product by a constant as shifted copies of the other factor: one for each of the constant's
-- signed digits that isn't 0. The digits are -1, 0 and 1, from the lowest up, and of two neighbours
-- one is 0.
use Rattle.std.specs.Prelude.{ℕ, zero, suc, ◌+◌, ◌-◌, ◌==◌, if◌then◌else◌, ℤ, pos, negsuc}
use Rattle.std.specs.Prelude.{◌-ℤ◌}
use Rattle.std.specs.Int.{int_div_euclid, int_rem_euclid}
use Rattle.std.specs.Ordering.{int_eq}
use Rattle.dsv_term.specs.declared.node.TermId.{TermId}
use Rattle.dsv_term.specs.Building.{Built, built_of}
use Rattle.dsv_term.specs.Terms.{width_of}
use Rattle.dsv_term.specs.TermsView.{TermsView}
use Rattle.dsv_rewrite.specs.declared.digits.Digit.{Digit}
use Rattle.dsv_rewrite.specs.declared.digits.Digit.TheVariants.{Minus, Zero, Plus}
use Rattle.dsv_rewrite.specs.Constants.{constant_term}
use Rattle.dsv_rewrite.specs.Parts.{part_term}
use Rattle.dsv_rewrite.specs.Pairs.{sum_term, difference_term, negation_term, joined_term}

-- what is left of a number modulo 4 decides its lowest digit: 1 is 1, and 3 is -1
abbrev pub lowest_digit : ℤ → Digit
lowest_digit c =
    if int_eq (int_rem_euclid c (pos 4)) (pos 1) then Plus
    else if int_eq (int_rem_euclid c (pos 4)) (pos 3) then Minus
    else Zero

-- what a digit is
abbrev pub digit_value : Digit → ℤ
digit_value Minus = negsuc 0
digit_value Zero = pos 0
digit_value Plus = pos 1

-- the number without its lowest digit, halved
abbrev pub above_digit : ℤ → ℤ
above_digit c = int_div_euclid (c -ℤ digit_value (lowest_digit c)) (pos 2)

-- the term, so many bits higher
abbrev pub shifted_term : TermsView → ℕ → ℕ → TermId → Built
shifted_term t width shift a =
    if shift == 0 then built_of t a
    else let low = part_term t (width - shift)
    (record { of = a; high = width - 1 - shift; low = 0 }) in
    let zeros = constant_term low.terms (record { width = shift; number = 0 }) in
    joined_term zeros.terms low.id zeros.id

-- the sum of the copies so far: none, a term, or the negation of one
pub data Copies : Type 0 where
  none : Copies
  sum : TermId → Copies
  negated_sum : TermId → Copies

-- terms, and the copies so far
pub record Multiple : Type 0 where
  pub terms : TermsView
  pub copies : Copies

abbrev pub summed : Built → Multiple
summed b = record { terms = b.terms; copies = sum b.id }

abbrev pub summed_below : Built → Multiple
summed_below b = record { terms = b.terms; copies = negated_sum b.id }

-- one copy more is added
abbrev pub with_added : Built → Copies → Multiple
with_added copy none = summed copy
with_added copy (sum a) = summed (sum_term copy.terms a copy.id)
with_added copy (negated_sum a) = summed (difference_term copy.terms copy.id a)

-- one copy more is taken away
abbrev pub with_taken : Built → Copies → Multiple
with_taken copy none = summed_below copy
with_taken copy (sum a) = summed (difference_term copy.terms a copy.id)
with_taken copy (negated_sum a) = summed_below (sum_term copy.terms a copy.id)

-- one digit more: only a digit that isn't 0 has a copy
abbrev pub with_digit : Digit → ℕ → ℕ → TermId → Multiple → Multiple
with_digit Minus width shift a m = with_taken (shifted_term m.terms width shift a) m.copies
with_digit Zero width shift a m = m
with_digit Plus width shift a m = with_added (shifted_term m.terms width shift a) m.copies

-- so many digits more of this number, from the bit `shift` on
abbrev pub digits_from : ℕ → ℕ → ℕ → ℤ → TermId → Multiple → Multiple
digits_from zero width shift c a m = m
digits_from (suc n) width shift c a m =
    digits_from n width (shift + 1) (above_digit c) a
    (with_digit (lowest_digit c) width shift a m)

-- the sum of all copies
abbrev pub copies_term : TermsView → ℕ → Copies → Built
copies_term t width none = constant_term t (record { width = width; number = 0 })
copies_term t width (sum a) = built_of t a
copies_term t width (negated_sum a) = negation_term t a

-- a term as often as a number says, modulo 2 to its width: digits past the width don't matter
unfoldable pub multiple_term : TermsView → ℤ → TermId → Built
multiple_term t c a =
    let m = digits_from (width_of t a) (width_of t a) 0 c a
    (record { terms = t; copies = none }) in
    copies_term m.terms (width_of t a) m.copies
