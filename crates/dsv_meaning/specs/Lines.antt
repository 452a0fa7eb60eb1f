-- Lines of written equations: sums of products of coefficients and words, in fixed point.
--
-- What differs between the two ways of summing is where a line loses: after each product and each
-- sum, or, with a wide accumulator, once.
use Rattle.std.specs.Prelude.{ℕ, ◌+◌, ◌^◌, Bool, true, false, List, [], ◌∷◌, ◌++◌}
use Rattle.std.specs.Prelude.{if◌then◌else◌, ℤ, pos, ◌+ℤ◌, ◌-ℤ◌, ◌*ℤ◌}
use Rattle.dsv_word.specs.declared.format.Format.{Format}
use Rattle.dsv_word.specs.Words.{width, fit}
use Rattle.dsv_word.specs.Quotients.{whole_shift}
use Rattle.dsv_meaning.specs.declared.summands.Summand.{Summand}
use Rattle.dsv_meaning.specs.declared.summands.Summand.TheVariants.{Times, Alone}

-- A line is a list of summands: a product of a coefficient and a word, added or taken away, or a
-- word alone, added. A is the type of the words: whole numbers in an equation, numbers of nodes in
-- a netlist.

-- the summands c_0 w(k), c_1 w(k+1), ..
abbrev pub summands : {A : Type 0} → Bool → List ℤ → (ℕ → A) → ℕ → List (Summand A)
summands away [] w k = []
summands away (c ∷ cs) w k = Times away c (w k) ∷ summands away cs w (k + 1)

-- how far a line has come: its value, and the exact values of the operations so far, each before it
-- was fitted
pub record Sum : Type 0 where
  pub value : ℤ
  pub exact : List ℤ

-- one operation more, whose exact value is e: its value is the word that e becomes
abbrev pub fitted_value : Format → List ℤ → ℤ → Sum
fitted_value f old e = record { value = fit f.overflow (width f) e; exact = old ++ e ∷ [] }

-- prod(c, w): the product over 2^frac_bits made whole, and fitted
abbrev pub product : Format → List ℤ → ℤ → ℤ → Sum
product f old c w = fitted_value f old (whole_shift f.rounding f.frac_bits (c *ℤ w))

-- plus(v, s) or minus(v, s)
abbrev pub joined_value : Format → Bool → ℤ → Sum → Sum
joined_value f away v s = fitted_value f s.exact (if away then v -ℤ s.value else v +ℤ s.value)

-- a line starts with its first summand, which is never taken away; a word alone is no operation
abbrev pub first_summand : Format → List ℤ → Summand ℤ → Sum
first_summand f old (Times away c w) = product f old c w
first_summand f old (Alone w) = record { value = w; exact = old }

abbrev pub next_summand : Format → Sum → Summand ℤ → Sum
next_summand f s (Times away c w) = joined_value f away s.value (product f s.exact c w)
next_summand f s (Alone w) = fitted_value f s.exact (s.value +ℤ w)

abbrev pub next_summands : Format → Sum → List (Summand ℤ) → Sum
next_summands f s [] = s
next_summands f s (t ∷ ts) = next_summands f (next_summand f s t) ts

-- a line from left to right, after the exact values of the lines before it
abbrev pub narrow_line : Format → List ℤ → List (Summand ℤ) → Sum
narrow_line f old [] = record { value = pos 0; exact = old }
narrow_line f old (t ∷ ts) = next_summands f (first_summand f old t) ts

-- ---- with a wide accumulator
-- what a summand adds to the total: a product as it is, and a word alone times 2^frac_bits
abbrev pub exact_summand : Format → Summand ℤ → ℤ
exact_summand f (Times away c w) = if away then pos 0 -ℤ c *ℤ w else c *ℤ w
exact_summand f (Alone w) = pos (2 ^ f.frac_bits) *ℤ w

abbrev pub total : Format → List (Summand ℤ) → ℤ
total f [] = pos 0
total f (t ∷ ts) = exact_summand f t +ℤ total f ts

-- one of them is a product
abbrev pub has_product : {A : Type 0} → List (Summand A) → Bool
has_product [] = false
has_product (Times away c w ∷ ts) = true
has_product (Alone w ∷ ts) = has_product ts

-- a word that stands first
abbrev pub first_word : List (Summand ℤ) → ℤ
first_word (Alone w ∷ ts) = w
first_word ts = pos 0

-- The products stay exact, and their total is divided by 2^frac_bits, made whole and fitted once. A
-- line without a product has its one word as its value and adds no exact value.
abbrev pub wide_line : Format → List ℤ → List (Summand ℤ) → Sum
wide_line f old ts = if has_product ts
    then fitted_value f old (whole_shift f.rounding f.frac_bits (total f ts))
    else record { value = first_word ts; exact = old }

-- ---- both
abbrev pub line : Bool → Format → List ℤ → List (Summand ℤ) → Sum
line wide f old ts = if wide then wide_line f old ts else narrow_line f old ts
