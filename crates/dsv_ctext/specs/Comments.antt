-- The comments of a text, which are no part of the program.
use Rattle.std.specs.Prelude.{ℕ, ◌+◌, ◌*◌, ◌/◌, ◌%◌, ◌^◌, Bool, true, false}
use Rattle.std.specs.Prelude.{if◌then◌else◌, List, [], ◌∷◌, ◌++◌, codes, ℤ, pos, negsuc}
use Rattle.std.specs.Fmt.{signed_decimal}
use Rattle.std.specs.Int.RustNames.{unsigned_abs}
use Rattle.std.specs.List.{concat}
use Rattle.dsv_names.specs.OverflowModes.{overflow_mode_name}
use Rattle.dsv_names.specs.Realisations.{realisation_name}
use Rattle.dsv_names.specs.Roundings.{rounding_name}
use Rattle.dsv_word.specs.declared.format.Format.{Format}
use Rattle.dsv_word.specs.Words.{width, lo, hi}
use Rattle.dsv_c.specs.Syntax.{Expr, Constant, Local, Member, Cast, Times, Plus, Minus, Over}
use Rattle.dsv_c.specs.Syntax.{Mask, Flip, Choice, Call}
use Rattle.dsv_ctext.specs.declared.remarks.Origin.{Origin}
use Rattle.dsv_ctext.specs.declared.remarks.Origin.TheVariants as origin
use Rattle.dsv_ctext.specs.declared.remarks.Remarks.{Remarks}

-- ---- the beginning: what the code is of, its modes and its words
-- "DFI ", "sections 3 DFI " or "state-space 2 "
abbrev pub origin_text : Origin → List ℕ
origin_text (origin.Controller realisation wide) = realisation_name realisation ++ codes " "
origin_text (origin.Cascade sections realisation wide) =
    codes "sections " ++ (signed_decimal (pos sections) ++ (codes " "
    ++ (realisation_name realisation ++ codes " ")))
origin_text (origin.States states) =
    codes "state-space " ++ (signed_decimal (pos states) ++ codes " ")

abbrev pub wide_end : Bool → List ℕ
wide_end true = codes ", wide accumulator" ++ 10 ∷ []
wide_end false = 10 ∷ []

abbrev pub origin_end : Origin → List ℕ
origin_end (origin.Controller realisation wide) = wide_end wide
origin_end (origin.Cascade sections realisation wide) = wide_end wide
origin_end (origin.States states) = 10 ∷ []

abbrev pub title_modes : Remarks → List ℕ
title_modes r = rounding_name r.format.rounding ++ (codes " "
    ++ (overflow_mode_name r.format.overflow ++ (origin_end r.origin ++ [])))

abbrev pub words_end : List ℕ
words_end = codes "." ++ 10 ∷ (codes "   Written by dsv. */" ++ 10 ∷ [])

abbrev pub title_words : Format → List ℕ
title_words format = codes "   Words have " ++ (signed_decimal (pos (width format))
    ++ (codes " bits, " ++ (signed_decimal (pos format.frac_bits)
    ++ (codes " of them after the point: w stands for w / 2^"
    ++ (signed_decimal (pos format.frac_bits) ++ words_end)))))

abbrev pub title_text : Remarks → List ℕ
title_text r =
    codes "/* " ++ (origin_text r.origin ++ (title_modes r ++ title_words r.format))

-- ---- before the step function: which inputs are words, and of which verdicts speak
abbrev pub range_text : ℤ → ℤ → List ℕ
range_text low high =
    concat (signed_decimal low ∷ codes " to " ∷ signed_decimal high ∷ [])

abbrev pub range_start : List ℕ
range_start = codes "." ++ 10 ∷ codes "   Verdicts speak of inputs from "

abbrev pub range_end : List ℕ
range_end = codes ". */" ++ 10 ∷ []

abbrev pub step_remark : Remarks → List ℕ
step_remark r = codes "/* y(n) of the input x(n), which is a word: "
    ++ (range_text (lo (width r.format)) (hi (width r.format))
    ++ (range_start ++ (range_text r.low r.high ++ range_end)))

-- ---- after a value's line: the numbers that the words of its products stand for
-- the constants before a `*`, from left to right
abbrev pub factor_of : Expr → List ℤ
factor_of (Constant c) = c ∷ []
factor_of (Local k) = []
factor_of (Member k) = []
factor_of (Cast t e) = []
factor_of (Times a b) = []
factor_of (Plus a b) = []
factor_of (Minus a b) = []
factor_of (Over e k) = []
factor_of (Mask e k) = []
factor_of (Flip e k) = []
factor_of (Choice a b c d) = []
factor_of (Call h e) = []

abbrev pub coefficients_of : Expr → List ℤ
coefficients_of (Constant c) = []
coefficients_of (Local k) = []
coefficients_of (Member k) = []
coefficients_of (Cast t e) = coefficients_of e
coefficients_of (Times a b) = factor_of a ++ coefficients_of b
coefficients_of (Plus a b) = coefficients_of a ++ coefficients_of b
coefficients_of (Minus a b) = coefficients_of a ++ coefficients_of b
coefficients_of (Over e k) = coefficients_of e
coefficients_of (Mask e k) = coefficients_of e
coefficients_of (Flip e k) = coefficients_of e
coefficients_of (Choice a b c d) =
    coefficients_of a ++ (coefficients_of b ++ (coefficients_of c ++ coefficients_of d))
coefficients_of (Call h e) = coefficients_of e

-- the size of c / 2^f in millionths, rounded, a half up
abbrev pub millionths : ℕ → ℤ → ℕ
millionths f c = (unsigned_abs c * 1000000 + 2 ^ f / 2) / 2 ^ f

abbrev pub sign_text : ℤ → List ℕ
sign_text (pos n) = []
sign_text (negsuc n) = codes "-"

-- the digit that stands for so many
abbrev pub digit_at : ℕ → ℕ → ℕ
digit_at n power = 48 + (n / power) % 10

abbrev pub six_places : ℕ → List ℕ
six_places n = digit_at n 100000 ∷ digit_at n 10000 ∷ digit_at n 1000 ∷ digit_at n 100
    ∷ digit_at n 10 ∷ digit_at n 1 ∷ []

abbrev pub millionths_text : ℕ → List ℕ
millionths_text n = signed_decimal (pos (n / 1000000)) ++ (codes "." ++ six_places n)

-- c / 2^f, to six places
abbrev pub value_text : ℕ → ℤ → List ℕ
value_text f c = sign_text c ++ millionths_text (millionths f c)

-- before the first of them, and before each other
abbrev pub separator : Bool → List ℕ
separator started = if started then codes ", " else codes " /* "

abbrev pub values_text : ℕ → Bool → List ℤ → List ℕ
values_text f started [] = []
values_text f started (c ∷ cs) =
    separator started ++ (value_text f c ++ values_text f true cs)

abbrev pub comment_text : ℕ → List ℤ → List ℕ
comment_text f [] = []
comment_text f (c ∷ cs) = values_text f false (c ∷ cs) ++ codes " */"

-- the end of the line of a value, and the comment on its products
abbrev pub commented_end : ℕ → Expr → List ℕ
commented_end f e = codes ";" ++ (comment_text f (coefficients_of e) ++ 10 ∷ [])
