-- The texts of answers by the gain, and of how far outputs are from those of exact runs. Ranges are
-- in words: units of the last bit after the point.
use Rattle.std.specs.Prelude.{ℕ, pos, List, [], ◌∷◌, ◌++◌, codes, Option, Some, None}
use Rattle.std.specs.Fmt.{signed_decimal}
use Rattle.dsv_linear.specs.declared.range.Range.{Range}
use Rattle.dsv_network.specs.declared.outlook.Gain.{Gain}
use Rattle.dsv_gain.specs.declared.roundoff.ShownError.{ShownError}
use Rattle.dsv_report.specs.Fragments.{concatenation}
use Rattle.dsv_report.specs.Lines.{numbered, number_line, numbered_lines}
use Rattle.dsv_report.specs.declared.answers.OutputError.{OutputError}
use Rattle.dsv_report.specs.declared.answers.OutputError.TheVariants.{NotSought, Open, Within}

-- the depth, and the sample whose step the ranges are taken from
abbrev pub depth_text : ℕ → ℕ → List ℕ
depth_text depth settled =
    numbered (codes "depth ") depth ++ number_line (codes " settled ") settled

-- the number of an exact value of a sample, and what it is at least and at most, in every sample
abbrev pub range_text : ℕ → Range → List ℕ
range_text number r =
    concatenation (codes "value " ∷ signed_decimal (pos number) ∷ codes " least "
    ∷ signed_decimal r.low ∷ codes " greatest " ∷ signed_decimal r.high ∷ codes "\n" ∷ [])

-- a line for each exact value of a sample
abbrev pub gain_text : Gain → List ℕ
gain_text gain = depth_text gain.depth gain.settled ++ numbered_lines range_text 0 gain.ranges

-- no bound was found
abbrev pub open_text : List ℕ
open_text = codes "error open\n"

-- the depth of the offer that shows the bound, and what the output less that of the exact run is at
-- least and at most, in every sample
abbrev pub error_line : ℕ → Range → List ℕ
error_line depth output =
    concatenation (codes "error depth " ∷ signed_decimal (pos depth)
    ∷ codes " least " ∷ signed_decimal output.low
    ∷ codes " greatest " ∷ signed_decimal output.high ∷ codes "\n" ∷ [])

-- how far outputs are from those of exact runs, where it is sought
abbrev pub error_text : OutputError → List ℕ
error_text NotSought = []
error_text Open = open_text
error_text (Within bound) = error_line bound.offer.depth bound.output

-- what a certificate shows of it, if it has an offer
abbrev pub shown_text : Option ShownError → List ℕ
shown_text None = []
shown_text (Some e) = error_line e.depth e.output

-- the first sample and value whose range isn't known to be one of words
abbrev pub out_of_range_text : ℕ → ℕ → List ℕ
out_of_range_text sample value =
    numbered (codes "cause GAIN sample ") sample ++ number_line (codes " value ") value

abbrev pub too_deep_text : ℕ → List ℕ
too_deep_text depth = number_line (codes "cause DEPTH ") depth
