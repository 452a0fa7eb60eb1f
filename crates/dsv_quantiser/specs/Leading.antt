-- The leading coefficient of a denominator in the delta operator.
use Rattle.std.specs.Prelude.{◌≡◌, ◌<◌, ◌≤◌, List, length, Ok, slice_index_or}
use Rattle.std.specs.List.{All}
use Rattle.dsv_fraction.specs.Ratio.{Ratio, zero, one}
use Rattle.dsv_delta.specs.Deltas.{Lists, delta_lists}

-- where a list begins with 1, its coefficients in the delta operator do too; so their word is that
-- of 1 without a test
abbrev pub ConvertedLeadingIsOne : Type 0
ConvertedLeadingIsOne = (b a : List Ratio) (delta : Ratio) (lists : Lists)
    → All (λ (q : Ratio). 0 < q.den) a → 1 ≤ length a
    → slice_index_or a 0 zero ≡ one → delta_lists b a delta ≡ Ok lists
    → slice_index_or lists.a 0 zero ≡ one
