-- Serves private contracts: the coefficients of a form that are divided.
use Rattle.std.specs.Prelude.{ℕ, List, length, Option, Some, ℤ}
use Rattle.dsv_linear.specs.declared.range.Range.{Range}
use Rattle.dsv_linear.specs.declared.division.Division.{Division}
use Rattle.dsv_linear.specs.Forms.{◌>>=◌, scale, both, lower, upper, least, greatest}
use Rattle.dsv_linear.specs.Forms.{quotients, rests, scaled_range, sums_range}

-- the least and the greatest sum of a form's terms
abbrev pub extremes : List Range → List ℤ → Option Range
extremes ranges form = both (least ranges form) (greatest ranges form)

-- the same of what is left of its coefficients
abbrev pub rest_extremes : List Range → ℕ → List ℤ → Option Range
rest_extremes ranges d form = rests (length ranges) d form >>= extremes ranges

abbrev pub division : List Range → ℕ → List ℤ → Option Division
division ranges d form = quotients (length ranges) d form >>= λ quotients.
    rest_extremes ranges d form >>= λ rests.
    Some (record { quotients = quotients; rests = rests })

-- the range of a rounding's symbol, by the extreme sums of what is left
abbrev pub symbol_by : Range → Range → Option Range
symbol_by errors rests = both (lower rests.low scale) (upper rests.high scale) >>= λ loss.
    scaled_range errors >>= λ error. sums_range error loss
