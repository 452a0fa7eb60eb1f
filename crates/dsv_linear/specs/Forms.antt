-- Linear forms of symbols, and their arithmetic.
--
-- A form is a list of coefficients, one for each symbol, 0 after the list's end: the scale times
-- its value is the sum of the coefficients, each times its symbol. A symbol is an input or the
-- error of a product that was rounded, and lies in a range whose ends are the range scale times
-- the symbol's least and greatest value. All arithmetic is given up, to None, where a number isn't
-- narrow.
use Rattle.std.specs.Prelude.{ℕ, zero, suc, ◌*◌, ◌/◌, ◌^◌, nat_lt, if◌then◌else◌, List, []}
use Rattle.std.specs.Prelude.{◌∷◌, ◌++◌, length, slice_index_or, Option, Some, None}
use Rattle.std.specs.Prelude.{ℤ, pos, ◌+ℤ◌, ◌-ℤ◌, ◌*ℤ◌, int_lt}
use Rattle.std.specs.Int.{int_rem_euclid}
use Rattle.dsv_algebra.specs.Floor.{floor_of}
use Rattle.dsv_algebra.specs.Narrow.{narrow_of}
use Rattle.dsv_system.specs.Systems.{zeros}
use Rattle.dsv_netlist.specs.Nodes.{at}
use Rattle.dsv_linear.specs.declared.range.Range.{Range}
use Rattle.dsv_linear.specs.declared.range.Factor.{Factor}
use Rattle.dsv_linear.specs.declared.range.Factor.TheVariants.{Low, High, Least, Greatest}
use Rattle.dsv_linear.specs.declared.point.Entry.{Entry}

infixl 10 ◌>>=◌
-- the second stage, after what the first gives
abbrev pub ◌>>=◌ : {A B : Type 0} → Option A → (A → Option B) → Option B
None >>= f = None
(Some x) >>= f = f x

-- what coefficients are multiplied by
unfoldable pub scale : ℕ
scale = 2 ^ 53

-- what the ends of symbols' ranges are multiplied by
unfoldable pub range_scale : ℕ
range_scale = 2 ^ 7

-- ---- lists and sums of numbers that are narrow
-- the numbers f 0 to f (n - 1)
abbrev pub entries : ℕ → (ℕ → ℤ) → Option (List ℤ)
entries zero f = Some []
entries (suc n) f = entries n f >>= λ list. narrow_of (f n) >>= λ entry. Some (list ++ entry ∷ [])

-- their sum; the sums on the way are narrow too
abbrev pub total : ℕ → (ℕ → ℤ) → Option ℤ
total zero f = Some (pos 0)
total (suc n) f = total n f >>= λ sum. narrow_of (f n) >>= λ term. narrow_of (sum +ℤ term)

-- the quotient, rounded down
abbrev pub lower : ℤ → ℕ → Option ℤ
lower v d = narrow_of (floor_of v d)

-- the quotient, rounded up
abbrev pub upper : ℤ → ℕ → Option ℤ
upper v d = narrow_of (v +ℤ (pos d -ℤ pos 1)) >>= λ sum. narrow_of (floor_of sum d)

-- ---- ranges
abbrev pub range : ℤ → ℤ → Range
range low high = record { low = low; high = high }

abbrev pub range_at : List Range → ℕ → Range
range_at ranges j = slice_index_or ranges j (range (pos 0) (pos 0))

-- both ends, where there are both
abbrev pub both : Option ℤ → Option ℤ → Option Range
both low high = low >>= λ l. high >>= λ h. Some (range l h)

-- what a number is multiplied by for the least product, and for the greatest
abbrev pub least_factor : ℤ → Range → ℤ
least_factor c r = if int_lt c (pos 0) then r.high else r.low

abbrev pub greatest_factor : ℤ → Range → ℤ
greatest_factor c r = if int_lt c (pos 0) then r.low else r.high

-- what a coefficient is multiplied by
abbrev pub factor : Factor → ℤ → Range → ℤ
factor Low c r = r.low
factor High c r = r.high
factor Least c r = least_factor c r
factor Greatest c r = greatest_factor c r

-- the range of products with a number in the range
abbrev pub products_range : ℤ → Range → Option Range
products_range c r = both (narrow_of (c *ℤ least_factor c r)) (narrow_of (c *ℤ greatest_factor c r))

abbrev pub sums_range : Range → Range → Option Range
sums_range r s = both (narrow_of (r.low +ℤ s.low)) (narrow_of (r.high +ℤ s.high))

abbrev pub differences_range : Range → Range → Option Range
differences_range r s = both (narrow_of (r.low -ℤ s.high)) (narrow_of (r.high -ℤ s.low))

-- ---- forms
abbrev pub longer : ℕ → ℕ → ℕ
longer m n = if nat_lt m n then n else m

abbrev pub sums : List ℤ → List ℤ → Option (List ℤ)
sums left right = entries (longer (length left) (length right)) (λ j. at left j +ℤ at right j)

abbrev pub differences : List ℤ → List ℤ → Option (List ℤ)
differences left right =
    entries (longer (length left) (length right)) (λ j. at left j -ℤ at right j)

abbrev pub products : ℤ → List ℤ → Option (List ℤ)
products c form = entries (length form) (λ j. c *ℤ at form j)

-- the same of forms that are known, or not
abbrev pub sum_of : Option (List ℤ) → Option (List ℤ) → Option (List ℤ)
sum_of left right = left >>= λ first. right >>= λ second. sums first second

abbrev pub difference_of : Option (List ℤ) → Option (List ℤ) → Option (List ℤ)
difference_of left right = left >>= λ first. right >>= λ second. differences first second

abbrev pub product_of : ℤ → Option (List ℤ) → Option (List ℤ)
product_of c form = form >>= λ f. products c f

-- the form of a new symbol, after n others
abbrev pub unit : ℕ → List ℤ
unit n = zeros n ++ pos scale ∷ []

-- the quotients of a form's first n coefficients, rounded down
abbrev pub quotients : ℕ → ℕ → List ℤ → Option (List ℤ)
quotients n d form = entries n (λ j. floor_of (at form j) d)

-- and what is left of them
abbrev pub rests : ℕ → ℕ → List ℤ → Option (List ℤ)
rests n d form = entries n (λ j. int_rem_euclid (at form j) (pos d))

-- the least product of a form's coefficient with a number in its symbol's range
abbrev pub least_term : List Range → List ℤ → ℕ → ℤ
least_term ranges form j = at form j *ℤ least_factor (at form j) (range_at ranges j)

abbrev pub greatest_term : List Range → List ℤ → ℕ → ℤ
greatest_term ranges form j = at form j *ℤ greatest_factor (at form j) (range_at ranges j)

-- the least sum of a form's coefficients, each times a number in its symbol's range
abbrev pub least : List Range → List ℤ → Option ℤ
least ranges form = total (length ranges) (least_term ranges form)

abbrev pub greatest : List Range → List ℤ → Option ℤ
greatest ranges form = total (length ranges) (greatest_term ranges form)

-- a coefficient times such a number in its symbol's range, and the sum of all of them
abbrev pub factor_term : Factor → List Range → List ℤ → ℕ → ℤ
factor_term f ranges form j = at form j *ℤ factor f (at form j) (range_at ranges j)

abbrev pub factor_sum : Factor → List Range → List ℤ → Option ℤ
factor_sum f ranges form = total (length ranges) (factor_term f ranges form)

-- the range of a form's value, which is whole
abbrev pub form_range : List Range → List ℤ → Option Range
form_range ranges form = least ranges form >>= λ low. greatest ranges form >>= λ high.
    both (upper low (scale * range_scale)) (lower high (scale * range_scale))

-- ---- a value whose form is known, and the range of the symbol that it brings, if it brings one
abbrev pub without_symbol : Option (List ℤ) → Option Entry
without_symbol form = form >>= λ f. Some (record { form = f; symbol = None })

abbrev pub with_symbol : List ℤ → Range → Option Entry
with_symbol form symbol = Some (record { form = form; symbol = Some symbol })

-- ---- rounding
abbrev pub scaled_range : Range → Option Range
scaled_range r = both (narrow_of (pos range_scale *ℤ r.low)) (narrow_of (pos range_scale *ℤ r.high))

-- the range of what the coefficients lose when they are divided and these are left
abbrev pub loss_range : List Range → List ℤ → Option Range
loss_range ranges rests = least ranges rests >>= λ low. greatest ranges rests >>= λ high.
    both (lower low scale) (upper high scale)

-- the range of a rounding's symbol: its error, and what the coefficients lose
abbrev pub symbol_range : Range → List Range → List ℤ → Option Range
symbol_range errors ranges rests = loss_range ranges rests >>= λ loss.
    scaled_range errors >>= λ error. sums_range error loss

-- a quotient by d that is made whole, with an error between these
abbrev pub rounded : ℕ → Range → List Range → List ℤ → Option Entry
rounded d errors ranges form =
    quotients (length ranges) d form >>= λ quotients. rests (length ranges) d form >>= λ rests.
    symbol_range errors ranges rests >>= λ symbol.
    with_symbol (quotients ++ pos (scale / d) ∷ []) symbol
