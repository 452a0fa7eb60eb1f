-- The text of a number: an optional sign; digits with an optional point and any digits after it, or
-- a point and at least one digit; optionally `e` or `E` with an optional sign and digits;
-- optionally one of `f F l L`. Each part is taken as long as it goes.
use Rattle.std.specs.Prelude.{ℕ, ◌+◌, Bool, ◌&&◌, ◌||◌, ◌==◌, not}
use Rattle.std.specs.Prelude.{if◌then◌else◌, List, length, drop}
use Rattle.dsv_text.specs.Bytes.{has_byte}
use Rattle.dsv_text.specs.Digits.{digits_len}

-- of a sign, `+` or `-`
abbrev pub sign_len : List ℕ → ℕ
sign_len text = if has_byte 43 text || has_byte 45 text then 1 else 0

-- of a point
abbrev pub point_len : List ℕ → ℕ
point_len text = if has_byte 46 text then 1 else 0

-- of a suffix, one of `f F l L`
abbrev pub suffix_len : List ℕ → ℕ
suffix_len text = if has_byte 102 text || has_byte 70 text || has_byte 108 text || has_byte 76 text
    then 1 else 0

-- of digits with an optional point and digits, or of a point and digits; 0 where no digit stands
-- there
abbrev pub whole_len : List ℕ → ℕ
whole_len text =
    let n = digits_len text in
    let p = point_len (drop n text) in
    let m = if p == 0 then 0 else digits_len (drop (n + p) text) in
    if n + m == 0 then 0 else n + p + m

-- the text begins with `e` or `E`
abbrev pub has_mark : List ℕ → Bool
has_mark text = has_byte 101 text || has_byte 69 text

-- of an exponent, its mark among them; 0 where the mark or the digits are missing
abbrev pub exponent_len : List ℕ → ℕ
exponent_len text =
    let s = sign_len (drop 1 text) in
    let n = digits_len (drop (1 + s) text) in
    if has_mark text && not (n == 0) then 1 + s + n else 0

-- of the longest number at the front; 0 where there is none
abbrev pub number_len : List ℕ → ℕ
number_len text =
    let s = sign_len text in
    let n = whole_len (drop s text) in
    let e = exponent_len (drop (s + n) text) in
    let f = suffix_len (drop (s + n + e) text) in
    if n == 0 then 0 else s + n + e + f

-- the whole text is a number
abbrev pub is_number : List ℕ → Bool
is_number text = not (length text == 0) && number_len text == length text

-- of the longest prefix that some number begins with
abbrev pub prefix_len : List ℕ → ℕ
prefix_len text =
    let s = sign_len text in
    let n = whole_len (drop s text) in
    let tail = drop (s + n) text in
    let e = exponent_len tail in
    if n == 0 then s + point_len (drop s text)
    else if e == 0 && has_mark tail then s + n + 1 + sign_len (drop 1 tail)
    else s + n + e + suffix_len (drop e tail)
