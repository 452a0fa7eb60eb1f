-- The text of a number by its parts, apart from how they are found: a sign or none, a body, an
-- exponent or none, a suffix or none.
use Rattle.std.specs.Prelude.{◌≡◌, ℕ, ◌+◌, ◌<◌, ◌≤◌, true, List}
use Rattle.std.specs.Prelude.{[], ◌++◌, length, take, codes}
use Rattle.std.specs.List.{list_all}
use Rattle.dsv_text.specs.Bytes.{is_digit}

-- digits, maybe none
abbrev pub AreDigits : List ℕ → Type 0
AreDigits text = list_all is_digit text ≡ true

pub data IsSign : List ℕ → Type 0 where
  none : IsSign []
  plus : IsSign (codes "+")
  minus : IsSign (codes "-")

-- `12`, `1.5`, `1.` and `.5`, but no point alone
pub data IsBody : List ℕ → Type 0 where
  whole : (digits : List ℕ) → AreDigits digits → 0 < length digits → IsBody digits
  pointed : (before after : List ℕ) → AreDigits before → AreDigits after
      → 0 < length before + length after → IsBody (before ++ (codes "." ++ after))

pub data IsMark : List ℕ → Type 0 where
  small : IsMark (codes "e")
  large : IsMark (codes "E")

pub data IsExponent : List ℕ → Type 0 where
  none : IsExponent []
  power : (mark sign digits : List ℕ) → IsMark mark → IsSign sign → AreDigits digits
      → 0 < length digits → IsExponent (mark ++ (sign ++ digits))

pub data IsSuffix : List ℕ → Type 0 where
  none : IsSuffix []
  small_f : IsSuffix (codes "f")
  large_f : IsSuffix (codes "F")
  small_l : IsSuffix (codes "l")
  large_l : IsSuffix (codes "L")

-- the whole text is a number
pub record IsNumberText (text : List ℕ) : Type 0 where
  pub sign : List ℕ
  pub body : List ℕ
  pub exponent : List ℕ
  pub suffix : List ℕ
  pub split : text ≡ sign ++ (body ++ (exponent ++ suffix))
  pub is_sign : IsSign sign
  pub is_body : IsBody body
  pub is_exponent : IsExponent exponent
  pub is_suffix : IsSuffix suffix

-- the longest number at the front of the text has this length
pub record IsLongestNumber (text : List ℕ) (len : ℕ) : Type 0 where
  pub within : len ≤ length text
  pub is : 0 < len → IsNumberText (take len text)
  pub longest : (m : ℕ) → m ≤ length text → IsNumberText (take m text) → m ≤ len
