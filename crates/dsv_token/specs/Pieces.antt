-- Which tokens a text has, apart from how they are found: a text is gaps and tokens, one after
-- another, and what a gap or a token is also says what may follow it.
use Rattle.std.specs.Prelude.{◌≡◌, ℕ, ◌+◌, ◌<◌, Bool, true, false, ◌&&◌}
use Rattle.std.specs.Prelude.{◌||◌, ◌==◌, List, [], ◌∷◌, ◌++◌, length, Some}
use Rattle.std.specs.List.{list_all}
use Rattle.dsv_text.specs.Bytes.{is_blank, is_digit, is_letter}
use Rattle.dsv_fraction.specs.Number.{number_len}
use Rattle.dsv_token.specs.Names.{word_of}
use Rattle.dsv_token.specs.Lexing.{line_feed, hash_mark, star_mark, point, slash}
use Rattle.dsv_token.specs.Lexing.{is_name_byte, is_joined, in_line, mark_of}
use Rattle.dsv_token.specs.declared.token.TokenKind.{TokenKind}
use Rattle.dsv_token.specs.declared.token.TokenKind.TheVariants as kind
use Rattle.dsv_token.specs.declared.token.Token.{Token}

-- no byte of this class is first
abbrev pub BeginsOther : (ℕ → Bool) → List ℕ → Type 0
BeginsOther class [] = Unit {0}
BeginsOther class (b ∷ bs) = class b ≡ false

-- a `*/` stands in the text, which may begin after a star
abbrev pub has_close : Bool → List ℕ → Bool
has_close star [] = false
has_close star (b ∷ bs) = star && b == slash || has_close (b == star_mark) bs

-- a gap before a text; nothing but blanks stands on the line before the gap, or before what follows
-- it
pub data IsGap : Bool → List ℕ → List ℕ → Bool → Type 0 where
  blank : (fresh : Bool) (b : ℕ) (rest : List ℕ) → is_blank b ≡ true
      → IsGap fresh (b ∷ []) rest (fresh || b == line_feed)
  hash : (line rest : List ℕ) → list_all in_line line ≡ true → BeginsOther in_line rest
      → IsGap true (hash_mark ∷ line) rest true
  line : (fresh : Bool) (line rest : List ℕ) → list_all in_line line ≡ true
      → BeginsOther in_line rest → IsGap fresh (slash ∷ slash ∷ line) rest false
  block : (fresh : Bool) (inside rest : List ℕ) → has_close false inside ≡ false
      → IsGap fresh (slash ∷ star_mark ∷ (inside ++ (star_mark ∷ slash ∷ []))) rest false

-- a token before a text
pub data IsToken : TokenKind → List ℕ → List ℕ → Type 0 where
  mark : (k : TokenKind) (b : ℕ) (rest : List ℕ) → mark_of b ≡ Some k → IsToken k (b ∷ []) rest
  dot : (rest : List ℕ) → BeginsOther is_digit rest → IsToken kind.Dot (point ∷ []) rest
  name : (b : ℕ) (bs rest : List ℕ) → is_letter b ≡ true → list_all is_name_byte bs ≡ true
      → BeginsOther is_name_byte rest → IsToken (kind.Name (word_of (b ∷ bs))) (b ∷ bs) rest
  number : (text rest : List ℕ) → 0 < length text → number_len (text ++ rest) ≡ length text
      → is_joined rest ≡ false → IsToken kind.Number text rest

-- the tokens of a text, whose first byte has this offset
pub data IsCut : Bool → ℕ → List ℕ → List Token → Type 0 where
  none : (fresh : Bool) (at : ℕ) → IsCut fresh at [] []
  gap : (fresh next : Bool) (at : ℕ) (gap rest : List ℕ) (ts : List Token)
      → IsGap fresh gap rest next → IsCut next (at + length gap) rest ts
      → IsCut fresh at (gap ++ rest) ts
  token : (fresh : Bool) (at : ℕ) (k : TokenKind) (text rest : List ℕ) (ts : List Token)
      → IsToken k text rest → IsCut false (at + length text) rest ts →
      IsCut fresh at (text ++ rest) (record { kind = k; at = at; len = length text } ∷ ts)

-- neither a gap nor a token is at the beginning of the text, which isn't empty
pub record IsStuck (fresh : Bool) (text : List ℕ) : Type 0 where
  pub some_byte : 0 < length text
  pub no_gap : (gap rest : List ℕ) (next : Bool) → text ≡ gap ++ rest → IsGap fresh gap rest next
      → ⊥
  pub no_token : (k : TokenKind) (token rest : List ℕ) → text ≡ token ++ rest → IsToken k token rest
      → ⊥

-- after gaps and tokens the text is stuck at this offset
pub data StopsAt : Bool → ℕ → List ℕ → ℕ → Type 0 where
  here : (fresh : Bool) (at : ℕ) (text : List ℕ) → IsStuck fresh text → StopsAt fresh at text at
  gap : (fresh next : Bool) (at : ℕ) (gap rest : List ℕ) (place : ℕ) → IsGap fresh gap rest next
      → StopsAt next (at + length gap) rest place → StopsAt fresh at (gap ++ rest) place
  token : (fresh : Bool) (at : ℕ) (k : TokenKind) (text rest : List ℕ) (place : ℕ)
      → IsToken k text rest → StopsAt false (at + length text) rest place
      → StopsAt fresh at (text ++ rest) place
