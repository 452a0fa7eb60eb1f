-- The first fault of a text that is no file's: the first line that isn't as wanted, and what is
-- wrong with it. Nothing here says how texts are read.
use Rattle.std.specs.Prelude.{◌≡◌, ◌≢◌, ℕ, zero, suc, ◌+◌, ◌≤◌, List, [], ◌∷◌, ◌++◌, length}
use Rattle.std.specs.Prelude.{replicate, codes, decimal, slice_get, Option, Some, None}
use Rattle.std.specs.List.{flat_map}
use Rattle.dsv_fraction.specs.Ratio.{Ratio}
use Rattle.dsv_lines.specs.Texts.{Line, ArePlain, line_text}
use Rattle.dsv_state_file.specs.Limits.{most_states, greatest_int_bits, greatest_frac_bits}
use Rattle.dsv_state_file.specs.Limits.{least_width, greatest_width}
use Rattle.dsv_state_file.specs.StateTexts.{IsDecimal}
use Rattle.dsv_state_file.specs.declared.refusal.StateRefusal.{StateRefusal}
use Rattle.dsv_state_file.specs.declared.refusal.StateRefusal.TheVariants as refusal

-- ---- numbers
-- a number that is wanted: a whole one from the first to the second, in decimal; or a decimal
-- without a suffix
pub data WantedNumber : Type 0 where
  whole : ℕ → ℕ → WantedNumber
  fraction : WantedNumber

-- the word is such a number
abbrev pub IsWanted : WantedNumber → List ℕ → Type 0
IsWanted (WantedNumber.whole least most) word =
    (n : ℕ) × (least ≤ n) × (n ≤ most) × (word ≡ decimal n)
IsWanted WantedNumber.fraction word = (value : Ratio) × IsDecimal word value

-- the words are the wanted numbers, one for each
abbrev pub AreWanted : List WantedNumber → Line → Type 0
AreWanted [] [] = Unit {0}
AreWanted [] (word ∷ words) = ⊥
AreWanted (number ∷ numbers) [] = ⊥
AreWanted (number ∷ numbers) (word ∷ words) = IsWanted number word × AreWanted numbers words

-- the word at this place, which counts from 0, is the first that isn't the wanted number
abbrev pub IsFirstOther : List WantedNumber → Line → ℕ → Type 0
IsFirstOther [] words place = ⊥
IsFirstOther (number ∷ numbers) [] place = ⊥
IsFirstOther (number ∷ numbers) (word ∷ words) zero = IsWanted number word → ⊥
IsFirstOther (number ∷ numbers) (word ∷ words) (suc place) =
    IsWanted number word × IsFirstOther numbers words place

-- ---- the lines of a file
-- what the numbers of a line mean together: nothing; the bits of a word before the point and after
-- it; how many states there are
pub data Meaning : Type 0 where
  nothing : Meaning
  bits : Meaning
  order : Meaning

-- the words are the bits of a word before the point and after it
abbrev pub HasWidth : Line → Type 0
HasWidth words = (i : ℕ) × (f : ℕ) × (words ≡ decimal i ∷ decimal f ∷ [])
    × (least_width ≤ i + f) × (i + f ≤ greatest_width)

-- the words mean it in a file of so many states
abbrev pub Means : Meaning → ℕ → Line → Type 0
Means Meaning.nothing states words = Unit {0}
Means Meaning.bits states words = HasWidth words
Means Meaning.order states words = (words ≡ decimal states ∷ []) × (states ≤ most_states)

-- a line that is wanted: its first word, the numbers that follow it, and what they mean
pub record WantedLine : Type 0 where
  pub word : List ℕ
  pub numbers : List WantedNumber
  pub meaning : Meaning

abbrev pub want_of : List ℕ → List WantedNumber → Meaning → WantedLine
want_of word numbers meaning = record { word = word; numbers = numbers; meaning = meaning }

-- a word and so many decimals
abbrev pub vector_line : List ℕ → ℕ → WantedLine
vector_line word count = want_of word (replicate count WantedNumber.fraction) Meaning.nothing

-- `dsv-state-space 1`
abbrev pub version_line : WantedLine
version_line = want_of (codes "dsv-state-space") (WantedNumber.whole 1 1 ∷ []) Meaning.nothing

-- `format I F`
abbrev pub format_line : WantedLine
format_line = want_of (codes "format")
    (WantedNumber.whole 1 greatest_int_bits ∷ WantedNumber.whole 0 greatest_frac_bits ∷ [])
    Meaning.bits

-- `states N`
abbrev pub states_line : WantedLine
states_line = want_of (codes "states") (WantedNumber.whole 1 most_states ∷ []) Meaning.order

-- `end`
abbrev pub end_line : WantedLine
end_line = want_of (codes "end") [] Meaning.nothing

-- the lines after `states N`
abbrev pub matrix_lines : ℕ → List WantedLine
matrix_lines states =
    replicate states (vector_line (codes "a") states)
    ++ vector_line (codes "b") states
    ∷ vector_line (codes "c") states
    ∷ vector_line (codes "d") 1
    ∷ end_line
    ∷ []

-- the lines of a file of so many states
abbrev pub file_lines : ℕ → List WantedLine
file_lines states =
    version_line
    ∷ format_line
    ∷ vector_line (codes "range") 2
    ∷ states_line
    ∷ matrix_lines states

-- ---- lines of a text
-- the words may follow the first one: as many as numbers are wanted, without spaces and line feeds
pub record AreWords (want : WantedLine) (words : Line) : Type 0 where
  pub plain : ArePlain words
  pub many : length words ≡ length want.numbers

-- the text begins with a line of the wanted first word and these words
abbrev pub BeginsWith : WantedLine → List ℕ → Line → Type 0
BeginsWith want text words = AreWords want words
    × (rest : List ℕ) × (text ≡ line_text (want.word ∷ words) ++ rest)

-- the line is as wanted in a file of so many states
pub record IsAsWanted (states : ℕ) (want : WantedLine) (line : Line) : Type 0 where
  pub words : Line
  pub line_is : line ≡ want.word ∷ words
  pub are_words : AreWords want words
  pub numbers : AreWanted want.numbers words
  pub meaning : Means want.meaning states words

-- the lines are as wanted, the first of a file of so many states
abbrev pub AreAsWanted : ℕ → List WantedLine → List Line → Type 0
AreAsWanted states wants [] = Unit {0}
AreAsWanted states [] (line ∷ lines) = ⊥
AreAsWanted states (want ∷ wants) (line ∷ lines) =
    IsAsWanted states want line × AreAsWanted states wants lines

-- ---- faults
-- What is wrong with line n, if this line is wanted and this text is left. Line: the text doesn't
-- begin with a line of the wanted word and of as many words as numbers are wanted. Number: it does,
-- and the word at the place is the first that isn't the wanted number. Width: all words are the
-- wanted numbers, and they should be the bits of a word and aren't.
abbrev pub IsLineFault : WantedLine → ℕ → List ℕ → StateRefusal → Type 0
IsLineFault want n text (refusal.Line m) =
    (m ≡ n) × ((words : Line) → BeginsWith want text words → ⊥)
IsLineFault want n text (refusal.Number m place) =
    (m ≡ n) × (words : Line) × BeginsWith want text words × IsFirstOther want.numbers words place
IsLineFault want n text (refusal.Width m) =
    (m ≡ n) × (words : Line) × BeginsWith want text words × AreWanted want.numbers words
    × (want.meaning ≡ Meaning.bits) × (HasWidth words → ⊥)

-- the same if no line is wanted any more: then no text may be left
abbrev pub IsFaultAt : Option WantedLine → ℕ → List ℕ → StateRefusal → Type 0
IsFaultAt (Some want) n text why = IsLineFault want n text why
IsFaultAt None n text why = (text ≢ []) × (why ≡ refusal.Line n)

-- The text begins with lines that are as wanted, the first ones of a file, and the line after them
-- has this fault. Lines count from 1.
pub record IsStateFault (text : List ℕ) (why : StateRefusal) : Type 0 where
  pub states : ℕ
  pub lines : List Line
  pub left : List ℕ
  pub text_is : text ≡ flat_map line_text lines ++ left
  pub wanted : AreAsWanted states (file_lines states) lines
  pub fault : IsFaultAt (slice_get (file_lines states) (length lines)) (length lines + 1) left why
