-- What the text of a state-space controller's file is read as, line by line, and why it isn't read.
use Rattle.std.specs.Prelude.{ℕ, zero, suc, ◌+◌, ◌==◌, ◌&&◌, nat_le, Bool, List, []}
use Rattle.std.specs.Prelude.{◌∷◌, ◌++◌, length, codes, Option, Some, None, Result, Ok, Err}
use Rattle.std.specs.Prelude.{if◌then◌else◌, slice_index_or}
use Rattle.std.specs.Str.{bytes_eq}
use Rattle.dsv_text.specs.Stages.{◌>>=◌}
use Rattle.dsv_fraction.specs.Ratio.{Ratio}
use Rattle.dsv_fraction.specs.Ratio as ratio
use Rattle.dsv_lines.specs.Numerals.{numeral_of, positive_of}
use Rattle.dsv_lines.specs.Pieces.{TextLines, unended, line, LinesLeft, pieces_of, piece_at}
use Rattle.dsv_lines.specs.Pieces.{all_lines, is_ended}
use Rattle.dsv_lines.specs.Readings.{Reading, reading_of}
use Rattle.dsv_state_file.specs.Decimals.{bare_decimal}
use Rattle.dsv_state_file.specs.Limits.{most_states, greatest_int_bits, greatest_frac_bits}
use Rattle.dsv_state_file.specs.Limits.{least_width, greatest_width}
use Rattle.dsv_state_file.specs.StateFiles.{StateFileView}
use Rattle.dsv_state_file.specs.declared.words.Format.{Format}
use Rattle.dsv_state_file.specs.declared.reader.Range.{Range}
use Rattle.dsv_state_file.specs.declared.reader.Head.{Head}
use Rattle.dsv_state_file.specs.declared.refusal.StateRefusal.{StateRefusal}
use Rattle.dsv_state_file.specs.declared.refusal.StateRefusal.TheVariants as refusal

-- ---- a line by its number and its pieces
-- the words after the first, where the line is this word and so many more
abbrev pub words_after : List ℕ → ℕ → ℕ → List (List ℕ) → Result (List (List ℕ)) StateRefusal
words_after word count n [] = Err (refusal.Line n)
words_after word count n (first ∷ words) = if bytes_eq first word && length words == count
    then Ok words else Err (refusal.Line n)

-- a number, or the fault that none stands at the place
abbrev pub or_number : {X : Type 0} → ℕ → ℕ → Option X → Result X StateRefusal
or_number n place (Some x) = Ok x
or_number n place None = Err (refusal.Number n place)

-- `dsv-state-space 1`
abbrev pub version_in : ℕ → List (List ℕ) → Result ℕ StateRefusal
version_in n pieces =
    words_after (codes "dsv-state-space") 1 n pieces >>= λ words.
    or_number n 0 (positive_of 1 (piece_at words 0))

abbrev pub is_width : ℕ → Bool
is_width bits = nat_le least_width bits && nat_le bits greatest_width

-- `format I F`
abbrev pub format_in : ℕ → List (List ℕ) → Result Format StateRefusal
format_in n pieces =
    words_after (codes "format") 2 n pieces >>= λ words.
    or_number n 0 (positive_of greatest_int_bits (piece_at words 0)) >>= λ i.
    or_number n 1 (numeral_of greatest_frac_bits (piece_at words 1)) >>= λ f.
    if is_width (i + f) then Ok (record { int_bits = i; frac_bits = f })
    else Err (refusal.Width n)

-- the decimals of words, after those that are read already
abbrev pub decimals_from : ℕ → List Ratio → List (List ℕ) → Result (List Ratio) StateRefusal
decimals_from n xs [] = Ok xs
decimals_from n xs (word ∷ words) =
    or_number n (length xs) (bare_decimal word) >>= λ x. decimals_from n (xs ++ x ∷ []) words

-- a word and so many decimals
abbrev pub vector_in : List ℕ → ℕ → ℕ → List (List ℕ) → Result (List Ratio) StateRefusal
vector_in word count n pieces = words_after word count n pieces >>= decimals_from n []

-- a number of a list
abbrev pub entry_at : List Ratio → ℕ → Ratio
entry_at xs i = slice_index_or xs i ratio.zero

-- `range LO HI`
abbrev pub range_in : ℕ → List (List ℕ) → Result Range StateRefusal
range_in n pieces = vector_in (codes "range") 2 n pieces >>= λ xs.
    Ok (record { min = entry_at xs 0; max = entry_at xs 1 })

-- `states N`
abbrev pub states_in : ℕ → List (List ℕ) → Result ℕ StateRefusal
states_in n pieces =
    words_after (codes "states") 1 n pieces >>= λ words.
    or_number n 0 (positive_of most_states (piece_at words 0))

-- ---- lines one after another
abbrev pub line_from : {X : Type 0} → (ℕ → List (List ℕ) → Result X StateRefusal) → ℕ → TextLines
    → Result (Reading X) StateRefusal
line_from read n (unended bytes) = Err (refusal.Line n)
line_from read n (line bytes more) = read n (pieces_of bytes) >>= λ x.
    Ok (reading_of x (record { lines = more; number = n + 1 }))

-- the next line as it is read, and what is left after it; `Line` where there is none
abbrev pub line_in : {X : Type 0} → (ℕ → List (List ℕ) → Result X StateRefusal) → LinesLeft
    → Result (Reading X) StateRefusal
line_in read ls = line_from read ls.number ls.lines

-- so many lines `a ..`, after the rows that are read already
abbrev pub rows_from : ℕ → ℕ → List (List Ratio) → LinesLeft
    → Result (Reading (List (List Ratio))) StateRefusal
rows_from states zero rows ls = Ok (reading_of rows ls)
rows_from states (suc more) rows ls = line_in (vector_in (codes "a") states) ls >>= λ row.
    rows_from states more (rows ++ row.value ∷ []) row.left

-- the lines up to `states N`
abbrev pub head_in : LinesLeft → Result (Reading Head) StateRefusal
head_in ls =
    line_in version_in ls >>= λ version.
    line_in format_in version.left >>= λ format.
    line_in range_in format.left >>= λ range.
    line_in states_in range.left >>= λ states.
    Ok (reading_of (record {
      format = format.value;
      range = range.value;
      states = states.value;
    }) states.left)

-- the lines after that, and the file of all lines
abbrev pub file_in : Head → LinesLeft → Result (Reading StateFileView) StateRefusal
file_in head ls =
    rows_from head.states head.states [] ls >>= λ a.
    line_in (vector_in (codes "b") head.states) a.left >>= λ b.
    line_in (vector_in (codes "c") head.states) b.left >>= λ c.
    line_in (vector_in (codes "d") 1) c.left >>= λ d.
    line_in (words_after (codes "end") 0) d.left >>= λ end.
    Ok (reading_of (record {
      states = head.states;
      a = a.value;
      b = b.value;
      c = c.value;
      d = entry_at d.value 0;
      int_bits = head.format.int_bits;
      frac_bits = head.format.frac_bits;
      min = head.range.min;
      max = head.range.max;
    }) end.left)

-- nothing follows
abbrev pub whole_text : {X : Type 0} → Reading X → Result X StateRefusal
whole_text read = if is_ended read.left.lines
    then Ok read.value else Err (refusal.Line read.left.number)

-- the file that the text is read as, or its first fault
abbrev pub state_of : List ℕ → Result StateFileView StateRefusal
state_of text =
    head_in (all_lines text) >>= λ head. file_in head.value head.left >>= whole_text
