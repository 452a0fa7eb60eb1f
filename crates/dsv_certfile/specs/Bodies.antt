-- What follows the kind line of a certificate.
use Rattle.std.specs.Prelude.{ℕ, zero, suc, ◌+◌, ◌-◌, List, [], ◌∷◌, ◌++◌, length, map, take}
use Rattle.std.specs.Prelude.{drop, Result, Ok, Err, slice_index_or, ℤ, pos}
use Rattle.std.specs.Prelude.{if◌then◌else◌}
use Rattle.std.specs.Str.{bytes_eq}
use Rattle.dsv_text.specs.Stages.{◌>>=◌}
use Rattle.dsv_integer.specs.Readings.{integer_read}
use Rattle.dsv_forms.specs.Padded.{form_with, squares_with}
use Rattle.dsv_forms.specs.declared.offers.Form.{Form}
use Rattle.dsv_forms.specs.declared.offers.Squares.{Squares}
use Rattle.dsv_forms.specs.declared.offers.Falls.{Falls}
use Rattle.dsv_roundoff.specs.declared.offers.RoundoffOffer.{RoundoffOffer}
use Rattle.dsv_roundoff.specs.declared.offers.WordRange.{WordRange}
use Rattle.dsv_template.specs.declared.candidate.Inequality.{Inequality}
use Rattle.dsv_template.specs.declared.verdict.ThreeLogs.{ThreeLogs}
use Rattle.dsv_lines.specs.Readings.{Reading, reading_of}
use Rattle.dsv_certfile.specs.Answers.{at_line, text_refusal}
use Rattle.dsv_certfile.specs.Headings.{count_at, or_number, whole_line}
use Rattle.dsv_lines.specs.Pieces.{TextLines, unended, line, LinesLeft, pieces_of, piece_at}
use Rattle.dsv_certfile.specs.Places.{line_numbers, word_places, row_places, squares_places}
use Rattle.dsv_certfile.specs.Places.{inequality_places}
use Rattle.dsv_certfile.specs.Keywords.{keyword_text}
use Rattle.dsv_certfile.specs.Steps.{log_in}
use Rattle.dsv_certfile.specs.declared.fault.TextFault.{TextFault}
use Rattle.dsv_certfile.specs.declared.fault.TextFault.TheVariants as fault
use Rattle.dsv_certfile.specs.declared.fault.TextRefusal.{TextRefusal}
use Rattle.dsv_certfile.specs.declared.keyword.Keyword.{Keyword}
use Rattle.dsv_certfile.specs.declared.keyword.Keyword.TheVariants as keyword
use Rattle.dsv_certfile.specs.declared.invariant.SetProof.{SetProof}
use Rattle.dsv_certfile.specs.declared.numbers.NumberRange.TheVariants as range
use Rattle.dsv_certfile.specs.declared.places.Place.{Place}
use Rattle.dsv_certfile.specs.declared.places.Place.TheVariants as place

-- ---- lines one after another
abbrev pub line_from : {X : Type 0} → (List ℕ → Result X TextFault) → ℕ → TextLines
    → Result (Reading X) TextRefusal
line_from read n (unended bytes) = Err (text_refusal n fault.End)
line_from read n (line bytes more) = at_line n (read bytes) >>= λ x.
    Ok (reading_of x (record { lines = more; number = n + 1 }))

-- the next line as it is read, and what is left after it; END where there is none
abbrev pub line_in : {X : Type 0} → (List ℕ → Result X TextFault) → LinesLeft
    → Result (Reading X) TextRefusal
line_in read ls = line_from read ls.number ls.lines

-- the numbers of a line at these places
abbrev pub numbers_of : List Place → List ℕ → Result (List ℤ) TextFault
numbers_of places bytes = line_numbers places (pieces_of bytes)

-- the numbers of the next line
abbrev pub numbers_in : List Place → LinesLeft → Result (Reading (List ℤ)) TextRefusal
numbers_in places = line_in (numbers_of places)

-- the next so many lines, after those that are read already
abbrev pub lines_from : {X : Type 0} → (List ℕ → Result X TextFault) → ℕ → List X → LinesLeft
    → Result (Reading (List X)) TextRefusal
lines_from read zero xs ls = Ok (reading_of xs ls)
lines_from read (suc n) xs ls =
    line_in read ls >>= λ x. lines_from read n (xs ++ x.value ∷ []) x.left

-- the numbers of so many lines
abbrev pub rows_in : List Place → ℕ → LinesLeft → Result (Reading (List (List ℤ))) TextRefusal
rows_in places n = lines_from (numbers_of places) n []

-- the line that is this word
abbrev pub word_in : Keyword → LinesLeft → Result (Reading (List ℤ)) TextRefusal
word_in w = numbers_in (word_places w)

-- nothing follows
abbrev pub whole_text : {X : Type 0} → X → ℕ → TextLines → Result X TextRefusal
whole_text x n (unended []) = Ok x
whole_text x n (unended (b ∷ bs)) = Err (text_refusal n fault.End)
whole_text x n (line bytes more) = Err (text_refusal n fault.End)

-- ---- falls
-- a form of d places: d lines `form ROW..`
abbrev pub form_in : ℕ → LinesLeft → Result (Reading Form) TextRefusal
form_in d ls =
    rows_in (row_places keyword.Form d) d ls >>= λ rows.
    Ok (reading_of (form_with rows.value) rows.left)

-- m times a form of d places as so many squares: a line `square WEIGHT ROW..` for each square, d
-- lines `rest ROW..`
abbrev pub squares_of : ℕ → ℤ → ℕ → LinesLeft → Result (Reading Squares) TextRefusal
squares_of d m count ls =
    rows_in (row_places keyword.Square (d + 1)) count ls >>= λ squares.
    rows_in (row_places keyword.Rest d) d squares.left >>= λ rest.
    Ok (reading_of (squares_with m
    (map (λ square. slice_index_or square 0 (pos 0)) squares.value)
    (map (drop 1) squares.value) rest.value) rest.left)

-- the same after a line `WORD M COUNT`
abbrev pub squares_in : Keyword → ℕ → LinesLeft → Result (Reading Squares) TextRefusal
squares_in w d ls =
    numbers_in (squares_places w) ls >>= λ h.
    squares_of d (slice_index_or h.value 0 (pos 0)) (count_at h.value 1) h.left

-- a form of d places and its squares
abbrev pub falls_in : ℕ → LinesLeft → Result (Reading Falls) TextRefusal
falls_in d ls =
    form_in d ls >>= λ form.
    squares_in keyword.Positive d form.left >>= λ positive.
    squares_in keyword.Fall d positive.left >>= λ fall.
    word_in keyword.End fall.left >>= λ end.
    Ok (reading_of (record {
      form = form.value;
      positive = positive.value;
      fall = fall.value;
    }) end.left)

-- ---- an invariant
-- the last number of an inequality is its bound
abbrev pub inequality_with : List ℤ → Inequality
inequality_with numbers = record {
  coefficients = record { items = take (length numbers - 1) numbers };
  bound = slice_index_or numbers (length numbers - 1) (pos 0);
}

-- the numbers of the line `ineq C.. B`
abbrev pub inequality_numbers : List ℕ → Result (List ℤ) TextFault
inequality_numbers bytes = numbers_of (inequality_places (length (pieces_of bytes))) bytes

-- the inequality of such a line
abbrev pub inequality_in : List ℕ → Result Inequality TextFault
inequality_in bytes =
    inequality_numbers bytes >>= λ numbers. Ok (inequality_with numbers)

-- a log for each sentence, each up to the word of the next
abbrev pub logs_in : LinesLeft → Result (Reading ThreeLogs) TextRefusal
logs_in ls =
    word_in keyword.Base ls >>= λ start.
    log_in keyword.Step start.left >>= λ base.
    log_in keyword.Safe base.left >>= λ step.
    log_in keyword.End step.left >>= λ safe.
    Ok (reading_of (record { base = base.value; step = step.value; safe = safe.value }) safe.left)

-- so many inequalities, and the logs
abbrev pub invariant_in : ℕ → ℕ → LinesLeft → Result (Reading SetProof) TextRefusal
invariant_in depth count ls =
    lines_from inequality_in count [] ls >>= λ inequalities.
    logs_in inequalities.left >>= λ logs.
    Ok (reading_of (record {
      candidate = record {
        inequalities = record { items = inequalities.value };
        depth = depth;
      };
      logs = logs.value;
    }) logs.left)

-- ---- how far outputs are from those of exact runs
-- the line `box L G`
abbrev pub range_places : List Place
range_places =
    place.Word keyword.Box ∷ place.Number range.Entry ∷ place.Number range.Entry ∷ []

-- the least and the greatest difference of a register
abbrev pub range_with : List ℤ → WordRange
range_with numbers = record {
  low = slice_index_or numbers 0 (pos 0);
  high = slice_index_or numbers 1 (pos 0);
}

-- the range of such a line
abbrev pub range_in : List ℕ → Result WordRange TextFault
range_in bytes = numbers_of range_places bytes >>= λ numbers. Ok (range_with numbers)

-- so many ranges, and the last line
abbrev pub roundoff_in : ℕ → ℕ → LinesLeft → Result (Reading RoundoffOffer) TextRefusal
roundoff_in depth count ls =
    lines_from range_in count [] ls >>= λ ranges.
    word_in keyword.End ranges.left >>= λ end.
    Ok (reading_of (record { depth = depth; ranges = ranges.value }) end.left)

-- ---- the coefficients of a polynomial
-- the number of the piece after a word, of any size
abbrev pub number_after : List (List ℕ) → Result ℤ TextFault
number_after [] = Err fault.Line
number_after (piece ∷ pieces) = or_number (integer_read piece)

-- the piece is this word
abbrev pub wanted : Keyword → List ℕ → Result (Unit {0}) TextFault
wanted w piece = if bytes_eq piece (keyword_text w) then Ok tt else Err fault.Line

-- the number of the line `coefficient C`
abbrev pub coefficient_of : List (List ℕ) → Result ℤ TextFault
coefficient_of pieces =
    number_after (drop 1 pieces) >>= λ c.
    wanted keyword.Coefficient (piece_at pieces 0) >>= λ _.
    whole_line c (drop 2 pieces)

abbrev pub coefficient_in : List ℕ → Result ℤ TextFault
coefficient_in bytes = coefficient_of (pieces_of bytes)

-- so many coefficients, and the last line
abbrev pub table_in : ℕ → LinesLeft → Result (Reading (List ℤ)) TextRefusal
table_in count ls =
    lines_from coefficient_in count [] ls >>= λ coefficients.
    word_in keyword.End coefficients.left >>= λ end.
    Ok (reading_of coefficients.value end.left)
