-- Each text of a file is read as the file.
use Rattle.std.proofs.Common.{◌≡◌, ◌∙◌, sym, ap, ℕ, zero, suc, ◌+◌, ◌≤◌, true, List, [], ◌∷◌, ◌++◌, length, decimal, refl, append_assoc, codes, arith, Some}
use Rattle.std.specs.Prelude.{Result, Ok, nat_le}
use Rattle.std.specs.List.{All, flat_map}
use Rattle.std.specs.Str.{bytes_eq}
use Rattle.std.proofs.lemmas.Bool.{and_from, eq-eqb}
use Rattle.std.proofs.lemmas.Bool.Decides.{nat_tests}
use Rattle.std.proofs.lemmas.List.{append-nil}
use Rattle.std.proofs.lemmas.List.Elements.{All-nil, All-cons, All-head, All-tail, All-append}
use Rattle.dsv_text.specs.Stages.{◌>>=◌}
use Rattle.dsv_fraction.specs.Ratio.{Ratio}
use Rattle.dsv_lines.specs.Pieces.{TextLines, unended, line, lines_of, LinesLeft}
use Rattle.dsv_lines.specs.Readings.{Reading, reading_of}
use Rattle.dsv_lines.specs.Texts.{Line, line_text, IsPlain, ArePlain}
use Rattle.dsv_lines.proofs.WrittenLines.{IsLine, line_bytes, pieces_of-line_bytes, onto_lines, onto_lines-append, lines-written}
use Rattle.dsv_lines.proofs.WrittenNumerals.{numeral_of-decimal, positive_of-decimal, decimal_plain}
use Rattle.dsv_state_file.specs.Decimals.{bare_decimal}
use Rattle.dsv_state_file.specs.Limits.{most_states, greatest_int_bits, greatest_frac_bits, least_width, greatest_width}
use Rattle.dsv_state_file.specs.Reading.{words_after, or_number, is_width, version_in, format_in, decimals_from, vector_in, range_in, states_in, entry_at, line_in, rows_from, head_in, file_in, whole_text, state_of}
use Rattle.dsv_state_file.specs.StateFiles.{StateFileView}
use Rattle.dsv_state_file.specs.StateTexts.{IsDecimal, AreDecimals, AreRows, IsStateText}
use Rattle.dsv_state_file.specs.declared.reader.Head.{Head}
use Rattle.dsv_state_file.specs.declared.reader.Range.{Range}
use Rattle.dsv_state_file.specs.declared.words.Format.{Format}
use Rattle.dsv_state_file.specs.declared.refusal.StateRefusal.{StateRefusal}
use Rattle.dsv_state_file.proofs.FileStages.{head_of, file_of, after_version, after_format, after_range, after_states, after_rows, after_b, after_c, after_d, after_end}
use Rattle.dsv_state_file.proofs.PlainDecimals as plain
use Rattle.dsv_state_file.proofs.ReadFiles.{row_lines, first_lines, last_lines}
use Rattle.dsv_state_file.proofs.ReadParts.{length-decimals}
use Rattle.dsv_state_file.proofs.Stages as stages

-- ---- decimals
pub bare_is : (text : List ℕ) (value : Ratio) → IsDecimal text value → bare_decimal text ≡ Some value
bare_is text value h = rw (h.bare, h.is) refl

decimals_taken : (n : ℕ) (xs : List Ratio) (words : Line) (values : List Ratio) → AreDecimals words values → decimals_from n xs words ≡ Ok (xs ++ values)
decimals_taken n xs [] [] h = ap Ok (sym (append-nil xs))
decimals_taken n xs [] (v ∷ vs) h = absurd h
decimals_taken n xs (w ∷ ws) [] h = absurd h
decimals_taken n xs (w ∷ ws) (v ∷ vs) h =
    stages.decimal_more n xs w ws v (ap (or_number n (length xs)) (bare_is w v h.0))
    ∙ decimals_taken n (xs ++ v ∷ []) ws vs h.1 ∙ ap Ok (append_assoc xs (v ∷ []) vs)

words_taken : (word : List ℕ) (count n : ℕ) (words : Line) → bytes_eq word word ≡ true → length words ≡ count → words_after word count n (word ∷ words) ≡ Ok words
words_taken word count n words same many = rw (same, eq-eqb (length words) count many) refl

vector_taken : (word : List ℕ) (count n : ℕ) (words : Line) (values : List Ratio) → bytes_eq word word ≡ true → AreDecimals words values → length values ≡ count
    → vector_in word count n (word ∷ words) ≡ Ok values
vector_taken word count n words values same are many =
    ap (λ (r : Result Line StateRefusal). r >>= decimals_from n []) (words_taken word count n words same (length-decimals words values are ∙ many))
    ∙ decimals_taken n [] words values are

-- ---- lines
version_taken : (n : ℕ) → version_in n (codes "dsv-state-space" ∷ codes "1" ∷ []) ≡ Ok 1
version_taken n = refl

format_taken : (n i f : ℕ) → 1 ≤ i → least_width ≤ i + f → i + f ≤ greatest_width
    → format_in n (codes "format" ∷ decimal i ∷ decimal f ∷ []) ≡ Ok (record { int_bits = i; frac_bits = f })
format_taken n i f some wide narrow =
    let pi = positive_of-decimal greatest_int_bits i (omega arith) some (omega (arith, narrow)) in
    let pf = numeral_of-decimal greatest_frac_bits f (omega arith) (omega (arith, narrow, some)) in
    let width : is_width (i + f) ≡ true = and_from (nat_le least_width (i + f)) (nat_le (i + f) greatest_width) (grind (arith, nat_tests)) (grind (arith, nat_tests)) in
    rw (pi, pf, width) refl

range_taken : (n : ℕ) (min max : List ℕ) (lo hi : Ratio) → IsDecimal min lo → IsDecimal max hi
    → range_in n (codes "range" ∷ min ∷ max ∷ []) ≡ Ok (record { min = lo; max = hi })
range_taken n min max lo hi h k =
    ap (λ (r : Result (List Ratio) StateRefusal). r >>= λ xs. Ok (record { min = entry_at xs 0; max = entry_at xs 1 }))
    (vector_taken (codes "range") 2 n (min ∷ max ∷ []) (lo ∷ hi ∷ []) refl (h, (k, tt)) refl)

states_taken : (n states : ℕ) → 1 ≤ states → states ≤ most_states → states_in n (codes "states" ∷ decimal states ∷ []) ≡ Ok states
states_taken n states some few = rw (positive_of-decimal most_states states (omega arith) some few) refl

-- ---- lines one after another
abbrev pub left_at : TextLines → ℕ → LinesLeft
left_at t n = record { lines = t; number = n }

line_taken : {X : Type 0} (read : ℕ → Line → Result X StateRefusal) (n : ℕ) (l : Line) (t : TextLines) (x : X) → IsLine l → read n l ≡ Ok x
    → line_in read (left_at (line (line_bytes l) t) n) ≡ Ok (reading_of x (left_at t (n + 1)))
line_taken {X = X} read n l t x h e =
    ap (λ ps. read n ps >>= λ (y : X). Ok (reading_of y (left_at t (n + 1)))) (pieces_of-line_bytes l h)
    ∙ ap (λ (r : Result X StateRefusal). r >>= λ y. Ok (reading_of y (left_at t (n + 1)))) e

rows_taken : (states k : ℕ) (old : List (List Ratio)) (texts : List Line) (matrix : List (List Ratio)) → AreRows texts matrix → All (λ row. length row ≡ states) matrix
    → length matrix ≡ k → All IsLine (row_lines texts) → (t : TextLines) (n : ℕ)
    → (m : ℕ) × (rows_from states k old (left_at (onto_lines (row_lines texts) t) n) ≡ Ok (reading_of (old ++ matrix) (left_at t m)))
rows_taken states zero old [] [] h square many plain t n = (n, ap (λ rows. Ok (reading_of rows (left_at t n))) (sym (append-nil old)))
rows_taken states (suc k) old [] [] h square many plain t n = absurd (omega (arith, many))
rows_taken states k old [] (row ∷ matrix) h square many plain t n = absurd h
rows_taken states k old (words ∷ texts) [] h square many plain t n = absurd h
rows_taken states zero old (words ∷ texts) (row ∷ matrix) h square many plain t n = absurd (omega (arith, many))
rows_taken states (suc k) old (words ∷ texts) (row ∷ matrix) h square many plain t n =
    let first = line_taken (vector_in (codes "a") states) n (codes "a" ∷ words) (onto_lines (row_lines texts) t) row (All-head IsLine (codes "a" ∷ words) (row_lines texts) plain)
    (vector_taken (codes "a") states n words row refl h.0 (All-head (λ r. length r ≡ states) row matrix square)) in
    let more = rows_taken states k (old ++ row ∷ []) texts matrix h.1 (All-tail (λ r. length r ≡ states) row matrix square) (omega (arith, many))
    (All-tail IsLine (codes "a" ∷ words) (row_lines texts) plain) t (n + 1) in (
      more.0,
      stages.row_more states (suc k) k old (left_at (onto_lines (row_lines (words ∷ texts)) t) n) (left_at (onto_lines (row_lines texts) t) (n + 1)) row refl first
          ∙ more.1 ∙ ap (λ rows. Ok (reading_of rows (left_at t more.0))) (append_assoc old (row ∷ []) matrix),
    )

-- ---- the lines of a file are lines
texts_plain : (words : Line) (values : List Ratio) → AreDecimals words values → ArePlain words
texts_plain [] [] h = All-nil IsPlain
texts_plain [] (v ∷ vs) h = absurd h
texts_plain (w ∷ ws) [] h = absurd h
texts_plain (w ∷ ws) (v ∷ vs) h = All-cons IsPlain w ws (plain.decimal_plain w v h.0.is) (texts_plain ws vs h.1)

rows_plain : (texts : List Line) (matrix : List (List Ratio)) → AreRows texts matrix → All IsLine (row_lines texts)
rows_plain [] [] h = All-nil IsLine
rows_plain [] (row ∷ matrix) h = absurd h
rows_plain (words ∷ texts) [] h = absurd h
rows_plain (words ∷ texts) (row ∷ matrix) h =
    All-cons IsLine (codes "a" ∷ words) (row_lines texts) (All-cons IsPlain (codes "a") words refl (texts_plain words row h.0)) (rows_plain texts matrix h.1)

one_plain : (word text : List ℕ) → IsPlain word → IsPlain text → IsLine (word ∷ text ∷ [])
one_plain word text h k = All-cons IsPlain word (text ∷ []) h (All-cons IsPlain text [] k (All-nil IsPlain))

two_plain : (word first second : List ℕ) → IsPlain word → IsPlain first → IsPlain second → IsLine (word ∷ first ∷ second ∷ [])
two_plain word first second h k l = All-cons IsPlain word (first ∷ second ∷ []) h (All-cons IsPlain first (second ∷ []) k (All-cons IsPlain second [] l (All-nil IsPlain)))

four_plain : (k l m n : Line) → IsLine k → IsLine l → IsLine m → IsLine n → All IsLine (k ∷ l ∷ m ∷ n ∷ [])
four_plain k l m n p q r s =
    All-cons IsLine k (l ∷ m ∷ n ∷ []) p (All-cons IsLine l (m ∷ n ∷ []) q (All-cons IsLine m (n ∷ []) r (All-cons IsLine n [] s (All-nil IsLine))))

-- ---- the lines up to `states N`
-- what the first lines need of a file
record IsFirst (format : Format) (range : Range) (states : ℕ) (min max : List ℕ) : Type 0 where
  is_min : IsDecimal min range.min
  is_max : IsDecimal max range.max
  bits : 1 ≤ format.int_bits
  wide : least_width ≤ format.int_bits + format.frac_bits
  narrow : format.int_bits + format.frac_bits ≤ greatest_width
  some : 1 ≤ states
  few : states ≤ most_states

version_plain : IsLine (codes "dsv-state-space" ∷ codes "1" ∷ [])
version_plain = one_plain (codes "dsv-state-space") (codes "1") refl refl

format_plain : (i f : ℕ) → i + f ≤ greatest_width → IsLine (codes "format" ∷ decimal i ∷ decimal f ∷ [])
format_plain i f h = two_plain (codes "format") (decimal i) (decimal f) refl (decimal_plain i (omega (arith, h))) (decimal_plain f (omega (arith, h)))

range_plain : (min max : List ℕ) (lo hi : Ratio) → IsDecimal min lo → IsDecimal max hi → IsLine (codes "range" ∷ min ∷ max ∷ [])
range_plain min max lo hi h k = two_plain (codes "range") min max refl (plain.decimal_plain min lo h.is) (plain.decimal_plain max hi k.is)

states_plain : (states : ℕ) → states ≤ most_states → IsLine (codes "states" ∷ decimal states ∷ [])
states_plain states h = one_plain (codes "states") (decimal states) refl (decimal_plain states (omega (arith, h)))

first_plain : (format : Format) (range : Range) (states : ℕ) (min max : List ℕ) → IsFirst format range states min max → All IsLine (first_lines format states min max)
first_plain format range states min max h =
    four_plain (codes "dsv-state-space" ∷ codes "1" ∷ []) (codes "format" ∷ decimal format.int_bits ∷ decimal format.frac_bits ∷ [])
    (codes "range" ∷ min ∷ max ∷ []) (codes "states" ∷ decimal states ∷ []) version_plain (format_plain format.int_bits format.frac_bits h.narrow)
    (range_plain min max range.min range.max h.is_min h.is_max) (states_plain states h.few)

first_taken : (format : Format) (range : Range) (states : ℕ) (min max : List ℕ) (t : TextLines) → IsFirst format range states min max
    → head_in (left_at (onto_lines (first_lines format states min max) t) 1) ≡ Ok (reading_of (head_of format range states) (left_at t 5))
first_taken format range states min max t h =
    let l4 = line (line_bytes (codes "states" ∷ decimal states ∷ [])) t in
    let l3 = line (line_bytes (codes "range" ∷ min ∷ max ∷ [])) l4 in
    let l2 = line (line_bytes (codes "format" ∷ decimal format.int_bits ∷ decimal format.frac_bits ∷ [])) l3 in
    let a = line_taken version_in 1 (codes "dsv-state-space" ∷ codes "1" ∷ []) l2 1 version_plain (version_taken 1) in
    let b = line_taken format_in 2 (codes "format" ∷ decimal format.int_bits ∷ decimal format.frac_bits ∷ []) l3 format (format_plain format.int_bits format.frac_bits h.narrow)
    (format_taken 2 format.int_bits format.frac_bits h.bits h.wide h.narrow) in
    let c = line_taken range_in 3 (codes "range" ∷ min ∷ max ∷ []) l4 range (range_plain min max range.min range.max h.is_min h.is_max)
    (range_taken 3 min max range.min range.max h.is_min h.is_max) in
    let d = line_taken states_in 4 (codes "states" ∷ decimal states ∷ []) t states (states_plain states h.few) (states_taken 4 states h.some h.few) in
    ap (λ (r : Result (Reading ℕ) StateRefusal). r >>= after_version) a
    ∙ ap (λ (r : Result (Reading Format) StateRefusal). r >>= after_format) b
    ∙ ap (λ (r : Result (Reading Range) StateRefusal). r >>= after_range format) c
    ∙ ap (λ (r : Result (Reading ℕ) StateRefusal). r >>= after_states format range) d

-- ---- the lines after that
-- what the last lines need of a file
record AreLast (states : ℕ) (texts : List Line) (b c : Line) (d : List ℕ) (matrix : List (List Ratio)) (bs cs : List Ratio) (x : Ratio) : Type 0 where
  is_a : AreRows texts matrix
  is_b : AreDecimals b bs
  is_c : AreDecimals c cs
  is_d : IsDecimal d x
  rows : length matrix ≡ states
  square : All (λ row. length row ≡ states) matrix
  inputs : length bs ≡ states
  outputs : length cs ≡ states

end_plain : IsLine (codes "end" ∷ [])
end_plain = All-cons IsPlain (codes "end") [] refl (All-nil IsPlain)

vector_plain : (word : List ℕ) (words : Line) (values : List Ratio) → IsPlain word → AreDecimals words values → IsLine (word ∷ words)
vector_plain word words values h k = All-cons IsPlain word words h (texts_plain words values k)

last_plain : (states : ℕ) (texts : List Line) (b c : Line) (d : List ℕ) (matrix : List (List Ratio)) (bs cs : List Ratio) (x : Ratio) → AreLast states texts b c d matrix bs cs x
    → All IsLine (last_lines b c d)
last_plain states texts b c d matrix bs cs x h =
    four_plain (codes "b" ∷ b) (codes "c" ∷ c) (codes "d" ∷ d ∷ []) (codes "end" ∷ []) (vector_plain (codes "b") b bs refl h.is_b)
    (vector_plain (codes "c") c cs refl h.is_c) (one_plain (codes "d") d refl (plain.decimal_plain d x h.is_d.is)) end_plain

last_taken : (head : Head) (texts : List Line) (b c : Line) (d : List ℕ) (matrix : List (List Ratio)) (bs cs : List Ratio) (x : Ratio)
    → AreLast head.states texts b c d matrix bs cs x → (t : TextLines) (n : ℕ)
    → (m : ℕ) × (file_in head (left_at (onto_lines (row_lines texts) (onto_lines (last_lines b c d) t)) n) ≡ Ok (reading_of (file_of head matrix bs cs (x ∷ [])) (left_at t m)))
last_taken head texts b c d matrix bs cs x h t n =
    let states = head.states in
    let l4 = line (line_bytes (codes "end" ∷ [])) t in
    let l3 = line (line_bytes (codes "d" ∷ d ∷ [])) l4 in
    let l2 = line (line_bytes (codes "c" ∷ c)) l3 in
    let rows = rows_taken states states [] texts matrix h.is_a h.square h.rows (rows_plain texts matrix h.is_a) (onto_lines (last_lines b c d) t) n in
    let m = rows.0 in
    let lb = line_taken (vector_in (codes "b") states) m (codes "b" ∷ b) l2 bs (vector_plain (codes "b") b bs refl h.is_b) (vector_taken (codes "b") states m b bs refl h.is_b h.inputs) in
    let lc = line_taken (vector_in (codes "c") states) (m + 1) (codes "c" ∷ c) l3 cs (vector_plain (codes "c") c cs refl h.is_c)
    (vector_taken (codes "c") states (m + 1) c cs refl h.is_c h.outputs) in
    let ld = line_taken (vector_in (codes "d") 1) (m + 1 + 1) (codes "d" ∷ d ∷ []) l4 (x ∷ []) (one_plain (codes "d") d refl (plain.decimal_plain d x h.is_d.is))
    (vector_taken (codes "d") 1 (m + 1 + 1) (d ∷ []) (x ∷ []) refl (h.is_d, tt) refl) in
    let le = line_taken (words_after (codes "end") 0) (m + 1 + 1 + 1) (codes "end" ∷ []) t [] end_plain refl in (
      m + 1 + 1 + 1 + 1,
      ap (λ (r : Result (Reading (List (List Ratio))) StateRefusal). r >>= after_rows head) rows.1
          ∙ ap (λ (r : Result (Reading (List Ratio)) StateRefusal). r >>= after_b head matrix) lb
          ∙ ap (λ (r : Result (Reading (List Ratio)) StateRefusal). r >>= after_c head matrix bs) lc
          ∙ ap (λ (r : Result (Reading (List Ratio)) StateRefusal). r >>= after_d head matrix bs cs) ld
          ∙ ap (λ (r : Result (Reading Line) StateRefusal). r >>= after_end head matrix bs cs (x ∷ [])) le,
    )

-- ---- the whole text
cut_parts : (text : List ℕ) (first rows last : List Line) → text ≡ flat_map line_text (first ++ (rows ++ last)) → All IsLine first → All IsLine rows → All IsLine last
    → lines_of text ≡ onto_lines first (onto_lines rows (onto_lines last (unended [])))
cut_parts text first rows last e h k l =
    ap lines_of e ∙ lines-written (first ++ (rows ++ last)) (All-append IsLine first (rows ++ last) h (All-append IsLine rows last k l))
    ∙ onto_lines-append first (rows ++ last) (unended []) ∙ ap (onto_lines first) (onto_lines-append rows last (unended []))

pub state_taken : (text : List ℕ) (file : StateFileView) → IsStateText text file → state_of text ≡ Ok file
state_taken text file h =
    let n = h.numbers in
    let format : Format = record { int_bits = file.int_bits; frac_bits = file.frac_bits } in
    let range : Range = record { min = file.min; max = file.max } in
    let head : Head = head_of format range file.states in
    let first : IsFirst format range file.states n.min n.max = record {
      is_min = h.min;
      is_max = h.max;
      bits = h.lawful.int_bits;
      wide = h.lawful.wide;
      narrow = h.lawful.narrow;
      some = h.lawful.some;
      few = h.lawful.few;
    } in
    let last : AreLast file.states n.a n.b n.c n.d file.a file.b file.c file.d = record {
      is_a = h.a;
      is_b = h.b;
      is_c = h.c;
      is_d = h.d;
      rows = h.lawful.rows;
      square = h.lawful.square;
      inputs = h.lawful.inputs;
      outputs = h.lawful.outputs;
    } in
    let more = onto_lines (row_lines n.a) (onto_lines (last_lines n.b n.c n.d) (unended [])) in
    let cut = cut_parts text (first_lines format file.states n.min n.max) (row_lines n.a) (last_lines n.b n.c n.d) h.lines
    (first_plain format range file.states n.min n.max first) (rows_plain n.a file.a h.a) (last_plain file.states n.a n.b n.c n.d file.a file.b file.c file.d last) in
    let tail = last_taken head n.a n.b n.c n.d file.a file.b file.c file.d last (unended []) 5 in
    ap (λ t. head_in (left_at t 1) >>= λ head. file_in head.value head.left >>= whole_text) cut
    ∙ ap (λ (r : Result (Reading Head) StateRefusal). r >>= λ head. file_in head.value head.left >>= whole_text) (first_taken format range file.states n.min n.max more first)
    ∙ ap (λ (r : Result (Reading StateFileView) StateRefusal). r >>= whole_text) tail.1
