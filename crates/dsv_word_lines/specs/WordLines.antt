-- The lines that tell what a file becomes in words.
use Rattle.std.specs.Prelude.{Bool, false, not, ◌||◌, ℕ, ◌+◌, ℤ, List, [], ◌∷◌, ◌++◌}
use Rattle.std.specs.Prelude.{codes, decimal, if◌then◌else◌, Result, Ok, Err}
use Rattle.std.specs.Fmt.{signed_decimal}
use Rattle.std.specs.List.{concat, flat_map}
use Rattle.std.specs.Ordering.{int_eq}
use Rattle.dsv_algebra.specs.Floor.{floor_of}
use Rattle.dsv_fraction.specs.Ratio.{Ratio}
use Rattle.dsv_fraction.specs.declared.fraction.TooWide.{TooWide}
use Rattle.dsv_base.specs.Text.{line_of}
use Rattle.dsv_cascade.specs.Cascades.{CascadeView, sections_of}
use Rattle.dsv_names.specs.OverflowModes.{overflow_mode_name}
use Rattle.dsv_names.specs.Realisations.{is_delta}
use Rattle.dsv_names.specs.Roundings.{rounding_name}
use Rattle.dsv_quantiser.specs.QuantisedView.{QuantisedView}
use Rattle.dsv_reader.specs.Controllers.{ControllerView}
use Rattle.dsv_state_file.specs.StateFiles.{StateFileView}
use Rattle.dsv_state_space.specs.StateView.{StateView}
use Rattle.dsv_word.specs.Quotients.{ceiling_of, word_of}
use Rattle.dsv_word.specs.declared.format.Format.{Format}

-- ---- formats and ranges
-- what stands after a format whose accumulator is wide
abbrev pub wide_mark : Bool → List ℕ
wide_mark wide = if wide then codes " wide" else []

-- the bits before the point and after it, the modes, and whether the accumulator is wide
abbrev pub format_line : Format → Bool → List ℕ
format_line format wide = concat (codes "format " ∷ decimal format.int_bits
    ∷ codes " " ∷ decimal format.frac_bits
    ∷ codes " rounding " ∷ rounding_name format.rounding
    ∷ codes " overflow-mode " ∷ overflow_mode_name format.overflow
    ∷ wide_mark wide ∷ codes "\n" ∷ [])

-- the whole number that an end of a range becomes is this word
abbrev pub is_end : Result ℤ TooWide → ℤ → Bool
is_end (Ok whole) word = int_eq whole word
is_end (Err why) word = false

-- One end of the range was cut to the words of the format: lo isn't the least whole number that
-- isn't below min 2^frac_bits, or hi isn't the greatest that isn't above max 2^frac_bits. A part
-- that is too wide counts as cut.
abbrev pub is_cut : Format → Ratio → Ratio → ℤ → ℤ → Bool
is_cut format min max lo hi = not (is_end (word_of ceiling_of format.frac_bits min) lo)
    || not (is_end (word_of floor_of format.frac_bits max) hi)

-- what stands after a range of which an end was cut
abbrev pub cut_mark : Bool → List ℕ
cut_mark cut = if cut then codes " cut" else []

-- the least and the greatest input, and whether an end was cut
abbrev pub range_line : ℤ → ℤ → Bool → List ℕ
range_line lo hi cut = concat (codes "range " ∷ signed_decimal lo
    ∷ codes " " ∷ signed_decimal hi ∷ cut_mark cut ∷ codes "\n" ∷ [])

-- ---- coefficients
-- a name and words after it, up to the end of the line
abbrev pub words_line : List ℕ → List ℤ → List ℕ
words_line = line_of signed_decimal

-- delta's word, which a delta form has
abbrev pub delta_lines : QuantisedView → List ℕ
delta_lines q = if is_delta q.realisation then words_line (codes "delta") (q.delta ∷ []) else []

-- delta's word where there is one, the numerator and the denominator
abbrev pub coefficient_lines : QuantisedView → List ℕ
coefficient_lines q =
    delta_lines q ++ (words_line (codes "b") q.b ++ words_line (codes "a") q.a)

-- ---- controllers
-- the range of the inputs, which the controller's file says
abbrev pub input_line : ControllerView → QuantisedView → List ℕ
input_line c q = range_line q.xlo q.xhi (is_cut q.format c.min c.max q.xlo q.xhi)

-- the lines before the coefficients: the format and the range of the inputs
abbrev pub head_lines : ControllerView → QuantisedView → List ℕ
head_lines c q = format_line q.format q.wide ++ input_line c q

-- the format, the range of the inputs, and the coefficients
abbrev pub controller_lines : ControllerView → QuantisedView → List ℕ
controller_lines c q = head_lines c q ++ coefficient_lines q

-- ---- cascades
abbrev pub section_line : ℕ → List ℕ
section_line number = concat (codes "section " ∷ decimal number ∷ codes "\n" ∷ [])

-- the number of a section, and its coefficients
abbrev pub section_lines : ℕ → QuantisedView → List ℕ
section_lines number q = section_line number ++ coefficient_lines q

-- sections, of which the first has this number
abbrev pub lines_of_sections : ℕ → List QuantisedView → List ℕ
lines_of_sections number [] = []
lines_of_sections number (q ∷ qs) = section_lines number q ++ lines_of_sections (number + 1) qs

-- the format and the range of the inputs are those of the first section, whose file says the range
abbrev pub cascade_lines : ControllerView → CascadeView → List ℕ
cascade_lines c cascade = head_lines c cascade.first ++ lines_of_sections 0 (sections_of cascade)

-- ---- state-space controllers
-- the range of the inputs, which the file says
abbrev pub state_input_line : StateFileView → StateView → List ℕ
state_input_line file s = range_line s.xlo s.xhi (is_cut s.format file.min file.max s.xlo s.xhi)

-- the lines before the matrices: the format and the range of the inputs
abbrev pub state_head_lines : StateFileView → StateView → List ℕ
state_head_lines file s = format_line s.format false ++ state_input_line file s

-- the rows of A, by the name that the file gives them
abbrev pub row_lines : List (List ℤ) → List ℕ
row_lines rows = flat_map (words_line (codes "a")) rows

abbrev pub direct_line : StateView → List ℕ
direct_line s = words_line (codes "d") (s.d ∷ [])

-- b, c and d
abbrev pub lane_lines : StateView → List ℕ
lane_lines s =
    words_line (codes "b") s.b ++ (words_line (codes "c") s.c ++ direct_line s)

-- A row by row, b, c and d
abbrev pub matrix_lines : StateView → List ℕ
matrix_lines s = row_lines s.a ++ lane_lines s

-- the format, the range of the inputs, and A row by row, b, c and d
abbrev pub state_lines : StateFileView → StateView → List ℕ
state_lines file s = state_head_lines file s ++ matrix_lines s
