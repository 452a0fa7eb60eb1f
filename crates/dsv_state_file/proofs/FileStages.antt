-- The lines of a file as stages: what follows each.
use Rattle.std.proofs.Common.{ℕ, List, codes}
use Rattle.std.specs.Prelude.{Result, Ok}
use Rattle.dsv_text.specs.Stages.{◌>>=◌}
use Rattle.dsv_fraction.specs.Ratio.{Ratio}
use Rattle.dsv_lines.specs.Readings.{Reading, reading_of}
use Rattle.dsv_lines.specs.Texts.{Line}
use Rattle.dsv_state_file.specs.Reading.{words_after, format_in, vector_in, range_in, states_in, entry_at, line_in}
use Rattle.dsv_state_file.specs.StateFiles.{StateFileView}
use Rattle.dsv_state_file.specs.declared.reader.Head.{Head}
use Rattle.dsv_state_file.specs.declared.reader.Range.{Range}
use Rattle.dsv_state_file.specs.declared.words.Format.{Format}
use Rattle.dsv_state_file.specs.declared.refusal.StateRefusal.{StateRefusal}

-- ---- the lines up to `states N`
abbrev pub head_of : Format → Range → ℕ → Head
head_of format range states = record { format = format; range = range; states = states }

abbrev pub after_states : Format → Range → Reading ℕ → Result (Reading Head) StateRefusal
after_states format range states = Ok (reading_of (head_of format range states.value) states.left)

abbrev pub after_range : Format → Reading Range → Result (Reading Head) StateRefusal
after_range format range = line_in states_in range.left >>= after_states format range.value

abbrev pub after_format : Reading Format → Result (Reading Head) StateRefusal
after_format format = line_in range_in format.left >>= after_range format.value

abbrev pub after_version : Reading ℕ → Result (Reading Head) StateRefusal
after_version version = line_in format_in version.left >>= after_format

-- ---- the lines after that
abbrev pub file_of : Head → List (List Ratio) → List Ratio → List Ratio → List Ratio → StateFileView
file_of head a b c d = record {
  states = head.states;
  a = a;
  b = b;
  c = c;
  d = entry_at d 0;
  int_bits = head.format.int_bits;
  frac_bits = head.format.frac_bits;
  min = head.range.min;
  max = head.range.max;
}

abbrev pub after_end : Head → List (List Ratio) → List Ratio → List Ratio → List Ratio → Reading Line → Result (Reading StateFileView) StateRefusal
after_end head a b c d end = Ok (reading_of (file_of head a b c d) end.left)

abbrev pub after_d : Head → List (List Ratio) → List Ratio → List Ratio → Reading (List Ratio) → Result (Reading StateFileView) StateRefusal
after_d head a b c d = line_in (words_after (codes "end") 0) d.left >>= after_end head a b c d.value

abbrev pub after_c : Head → List (List Ratio) → List Ratio → Reading (List Ratio) → Result (Reading StateFileView) StateRefusal
after_c head a b c = line_in (vector_in (codes "d") 1) c.left >>= after_d head a b c.value

abbrev pub after_b : Head → List (List Ratio) → Reading (List Ratio) → Result (Reading StateFileView) StateRefusal
after_b head a b = line_in (vector_in (codes "c") head.states) b.left >>= after_c head a b.value

abbrev pub after_rows : Head → Reading (List (List Ratio)) → Result (Reading StateFileView) StateRefusal
after_rows head a = line_in (vector_in (codes "b") head.states) a.left >>= after_b head a.value
