-- How a state file becomes words, and the first reason for which it can't.
use Rattle.std.specs.Prelude.{◌≡◌, ℕ, ◌+◌, List, [], ◌∷◌, Result, Ok, Err, ℤ, pos}
use Rattle.std.specs.Prelude.{slice_index_or}
use Rattle.dsv_text.specs.Stages.{◌>>=◌}
use Rattle.dsv_fraction.specs.Ratio.{Ratio}
use Rattle.dsv_word.specs.declared.format.Format.{Format}
use Rattle.dsv_names.specs.declared.overflow_mode.OverflowMode.{OverflowMode}
use Rattle.dsv_names.specs.declared.rounding.Rounding.{Rounding}
use Rattle.dsv_names.specs.declared.list_name.ListName.{ListName}
use Rattle.dsv_names.specs.declared.list_name.ListName.TheVariants as list
use Rattle.dsv_quantiser.specs.Quantising.{b_words, range_of}
use Rattle.dsv_quantiser.specs.declared.range.InputRange.{InputRange}
use Rattle.dsv_quantiser.specs.declared.refusal.QuantRefusal.{QuantRefusal}
use Rattle.dsv_quantiser.specs.declared.refusal.QuantRefusal.TheVariants as quantised
use Rattle.dsv_state_file.specs.StateFiles.{StateFileView}
use Rattle.dsv_state_space.specs.StateView.{StateView}
use Rattle.dsv_state_space.specs.declared.place.Place.{Place}
use Rattle.dsv_state_space.specs.declared.place.Place.TheVariants as place
use Rattle.dsv_state_space.specs.declared.refusal.StateQuantRefusal.{StateQuantRefusal}
use Rattle.dsv_state_space.specs.declared.refusal.StateQuantRefusal.TheVariants as refusal
use Rattle.dsv_state_space.specs.declared.lane.Entry.{Entry}
use Rattle.dsv_state_space.specs.declared.lane.Lane.{Lane}
use Rattle.dsv_state_space.specs.declared.lane.Lane.TheVariants as lane

-- ---- where the numbers of a lane stand
abbrev pub entry : Place → ℕ → ℕ → Entry
entry of row column = record { place = of; row = row; column = column }

-- which end of the range the list is
abbrev pub range_end : ListName → Place
range_end list.Min = place.Min
range_end name = place.Max

-- number i of a lane
abbrev pub entry_of : Lane → ListName → ℕ → Entry
entry_of (lane.Row row) name i = entry place.A row i
entry_of lane.Input name i = entry place.B i 0
entry_of lane.Output name i = entry place.C 0 i
entry_of lane.Direct name i = entry place.D 0 0
entry_of lane.Range name i = entry (range_end name) 0 0

abbrev pub out_of_range : Entry → ℤ → StateQuantRefusal
out_of_range at wanted = refusal.CoefficientRange at.place at.row at.column wanted

-- why a number of a lane has no word; delta's word is none of a lane's
abbrev pub state_refusal : Lane → QuantRefusal → StateQuantRefusal
state_refusal at (quantised.CoefficientRange name i wanted) =
    out_of_range (entry_of at name i) wanted
state_refusal at (quantised.FractionWide name i) = let e = entry_of at name i in
    refusal.FractionWide e.place e.row e.column
state_refusal at (quantised.RangeEmpty lo hi) = refusal.RangeEmpty lo hi
state_refusal at (quantised.DeltaNotPositive wanted) =
    out_of_range (entry_of at list.Delta 0) wanted

abbrev pub in_lane : {A : Type 0} → Lane → Result A QuantRefusal → Result A StateQuantRefusal
in_lane at (Ok made) = Ok made
in_lane at (Err why) = Err (state_refusal at why)

-- ---- words
-- the words of a lane's numbers, made as those of coefficients are
abbrev pub lane_words : Format → Lane → List Ratio → Result (List ℤ) StateQuantRefusal
lane_words format at numbers = in_lane at (b_words format numbers)

-- the words of these rows of A, of which the first is row i
abbrev pub rows_words : Format → ℕ → List (List Ratio)
    → Result (List (List ℤ)) StateQuantRefusal
rows_words format i [] = Ok []
rows_words format i (row ∷ rows) =
    lane_words format (lane.Row i) row >>= λ words.
    rows_words format (i + 1) rows >>= λ more.
    Ok (words ∷ more)

abbrev pub direct_word : Format → Ratio → Result ℤ StateQuantRefusal
direct_word format d = lane_words format lane.Direct (d ∷ [])
    >>= λ words. Ok (slice_index_or words 0 (pos 0))

abbrev pub inputs_of : Format → Ratio → Ratio → Result InputRange StateQuantRefusal
inputs_of format min max = in_lane lane.Range (range_of format min max)

-- ---- all of it: A row by row, b, c, d, and then the range
abbrev pub state_words_of : StateFileView → Format → Result StateView StateQuantRefusal
state_words_of file format =
    rows_words format 0 file.a >>= λ a.
    lane_words format lane.Input file.b >>= λ b.
    lane_words format lane.Output file.c >>= λ c.
    direct_word format file.d >>= λ d.
    inputs_of format file.min file.max >>= λ inputs.
    Ok (record {
      a = a;
      b = b;
      c = c;
      d = d;
      xlo = inputs.lo;
      xhi = inputs.hi;
      format = format;
    })

-- ---- formats
-- the file in words of its own widths, rounded and fitted in these modes
pub record BecomesStates (file : StateFileView) (rounding : Rounding) (overflow : OverflowMode)
    (outcome : Result StateView StateQuantRefusal) : Type 0 where
  pub format : Format
  pub int_bits : format.int_bits ≡ file.int_bits
  pub frac_bits : format.frac_bits ≡ file.frac_bits
  pub rounding_of : format.rounding ≡ rounding
  pub overflow_of : format.overflow ≡ overflow
  pub becomes : state_words_of file format ≡ outcome
