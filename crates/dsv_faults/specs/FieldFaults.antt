-- The first field of a file that is at fault, as `AreValuesOf` says what the values are where none
-- is.
use Rattle.std.specs.Prelude.{◌≡◌, ◌≢◌, ℕ, List, ◌∷◌, ◌++◌, Err}
use Rattle.std.specs.List.{Contains}
use Rattle.dsv_names.specs.declared.field.Field.TheVariants as field
use Rattle.dsv_names.specs.declared.setting.Setting.TheVariants as setting
use Rattle.dsv_token.specs.declared.refusal.FileRefusal.{FileRefusal}
use Rattle.dsv_token.specs.declared.refusal.FileRefusal.TheVariants as refusal
use Rattle.dsv_syntax.specs.declared.entry.Label.{Label}
use Rattle.dsv_syntax.specs.declared.entry.Label.TheVariants as label
use Rattle.dsv_syntax.specs.declared.entry.Entry.{Entry}
use Rattle.dsv_reader.specs.Limits.{greatest_clock, greatest_cost}
use Rattle.dsv_reader.specs.Numbers.{passed_over}
use Rattle.dsv_reader.specs.FieldValues.{list_in, whole_number_in, bounded_in, time_in, decimal_in}
use Rattle.dsv_reader.specs.FieldValues.{flag_in}
use Rattle.dsv_reader.specs.Values.{IsAbsent, AreValuesOf}
use Rattle.dsv_faults.specs.Types.{Values}

-- a refusal of the value of a field with this label, by the reader that `AreValuesOf` has for it
abbrev pub IsValueFault : Label → List ℕ → Entry → FileRefusal → Type 0
IsValueFault (label.Field field.B) bytes e r = list_in bytes e ≡ Err r
IsValueFault (label.Field field.A) bytes e r = list_in bytes e ≡ Err r
IsValueFault (label.Field field.BSize) bytes e r = whole_number_in bytes e ≡ Err r
IsValueFault (label.Field field.ASize) bytes e r = whole_number_in bytes e ≡ Err r
IsValueFault (label.Field field.SampleTime) bytes e r = time_in bytes e ≡ Err r
IsValueFault (label.Field field.IntBits) bytes e r = whole_number_in bytes e ≡ Err r
IsValueFault (label.Field field.FracBits) bytes e r = whole_number_in bytes e ≡ Err r
IsValueFault (label.Field field.Max) bytes e r = decimal_in bytes e ≡ Err r
IsValueFault (label.Field field.Min) bytes e r = decimal_in bytes e ≡ Err r
IsValueFault (label.Field field.Delta) bytes e r = decimal_in bytes e ≡ Err r
IsValueFault (label.Field field.Wide) bytes e r = flag_in bytes e ≡ Err r
IsValueFault (label.Setting setting.Clock) bytes e r =
    bounded_in 1 greatest_clock bytes e ≡ Err r
IsValueFault (label.Setting s) bytes e r = bounded_in 0 greatest_cost bytes e ≡ Err r
IsValueFault label.Passed bytes e r = passed_over bytes e.numbers ≡ Err r

-- the fault of a field, after those that stand before it
pub data IsEntryFault (bytes : List ℕ) (before : List Entry) (e : Entry)
    : FileRefusal → Type 0 where
  -- a field that isn't passed over stands a second time, and is refused at its dot
  twice : (f : Entry) → Contains before f → f.label ≡ e.label → e.label ≢ label.Passed
      → IsEntryFault bytes before e (refusal.FieldTwice e.dot)
  -- it stands here alone, or is passed over, and its value is at fault
  value : (r : FileRefusal) → (e.label ≢ label.Passed → IsAbsent e.label before)
      → IsValueFault e.label bytes e r → IsEntryFault bytes before e r

-- the first field at fault: all before it have values
pub record IsFieldFault (bytes : List ℕ) (es : List Entry) (r : FileRefusal) : Type 0 where
  pub before : List Entry
  pub entry : Entry
  pub after : List Entry
  pub whole : es ≡ before ++ entry ∷ after
  pub values : Values
  pub table : AreValuesOf bytes before values
  pub fault : IsEntryFault bytes before entry r
