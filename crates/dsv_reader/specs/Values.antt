-- The table of fields: what the values of a file's fields are, apart from the order in which they
-- are read.
use Rattle.std.specs.Prelude.{◌≡◌, ◌≢◌, ◌⊎◌, ℕ, false, List, []}
use Rattle.std.specs.Prelude.{◌∷◌, Option, Some, None, Result, Ok}
use Rattle.dsv_token.specs.declared.refusal.FileRefusal.{FileRefusal}
use Rattle.dsv_names.specs.declared.field.Field.TheVariants as field
use Rattle.dsv_names.specs.declared.setting.Setting.TheVariants as setting
use Rattle.dsv_token.specs.declared.token.Token.{Token}
use Rattle.dsv_syntax.specs.declared.entry.Label.{Label}
use Rattle.dsv_syntax.specs.declared.entry.Label.TheVariants as label
use Rattle.dsv_syntax.specs.declared.entry.Entry.{Entry}
use Rattle.dsv_reader.specs.declared.fields.Values.{Values}
use Rattle.dsv_reader.specs.Limits.{greatest_clock, greatest_cost}
use Rattle.dsv_reader.specs.Numbers.{text_at, is_octal}
use Rattle.dsv_reader.specs.FieldValues.{list_in, whole_number_in, bounded_in, time_in, decimal_in}
use Rattle.dsv_reader.specs.FieldValues.{flag_in}

-- ---- which value a field has
-- no field here has the label
abbrev pub IsAbsent : Label → List Entry → Type 0
IsAbsent l [] = Unit {0}
IsAbsent l (e ∷ es) = (e.label ≢ l) × IsAbsent l es

-- this is the only field here that has the label
abbrev pub IsOnly : Label → Entry → List Entry → Type 0
IsOnly l e [] = ⊥
IsOnly l e (f ∷ fs) = ((f ≡ e) × (f.label ≡ l) × IsAbsent l fs) ⊎ ((f.label ≢ l) × IsOnly l e fs)

-- the value is what is read of the only field with the label, and there is none where no field has
-- the label
abbrev pub IsValueOf : {A : Type 0} → Label → (Entry → Result A FileRefusal) → List Entry → Option A
    → Type 0
IsValueOf l read es None = IsAbsent l es
IsValueOf l read es (Some x) = (e : Entry) × IsOnly l e es × (read e ≡ Ok x)

-- ---- fields that are passed over
-- no number here is octal
abbrev pub NoOctal : List ℕ → List Token → Type 0
NoOctal bytes [] = Unit {0}
NoOctal bytes (t ∷ ts) = (is_octal (text_at bytes t) ≡ false) × NoOctal bytes ts

-- nor is any number of a field that is passed over
abbrev pub PassedOver : List ℕ → List Entry → Type 0
PassedOver bytes [] = Unit {0}
PassedOver bytes (e ∷ es) = (e.label ≡ label.Passed → NoOctal bytes e.numbers) × PassedOver bytes es

-- ---- the table: each field stands at most once, and these are the values
pub record AreValuesOf (bytes : List ℕ) (es : List Entry) (v : Values) : Type 0 where
  pub b : IsValueOf (label.Field field.B) (list_in bytes) es v.system.b
  pub a : IsValueOf (label.Field field.A) (list_in bytes) es v.system.a
  pub b_size : IsValueOf (label.Field field.BSize) (whole_number_in bytes) es v.system.b_size
  pub a_size : IsValueOf (label.Field field.ASize) (whole_number_in bytes) es v.system.a_size
  pub sample_time : IsValueOf (label.Field field.SampleTime) (time_in bytes) es v.system.sample_time
  pub int_bits : IsValueOf (label.Field field.IntBits) (whole_number_in bytes) es
      v.implementation.int_bits
  pub frac_bits : IsValueOf (label.Field field.FracBits) (whole_number_in bytes) es
      v.implementation.frac_bits
  pub max : IsValueOf (label.Field field.Max) (decimal_in bytes) es v.implementation.max
  pub min : IsValueOf (label.Field field.Min) (decimal_in bytes) es v.implementation.min
  pub delta : IsValueOf (label.Field field.Delta) (decimal_in bytes) es v.implementation.delta
  pub wide : IsValueOf (label.Field field.Wide) (flag_in bytes) es v.implementation.wide
  pub clock : IsValueOf (label.Setting setting.Clock) (bounded_in 1 greatest_clock bytes) es
      v.hardware.clock
  pub cost_sample : IsValueOf (label.Setting setting.CostSample) (bounded_in 0 greatest_cost bytes)
      es v.hardware.sample
  pub cost_mul : IsValueOf (label.Setting setting.CostMul) (bounded_in 0 greatest_cost bytes) es
      v.hardware.mul
  pub cost_add : IsValueOf (label.Setting setting.CostAdd) (bounded_in 0 greatest_cost bytes) es
      v.hardware.add
  pub cost_round : IsValueOf (label.Setting setting.CostRound) (bounded_in 0 greatest_cost bytes) es
      v.hardware.round
  pub cost_fit : IsValueOf (label.Setting setting.CostFit) (bounded_in 0 greatest_cost bytes) es
      v.hardware.fit
  pub cost_moves : IsValueOf (label.Setting setting.CostMoves) (bounded_in 0 greatest_cost bytes) es
      v.hardware.moves
  pub passed : PassedOver bytes es
